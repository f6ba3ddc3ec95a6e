-- call(G), as what an engine does by it.
use Rattle.std.proofs.Common.{◌≡◌, ℕ, ◌<◌, List, [], ◌∷◌, length, Option, Some, Bool, true, refl, sym, ap, append-nil, ◌∙◌, subst, arith}
use Rattle.std.specs.Prelude.{if◌then◌else◌}
use Rattle.spec_terms.specs.Term.{Term, Terms, Var, Number, Name, Compound, one, more, list_of, terms_of, with_arguments}
use Rattle.spec_numbers.specs.Texts.{Text}
use Rattle.spec_syntax.specs.Trees.{Tree}
use Rattle.spec_builtins.specs.Bodies.{is_body}
use Rattle.spec_builtins.specs.Errors.{instantiation, type_error}
use Rattle.spec_builtins.specs.Kinds.{is_callable, is_variable}
use Rattle.spec_branch.specs.Branch as branch
use Rattle.spec_branch.specs.Branch.{State, Branch}
use Rattle.spec_search.specs.Control.{with_more, called, call_row}
use Rattle.spec_search.specs.Replies.{Place, Raises, goes_on}
use Rattle.cq_control.specs.Heights.{total}
use Rattle.cq_control.specs.Items.{items_at}
use Rattle.spec_engine.specs.declared.machine.cell.Cell.{Cell}
use Rattle.spec_engine.specs.declared.machine.cell.Cell.TheVariants.{Goal}
use Rattle.spec_engine.specs.Cells.{size, Stack, below}
use Rattle.spec_engine.specs.Standing.{IsPlace, AreWaiting}
use Rattle.spec_engine.specs.Coming.{Rest}
use Rattle.spec_engine.proofs.Kept.{last-all}
use Rattle.cq_built.specs.declared.errors.BuiltinFault.{BuiltinFault}
use Rattle.cq_term.specs.Trees.{tree}
use Rattle.cq_settle.specs.Contents.{Contents}
use Rattle.cq_branch.specs.Calls.{IsLawful, IsRaised}
use Rattle.cq_branch.specs.Lists.{HasCells}
use Rattle.cq_branch.specs.Selecting.{Reads, Becomes}
use Rattle.cq_branch.specs.Worlds.{IsBranch, term_in, ReadsAs, Placed, Leads}
use Rattle.cq_branch.proofs.Added.{reads_tree}
use Rattle.cq_branch.proofs.Branches.{branches_rest}
use Rattle.cq_branch.proofs.Control.{goes_on_with, built}

terms_of-list : {A : Type 0} (t : Term A) (us : Terms A) → terms_of t (list_of us) ≡ more t us
terms_of-list t (one u) = refl
terms_of-list t (more u us) = ap (λ ts. more t ts) (terms_of-list u us)

-- a callable term with no more arguments is itself
no_more : (g : Tree) → is_callable g ≡ true → with_more g [] ≡ g
no_more (Var v) e = cc
no_more (Number q) e = cc
no_more (Name f) e = refl
no_more (Compound f (one t)) e = refl
no_more (Compound f (more t ts)) e = ap (λ l. with_arguments f l) (append-nil (t ∷ list_of ts)) ∙ ap (λ us. Compound f us) (terms_of-list t ts)

called_is : (p : Place) (g h : Tree) → h ≡ g → is_body g ≡ true → called p h ≡ goes_on p (branch.Goal g p.height ∷ p.rest)
called_is p g h e b = ap (called p) e ∙ ap (λ (x : Bool). if x then goes_on p (branch.Goal g p.height ∷ p.rest) else Raises (type_error "callable" g)) b

call_is : (p : Place) (g : Tree) → is_callable g ≡ true → is_body g ≡ true → call_row p g [] ≡ goes_on p (branch.Goal g p.height ∷ p.rest)
call_is p (Var v) e b = cc
call_is p (Number q) e b = cc
call_is p (Name f) e b = called_is p (Name f) (with_more (Name f) []) (no_more (Name f) e) b
call_is p (Compound f ts) e b = called_is p (Compound f ts) (with_more (Compound f ts) []) (no_more (Compound f ts) e) b

-- ---- errors

pub unbound_raises : (p : Place) (g : Tree) → is_variable g ≡ true → call_row p g [] ≡ Raises instantiation
unbound_raises p (Var v) e = refl
unbound_raises p (Number q) e = cc
unbound_raises p (Name f) e = cc
unbound_raises p (Compound f ts) e = cc

-- ---- its child

module _ {W : Type 0} (IsState : W → State → Type 0) (term : W → ℕ → Option Tree) (rests : Rest IsState) where
  -- call of a callable term becomes the term, over all choices
  pub call_becomes : (choices : Stack W) (w : W) (old lists : List (List Cell)) (rest : ℕ) (p : Place) (behind : List Branch)
      → IsPlace IsState term choices (w, old) rest p → AreWaiting IsState term choices behind
      → (k t : ℕ) (g : Tree) → Reads IsState term w p.state t g → is_callable g ≡ true → is_body g ≡ true → k < length lists
      → items_at lists k ≡ Goal t (length choices) ∷ items_at old rest
      → Becomes IsState term choices (w, lists) (Some k) p behind (call_row p g [])
  call_becomes choices w old lists rest p behind place wait k t g r callable body there e =
      let all : below choices (length choices) ≡ p.height = ap (total size) (last-all choices (length choices) (omega arith)) ∙ sym place.height in
      subst (Becomes IsState term choices (w, lists) (Some k) p behind) (sym (call_is p g callable body))
      (subst (λ h. Becomes IsState term choices (w, lists) (Some k) p behind (goes_on p (branch.Goal g h ∷ p.rest))) all
      (goes_on_with IsState term rests choices (w, lists) k p behind (branch.Goal g (below choices (length choices)) ∷ p.rest)
      (built IsState term choices w lists k _ _ p.state there e (omega arith, place.continuation.fits) place.continuation.state
      (g, p.rest, refl, r.0 ∙ ap (λ (x : Tree). Some x) (sym r.1), place.continuation.cells))
      wait))

-- ---- in a world

pub call_done : (texts : List Text) (w : Contents) (old new : List (List Cell)) (rest : ℕ) (p : Place) (behind : List Branch) (choices : Stack Contents)
    → Placed texts choices (w, old) rest p behind → (k top t : ℕ) (g : Tree) → top ≡ length choices → IsLawful (tree texts w.heap.terms t) → ReadsAs texts w p.state t g
    → HasCells new k (Goal t top ∷ items_at old rest) → Leads texts choices (w, new) (Some k) p behind (call_row p g [])
call_done texts w old new rest p behind choices s k top t g e l r h =
    let same = reads_tree texts w p.state t g r in
    call_becomes (IsBranch texts) (term_in texts) (branches_rest texts) choices w old new rest p behind s.0 s.1 k t g r
    (subst (λ (x : Tree). is_callable x ≡ true) same l.callable) (subst (λ (x : Tree). is_body x ≡ true) same l.body) h.there
    (h.are ∙ ap (λ n. Goal t n ∷ items_at old rest) e)

pub raised_as : (texts : List Text) (w : Contents) (p : Place) (t : ℕ) (g : Tree) (f : BuiltinFault) → ReadsAs texts w p.state t g
    → IsRaised texts w.heap.terms f (call_row p (tree texts w.heap.terms t) []) → IsRaised texts w.heap.terms f (call_row p g [])
raised_as texts w p t g f r i = subst (λ (x : Tree). IsRaised texts w.heap.terms f (call_row p x [])) (reads_tree texts w p.state t g r) i
