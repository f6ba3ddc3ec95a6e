-- A goal that is put to sleep on an unbound variable, and one that is called in its place.
use Rattle.std.proofs.Common.{◌≡◌, ◌≢◌, ◌<◌, ℕ, suc, List, [], ◌∷◌, ◌++◌, length, true, Some, refl, sym, ap, ◌∙◌, subst, append-nil}
use Rattle.std.specs.List.{AllZip, AllByRecursion}
use Rattle.std.proofs.lemmas.List.Elements.{filter-append}
use Rattle.spec_numbers.specs.Texts.{Text}
use Rattle.spec_terms.specs.Term.{Var, Number, Name, Compound, named}
use Rattle.spec_syntax.specs.Trees.{Tree}
use Rattle.spec_branch.specs.Branch.{State, Branch, Frozen, Sleeper, no_work}
use Rattle.spec_branch.specs.Settling.{frozen_state, still_sleeps, state_of}
use Rattle.spec_search.specs.Constraints.{freeze_row}
use Rattle.spec_search.specs.Control.{call_of}
use Rattle.spec_search.specs.Replies.{Place, child, made, goes_on}
use Rattle.spec_search.specs.Replies as reply
use Rattle.spec_search.specs.Search.{look_at}
use Rattle.cq_term.specs.Texts.{text_of}
use Rattle.cq_attr.specs.Attributes.{Waiting, Attributes, suspended}
use Rattle.cq_attr.specs.declared.susp.Susp.TheVariants as susp
use Rattle.cq_attr.proofs.Elements.{contains_here}
use Rattle.cq_control.specs.Items.{items_at}
use Rattle.cq_frac.specs.declared.VarId.{VarId}
use Rattle.cq_settle.specs.Ready.{with_attributes}
use Rattle.cq_term.specs.Meaning.{HeapTerm, at}
use Rattle.cq_term.specs.Shown.{IsUnbound, view_of}
use Rattle.cq_term.specs.declared.view.View.TheVariants as view
use Rattle.cq_term.specs.Trees.{tree}
use Rattle.cq_settle.specs.Contents.{Contents}
use Rattle.cq_settle.specs.Standing.{Stands, IsConstraint, IsSleeper, is_constraint, is_goal, constraints, goals}
use Rattle.cq_settle.specs.Rest.{IsReadyAs}
use Rattle.spec_engine.specs.declared.machine.cell.Cell.{Cell}
use Rattle.spec_engine.specs.declared.machine.cell.Cell.TheVariants.{Call}
use Rattle.spec_engine.specs.Cells.{Stack}
use Rattle.spec_engine.specs.Standing.{IsContinuation}
use Rattle.spec_engine.proofs.Kept.{items_read_on}
use Rattle.spec_engine.proofs.Made.{child_kept}
use Rattle.cq_branch.specs.Lists.{HasCells}
use Rattle.cq_branch.specs.Worlds.{IsBranch, term_in, ReadsAs, Placed, Leads}
use Rattle.cq_branch.proofs.Added.{reads_tree}
use Rattle.cq_branch.proofs.Branches.{branches_rest}
use Rattle.cq_branch.proofs.Control.{built, goes_on_with}
use Rattle.cq_branch.proofs.Reading.{read_live}
use Rattle.cq_relations.specs.Goals.{AtBoth}

-- ---- one more sleeper

zip_push : (R : Waiting → Sleeper → Type 0) (xs : List Waiting) (ys : List Sleeper) (x : Waiting) (y : Sleeper) → AllZip R xs ys → R x y → AllZip R (xs ++ x ∷ []) (ys ++ y ∷ [])
zip_push R [] [] x y z r = (r, tt)
zip_push R [] (b ∷ ys) x y z r = absurd z
zip_push R (a ∷ xs) [] x y z r = absurd z
zip_push R (a ∷ xs) (b ∷ ys) x y z r = (z.0, zip_push R xs ys x y z.1 r)

recursion_push : (P : Sleeper → Type 0) (ys : List Sleeper) (y : Sleeper) → AllByRecursion P ys → P y → AllByRecursion P (ys ++ y ∷ [])
recursion_push P [] y a p = (p, tt)
recursion_push P (x ∷ ys) y a p = (a.0, recursion_push P ys y a.1 p)

-- the world with the goal asleep, and the state with a sleeper more
abbrev pub with_sleeper : Contents → VarId → ℕ → Contents
with_sleeper c v goal = with_attributes c (suspended c.attrs (v.0 ∷ []) (susp.Goal v goal))

module _ (texts : List Text) (c : Contents) (v : VarId) (goal : ℕ) (g : Tree) (st : State) (b : IsBranch texts c st) (i : IsUnbound c.heap.images v.0)
    (r : ReadsAs texts c st goal g) where
  abbrev after : State
  after = reply.suspended st (Frozen (Var v.0) g)

  abbrev sleeper : Sleeper
  sleeper = record { number = st.next_sleeper; asleep = Frozen (Var v.0) g }

  abbrev waiting : Waiting
  waiting = record { number = c.attrs.next; watched = v.0 ∷ []; susp = susp.Goal v goal }

  abbrev attributes : Attributes
  attributes = suspended c.attrs (v.0 ∷ []) (susp.Goal v goal)

  abbrev standing : Stands texts c st.bindings st.bindings st
  standing = b.ready.stands

  unbound : st.bindings v.0 ≡ Var v.0
  unbound = standing.bindings.inside v.0 i.0 ∙ ap (named (text_of texts)) i.1

  is_sleeper : IsSleeper texts c.heap st.bindings st.bindings waiting sleeper
  is_sleeper = record {
    variable = v;
    id = goal;
    susp = refl;
    variable_live = i.0;
    live = read_live texts c.heap.terms goal g r.0;
    reads = (sym (standing.bindings.inside v.0 i.0), reads_tree texts c st goal g r ∙ sym r.1);
    watched = λ x e. let same : v.0 ≡ x = (let both : Var v.0 ≡ Var x = sym unbound ∙ e in cc) in contains_here v.0 [] x same;
  }

  same_constraints : constraints attributes ≡ constraints c.attrs
  same_constraints = filter-append (λ (k : Waiting). is_constraint k.susp) c.attrs.waiting (waiting ∷ []) ∙ append-nil (constraints c.attrs)

  one_goal : goals attributes ≡ goals c.attrs ++ waiting ∷ []
  one_goal = filter-append (λ (k : Waiting). is_goal k.susp) c.attrs.waiting (waiting ∷ [])

  sleeps : still_sleeps (state_of st.bindings sleeper.asleep) ≡ true
  sleeps = ap (λ (t : Tree). still_sleeps (frozen_state t g)) unbound

  ready : IsReadyAs texts (with_sleeper c v goal) after
  ready = record {
    stands = record {
      bindings = standing.bindings;
      linear = standing.linear;
      delayed = subst (λ (ks : List Waiting). AllZip (IsConstraint texts c.heap st.bindings st.bindings) ks st.delayed) (sym same_constraints) standing.delayed;
      numeric = standing.numeric;
      sleepers = subst (λ (ks : List Waiting). AllZip (IsSleeper texts c.heap st.bindings st.bindings) ks (st.sleepers ++ sleeper ∷ [])) (sym one_goal)
          (zip_push (IsSleeper texts c.heap st.bindings st.bindings) (goals c.attrs) st.sleepers waiting sleeper standing.sleepers is_sleeper);
      fresh = standing.fresh;
      names = standing.names;
    };
    rests = record {
      read_through = record {
        through = b.ready.rests.read_through.through;
        older = b.ready.rests.read_through.older;
        below = b.ready.rests.read_through.below;
        beyond = b.ready.rests.read_through.beyond;
        numeric = b.ready.rests.read_through.numeric;
      };
      solvable = b.ready.rests.solvable;
      fixed = b.ready.rests.fixed;
      no_clash = b.ready.rests.no_clash;
      images = b.ready.rests.images;
      waiting = b.ready.rests.waiting;
      delayed = b.ready.rests.delayed;
      asleep = recursion_push (λ k. still_sleeps (state_of st.bindings k.asleep) ≡ true) st.sleepers sleeper b.ready.rests.asleep sleeps;
    };
  }

  pub branch_asleep : IsBranch texts (with_sleeper c v goal) after
  branch_asleep = record { ready = ready; fixed = b.fixed; fixes = b.fixes }

-- ---- rows

-- the term of a variable
pub variable_is : (t : HeapTerm) (v : VarId) → view_of t ≡ view.Var v → t ≡ Var v.0
variable_is (Var w) v e = let same : record { 0 = w } ≡ v = cc in ap (λ (x : VarId). Var x.0) same
variable_is (Number q) v e = cc
variable_is (Name a) v e = cc
variable_is (Compound f ts) v e = cc

-- what is no variable is no reason to sleep
called_instead : (texts : List Text) (t : HeapTerm) (p : Place) (g : Tree) → ((v : VarId) → view_of t ≢ view.Var v) → freeze_row p (named (text_of texts) t) g ≡ goes_on p (call_of g ∷ p.rest)
called_instead texts (Var w) p g other = absurd (other (record { 0 = w }) refl)
called_instead texts (Number q) p g other = refl
called_instead texts (Name a) p g other = refl
called_instead texts (Compound f ts) p g other = refl

module _ (texts : List Text) (c : Contents) (lists : List (List Cell)) (variable goal rest : ℕ) where
  pub goes_to_sleep : (v : VarId) → view_of (at c.heap.terms variable) ≡ view.Var v → IsUnbound c.heap.images v.0
      → AtBoth texts (c, lists) variable goal rest (λ choices p behind x g. Leads texts choices (with_sleeper c v goal, lists) (Some rest) p behind (freeze_row p x g))
  goes_to_sleep v e i = λ choices p behind x g place rx rg.
      let is : x ≡ Var v.0 = sym (reads_tree texts c p.state variable x rx) ∙ ap (named (text_of texts)) (variable_is (at c.heap.terms variable) v e) in
      let k = place.0.continuation in
      let later = reply.suspended p.state (Frozen (Var v.0) g) in
      let w = with_sleeper c v goal in
      let branch : IsBranch texts w later = branch_asleep texts c v goal g p.state k.state i rg in
      let there : IsContinuation (IsBranch texts) (term_in texts) choices (w, lists) rest p.rest later =
      record {
        there = k.there;
        fits = k.fits;
        state = branch;
        cells = items_read_on (IsBranch texts) (term_in texts) choices c p.state w later (λ id t q. q) (items_at lists rest) p.rest k.cells;
      } in
      subst (λ (t : Tree). Leads texts choices (w, lists) (Some rest) p behind (freeze_row p t g)) (sym is)
      (record {
        made = made p (child p.rest later no_work ∷ []);
        row = refl;
        database = refl;
        output = refl;
        comes = λ steps s d q. child_kept (IsBranch texts) (term_in texts) steps p.database s.selected choices (w, lists) rest s p.rest later no_work behind d refl (ap look_at q) refl
            p.rest later (branches_rest texts w later p.rest branch) there place.1;
      })

  pub is_called : (new : List (List Cell)) (k : ℕ) → HasCells new k (Call goal ∷ items_at lists rest) → ((v : VarId) → view_of (at c.heap.terms variable) ≢ view.Var v)
      → AtBoth texts (c, lists) variable goal rest (λ choices p behind x g. Leads texts choices (c, new) (Some k) p behind (freeze_row p x g))
  is_called new k cells other = λ choices p behind x g place rx rg.
      let row : freeze_row p x g ≡ goes_on p (call_of g ∷ p.rest) =
      ap (λ (t : Tree). freeze_row p t g) (sym (reads_tree texts c p.state variable x rx)) ∙ called_instead texts (at c.heap.terms variable) p g other in
      subst (Leads texts choices (c, new) (Some k) p behind) (sym row)
      (goes_on_with (IsBranch texts) (term_in texts) (branches_rest texts) choices (c, new) k p behind (call_of g ∷ p.rest)
      (built (IsBranch texts) (term_in texts) choices c new k (Call goal ∷ items_at lists rest) (call_of g ∷ p.rest) p.state cells.there cells.are place.0.continuation.fits
      place.0.continuation.state (g, 0, p.rest, refl, rg.0 ∙ ap (λ (t : Tree). Some t) (sym rg.1), place.0.continuation.cells))
      place.1)
