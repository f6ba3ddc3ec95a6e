-- Some of a call's clauses, without those whose head nothing makes equal to the goal.
use Rattle.std.proofs.Common.{◌≡◌, ◌<◌, ℕ, Option, None, List, [], ◌∷◌, length, map, refl, sym, ap, ◌∙◌, subst}
use Rattle.std.specs.Prelude.{All, slice_get, Some, IfOk, IfSome, IfNone}
use Rattle.std.specs.declared.result.Result.{Result}
use Rattle.std.specs.declared.result.Result.TheVariants.{Ok, Err}
use Rattle.std.proofs.lemmas.Option.{get_or_from_slice_get, none-some, same_Some}
use Rattle.spec_numbers.specs.Texts.{Text}
use Rattle.spec_terms.specs.Term.{named}
use Rattle.spec_syntax.specs.Trees.{Tree}
use Rattle.spec_search.specs.Database.{Clause}
use Rattle.spec_search.specs.Replies.{Place}
use Rattle.spec_search.specs.Steps.{IsSelection, end, takes, leaves_out}
use Rattle.cq_term.specs.Meaning.{HeapTerm, at, blank}
use Rattle.cq_term.specs.Names.{HasNamesBelow}
use Rattle.cq_term.specs.Texts.{AreDifferent, text_of}
use Rattle.cq_clauses.specs.declared.walk.Walk.{Walk}
use Rattle.cq_resolve.specs.Database.{IsCounted, Program, as_clause}
use Rattle.cq_resolve.specs.StoredValue.{ClauseValue}
use Rattle.cq_resolve.proofs.Selection.{none_with_texts}
use Rattle.cq_settle.specs.Contents.{Contents}
use Rattle.spec_engine.specs.Cells.{Value}
use Rattle.cq_branch.specs.declared.alternatives.Alternatives.{Alternatives}
use Rattle.cq_calls.specs.Calling.{WalkComes, numbers_left}
use Rattle.cq_calls.specs.Matching.{AreApart, IsApart, Narrows, all, without, keeping}

-- ---- one after another

pub narrows_both : {v : Program} {goal : HeapTerm} {ns some fewer : List ℕ} → Narrows v goal ns some → Narrows v goal some fewer → Narrows v goal ns fewer
narrows_both all b = b
narrows_both (without x a) b = without x (narrows_both a b)
narrows_both (keeping a) all = keeping a
narrows_both (keeping a) (without x b) = without x (narrows_both a b)
narrows_both (keeping a) (keeping b) = keeping (narrows_both a b)

-- a clause that is passed over
pub one_less : (v : Program) (goal : HeapTerm) (ns front behind : List ℕ) (n : ℕ) → Narrows v goal ns front → front ≡ n ∷ behind → IsApart v goal n → Narrows v goal ns behind
one_less v goal ns front behind n passed first x = narrows_both passed (subst (λ ms. Narrows v goal ms behind) (sym first) (without x all))

-- none is first
pub none_first : (ns : List ℕ) → None ≡ slice_get ns 0 → ns ≡ []
none_first [] e = refl
none_first (n ∷ ns) e = absurd (none-some n e)

-- a step leaves out the clause that was first
pub first_stepped : (r : Option ℕ) (front behind : List ℕ) (n : ℕ) → IfNone r (front ≡ []) → IfSome r (λ m. front ≡ m ∷ behind) → slice_get front 0 ≡ Some n → front ≡ n ∷ behind
first_stepped None front behind n none some first = absurd (none-some n (sym (ap (λ ms. slice_get ms 0) none) ∙ first))
first_stepped (Some m) front behind n none some first = some ∙ ap (λ k. k ∷ behind) (same_Some m n (sym (ap (λ ms. slice_get ms 0) some) ∙ first))

-- only the first is left
pub first_alone : (v : Program) (goal : HeapTerm) (front behind others : List ℕ) (n : ℕ) → front ≡ n ∷ behind → Narrows v goal behind others → others ≡ [] → Narrows v goal front (n ∷ [])
first_alone v goal front behind others n first passed none =
    subst (λ ms. Narrows v goal ms (n ∷ [])) (sym first) (keeping (subst (Narrows v goal behind) none passed))

-- a clause that was asked
pub asked_apart : (v : Program) (goal : HeapTerm) (n : ℕ) (kept : ClauseValue) → slice_get v.contents n ≡ Some kept → AreApart goal kept.head → n < length v.contents → IsApart v goal n
asked_apart v goal n kept got apart within = record {
  within = within;
  apart = subst (λ (c : ClauseValue). AreApart goal c.head) (sym (get_or_from_slice_get v.contents n kept (record { head = blank; body = blank; variables = 0 }) got)) apart;
}

-- what the clauses that are left of a walk come to, it comes to
pub come_of : (texts : List Text) (v : Program) (saved : List (Value Contents)) (choices : List Alternatives) (now : Value Contents) (id : ℕ) (walk front : Walk) (rest : ℕ)
    (more : List (Value Contents)) (after : List Alternatives) (later : Value Contents) (current : Option ℕ)
    → Narrows v (at now.0.heap.terms id) (numbers_left v walk) (numbers_left v front)
    → WalkComes texts v saved choices now id front rest more after later current → WalkComes texts v saved choices now id walk rest more after later current
come_of texts v saved choices now id walk front rest more after later current passed c = record { some = c.some; narrows = narrows_both passed c.narrows; comes = c.comes }

pub all_come_of : {E : Type 0} (texts : List Text) (v : Program) (saved : List (Value Contents)) (choices : List Alternatives) (now : Value Contents) (id : ℕ) (walk front : Walk) (rest : ℕ)
    (more : List (Value Contents)) (after : List Alternatives) (later : Value Contents) (r : Result (Option ℕ) E)
    → Narrows v (at now.0.heap.terms id) (numbers_left v walk) (numbers_left v front)
    → IfOk r (WalkComes texts v saved choices now id front rest more after later) → IfOk r (WalkComes texts v saved choices now id walk rest more after later)
all_come_of texts v saved choices now id walk front rest more after later (Ok current) passed c = come_of texts v saved choices now id walk front rest more after later current passed c
all_come_of texts v saved choices now id walk front rest more after later (Err e) passed c = tt

-- ---- as the definitions have it

selection_both : {p : Place} {goal : Tree} {cs some fewer : List Clause} → IsSelection p goal cs some → IsSelection p goal some fewer → IsSelection p goal cs fewer
selection_both end b = b
selection_both (takes a) (takes b) = takes (selection_both a b)
selection_both (takes a) (leaves_out x b) = leaves_out x (selection_both a b)
selection_both (leaves_out x a) b = leaves_out x (selection_both a b)

module _ (texts : List Text) (different : AreDifferent texts) (p : Place) (v : Program) (counted : All (IsCounted (length texts)) v.contents) (goal : HeapTerm)
    (known : HasNamesBelow (length texts) goal) where
  abbrev Selects : List ℕ → List ℕ → Type 0
  Selects ns some = IsSelection p (named (text_of texts) goal) (map (as_clause texts v.contents) ns) (map (as_clause texts v.contents) some)

  all_selected : (ns : List ℕ) → Selects ns ns
  all_selected [] = end
  all_selected (n ∷ ns) = takes (all_selected ns)

  selected : (ns some : List ℕ) → Narrows v goal ns some → Selects ns some
  selected ns some all = all_selected ns
  selected ns some (without {n = n} {ns = ms} x a) = leaves_out (none_with_texts texts different p goal known v.contents counted n x.within x.apart) (selected ms some a)
  selected ns some (keeping {ns = ms} {some = ls} a) = takes (selected ms ls a)

  -- those that are left of a selection are one
  pub selected_of : (ns some fewer : List ℕ) → Selects ns some → Narrows v goal some fewer → Selects ns fewer
  selected_of ns some fewer a b = selection_both a (selected some fewer b)
