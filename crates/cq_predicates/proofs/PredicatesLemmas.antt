-- Predicates that are found in a list by their names.
use Rattle.std.proofs.Common.{◌≡◌, ℕ, List, [], ◌∷◌, Bool, true, false, cond, not, ◌||◌, ◌==◌, Option, Some, None, find, refl, sym, ap, ◌∙◌, ◌⊎◌, inl, inr}
use Rattle.std.specs.Prelude.{bytes_eq, is_some, is_none}
use Rattle.std.specs.List.{AllByRecursion, list_all}
use Rattle.std.specs.Option.{option_map}
use Rattle.std.specs.Cmp.Lexicographic.{bytes_decides}
use Rattle.spec_numbers.specs.Texts.{Text}
use Rattle.spec_numbers.proofs.Tests.{nat_eq-self, one_is}
use Rattle.spec_builtins.specs.Built.{indicator}
use Rattle.spec_search.specs.Builtins.{Row, built}
use Rattle.spec_search.specs.Predicates as definition
use Rattle.spec_search.specs.Predicates.{predicate_of, predicate_named, arity}
use Rattle.spec_search.proofs.Named.{IsRow, row_in, same_arity, same_name, named_arity}
use Rattle.cq_predicates.specs.Found.{IsFirst}
use Rattle.cq_predicates.specs.Names.{as_predicate}
use Rattle.cq_predicates.specs.declared.predicates.Predicate.{Predicate}

-- where it is none that there is, there is none
none_from : {A : Type 0} (o : Option A) → ((x : A) → o ≡ Some x → ⊥) → None ≡ o
none_from None h = refl
none_from (Some x) h = absurd (h x refl)

module _ (E : Type 0) (text : E → Text) (value : E → Predicate) (n : ℕ) where
  abbrev test : Text → E → Bool
  test name e = bytes_eq (text e) name

  abbrev pub IsRight : E → Type 0
  IsRight e = predicate_named (indicator (text e) n) ≡ Some (as_predicate (value e))

  found_some : (name : Text) (es : List E) → AllByRecursion IsRight es → (e : E) → find (test name) es ≡ Some e
      → predicate_named (indicator name n) ≡ Some (as_predicate (value e))
  found_some name [] all e h = cc
  found_some name (x ∷ es) all e h = go (test name x) refl h (found_some name es all.1 e)
    where
      go : (b : Bool) → test name x ≡ b → cond b (Some x) (find (test name) es) ≡ Some e
          → (find (test name) es ≡ Some e → predicate_named (indicator name n) ≡ Some (as_predicate (value e)))
          → predicate_named (indicator name n) ≡ Some (as_predicate (value e))
      go true k h next =
          let same : x ≡ e = cc in
          let named : text x ≡ name = (bytes_decides (text x) name).0 k in
          ap (λ t. predicate_named (indicator t n)) (sym named) ∙ all.0 ∙ ap (λ y. Some (as_predicate (value y))) same
      go false k h next = next h

  -- a row of the table has another number of arguments, or is that of no predicate on terms or texts, or has its name here
  abbrev pub covered : List E → Row → Bool
  covered es r = is_none (predicate_of r.builtin) || (not (r.indicator.arity == n) || is_some (find (test r.indicator.name) es))

  never : (A : Type 0) (o : Option E) → o ≡ None → is_some o ≡ true → A
  never A None e h = cc
  never A (Some x) e h = cc

  found_none : (name : Text) (es : List E) → list_all (covered es) built ≡ true → find (test name) es ≡ None
      → (q : definition.Predicate) → predicate_named (indicator name n) ≡ Some q → ⊥
  found_none name es all none q h = by row_there.1 (one_is (is_none (predicate_of r.builtin)) _ row_there.1.passes)
    where
      row_there : (r : Row) × IsRow (covered es) (indicator name n) q r
      row_there = row_in (covered es) (indicator name n) q built all h

      r : Row
      r = row_there.0

      other : not (r.indicator.arity == n) ≡ true → r.indicator.arity ≡ n → ⊥
      other e same =
          let k : (r.indicator.arity == n) ≡ true = ap (λ m. r.indicator.arity == m) (sym same) ∙ nat_eq-self r.indicator.arity in
          let clash : not true ≡ true = ap not (sym k) ∙ e in
          cc

      here : IsRow (covered es) (indicator name n) q r
          → (not (r.indicator.arity == n) ≡ true) ⊎ (is_some (find (test r.indicator.name) es) ≡ true) → ⊥
      here row (inl e) = other e (same_arity r.indicator (indicator name n) row.named)
      here row (inr e) =
          never ⊥ (find (test r.indicator.name) es)
          (ap (λ t. find (test t) es) (same_name r.indicator (indicator name n) row.named) ∙ none) e

      by : IsRow (covered es) (indicator name n) q r
          → (is_none (predicate_of r.builtin) ≡ true) ⊎ ((not (r.indicator.arity == n) || is_some (find (test r.indicator.name) es)) ≡ true)
          → ⊥
      by row (inl e) = (let clash : is_none (Some q) ≡ true = ap is_none (sym row.predicate) ∙ e in cc)
      by row (inr e) = here row (one_is (not (r.indicator.arity == n)) _ e)

  found_there : (name : Text) (es : List E) → AllByRecursion IsRight es → list_all (covered es) built ≡ true
      → option_map as_predicate (option_map value (find (test name) es)) ≡ predicate_named (indicator name n)
  found_there name es all cover = by (find (test name) es) refl
    where
      by : (o : Option E) → find (test name) es ≡ o → option_map as_predicate (option_map value o) ≡ predicate_named (indicator name n)
      by None e = none_from (predicate_named (indicator name n)) (found_none name es cover e)
      by (Some x) e = sym (found_some name es all x e)

  -- what is found in the list is what the table has
  pub found : (name : Text) (r : Option Predicate) (es : List E) → IsFirst (test name) value es r
      → AllByRecursion IsRight es → list_all (covered es) built ≡ true → option_map as_predicate r ≡ predicate_named (indicator name n)
  found name r es first all cover = ap (option_map as_predicate) first.found ∙ found_there name es all cover

-- with another number of arguments there is none
pub none_other : (name : Text) (n : ℕ) → (n ≡ 1 → ⊥) → (n ≡ 2 → ⊥) → (n ≡ 3 → ⊥) → (n ≡ 5 → ⊥) → None ≡ predicate_named (indicator name n)
none_other name n a b c d = none_from (predicate_named (indicator name n)) (λ q h. by q (named_arity (indicator name n) q h))
  where
    by : (q : definition.Predicate) → n ≡ arity q → ⊥
    by (definition.Test k) e = a e
    by definition.Functor e = c e
    by definition.Arg e = c e
    by definition.AtomConcat e = c e
    by definition.SubAtom e = d e
    by (definition.Order k) e = b e
    by (definition.AtomList k) e = b e
    by definition.Univ e = b e
    by definition.CopyTerm e = b e
    by definition.AtomLength e = b e
    by definition.CharCode e = b e
    by definition.NumberCodes e = b e
