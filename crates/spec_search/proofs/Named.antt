-- What is found by its name and number of arguments.
use Rattle.std.proofs.Common.{◌≡◌, ℕ, List, [], ◌∷◌, Bool, true, false, cond, ◌==◌, Option, Some, None, find, refl, sym, ap, ◌∙◌}
use Rattle.std.specs.Prelude.{bytes_eq, Contains, option_and_then}
use Rattle.std.specs.List.{AllByRecursion, list_all}
use Rattle.std.specs.Option.{option_map, option_map_or}
use Rattle.std.specs.Cmp.Lexicographic.{bytes_decides}
use Rattle.std.proofs.lemmas.List.Elements.{All-from_recursion, All-contains}
use Rattle.spec_numbers.proofs.Tests.{nat_eq-same, both_are}
use Rattle.spec_builtins.specs.Built.{Indicator, same_indicator}
use Rattle.spec_search.specs.Builtins.{Row, built, builtin_of}
use Rattle.spec_search.specs.Predicates.{Predicate, predicate_of, predicate_named, arity}

abbrev IsFound : Row → Type 0
IsFound r = builtin_of r.indicator ≡ Some r.builtin

all_found : AllByRecursion IsFound built
all_found =
    (refl, (refl, (refl, (refl, (refl, (refl, (refl, (refl, (refl, (refl, (refl, (refl, (refl, (refl, (refl, (refl, (refl, (refl, (refl, (refl, (refl, (refl, (refl, (refl, (refl, (refl, (refl, (refl, (refl, (refl, (refl, (refl, (refl, (refl, (refl, (refl, (refl, (refl, (refl, (refl, (refl, (refl, (refl, (refl, (refl, (refl, (refl, (refl, (refl, (refl, (refl, (refl, (refl, (refl, (refl, (refl, (refl, (refl, (refl, (refl, (refl, (refl, (refl, (refl, (refl, (refl, (refl, (refl, (refl, (refl, (refl, (refl, (refl, (refl, tt))))))))))))))))))))))))))))))))))))))))))))))))))))))))))))))))))))))))))

pub once : (r : Row) → Contains built r → builtin_of r.indicator ≡ Some r.builtin
once r h = All-contains IsFound built r (All-from_recursion IsFound built all_found) h

-- ---- rows

-- what is found is this predicate
abbrev Gives : Predicate → Option Row → Type 0
Gives q o = option_and_then predicate_of (option_map (λ (r : Row). r.builtin) o) ≡ Some q

-- a row of this predicate and indicator, of which a test holds
pub record IsRow (test : Row → Bool) (i : Indicator) (q : Predicate) (r : Row) : Type 0 where
  pub passes : test r ≡ true
  pub predicate : predicate_of r.builtin ≡ Some q
  pub named : same_indicator r.indicator i ≡ true

-- where a test holds of each row, it holds of the one that is found
pub row_in : (test : Row → Bool) (i : Indicator) (q : Predicate) (rs : List Row) → list_all test rs ≡ true
    → Gives q (find (λ (r : Row). same_indicator r.indicator i) rs) → (r : Row) × IsRow test i q r
row_in test i q [] a e = cc
row_in test i q (r ∷ rs) a e = go (same_indicator r.indicator i) refl e (row_in test i q rs all.1)
  where
    all : (test r ≡ true) × (list_all test rs ≡ true)
    all = both_are (test r) (list_all test rs) a

    go : (b : Bool) → same_indicator r.indicator i ≡ b → Gives q (cond b (Some r) (find (λ (r : Row). same_indicator r.indicator i) rs))
        → (Gives q (find (λ (r : Row). same_indicator r.indicator i) rs) → (r : Row) × IsRow test i q r) → (r : Row) × IsRow test i q r
    go true h e next = (r, record { passes = all.0; predicate = e; named = h })
    go false h e next = next e

-- ---- how many arguments

pub same_arity : (i j : Indicator) → same_indicator i j ≡ true → i.arity ≡ j.arity
same_arity i j e = nat_eq-same i.arity j.arity (both_are (bytes_eq i.name j.name) (i.arity == j.arity) e).1

pub same_name : (i j : Indicator) → same_indicator i j ≡ true → i.name ≡ j.name
same_name i j e = (bytes_decides i.name j.name).0 (both_are (bytes_eq i.name j.name) (i.arity == j.arity) e).0

-- the row has as many arguments as its predicate on terms or texts, if it is one
abbrev agrees : Row → Bool
agrees r = option_map_or (λ q. arity q == r.indicator.arity) (predicate_of r.builtin) true

all_agree : list_all agrees built ≡ true
all_agree = refl

agreed : (n : ℕ) (q : Predicate) (o : Option Predicate) → option_map_or (λ p. arity p == n) o true ≡ true → o ≡ Some q → arity q ≡ n
agreed n q None h e = cc
agreed n q (Some p) h e = (let same : p ≡ q = cc in ap arity (sym same) ∙ nat_eq-same (arity p) n h)

pub named_arity : (i : Indicator) (q : Predicate) → predicate_named i ≡ Some q → i.arity ≡ arity q
named_arity i q e =
    let found = row_in agrees i q built all_agree e in
    sym (same_arity found.0.indicator i found.1.named) ∙ sym (agreed found.0.indicator.arity q (predicate_of found.0.builtin) found.1.passes found.1.predicate)
