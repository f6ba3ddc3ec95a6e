-- Built-in predicates that are found in a list by their names.
use Rattle.std.proofs.Common.{◌≡◌, ℕ, ◌-◌, ◌≤◌, arith, List, [], ◌∷◌, Bool, true, false, cond, not, ◌||◌, ◌==◌, Bor, Option, Some, None, find, refl, sym, ap, subst, ◌∙◌, ◌⊎◌, inl, inr}
use Rattle.std.specs.Prelude.{is_some}
use Rattle.std.specs.List.{AllByRecursion, list_all}
use Rattle.std.specs.Option.{option_map}
use Rattle.std.specs.Cmp.Lexicographic.{bytes_decides}
use Rattle.std.proofs.lemmas.List.Elements.{All-from_recursion, recursion_from_All}
use Rattle.spec_numbers.specs.Texts.{Text}
use Rattle.spec_numbers.proofs.Tests.{nat_eq-self, nat_eq-same, one_is, both_are}
use Rattle.spec_builtins.specs.Built.{Indicator, indicator, same_indicator}
use Rattle.spec_search.specs.Builtins as definition
use Rattle.spec_search.specs.Builtins.{Row, built, builtin_of, is_built_in}
use Rattle.cq_predicates.specs.TableNames.{as_builtin}
use Rattle.spec_search.proofs.Named.{same_arity, same_name}
use Rattle.cq_predicates.specs.TableFound.{IsFirst}
use Rattle.cq_predicates.specs.TableRows.{AreRows, is_named}
use Rattle.cq_predicates.specs.declared.table.builtins.Builtin.{Builtin}

abbrev is_of : Indicator → Row → Bool
is_of i r = same_indicator r.indicator i

abbrev Named : Type 0
Named = Bor Text × Builtin

pub never : {E : Type 0} (o : Option E) → o ≡ None → is_some o ≡ true → ⊥
never None e h = cc
never (Some x) e h = cc

-- what holds of each element holds of the one that is found, as the test does
pub found_passes : {E : Type 0} (P : E → Type 0) (test : E → Bool) (es : List E) → AllByRecursion P es → (e : E) → find test es ≡ Some e → P e × (test e ≡ true)
found_passes P test [] all e h = cc
found_passes {E} P test (x ∷ es) all e h = go (test x) refl h (found_passes P test es all.1 e)
  where
    go : (b : Bool) → test x ≡ b → cond b (Some x) (find test es) ≡ Some e → (find test es ≡ Some e → P e × (test e ≡ true)) → P e × (test e ≡ true)
    go true k h next = let same : x ≡ e = cc in (subst P same all.0, ap test (sym same) ∙ k)
    go false k h next = next h

module _ (n : ℕ) where
  -- a row of the table has another number of arguments, or has its name here
  abbrev pub covered : List Named → Row → Bool
  covered es r = not (r.indicator.arity == n) || is_some (find (is_named r.indicator.name) es)

  -- a row that is covered, where its name isn't here, is of another indicator
  uncovered : (name : Text) (es : List Named) → find (is_named name) es ≡ None → (r : Row) → covered es r ≡ true → same_indicator r.indicator (indicator name n) ≡ true → ⊥
  uncovered name es none r c same = by (one_is (not (r.indicator.arity == n)) _ c)
    where
      by : (not (r.indicator.arity == n) ≡ true) ⊎ (is_some (find (is_named r.indicator.name) es) ≡ true) → ⊥
      by (inl e) =
          let k : (r.indicator.arity == n) ≡ true = ap (λ m. r.indicator.arity == m) (sym (same_arity r.indicator (indicator name n) same)) ∙ nat_eq-self r.indicator.arity in
          let clash : not true ≡ true = ap not (sym k) ∙ e in
          cc
      by (inr e) =
          never (find (is_named r.indicator.name) es)
          (ap (λ t. find (is_named t) es) (same_name r.indicator (indicator name n) same) ∙ none) e

  found_none : (name : Text) (es : List Named) → find (is_named name) es ≡ None → (rows : List Row) → list_all (covered es) rows ≡ true
      → find (is_of (indicator name n)) rows ≡ None
  found_none name es none [] all = refl
  found_none name es none (r ∷ rows) all = go (is_of (indicator name n) r) refl (found_none name es none rows each.1)
    where
      each : (covered es r ≡ true) × (list_all (covered es) rows ≡ true)
      each = both_are (covered es r) (list_all (covered es) rows) all

      go : (b : Bool) → is_of (indicator name n) r ≡ b → find (is_of (indicator name n)) rows ≡ None → cond b (Some r) (find (is_of (indicator name n)) rows) ≡ None
      go true k behind = absurd (uncovered name es none r each.0 k)
      go false k behind = behind

  -- rows that are right, and among which each of the table is
  pub are_rows : (es : List Named) → AllByRecursion (λ (row : Named). builtin_of (indicator row.0.now n) ≡ Some (as_builtin row.1)) es → list_all (covered es) built ≡ true → AreRows n es
  are_rows es right cover = record { right = All-from_recursion (λ (row : Named). builtin_of (indicator row.0.now n) ≡ Some (as_builtin row.1)) es right; all = all }
    where
      all : (name : Text) → is_built_in (indicator name n) ≡ true → is_some (find (is_named name) es) ≡ true
      all name h = by (find (is_named name) es) refl
        where
          by : (o : Option Named) → find (is_named name) es ≡ o → is_some o ≡ true
          by None e = absurd (never (builtin_of (indicator name n)) (ap (option_map (λ (r : Row). r.builtin)) (found_none name es e built cover)) h)
          by (Some x) e = refl

  -- what is found among the rows is what the table has
  pub found : (name : Text) (r : Option Builtin) (es : List Named) → AreRows n es → IsFirst (is_named name) (λ (row : Named). row.1) es r
      → option_map as_builtin r ≡ builtin_of (indicator name n)
  found name r es rows first = ap (option_map as_builtin) first.found ∙ by (find (is_named name) es) refl
    where
      none : (o : Option definition.Builtin) → builtin_of (indicator name n) ≡ o → find (is_named name) es ≡ None → None ≡ o
      none None e h = refl
      none (Some b) e h = absurd (never (find (is_named name) es) h (rows.all name (ap is_some e)))

      by : (o : Option Named) → find (is_named name) es ≡ o → option_map as_builtin (option_map (λ (row : Named). row.1) o) ≡ builtin_of (indicator name n)
      by None e = none (builtin_of (indicator name n)) refl e
      by (Some x) e =
          let f = found_passes (λ (row : Named). builtin_of (indicator row.0.now n) ≡ Some (as_builtin row.1)) (is_named name) es
          (recursion_from_All (λ (row : Named). builtin_of (indicator row.0.now n) ≡ Some (as_builtin row.1)) es rows.right) x e in
          sym (ap (λ t. builtin_of (indicator t n)) (sym ((bytes_decides x.0.now name).0 f.1)) ∙ f.0)

-- ---- numbers of arguments

-- the row has at most eight arguments
abbrev small : Row → Bool
small r = (r.indicator.arity - 8) == 0

all_small : list_all small built ≡ true
all_small = refl

none_past : (name : Text) (n : ℕ) → 9 ≤ n → (rows : List Row) → list_all small rows ≡ true → find (is_of (indicator name n)) rows ≡ None
none_past name n past [] all = refl
none_past name n past (r ∷ rows) all = go (is_of (indicator name n) r) refl (none_past name n past rows each.1)
  where
    each : (small r ≡ true) × (list_all small rows ≡ true)
    each = both_are (small r) (list_all small rows) all

    few : r.indicator.arity - 8 ≡ 0
    few = nat_eq-same (r.indicator.arity - 8) 0 each.0

    go : (b : Bool) → is_of (indicator name n) r ≡ b → find (is_of (indicator name n)) rows ≡ None → cond b (Some r) (find (is_of (indicator name n)) rows) ≡ None
    go true k behind = (let same : r.indicator.arity ≡ n = same_arity r.indicator (indicator name n) k in absurd (omega (arith, few, same, past)))
    go false k behind = behind

-- with more arguments there is none
pub none_other : (name : Text) (n : ℕ) → 9 ≤ n → is_built_in (indicator name n) ≡ true → ⊥
none_other name n past h = never (builtin_of (indicator name n)) (ap (option_map (λ (r : Row). r.builtin)) (none_past name n past built all_small)) h
