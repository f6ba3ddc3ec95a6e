-- How many arguments a goal of a built-in predicate has.
use Rattle.std.proofs.Common.{◌≡◌, ◌<◌, ℕ, zero, suc, List, [], ◌∷◌, length, drop, Bool, true, false, cond, not, ◌==◌, Some, find, refl, sym, ap, ◌∙◌, subst, arith}
use Rattle.std.specs.List.{list_all}
use Rattle.std.specs.Option.{option_map}
use Rattle.std.proofs.lemmas.List.{length-map}
use Rattle.spec_numbers.proofs.Tests.{nat_eq-same, both_are}
use Rattle.spec_numbers.specs.Texts.{Text}
use Rattle.spec_terms.specs.Term.{Var, Number, Name, Compound, named}
use Rattle.spec_syntax.specs.Trees.{Tree}
use Rattle.spec_builtins.specs.Built.{Indicator, indicator_of, same_indicator}
use Rattle.spec_builtins.specs.Terms as builtins
use Rattle.spec_search.proofs.Named.{same_arity}
use Rattle.spec_search.specs.Builtins as builtin
use Rattle.spec_search.specs.Builtins.{Builtin, Row, built, builtin_of}
use Rattle.cq_builtin.proofs.Shown.{arguments-named}
use Rattle.cq_built.proofs.Heads.{count-named}
use Rattle.cq_term.proofs.Arguments.{length-list_of}
use Rattle.cq_term.specs.Meaning.{HeapTerm}
use Rattle.cq_term.specs.Shown.{arguments}

-- a row of a built-in predicate may have so many arguments
abbrev takes : Builtin → ℕ → Bool
takes builtin.And n = n == 2
takes builtin.Or n = n == 2
takes builtin.IfThen n = n == 2
takes builtin.Not n = n == 1
takes builtin.Call n = not (n == 0)
takes builtin.Once n = n == 1
takes builtin.Catch n = n == 3
takes builtin.Throw n = n == 1
takes builtin.Findall n = n == 3
takes builtin.Unify n = n == 2
takes builtin.NotUnify n = n == 2
takes builtin.Is n = n == 2
takes (builtin.Compare c) n = n == 2
takes (builtin.Assert e) n = n == 1
takes builtin.Retract n = n == 1
takes builtin.ClauseGoal n = n == 2
takes builtin.DynamicGoal n = n == 1
takes builtin.Discontiguous n = n == 1
takes builtin.Initialization n = n == 1
takes builtin.UseModule n = n == 1
takes builtin.Op n = n == 3
takes (builtin.Write s) n = n == 1
takes builtin.Curly n = n == 1
takes builtin.Freeze n = n == 2
takes builtin.Entailed n = n == 1
takes (builtin.Extent s) n = n == 2
takes (builtin.Optimum s) n = n == 1
takes b n = true

abbrev row_takes : Row → Bool
row_takes r = takes r.builtin r.indicator.arity

all_take : list_all row_takes built ≡ true
all_take = refl

found_takes : (i : Indicator) (b : Builtin) (rs : List Row) → list_all row_takes rs ≡ true
    → option_map (λ (r : Row). r.builtin) (find (λ (r : Row). same_indicator r.indicator i) rs) ≡ Some b → takes b i.arity ≡ true
found_takes i b [] all e = cc
found_takes i b (r ∷ rs) all e = go (same_indicator r.indicator i) refl e (found_takes i b rs each.1)
  where
    each : (row_takes r ≡ true) × (list_all row_takes rs ≡ true)
    each = both_are (row_takes r) (list_all row_takes rs) all

    go : (same : Bool) → same_indicator r.indicator i ≡ same
        → option_map (λ (r : Row). r.builtin) (cond same (Some r) (find (λ (r : Row). same_indicator r.indicator i) rs)) ≡ Some b
        → (option_map (λ (r : Row). r.builtin) (find (λ (r : Row). same_indicator r.indicator i) rs) ≡ Some b → takes b i.arity ≡ true) → takes b i.arity ≡ true
    go true h f next =
        let is : r.builtin ≡ b = cc in
        subst (λ (c : Builtin). takes c i.arity ≡ true) is (subst (λ (n : ℕ). takes r.builtin n ≡ true) (same_arity r.indicator i h) each.0)
    go false h f next = next f

-- ---- a term of a heap

arity_is : (g : ℕ → Text) (h : HeapTerm) → (indicator_of (named g h)).arity ≡ length (arguments h)
arity_is g (Var v) = refl
arity_is g (Number q) = refl
arity_is g (Name a) = refl
arity_is g (Compound f hs) = count-named g hs ∙ sym (length-list_of hs)

module _ (g : ℕ → Text) (h : HeapTerm) (b : Builtin) (calls : builtin_of (indicator_of (named g h)) ≡ Some b) where
  pub taken : takes b (length (arguments h)) ≡ true
  taken = subst (λ (n : ℕ). takes b n ≡ true) (arity_is g h) (found_takes (indicator_of (named g h)) b built all_take calls)

-- as many arguments as this
pub so_many : (g : ℕ → Text) (h : HeapTerm) (b : Builtin) (n : ℕ) → builtin_of (indicator_of (named g h)) ≡ Some b
    → ((m : ℕ) → takes b m ≡ (m == n)) → length (arguments h) ≡ n
so_many g h b n calls by = nat_eq-same (length (arguments h)) n (sym (by (length (arguments h))) ∙ taken g h b calls)

none_of : (n : ℕ) → not (n == 0) ≡ true → 0 < n
none_of zero e = cc
none_of (suc n) e = omega arith

-- a goal of `call` has one at least
pub some_of_call : (g : ℕ → Text) (h : HeapTerm) → builtin_of (indicator_of (named g h)) ≡ Some builtin.Call → 0 < length (arguments h)
some_of_call g h calls = none_of (length (arguments h)) (taken g h builtin.Call calls)

-- with one argument none is behind it
pub none_behind : (g : ℕ → Text) (h : HeapTerm) → length (arguments h) ≡ 1 → drop 1 (builtins.arguments (named g h)) ≡ []
none_behind g h e = only (builtins.arguments (named g h)) (ap length (arguments-named g h) ∙ length-map (arguments h) (named g) ∙ e)
  where
    only : (ts : List Tree) → length ts ≡ 1 → drop 1 ts ≡ []
    only [] e = refl
    only (t ∷ []) e = refl
    only (t ∷ u ∷ ts) e = absurd (omega (arith, e))

-- the arity of the indicator that a goal calls
pub arity_of : (g : ℕ → Text) (h : HeapTerm) → length (arguments h) ≡ (indicator_of (named g h)).arity
arity_of g h = sym (arity_is g h)
