-- Keys that differ are of first arguments that differ.
use Rattle.std.proofs.Common.{◌≡◌, ◌≢◌, ℕ, [], ◌∷◌, Some, None, false, refl, ap, sym, ◌∙◌}
use Rattle.std.specs.declared.option.Option.{Option}
use Rattle.spec_terms.specs.Term.{Subst, apply}
use Rattle.spec_terms.specs.Unifier.{HasNoUnifier}
use Rattle.cq_term.specs.Meaning.{HeapTerm}
use Rattle.cq_term.specs.declared.view.View.{View}
use Rattle.cq_term.specs.declared.view.View.TheVariants as view
use Rattle.cq_resolve.specs.FirstArgument.{first_shown}
use Rattle.cq_resolve.proofs.FirstArguments.{told_apart}
use Rattle.cq_clauses.specs.declared.key.Key.{Key}
use Rattle.cq_clauses.specs.Keys.{same_key, may_match}
use Rattle.cq_clauses.specs.Alike.{same_key-equiv}
use Rattle.cq_resolve.specs.Keys.{key_shown, key_of}

not_false : (k : Key) → same_key k k ≢ false
not_false k e = let yes = same_key-equiv.refl k in cc

-- heads of which the one has this key and the other may not match it
differ : (g h : View) (k : Key) → key_shown (Some g) ≡ Some k → may_match k (key_shown (Some h)) ≡ false → g ≢ h
differ g h k e excluded same = not_false k (ap (may_match k) (sym e ∙ ap (λ (v : View). key_shown (Some v)) same) ∙ excluded)

pub excluded : (goal head : HeapTerm) (r : Subst ℕ) (k : Key) → key_of goal ≡ Some k → may_match k (key_of head) ≡ false →
    HasNoUnifier (record { left = goal; right = apply r head } ∷ [])
excluded goal head r k e f = go (first_shown goal) (first_shown head) refl refl e f
  where
    rigid : (g h : View) → first_shown goal ≡ Some g → first_shown head ≡ Some h → key_shown (Some g) ≡ Some k →
        may_match k (key_shown (Some h)) ≡ false → HasNoUnifier (record { left = goal; right = apply r head } ∷ [])
    rigid (view.Var v) h a b e f = cc
    rigid g (view.Var w) a b e f = cc
    rigid (view.Number p) (view.Number q) a b e f = told_apart goal head r (view.Number p) (view.Number q) a b tt tt (differ (view.Number p) (view.Number q) k e f)
    rigid (view.Number p) (view.Name c) a b e f = told_apart goal head r (view.Number p) (view.Name c) a b tt tt (differ (view.Number p) (view.Name c) k e f)
    rigid (view.Number p) (view.Compound c n) a b e f = told_apart goal head r (view.Number p) (view.Compound c n) a b tt tt (differ (view.Number p) (view.Compound c n) k e f)
    rigid (view.Name d) (view.Number q) a b e f = told_apart goal head r (view.Name d) (view.Number q) a b tt tt (differ (view.Name d) (view.Number q) k e f)
    rigid (view.Name d) (view.Name c) a b e f = told_apart goal head r (view.Name d) (view.Name c) a b tt tt (differ (view.Name d) (view.Name c) k e f)
    rigid (view.Name d) (view.Compound c n) a b e f = told_apart goal head r (view.Name d) (view.Compound c n) a b tt tt (differ (view.Name d) (view.Compound c n) k e f)
    rigid (view.Compound d m) (view.Number q) a b e f = told_apart goal head r (view.Compound d m) (view.Number q) a b tt tt (differ (view.Compound d m) (view.Number q) k e f)
    rigid (view.Compound d m) (view.Name c) a b e f = told_apart goal head r (view.Compound d m) (view.Name c) a b tt tt (differ (view.Compound d m) (view.Name c) k e f)
    rigid (view.Compound d m) (view.Compound c n) a b e f = told_apart goal head r (view.Compound d m) (view.Compound c n) a b tt tt (differ (view.Compound d m) (view.Compound c n) k e f)

    go : (g h : Option View) → first_shown goal ≡ g → first_shown head ≡ h → key_shown g ≡ Some k → may_match k (key_shown h) ≡ false →
        HasNoUnifier (record { left = goal; right = apply r head } ∷ [])
    go None h a b e f = cc
    go (Some g) None a b e f = cc
    go (Some g) (Some h) a b e f = rigid g h a b e f
