-- A hash map of operators against the finite map that contracts see.
use Rattle.std.proofs.Common.{◌≡◌, ℕ, cond, List, [], ◌∷◌, Some, None, nat_eq, refl, sym, ap, ◌∙◌, arith}
use Rattle.std.specs.Map.{lookup}
use Rattle.std.specs.Ordering.{nat_cmp, eq_by_cmp}
use Rattle.std.specs.Cmp.{nat_cmp_total}
use Rattle.std.specs.FinMap.{get, insert, remove, from_entries, find, get-from_entries, get-insert, get-remove, same_map, nat_cmp-IsAntisymmetric}
use Rattle.std.proofs.lemmas.Bool.Decides.{nat_tests}

pub same_test : (x y : ℕ) → eq_by_cmp nat_cmp x y ≡ nat_eq x y
same_test x y = grind (arith, nat_tests)

other_way : (x y : ℕ) → eq_by_cmp nat_cmp x y ≡ nat_eq y x
other_way x y = grind (arith, nat_tests)

module _ {X : Type 0} where
  find-lookup : (es : List (ℕ × X)) (q : ℕ) → find nat_cmp q es ≡ lookup (nat_eq q) es
  find-lookup [] q = refl
  find-lookup (e ∷ es) q = ap (λ b. cond b (Some e.1) (find nat_cmp q es)) (same_test q e.0) ∙ ap (cond (nat_eq q e.0) (Some e.1)) (find-lookup es q)

  -- both give the same operator for a name
  pub get-lookup : (es : List (ℕ × X)) (q : ℕ) → get (from_entries {R = nat_cmp} es) q ≡ lookup (nat_eq q) es
  get-lookup es q = get-from_entries nat_cmp_total es q ∙ find-lookup es q

  module _ (old new : List (ℕ × X)) (name : ℕ) where
    pub insert-lookup : (x : X) → ((q : ℕ) → lookup (nat_eq q) new ≡ cond (nat_eq name q) (Some x) (lookup (nat_eq q) old)) → from_entries {R = nat_cmp} new ≡ insert (from_entries old) name x
    insert-lookup x updates =
        same_map nat_cmp_total nat_cmp-IsAntisymmetric _ _ (λ q. get-lookup new q ∙ updates q ∙ sym (get-insert nat_cmp_total (from_entries old) name x q
        ∙ ap (λ b. cond b (Some x) (get (from_entries {R = nat_cmp} old) q)) (other_way q name) ∙ ap (cond (nat_eq name q) (Some x)) (get-lookup old q)))

    pub remove-lookup : ((q : ℕ) → lookup (nat_eq q) new ≡ cond (nat_eq name q) None (lookup (nat_eq q) old)) → from_entries {R = nat_cmp} new ≡ remove (from_entries old) name
    remove-lookup updates =
        same_map nat_cmp_total nat_cmp-IsAntisymmetric _ _ (λ q. get-lookup new q ∙ updates q ∙ sym (get-remove nat_cmp_total (from_entries old) name q
        ∙ ap (λ b. cond b None (get (from_entries {R = nat_cmp} old) q)) (other_way q name) ∙ ap (cond (nat_eq name q) None) (get-lookup old q)))
