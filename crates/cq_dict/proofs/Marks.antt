-- The quantities at the marks, place by place.
use Rattle.std.proofs.Common.{◌≡◌, ℕ, zero, suc, ◌<◌, List, [], ◌∷◌, ◌++◌, length, Bool, Some, refl, ap, ap₂, take, arith, inl, inr, length-append, length-take}
use Rattle.std.proofs.lemmas.Option.{none-some, same_Some, slice_get_within}
use Rattle.std.specs.Prelude.{slice_get}
use Rattle.spec_numbers.proofs.Places.{get_push, get_take}
use Rattle.cq_dict.specs.declared.table.Role.{Role}
use Rattle.cq_dict.specs.Roles.{AreQuantities}
use Rattle.cq_dict.specs.DictValue.{saved_quantities, AreMarked}

pub saved_take : (n : ℕ) (ss : List (List Role)) (fs : List (List Bool)) → saved_quantities (take n ss) (take n fs) ≡ take n (saved_quantities ss fs)
saved_take zero ss fs = refl
saved_take (suc n) [] fs = refl
saved_take (suc n) (s ∷ ss) [] = refl
saved_take (suc n) (s ∷ ss) (f ∷ fs) = ap (λ l. record { roles = s; restricted = f } ∷ l) (saved_take n ss fs)

pub saved_at : (n : ℕ) (ss : List (List Role)) (fs : List (List Bool)) (s : List Role) (f : List Bool) → slice_get ss n ≡ Some s → slice_get fs n ≡ Some f → slice_get (saved_quantities ss fs) n ≡ Some (record { roles = s; restricted = f })
saved_at n [] fs s f p q = absurd (none-some s p)
saved_at n (s' ∷ ss) [] s f p q = absurd (none-some f q)
saved_at zero (s' ∷ ss) (f' ∷ fs) s f p q = ap₂ (λ x y. Some (record { roles = x; restricted = y })) (same_Some s' s p) (same_Some f' f q)
saved_at (suc n) (s' ∷ ss) (f' ∷ fs) s f p q = saved_at n ss fs s f p q

pub saved_push : (ss : List (List Role)) (fs : List (List Bool)) (s : List Role) (f : List Bool) → length fs ≡ length ss →
    saved_quantities (ss ++ s ∷ []) (fs ++ f ∷ []) ≡ saved_quantities ss fs ++ record { roles = s; restricted = f } ∷ []
saved_push [] [] s f e = refl
saved_push [] (f' ∷ fs) s f e = absurd (omega arith)
saved_push (s' ∷ ss) [] s f e = absurd (omega arith)
saved_push (s' ∷ ss) (f' ∷ fs) s f e = ap (λ l. record { roles = s'; restricted = f' } ∷ l) (saved_push ss fs s f (omega arith))

pub length-saved : (ss : List (List Role)) (fs : List (List Bool)) → length fs ≡ length ss → length (saved_quantities ss fs) ≡ length ss
length-saved [] fs e = refl
length-saved (s ∷ ss) [] e = absurd (omega arith)
length-saved (s ∷ ss) (f ∷ fs) e = ap suc (length-saved ss fs (omega arith))

-- a change under the same marks
pub marked : {roles roles' : List Role} {flags flags' : List Bool} {ss ss' : List (List Role)} {fs fs' : List (List Bool)} →
    AreMarked roles flags ss fs → ss' ≡ ss → fs' ≡ fs → AreQuantities (record { roles = roles'; restricted = flags' }) → AreMarked roles' flags' ss' fs'
marked are e f now = rw (e, f) (record { now = now; together = are.together; marks = are.marks })

module _ (roles : List Role) (flags : List Bool) (ss : List (List Role)) (fs : List (List Bool)) (are : AreMarked roles flags ss fs) where
  pub marked_more : AreMarked roles flags (ss ++ roles ∷ []) (fs ++ flags ∷ [])
  marked_more = record {
    now = are.now;
    together = omega (arith, length-append fs (flags ∷ []), length-append ss (roles ∷ []), are.together);
    marks = λ k s f p q. elim (get_push ss roles k s p) [
      | inl p' ↦ (
          let lt : k < length ss = slice_get_within ss k s p' in
          let q' : slice_get fs k ≡ Some f = elim (get_push fs flags k f q) [ inl h ↦ h | inr h ↦ absurd (omega (arith, h.0, are.together)) ] in
          are.marks k s f p' q')
      | inr p' ↦ (
          let q' : flags ≡ f = elim (get_push fs flags k f q) [ inl h ↦ absurd (omega (arith, p'.0, slice_get_within fs k f h, are.together)) | inr h ↦ h.1 ] in
          rw (← p'.1, ← q') are.now)
    ];
  }

  pub marked_take : (n : ℕ) (roles' : List Role) (flags' : List Bool) → AreQuantities (record { roles = roles'; restricted = flags' }) → AreMarked roles' flags' (take n ss) (take n fs)
  marked_take n roles' flags' now = record {
    now = now;
    together = simp (length-take) (omega (arith, are.together));
    marks = λ k s f p q. are.marks k s f (get_take n k ss s p).0 (get_take n k fs f q).0;
  }
