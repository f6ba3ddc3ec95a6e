-- A pass over two halves: the first beside the second, and then the second.
use Rattle.std.proofs.Common.{◌≡◌, ◌↔◌, inl, inr, List, [], ◌∷◌, ◌++◌, ap, sym, subst, append_assoc, append-nil}
use Rattle.spec_linear.specs.Solution.{Constraint, Entails, Has}
use Rattle.spec_linear.proofs.Lists.{alike_entails, alike_sym}
use Rattle.spec_linear.proofs.Denominators.{has_left, has_right}
use Rattle.spec_linear.specs.Extremes.{Leaves}
use Rattle.spec_projection.specs.Irredundant.{IsSublist, Sifts, done, dropped, stays}
use Rattle.spec_projection.proofs.Members.{alike_by_same_members, has_either}
use Rattle.spec_projection.proofs.Sifted.{sifted_halves, sifted_sublist}
use Rattle.cq_project.specs.Sifting.{HaveSameMembers, SiftsBeside}

-- ---- members

-- with one list put between the two parts, and behind the other list
pub same_between : (before beside more told : List Constraint) → HaveSameMembers (before ++ beside) told → HaveSameMembers (before ++ (more ++ beside)) (told ++ more)
same_between before beside more told h c = (forth, back)
  where
    forth : Has c (before ++ (more ++ beside)) → Has c (told ++ more)
    forth k = elim (has_either c before (more ++ beside) k) [
      | inl a ↦ has_left c told more ((h c).0 (has_left c before beside a))
      | inr b ↦ elim (has_either c more beside b) [ inl a ↦ has_right c told more a | inr d ↦ has_left c told more ((h c).0 (has_right c before beside d)) ]
    ]

    back : Has c (told ++ more) → Has c (before ++ (more ++ beside))
    back k = elim (has_either c told more k) [
      | inl a ↦ elim (has_either c before beside ((h c).1 a)) [
        | inl b ↦ has_left c before (more ++ beside) b
        | inr b ↦ has_right c before (more ++ beside) (has_right c more beside b)
      ]
      | inr b ↦ has_right c before (more ++ beside) (has_left c more beside b)
    ]

-- ---- one row

module _ (told before beside : List Constraint) (row : Constraint) (same : HaveSameMembers (before ++ beside) told) where
  none_between : before ++ beside ≡ before ++ [] ++ beside
  none_between = ap (λ w. w ++ beside) (sym (append-nil before))

  follows : Entails told row → Entails (before ++ [] ++ beside) row
  follows e =
      subst (λ w. Entails w row) none_between
      (alike_entails told (before ++ beside) row (alike_sym (before ++ beside) told (alike_by_same_members (before ++ beside) told same)) e)

  one_dropped : Entails told row → Sifts beside before (row ∷ []) (before ++ [])
  one_dropped e = subst (Sifts beside before (row ∷ [])) (sym (append-nil before)) (dropped (follows e) done)

  one_stays : (Entails told row → ⊥) → Sifts beside before (row ∷ []) (before ++ row ∷ [])
  one_stays n =
      stays (λ e. n (alike_entails (before ++ beside) told row (alike_by_same_members (before ++ beside) told same) (subst (λ w. Entails w row) (sym none_between) e))) done

pub row_dropped : (told : List Constraint) (row : Constraint) → Entails told row → SiftsBeside told (row ∷ []) []
row_dropped told row e before beside same = one_dropped told before beside row same e

pub row_stays : (told : List Constraint) (row : Constraint) → Leaves told row → SiftsBeside told (row ∷ []) (row ∷ [])
row_stays told row l before beside same = one_stays told before beside row same (λ e. l.breaks (e l.point l.solves))

-- no row
pub nothing_sifted : (told : List Constraint) → SiftsBeside told [] []
nothing_sifted told before beside same = subst (Sifts beside before []) (sym (append-nil before)) done

-- what is kept is some of the rows
pub kept_rows : (told rows first : List Constraint) → SiftsBeside told rows first → IsSublist first rows
kept_rows told rows first s = sifted_sublist told rows first (s [] told (λ c. ((λ h. h), (λ h. h))))

-- ---- two halves

-- the kept ones of the first half stand before the second
module _ (told front back first second : List Constraint) (sifted : SiftsBeside (told ++ back) front first) (rest : SiftsBeside (told ++ first) back second) where
  pub both_halves : SiftsBeside told (front ++ back) (first ++ second)
  both_halves before beside same =
      let one : Sifts (back ++ beside) before front (before ++ first) = sifted before (back ++ beside) (same_between before beside back told same) in
      let moved : HaveSameMembers ((before ++ first) ++ beside) (told ++ first) =
      λ c. subst (λ l. Has c l ↔ Has c (told ++ first)) (sym (append_assoc before first beside)) (same_between before beside first told same c) in
      let two : Sifts beside (before ++ first) back ((before ++ first) ++ second) = rest (before ++ first) beside moved in
      subst (Sifts beside before (front ++ back)) (append_assoc before first second) (sifted_halves beside back before front (before ++ first) ((before ++ first) ++ second) one two)
