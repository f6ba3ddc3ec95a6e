-- A list says what its echelon form says, with its inequalities and disequations into which the equations are put.
use Rattle.std.proofs.Common.{◌≡◌, inl, inr, ℕ, List, [], ◌∷◌, ◌++◌, true, false, refl, ap, sym, subst}
use Rattle.std.specs.Prelude.{map}
use Rattle.spec_linear.specs.declared.Relation.{Relation}
use Rattle.spec_linear.specs.declared.Relation.TheVariants.{Eq, Gt, Ge, Ne}
use Rattle.spec_linear.specs.Solution.{Constraint, Entails, Equivalent, Has, MentionsOnly}
use Rattle.spec_linear.proofs.Denominators.{has_left, has_right}
use Rattle.spec_linear.specs.Echelon.{Solved, equation, equations, AreDistinct, IsEchelon}
use Rattle.spec_projection.specs.Lists.{AreForms}
use Rattle.spec_projection.specs.Elimination.{IsInequality}
use Rattle.spec_projection.specs.Partial.{AreInequalities}
use Rattle.spec_projection.specs.Substitution.{put_into}
use Rattle.spec_projection.specs.Projection.{is_inequality, is_disequation, inequalities_of, disequations_of}
use Rattle.spec_projection.proofs.Members.{has_either, has_filtered, has_passed, has_mapped, alike_by_members, member_entailed}
use Rattle.spec_projection.proofs.Splits.{entails_members}
use Rattle.spec_projection.proofs.Mentions.{some_mentions}
use Rattle.spec_projection.proofs.Filled.{each}
use Rattle.spec_projection.proofs.PutInto.{put_into-alike}
use Rattle.spec_projection.proofs.Echelons.{equation_follows}
use Rattle.spec_linear.proofs.Lists.{alike_trans}

map_append : (f : Constraint → Constraint) (s t : List Constraint) → map f (s ++ t) ≡ map f s ++ map f t
map_append f [] t = refl
map_append f (c ∷ s) t = ap (λ w. f c ∷ w) (map_append f s t)

inequality_is : (r : Relation) → is_inequality r ≡ true → IsInequality r
inequality_is Eq e = let d : false ≡ true = e in cc
inequality_is Gt e = tt
inequality_is Ge e = tt
inequality_is Ne e = let d : false ≡ true = e in cc

disequation_is : (r : Relation) → is_disequation r ≡ true → r ≡ Ne
disequation_is Eq e = let d : false ≡ true = e in cc
disequation_is Gt e = let d : false ≡ true = e in cc
disequation_is Ge e = let d : false ≡ true = e in cc
disequation_is Ne e = refl

pub put_inequalities : (es : List Solved) (l : List Constraint) → AreInequalities (map (put_into es) (inequalities_of l))
put_inequalities es l c h =
    let k = has_mapped (put_into es) c (inequalities_of l) h in
    subst (λ d. IsInequality d.relation) (sym k.is) (inequality_is k.from.relation (has_filtered (λ d. is_inequality d.relation) k.from l k.member).1)

pub put_disequations : (es : List Solved) (l : List Constraint) (c : Constraint) → Has c (map (put_into es) (disequations_of l)) → c.relation ≡ Ne
put_disequations es l c h =
    let k = has_mapped (put_into es) c (disequations_of l) h in
    subst (λ d. d.relation ≡ Ne) (sym k.is) (disequation_is k.from.relation (has_filtered (λ d. is_disequation d.relation) k.from l k.member).1)

pub forms_of_inequalities : (l : List Constraint) → AreForms l → AreForms (inequalities_of l)
forms_of_inequalities l i c h = i c (has_filtered (λ d. is_inequality d.relation) c l h).0

module _ (order : List ℕ) (l : List Constraint) (es : List Solved) (distinct : AreDistinct order) (echelon : IsEchelon order l es) (only : MentionsOnly order l) where
  sorted_out : Equivalent (equations es ++ (inequalities_of l ++ disequations_of l)) l
  sorted_out = alike_by_members (equations es ++ (inequalities_of l ++ disequations_of l)) l from_list to_list
    where
      from_list : (c : Constraint) → Has c (equations es ++ (inequalities_of l ++ disequations_of l)) → Entails l c
      from_list c h = elim (has_either c (equations es) (inequalities_of l ++ disequations_of l) h) [
        | inl i ↦ (let k = has_mapped equation c es i in subst (Entails l) (sym k.is) (each (λ e. Entails l (equation e)) es echelon.entailed k.from k.member))
        | inr i ↦ elim (has_either c (inequalities_of l) (disequations_of l) i) [
          | inl j ↦ member_entailed l c (has_filtered (λ d. is_inequality d.relation) c l j).0
          | inr j ↦ member_entailed l c (has_filtered (λ d. is_disequation d.relation) c l j).0
        ]
      ]

      by_relation : (r : Relation) (c : Constraint) → Has c l → c.relation ≡ r → Entails (equations es ++ (inequalities_of l ++ disequations_of l)) c
      by_relation Eq c h e =
          entails_members (equations es) (equations es ++ (inequalities_of l ++ disequations_of l)) c (λ d i. has_left d (equations es) (inequalities_of l ++ disequations_of l) i)
          (equation_follows order l es distinct echelon c only h (λ x m. some_mentions x l c h m) e)
      by_relation Gt c h e = member_entailed (equations es ++ (inequalities_of l ++ disequations_of l)) c
          (has_right c (equations es) (inequalities_of l ++ disequations_of l) (has_left c (inequalities_of l) (disequations_of l) (has_passed (λ d. is_inequality d.relation) c l h (ap is_inequality e))))
      by_relation Ge c h e = member_entailed (equations es ++ (inequalities_of l ++ disequations_of l)) c
          (has_right c (equations es) (inequalities_of l ++ disequations_of l) (has_left c (inequalities_of l) (disequations_of l) (has_passed (λ d. is_inequality d.relation) c l h (ap is_inequality e))))
      by_relation Ne c h e = member_entailed (equations es ++ (inequalities_of l ++ disequations_of l)) c
          (has_right c (equations es) (inequalities_of l ++ disequations_of l) (has_right c (inequalities_of l) (disequations_of l) (has_passed (λ d. is_disequation d.relation) c l h (ap is_disequation e))))

      to_list : (c : Constraint) → Has c l → Entails (equations es ++ (inequalities_of l ++ disequations_of l)) c
      to_list c h = by_relation c.relation c h refl

  pub put_in_alike : Equivalent (equations es ++ (map (put_into es) (inequalities_of l) ++ map (put_into es) (disequations_of l))) l
  put_in_alike = alike_trans
      (equations es ++ (map (put_into es) (inequalities_of l) ++ map (put_into es) (disequations_of l))) (equations es ++ (inequalities_of l ++ disequations_of l)) l
      (subst (λ w. Equivalent (equations es ++ w) (equations es ++ (inequalities_of l ++ disequations_of l))) (map_append (put_into es) (inequalities_of l) (disequations_of l))
      (put_into-alike es (inequalities_of l ++ disequations_of l)))
      sorted_out
