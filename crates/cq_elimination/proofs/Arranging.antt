-- Irredundant rows are scaled and sorted.
use Rattle.std.proofs.Common.{◌≡◌, ◌≢◌, inl, ℕ, List, [], ◌∷◌, ◌++◌, map, append-nil, append_assoc, refl, ap, sym, subst, ◌∙◌}
use Rattle.spec_numbers.specs.Rational.{ℚ, ◌+ℚ◌}
use Rattle.spec_numbers.specs.Sums.{sum_at}
use Rattle.spec_linear.specs.declared.Relation.TheVariants.{Eq}
use Rattle.spec_linear.specs.Solution.{Constraint, Meets, HoldsAt, Solvable, Entails, Has, MentionsOnly, number}
use Rattle.spec_linear.proofs.Points.{solves_same}
use Rattle.spec_linear.proofs.Lists.{member_holds}
use Rattle.spec_linear.proofs.Denominators.{has_left, has_right}
use Rattle.spec_linear.proofs.Far.{member_satisfied}
use Rattle.spec_linear.specs.Echelon.{AreDistinct}
use Rattle.spec_projection.specs.Lists.{AreForms}
use Rattle.spec_projection.specs.Irredundant.{IsIrredundant}
use Rattle.spec_projection.specs.Strict.{one_row, no_row}
use Rattle.spec_projection.proofs.Members.{has_image}
use Rattle.spec_projection.proofs.Mentions.{some_mentions}
use Rattle.spec_projection.proofs.Strong.{scaled_alike}
use Rattle.spec_projection.proofs.Arranged.{HasSource, source}
use Rattle.cq_elimination.specs.Lines.{Line, said}
use Rattle.cq_elimination.specs.Arranging.{Prints}
use Rattle.cq_elimination.proofs.Joined.{Arranged, none_arranged, scaled_line, one_more}
use Rattle.cq_elimination.proofs.AnsweredLines.{joins}
use Rattle.cq_elimination.proofs.AnsweredPrinting.{row_printed}

module _ (order : List ℕ) (distinct : AreDistinct order) (rows : List Constraint) (alone : IsIrredundant rows) (solvable : Solvable rows) (forms : AreForms rows)
    (unequal : (c : Constraint) → Has c rows → c.relation ≢ Eq) (over : MentionsOnly order rows) where
  module _ (done rest : List Constraint) (c : Constraint) (parts : rows ≡ done ++ c ∷ rest) where
    among : Has c rows
    among = subst (Has c) (sym parts) (has_right c done (c ∷ rest) (inl refl))

    -- what holds everywhere follows from nothing
    mentions_some : c.form.products ≢ []
    mentions_some e = alone done rest c parts (λ q s. ((solves_same q (c ∷ [])).1 (everywhere (number q), tt)).0)
      where
        here : HoldsAt (number solvable.0) c
        here = member_satisfied (number solvable.0) rows c among ((solves_same solvable.0 rows).0 solvable.1)

        everywhere : (a : ℕ → ℚ) → HoldsAt a c
        everywhere a =
            subst (Meets c.relation) (ap (λ s. c.form.constant +ℚ sum_at (number solvable.0) s) e ∙ sym (ap (λ s. c.form.constant +ℚ sum_at a s) e)) here

    -- a row with a twin follows from it
    new_line : (lines : List Line) (l : Line) → Arranged order done lines → Prints order c l → Has l lines → ⊥
    new_line lines l old prints h = alone done rest c parts follows
      where
        twin : HasSource (said l) done
        twin = source done (map said lines) old.arranged (said l) (has_image said l lines h)

        follows : Entails (done ++ rest) c
        follows q s =
            let holds = member_holds q (done ++ rest) twin.row (has_left twin.row done rest twin.among) s in
            let said_holds = (scaled_alike (twin.row ∷ []) (said l ∷ []) (one_row twin.multiple no_row) q).1 (holds, tt) in
            ((scaled_alike (c ∷ []) (said l ∷ []) (one_row prints.multiple no_row) q).0 said_holds).0

    joined : (lines : List Line) → Arranged order done lines → (new : List Line) × Arranged order (done ++ c ∷ []) new
    joined lines old =
        let l = row_printed order distinct c (unequal c among) (forms c among) mentions_some (λ x m. over x (some_mentions x rows c among m)) in
        let j = joins order distinct lines (λ k h. scaled_line order k (old.scaled k h)) l.0 (scaled_line order l.0 l.1.scaled) (new_line lines l.0 old l.1) in
        (j.0, one_more order distinct done lines j.0 c l.0 old l.1 j.1)

  arranged_from : (done rest : List Constraint) (lines : List Line) → rows ≡ done ++ rest → Arranged order done lines → (final : List Line) × Arranged order rows final
  arranged_from done [] lines e a = (lines, subst (λ w. Arranged order w lines) (sym (e ∙ append-nil done)) a)
  arranged_from done (c ∷ rest) lines e a =
      let n = joined done rest c e lines a in
      arranged_from (done ++ c ∷ []) rest n.0 (e ∙ sym (append_assoc done (c ∷ []) rest)) n.1

  pub arranged : (final : List Line) × Arranged order rows final
  arranged = arranged_from [] rows [] refl (none_arranged order)
