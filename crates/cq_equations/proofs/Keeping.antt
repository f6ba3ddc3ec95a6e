-- An equation that follows from the list joins: its row stays, without live entries and with constant 0.
use Rattle.std.proofs.Common.{◌≡◌, ℕ, ◌+◌, List, [], ◌∷◌, ◌++◌, length, true, arith, ap, sym, subst, ◌∙◌, inl, inr, length-append}
use Rattle.spec_numbers.specs.Rational.{ℚ, 0ℚ, ◌+ℚ◌}
use Rattle.spec_linear.specs.Form.{Linear}
use Rattle.spec_linear.specs.Solution.{Constraint, Has}
use Rattle.spec_linear.specs.declared.Relation.TheVariants.{Eq}
use Rattle.spec_linear.proofs.Denominators.{has_left, has_right}
use Rattle.spec_simplex.specs.LimitsDictionary.{Quantity, member, member_at, IsQuantity, amount}
use Rattle.cq_frac.specs.Row.{Row}
use Rattle.cq_frac.specs.Rows as row
use Rattle.cq_dict.specs.declared.table.Role.{Role}
use Rattle.cq_dict.specs.declared.table.Role.TheVariants.{Basic}
use Rattle.cq_dict.specs.Roles.{IsAt, is_live, is_dropped, AreOverColumns, IsMet, Expresses}
use Rattle.cq_equations.specs.Describes.{Agree, Describes, IsSolved, NoOtherRows, placed, with_equation}
use Rattle.cq_dict.proofs.Roles.{at_last}
use Rattle.cq_equations.proofs.Roles.{append_back}
use Rattle.cq_equations.proofs.Joining.{new, old, which, kept, same_amount, new_amount, get_end, get_append}
use Rattle.cq_equations.proofs.Asking.{up, value, describes}

module _ (l : List Constraint) (f : Linear) (asked : List Linear) (roles : List Role) (place place' : Quantity → ℕ) (same_place : (q : Quantity) → IsQuantity l (f ∷ asked) q → place' q ≡ place q) (new_place : place' (member (length l)) ≡ length roles) (live gone : List Quantity) (table : AreOverColumns roles) (d : Describes l (f ∷ asked) roles place live gone) (solved : IsSolved l roles place gone)
    (r0 : Row) (ex : Expresses roles (λ x. f.constant +ℚ row.sum_at x (placed place f.products)) r0) (no_live : r0.live ≡ []) (no_constant : r0.constant ≡ 0ℚ) where
  wide : Describes l (f ∷ asked) (roles ++ Basic r0 ∷ []) place live gone
  wide = describes l f asked roles place live gone table d solved r0 ex

  agree_more : (v x : ℕ → ℚ) → IsMet x (roles ++ Basic r0 ∷ []) → Agree l (f ∷ asked) place v x → Agree (with_equation l f) asked place' v x
  agree_more v x m a = record {
    same = λ q i.
        elim (which l f asked q i) [
          | new e ↦
              ap (λ y. x (place' y)) e ∙ ap x (new_place)
              ∙ sym (value l f asked roles place live gone table d solved r0 ex v x m a)
              ∙ sym (new_amount l f v) ∙ ap (amount (with_equation l f) v) (sym e)
          | old n h ↦ ap x (same_place q h) ∙ a.same q h ∙ sym (same_amount l f asked v q h)
        ];
  }

  old_place : (q : Quantity) → Has q (live ++ gone) → place' q ≡ place q
  old_place q h = same_place q (d.columns q h)

  longer : length (with_equation l f) ≡ length l + 1
  longer = length-append l (record { relation = Eq; form = f } ∷ [])

  new_at : (q : Quantity) → q ≡ member (length l) → IsAt (roles ++ Basic r0 ∷ []) (place' q) (Basic r0)
  new_at q e = subst (λ i. IsAt (roles ++ Basic r0 ∷ []) i (Basic r0)) (sym (ap place' e ∙ new_place)) (at_last roles (Basic r0))

  pub keeps : Describes (with_equation l f) asked (roles ++ Basic r0 ∷ []) place' live gone
  keeps = record {
    forth = λ v. let x = wide.forth v in (x.0, x.1, agree_more v x.0 x.1 x.2);
    back = λ x m. let v = wide.back x m in (v.0, agree_more v.0 x m v.1);
    columns = λ q h. kept l f asked q (d.columns q h);
    once = d.once;
    apart = λ q r h k e. d.apart q r h k (sym (old_place q h) ∙ e ∙ old_place r k);
    live_is = λ q h. subst (λ n. is_live (roles ++ Basic r0 ∷ []) n ≡ true) (sym (old_place q (has_left q live gone h))) (wide.live_is q h);
    gone_is = λ q h. subst (λ n. is_dropped (roles ++ Basic r0 ∷ []) n ≡ true) (sym (old_place q (has_right q live gone h))) (wide.gone_is q h);
    each_live = λ c h. let q = wide.each_live c h in (q.0, q.1, old_place q.0 (has_left q.0 live gone q.1) ∙ q.2);
    each_gone = λ c h. let q = wide.each_gone c h in (q.0, q.1, old_place q.0 (has_right q.0 live gone q.1) ∙ q.2);
    others = λ q i.
        elim (which l f asked q i) [
          | new e ↦ inr (r0, new_at q e)
          | old n h ↦ elim (wide.others q h) [ inl w ↦ inl w | inr r ↦ inr (r.0, subst (λ j. IsAt (roles ++ Basic r0 ∷ []) j (Basic r.0)) (sym (same_place q h)) r.1) ]
        ];
  }

  pub keeps_solved : IsSolved (with_equation l f) (roles ++ Basic r0 ∷ []) place' gone
  keeps_solved = record {
    equations = λ i h. elim (which l f asked (member i) h) [
      | new e ↦ let w : i ≡ length l = cc in ap (λ j. (member_at (with_equation l f) j).relation) w ∙ ap (λ (c : Constraint). c.relation) (get_end l (record { relation = Eq; form = f }))
      | old n k ↦ ap (λ (c : Constraint). c.relation) (get_append l (record { relation = Eq; form = f }) i k) ∙ solved.equations i k
    ];
    members = λ i h. elim (which l f asked (member i) h) [
      | new e ↦ inr (r0, new_at (member i) e, no_live, no_constant)
      | old n k ↦ elim (solved.members i k) [
        | inl g ↦ inl g
        | inr r ↦ inr (r.0, subst (λ j. IsAt (roles ++ Basic r0 ∷ []) j (Basic r.0)) (sym (same_place (member i) k)) (up l f asked roles place live gone table d solved r0 ex (place (member i)) (Basic r.0) r.1), r.2, r.3)
      ]
    ];
    only = λ q h. let m = solved.only q h in (m.0, omega (arith, m.1, longer), m.2);
  }

  pub keeps_rows : NoOtherRows l (f ∷ asked) roles place → NoOtherRows (with_equation l f) asked (roles ++ Basic r0 ∷ []) place'
  keeps_rows none i r h =
      elim (append_back roles (Basic r0) (Basic r) i h) [
        | inl k ↦ let q = none i r k in (q.0, kept l f asked q.0 q.1, same_place q.0 q.1 ∙ q.2)
        | inr k ↦ (member (length l), omega (arith, longer), new_place ∙ sym k.0)
      ]
