-- The row of an asked form, added to the table: it still speaks of the list, and all its rows are known.
use Rattle.std.proofs.Common.{◌≡◌, ℕ, List, [], ◌∷◌, ◌++◌, length, true, refl, ap, ap₂, sym, ◌∙◌, inl, inr}
use Rattle.spec_numbers.specs.Rational.{ℚ, ◌+ℚ◌}
use Rattle.spec_linear.specs.Form.{Linear, value_at}
use Rattle.spec_linear.specs.Solution.{Constraint}
use Rattle.spec_linear.proofs.Values.{value_at-variable_form}
use Rattle.spec_simplex.specs.LimitsDictionary.{Quantity, variable, member, form_of}
use Rattle.cq_frac.specs.Row.{Row}
use Rattle.cq_frac.specs.Rows as row
use Rattle.cq_dict.specs.declared.table.Role.{Role}
use Rattle.cq_dict.specs.declared.table.Role.TheVariants.{Live, Dropped, Basic}
use Rattle.cq_dict.specs.Roles.{IsAt, is_live, is_dropped, AreOverColumns, IsMet, Expresses}
use Rattle.cq_equations.specs.Describes.{Agree, Describes, IsSolved, AllKnown, NoOtherRows, placed}
use Rattle.cq_dict.proofs.Roles.{role_live, role_dropped, live_at, dropped_at, at_last}
use Rattle.cq_equations.proofs.Roles.{at_append, append_back}
use Rattle.cq_dict.proofs.Free.{free, sum_agrees}
use Rattle.cq_equations.proofs.Dictionary.{has_either}
use Rattle.cq_equations.proofs.Causes.{placed_sum}
use Rattle.cq_equations.proofs.Joining.{append_table}

module _ (l : List Constraint) (f : Linear) (asked : List Linear) (roles : List Role) (place : Quantity → ℕ) (live gone : List Quantity) (table : AreOverColumns roles) (d : Describes l (f ∷ asked) roles place live gone) (solved : IsSolved l roles place gone)
    (r0 : Row) (ex : Expresses roles (λ x. f.constant +ℚ row.sum_at x (placed place f.products)) r0) where
  pub up : (i : ℕ) (s : Role) → IsAt roles i s → IsAt (roles ++ Basic r0 ∷ []) i s
  up i s h = at_append roles (Basic r0 ∷ []) i s h

  pub old_met : (x : ℕ → ℚ) → IsMet x (roles ++ Basic r0 ∷ []) → IsMet x roles
  old_met x m = record { rows = λ i r h. m.rows i r (up i (Basic r) h) }

  pub live_up : (c : ℕ) → is_live roles c ≡ true → is_live (roles ++ Basic r0 ∷ []) c ≡ true
  live_up c h = live_at (roles ++ Basic r0 ∷ []) c Live (up c Live (role_live roles c h))

  pub dropped_up : (c : ℕ) → is_dropped roles c ≡ true → is_dropped (roles ++ Basic r0 ∷ []) c ≡ true
  dropped_up c h = dropped_at (roles ++ Basic r0 ∷ []) c Dropped (up c Dropped (role_dropped roles c h))

  pub forth : (v : ℕ → ℚ) → (x : ℕ → ℚ) × IsMet x (roles ++ Basic r0 ∷ []) × Agree l (f ∷ asked) place v x
  forth v =
      let o = d.forth v in
      let x = free (roles ++ Basic r0 ∷ []) (append_table roles r0 table ex.over) o.0 in
      let here : (c : ℕ) → is_live roles c ≡ true → x.0 c ≡ o.0 c = λ c h. x.2 c (live_up c h) in
      let there : (c : ℕ) → is_dropped roles c ≡ true → x.0 c ≡ o.0 c = λ c h. x.3 c (dropped_up c h) in (
        x.0,
        x.1,
        record {
          same = λ q i.
              elim (d.others q i) [
                | inl h ↦ elim (has_either q live gone h) [
                  | inl k ↦ here (place q) (d.live_is q k) ∙ o.2.same q i
                  | inr k ↦ there (place q) (d.gone_is q k) ∙ o.2.same q i
                ]
                | inr r ↦
                    let t = table.rows (place q) r.0 r.1 in
                    x.1.rows (place q) r.0 (up (place q) (Basic r.0) r.1)
                    ∙ ap₂ (λ u w. r.0.constant +ℚ (u +ℚ w)) (sum_agrees (is_live roles) 0 x.0 o.0 r.0.live t.live_row here) (sum_agrees (is_dropped roles) 0 x.0 o.0 r.0.dropped t.dropped_row there)
                    ∙ sym (o.1.rows (place q) r.0 r.1) ∙ o.2.same q i
              ];
        },
      )

  pub describes : Describes l (f ∷ asked) (roles ++ Basic r0 ∷ []) place live gone
  describes = record {
    forth = forth;
    back = λ x m. d.back x (old_met x m);
    columns = d.columns;
    once = d.once;
    apart = d.apart;
    live_is = λ q h. live_up (place q) (d.live_is q h);
    gone_is = λ q h. dropped_up (place q) (d.gone_is q h);
    each_live = λ c h. elim (append_back roles (Basic r0) Live c (role_live (roles ++ Basic r0 ∷ []) c h)) [ inl k ↦ d.each_live c (live_at roles c Live k) | inr k ↦ let w = k.1 in cc ];
    each_gone = λ c h. elim (append_back roles (Basic r0) Dropped c (role_dropped (roles ++ Basic r0 ∷ []) c h)) [ inl k ↦ d.each_gone c (dropped_at roles c Dropped k) | inr k ↦ let w = k.1 in cc ];
    others = λ q i. elim (d.others q i) [ inl h ↦ inl h | inr r ↦ inr (r.0, up (place q) (Basic r.0) r.1) ];
  }

  pub still : IsSolved l (roles ++ Basic r0 ∷ []) place gone
  still = record {
    equations = solved.equations;
    members = λ i h. elim (solved.members i h) [ inl g ↦ inl g | inr r ↦ inr (r.0, up (place (member i)) (Basic r.0) r.1, r.2, r.3) ];
    only = solved.only;
  }

  pub value : (v x : ℕ → ℚ) → IsMet x (roles ++ Basic r0 ∷ []) → Agree l (f ∷ asked) place v x → value_at v f ≡ x (length roles)
  value v x m a =
      sym (m.rows (length roles) r0 (at_last roles (Basic r0)) ∙ ex.value_is x (old_met x m)
      ∙ ap (λ w. f.constant +ℚ w) (placed_sum place v x f.products (λ y h. a.same (variable y) (inr (inl h)) ∙ value_at-variable_form v y)))

  pub known : NoOtherRows l (f ∷ asked) roles place → AllKnown l (f ∷ asked) (roles ++ Basic r0 ∷ []) place
  known none i r h =
      elim (append_back roles (Basic r0) (Basic r) i h) [
        | inl k ↦
            let q = none i r k in
            record { form = form_of l q.0; kind = inl (q.0, q.1, q.2, refl); value = λ v x m a. sym (a.same q.0 q.1) ∙ ap x q.2 }
        | inr k ↦ record { form = f; kind = inr (inl refl); value = λ v x m a. value v x m a ∙ ap x (sym k.0) }
      ]
