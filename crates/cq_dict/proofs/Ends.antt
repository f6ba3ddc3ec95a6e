-- A role at the end of a table.
use Rattle.std.proofs.Common.{◌≡◌, ◌↔◌, List, [], ◌∷◌, ◌++◌, length, ap, sym, subst, ◌∙◌, inl, inr}
use Rattle.spec_numbers.specs.Rational.{ℚ, ◌+ℚ◌}
use Rattle.cq_frac.specs.declared.row.Entry.{Entry}
use Rattle.cq_frac.specs.Row.{Row}
use Rattle.cq_frac.specs.Rows.{sum_at}
use Rattle.cq_frac.specs.Numbers.{right_side, IsOver}
use Rattle.cq_frac.proofs.Units.{row_weaker}
use Rattle.cq_dict.specs.declared.table.Role.{Role}
use Rattle.cq_dict.specs.declared.table.Role.TheVariants.{Live, Basic}
use Rattle.cq_dict.specs.Dict.{SameMeaning, DefinesLast}
use Rattle.cq_dict.specs.Roles.{is_live, is_dropped, AreOverColumns, IsMet, Expresses}
use Rattle.cq_dict.proofs.Roles.{at_left, at_last, at_end, live_left, dropped_left}

still_over : (roles : List Role) (t : Role) (r : Row) → IsOver (is_live roles) (is_dropped roles) r → IsOver (is_live (roles ++ t ∷ [])) (is_dropped (roles ++ t ∷ [])) r
still_over roles t r o = record {
  live_row = row_weaker (is_live roles) (is_live (roles ++ t ∷ [])) 0 r.live (live_left roles t) o.live_row;
  dropped_row = row_weaker (is_dropped roles) (is_dropped (roles ++ t ∷ [])) 0 r.dropped (dropped_left roles t) o.dropped_row;
}

pub live_table : (roles : List Role) → AreOverColumns roles → AreOverColumns (roles ++ Live ∷ [])
live_table roles t = record {
  rows = λ i r h.
      elim (at_end roles i (Basic r) Live h) [
        | inl a ↦ still_over roles Live r (t.rows i r a)
        | inr e ↦ let f = e.1 in cc
      ];
}

pub row_table : (roles : List Role) (row : Row) → AreOverColumns roles → IsOver (is_live roles) (is_dropped roles) row → AreOverColumns (roles ++ Basic row ∷ [])
row_table roles row t o = record {
  rows = λ i r h.
      elim (at_end roles i (Basic r) (Basic row) h) [
        | inl a ↦ still_over roles (Basic row) r (t.rows i r a)
        | inr e ↦ let f : row ≡ r = let g = e.1 in cc in still_over roles (Basic row) r (subst (IsOver (is_live roles) (is_dropped roles)) f o)
      ];
}

pub live_same : (roles new : List Role) → new ≡ roles ++ Live ∷ [] → SameMeaning roles new
live_same roles new e x = subst (λ l. IsMet x roles ↔ IsMet x l) (sym e) (
  (λ m. record {
    rows = λ i r h.
        elim (at_end roles i (Basic r) Live h) [
          | inl a ↦ m.rows i r a
          | inr f ↦ let g = f.1 in cc
        ];
  }),
  (λ m. record { rows = λ i r h. m.rows i r (at_left roles i (Basic r) Live h) }),
)

pub row_defines : (roles new : List Role) (form : List Entry) (constant : ℚ) (row : Row) → new ≡ roles ++ Basic row ∷ [] → Expresses roles (λ x. constant +ℚ sum_at x form) row → DefinesLast roles form constant new
row_defines roles new form constant row e k x = subst (λ l. IsMet x l ↔ (IsMet x roles × (x (length roles) ≡ constant +ℚ sum_at x form))) (sym e) (forth, back)
  where
    forth : IsMet x (roles ++ Basic row ∷ []) → IsMet x roles × (x (length roles) ≡ constant +ℚ sum_at x form)
    forth m =
        let old : IsMet x roles = record { rows = λ i r h. m.rows i r (at_left roles i (Basic r) (Basic row) h) } in
        (old, m.rows (length roles) row (at_last roles (Basic row)) ∙ k.value_is x old)

    back : IsMet x roles × (x (length roles) ≡ constant +ℚ sum_at x form) → IsMet x (roles ++ Basic row ∷ [])
    back m = record {
      rows = λ i r h.
          elim (at_end roles i (Basic r) (Basic row) h) [
            | inl a ↦ m.0.rows i r a
            | inr f ↦ let g : row ≡ r = let z = f.1 in cc in ap x f.0 ∙ m.1 ∙ sym (k.value_is x m.0) ∙ ap (right_side x) g
          ];
    }
