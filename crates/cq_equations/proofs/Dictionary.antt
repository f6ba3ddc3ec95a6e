-- A table that speaks of a list is a dictionary of it.
use Rattle.std.proofs.Common.{◌≡◌, ℕ, ◌+◌, List, [], ◌∷◌, ◌++◌, Bool, true, nat_eq, arith, refl, ap, ap₂, sym, subst, ◌∙◌, pos, ◌⊎◌, inl, inr}
use Rattle.spec_numbers.specs.Rational.{ℚ, 0ℚ, 1ℚ, neg_ℚ, ◌+ℚ◌, ◌*ℚ◌}
use Rattle.spec_numbers.proofs.Ring.{var, int, ◌⊕◌, ◌⊗◌, minus}
use Rattle.spec_numbers.proofs.RationalLemmas.{ring}
use Rattle.spec_linear.specs.Form.{Linear, value_at}
use Rattle.spec_linear.specs.Solution.{Constraint, Has}
use Rattle.spec_linear.proofs.Denominators.{has_left, has_right}
use Rattle.spec_simplex.specs.LimitsDictionary.{Quantity, IsSet, IsQuantity, Expression, IsWritten, AreOne, IsDictionary, amount, sum_over, expressed, form_of}
use Rattle.cq_frac.specs.declared.row.Entry.{Entry}
use Rattle.cq_frac.specs.Row.{Row}
use Rattle.cq_frac.specs.Rows.{sum_at, IsRowFrom, unit, choose}
use Rattle.cq_frac.specs.Numbers.{right_side, IsOver}
use Rattle.cq_frac.proofs.Units.{unit_self, unit_other}
use Rattle.cq_dict.specs.declared.table.Role.{Role}
use Rattle.cq_dict.specs.Roles.{is_live, is_dropped, AreOverColumns, IsMet}
use Rattle.cq_equations.specs.Describes.{Agree, Describes, numbers}
use Rattle.cq_dict.proofs.Free.{free}

-- ---- sums over quantities
pub sum_same : (f g : Quantity → ℚ) (s : List Quantity) → ((q : Quantity) → Has q s → f q ≡ g q) → sum_over f s ≡ sum_over g s
sum_same f g [] h = refl
sum_same f g (q ∷ s) h = ap₂ (λ a b. a +ℚ b) (h q (inl refl)) (sum_same f g s (λ r k. h r (inr k)))

pub sum_zero : (f : Quantity → ℚ) (s : List Quantity) → ((q : Quantity) → Has q s → f q ≡ 0ℚ) → sum_over f s ≡ 0ℚ
sum_zero f [] h = refl
sum_zero f (q ∷ s) h = ap₂ (λ a b. a +ℚ b) (h q (inl refl)) (sum_zero f s (λ r k. h r (inr k))) ∙ ring [] (int (pos 0) ⊕ int (pos 0)) (int (pos 0)) refl

pub sum_plus : (f g : Quantity → ℚ) (s : List Quantity) → sum_over (λ q. f q +ℚ g q) s ≡ sum_over f s +ℚ sum_over g s
sum_plus f g [] = ring [] (int (pos 0)) (int (pos 0) ⊕ int (pos 0)) refl
sum_plus f g (q ∷ s) =
    ap (λ w. (f q +ℚ g q) +ℚ w) (sum_plus f g s)
    ∙ ring (f q ∷ g q ∷ sum_over f s ∷ sum_over g s ∷ []) ((var 0 ⊕ var 1) ⊕ (var 2 ⊕ var 3)) ((var 0 ⊕ var 2) ⊕ (var 1 ⊕ var 3)) refl

-- the one quantity of a set whose number is c
module _ (place : Quantity → ℕ) where
  pub pick_one : (c : ℕ) (g : Quantity → ℚ) (s : List Quantity) (q : Quantity) → IsSet s → ((a b : Quantity) → Has a s → Has b s → place a ≡ place b → a ≡ b) → Has q s → place q ≡ c → sum_over (λ r. unit (place r) c *ℚ g r) s ≡ g q
  pick_one c g [] q t a h e = absurd h
  pick_one c g (r ∷ s) q t a (inl w) e =
      let z : sum_over (λ r. unit (place r) c *ℚ g r) s ≡ 0ℚ =
      sum_zero (λ r. unit (place r) c *ℚ g r) s (λ b k.
      ap (λ u. u *ℚ g b) (unit_other (place b) c (λ f. t.0 (subst (λ y. Has y s) (sym (a r b (inl refl) (inr k) (ap place (sym w) ∙ e ∙ f))) k)))
      ∙ ring (g b ∷ []) (int (pos 0) ⊗ var 0) (int (pos 0)) refl) in
      let o : unit (place r) c ≡ 1ℚ = ap (λ y. unit (place y) c) (sym w) ∙ ap (λ n. unit n c) e ∙ unit_self c in
      ap₂ (λ u b. u *ℚ g r +ℚ b) o z ∙ ring (g r ∷ []) (int (pos 1) ⊗ var 0 ⊕ int (pos 0)) (var 0) refl ∙ ap g (sym w)
  pick_one c g (r ∷ s) q t a (inr h) e =
      let o : unit (place r) c ≡ 0ℚ = unit_other (place r) c (λ f. t.0 (subst (λ y. Has y s) (a q r (inr h) (inl refl) (e ∙ f)) h)) in
      ap₂ (λ u b. u *ℚ g r +ℚ b) o (pick_one c g s q t.1 (λ x y k l f. a x y (inr k) (inr l) f) h e) ∙ ring (g r ∷ g q ∷ []) (int (pos 0) ⊗ var 0 ⊕ var 1) (var 1) refl

  -- the entries of a row, summed by quantities
  pub by_quantities : (x : ℕ → ℚ) (s : List Quantity) (p : ℕ → Bool) (lo : ℕ) (row : List Entry) → IsSet s → ((a b : Quantity) → Has a s → Has b s → place a ≡ place b → a ≡ b) →
      ((c : ℕ) → p c ≡ true → (q : Quantity) × Has q s × (place q ≡ c)) → IsRowFrom p lo row → sum_at x row ≡ sum_over (λ q. sum_at (unit (place q)) row *ℚ x (place q)) s
  by_quantities x s p lo [] t a each r = sym (sum_zero (λ q. 0ℚ *ℚ x (place q)) s (λ q h. ring (x (place q) ∷ []) (int (pos 0) ⊗ var 0) (int (pos 0)) refl))
  by_quantities x s p lo (m ∷ row) t a each r =
      let q = each m.quantity r.1 in
      let one : sum_over (λ b. unit (place b) m.quantity *ℚ (m.factor *ℚ x (place b))) s ≡ m.factor *ℚ x m.quantity =
      pick_one m.quantity (λ b. m.factor *ℚ x (place b)) s q.0 t a q.1 q.2 ∙ ap (λ c. m.factor *ℚ x c) q.2 in
      ap₂ (λ u w. u +ℚ w) (sym one) (by_quantities x s p (m.quantity + 1) row t a each r.3)
      ∙ sym (sum_plus (λ b. unit (place b) m.quantity *ℚ (m.factor *ℚ x (place b))) (λ q. sum_at (unit (place q)) row *ℚ x (place q)) s)
      ∙ sum_same _ (λ q. sum_at (unit (place q)) (m ∷ row) *ℚ x (place q)) s (λ b k.
      ring (unit (place b) m.quantity ∷ m.factor ∷ x (place b) ∷ sum_at (unit (place b)) row ∷ []) (var 0 ⊗ (var 1 ⊗ var 2) ⊕ var 3 ⊗ var 2) ((var 1 ⊗ var 0 ⊕ var 3) ⊗ var 2) refl)

pub has_either : (q : Quantity) (s t : List Quantity) → Has q (s ++ t) → Has q s ⊎ Has q t
has_either q [] t h = inr h
has_either q (r ∷ s) t (inl e) = inl (inl e)
has_either q (r ∷ s) t (inr h) = elim (has_either q s t h) [ inl k ↦ inl (inr k) | inr k ↦ inr k ]

module _ (l : List Constraint) (asked : List Linear) (roles : List Role) (place : Quantity → ℕ) (live gone : List Quantity) (table : AreOverColumns roles) (d : Describes l asked roles place live gone) where
  each_live : (c : ℕ) → is_live roles c ≡ true → (q : Quantity) × Has q (live ++ gone) × (place q ≡ c)
  each_live c h = let e = d.each_live c h in (e.0, has_left e.0 live gone e.1, e.2)

  each_gone : (c : ℕ) → is_dropped roles c ≡ true → (q : Quantity) × Has q (live ++ gone) × (place q ≡ c)
  each_gone c h = let e = d.each_gone c h in (e.0, has_right e.0 live gone e.1, e.2)

  -- what a row says at assignments that agree
  pub row_value : (v x : ℕ → ℚ) (r : Row) → Agree l asked place v x → IsOver (is_live roles) (is_dropped roles) r → right_side x r ≡ expressed l v (live ++ gone) (numbers place r)
  row_value v x r a o =
      ap (λ w. r.constant +ℚ w)
      (ap₂ (λ u w. u +ℚ w)
      (by_quantities place x (live ++ gone) (is_live roles) 0 r.live d.once d.apart each_live o.live_row)
      (by_quantities place x (live ++ gone) (is_dropped roles) 0 r.dropped d.once d.apart each_gone o.dropped_row)
      ∙ sym (sum_plus (λ q. sum_at (unit (place q)) r.live *ℚ x (place q)) (λ q. sum_at (unit (place q)) r.dropped *ℚ x (place q)) (live ++ gone))
      ∙ sum_same _ (λ q. (numbers place r).entry q *ℚ amount l v q) (live ++ gone) (λ q h.
      ring (sum_at (unit (place q)) r.live ∷ sum_at (unit (place q)) r.dropped ∷ x (place q) ∷ []) (var 0 ⊗ var 2 ⊕ var 1 ⊗ var 2) ((var 0 ⊕ var 1) ⊗ var 2) refl
      ∙ ap (λ w. (sum_at (unit (place q)) r.live +ℚ sum_at (unit (place q)) r.dropped) *ℚ w) (a.same q (d.columns q h))))

  -- a form that is a row's value wherever assignments agree is written by its numbers
  pub row_written : (f : Linear) (r : Row) → IsOver (is_live roles) (is_dropped roles) r → ((v x : ℕ → ℚ) → IsMet x roles → Agree l asked place v x → value_at v f ≡ right_side x r) → IsWritten l [] (live ++ gone) f (numbers place r)
  row_written f r o h = record { same = λ v z. let x = d.forth v in h v x.0 x.1 x.2 ∙ row_value v x.0 r x.2 o }

  -- a column is written by itself
  pub column_written : (q : Quantity) → Has q (live ++ gone) → (e : Expression) × IsWritten l [] (live ++ gone) (form_of l q) e
  column_written q h = (
    record { constant = 0ℚ; entry = λ r. unit (place r) (place q) },
    record {
      same = λ v z.
          sym (ap (λ w. 0ℚ +ℚ w) (pick_one place (place q) (amount l v) (live ++ gone) q d.once d.apart h refl)
          ∙ ring (amount l v q ∷ []) (int (pos 0) ⊕ var 0) (var 0) refl);
    },
  )

  some_way : (q : Quantity) → IsQuantity l asked q → (e : Expression) × IsWritten l [] (live ++ gone) (form_of l q) e
  some_way q i =
      elim (d.others q i) [
        | inl h ↦ column_written q h
        | inr k ↦ (numbers place k.0, row_written (form_of l q) k.0 (table.rows (place q) k.0 k.1) (λ v x m a. sym (a.same q i) ∙ m.rows (place q) k.0 k.1))
      ]

  -- both expressions agree at every choice of the columns' values
  chosen : (y : ℕ → ℚ) (f : Linear) (e g : Expression) → IsWritten l [] (live ++ gone) f e → IsWritten l [] (live ++ gone) f g → e.constant +ℚ sum_over (λ q. e.entry q *ℚ y (place q)) (live ++ gone) ≡ g.constant +ℚ sum_over (λ q. g.entry q *ℚ y (place q)) (live ++ gone)
  chosen y f e g we wg =
      let x = free roles table y in
      let v = d.back x.0 x.1 in
      let value : (q : Quantity) → Has q (live ++ gone) → amount l v.0 q ≡ y (place q) =
      λ q h. sym (v.1.same q (d.columns q h)) ∙ elim (has_either q live gone h) [ inl k ↦ x.2 (place q) (d.live_is q k) | inr k ↦ x.3 (place q) (d.gone_is q k) ] in
      let at = λ (c : Expression). ap (λ w. c.constant +ℚ w) (sum_same (λ q. c.entry q *ℚ amount l v.0 q) (λ q. c.entry q *ℚ y (place q)) (live ++ gone) (λ q h. ap (λ w. c.entry q *ℚ w) (value q h))) in
      sym (at e) ∙ sym (we.same v.0 tt) ∙ wg.same v.0 tt ∙ at g

  at_zero : (e : Expression) → e.constant +ℚ sum_over (λ q. e.entry q *ℚ 0ℚ) (live ++ gone) ≡ e.constant
  at_zero e = ap (λ w. e.constant +ℚ w) (sum_zero (λ q. e.entry q *ℚ 0ℚ) (live ++ gone) (λ q h. ring (e.entry q ∷ []) (var 0 ⊗ int (pos 0)) (int (pos 0)) refl)) ∙ ring (e.constant ∷ []) (var 0 ⊕ int (pos 0)) (var 0) refl

  -- the unit of q's number, seen from a quantity r: 1 exactly where r is q
  at_unit : (e : Expression) (q : Quantity) → Has q (live ++ gone) → sum_over (λ r. e.entry r *ℚ unit (place q) (place r)) (live ++ gone) ≡ e.entry q
  at_unit e q h =
      sum_same (λ r. e.entry r *ℚ unit (place q) (place r)) (λ r. unit (place r) (place q) *ℚ e.entry r) (live ++ gone) (λ r k.
      ap (λ w. e.entry r *ℚ w) (turned (place q) (place r)) ∙ ring (e.entry r ∷ unit (place r) (place q) ∷ []) (var 0 ⊗ var 1) (var 1 ⊗ var 0) refl)
      ∙ pick_one place (place q) e.entry (live ++ gone) q d.once d.apart h refl
    where
      turned : (a b : ℕ) → unit a b ≡ unit b a
      turned a b = ap (λ t. choose t 1ℚ 0ℚ) (eq_turned a b)
        where
          eq_turned : (a b : ℕ) → nat_eq b a ≡ nat_eq a b
          eq_turned a b = grind arith

  pub one_way : (f : Linear) (e g : Expression) → IsWritten l [] (live ++ gone) f e → IsWritten l [] (live ++ gone) f g → AreOne (live ++ gone) e g
  one_way f e g we wg =
      let c : e.constant ≡ g.constant = sym (at_zero e) ∙ chosen (λ c. 0ℚ) f e g we wg ∙ at_zero g in
      record {
        constant = c;
        entries = λ q h.
            let w : g.constant +ℚ e.entry q ≡ g.constant +ℚ g.entry q =
            ap₂ (λ a b. a +ℚ b) (sym c) (sym (at_unit e q h)) ∙ chosen (unit (place q)) f e g we wg ∙ ap (λ b. g.constant +ℚ b) (at_unit g q h) in
            ring (g.constant ∷ e.entry q ∷ []) (var 1) (minus (var 0) ⊕ (var 0 ⊕ var 1)) refl ∙ ap (λ s. neg_ℚ g.constant +ℚ s) w ∙ ring (g.constant ∷ g.entry q ∷ []) (minus (var 0) ⊕ (var 0 ⊕ var 1)) (var 1) refl;
      }

  pub dictionary : IsDictionary l asked [] (live ++ gone)
  dictionary = record {
    zeros_are_quantities = λ q h. absurd h;
    zero = λ q h p s. absurd h;
    columns_are_quantities = d.columns;
    once = d.once;
    outside = λ q h k. k;
    some_way = some_way;
    one_way = λ q i e g we wg. one_way (form_of l q) e g we wg;
  }
