-- A table of solved equations gives a feasible dictionary of its live columns.
use Rattle.std.proofs.Common.{◌≡◌, ◌↔◌, ℕ, zero, suc, ◌+◌, ◌<◌, List, [], ◌∷◌, ◌++◌, length, true, false, nat_eq, arith, refl, ap, ap₂, sym, subst, ◌∙◌, pos, inl, inr}
use Rattle.spec_numbers.specs.Rational.{ℚ, 0ℚ, 1ℚ, neg_ℚ, ◌+ℚ◌, ◌*ℚ◌}
use Rattle.spec_numbers.proofs.Ring.{var, int, ◌⊕◌, ◌⊗◌, minus}
use Rattle.spec_numbers.proofs.RationalLemmas.{ring}
use Rattle.spec_linear.specs.Form.{Linear, value_at}
use Rattle.spec_linear.specs.Solution.{Constraint, Has, Meets, HoldsAt, Satisfies, Point, number, Solves}
use Rattle.spec_linear.specs.declared.Relation.TheVariants.{Eq}
use Rattle.spec_linear.proofs.Denominators.{has_left, has_right}
use Rattle.spec_linear.proofs.Points.{solves_same}
use Rattle.spec_simplex.specs.LimitsDictionary.{Quantity, variable, member, member_at, IsSet, IsQuantity, Expression, IsWritten, AreOne, IsFeasible, IsRestricted, amount, sum_over, expressed, form_of, AllZero, in_front_unless_disequation, without_disequations}
use Rattle.spec_projection.specs.Elimination.{IsInequality}
use Rattle.cq_frac.specs.declared.row.Entry.{Entry}
use Rattle.cq_frac.specs.Row.{Row}
use Rattle.cq_frac.specs.Rows.{sum_at, unit, choose}
use Rattle.cq_frac.specs.Numbers.{right_side, IsOver}
use Rattle.cq_dict.specs.declared.table.Role.{Role}
use Rattle.cq_dict.specs.declared.table.Role.TheVariants.{Live, Dropped, Basic}
use Rattle.cq_dict.specs.Roles.{IsAt, is_live, is_dropped, AreOverColumns}
use Rattle.cq_equations.specs.Describes.{Describes, IsSolved, members_from}
use Rattle.cq_dict.proofs.Roles.{role_live, role_dropped, at_one, live_at}
use Rattle.cq_dict.proofs.Free.{free, sum_agrees}
use Rattle.cq_equations.proofs.Dictionary.{sum_same, sum_zero, pick_one, has_either, dictionary}

pub sum_append : (f : Quantity → ℚ) (s t : List Quantity) → sum_over f (s ++ t) ≡ sum_over f s +ℚ sum_over f t
sum_append f [] t = ring (sum_over f t ∷ []) (var 0) (int (pos 0) ⊕ var 0) refl
sum_append f (q ∷ s) t = ap (λ w. f q +ℚ w) (sum_append f s t) ∙ ring (f q ∷ sum_over f s ∷ sum_over f t ∷ []) (var 0 ⊕ (var 1 ⊕ var 2)) (var 0 ⊕ var 1 ⊕ var 2) refl

member_in : (n i : ℕ) (l : List Constraint) → i < length l → Has (member (n + i)) (members_from n l)
member_in n i [] h = absurd (omega arith)
member_in n zero (c ∷ l) h = inl (ap member (omega arith))
member_in n (suc i) (c ∷ l) h = inr (subst (λ k. Has (member k) (members_from (suc n) l)) (omega arith) (member_in (suc n) i l (omega arith)))

pub in_members : (i : ℕ) (l : List Constraint) → i < length l → Has (member i) (members_from 0 l)
in_members i l h = subst (λ k. Has (member k) (members_from 0 l)) (omega arith) (member_in 0 i l h)

pub of_members : (n : ℕ) (l : List Constraint) (q : Quantity) → Has q (members_from n l) → (i : ℕ) × (i < length l) × (q ≡ member (n + i))
of_members n [] q h = absurd h
of_members n (c ∷ l) q (inl e) = (0, omega arith, e ∙ ap member (omega arith))
of_members n (c ∷ l) q (inr h) = let r = of_members (suc n) l q h in (suc r.0, omega (arith, r.1), r.2 ∙ ap member (omega arith))

pub all_zero : (l : List Constraint) (v : ℕ → ℚ) (s : List Quantity) → ((q : Quantity) → Has q s → amount l v q ≡ 0ℚ) → AllZero l v s
all_zero l v [] h = tt
all_zero l v (q ∷ s) h = (h q (inl refl), all_zero l v s (λ r k. h r (inr k)))

pub zero_of : (l : List Constraint) (v : ℕ → ℚ) (s : List Quantity) (q : Quantity) → AllZero l v s → Has q s → amount l v q ≡ 0ℚ
zero_of l v [] q z h = absurd h
zero_of l v (r ∷ s) q z (inl e) = ap (amount l v) e ∙ z.0
zero_of l v (r ∷ s) q z (inr h) = zero_of l v s q z.1 h

pub set_left : (s t : List Quantity) → IsSet (s ++ t) → IsSet s
set_left [] t h = tt
set_left (q ∷ s) t h = ((λ k. h.0 (has_left q s t k)), set_left s t h.1)

pub set_apart : (s t : List Quantity) (q : Quantity) → IsSet (s ++ t) → Has q s → Has q t → ⊥
set_apart [] t q h k m = k
set_apart (r ∷ s) t q h (inl e) m = h.0 (subst (λ y. Has y (s ++ t)) e (has_right q s t m))
set_apart (r ∷ s) t q h (inr k) m = set_apart s t q h.1 k m

-- a list of equations has no disequation to leave out
pub same_list : (l : List Constraint) → ((i : ℕ) → i < length l → (member_at l i).relation ≡ Eq) → without_disequations l ≡ l
same_list [] e = refl
same_list (c ∷ l) e = ap (λ r. in_front_unless_disequation r c (without_disequations l)) (e 0 (omega arith)) ∙ ap (λ s. c ∷ s) (same_list l (λ i k. e (suc i) (omega (arith, k))))

pub holds_at : (v : ℕ → ℚ) (l : List Constraint) (i : ℕ) → Satisfies v l → i < length l → HoldsAt v (member_at l i)
holds_at v [] i h k = absurd (omega arith)
holds_at v (c ∷ l) zero h k = h.0
holds_at v (c ∷ l) (suc i) h k = holds_at v l i h.1 (omega arith)

pub turned : (a b : ℕ) → unit a b ≡ unit b a
turned a b = ap (λ t. choose t 1ℚ 0ℚ) (eq_turned a b)
  where
    eq_turned : (a b : ℕ) → nat_eq b a ≡ nat_eq a b
    eq_turned a b = grind arith

module _ (l : List Constraint) (asked : List Linear) (roles : List Role) (place : Quantity → ℕ) (live gone : List Quantity) (table : AreOverColumns roles) (d : Describes l asked roles place live gone) (solved : IsSolved l roles place gone) where
  pub gone_in : (q : Quantity) → Has q gone → Has q (members_from 0 l)
  gone_in q h = let m = solved.only q h in subst (λ y. Has y (members_from 0 l)) (sym m.2) (in_members m.0 l m.1)

  -- a live column is no member's form
  outside : (q : Quantity) → Has q live → Has q (members_from 0 l) → ⊥
  outside q h k =
      let m = of_members 0 l q k in
      let e : q ≡ member m.0 = m.2 ∙ ap member (omega arith) in
      elim (solved.members m.0 m.1) [
        | inl g ↦ set_apart live gone q d.once h (subst (λ y. Has y gone) (sym e) g)
        | inr r ↦
            let a = role_live roles (place q) (d.live_is q h) in
            let b : IsAt roles (place q) (Basic r.0) = subst (λ y. IsAt roles (place y) (Basic r.0)) (sym e) r.1 in
            let w = at_one roles (place q) Live (Basic r.0) a b in cc
      ]

  -- where the members' forms are zero, the dropped columns add nothing
  without_gone : (v : ℕ → ℚ) (e : Expression) → AllZero l v (members_from 0 l) → expressed l v (live ++ gone) e ≡ expressed l v live e
  without_gone v e z =
      ap (λ w. e.constant +ℚ w)
      (sum_append (λ q. e.entry q *ℚ amount l v q) live gone
      ∙ ap (λ w. sum_over (λ q. e.entry q *ℚ amount l v q) live +ℚ w)
      (sum_zero (λ q. e.entry q *ℚ amount l v q) gone (λ q h. ap (λ w. e.entry q *ℚ w) (zero_of l v (members_from 0 l) q z (gone_in q h)) ∙ ring (e.entry q ∷ []) (var 0 ⊗ int (pos 0)) (int (pos 0)) refl))
      ∙ ring (sum_over (λ q. e.entry q *ℚ amount l v q) live ∷ []) (var 0 ⊕ int (pos 0)) (var 0) refl)

  some_way : (q : Quantity) → IsQuantity l asked q → (e : Expression) × IsWritten l (members_from 0 l) live (form_of l q) e
  some_way q i =
      let w = (dictionary l asked roles place live gone table d).some_way q i in
      (w.0, record { same = λ v z. w.1.same v tt ∙ without_gone v w.0 z })

  -- the live columns can be chosen while every member's form is zero
  abbrev only_live : (ℕ → ℚ) → ℕ → ℚ
  only_live y c = choose (is_live roles c) (y c) 0ℚ

  pub no_live : (c : ℕ) → is_dropped roles c ≡ true → is_live roles c ≡ false
  no_live c h = live_at roles c Dropped (role_dropped roles c h)

  pub row_zero : (x : ℕ → ℚ) (r : Row) → IsOver (is_live roles) (is_dropped roles) r → ((c : ℕ) → is_dropped roles c ≡ true → x c ≡ 0ℚ) → r.live ≡ [] → r.constant ≡ 0ℚ → right_side x r ≡ 0ℚ
  row_zero x r o h e f =
      ap₂ (λ a b. a +ℚ b) f (ap₂ (λ a b. a +ℚ b) (ap (sum_at x) e) (sum_agrees (is_dropped roles) 0 x (λ c. 0ℚ) r.dropped o.dropped_row h ∙ nothing_there r.dropped))
      ∙ ring [] (int (pos 0) ⊕ (int (pos 0) ⊕ int (pos 0))) (int (pos 0)) refl
    where
      nothing_there : (s : List Entry) → sum_at (λ c. 0ℚ) s ≡ 0ℚ
      nothing_there [] = refl
      nothing_there (m ∷ s) = ap (λ w. m.factor *ℚ 0ℚ +ℚ w) (nothing_there s) ∙ ring (m.factor ∷ []) (var 0 ⊗ int (pos 0) ⊕ int (pos 0)) (int (pos 0)) refl

  pub record Chosen (y : ℕ → ℚ) : Type 0 where
    pub v : ℕ → ℚ
    pub zero : AllZero l v (members_from 0 l)
    pub value : (q : Quantity) → Has q live → amount l v q ≡ y (place q)

  -- for every choice of the live columns' values there is an assignment of the variables at which each member's form is zero
  pub choice : (y : ℕ → ℚ) → Chosen y
  choice y =
      let x = free roles table (only_live y) in
      let v = d.back x.0 x.1 in
      let dropped_zero : (c : ℕ) → is_dropped roles c ≡ true → x.0 c ≡ 0ℚ = λ c h. x.3 c h ∙ ap (λ b. choose b (y c) 0ℚ) (no_live c h) in
      let member_zero : (i : ℕ) → i < length l → IsQuantity l asked (member i) → amount l v.0 (member i) ≡ 0ℚ =
      λ i k j.
      elim (solved.members i k) [
        | inl g ↦ sym (v.1.same (member i) j) ∙ dropped_zero (place (member i)) (d.gone_is (member i) g)
        | inr r ↦ sym (v.1.same (member i) j) ∙ x.1.rows (place (member i)) r.0 r.1 ∙ row_zero x.0 r.0 (table.rows (place (member i)) r.0 r.1) dropped_zero r.2 r.3
      ] in
      record {
        v = v.0;
        zero = all_zero l v.0 (members_from 0 l) (λ q h. let m = of_members 0 l q h in let e : q ≡ member m.0 = m.2 ∙ ap member (omega arith) in ap (amount l v.0) e ∙ member_zero m.0 m.1 m.1);
        value = λ q h. sym (v.1.same q (d.columns q (has_left q live gone h))) ∙ x.2 (place q) (d.live_is q h) ∙ ap (λ b. choose b (y (place q)) 0ℚ) (d.live_is q h);
      }

  chosen : (y : ℕ → ℚ) (f : Linear) (e g : Expression) → IsWritten l (members_from 0 l) live f e → IsWritten l (members_from 0 l) live f g → e.constant +ℚ sum_over (λ q. e.entry q *ℚ y (place q)) live ≡ g.constant +ℚ sum_over (λ q. g.entry q *ℚ y (place q)) live
  chosen y f e g we wg =
      let c = choice y in
      let at = λ (b : Expression). ap (λ w. b.constant +ℚ w) (sum_same (λ q. b.entry q *ℚ amount l c.v q) (λ q. b.entry q *ℚ y (place q)) live (λ q h. ap (λ w. b.entry q *ℚ w) (c.value q h))) in
      sym (at e) ∙ sym (we.same c.v c.zero) ∙ wg.same c.v c.zero ∙ at g

  pub live_apart : (a b : Quantity) → Has a live → Has b live → place a ≡ place b → a ≡ b
  live_apart a b h k e = d.apart a b (has_left a live gone h) (has_left b live gone k) e

  pub at_zero : (e : Expression) → e.constant +ℚ sum_over (λ q. e.entry q *ℚ 0ℚ) live ≡ e.constant
  at_zero e = ap (λ w. e.constant +ℚ w) (sum_zero (λ q. e.entry q *ℚ 0ℚ) live (λ q h. ring (e.entry q ∷ []) (var 0 ⊗ int (pos 0)) (int (pos 0)) refl)) ∙ ring (e.constant ∷ []) (var 0 ⊕ int (pos 0)) (var 0) refl

  pub at_unit : (e : Expression) (q : Quantity) → Has q live → sum_over (λ r. e.entry r *ℚ unit (place q) (place r)) live ≡ e.entry q
  at_unit e q h =
      sum_same (λ r. e.entry r *ℚ unit (place q) (place r)) (λ r. unit (place r) (place q) *ℚ e.entry r) live (λ r k.
      ap (λ w. e.entry r *ℚ w) (turned (place q) (place r)) ∙ ring (e.entry r ∷ unit (place r) (place q) ∷ []) (var 0 ⊗ var 1) (var 1 ⊗ var 0) refl)
      ∙ pick_one place (place q) e.entry live q (set_left live gone d.once) live_apart h refl

  one_way : (f : Linear) (e g : Expression) → IsWritten l (members_from 0 l) live f e → IsWritten l (members_from 0 l) live f g → AreOne live e g
  one_way f e g we wg =
      let c : e.constant ≡ g.constant = sym (at_zero e) ∙ chosen (λ c. 0ℚ) f e g we wg ∙ at_zero g in
      record {
        constant = c;
        entries = λ q h.
            let w : g.constant +ℚ e.entry q ≡ g.constant +ℚ g.entry q =
            ap₂ (λ a b. a +ℚ b) (sym c) (sym (at_unit e q h)) ∙ chosen (unit (place q)) f e g we wg ∙ ap (λ b. g.constant +ℚ b) (at_unit g q h) in
            ring (g.constant ∷ e.entry q ∷ []) (var 1) (minus (var 0) ⊕ (var 0 ⊕ var 1)) refl ∙ ap (λ s. neg_ℚ g.constant +ℚ s) w ∙ ring (g.constant ∷ g.entry q ∷ []) (minus (var 0) ⊕ (var 0 ⊕ var 1)) (var 1) refl;
      }

  no_restricted : (q : Quantity) → IsRestricted l q → ⊥
  no_restricted (variable x) r = r
  no_restricted (member i) r = subst IsInequality (solved.equations i r.0) r.1

  zeros_are_quantities : (q : Quantity) → Has q (members_from 0 l) → IsQuantity l asked q
  zeros_are_quantities q h = let m = of_members 0 l q h in let e : q ≡ member m.0 = m.2 ∙ ap member (omega arith) in subst (IsQuantity l asked) (sym e) m.1

  zero_there : (q : Quantity) → Has q (members_from 0 l) → (p : Point) → Solves p (without_disequations l) → amount l (number p) q ≡ 0ℚ
  zero_there q h p s =
      let m = of_members 0 l q h in
      let e : q ≡ member m.0 = m.2 ∙ ap member (omega arith) in
      let t : Solves p l = subst (Solves p) (same_list l solved.equations) s in
      let k = holds_at (number p) l m.0 ((solves_same p l).0 t) m.1 in
      ap (amount l (number p)) e ∙ subst (λ r. Meets r (value_at (number p) (member_at l m.0).form)) (solved.equations m.0 m.1) k

  pub feasible : IsFeasible l asked (members_from 0 l) live
  feasible = record {
    dictionary = record {
      zeros_are_quantities = zeros_are_quantities;
      zero = zero_there;
      columns_are_quantities = λ q h. d.columns q (has_left q live gone h);
      once = set_left live gone d.once;
      outside = outside;
      some_way = some_way;
      one_way = λ q i e g we wg. one_way (form_of l q) e g we wg;
    };
    equations = λ i h e. in_members i l h;
    constants = λ q r a b e w. absurd (no_restricted q r);
    free = λ x h q r e w. absurd (no_restricted q r);
  }

  -- the live columns are the columns without the members' forms
  pub rest : (q : Quantity) → Has q live ↔ (Has q (live ++ gone) × (Has q (members_from 0 l) → ⊥))
  rest q = (
    (λ h. (has_left q live gone h, (λ k. outside q h k))),
    (λ h. elim (has_either q live gone h.0) [ inl k ↦ k | inr k ↦ absurd (h.1 (gone_in q k)) ]),
  )
