-- A dictionary of equations that follow from a list, whose forms stand there, is a dictionary of the list.
use Rattle.std.proofs.Common.{◌≡◌, inl, inr, ℕ, ◌<◌, zero, suc, List, [], ◌∷◌, map, length, arith, refl, ap, ap₂, sym, subst, ◌∙◌}
use Rattle.spec_numbers.specs.Rational.{ℚ, ◌+ℚ◌, ◌*ℚ◌}
use Rattle.spec_numbers.specs.Sums.{Mentions}
use Rattle.spec_linear.specs.Form.{Linear, value_at}
use Rattle.spec_linear.specs.Solution.{Constraint, Point, number, Solves, Has, SomeMentions}
use Rattle.spec_projection.proofs.Members.{has_mapped}
use Rattle.spec_simplex.specs.LimitsDictionary.{Quantity, variable, member, member_at, IsQuantity, SomeFormMentions, IsSet, Expression, amount, sum_over, form_of, AllZero, IsWritten, IsDictionary, without_disequations}
use Rattle.spec_simplex.proofs.LimitsWritten.{some_way, one_way}
use Rattle.cq_project.proofs.Places.{AreAmong, place, back, within, form_there, there_and_back, mentioned_there}

module _ (l k : List Constraint) (a : AreAmong l k) where
  -- the quantity there, and back
  abbrev pub moved : Quantity → Quantity
  moved (variable x) = variable x
  moved (member i) = member (place a i)

  abbrev pub given : Quantity → Quantity
  given (variable x) = variable x
  given (member j) = member (back a j)

  abbrev pub all_moved : List Quantity → List Quantity
  all_moved s = map moved s

  abbrev pub moved_expression : Expression → Expression
  moved_expression e = record { constant = e.constant; entry = λ q. e.entry (given q) }

  abbrev given_expression : Expression → Expression
  given_expression e = record { constant = e.constant; entry = λ q. e.entry (moved q) }

  module _ (asked : List Linear) where
    pub same_quantity : (q : Quantity) → IsQuantity l asked q → given (moved q) ≡ q
    same_quantity (variable x) h = refl
    same_quantity (member i) h = ap member (there_and_back l k a i h)

    pub is_quantity : (q : Quantity) → IsQuantity l asked q → IsQuantity k asked (moved q)
    is_quantity (variable x) (inl h) = inl (mentioned_there l k a x h)
    is_quantity (variable x) (inr h) = inr h
    is_quantity (member i) h = within l k a i h

    pub same_form : (q : Quantity) → IsQuantity l asked q → form_of k (moved q) ≡ form_of l q
    same_form (variable x) h = refl
    same_form (member i) h = form_there l k a i h

    same_amount : (v : ℕ → ℚ) (q : Quantity) → IsQuantity l asked q → amount k v (moved q) ≡ amount l v q
    same_amount v q h = ap (value_at v) (same_form q h)

    abbrev AreQuantities : List Quantity → Type 0
    AreQuantities s = (q : Quantity) → Has q s → IsQuantity l asked q

    less : (q : Quantity) (s : List Quantity) → AreQuantities (q ∷ s) → AreQuantities s
    less q s h r u = h r (inr u)

    zero_given : (v : ℕ → ℚ) (s : List Quantity) → AreQuantities s → AllZero k v (all_moved s) → AllZero l v s
    zero_given v [] h z = tt
    zero_given v (q ∷ s) h z = (sym (same_amount v q (h q (inl refl))) ∙ z.0, zero_given v s (less q s h) z.1)

    zero_moved : (v : ℕ → ℚ) (s : List Quantity) → AreQuantities s → AllZero l v s → AllZero k v (all_moved s)
    zero_moved v [] h z = tt
    zero_moved v (q ∷ s) h z = (same_amount v q (h q (inl refl)) ∙ z.0, zero_moved v s (less q s h) z.1)

    sum_moved : (v : ℕ → ℚ) (e : Quantity → ℚ) (s : List Quantity) → AreQuantities s
        → sum_over (λ q. e (given q) *ℚ amount k v q) (all_moved s) ≡ sum_over (λ q. e q *ℚ amount l v q) s
    sum_moved v e [] h = refl
    sum_moved v e (q ∷ s) h =
        ap₂ (λ x y. x +ℚ y) (ap₂ (λ x y. x *ℚ y) (ap e (same_quantity q (h q (inl refl)))) (same_amount v q (h q (inl refl)))) (sum_moved v e s (less q s h))

    sum_given : (v : ℕ → ℚ) (e : Quantity → ℚ) (s : List Quantity) → AreQuantities s
        → sum_over (λ q. e q *ℚ amount k v q) (all_moved s) ≡ sum_over (λ q. e (moved q) *ℚ amount l v q) s
    sum_given v e [] h = refl
    sum_given v e (q ∷ s) h = ap₂ (λ x y. x +ℚ y) (ap (λ x. e (moved q) *ℚ x) (same_amount v q (h q (inl refl)))) (sum_given v e s (less q s h))

    module _ (zeros columns : List Quantity) (are_zeros : AreQuantities zeros) (are_columns : AreQuantities columns) where
      pub written : (f : Linear) (e : Expression) → IsWritten l zeros columns f e → IsWritten k (all_moved zeros) (all_moved columns) f (moved_expression e)
      written f e w = record { same = λ v z. w.same v (zero_given v zeros are_zeros z) ∙ ap (λ r. e.constant +ℚ r) (sym (sum_moved v e.entry columns are_columns)) }

      written_given : (f : Linear) (e : Expression) → IsWritten k (all_moved zeros) (all_moved columns) f e → IsWritten l zeros columns f (given_expression e)
      written_given f e w = record { same = λ v z. w.same v (zero_moved v zeros are_zeros z) ∙ ap (λ r. e.constant +ℚ r) (sum_given v e.entry columns are_columns) }

      -- a moved quantity that is a moved column comes from that column
      pub column_given : (q : Quantity) → IsQuantity l asked q → (s : List Quantity) → AreQuantities s → Has (moved q) (all_moved s) → Has q s
      column_given q i s h m =
          let r = has_mapped moved (moved q) s m in
          subst (λ p. Has p s) (sym (same_quantity r.from (h r.from r.member)) ∙ ap given (sym r.is) ∙ same_quantity q i) r.member

      set_moved : (s : List Quantity) → AreQuantities s → IsSet s → IsSet (all_moved s)
      set_moved [] h d = tt
      set_moved (q ∷ s) h d = ((λ m. d.0 (column_given q (h q (inl refl)) s (less q s h) m)), set_moved s (less q s h) d.1)

    -- the list is over the quantities, and the equations follow from it
    module _ (zeros columns : List Quantity) (d : IsDictionary l asked zeros columns) (known : (x : ℕ) → SomeMentions x k → IsQuantity l asked (variable x))
        (follows : (p : Point) → Solves p (without_disequations k) → Solves p (without_disequations l)) where
      own_form : (q : Quantity) → IsQuantity k asked q → (x : ℕ) → Mentions x (form_of k q).products → IsQuantity l asked (variable x)
      own_form (variable y) (inl h) x (inl e) = subst (λ z. IsQuantity l asked (variable z)) (sym e) (known y h)
      own_form (variable y) (inr h) x (inl e) = inr (subst (λ z. SomeFormMentions z asked) (sym e) h)
      own_form (variable y) h x (inr n) = absurd n
      own_form (member i) h x m = known x (at_place k i h m)
        where
          at_place : (s : List Constraint) (i : ℕ) → i < length s → Mentions x (member_at s i).form.products → SomeMentions x s
          at_place [] i h m = absurd (omega arith)
          at_place (c ∷ s) zero h m = inl m
          at_place (c ∷ s) (suc i) h m = inr (at_place s i (omega arith) m)

      pub dictionary : IsDictionary k asked (all_moved zeros) (all_moved columns)
      dictionary = record {
        zeros_are_quantities = λ q h. let r = has_mapped moved q zeros h in subst (IsQuantity k asked) (sym r.is) (is_quantity r.from (d.zeros_are_quantities r.from r.member));
        zero = λ q h p s.
            let r = has_mapped moved q zeros h in
            ap (amount k (number p)) r.is ∙ same_amount (number p) r.from (d.zeros_are_quantities r.from r.member) ∙ d.zero r.from r.member p (follows p s);
        columns_are_quantities = λ q h. let r = has_mapped moved q columns h in subst (IsQuantity k asked) (sym r.is) (is_quantity r.from (d.columns_are_quantities r.from r.member));
        once = set_moved zeros columns d.zeros_are_quantities d.columns_are_quantities columns d.columns_are_quantities d.once;
        outside = λ q h z.
            let r = has_mapped moved q columns h in
            let i = d.columns_are_quantities r.from r.member in
            d.outside r.from r.member
            (column_given zeros columns d.zeros_are_quantities d.columns_are_quantities r.from i zeros d.zeros_are_quantities (subst (λ p. Has p (all_moved zeros)) r.is z));
        some_way = λ q h.
            let e = some_way l asked zeros columns d (form_of k q) (own_form q h) in
            (moved_expression e.0, written zeros columns d.zeros_are_quantities d.columns_are_quantities (form_of k q) e.0 e.1);
        one_way = λ q h e g of_e of_g.
            let one = one_way l asked zeros columns d (form_of k q) (given_expression e) (given_expression g)
            (written_given zeros columns d.zeros_are_quantities d.columns_are_quantities (form_of k q) e of_e)
            (written_given zeros columns d.zeros_are_quantities d.columns_are_quantities (form_of k q) g of_g) in
            record {
              constant = one.constant;
              entries = λ c i. let r = has_mapped moved c columns i in ap e.entry r.is ∙ one.entries r.from r.member ∙ ap g.entry (sym r.is);
            };
      }
