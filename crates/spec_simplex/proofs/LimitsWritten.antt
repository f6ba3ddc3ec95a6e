-- Over a dictionary each form of the quantities is written in one way, and in no other.
use Rattle.std.proofs.Common.{◌≡◌, inl, inr, ℕ, List, [], ◌∷◌, pos, refl, ap, ap₂, sym, subst, ◌∙◌}
use Rattle.spec_numbers.specs.Rational.{ℚ, 0ℚ, 1ℚ, ◌+ℚ◌, ◌*ℚ◌, neg_ℚ}
use Rattle.spec_numbers.specs.Sums.{Monomial, Mentions, sum_at}
use Rattle.spec_numbers.proofs.Ring.{var, int, ◌⊕◌, ◌⊗◌, minus}
use Rattle.spec_numbers.proofs.RationalLemmas.{ring}
use Rattle.spec_linear.specs.Form.{Linear, value_at}
use Rattle.spec_linear.specs.Solution.{Constraint, Has}
use Rattle.spec_linear.proofs.Values.{value_at-variable_form}
use Rattle.spec_simplex.specs.LimitsDictionary.{Quantity, variable, IsQuantity, SomeFormMentions, Expression, amount, sum_over, expressed, AllZero, IsWritten, AreOne, IsDictionary, form_of}

-- ---- expressions with a multiple of one added to another

abbrev mixed : ℚ → Expression → Expression → Expression
mixed k d e = record { constant = k *ℚ d.constant +ℚ e.constant; entry = λ q. k *ℚ d.entry q +ℚ e.entry q }

sum_over-mixed : (k : ℚ) (d e g : Quantity → ℚ) (s : List Quantity)
    → sum_over (λ q. (k *ℚ d q +ℚ e q) *ℚ g q) s ≡ k *ℚ sum_over (λ q. d q *ℚ g q) s +ℚ sum_over (λ q. e q *ℚ g q) s
sum_over-mixed k d e g [] = ring (k ∷ []) (int (pos 0)) (var 0 ⊗ int (pos 0) ⊕ int (pos 0)) refl
sum_over-mixed k d e g (q ∷ s) =
    ap (λ r. (k *ℚ d q +ℚ e q) *ℚ g q +ℚ r) (sum_over-mixed k d e g s)
    ∙ ring (k ∷ d q ∷ e q ∷ g q ∷ sum_over (λ q. d q *ℚ g q) s ∷ sum_over (λ q. e q *ℚ g q) s ∷ [])
    ((var 0 ⊗ var 1 ⊕ var 2) ⊗ var 3 ⊕ (var 0 ⊗ var 4 ⊕ var 5)) (var 0 ⊗ (var 1 ⊗ var 3 ⊕ var 4) ⊕ (var 2 ⊗ var 3 ⊕ var 5)) refl

module _ (l : List Constraint) (v : ℕ → ℚ) (columns : List Quantity) where
  expressed-mixed : (k : ℚ) (d e : Expression) → expressed l v columns (mixed k d e) ≡ k *ℚ expressed l v columns d +ℚ expressed l v columns e
  expressed-mixed k d e =
      ap (λ r. (k *ℚ d.constant +ℚ e.constant) +ℚ r) (sum_over-mixed k d.entry e.entry (amount l v) columns)
      ∙ ring (k ∷ d.constant ∷ e.constant ∷ sum_over (λ q. d.entry q *ℚ amount l v q) columns ∷ sum_over (λ q. e.entry q *ℚ amount l v q) columns ∷ [])
      ((var 0 ⊗ var 1 ⊕ var 2) ⊕ (var 0 ⊗ var 3 ⊕ var 4)) (var 0 ⊗ (var 1 ⊕ var 3) ⊕ (var 2 ⊕ var 4)) refl

  nothing_over : (s : List Quantity) → sum_over (λ q. 0ℚ *ℚ amount l v q) s ≡ 0ℚ
  nothing_over [] = refl
  nothing_over (q ∷ s) = ap (λ r. 0ℚ *ℚ amount l v q +ℚ r) (nothing_over s) ∙ ring (amount l v q ∷ []) (int (pos 0) ⊗ var 0 ⊕ int (pos 0)) (int (pos 0)) refl

module _ (l : List Constraint) (asked : List Linear) (zeros columns : List Quantity) (dictionary : IsDictionary l asked zeros columns) where
  -- ---- some way

  number_written : (c : ℚ) → IsWritten l zeros columns (record { products = []; constant = c }) (record { constant = c; entry = λ q. 0ℚ })
  number_written c = record { same = λ v z. sym (ap (λ r. c +ℚ r) (nothing_over l v columns columns)) }

  products_written : (c : ℚ) (s : List Monomial) → ((x : ℕ) → Mentions x s → IsQuantity l asked (variable x))
      → (e : Expression) × IsWritten l zeros columns (record { products = s; constant = c }) e
  products_written c [] h = (record { constant = c; entry = λ q. 0ℚ }, number_written c)
  products_written c (m ∷ s) h =
      let own = dictionary.some_way (variable m.variable) (h m.variable (inl refl)) in
      let rest = products_written c s (λ x k. h x (inr k)) in (
        mixed m.factor own.0 rest.0,
        record {
          same = λ v z.
              ring (c ∷ (m.factor *ℚ v m.variable) ∷ sum_at v s ∷ []) (var 0 ⊕ (var 1 ⊕ var 2)) (var 1 ⊕ (var 0 ⊕ var 2)) refl
              ∙ ap₂ (λ p q. m.factor *ℚ p +ℚ q) (sym (value_at-variable_form v m.variable) ∙ own.1.same v z) (rest.1.same v z)
              ∙ sym (expressed-mixed l v columns m.factor own.0 rest.0);
        },
      )

  pub some_way : (f : Linear) → ((x : ℕ) → Mentions x f.products → IsQuantity l asked (variable x)) → (e : Expression) × IsWritten l zeros columns f e
  some_way f h = products_written f.constant f.products h

  -- ---- no other

  module _ (f : Linear) (d e : Expression) (of_d : IsWritten l zeros columns f d) (of_e : IsWritten l zeros columns f e) where
    -- a quantity's expression with the difference of the two added
    abbrev shifted : Expression → Expression
    shifted w = mixed 1ℚ d (mixed (neg_ℚ 1ℚ) e w)

    shifted_written : (g : Linear) (w : Expression) → IsWritten l zeros columns g w → IsWritten l zeros columns g (shifted w)
    shifted_written g w h = record {
      same = λ v z.
          h.same v z
          ∙ ring (expressed l v columns w ∷ value_at v f ∷ []) (var 0) (int (pos 1) ⊗ var 1 ⊕ (minus (int (pos 1)) ⊗ var 1 ⊕ var 0)) refl
          ∙ ap₂ (λ p q. 1ℚ *ℚ p +ℚ (neg_ℚ 1ℚ *ℚ q +ℚ expressed l v columns w)) (of_d.same v z) (of_e.same v z)
          ∙ ap (λ r. 1ℚ *ℚ expressed l v columns d +ℚ r) (sym (expressed-mixed l v columns (neg_ℚ 1ℚ) e w))
          ∙ sym (expressed-mixed l v columns 1ℚ d (mixed (neg_ℚ 1ℚ) e w));
    }

    no_shift : (p q r : ℚ) → r ≡ 1ℚ *ℚ p +ℚ (neg_ℚ 1ℚ *ℚ q +ℚ r) → p ≡ q
    no_shift p q r h =
        ring (p ∷ q ∷ r ∷ []) (var 0) ((int (pos 1) ⊗ var 0 ⊕ (minus (int (pos 1)) ⊗ var 1 ⊕ var 2)) ⊕ (var 1 ⊕ minus (var 2))) refl
        ∙ ap (λ w. w +ℚ (q +ℚ neg_ℚ r)) (sym h)
        ∙ ring (q ∷ r ∷ []) (var 1 ⊕ (var 0 ⊕ minus (var 1))) (var 0) refl

    -- so where there is a quantity, the two are one
    one_by : (q : Quantity) → IsQuantity l asked q → AreOne columns d e
    one_by q h =
        let w = dictionary.some_way q h in
        let o = dictionary.one_way q h w.0 (shifted w.0) w.1 (shifted_written (form_of l q) w.0 w.1) in
        record {
          constant = no_shift d.constant e.constant w.0.constant o.constant;
          entries = λ r k. no_shift (d.entry r) (e.entry r) (w.0.entry r) (o.entries r k);
        }

    -- and where there is none, the form is a number
    number_once : (s t : List Quantity) → columns ≡ s → zeros ≡ t → AreOne columns d e
    number_once (q ∷ s) t c z = one_by q (dictionary.columns_are_quantities q (subst (Has q) (sym c) (inl refl)))
    number_once [] (q ∷ t) c z = one_by q (dictionary.zeros_are_quantities q (subst (Has q) (sym z) (inl refl)))
    number_once [] [] c z =
        let v : ℕ → ℚ = λ x. 0ℚ in
        let none : AllZero l v zeros = subst (AllZero l v) (sym z) tt in
        record {
          constant =
              alone d.constant
              ∙ sym (ap (λ s. d.constant +ℚ sum_over (λ q. d.entry q *ℚ amount l v q) s) c)
              ∙ sym (of_d.same v none) ∙ of_e.same v none
              ∙ ap (λ s. e.constant +ℚ sum_over (λ q. e.entry q *ℚ amount l v q) s) c
              ∙ sym (alone e.constant);
          entries = λ q k. absurd (subst (Has q) c k);
        }
      where
        alone : (p : ℚ) → p ≡ p +ℚ 0ℚ
        alone p = ring (p ∷ []) (var 0) (var 0 ⊕ int (pos 0)) refl

    pub one_way : AreOne columns d e
    one_way = number_once columns zeros refl refl

-- the variables of an asked form are quantities
pub asked_mentions : (f : Linear) (asked : List Linear) (x : ℕ) → Has f asked → Mentions x f.products → SomeFormMentions x asked
asked_mentions f [] x h m = absurd h
asked_mentions f (g ∷ asked) x (inl e) m = inl (subst (λ (k : Linear). Mentions x k.products) e m)
asked_mentions f (g ∷ asked) x (inr h) m = inr (asked_mentions f asked x h m)
