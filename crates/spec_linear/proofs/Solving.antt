-- What a solved form says of solutions, and that its rows over the last variables are the echelon form.
use Rattle.std.proofs.Common.{◌≡◌, ◌≢◌, ℕ, List, [], ◌∷◌, ◌++◌, Option, Some, None, pos, refl, ap, ap₂, sym, subst, ◌∙◌, inl, inr}
use Rattle.std.specs.List.{AllByRecursion}
use Rattle.spec_numbers.specs.Rational.{ℚ, 0ℚ, 1ℚ, ◌+ℚ◌, ◌*ℚ◌, ◌-ℚ◌}
use Rattle.spec_numbers.specs.Sums.{Monomial, Mentions, sum_at, unit, negated_products}
use Rattle.spec_numbers.proofs.Ring.{var, int, ◌⊕◌, ◌⊗◌, minus}
use Rattle.spec_numbers.proofs.RationalLemmas.{ring}
use Rattle.spec_numbers.proofs.Sign.{one_not_zero}
use Rattle.spec_numbers.proofs.Sums.{sum_at-agrees, sum_at-nowhere, unit-self, unit-other}
use Rattle.spec_linear.specs.Form.{Linear}
use Rattle.spec_linear.specs.Solution.{Constraint, number, Solvable, Fixed, Entails, Same, Has, MentionsOnly, Satisfies, equal_zero}
use Rattle.spec_linear.proofs.Denominators.{agrees_at, extends, agrees_on}
use Rattle.spec_linear.proofs.Points.{holds_same, solves_same}
use Rattle.spec_linear.specs.Echelon.{Solved, equation, equations, AreDistinct, InOrder, variables, IsBefore, IsOver, IsEchelon}
use Rattle.spec_linear.specs.SolvedForm.{IsSolvedForm, NotFixed, rows_of}
use Rattle.spec_linear.proofs.Orders.{in_order-has, in_order-behind, in_order-once, in_order-rest, mentions-has}
use Rattle.spec_linear.proofs.Filled.{value_at-agrees, equation-said, filled, filled-free, filled-solved, filled-satisfies, each_row, rows-sorted, rows-satisfied, filled-target}

pub negated-mentions : (x : ℕ) (s : List Monomial) → Mentions x (negated_products s) → Mentions x s
negated-mentions x [] h = h
negated-mentions x (m ∷ s) (inl e) = inl e
negated-mentions x (m ∷ s) (inr h) = inr (negated-mentions x s h)

each-mentions : (targets : List ℕ) (es : List Solved) → AllByRecursion (λ e. Has e.variable targets × IsOver targets e.form) es → MentionsOnly targets (equations es)
each-mentions targets [] h x k = absurd k
each-mentions targets (e ∷ es) h x (inl (inl w)) = subst (λ z. Has z targets) (sym w) h.0.0
each-mentions targets (e ∷ es) h x (inl (inr m)) = h.0.1 x (negated-mentions x e.form.products m)
each-mentions targets (e ∷ es) h x (inr k) = each-mentions targets es h.1 x k

module _ (order : List ℕ) (l : List Constraint) (solved : ℕ → Option Linear) (s : IsSolvedForm order l solved) where
  -- values for the free variables extend to a solution
  pub solvable : Solvable l
  solvable = let e = extends [] (filled solved (λ x. 0ℚ)) l (filled-satisfies order l solved s (λ x. 0ℚ)) in (e.0, e.2)

  pub fixed : (x : ℕ) (f : Linear) → solved x ≡ Some f → f.products ≡ [] → Fixed l x f.constant
  fixed x f e z = record {
    solvable = solvable;
    always = λ p h.
        (s.same (number p)).0 ((solves_same p l).0 h) x f e
        ∙ ap (λ t. f.constant +ℚ sum_at (number p) t) z ∙ ring (f.constant ∷ []) (var 0 ⊕ int (pos 0)) (var 0) refl;
  }

  -- a solution gives x the value that filling in gives it
  same-at : (a : ℕ → ℚ) (x : ℕ) (q : ℚ) → Fixed l x q → filled solved a x ≡ q
  same-at a x q f =
      let e = extends (x ∷ []) (filled solved a) l (filled-satisfies order l solved s a) in
      sym e.1.0 ∙ f.always e.0 e.2

  pub free-not_fixed : (x : ℕ) → solved x ≡ None → NotFixed l x
  free-not_fixed x e q f =
      one_not_zero (sym (filled-free solved (λ y. 1ℚ) x e) ∙ same-at (λ y. 1ℚ) x q f ∙ sym (same-at (λ y. 0ℚ) x q f) ∙ filled-free solved (λ y. 0ℚ) x e)

  -- a form that has a product has two values
  pub dependent-not_fixed : (x : ℕ) (f : Linear) (m : Monomial) (rest : List Monomial) → solved x ≡ Some f → f.products ≡ m ∷ rest → NotFixed l x
  dependent-not_fixed x f m rest e z q h =
      nonzero (ring (m.factor ∷ f.constant ∷ []) (var 0) ((var 1 ⊕ var 0) ⊕ minus (var 1)) refl
      ∙ ap (λ w. w -ℚ f.constant) (at_unit ∙ at_zero) ∙ ring (f.constant ∷ []) (var 0 ⊕ minus (var 0)) (int (pos 0)) refl)
    where
      b : IsBefore order x (m ∷ rest)
      b = subst (IsBefore order x) z (s.before x f e)

      nonzero : m.factor ≢ 0ℚ
      nonzero = b.nonzero.0

      elsewhere : (y : ℕ) → Mentions y rest → unit m.variable y ≡ 0ℚ
      elsewhere y k = unit-other m.variable y (λ w. in_order-once order m.variable (variables rest) s.distinct (in_order-rest order x (variables (m ∷ rest)) b.ordered) (subst (λ v. Has v (variables rest)) (sym w) (mentions-has y rest k)))

      at_unit : f.constant +ℚ m.factor ≡ q
      at_unit =
          ap (λ w. f.constant +ℚ w)
          (ring (m.factor ∷ []) (var 0) (var 0 ⊗ int (pos 1) ⊕ int (pos 0)) refl
          ∙ ap₂ (λ v w. m.factor *ℚ v +ℚ w) (sym (unit-self m.variable)) (sym (sum_at-agrees (unit m.variable) (λ y. 0ℚ) rest elsewhere ∙ sum_at-nowhere rest)))
          ∙ ap (λ t. f.constant +ℚ sum_at (unit m.variable) t) (sym z)
          ∙ sym (filled-solved solved (unit m.variable) x f e) ∙ same-at (unit m.variable) x q h

      at_zero : q ≡ f.constant
      at_zero =
          sym (same-at (λ y. 0ℚ) x q h) ∙ filled-solved solved (λ y. 0ℚ) x f e
          ∙ ap (λ w. f.constant +ℚ w) (sum_at-nowhere f.products) ∙ ring (f.constant ∷ []) (var 0 ⊕ int (pos 0)) (var 0) refl

  -- ---- the rows of the last variables

  module _ (front targets : List ℕ) (is : order ≡ front ++ targets) where
    distinct : AreDistinct (front ++ targets)
    distinct = subst AreDistinct is s.distinct

    before_target : (x : ℕ) (f : Linear) → Has x targets → solved x ≡ Some f → IsBefore targets x f.products
    before_target x f h e =
        let b = s.before x f e in
        record { ordered = in_order-behind front targets x (variables f.products) distinct h (subst (λ o. InOrder o (x ∷ variables f.products)) is b.ordered); nonzero = b.nonzero }

    over_targets : (x : ℕ) (f : Linear) → Has x targets → solved x ≡ Some f → IsOver targets f
    over_targets x f h e y m = in_order-has targets (x ∷ variables f.products) (before_target x f h e).ordered y (inr (mentions-has y f.products m))

    complete : (f : Linear) → IsOver targets f → Entails l (equal_zero f) → Entails (equations (rows_of solved targets)) (equal_zero f)
    complete f over h p sat =
        let a = number p in
        let rows_hold : Satisfies a (equations (rows_of solved targets)) = (solves_same p (equations (rows_of solved targets))).0 sat in
        let e = extends targets (filled solved a) l (filled-satisfies order l solved s a) in
        (holds_same p (equal_zero f)).1
        (value_at-agrees a (number e.0) f (λ x m. sym (agrees_at targets (filled solved a) e.0 e.1 x (over x m) ∙ filled-target a solved targets rows_hold x (over x m)))
        ∙ (holds_same e.0 (equal_zero f)).0 (h e.0 e.2))

    pub echelon : IsEchelon targets l (rows_of solved targets)
    echelon = record {
      first = each_row _ solved targets before_target;
      sorted = rows-sorted solved targets;
      reduced = each_row _ solved targets (λ x f h e. each_row _ solved targets (λ y g k d m. none_some (sym (s.free x y f e m) ∙ d)));
      entailed = each_row _ solved targets (λ x f h e p sol. (holds_same p (equation (record { variable = x; form = f }))).1 (equation-said (number p) (record { variable = x; form = f }) ((s.same (number p)).0 ((solves_same p l).0 sol) x f e)));
      complete = complete;
    }
      where
        none_some : {g : Linear} → None ≡ Some g → ⊥
        none_some {g} e = cc

    pub same-rows : Same targets (equations (rows_of solved targets)) l
    same-rows = record {
      mentions = each-mentions targets (rows_of solved targets) (each_row _ solved targets (λ x f h e. (h, over_targets x f h e)));
      same = λ a. (
        (λ sat.
            let e = extends targets (filled solved a) l (filled-satisfies order l solved s a) in
            (e.0, agrees_on targets a e.0 (λ x k. agrees_at targets (filled solved a) e.0 e.1 x k ∙ filled-target a solved targets sat x k), e.2)),
        (λ e. rows-satisfied a solved targets (λ x f h d.
            sym (agrees_at targets a e.0 e.1 x h)
            ∙ (s.same (number e.0)).0 ((solves_same e.0 l).0 e.2) x f d
            ∙ value_at-agrees (number e.0) a f (λ y m. agrees_at targets a e.0 e.1 y (over_targets x f h d y m)))),
      );
    }
