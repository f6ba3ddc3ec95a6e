-- The free variables' values fill in those of the variables that are solved for.
use Rattle.std.proofs.Common.{◌≡◌, ℕ, List, [], ◌∷◌, map, Option, Some, None, pos, refl, ap, sym, ◌∙◌, inl, inr}
use Rattle.std.specs.List.{AllByRecursion, cons_option}
use Rattle.spec_numbers.specs.Rational.{ℚ, 0ℚ, 1ℚ, ◌+ℚ◌, ◌*ℚ◌, ◌-ℚ◌, neg_ℚ}
use Rattle.spec_numbers.specs.Sums.{Mentions, sum_at}
use Rattle.spec_numbers.proofs.Ring.{var, int, ◌⊕◌, ◌⊗◌, minus}
use Rattle.spec_numbers.proofs.RationalLemmas.{ring}
use Rattle.spec_numbers.proofs.Sums.{sum_at-agrees, sum_at-negated_products}
use Rattle.spec_linear.specs.Form.{Linear, value_at}
use Rattle.spec_linear.specs.Solution.{Constraint, Has, Satisfies}
use Rattle.spec_linear.specs.Echelon.{Solved, difference, equations, InOrder}
use Rattle.spec_linear.specs.SolvedForm.{Agrees, IsSolvedForm, row_at, rows_of}
use Rattle.spec_linear.proofs.Orders.{in_order-more}

-- ---- an equation says that the variable is the form

difference-value : (a : ℕ → ℚ) (e : Solved) → value_at a (difference e) ≡ a e.variable -ℚ value_at a e.form
difference-value a e =
    ap (λ w. neg_ℚ e.form.constant +ℚ (1ℚ *ℚ a e.variable +ℚ w)) (sum_at-negated_products a e.form.products)
    ∙ ring (a e.variable ∷ e.form.constant ∷ sum_at a e.form.products ∷ [])
    (minus (var 1) ⊕ (int (pos 1) ⊗ var 0 ⊕ minus (var 2))) (var 0 ⊕ minus (var 1 ⊕ var 2)) refl

pub equation-says : (a : ℕ → ℚ) (e : Solved) → value_at a (difference e) ≡ 0ℚ → a e.variable ≡ value_at a e.form
equation-says a e h =
    ring (a e.variable ∷ value_at a e.form ∷ []) (var 0) ((var 0 ⊕ minus (var 1)) ⊕ var 1) refl
    ∙ ap (λ w. w +ℚ value_at a e.form) (sym (difference-value a e) ∙ h)
    ∙ ring (value_at a e.form ∷ []) (int (pos 0) ⊕ var 0) (var 0) refl

pub equation-said : (a : ℕ → ℚ) (e : Solved) → a e.variable ≡ value_at a e.form → value_at a (difference e) ≡ 0ℚ
equation-said a e h =
    difference-value a e ∙ ap (λ w. w -ℚ value_at a e.form) h
    ∙ ring (value_at a e.form ∷ []) (var 0 ⊕ minus (var 0)) (int (pos 0)) refl

-- a form's value depends on the variables that it mentions alone
pub value_at-agrees : (a b : ℕ → ℚ) (f : Linear) → ((x : ℕ) → Mentions x f.products → a x ≡ b x) → value_at a f ≡ value_at b f
value_at-agrees a b f h = ap (λ w. f.constant +ℚ w) (sum_at-agrees a b f.products h)

-- ---- filling in

abbrev pub filled_by : Option Linear → (ℕ → ℚ) → ℕ → ℚ
filled_by None a x = a x
filled_by (Some f) a x = value_at a f

-- the value of its form for a variable that is solved for
abbrev pub filled : (ℕ → Option Linear) → (ℕ → ℚ) → ℕ → ℚ
filled solved a x = filled_by (solved x) a x

pub filled-free : (solved : ℕ → Option Linear) (a : ℕ → ℚ) (x : ℕ) → solved x ≡ None → filled solved a x ≡ a x
filled-free solved a x e = ap (λ o. filled_by o a x) e

pub filled-solved : (solved : ℕ → Option Linear) (a : ℕ → ℚ) (x : ℕ) (f : Linear) → solved x ≡ Some f → filled solved a x ≡ value_at a f
filled-solved solved a x f e = ap (λ o. filled_by o a x) e

module _ (order : List ℕ) (l : List Constraint) (solved : ℕ → Option Linear) (s : IsSolvedForm order l solved) where
  pub filled-agrees : (a : ℕ → ℚ) → Agrees (filled solved a) solved
  filled-agrees a x f e =
      filled-solved solved a x f e
      ∙ value_at-agrees a (filled solved a) f (λ y m. sym (filled-free solved a y (s.free x y f e m)))

  pub filled-satisfies : (a : ℕ → ℚ) → Satisfies (filled solved a) l
  filled-satisfies a = (s.same (filled solved a)).1 (filled-agrees a)

-- ---- the rows of targets

-- P holds of each row, where it holds of each target that is solved for
pub each_row : (P : Solved → Type 0) (solved : ℕ → Option Linear) (targets : List ℕ) → ((x : ℕ) (f : Linear) → Has x targets → solved x ≡ Some f → P (record { variable = x; form = f })) → AllByRecursion P (rows_of solved targets)
each_row P solved [] h = tt
each_row P solved (x ∷ targets) h = go (solved x) refl (each_row P solved targets (λ y f k e. h y f (inr k) e))
  where
    go : (o : Option Linear) → solved x ≡ o → AllByRecursion P (rows_of solved targets) → AllByRecursion P (cons_option (row_at x o) (rows_of solved targets))
    go None e r = r
    go (Some f) e r = (h x f (inl refl) e, r)

pub rows-sorted : (solved : ℕ → Option Linear) (targets : List ℕ) → InOrder targets (map (λ e. e.variable) (rows_of solved targets))
rows-sorted solved [] = tt
rows-sorted solved (x ∷ targets) = go (solved x) (rows-sorted solved targets)
  where
    go : (o : Option Linear) → InOrder targets (map (λ e. e.variable) (rows_of solved targets)) → InOrder (x ∷ targets) (map (λ e. e.variable) (cons_option (row_at x o) (rows_of solved targets)))
    go None h = in_order-more x targets _ h
    go (Some f) h = inl (refl, h)

-- each target that is solved for has its row
pub row-satisfied : (a : ℕ → ℚ) (solved : ℕ → Option Linear) (targets : List ℕ) → Satisfies a (equations (rows_of solved targets)) → (x : ℕ) (f : Linear) → Has x targets → solved x ≡ Some f → a x ≡ value_at a f
row-satisfied a solved [] h x f k e = absurd k
row-satisfied a solved (y ∷ targets) h x f k e = go (λ g i. row-satisfied a solved targets g x f i e) (solved y) refl h k
  where
    go : (Satisfies a (equations (rows_of solved targets)) → Has x targets → a x ≡ value_at a f) → (o : Option Linear) → solved y ≡ o → Satisfies a (equations (cons_option (row_at y o) (rows_of solved targets))) → Has x (y ∷ targets) → a x ≡ value_at a f
    go rest None d g (inl w) = let t : ◌≡◌ {A = Option Linear} None (Some f) = sym d ∙ ap solved (sym w) ∙ e in cc
    go rest None d g (inr i) = rest g i
    go rest (Some f') d g (inl w) =
        let t : Some f' ≡ Some f = sym d ∙ ap solved (sym w) ∙ e in
        let s : f' ≡ f = cc in
        ap a w ∙ equation-says a (record { variable = y; form = f' }) g.0 ∙ ap (value_at a) s
    go rest (Some f') d g (inr i) = rest g.1 i

-- what gives each target its form's value satisfies the rows
pub rows-satisfied : (a : ℕ → ℚ) (solved : ℕ → Option Linear) (targets : List ℕ) → ((x : ℕ) (f : Linear) → Has x targets → solved x ≡ Some f → a x ≡ value_at a f) → Satisfies a (equations (rows_of solved targets))
rows-satisfied a solved [] h = tt
rows-satisfied a solved (x ∷ targets) h = go (solved x) refl (rows-satisfied a solved targets (λ y f k e. h y f (inr k) e))
  where
    go : (o : Option Linear) → solved x ≡ o → Satisfies a (equations (rows_of solved targets)) → Satisfies a (equations (cons_option (row_at x o) (rows_of solved targets)))
    go None e r = r
    go (Some f) e r = (equation-said a (record { variable = x; form = f }) (h x f (inl refl) e), r)

-- where the rows of the targets hold, filling in changes no target
pub filled-target : (a : ℕ → ℚ) (solved : ℕ → Option Linear) (targets : List ℕ) → Satisfies a (equations (rows_of solved targets)) → (x : ℕ) → Has x targets → filled solved a x ≡ a x
filled-target a solved targets h x k = go (solved x) refl
  where
    go : (o : Option Linear) → solved x ≡ o → filled_by o a x ≡ a x
    go None e = refl
    go (Some f) e = sym (row-satisfied a solved targets h x f k e)
