-- A tableau with one form more that is zero within, written by hand.
use Rattle.std.proofs.Common.{◌≡◌, ℕ, suc, ◌<◌, List, [], Bool, true, false, nat_eq, arith, pos, [], ◌∷◌, refl, ap, ap₂, sym, subst, ◌∙◌}
use Rattle.spec_numbers.proofs.Tests.{nat_eq-self, nat_eq-same, nat_eq-other}
use Rattle.spec_numbers.specs.Rational.{ℚ, 0ℚ, ◌+ℚ◌, ◌*ℚ◌, neg_ℚ}
use Rattle.spec_numbers.specs.Sums.{Monomial, sum_at, negated_products}
use Rattle.spec_numbers.proofs.Ring.{var, ◌⊕◌, ◌⊗◌, minus, int}
use Rattle.spec_numbers.proofs.RationalLemmas.{ring}
use Rattle.spec_linear.specs.Form.{Linear, value_at}
use Rattle.spec_simplex.specs.Tableau.{Tableau, Row, IsWritten, Place, AllIn, numbers, right_side}
use Rattle.spec_simplex.proofs.TableauWritten.{same_sum}
use Rattle.cq_frac.specs.declared.row.Entry.{Entry}
use Rattle.cq_frac.specs.Rows.{choose, negated}
use Rattle.cq_form.specs.Entries.{products_of}

-- each factor with the other sign
pub negated_sum : (x : ℕ → ℚ) (s : List Entry) → sum_at x (products_of (negated s)) ≡ neg_ℚ (sum_at x (products_of s))
negated_sum x [] = ring [] (int (pos 0)) (minus (int (pos 0))) refl
negated_sum x (m ∷ s) =
    ap (λ b. neg_ℚ m.factor *ℚ x m.quantity +ℚ b) (negated_sum x s)
    ∙ ring (m.factor ∷ x m.quantity ∷ sum_at x (products_of s) ∷ []) (minus (var 0) ⊗ var 1 ⊕ minus (var 2)) (minus (var 0 ⊗ var 1 ⊕ var 2)) refl

pub products_of-negated : (s : List Entry) → products_of (negated s) ≡ negated_products (products_of s)
products_of-negated [] = refl
products_of-negated (m ∷ s) = ap (λ t. record { variable = m.quantity; factor = neg_ℚ m.factor } ∷ t) (products_of-negated s)

pub negated_in : (p : ℕ → Bool) (s : List Entry) → AllIn p (products_of s) → AllIn p (products_of (negated s))
negated_in p [] a = tt
negated_in p (m ∷ s) a = (a.0, negated_in p s a.1)

-- the row of such a form
abbrev pub zero_row : List Monomial → Row
zero_row s = record { constant = 0ℚ; live = []; dropped = s }

abbrev pub with_form : Tableau → Linear → List Monomial → Tableau
with_form d f s = record {
  count = suc d.count;
  form = λ z. choose (nat_eq z d.count) f (d.form z);
  is_restricted = d.is_restricted;
  is_live = d.is_live;
  is_dropped = d.is_dropped;
  row = λ z. choose (nat_eq z d.count) (zero_row s) (d.row z);
}

module _ (d : Tableau) (w : IsWritten d) (f : Linear) (s : List Monomial) (over : AllIn d.is_dropped s)
    (is : (v : ℕ → ℚ) → value_at v f ≡ 0ℚ +ℚ (0ℚ +ℚ sum_at (numbers d v) s)) where
  pub last : nat_eq d.count d.count ≡ true
  last = nat_eq-self d.count

  under : (z : ℕ) → z < d.count → nat_eq z d.count ≡ false
  under z h = go (nat_eq z d.count) refl
    where
      go : (b : Bool) → nat_eq z d.count ≡ b → nat_eq z d.count ≡ false
      go false e = e
      go true e = let k = nat_eq-same z d.count e in absurd (omega (arith, h, k))

  below : (z : ℕ) → z < suc d.count → nat_eq z d.count ≡ false → z < d.count
  below z h e = let k = nat_eq-other z d.count e in grind (arith, h, k)

  pub same_form : (z : ℕ) → z < d.count → (with_form d f s).form z ≡ d.form z
  same_form z h = ap (λ b. choose b f (d.form z)) (under z h)

  same_number : (v : ℕ → ℚ) (z : ℕ) → z < d.count → numbers (with_form d f s) v z ≡ numbers d v z
  same_number v z h = ap (value_at v) (same_form z h)

  same_right : (v : ℕ → ℚ) (r : Row) → AllIn d.is_live r.live → AllIn d.is_dropped r.dropped → right_side (numbers d v) r ≡ right_side (numbers (with_form d f s) v) r
  same_right v r a b =
      ap₂ (λ x y. r.constant +ℚ (x +ℚ y))
      (same_sum d.is_live (numbers d v) (numbers (with_form d f s) v) r.live a (λ c h. sym (same_number v c (w.made c h))))
      (same_sum d.is_dropped (numbers d v) (numbers (with_form d f s) v) r.dropped b (λ c h. sym (same_number v c (w.made_dropped c h))))

  pub last_row : (with_form d f s).row d.count ≡ zero_row s
  last_row = ap (λ b. choose b (zero_row s) (d.row d.count)) last

  abbrev pub form_place : Place (with_form d f s) f
  form_place = record { quantity = d.count; made = omega arith; form_is = ap (λ b. choose b f (d.form d.count)) last }

  -- what is at a number
  module _ (P : (z : ℕ) → Linear → Row → Type 0) (here : P d.count f (zero_row s)) (before : (z : ℕ) → z < d.count → P z (d.form z) (d.row z)) where
    each : (z : ℕ) → z < suc d.count → P z ((with_form d f s).form z) ((with_form d f s).row z)
    each z h = go (nat_eq z d.count) refl
      where
        go : (b : Bool) → nat_eq z d.count ≡ b → P z (choose b f (d.form z)) (choose b (zero_row s) (d.row z))
        go true e = subst (λ y. P y f (zero_row s)) (sym (nat_eq-same z d.count e)) here
        go false e = before z (below z h e)

  pub form_written : IsWritten (with_form d f s)
  form_written = record {
    rows = λ q h v.
        each (λ z g r. value_at v g ≡ right_side (numbers (with_form d f s) v) r) (is v ∙ same_right v (zero_row s) tt over)
        (λ z k. w.rows z k v ∙ same_right v (d.row z) (w.over_live z k) (w.over_dropped z k)) q h;
    over_live = each (λ z g r. AllIn d.is_live r.live) tt (λ z k. w.over_live z k);
    over_dropped = each (λ z g r. AllIn d.is_dropped r.dropped) over (λ z k. w.over_dropped z k);
    choose = λ y.
        let o = w.choose y in
        record {
          at = o.at;
          live = λ c h. same_number o.at c (w.made c h) ∙ o.live c h;
          dropped = λ c h. same_number o.at c (w.made_dropped c h) ∙ o.dropped c h;
        };
    made = λ c h. let k = w.made c h in omega (arith, k);
    made_dropped = λ c h. let k = w.made_dropped c h in omega (arith, k);
    made_restricted = λ c h. let k = w.made_restricted c h in omega (arith, k);
  }
