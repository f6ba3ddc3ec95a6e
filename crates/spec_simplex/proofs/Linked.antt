-- A program's rows say what the forms say: how that comes to be and stays.
use Rattle.std.proofs.Common.{◌≡◌, ℕ, suc, ◌<◌, arith, List, [], ◌∷◌, Bool, true, false, cond, nat_eq, ◌⊎◌, inl, inr, pos, refl, ap, ap₂, sym, subst, ◌∙◌}
use Rattle.std.proofs.lemmas.Bool.{cond-true, cond-false}
use Rattle.spec_numbers.specs.Rational.{ℚ, 0ℚ, ◌+ℚ◌, ◌*ℚ◌}
use Rattle.spec_numbers.specs.Sums.{Monomial, sum_at}
use Rattle.spec_numbers.proofs.Ring.{int, ◌⊕◌, ◌⊗◌}
use Rattle.spec_numbers.proofs.RationalLemmas.{ring}
use Rattle.spec_linear.specs.Form.{value_at, variable_form}
use Rattle.spec_numbers.proofs.Tests.{nat_eq-same, nat_eq-self}
use Rattle.spec_simplex.specs.Tableau.{Tableau, numbers, right_side, AllIn, Chosen, IsWritten, MeetsRows, IsShaped, Linked, AllBelow}
use Rattle.spec_simplex.proofs.Standing.{x0}
use Rattle.spec_simplex.proofs.TableauWritten.{same_sum}

-- ---- numbers that agree below the count
agree_sum : (n : ℕ) (p : ℕ → Bool) (x y : ℕ → ℚ) (s : List Monomial) → AllIn p s → ((c : ℕ) → p c ≡ true → c < n) → ((c : ℕ) → c < n → x c ≡ y c) →
    sum_at x s ≡ sum_at y s
agree_sum n p x y s a made h = same_sum p x y s a (λ c k. h c (made c k))

below_sum : (n : ℕ) (x y : ℕ → ℚ) (s : List Monomial) → AllBelow n s → ((c : ℕ) → c < n → x c ≡ y c) → sum_at x s ≡ sum_at y s
below_sum n x y [] a h = refl
below_sum n x y (m ∷ s) a h = ap₂ (λ b r. m.factor *ℚ b +ℚ r) (h m.variable a.0) (below_sum n x y s a.1 h)

module _ (d : Tableau) (f : IsShaped d) where
  agree_side : (x y : ℕ → ℚ) → ((c : ℕ) → c < d.count → x c ≡ y c) → (q : ℕ) → q < d.count → right_side x (d.row q) ≡ right_side y (d.row q)
  agree_side x y h q k =
      ap₂ (λ a b. (d.row q).constant +ℚ (a +ℚ b)) (agree_sum d.count d.is_live x y (d.row q).live (f.over_live q k) f.made h)
      (agree_sum d.count d.is_dropped x y (d.row q).dropped (f.over_dropped q k) f.made_dropped h)

  obeys_same : (x y : ℕ → ℚ) → ((c : ℕ) → c < d.count → x c ≡ y c) → MeetsRows d x → MeetsRows d y
  obeys_same x y h o q k = sym (h q k) ∙ o q k ∙ agree_side x y h q k

  -- ---- numbers computed from the live columns
  abbrev column : (ℕ → ℚ) → ℕ → ℚ
  column y c = cond (d.is_live c) (y c) 0ℚ

  computed : (ℕ → ℚ) → ℕ → ℚ
  computed y q = right_side (column y) (d.row q)

  computed_live : (y : ℕ → ℚ) (c : ℕ) → d.is_live c ≡ true → computed y c ≡ y c
  unfolding computed
  computed_live y c e =
      ap (right_side (column y)) (f.live_row c e) ∙ ring (column y c ∷ []) (int (pos 0) ⊕ ((int (pos 1) ⊗ x0 ⊕ int (pos 0)) ⊕ int (pos 0))) x0 refl
      ∙ cond-true (d.is_live c) (y c) 0ℚ e

  computed_dropped : (y : ℕ → ℚ) (c : ℕ) → d.is_dropped c ≡ true → computed y c ≡ 0ℚ
  unfolding computed
  computed_dropped y c e =
      ap (right_side (column y)) (f.dropped_row c e) ∙ ring (column y c ∷ []) (int (pos 0) ⊕ (int (pos 0) ⊕ (int (pos 1) ⊗ x0 ⊕ int (pos 0)))) x0 refl
      ∙ cond-false (d.is_live c) (y c) 0ℚ (f.not_live c e)

  computed_obeys : (y : ℕ → ℚ) → MeetsRows d (computed y)
  unfolding computed
  computed_obeys y q k =
      ap₂ (λ a b. (d.row q).constant +ℚ (a +ℚ b))
      (same_sum d.is_live (column y) (computed y) (d.row q).live (f.over_live q k) (λ c e. cond-true (d.is_live c) (y c) 0ℚ e ∙ sym (computed_live y c e)))
      (same_sum d.is_dropped (column y) (computed y) (d.row q).dropped (f.over_dropped q k)
      (λ c e. cond-false (d.is_live c) (y c) 0ℚ (f.not_live c e) ∙ sym (computed_dropped y c e)))

pub linked_written : (d : Tableau) → Linked d → IsWritten d
linked_written d k = record {
  rows = λ q h v. k.agrees v q h;
  over_live = k.shaped.over_live;
  over_dropped = k.shaped.over_dropped;
  choose = choose;
  made = k.shaped.made;
  made_dropped = k.shaped.made_dropped;
  made_restricted = k.shaped.made_restricted;
}
  where
    choose : (y : ℕ → ℚ) → Chosen d y
    choose y =
        let v = k.defines (computed d k.shaped y) (computed_obeys d k.shaped y) in
        record {
          at = v.0;
          live = λ c e. v.1 c (k.shaped.made c e) ∙ computed_live d k.shaped y c e;
          dropped = λ c e. v.1 c (k.shaped.made_dropped c e) ∙ computed_dropped d k.shaped y c e;
        }

-- an exchange, a column that is dropped or restored, a quantity that is restricted
pub linked_changed : (d e : Tableau) → Linked d → IsShaped e → e.count ≡ d.count → ((q : ℕ) → q < d.count → e.form q ≡ d.form q) →
    ((x : ℕ → ℚ) → MeetsRows d x → MeetsRows e x) → ((x : ℕ → ℚ) → MeetsRows e x → MeetsRows d x) → Linked e
linked_changed d e k f n g there back = record {
  shaped = f;
  agrees = λ v. obeys_same e f (numbers d v) (numbers e v) (λ c h. ap (value_at v) (sym (g c (below c h)))) (there (numbers d v) (k.agrees v));
  defines = λ x o. let v = k.defines x (back x o) in (v.0, λ q h. ap (value_at v.0) (g q (below q h)) ∙ v.1 q (below q h));
}
  where
    below : (c : ℕ) → c < e.count → c < d.count
    below c h = subst (λ m. c < m) n h

pub last_one : (q n : ℕ) → q < suc n → (q < n) ⊎ (q ≡ n)
last_one q n h = go (nat_eq q n) refl
  where
    apart : (q n : ℕ) → nat_eq q n ≡ false → q < suc n → q < n
    apart q n e h = grind arith

    go : (b : Bool) → nat_eq q n ≡ b → (q < n) ⊎ (q ≡ n)
    go true e = inr (nat_eq-same q n e)
    go false e = inl (apart q n e h)

-- a new row, whose form is a constant and products of quantities that are there
pub linked_row : (d e : Tableau) (k : ℚ) (s : List Monomial) → Linked d → IsShaped e → e.count ≡ suc d.count → ((q : ℕ) → q < d.count → e.form q ≡ d.form q) →
    AllBelow d.count s →
    ((v : ℕ → ℚ) → value_at v (e.form d.count) ≡ k +ℚ sum_at (numbers d v) s) →
    ((x : ℕ → ℚ) → MeetsRows d x → x d.count ≡ k +ℚ sum_at x s → MeetsRows e x) → ((x : ℕ → ℚ) → MeetsRows e x → MeetsRows d
    x × (x d.count ≡ k +ℚ sum_at x s)) → Linked e
linked_row d e k s l f n g below is there back = record { shaped = f; agrees = agrees; defines = defines }
  where
    same : (v : ℕ → ℚ) (c : ℕ) → c < d.count → numbers d v c ≡ numbers e v c
    same v c h = ap (value_at v) (sym (g c h))

    agrees : (v : ℕ → ℚ) → MeetsRows e (numbers e v)
    agrees v =
        there (numbers e v) (obeys_same d l.shaped (numbers d v) (numbers e v) (same v) (l.agrees v))
        (is v ∙ ap (λ b. k +ℚ b) (below_sum d.count (numbers d v) (numbers e v) s below (same v)))

    defines : (x : ℕ → ℚ) → MeetsRows e x → (v : ℕ → ℚ) × ((q : ℕ) → q < e.count → numbers e v q ≡ x q)
    defines x o = (v.0, at)
      where
        v : (v : ℕ → ℚ) × ((q : ℕ) → q < d.count → numbers d v q ≡ x q)
        v = l.defines x (back x o).0

        at : (q : ℕ) → q < e.count → numbers e v.0 q ≡ x q
        at q h = go (last_one q d.count (subst (λ m. q < m) n h))
          where
            go : (q < d.count) ⊎ (q ≡ d.count) → numbers e v.0 q ≡ x q
            go (inl h) = sym (same v.0 q h) ∙ v.1 q h
            go (inr p) = ap (numbers e v.0) p ∙ is v.0 ∙ ap (λ b. k +ℚ b) (below_sum d.count (numbers d v.0) x s below v.1) ∙ sym (back x o).1 ∙ ap x (sym p)

-- a new column, for a variable that no form has yet
pub linked_column : (d e : Tableau) (x : ℕ) → Linked d → IsShaped e → e.count ≡ suc d.count → ((q : ℕ) → q < d.count → e.form q ≡ d.form q) →
    e.form d.count ≡ variable_form x →
    ((q : ℕ) → q < d.count → (v w : ℕ → ℚ) → ((y : ℕ) → nat_eq y x ≡ false → v y ≡ w y) → numbers d v q ≡ numbers d w q) →
    ((z : ℕ → ℚ) → MeetsRows d z → MeetsRows e z) → ((z : ℕ → ℚ) → MeetsRows e z → MeetsRows d z) → Linked e
linked_column d e x l f n g own fresh there back = record { shaped = f; agrees = agrees; defines = defines }
  where
    same : (v : ℕ → ℚ) (c : ℕ) → c < d.count → numbers d v c ≡ numbers e v c
    same v c h = ap (value_at v) (sym (g c h))

    agrees : (v : ℕ → ℚ) → MeetsRows e (numbers e v)
    agrees v = there (numbers e v) (obeys_same d l.shaped (numbers d v) (numbers e v) (same v) (l.agrees v))

    defines : (z : ℕ → ℚ) → MeetsRows e z → (v : ℕ → ℚ) × ((q : ℕ) → q < e.count → numbers e v q ≡ z q)
    defines z o = (w, at)
      where
        v : (v : ℕ → ℚ) × ((q : ℕ) → q < d.count → numbers d v q ≡ z q)
        v = l.defines z (back z o)

        w : ℕ → ℚ
        w y = cond (nat_eq y x) (z d.count) (v.0 y)

        at : (q : ℕ) → q < e.count → numbers e w q ≡ z q
        at q h = go (last_one q d.count (subst (λ m. q < m) n h))
          where
            go : (q < d.count) ⊎ (q ≡ d.count) → numbers e w q ≡ z q
            go (inl h) = sym (same w q h) ∙ fresh q h w v.0 (λ y e. cond-false (nat_eq y x) (z d.count) (v.0 y) e) ∙ v.1 q h
            go (inr p) =
                ap (numbers e w) p ∙ ap (value_at w) own ∙ ring (w x ∷ []) (int (pos 0) ⊕ (int (pos 1) ⊗ x0 ⊕ int (pos 0))) x0 refl
                ∙ cond-true (nat_eq x x) (z d.count) (v.0 x) (nat_eq-self x) ∙ ap z (sym p)
