-- The row of a form, product by product.
use Rattle.std.proofs.Common.{◌≡◌, ℕ, zero, suc, ◌+◌, ◌<◌, ◌≤◌, List, [], ◌∷◌, ◌++◌, length, take, drop, get_or, arith, refl, ap, ap₂, sym, subst, ◌∙◌, pos, inl, inr, take-append-drop, drop-cons, Result, Ok, Err, IfOk}
use Rattle.spec_numbers.specs.Rational.{ℚ, 0ℚ, 1ℚ, ◌+ℚ◌, ◌*ℚ◌}
use Rattle.spec_numbers.proofs.Ring.{var, int, ◌⊕◌, ◌⊗◌}
use Rattle.spec_numbers.proofs.RationalLemmas.{ring}
use Rattle.cq_frac.specs.declared.Operation.{Operation}
use Rattle.cq_frac.specs.declared.Pair.{Pair}
use Rattle.cq_frac.specs.Refused.{Refuses, IsRefused}
use Rattle.cq_frac.specs.declared.row.Entry.{Entry}
use Rattle.cq_frac.specs.declared.row.Joining.TheVariants.{Plus}
use Rattle.cq_frac.specs.declared.Refusal.{Refusal}
use Rattle.cq_frac.specs.declared.Refusal.TheVariants.{Overflow}
use Rattle.cq_frac.specs.Row.{Row}
use Rattle.cq_frac.specs.Rows.{sum_at, Has}
use Rattle.cq_frac.specs.Numbers.{IsJoined, Site, IsNumber, constant_number, live_number, dropped_number, JoinPair, product_pair, joined_pair}
use Rattle.cq_dict.specs.declared.table.Role.{Role}
use Rattle.cq_dict.specs.declared.table.Role.TheVariants.{Live, Dropped, Basic}
use Rattle.cq_dict.specs.Roles.{IsAt, is_live, is_dropped, AreOverColumns, Expresses, SameNumbers, Adding, FormPair, form_product, form_sum}
use Rattle.cq_dict.specs.Forms.{AddsProduct, RefusesProduct}
use Rattle.cq_dict.proofs.Roles.{live_at, dropped_at}
use Rattle.cq_dict.proofs.Free.{tri, same_numbers}
use Rattle.spec_numbers.proofs.Sign.{one_not_zero}
use Rattle.spec_numbers.proofs.Places.{take-next}

-- ---- the row of a quantity
module _ (roles : List Role) (q : ℕ) where
  pub of_live : IsAt roles q Live → Expresses roles (λ x. x q) (record { live = record { quantity = q; factor = 1ℚ } ∷ []; dropped = []; constant = 0ℚ })
  of_live a = record {
    over = record { live_row = (omega arith, live_at roles q Live a, one_not_zero, tt); dropped_row = tt };
    value_is = λ x m. ring (x q ∷ []) (int (pos 0) ⊕ ((int (pos 1) ⊗ var 0 ⊕ int (pos 0)) ⊕ int (pos 0))) (var 0) refl;
  }

  pub of_dropped : IsAt roles q Dropped → Expresses roles (λ x. x q) (record { live = []; dropped = record { quantity = q; factor = 1ℚ } ∷ []; constant = 0ℚ })
  of_dropped a = record {
    over = record { live_row = tt; dropped_row = (omega arith, dropped_at roles q Dropped a, one_not_zero, tt) };
    value_is = λ x m. ring (x q ∷ []) (int (pos 0) ⊕ (int (pos 0) ⊕ (int (pos 1) ⊗ var 0 ⊕ int (pos 0)))) (var 0) refl;
  }

  pub of_row : AreOverColumns roles → (o : Row) → IsAt roles q (Basic o) → Expresses roles (λ x. x q) o
  of_row t o a = record { over = t.rows q o a; value_is = λ x m. sym (m.rows q o a) }

-- ---- adding products
module _ (roles : List Role) (sum : Row) (m : Entry) (own : Row) (e : Expresses roles (λ x. x m.quantity) own) where
  pub adds_product : (r : Result Row Refusal) → IfOk r (λ z. IsJoined sum Plus m.factor own z) → IfOk r (λ z. (o : Operation) (p q : ℚ) → JoinPair sum Plus m.factor own o p q → Refuses o p q → ⊥) → IfOk r (λ z. AddsProduct roles sum m z)
  adds_product (Ok z) j n = record { own = own; expresses = e; joined = j; accepted = n }
  adds_product (Err f) j n = tt

  pub refuses_product : (r : Result Row Refusal) → ((pair : Pair) → r ≡ Err (Overflow pair) → JoinPair sum Plus m.factor own pair.operation pair.left pair.right × IsRefused pair) → (pair : Pair) → r ≡ Err (Overflow pair) → RefusesProduct roles sum m pair
  refuses_product r n pair h = let k = n pair h in record { own = own; expresses = e; made = k.0; refused = k.1 }

sum_at-end : (x : ℕ → ℚ) (s : List Entry) (m : Entry) → sum_at x (s ++ m ∷ []) ≡ sum_at x s +ℚ m.factor *ℚ x m.quantity
sum_at-end x [] m = ring ((m.factor *ℚ x m.quantity) ∷ []) (var 0 ⊕ int (pos 0)) (int (pos 0) ⊕ var 0) refl
sum_at-end x (n ∷ s) m = ap (λ w. n.factor *ℚ x n.quantity +ℚ w) (sum_at-end x s m) ∙ ring ((n.factor *ℚ x n.quantity) ∷ sum_at x s ∷ (m.factor *ℚ x m.quantity) ∷ []) (var 0 ⊕ (var 1 ⊕ var 2)) (var 0 ⊕ var 1 ⊕ var 2) refl

pub nothing_yet : (roles : List Role) (constant : ℚ) → Expresses roles (λ x. constant +ℚ 0ℚ) (record { live = []; dropped = []; constant = constant })
nothing_yet roles constant = record {
  over = record { live_row = tt; dropped_row = tt };
  value_is = λ x m. ring (constant ∷ []) (var 0 ⊕ (int (pos 0) ⊕ int (pos 0))) (var 0 ⊕ int (pos 0)) refl;
}

module _ (roles : List Role) (form : List Entry) (constant : ℚ) (i : ℕ) (m : Entry) (before : Row) (l : i < length form) (at : m ≡ get_or form i m)
    (gave : Expresses roles (λ x. constant +ℚ sum_at x (take i form)) before) where
  pub zero_more : m.factor ≡ 0ℚ → Expresses roles (λ x. constant +ℚ sum_at x (take (i + 1) form)) before
  zero_more z = record {
    over = gave.over;
    value_is = λ x h.
        gave.value_is x h ∙ ap (λ w. constant +ℚ w)
        (ring (sum_at x (take i form) ∷ x m.quantity ∷ []) (var 0) (var 0 ⊕ int (pos 0) ⊗ var 1) refl
        ∙ ap (λ f. sum_at x (take i form) +ℚ f *ℚ x m.quantity) (sym z) ∙ sym (sum_at-end x (take i form) m) ∙ ap (sum_at x) (sym (take-next form i m l at)));
  }

  pub one_more : (row next : Row) → Expresses roles (λ x. x m.quantity) row → IsJoined before Plus m.factor row next → Expresses roles (λ x. constant +ℚ sum_at x (take (i + 1) form)) next
  one_more row next e j = record {
    over = j.over (is_live roles) (is_dropped roles) gave.over e.over;
    value_is = λ x h.
        ap₂ (λ u v. u +ℚ v) j.constant (ap₂ (λ u v. u +ℚ v) (j.live x) (j.dropped x))
        ∙ ring (before.constant ∷ sum_at x before.live ∷ sum_at x before.dropped ∷ m.factor ∷ row.constant ∷ sum_at x row.live ∷ sum_at x row.dropped ∷ [])
        ((var 0 ⊕ var 3 ⊗ var 4) ⊕ ((var 1 ⊕ var 3 ⊗ var 5) ⊕ (var 2 ⊕ var 3 ⊗ var 6))) ((var 0 ⊕ (var 1 ⊕ var 2)) ⊕ var 3 ⊗ (var 4 ⊕ (var 5 ⊕ var 6))) refl
        ∙ ap₂ (λ u v. u +ℚ m.factor *ℚ v) (gave.value_is x h) (e.value_is x h)
        ∙ ring (constant ∷ sum_at x (take i form) ∷ (m.factor *ℚ x m.quantity) ∷ []) ((var 0 ⊕ var 1) ⊕ var 2) (var 0 ⊕ (var 1 ⊕ var 2)) refl
        ∙ ap (λ w. constant +ℚ w) (sym (sum_at-end x (take i form) m) ∙ ap (sum_at x) (sym (take-next form i m l at)));
  }

  split : form ≡ take i form ++ m ∷ drop (suc i) form
  split = sym (take-append-drop i form) ∙ ap (λ s. take i form ++ s) (drop-cons form i m l ∙ ap (λ y. y ∷ drop (suc i) form) (sym at))

  pub form_pair : (pair : Pair) → (m.factor ≡ 0ℚ → ⊥) → RefusesProduct roles before m pair → FormPair roles form constant pair.operation pair.left pair.right × IsRefused pair
  form_pair pair nz h = (go h.made, h.refused)
    where
      this : Adding roles form constant
      this = record { earlier = take i form; now = m; later = drop (suc i) form; split = split; nonzero = nz; before = before; gave = gave; own = h.own; expresses = h.expresses }

      go : {o : Operation} {a b : ℚ} → JoinPair before Plus m.factor h.own o a b → FormPair roles form constant o a b
      go (product_pair at n k) = form_product this at n k
      go (joined_pair at n p k j) = form_sum this at n p k j

number_as : (r s : Row) → SameNumbers r s → (at : Site) (n : ℚ) → IsNumber r at n → IsNumber s at n
number_as r s e at n constant_number = subst (λ z. IsNumber s at z) (sym e.constant) constant_number
number_as r s e at n (live_number m h) = live_number m (subst (Has m) e.live h)
number_as r s e at n (dropped_number m h) = dropped_number m (subst (Has m) e.dropped h)

pub join_as : (before own before' own' : Row) (k : ℚ) → SameNumbers before before' → SameNumbers own own' → {o : Operation} {a b : ℚ} → JoinPair before Plus k own o a b → JoinPair before' Plus k own' o a b
join_as before own before' own' k e f (product_pair at n h) = product_pair at n (number_as own own' f at n h)
join_as before own before' own' k e f (joined_pair at m n g h) = joined_pair at m n (number_as before before' e at m g) (number_as own own' f at n h)

-- no pair of the first i products is refused
pub record NoneBefore (roles : List Role) (form : List Entry) (constant : ℚ) (i : ℕ) : Type 0 where
  pub none : (earlier later : List Entry) (m : Entry) → form ≡ earlier ++ m ∷ later → length earlier < i → (m.factor ≡ 0ℚ → ⊥) → (before row : Row) → Expresses roles (λ x. constant +ℚ sum_at x earlier) before → Expresses roles (λ x. x m.quantity) row → (o : Operation) (a b : ℚ) → JoinPair before Plus m.factor row o a b → Refuses o a b → ⊥

pub none_at_first : (roles : List Role) (form : List Entry) (constant : ℚ) → NoneBefore roles form constant 0
none_at_first roles form constant = record { none = λ earlier later m e l. absurd (omega arith) }

cut_at : (earlier later : List Entry) (m : Entry) (i : ℕ) → length earlier ≡ i → (take i (earlier ++ m ∷ later) ≡ earlier) × (get_or (earlier ++ m ∷ later) i m ≡ m)
cut_at [] later m zero e = (refl, refl)
cut_at [] later m (suc i) e = cc
cut_at (x ∷ earlier) later m zero e = cc
cut_at (x ∷ earlier) later m (suc i) e = let r = cut_at earlier later m i (omega (arith, e)) in (ap (λ s. x ∷ s) r.0, r.1)

get_or_any : (s : List Entry) (i : ℕ) (m n : Entry) → i < length s → get_or s i m ≡ get_or s i n
get_or_any [] i m n h = absurd (omega arith)
get_or_any (x ∷ s) zero m n h = refl
get_or_any (x ∷ s) (suc i) m n h = get_or_any s i m n (omega arith)

module _ (roles : List Role) (table : AreOverColumns roles) (form : List Entry) (constant : ℚ) (i : ℕ) (m : Entry) (l : i < length form) (at : m ≡ get_or form i m) (so_far : NoneBefore roles form constant i) where
  here : (earlier later : List Entry) (n : Entry) → form ≡ earlier ++ n ∷ later → length earlier ≡ i → (earlier ≡ take i form) × (n ≡ m)
  here earlier later n e f =
      let c = cut_at earlier later n i f in
      (sym c.0 ∙ ap (take i) (sym e), sym c.1 ∙ ap (λ s. get_or s i n) (sym e) ∙ get_or_any form i n m l ∙ sym at)

  pub none_by_zero : m.factor ≡ 0ℚ → NoneBefore roles form constant (i + 1)
  none_by_zero z = record {
    none = λ earlier later n e k nz before row eb er o a b j r.
        elim (tri (length earlier) i) [
          | inl s ↦ so_far.none earlier later n e s nz before row eb er o a b j r
          | inr t ↦ elim t [ inl f ↦ nz (ap (λ (y : Entry). y.factor) (here earlier later n e f).1 ∙ z) | inr s ↦ absurd (omega arith) ]
        ];
  }

  pub none_by_join : (sum own : Row) → Expresses roles (λ x. constant +ℚ sum_at x (take i form)) sum → Expresses roles (λ x. x m.quantity) own → ((o : Operation) (a b : ℚ) → JoinPair sum Plus m.factor own o a b → Refuses o a b → ⊥) → NoneBefore roles form constant (i + 1)
  none_by_join sum own es eo n = record {
    none = λ earlier later y e k nz before row eb er o a b j r.
        elim (tri (length earlier) i) [
          | inl s ↦ so_far.none earlier later y e s nz before row eb er o a b j r
          | inr t ↦ elim t [
            | inl f ↦
                let w = here earlier later y e f in
                let sb = same_numbers roles table (λ x. constant +ℚ sum_at x (take i form)) before sum (subst (λ z. Expresses roles (λ x. constant +ℚ sum_at x z) before) w.0 eb) es in
                let so = same_numbers roles table (λ x. x m.quantity) row own (subst (λ (z : Entry). Expresses roles (λ x. x z.quantity) row) w.1 er) eo in
                n o a b (subst (λ z. JoinPair sum Plus z own o a b) (ap (λ (z : Entry). z.factor) w.1) (join_as before row sum own y.factor sb so j)) r
            | inr s ↦ absurd (omega arith)
          ]
        ];
  }

pub none_at_end : (roles : List Role) (form : List Entry) (constant : ℚ) (i : ℕ) → length form ≤ i → NoneBefore roles form constant i → (o : Operation) (a b : ℚ) → FormPair roles form constant o a b → Refuses o a b → ⊥
none_at_end roles form constant i l n o a b w r = go w r
  where
    shorter : (earlier later : List Entry) (m : Entry) → length earlier < length (earlier ++ m ∷ later)
    shorter [] later m = omega arith
    shorter (x ∷ earlier) later m = omega (arith, shorter earlier later m)

    at_one_product : (a : Adding roles form constant) → {o : Operation} {p q : ℚ} → JoinPair a.before Plus a.now.factor a.own o p q → Refuses o p q → ⊥
    at_one_product a j r = n.none a.earlier a.later a.now a.split (omega (arith, shorter a.earlier a.later a.now, ap length a.split)) a.nonzero a.before a.own a.gave a.expresses _ _ _ j r

    go : {o : Operation} {a b : ℚ} → FormPair roles form constant o a b → Refuses o a b → ⊥
    go (form_product a at m k) r = at_one_product a (product_pair at m k) r
    go (form_sum a at m p k j) r = at_one_product a (joined_pair at m p k j) r
