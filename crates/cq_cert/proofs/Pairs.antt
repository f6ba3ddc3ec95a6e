-- The pairs of a line as loops read them.
use Rattle.std.proofs.Common.{◌≡◌, ◌⊎◌, inl, inr, ℕ, suc, ◌<◌, ◌≤◌, arith, List, [], ◌∷◌, ◌++◌, max, Bool, true, false, cond, not, ◌&&◌, nat_le, nat_lt, Option, Some, None, append-nil, append_assoc, refl, sym, ap, ap₂, subst, ◌∙◌}
use Rattle.spec_numbers.specs.Texts.{Text}
use Rattle.spec_numbers.specs.Rational.{ℚ, 0ℚ}
use Rattle.spec_numbers.specs.Sums.{Monomial}
use Rattle.spec_numbers.proofs.Tests.{le_true, le_false, true_le, both_are}
use Rattle.spec_linear.specs.Form.{IsSumFrom, is_zero}
use Rattle.spec_linear.proofs.Values.{is_zero-true, is_zero-false}
use Rattle.spec_log.specs.Log.{Run, seen_after}
use Rattle.spec_log.specs.Verdicts.{pair_in, in_front, pairs_in, are_counted, products_of, are_members, run_by}
use Rattle.cq_cert.specs.Pieces.{counted_products}

abbrev Pairs : Type 0
Pairs = List (ℕ × ℚ)

-- pairs that were read, in front of those of the rest
abbrev pub behind : Pairs → Option Pairs → Option Pairs
behind done None = None
behind done (Some ps) = Some (done ++ ps)

behind_nothing : (o : Option Pairs) → o ≡ behind [] o
behind_nothing None = refl
behind_nothing (Some ps) = refl

behind_one : (done : Pairs) (p : ℕ × ℚ) (o : Option Pairs) → behind done (in_front (Some p) o) ≡ behind (done ++ p ∷ []) o
behind_one done p None = refl
behind_one done p (Some ps) = ap (λ s. Some s) (sym (append_assoc done (p ∷ []) ps))

-- ---- products

-- what was read of a member's variables
pub record InOrder (first : ℕ) (words left : List Text) (products : List Monomial) (seen last : ℕ) : Type 0 where
  done : Pairs
  read : pairs_in words ≡ behind done (pairs_in left)
  are : products ≡ products_of done
  counted : (ps : Pairs) → are_counted first 0 (done ++ ps) ≡ are_counted seen last ps
  greatest : (ps : Pairs) → seen_after first (products_of (done ++ ps)) ≡ seen_after seen (products_of ps)

pub no_products : (first : ℕ) (words : List Text) → InOrder first words words [] first 0
no_products first words = record { done = []; read = behind_nothing (pairs_in words); are = refl; counted = λ ps. refl; greatest = λ ps. refl }

tests : (seen last : ℕ) (p : ℕ × ℚ) (ps : Pairs) → last < p.0 → p.0 ≤ suc seen → (p.1 ≡ 0ℚ → ⊥)
    → are_counted seen last (p ∷ ps) ≡ are_counted (max seen p.0) p.0 ps
tests seen last p ps h k n = go (nat_lt last p.0) (nat_le p.0 (suc seen)) (is_zero p.1) (le_true (suc last) p.0 h) (le_true p.0 (suc seen) k) not_zero
  where
    not_zero : is_zero p.1 ≡ false
    not_zero = by (is_zero p.1) refl
      where
        by : (x : Bool) → is_zero p.1 ≡ x → x ≡ false
        by true e = absurd (n (is_zero-true p.1 e))
        by false e = refl

    go : (x y z : Bool) → x ≡ true → y ≡ true → z ≡ false → (x && y && not z && are_counted (max seen p.0) p.0 ps) ≡ are_counted (max seen p.0) p.0 ps
    go true true false a b c = refl
    go true true true a b c = cc
    go true false z a b c = cc
    go false y z a b c = cc

products_append : (s t : Pairs) → products_of (s ++ t) ≡ products_of s ++ products_of t
products_append [] t = refl
products_append (p ∷ s) t = ap (λ w. record { variable = p.0; factor = p.1 } ∷ w) (products_append s t)

pub next_product : (first : ℕ) (words left : List Text) (word : Text) (products : List Monomial) (seen last : ℕ) (p : ℕ × ℚ)
    → InOrder first words (word ∷ left) products seen last → pair_in word ≡ Some p → last < p.0 → p.0 ≤ suc seen → (p.1 ≡ 0ℚ → ⊥)
    → InOrder first words left (products ++ record { variable = p.0; factor = p.1 } ∷ []) (max seen p.0) p.0
next_product first words left word products seen last p i e h k n = record {
  done = i.done ++ p ∷ [];
  read = i.read ∙ ap (λ o. behind i.done (in_front o (pairs_in left))) e ∙ behind_one i.done p (pairs_in left);
  are = ap (λ s. s ++ record { variable = p.0; factor = p.1 } ∷ []) i.are ∙ sym (products_append i.done (p ∷ []));
  counted = λ ps. ap (are_counted first 0) (append_assoc i.done (p ∷ []) ps) ∙ i.counted (p ∷ ps) ∙ tests seen last p ps h k n;
  greatest = λ ps. ap (λ s. seen_after first (products_of s)) (append_assoc i.done (p ∷ []) ps) ∙ i.greatest (p ∷ ps);
}

pub no_pair : (first : ℕ) (words left : List Text) (word : Text) (products : List Monomial) (seen last : ℕ)
    → InOrder first words (word ∷ left) products seen last → pair_in word ≡ None → None ≡ counted_products first (pairs_in words)
no_pair first words left word products seen last i e =
    sym (ap (counted_products first) (i.read ∙ ap (λ o. behind i.done (in_front o (pairs_in left))) e))

-- a pair that does not belong there
pub out_of_order : (first : ℕ) (words left : List Text) (word : Text) (products : List Monomial) (seen last : ℕ) (p : ℕ × ℚ)
    → InOrder first words (word ∷ left) products seen last → pair_in word ≡ Some p → (p.0 ≤ last) ⊎ ((suc seen < p.0) ⊎ (p.1 ≡ 0ℚ))
    → None ≡ counted_products first (pairs_in words)
out_of_order first words left word products seen last p i e never =
    sym (ap (counted_products first) (i.read ∙ ap (λ o. behind i.done (in_front o (pairs_in left))) e) ∙ go (pairs_in left))
  where
    fails : (ps : Pairs) → are_counted seen last (p ∷ ps) ≡ false
    fails ps = by (nat_lt last p.0) (nat_le p.0 (suc seen)) (is_zero p.1) refl refl refl
      where
        out : nat_lt last p.0 ≡ true → nat_le p.0 (suc seen) ≡ true → is_zero p.1 ≡ false → ⊥
        out a b c = elim never [
          | inl l ↦ let m : last < p.0 = true_le (suc last) p.0 a in omega (arith, l, m)
          | inr r ↦ elim r [
            | inl l ↦ let m : p.0 ≤ suc seen = true_le p.0 (suc seen) b in omega (arith, l, m)
            | inr z ↦ is_zero-false p.1 c z
          ]
        ]

        by : (x y z : Bool) → nat_lt last p.0 ≡ x → nat_le p.0 (suc seen) ≡ y → is_zero p.1 ≡ z → (x && y && not z && are_counted (max seen p.0) p.0 ps) ≡ false
        by true true false a b c = absurd (out a b c)
        by true true true a b c = refl
        by true false z a b c = refl
        by false y z a b c = refl

    go : (o : Option Pairs) → counted_products first (behind i.done (in_front (Some p) o)) ≡ None
    go None = refl
    go (Some ps) = ap (λ x. cond x (Some (products_of (i.done ++ p ∷ ps))) None) (i.counted (p ∷ ps) ∙ fails ps)

counted_order : (seen last : ℕ) (ps : Pairs) → are_counted seen last ps ≡ true → IsSumFrom (suc last) (products_of ps)
counted_order seen last [] e = tt
counted_order seen last (p ∷ ps) e =
    let a = both_are (nat_lt last p.0 && nat_le p.0 (suc seen) && not (is_zero p.1)) (are_counted (max seen p.0) p.0 ps) e in
    let b = both_are (nat_lt last p.0 && nat_le p.0 (suc seen)) (not (is_zero p.1)) a.0 in
    let c = both_are (nat_lt last p.0) (nat_le p.0 (suc seen)) b.0 in
    (true_le (suc last) p.0 c.0, is_zero-false p.1 (not_true (is_zero p.1) b.1), counted_order (max seen p.0) p.0 ps a.1)
  where
    not_true : (x : Bool) → not x ≡ true → x ≡ false
    not_true true d = cc
    not_true false d = refl

lower : (s : List Monomial) → IsSumFrom 1 s → IsSumFrom 0 s
lower [] h = tt
lower (m ∷ s) h = (omega arith, h.1, h.2)

-- what a member's variables are at the end
pub record AllRead (first : ℕ) (words : List Text) (products : List Monomial) (seen : ℕ) : Type 0 where
  pub read : Some products ≡ counted_products first (pairs_in words)
  pub in_order : IsSumFrom 0 products
  pub greatest : seen ≡ seen_after first products

pub all_products : (first : ℕ) (words : List Text) (products : List Monomial) (seen last : ℕ) → InOrder first words [] products seen last → AllRead first words products seen
all_products first words products seen last i = record {
  read = ap (λ s. Some s) (i.are ∙ ap products_of (sym (append-nil i.done))) ∙ sym (ap (counted_products first) i.read ∙ ap (λ x. cond x (Some (products_of (i.done ++ []))) None) true_there);
  in_order = subst (IsSumFrom 0) (ap products_of (append-nil i.done) ∙ sym i.are) (lower (products_of (i.done ++ [])) (counted_order first 0 (i.done ++ []) true_there));
  greatest = sym (i.greatest []) ∙ ap (seen_after first) (ap products_of (append-nil i.done) ∙ sym i.are);
}
  where
    true_there : are_counted first 0 (i.done ++ []) ≡ true
    true_there = i.counted []

-- ---- runs

-- what was read of a run
pub record InRun (n : ℕ) (words left : List Text) (items : Run) : Type 0 where
  read : pairs_in words ≡ behind items (pairs_in left)
  members : are_members n items ≡ true

pub no_entries : (n : ℕ) (words : List Text) → InRun n words words []
no_entries n words = record { read = behind_nothing (pairs_in words); members = refl }

members_append : (n : ℕ) (r s : Run) → are_members n (r ++ s) ≡ (are_members n r && are_members n s)
members_append n [] s = refl
members_append n (e ∷ r) s = go (nat_lt 0 e.0 && nat_le e.0 n) (are_members n r) (members_append n r s)
  where
    go : (x y : Bool) → are_members n (r ++ s) ≡ (y && are_members n s) → (x && are_members n (r ++ s)) ≡ ((x && y) && are_members n s)
    go true y e = e
    go false y e = refl

abbrev is_member : ℕ → ℕ → Bool
is_member n k = nat_lt 0 k && nat_le k n

member_true : (n k : ℕ) → 0 < k → k ≤ n → is_member n k ≡ true
member_true n k h l = ap₂ (λ x y. x && y) (le_true 1 k h) (le_true k n l)

member_false : (n k : ℕ) → (k ≡ 0) ⊎ (n < k) → is_member n k ≡ false
member_false n k (inl e) = ap (λ x. x && nat_le k n) (le_false 1 k (omega (arith, e)))
member_false n k (inr l) = by (nat_lt 0 k) (le_false k n l)
  where
    by : (x : Bool) → nat_le k n ≡ false → (x && nat_le k n) ≡ false
    by true e = e
    by false e = refl

one_member : (n : ℕ) (p : ℕ × ℚ) (x : Bool) → is_member n p.0 ≡ x → are_members n (p ∷ []) ≡ x
one_member n p x e = go (is_member n p.0) x e
  where
    go : (y x : Bool) → y ≡ x → (y && true) ≡ x
    go true x d = d
    go false x d = d

pub next_entry : (n : ℕ) (words left : List Text) (word : Text) (items : Run) (p : ℕ × ℚ) → InRun n words (word ∷ left) items → pair_in word ≡ Some p
    → 0 < p.0 → p.0 ≤ n → InRun n words left (items ++ p ∷ [])
next_entry n words left word items p i e h k = record {
  read = i.read ∙ ap (λ o. behind items (in_front o (pairs_in left))) e ∙ behind_one items p (pairs_in left);
  members = members_append n items (p ∷ []) ∙ ap₂ (λ x y. x && y) i.members (one_member n p true (member_true n p.0 h k));
}

run_none : (n : ℕ) (o : Option Run) → o ≡ None → None ≡ run_by n o
run_none n o e = sym (ap (run_by n) e)

pub no_entry : (n : ℕ) (words left : List Text) (word : Text) (items : Run) → InRun n words (word ∷ left) items → pair_in word ≡ None → None ≡ run_by n (pairs_in words)
no_entry n words left word items i e = run_none n (pairs_in words) (i.read ∙ ap (λ o. behind items (in_front o (pairs_in left))) e)

cond_none : (n : ℕ) (r : Run) → are_members n r ≡ false → run_by n (Some r) ≡ None
cond_none n [] e = refl
cond_none n (p ∷ r) e = ap (λ x. cond x (Some (p ∷ r)) None) e

pub no_member : (n : ℕ) (words left : List Text) (word : Text) (items : Run) (p : ℕ × ℚ) → InRun n words (word ∷ left) items → pair_in word ≡ Some p
    → (p.0 ≡ 0) ⊎ (n < p.0) → None ≡ run_by n (pairs_in words)
no_member n words left word items p i e never =
    sym (ap (run_by n) (i.read ∙ ap (λ o. behind items (in_front o (pairs_in left))) e) ∙ go (pairs_in left))
  where
    fails : (r : Run) → are_members n (items ++ p ∷ r) ≡ false
    fails r = members_append n items (p ∷ r) ∙ ap₂ (λ x y. x && y) i.members (ap (λ x. x && are_members n r) (member_false n p.0 never))

    go : (o : Option Run) → run_by n (behind items (in_front (Some p) o)) ≡ None
    go None = refl
    go (Some r) = cond_none n (items ++ p ∷ r) (fails r)

cond_some : (n : ℕ) (r : Run) → (r ≡ [] → ⊥) → are_members n r ≡ true → run_by n (Some r) ≡ Some r
cond_some n [] never e = absurd (never refl)
cond_some n (p ∷ r) never e = ap (λ x. cond x (Some (p ∷ r)) None) e

front_some : {A : Type 0} (x : Option A) (y : Option (List A)) → in_front x y ≡ Some [] → ⊥
front_some (Some a) (Some s) e = cc
front_some (Some a) None e = cc
front_some None y e = cc

pub all_entries : (n : ℕ) (head : Text) (tail : List Text) (items : Run) → InRun n (head ∷ tail) [] items → Some items ≡ run_by n (pairs_in (head ∷ tail))
all_entries n head tail items i = sym (ap (run_by n) there ∙ cond_some n items (λ e. front_some (pair_in head) (pairs_in tail) (there ∙ ap (λ s. Some s) e)) i.members)
  where
    there : pairs_in (head ∷ tail) ≡ Some items
    there = i.read ∙ ap (λ s. Some s) (append-nil items)

pub read_members : (n : ℕ) (words left : List Text) (items : Run) → InRun n words left items → are_members n items ≡ true
read_members n words left items i = i.members
