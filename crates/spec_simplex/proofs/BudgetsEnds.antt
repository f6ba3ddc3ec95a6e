-- A chain of exchanges for a list is shorter than the number of sets of its inequalities.
use Rattle.std.proofs.Common.{◌≡◌, ℕ, zero, suc, ◌^◌, ◌<◌, ◌≤◌, Bool, true, false, cond, nat_eq, length, arith, refl, ap, sym, subst, ◌∙◌, ◌⊎◌, inl, inr}
use Rattle.spec_numbers.specs.Rational.{IsNotNegative}
use Rattle.spec_linear.specs.declared.Relation.{Relation}
use Rattle.spec_linear.specs.declared.Relation.TheVariants.{Eq, Gt, Ge, Ne}
use Rattle.spec_projection.specs.Elimination.{IsInequality}
use Rattle.spec_projection.specs.Projection.{is_inequality, inequalities_of}
use Rattle.spec_simplex.specs.LimitsDictionary.{Quantity, variable, member, IsRestricted, member_at}
use Rattle.spec_simplex.specs.Overflow.{Moment}
use Rattle.spec_simplex.specs.Chains.{IsNumbering, IsBlandChain}
use Rattle.spec_numbers.proofs.Tests.{nat_eq-same, nat_eq-self}
use Rattle.spec_simplex.proofs.Solutions.{true_not_false}
use Rattle.spec_simplex.proofs.Apart.{AreApart, no_more_than}
use Rattle.spec_simplex.proofs.Codes.{code, code_below, code_tells}
use Rattle.spec_simplex.proofs.Turns.{rows_stay, no_rows_again}

-- ---- the number of a member
abbrev is_member : ℕ → Quantity → Bool
is_member i (variable x) = false
is_member i (member j) = nat_eq i j

is_that_member : (i : ℕ) (q : Quantity) → is_member i q ≡ true → q ≡ member i
is_that_member i (variable x) e = cc
is_that_member i (member j) e = ap member (sym (nat_eq-same i j e))

module _ (quantity : ℕ → Quantity) (i : ℕ) where
  -- below n
  abbrev number_below : ℕ → ℕ
  number_below zero = 0
  number_below (suc n) = cond (is_member i (quantity n)) n (number_below n)

  module _ (size : ℕ) (numbering : IsNumbering quantity size) where
    found_below : (n : ℕ) → n ≤ size → (q : ℕ) → q < n → quantity q ≡ member i → number_below n ≡ q
    found_below zero h q l e = absurd (omega (arith, l))
    found_below (suc n) h q l e = go (is_member i (quantity n)) refl (λ k. found_below n (omega (arith, h)) q k e)
      where
        there : q ≡ n → is_member i (quantity n) ≡ true
        there z = ap (is_member i) (ap quantity (sym z) ∙ e) ∙ nat_eq-self i

        go : (b : Bool) → is_member i (quantity n) ≡ b → (q < n → number_below n ≡ q) → cond b n (number_below n) ≡ q
        go true f rec = numbering.once n q (omega (arith, h)) (omega (arith, l, h)) (is_that_member i (quantity n) f ∙ sym e)
        go false f rec = rec (omega (arith, l, λ (z : q ≡ n). true_not_false (is_member i (quantity n)) (there z) f))

-- ---- the chain
flag_of : (r : Relation) → IsInequality r → is_inequality r ≡ true
flag_of Eq h = absurd h
flag_of Gt h = refl
flag_of Ge h = refl
flag_of Ne h = absurd h

module _ (m : Moment) (n : ℕ) (b : IsBlandChain m n) where
  constants : (q : ℕ) → b.first.is_row q ≡ true → b.restricted q ≡ true → IsNotNegative (b.first.constant q)
  constants q r f =
      let w = b.shows.rows q r in
      let a = b.shows.rows_are q r in
      subst IsNotNegative w.numbers.constant_is
      (b.feasible.constants (b.quantity q) ((b.flags q (b.is_dictionary.rows_below q r)).0 f) a.1 a.2 w.expression w.written)

  -- which members are rows at a stage
  members : ℕ → ℕ → Bool
  members k i = (b.chain.stage k).is_row (number_below b.quantity i b.size)

  far : (k q : ℕ) → b.size ≤ q → (b.chain.stage k).is_row q ≡ false
  far k q h = go ((b.chain.stage k).is_row q) refl
    where
      go : (x : Bool) → (b.chain.stage k).is_row q ≡ x → (b.chain.stage k).is_row q ≡ false
      go false e = e
      go true e = absurd (omega (arith, h, (b.chain.is k).rows_below q e))

  module _ (j k : ℕ) (j_is : j ≤ n) (k_is : k ≤ n) (same : code m.list (members j) ≡ code m.list (members k)) where
    member_same : (q : ℕ) → q < b.size → (w : Quantity) → b.quantity q ≡ w → IsRestricted m.list w → (b.chain.stage k).is_row q ≡ (b.chain.stage j).is_row q
    unfolding members
    member_same q l (variable x) e r = absurd r
    member_same q l (member i) e r =
        let at = found_below b.quantity i b.size b.numbering b.size (omega arith) q l e in
        ap (b.chain.stage k).is_row (sym at)
        ∙ sym (code_tells m.list (members j) (members k) same i r.0 (flag_of (member_at m.list i).relation r.1))
        ∙ ap (b.chain.stage j).is_row at

    near_same : (q : ℕ) → q < b.size → (f : Bool) → b.restricted q ≡ f → (b.chain.stage k).is_row q ≡ (b.chain.stage j).is_row q
    near_same q l true f = member_same q l (b.quantity q) refl ((b.flags q l).0 f)
    near_same q l false f =
        rows_stay b.size b.restricted b.first n b.last b.chain k k_is q f ∙ sym (rows_stay b.size b.restricted b.first n b.last b.chain j j_is q f)

    near_or_far : (q : ℕ) → (q < b.size) ⊎ (b.size ≤ q)
    near_or_far q = grind arith

    rows_same : (q : ℕ) → (b.chain.stage k).is_row q ≡ (b.chain.stage j).is_row q
    rows_same q = elim (near_or_far q) [ inl l ↦ near_same q l (b.restricted q) refl | inr h ↦ far k q h ∙ sym (far j q h) ]

  apart : AreApart (λ k. code m.list (members k)) (suc n)
  apart j k l h e =
      no_rows_again b.size b.restricted b.first n b.last b.chain constants j k l (omega (arith, h)) (rows_same j k (omega (arith, l, h)) (omega (arith, h)) e)

  pub chain_short : n < 2 ^ length (inequalities_of m.list)
  chain_short =
      let r = no_more_than (2 ^ length (inequalities_of m.list)) (suc n) (λ k. code m.list (members k)) (λ k l. code_below m.list (members k)) apart in
      omega (arith, r)
