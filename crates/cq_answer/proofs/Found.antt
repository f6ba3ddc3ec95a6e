-- What waits under a number that is among those that wait.
use Rattle.std.proofs.Common.{◌≡◌, ℕ, zero, suc, ◌+◌, ◌<◌, Bool, true, false, List, [], ◌∷◌, ◌++◌, length, take, get_or, map, nat_eq, Option, Some, refl, sym, ap, ◌∙◌, subst, arith, if◌then◌else◌}
use Rattle.std.proofs.lemmas.List.{take_more}
use Rattle.spec_numbers.proofs.Tests.{nat_eq-self, nat_eq-apart}
use Rattle.cq_attr.specs.Attributes.{Waiting, Ascends, numbers, find}
use Rattle.cq_attr.specs.declared.susp.Susp.{Susp}

ascends_rest : (n : ℕ) (ns : List ℕ) → Ascends (n ∷ ns) → Ascends ns
ascends_rest n ns a i j d l m = a (suc i) (suc j) d (omega (arith, l)) (omega (arith, m))

found_here : (ws : List Waiting) (i n : ℕ) (s : Susp) → Ascends (numbers ws) → i < length (numbers ws) → n ≡ get_or (numbers ws) i n → find ws n ≡ Some s → s ≡ get_or (map (λ w. w.susp) ws) i s
found_here [] i n s a l e f = absurd (omega arith)
found_here (w ∷ ws) zero n s a l e f =
    let found : find (w ∷ ws) n ≡ Some w.susp = ap (λ b. if b then Some w.susp else find ws n) (subst (λ k. nat_eq w.number k ≡ true) (sym e) (nat_eq-self w.number)) in
    let same : Some s ≡ Some w.susp = sym f ∙ found in
    cc
found_here (w ∷ ws) (suc i) n s a l e f =
    let before : w.number < get_or (numbers ws) i n = a 0 (suc i) n (omega arith) l in
    let apart : nat_eq w.number n ≡ false = nat_eq-apart w.number n (λ g. absurd (omega (arith, before, g, e))) in
    found_here ws i n s (ascends_rest w.number (numbers ws) a) (omega (arith, l)) e (sym (ap (λ b. if b then Some w.susp else find ws n) apart) ∙ f)

-- the next of those that wait
pub waiting_more : (ws : List Waiting) (i n : ℕ) (s : Susp) (all new : List Susp) → Ascends (numbers ws) → i < length (numbers ws) → n ≡ get_or (numbers ws) i n → find ws n ≡ Some s →
    all ≡ take i (map (λ w. w.susp) ws) → new ≡ all ++ s ∷ [] → i < length (map (λ w. w.susp) ws) → new ≡ take (i + 1) (map (λ w. w.susp) ws)
waiting_more ws i n s all new a l e f t p within =
    p ∙ ap (λ ss. ss ++ s ∷ []) t ∙ ap (λ x. take i (map (λ (w : Waiting). w.susp) ws) ++ x ∷ []) (found_here ws i n s a l e f) ∙ sym (take_more (map (λ (w : Waiting). w.susp) ws) i s within)
