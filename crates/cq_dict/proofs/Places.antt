-- Lists that are related place by place: one is written over the other by changes of all places.
use Rattle.std.proofs.Common.{◌≡◌, ℕ, zero, suc, ◌+◌, ◌<◌, List, [], ◌∷◌, length, arith, refl, ap, sym, subst, inl, inr}
use Rattle.cq_dict.specs.declared.table.Change.{Change}
use Rattle.cq_dict.specs.declared.table.Role.{Role}
use Rattle.cq_dict.specs.Changes.{Changes, Covers, IsWritten}
use Rattle.cq_dict.specs.Roles.{IsAt}
use Rattle.cq_dict.proofs.Roles.{at_exists, at_below}

-- a change for each role, from a number on
abbrev pub places : ℕ → List Role → List Change
places i [] = []
places i (t ∷ ts) = record { at = i; role = t } ∷ places (suc i) ts

from_places : (l : List Role) (i : ℕ) (c : Change) → Changes c (places i l) → (k : ℕ) × (c.at ≡ i + k) × IsAt l k c.role
from_places [] i c h = absurd h
from_places (x ∷ l) i c (inl e) = let f : c.at ≡ i = ap (λ (z : Change). z.at) e in (zero, omega (arith, f), ap (λ (z : Change). z.role) e)
from_places (x ∷ l) i c (inr h) = let r = from_places l (suc i) c h in let f = r.1 in (suc r.0, omega (arith, f), r.2)

to_places : (l : List Role) (i k : ℕ) (t : Role) → IsAt l k t → (c : Change) × Changes c (places i l) × (c.at ≡ i + k) × (c.role ≡ t)
to_places [] i k t h = absurd h
to_places (x ∷ l) i zero t h = (record { at = i; role = x }, inl refl, omega arith, sym h)
to_places (x ∷ l) i (suc k) t h = let r = to_places l (suc i) k t h in let f = r.2 in (r.0, inr r.1, omega (arith, f), r.3)

at_place : (l : List Role) (c : Change) → Changes c (places 0 l) → IsAt l c.at c.role
at_place l c h = let r = from_places l 0 c h in let f = r.1 in let e : r.0 ≡ c.at = omega (arith, f) in subst (λ k. IsAt l k c.role) e r.2

place : (l : List Role) (k : ℕ) (t : Role) → IsAt l k t → (c : Change) × Changes c (places 0 l) × (c.at ≡ k) × (c.role ≡ t)
place l k t h = let r = to_places l 0 k t h in let f = r.2 in (r.0, r.1, omega (arith, f), r.3)

pub places_written : (old new : List Role) → length new ≡ length old → IsWritten old (places 0 new) new
places_written old new e = record { size = e; each = λ j t h. inl (place new j t h) }

pub places_cover : (R : ℕ → Role → Role → Type 0) (old new : List Role) → length new ≡ length old → ((j : ℕ) (s t : Role) → IsAt old j s → IsAt new j t → R j s t) → Covers R old (length old) (places 0 new)
places_cover R old new e f = record {
  changed = λ c h.
      let a = at_place new c h in
      let l = at_below new c.at c.role a in
      let s = at_exists old c.at (omega (arith, l, e)) in
      (s.0, s.1, f c.at s.0 c.role s.1 a);
  kept = λ j s l a.
      let t = at_exists new j (omega (arith, l, e)) in
      let p = place new j t.0 t.1 in
      inr (p.0, p.1, p.2);
}

put_first : (P : ℕ → Role → Type 0) (x : Role) (l : List Role) → P zero x → ((j : ℕ) (t : Role) → IsAt l j t → P (suc j) t) → (j : ℕ) (t : Role) → IsAt (x ∷ l) j t → P j t
put_first P x l p f zero t h = subst (P zero) (sym h) p
put_first P x l p f (suc j) t h = f j t h

-- where there is a role for each place, there is a list of them
pub listed : (P : ℕ → Role → Type 0) (n : ℕ) → ((j : ℕ) → j < n → (t : Role) × P j t) → (l : List Role) × (length l ≡ n) × ((j : ℕ) (t : Role) → IsAt l j t → P j t)
listed P zero f = ([], refl, λ j t h. absurd h)
listed P (suc n) f =
    let h = f zero (omega arith) in
    let r = listed (λ j t. P (suc j) t) n (λ j l. f (suc j) (omega arith)) in
    (h.0 ∷ r.0, ap suc r.1, put_first P h.0 r.0 h.1 r.2)
