-- The members of a list with the forms of members of another: their places there, and back.
use Rattle.std.proofs.Common.{◌≡◌, inl, inr, ℕ, zero, suc, ◌<◌, List, [], ◌∷◌, ◌++◌, length, arith, refl, ap, sym, subst, ◌∙◌}
use Rattle.spec_numbers.specs.Sums.{Mentions}
use Rattle.spec_linear.specs.Form.{Linear}
use Rattle.spec_linear.specs.Solution.{Constraint, Has, SomeMentions}
use Rattle.spec_simplex.specs.LimitsDictionary.{member_at}

-- each member of the first list has its form in the second, in the same order
pub data AreAmong : List Constraint → List Constraint → Type 0 where
  no_more : {k : List Constraint} → AreAmong [] k
  passed : {d : Constraint} {l k : List Constraint} → AreAmong l k → AreAmong l (d ∷ k)
  found : {c d : Constraint} {l k : List Constraint} → d.form ≡ c.form → AreAmong l k → AreAmong (c ∷ l) (d ∷ k)

-- those in front are too
pub among_front : (front back l k : List Constraint) → AreAmong l k → l ≡ front ++ back → AreAmong front k
among_front [] back l k a e = no_more
among_front (b ∷ front) back _ k no_more e = cc
among_front (b ∷ front) back l _ (passed a) e = passed (among_front (b ∷ front) back l _ a e)
among_front (b ∷ front) back _ _ (found {c = c} {d = d} {l = l} f a) e =
    let h : c ≡ b = cc in
    let t : l ≡ front ++ back = cc in
    found (f ∙ ap (λ z. z.form) h) (among_front front back l _ a t)

-- the place there of the one at a place
abbrev pub place : {l k : List Constraint} → AreAmong l k → ℕ → ℕ
place no_more i = i
place (passed a) i = suc (place a i)
place (found e a) zero = zero
place (found e a) (suc i) = suc (place a i)

abbrev pub back : {l k : List Constraint} → AreAmong l k → ℕ → ℕ
back no_more j = j
back (passed a) zero = zero
back (passed a) (suc j) = back a j
back (found e a) zero = zero
back (found e a) (suc j) = suc (back a j)

pub within : (l k : List Constraint) (a : AreAmong l k) (i : ℕ) → i < length l → place a i < length k
within _ k no_more i h = absurd (omega arith)
within l _ (passed a) i h = let w = within l _ a i h in omega arith
within _ _ (found e a) zero h = omega arith
within _ _ (found e a) (suc i) h = let w = within _ _ a i (omega arith) in omega arith

pub form_there : (l k : List Constraint) (a : AreAmong l k) (i : ℕ) → i < length l → (member_at k (place a i)).form ≡ (member_at l i).form
form_there _ k no_more i h = absurd (omega arith)
form_there l _ (passed a) i h = form_there l _ a i h
form_there _ _ (found e a) zero h = e
form_there _ _ (found e a) (suc i) h = form_there _ _ a i (omega arith)

pub there_and_back : (l k : List Constraint) (a : AreAmong l k) (i : ℕ) → i < length l → back a (place a i) ≡ i
there_and_back _ k no_more i h = refl
there_and_back l _ (passed a) i h = there_and_back l _ a i h
there_and_back _ _ (found e a) zero h = refl
there_and_back _ _ (found e a) (suc i) h = ap suc (there_and_back _ _ a i (omega arith))

-- their variables stand there
pub mentioned_there : (l k : List Constraint) → AreAmong l k → (x : ℕ) → SomeMentions x l → SomeMentions x k
mentioned_there _ k no_more x h = absurd h
mentioned_there l _ (passed a) x h = inr (mentioned_there l _ a x h)
mentioned_there _ _ (found e a) x (inl h) = inl (subst (λ (f : Linear). Mentions x f.products) (sym e) h)
mentioned_there _ _ (found e a) x (inr h) = inr (mentioned_there _ _ a x h)

-- a member's form is that of a member there
pub form_among : (l k : List Constraint) → AreAmong l k → (c : Constraint) → Has c l → (d : Constraint) × Has d k × (d.form ≡ c.form)
form_among _ k no_more c h = absurd h
form_among l _ (passed a) c h = let r = form_among l _ a c h in (r.0, inr r.1, r.2)
form_among _ _ (found {d = d} e a) c (inl w) = (d, inl refl, e ∙ ap (λ z. z.form) (sym w))
form_among _ _ (found e a) c (inr h) = let r = form_among _ _ a c h in (r.0, inr r.1, r.2)
