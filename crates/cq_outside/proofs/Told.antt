-- What calls one after another do to told bytes and to counts.
use Rattle.std.proofs.Common.{◌≡◌, ℕ, ◌<◌, List, [], ◌++◌, length, take, drop, Option, None, Some, Result, Ok, Err, sym, ◌∙◌, ap, append_assoc, append-nil}
use Rattle.std.proofs.lemmas.List.{take-append-drop, take-append-le}
use Rattle.std.proofs.lemmas.Option.{none-some, same_Some}
use Rattle.std.proofs.Math.Seq.{take-add}
use Rattle.std.specs.Io.{ReadsAtMost}
use Rattle.std.specs.Io.KnownBytes.{Consumes, ReadConsumes}
use Rattle.cq_outside.specs.Bytes.{Adds, Appends, Begins}

pub appends_more : (start mid now : Option (List ℕ)) (xs ys : List ℕ) → Appends start mid xs → Appends mid now ys → Appends start now (xs ++ ys)
appends_more (Some s) (Some m) now xs ys p q = q ∙ ap Some (ap (λ l. l ++ ys) (same_Some m (s ++ xs) p) ∙ append_assoc s xs ys)
appends_more (Some s) None now xs ys p q = absurd (none-some (s ++ xs) p)
appends_more None (Some m) now xs ys p q = absurd (none-some m (sym p))
appends_more None None now xs ys p q = q

-- where what was appended has P, so has what was appended and then told no more
pub adds : (start mid now : Option (List ℕ)) (xs : List ℕ) (P : List ℕ → Type 0) → Appends start mid xs → Adds mid now (λ text. text ≡ []) → P xs → Adds start now P
adds (Some s) (Some m) (Some n) xs P a (text, grown, none) p =
    (xs, grown ∙ ap (λ l. m ++ l) none ∙ append-nil m ∙ same_Some m (s ++ xs) a, p)
adds (Some s) (Some m) None xs P a b p = tt
adds (Some s) None now xs P a b p = absurd (none-some (s ++ xs) a)
adds None (Some m) now xs P a b p = absurd (none-some m (sym a))
adds None None (Some n) xs P a b p = absurd b
adds None None None xs P a b p = tt

pub consumes_more : (start mid now : Option (List ℕ)) (xs ys : List ℕ) → Consumes start mid xs → Consumes mid now ys → Consumes start now (xs ++ ys)
consumes_more None mid now xs ys p q = tt
consumes_more (Some s) None now xs ys p q = absurd p
consumes_more (Some s) (Some m) None xs ys p q = absurd q
consumes_more (Some s) (Some m) (Some n) xs ys p q = p ∙ ap (λ l. xs ++ l) q ∙ sym (append_assoc xs ys n)

-- a read into the front of a buffer is a read into the buffer, where the front has room if the buffer has
pub reads_into_front : {E : Type 0} → (left now : Option (List ℕ)) (result : Result ℕ E) (front rest : List ℕ) → ReadsAtMost result front → (0 < length (front ++ rest) → 0 < length front) → ReadConsumes left now result front → ReadConsumes left now result (front ++ rest)
reads_into_front left now (Ok n) front rest (within, same) room (consumed, end) = (rw (take-append-le n front rest within) consumed, λ none some. end none (room some))
reads_into_front left now (Err e) front rest within room kept = kept

pub begins_take : (n : ℕ) (xs : List ℕ) → Begins (take n xs) xs
begins_take n xs = (drop n xs, sym (take-append-drop n xs))

pub ruleset told = (appends_more, consumes_more, take-add)
