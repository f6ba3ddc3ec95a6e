-- Lists that go on from others: their lengths and places, and going on twice.
use Rattle.std.proofs.Common.{◌≡◌, ℕ, ◌<◌, ◌≤◌, List, [], ◌++◌, length, sym, ap, ◌∙◌, get_or, arith, append_assoc, length-append}
use Rattle.std.specs.Prelude.{All}
use Rattle.std.proofs.lemmas.List.{append-nil, get_or_append_left}
use Rattle.std.proofs.lemmas.List.Elements.{All-weaker}
use Rattle.spec_numbers.specs.Prefixes.{IsPrefix}

module _ {X : Type 0} where
  pub prefix_same : (xs ys : List X) → ys ≡ xs → IsPrefix xs ys
  prefix_same xs ys e = ([], e ∙ sym (append-nil xs))

  pub prefix_both : (xs ys zs : List X) → IsPrefix xs ys → IsPrefix ys zs → IsPrefix xs zs
  prefix_both xs ys zs p q = (p.0 ++ q.0, q.1 ∙ ap (λ l. l ++ q.0) p.1 ∙ append_assoc xs p.0 q.0)

  pub prefix_length : (xs ys : List X) → IsPrefix xs ys → length xs ≤ length ys
  prefix_length xs ys p = omega (arith, ap length p.1, length-append xs p.0)

  pub prefix_within : (xs ys : List X) (i : ℕ) → IsPrefix xs ys → i < length xs → i < length ys
  prefix_within xs ys i p lt = omega (arith, prefix_length xs ys p, lt)

  pub prefix_all_within : (xs ys : List X) (ids : List ℕ) → IsPrefix xs ys → All (λ i. i < length xs) ids → All (λ i. i < length ys) ids
  prefix_all_within xs ys ids p all = All-weaker (λ i. i < length xs) (λ i. i < length ys) (λ i h. prefix_within xs ys i p h) ids all

  pub prefix_get_or : (xs ys : List X) (i : ℕ) (d : X) → IsPrefix xs ys → i < length xs → get_or ys i d ≡ get_or xs i d
  prefix_get_or xs ys i d p lt = ap (λ l. get_or l i d) p.1 ∙ get_or_append_left xs p.0 d i lt
