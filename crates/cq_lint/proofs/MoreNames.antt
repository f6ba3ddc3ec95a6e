-- More names keep the operators that the old ones have, and bring no others.
use Rattle.std.proofs.Common.{◌≡◌, ℕ, ◌<◌, ◌≤◌, Bool, true, false, cond, List, [], length, Option, Some, None, slice_get, position, nat_lt, get_or, refl, sym, ap, ◌∙◌, arith, true≢false}
use Rattle.std.specs.FinMap.{FinMap, get}
use Rattle.std.specs.List.{position_or_len}
use Rattle.std.specs.Option.{option_and_then}
use Rattle.std.specs.Ordering.{nat_cmp}
use Rattle.std.specs.Str.{bytes_eq}
use Rattle.std.proofs.lemmas.Bool.Decides.{nat_tests}
use Rattle.std.proofs.lemmas.List.Quantifiers.{position-Some}
use Rattle.std.proofs.lemmas.List.Sums.{fails_before_first, passes_at_first, position_or_len_is}
use Rattle.std.proofs.lemmas.Option.{slice_get_within, get_or_from_slice_get, slice_get-get_or}
use Rattle.spec_numbers.specs.Texts.{Text}
use Rattle.spec_syntax.specs.declared.operators.OpDef.{OpDef}
use Rattle.cq_term.specs.Texts.{KeepsTexts}
use Rattle.cq_ops.specs.Tables.{Tables, AllBelow, AreNamed, entry_of, named}

module _ (old new : List Text) (kept : KeepsTexts old new) where
  -- a name's text is still there
  same_text : (i : ℕ) → i < length old → (i < length new) × (get_or new i [] ≡ get_or old i [])
  same_text i lt =
      let e : slice_get new i ≡ Some (get_or old i []) = kept i (get_or old i []) (slice_get-get_or old i [] lt) in
      (slice_get_within new i (get_or old i []) e, get_or_from_slice_get new i (get_or old i []) [] e)

  module _ (test : Text → Bool) where
    found_again : position_or_len test old < length old → position_or_len test new ≡ position_or_len test old
    found_again lt =
        let n : ℕ = position_or_len test old in
        let within : n < length new = (same_text n lt).0 in
        position_or_len_is test new n [] (omega (arith, within))
        (λ k below. let inside : k < length old = omega (arith, below, lt) in ap test (same_text k inside).1 ∙ fails_before_first test old k [] below)
        (λ _. ap test (same_text n lt).1 ∙ passes_at_first test old [] lt)

    module _ (operators : FinMap nat_cmp OpDef) (below : AllBelow (length old) operators) where
      -- the operator at the place of a text that only the new names have
      none_new : length old ≤ position_or_len test old → (q : Option ℕ) → position test new ≡ q → option_and_then (get operators) q ≡ None
      none_new past None e = refl
      none_new past (Some j) e = unset (get operators j) refl
        where
          unset : (o : Option OpDef) → get operators j ≡ o → get operators j ≡ None
          unset None is = is
          unset (Some op) is =
              let lt : j < length old = below.each j op is in
              let before : j < position_or_len test old = omega (arith, lt, past) in
              absurd (true≢false (sym (position-Some test new j [] e).1 ∙ ap test (same_text j lt).1 ∙ fails_before_first test old j [] before))

      operator_kept : option_and_then (get operators) (position test new) ≡ option_and_then (get operators) (position test old)
      operator_kept = by (nat_lt (position_or_len test old) (length old)) refl
        where
          by : (b : Bool) → nat_lt (position_or_len test old) (length old) ≡ b → option_and_then (get operators) (position test new) ≡ option_and_then (get operators) (position test old)
          by true e =
              let lt : position_or_len test old < length old = grind (arith, nat_tests) in
              let within : position_or_len test old < length new = (same_text (position_or_len test old) lt).0 in
              let same : position_or_len test new ≡ position_or_len test old = found_again lt in
              let there : nat_lt (position_or_len test new) (length new) ≡ true = grind (arith, nat_tests) in
              (λ i. option_and_then (get operators) (cond (there i) (Some (same i)) None))
              ∙ sym (ap (λ b. option_and_then (get operators) (cond b (Some (position_or_len test old)) None)) e)
          by false e =
              let past : length old ≤ position_or_len test old = grind (arith, nat_tests) in
              none_new past (position test new) refl ∙ sym (ap (λ b. option_and_then (get operators) (cond b (Some (position_or_len test old)) None)) e)

  entry_kept : (operators : FinMap nat_cmp OpDef) → AllBelow (length old) operators → entry_of new operators ≡ entry_of old operators
  entry_kept operators below = λ i text. operator_kept (bytes_eq text) operators below i

  pub operators_kept : (tables : Tables) → AreNamed old tables → named new tables ≡ named old tables
  operators_kept tables are =
      λ i. record { prefix = entry_kept tables.prefix are.prefix i; infixed = entry_kept tables.infixed are.infixed i; postfix = entry_kept tables.postfix are.postfix i }
