-- A query that words ask for may write an answer, and a number that they ask for is in its range.
use Rattle.std.proofs.Common.{◌≡◌, ◌<◌, ◌≤◌, ℕ, List, Bool, true, false, Option, Some, None, refl, ap, arith, option_map, if◌then◌else◌}
use Rattle.std.proofs.lemmas.Option.{none-some, same_Some}
use Rattle.std.specs.Prelude.{bytes_eq, map, String, option_and_then, string_bytes, unwrap_or, codes, []}
use Rattle.std.specs.Str.Parse.{digits_value, without_leading_plus}
use Rattle.std.specs.declared.alloc.Global.{Global}
use Rattle.clap.specs.Simple.{subcommand_of}
use Rattle.clap.specs.ValueTests.{is_unsigned_in}
use Rattle.clap.specs.Walk.{Row, all_of, first_of}
use Rattle.clap.specs.declared.builder.value_parser.ValueParser.TheVariants as parser
use Rattle.clap.proofs.ValueTestLemmas.{accepts-Accepts}
use Rattle.spec_numbers.specs.Texts.{Text}
use Rattle.cq_words.specs.Asked.{Asked, Task, ToRun, ToGen}
use Rattle.cq_words.specs.Language.{asked_by, asked_in, asked_of, command, gen_in, is_taken, number_or, number_to, task_in}
use Rattle.cq_words.specs.declared.run.TheConstants.{GREATEST, MOST, STEPS, PIVOTS, ANSWERS}

number_between : (most : ℕ) (text : Text) (n : ℕ) → number_to most text ≡ Some n → (0 < n) × (n ≤ most)
number_between most text n = go (is_unsigned_in 1 most text) refl
  where
    v : ℕ
    v = digits_value 10 (without_leading_plus text)

    go : (b : Bool) → is_unsigned_in 1 most text ≡ b → (if b then Some v else None) ≡ Some n → (0 < n) × (n ≤ most)
    go true e h = let i = accepts-Accepts false (parser.Unsigned 1 most) text e in
        let s = same_Some v n h in (omega (arith, i.2, s), omega (arith, i.3, s))
    go false e h = absurd (none-some n h)

answers_positive : (given : Option Text) (n : ℕ) → number_or ANSWERS given ≡ Some n → 0 < n
answers_positive None n h = let s = same_Some ANSWERS n h in omega (arith, s)
answers_positive (Some text) n h = (number_between MOST text n h).0

gen_between : (given : Option Text) (n : ℕ) → option_and_then (number_to GREATEST) given ≡ Some n → (0 < n) × (n ≤ GREATEST)
gen_between None n h = absurd (none-some n h)
gen_between (Some text) n h = number_between GREATEST text n h

third : (s p n : Option ℕ) (names : List Text) (a : Asked) → asked_of s p n names ≡ Some a → n ≡ Some a.answers
third (Some s) (Some p) (Some n) names a h = ap (option_map (λ x. x.answers)) h
third (Some s) (Some p) None names a h = absurd (none-some a h)
third (Some s) None n names a h = absurd (none-some a h)
third None p n names a h = absurd (none-some a h)

-- ---- tasks

same_run : (a b : Asked) → Some (ToRun a) ≡ Some (ToRun b) → a ≡ b
same_run a b h = cc

same_gen : (n m : ℕ) → Some (ToGen n) ≡ Some (ToGen m) → n ≡ m
same_gen n m h = cc

run_is : (found : Option Asked) (a : Asked) → option_map ToRun found ≡ Some (ToRun a) → found ≡ Some a
run_is None a h = absurd (none-some (ToRun a) h)
run_is (Some x) a h = ap Some (same_run x a h)

gen_is : (found : Option ℕ) (n : ℕ) → option_map ToGen found ≡ Some (ToGen n) → found ≡ Some n
gen_is None n h = absurd (none-some (ToGen n) h)
gen_is (Some x) n h = ap Some (same_gen x n h)

no_run : (found : Option ℕ) (a : Asked) → option_map ToGen found ≡ Some (ToRun a) → ⊥
no_run None a h = none-some (ToRun a) h
no_run (Some x) a h = cc

no_gen : (found : Option Asked) (n : ℕ) → option_map ToRun found ≡ Some (ToGen n) → ⊥
no_gen None n h = none-some (ToGen n) h
no_gen (Some x) n h = cc

module _ (name : Text) (rows : List Row) where
  run_answers : (a : Asked) → task_in name rows ≡ Some (ToRun a) → 0 < a.answers
  run_answers a = go (bytes_eq name (codes "run")) (bytes_eq name (codes "gen"))
    where
      go : (r g : Bool) → (if r then option_map ToRun (asked_in rows) else if g then option_map ToGen (gen_in rows) else None) ≡ Some (ToRun a) → 0 < a.answers
      go true g h = answers_positive (first_of (codes "answers") rows) a.answers (third (number_or STEPS (first_of (codes "steps") rows))
          (number_or PIVOTS (first_of (codes "pivots") rows)) (number_or ANSWERS (first_of (codes "answers") rows)) (unwrap_or (all_of (codes "FILE") rows) []) a
          (run_is (asked_in rows) a h))
      go false true h = absurd (no_run (gen_in rows) a h)
      go false false h = absurd (none-some (ToRun a) h)

  gen_number : (n : ℕ) → task_in name rows ≡ Some (ToGen n) → (0 < n) × (n ≤ GREATEST)
  gen_number n = go (bytes_eq name (codes "run")) (bytes_eq name (codes "gen"))
    where
      go : (r g : Bool) → (if r then option_map ToRun (asked_in rows) else if g then option_map ToGen (gen_in rows) else None) ≡ Some (ToGen n) → (0 < n) × (n ≤ GREATEST)
      go true g h = absurd (no_gen (asked_in rows) n h)
      go false true h = gen_between (first_of (codes "N") rows) n (gen_is (gen_in rows) n h)
      go false false h = absurd (none-some (ToGen n) h)

-- what holds of each task of a subcommand's arguments holds of what words ask for
by_words : (words : List (String Global)) (P : Task → Type 0) → ((name : Text) (rows : List Row) (t : Task) → task_in name rows ≡ Some t → P t)
    → (t : Task) → asked_by words ≡ Some t → P t
by_words words P each t = taken (is_taken (map string_bytes words))
  where
    found : Option (Text × List Row)
    found = subcommand_of command (map string_bytes words)

    in_found : (o : Option (Text × List Row)) → option_and_then (λ p. task_in p.0 p.1) o ≡ Some t → P t
    in_found None h = absurd (none-some t h)
    in_found (Some p) h = each p.0 p.1 t h

    taken : (b : Bool) → (if b then option_and_then (λ p. task_in p.0 p.1) found else None) ≡ Some t → P t
    taken true h = in_found found h
    taken false h = absurd (none-some t h)

-- so many answers may come, or the number is in range
abbrev IsInRange : Task → Type 0
IsInRange (ToRun a) = 0 < a.answers
IsInRange (ToGen n) = (0 < n) × (n ≤ GREATEST)

in_range : (name : Text) (rows : List Row) (t : Task) → task_in name rows ≡ Some t → IsInRange t
in_range name rows (ToRun a) h = run_answers name rows a h
in_range name rows (ToGen n) h = gen_number name rows n h

pub may_answer : (words : List (String Global)) (a : Asked) → asked_by words ≡ Some (ToRun a) → 0 < a.answers
may_answer words a h = by_words words IsInRange in_range (ToRun a) h

pub may_generate : (words : List (String Global)) (n : ℕ) → asked_by words ≡ Some (ToGen n) → (0 < n) × (n ≤ GREATEST)
may_generate words n h = by_words words IsInRange in_range (ToGen n) h
