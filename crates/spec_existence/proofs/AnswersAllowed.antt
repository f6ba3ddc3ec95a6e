-- Words that ask for a run allow an answer.
use Rattle.std.proofs.Common.{◌≡◌, ℕ, ◌<◌, ◌≤◌, List, [], Bool, true, false, cond, ◌&&◌, Option, Some, None, arith, refl, ap, subst}
use Rattle.std.specs.Prelude.{bytes_eq, codes, option_map, option_and_then, unwrap_or}
use Rattle.std.specs.Str.Parse.{digits_value, without_leading_plus}
use Rattle.spec_numbers.specs.Texts.{Text}
use Rattle.spec_numbers.proofs.Tests.{true_le}
use Rattle.clap.specs.Simple.{subcommand_of}
use Rattle.clap.specs.ValueTests.{is_unsigned_in}
use Rattle.clap.specs.Walk.{Row, all_of, first_of}
use Rattle.cq_words.specs.Asked.{Asked, ToRun, ToGen}
use Rattle.cq_words.specs.Language.{command, number_to, number_or, asked_of, asked_in, gen_in, task_in, is_taken, asked_by_texts}
use Rattle.cq_words.specs.declared.run.TheConstants.{MOST, STEPS, PIVOTS, ANSWERS}

third_holds : (a b c d : Bool) → (a && (b && (c && d))) ≡ true → c ≡ true
third_holds true true true d e = refl
third_holds true true false d e = e
third_holds true false c d e = cc
third_holds false b c d e = cc

-- a number of an option is one at least
module _ (most : ℕ) (text : Text) (n : ℕ) where
  number_positive : number_to most text ≡ Some n → 0 < n
  number_positive e = go (is_unsigned_in 1 most text) refl e
    where
      go : (b : Bool) → is_unsigned_in 1 most text ≡ b → cond b (Some (digits_value 10 (without_leading_plus text))) None ≡ Some n → 0 < n
      go true d f =
          let same : digits_value 10 (without_leading_plus text) ≡ n = cc in
          let least : 1 ≤ digits_value 10 (without_leading_plus text) = true_le 1 (digits_value 10 (without_leading_plus text)) (third_holds _ _ _ _ d) in
          omega (arith, same, least)
      go false d f = cc

option_positive : (o : Option Text) (n : ℕ) → number_or ANSWERS o ≡ Some n → 0 < n
option_positive None n e = let d : ANSWERS ≡ n = cc in subst (λ x. 0 < x) d (omega arith)
option_positive (Some text) n e = number_positive MOST text n e

asked_positive : (p q r : Option ℕ) (names : List Text) (a : Asked) → ((n : ℕ) → r ≡ Some n → 0 < n) → asked_of p q r names ≡ Some a → 0 < a.answers
asked_positive None q r names a h e = cc
asked_positive (Some x) None r names a h e = cc
asked_positive (Some x) (Some y) None names a h e = cc
asked_positive (Some x) (Some y) (Some z) names a h e =
    let d : record { steps = x; pivots = y; answers = z; files = names } ≡ a = cc in
    subst (λ (b : Asked). 0 < b.answers) d (h z refl)

in_positive : (rows : List Row) (a : Asked) → asked_in rows ≡ Some a → 0 < a.answers
in_positive rows a e =
    asked_positive (number_or STEPS (first_of (codes "steps") rows)) (number_or PIVOTS (first_of (codes "pivots") rows))
    (number_or ANSWERS (first_of (codes "answers") rows)) (unwrap_or (all_of (codes "FILE") rows) []) a
    (λ n d. option_positive (first_of (codes "answers") rows) n d) e

run_positive : (o : Option Asked) (a : Asked) → ((b : Asked) → o ≡ Some b → 0 < b.answers) → option_map ToRun o ≡ Some (ToRun a) → 0 < a.answers
run_positive None a h e = cc
run_positive (Some b) a h e = let d : b ≡ a = cc in h a (ap (λ x. Some x) d)

gen_never : (o : Option ℕ) (a : Asked) → option_map ToGen o ≡ Some (ToRun a) → ⊥
gen_never None a e = cc
gen_never (Some n) a e = cc

task_positive : (x y : Bool) (rows : List Row) (a : Asked) → cond x (option_map ToRun (asked_in rows)) (cond y (option_map ToGen (gen_in rows)) None) ≡ Some (ToRun a) → 0 < a.answers
task_positive true y rows a e = run_positive (asked_in rows) a (λ b d. in_positive rows b d) e
task_positive false true rows a e = absurd (gen_never (gen_in rows) a e)
task_positive false false rows a e = cc

found_positive : (o : Option (Text × List Row)) (a : Asked) → option_and_then (λ (p : Text × List Row). task_in p.0 p.1) o ≡ Some (ToRun a) → 0 < a.answers
found_positive None a e = cc
found_positive (Some p) a e = task_positive (bytes_eq p.0 (codes "run")) (bytes_eq p.0 (codes "gen")) p.1 a e

taken_positive : (x : Bool) (o : Option (Text × List Row)) (a : Asked) → cond x (option_and_then (λ (p : Text × List Row). task_in p.0 p.1) o) None ≡ Some (ToRun a) → 0 < a.answers
taken_positive true o a e = found_positive o a e
taken_positive false o a e = cc

pub answers_allowed : (words : List Text) (a : Asked) → asked_by_texts words ≡ Some (ToRun a) → 0 < a.answers
answers_allowed words a e = taken_positive (is_taken words) (subcommand_of command words) a e
