-- The command's language: the words that `clap` takes for the command, and what they ask for.
use Rattle.std.specs.Prelude.{ℕ, List, [], ◌∷◌, Bool, true, false, Option, Some, None, bytes_eq, codes, if◌then◌else◌, map, string_bytes, String, option_map, option_and_then, unwrap_or}
use Rattle.std.specs.Str.Parse.{digits_value, without_leading_plus}
use Rattle.std.specs.declared.alloc.Global.{Global}
use Rattle.spec_numbers.specs.Texts.{Text}
use Rattle.clap.specs.Faults.{fault_of}
use Rattle.clap.specs.Kinds.{Kinds}
use Rattle.clap.specs.Simple.{App, new_app, new_rule, subcommand_of, with_rule, with_subcommand}
use Rattle.clap.specs.ValueTests.{is_unsigned_in}
use Rattle.clap.specs.Walk.{Row, Rule, all_of, first_of}
use Rattle.clap.specs.declared.builder.action.ArgAction.TheVariants.{Set, Append}
use Rattle.clap.specs.declared.builder.value_parser.ValueParser.TheVariants as parser
use Rattle.cq_words.specs.Asked.{Asked, Task, ToRun, ToGen}
use Rattle.cq_words.specs.declared.run.TheConstants.{MOST, STEPS, PIVOTS, ANSWERS, GREATEST}

-- ---- the command

-- an option with a number
abbrev pub numbered : Text → Rule
numbered name = record (new_rule name) { long = Some name; action = Some Set; parser = Some (parser.Unsigned 1 MOST) }

-- names of files, any number of them
abbrev pub files : Rule
files = record (new_rule (codes "FILE")) { action = Some Append }

-- run [--steps N] [--pivots N] [--answers N] [FILE..]
abbrev pub run : App
run = with_rule (with_rule (with_rule (with_rule (new_app (codes "run")) (numbered (codes "steps"))) (numbered (codes "pivots"))) (numbered (codes "answers"))) files

-- a number that must stand there
abbrev pub numeral : Rule
numeral = record (new_rule (codes "N")) { action = Some Set; parser = Some (parser.Unsigned 1 GREATEST); required = true }

-- gen N
abbrev pub gen : App
gen = with_rule (new_app (codes "gen")) numeral

abbrev pub wants_subcommand : App → App
wants_subcommand a = record a { top = record a.top { subcommand_required = true } }

abbrev pub command : App
command = with_subcommand (with_subcommand (wants_subcommand (new_app (codes "clpq"))) run.top) gen.top

-- ---- what words ask for

-- a number from 1 to the greatest
abbrev pub number_to : ℕ → Text → Option ℕ
number_to greatest text = if is_unsigned_in 1 greatest text then Some (digits_value 10 (without_leading_plus text)) else None

-- a number in the range of the options
abbrev pub number_in : Text → Option ℕ
number_in text = number_to MOST text

-- the number of an option, or its default where it doesn't stand there
abbrev pub number_or : ℕ → Option Text → Option ℕ
number_or default None = Some default
number_or default (Some text) = number_in text

-- numbers and names, where there are three numbers
abbrev pub asked_of : Option ℕ → Option ℕ → Option ℕ → List Text → Option Asked
asked_of (Some steps) (Some pivots) (Some answers) names = Some (record { steps = steps; pivots = pivots; answers = answers; files = names })
asked_of steps pivots answers names = None

-- what the arguments of `run` ask for
abbrev pub asked_in : List Row → Option Asked
asked_in rows = asked_of (number_or STEPS (first_of (codes "steps") rows)) (number_or PIVOTS (first_of (codes "pivots") rows))
    (number_or ANSWERS (first_of (codes "answers") rows)) (unwrap_or (all_of (codes "FILE") rows) [])

-- the number that the argument of `gen` is
abbrev pub gen_in : List Row → Option ℕ
gen_in rows = option_and_then (number_to GREATEST) (first_of (codes "N") rows)

-- what a subcommand's arguments ask for
abbrev pub task_in : Text → List Row → Option Task
task_in name rows =
    if bytes_eq name (codes "run") then option_map ToRun (asked_in rows)
    else if bytes_eq name (codes "gen") then option_map ToGen (gen_in rows)
    else None

-- no kind of error may come
abbrev pub is_faultless : Kinds → Bool
is_faultless [] = true
is_faultless (k ∷ ks) = false

-- the command takes the words
abbrev pub is_taken : List Text → Bool
is_taken words = is_faultless (fault_of command words)

-- what the words ask for, the program's name first; None where they are not in the language
abbrev pub asked_by_texts : List Text → Option Task
asked_by_texts words = if is_taken words then option_and_then (λ p. task_in p.0 p.1) (subcommand_of command words) else None

abbrev pub asked_by : List (String Global) → Option Task
asked_by words = asked_by_texts (map string_bytes words)
