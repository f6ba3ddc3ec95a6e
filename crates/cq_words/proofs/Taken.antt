-- What words ask for that the command takes.
use Rattle.std.proofs.Common.{◌≡◌, List, [], ◌∷◌, true, false, Option, Some, None, refl, sym, ap, ap₂, option_map, if◌then◌else◌}
use Rattle.std.specs.Prelude.{option_and_then}
use Rattle.std.proofs.lemmas.Option.{none-some, same_Some}
use Rattle.clap.specs.Faults.{fault_of, is_simple_and_free}
use Rattle.clap.specs.Kinds.{IsAmong, Kinds}
use Rattle.clap.specs.Simple.{is_simple, subcommand_of}
use Rattle.clap.specs.Walk.{Row}
use Rattle.clap.specs.declared.error.kind.ErrorKind.{ErrorKind}
use Rattle.clap.proofs.OnLiterals.{clap_on_literals}
use Rattle.spec_numbers.specs.Texts.{Text}
use Rattle.cq_words.specs.Language.{asked_by_texts, command, is_faultless, task_in}

pub simple : is_simple command ≡ true
unfolding clap_on_literals
simple = refl

pub free : is_simple_and_free command ≡ true
unfolding clap_on_literals
free = refl

-- a pair that is there, by its parts
pub pair_is : {A B : Type 0} (o : Option (A × B)) (x : A) (y : B) → Some x ≡ option_map (λ p. p.0) o → Some y ≡ option_map (λ p. p.1) o → o ≡ Some (x, y)
pair_is None x y e f = absurd (none-some x (sym e))
pair_is (Some p) x y e f = ap₂ (λ a b. Some (a, b)) (sym (same_Some x p.0 e)) (sym (same_Some y p.1 f))

pub mapped : {A B C : Type 0} (g : A → B) (f : B → C) (o : Option A) → option_map (λ a. f (g a)) o ≡ option_map f (option_map g o)
mapped g f None = refl
mapped g f (Some a) = refl

module _ (words : List Text) where
  pub asked_is : (name : Text) (rows : List Row) → fault_of command words ≡ [] → subcommand_of command words ≡ Some (name, rows)
      → asked_by_texts words ≡ task_in name rows
  asked_is name rows none e = λ i. if is_faultless (none i) then option_and_then (λ p. task_in p.0 p.1) (e i) else None

  pub not_asked : (k : ErrorKind) → IsAmong k (fault_of command words) → asked_by_texts words ≡ None
  not_asked k among = ap (λ b. if b then option_and_then (λ p. task_in p.0 p.1) (subcommand_of command words) else None) (some (fault_of command words) among)
    where
      some : (kinds : Kinds) → IsAmong k kinds → is_faultless kinds ≡ false
      some [] h = absurd h
      some (x ∷ xs) h = refl
