use Rattle.std.proofs.Common.{◌∙◌, ap}
use Rattle.std.specs.Prelude.{option_and_then}
use Rattle.clap.specs.Words.{found_of}
use Rattle.clap.proofs.WalkLemmas.{first_value-rows}
use Rattle.spec_numbers.specs.Texts.{Text}
use Rattle.std.specs.Prelude.{Option, codes}
use Rattle.cq_words.specs.Language.{number_to}
use Rattle.cq_words.specs.declared.run.TheConstants.{GREATEST}
use Rattle.cq_words.proofs.words.number_of_gen.Goals as goal

pub returns-in-Some : goal.returns-in-Some
returns-in-Some c =
    c.number_to.ensures ∙ ap (λ (o : Option Text). option_and_then (number_to GREATEST) o) (c.in-Some.ensures ∙ first_value-rows (found_of c.args.matches.now) (codes "N"))

pub returns-in-None : goal.returns-in-None
returns-in-None c = ap (λ (o : Option Text). option_and_then (number_to GREATEST) o) (c.in-None.ensures ∙ first_value-rows (found_of c.args.matches.now) (codes "N"))
