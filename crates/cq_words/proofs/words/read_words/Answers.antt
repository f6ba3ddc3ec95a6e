use Rattle.std.proofs.Common.{◌≡◌, ◌∙◌, map, sym, ap, inl, inr, subst, option_map}
use Rattle.std.specs.Prelude.{string_bytes}
use Rattle.clap.specs.Faults.{fault_of, is_simple_and_free}
use Rattle.clap.specs.Kinds.{HasKind}
use Rattle.clap.specs.Simple.{App, is_simple, subcommand_of}
use Rattle.clap.specs.Words.{app_of, kind_of}
use Rattle.cq_words.specs.Asked.{as_task}
use Rattle.cq_words.specs.Language.{command}
use Rattle.cq_words.proofs.Taken.{simple, free, pair_is, mapped, asked_is, not_asked}
use Rattle.cq_words.proofs.words.read_words.Goals as goal

pub returns-in-Err-clause-refused : goal.returns-in-Err-clause-refused
returns-in-Err-clause-refused c = λ refused.
    let is : app_of c.in_ok-command.command ≡ command = c.in_ok-command.ensures in
    let kinds = subst (λ (a : App). HasKind (fault_of a (map string_bytes c.args.words.now)) c.in-Err.error) is (c.in-Err.ensures.kinds (ap is_simple_and_free is ∙ free)) in
    elim kinds [
      | inl k ↦ let e = c.fault_of.ensures k in cc
      | inr among ↦ not_asked (map string_bytes c.args.words.now) (kind_of c.in-Err.error) among
    ]

pub returns-in-Some-wanted-clause-asked : goal.returns-in-Some-wanted-clause-asked
returns-in-Some-wanted-clause-asked c =
    let words = map string_bytes c.args.words.now in
    let is : app_of c.in_ok-command.command ≡ command = c.in_ok-command.ensures in
    let none = ap (λ (a : App). fault_of a words) (sym is) ∙ c.in-Ok.ensures.kinds (ap is_simple_and_free is ∙ free) in
    let entered = (c.in-Ok.ensures.matches (ap is_simple is ∙ simple)).1 ∙ ap (λ (a : App). subcommand_of a words) is in
    let named = c.in-Some.ensures.name ∙ mapped _ (λ p. p.0) _ ∙ ap (option_map (λ p. p.0)) entered in
    let pair = pair_is (subcommand_of command words) _ _ named (c.in-Some.ensures.rows ∙ ap (option_map (λ p. p.1)) entered) in
    asked_is words _ _ none pair ∙ sym c.in_ok-wanted.ensures ∙ ap (option_map as_task) c.in-Some-wanted.is

pub returns-clause-refused : goal.returns-clause-refused
returns-clause-refused c = λ refused.
    let words = map string_bytes c.args.words.now in
    let is : app_of c.in_ok-command.command ≡ command = c.in_ok-command.ensures in
    let none = ap (λ (a : App). fault_of a words) (sym is) ∙ c.in-Ok.ensures.kinds (ap is_simple_and_free is ∙ free) in
    let entered = (c.in-Ok.ensures.matches (ap is_simple is ∙ simple)).1 ∙ ap (λ (a : App). subcommand_of a words) is in
    let named = c.in-Some.ensures.name ∙ mapped _ (λ p. p.0) _ ∙ ap (option_map (λ p. p.0)) entered in
    let pair = pair_is (subcommand_of command words) _ _ named (c.in-Some.ensures.rows ∙ ap (option_map (λ p. p.1)) entered) in
    asked_is words _ _ none pair ∙ sym c.in_ok-wanted.ensures ∙ ap (option_map as_task) c.in-None.is
