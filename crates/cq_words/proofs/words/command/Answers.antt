use Rattle.std.proofs.Common.{◌∙◌, ap, ap₂}
use Rattle.clap.specs.Simple.{App, app_of_fields, with_subcommand}
use Rattle.clap.proofs.SimpleLemmas.{plain_fields}
use Rattle.cq_words.specs.Language.{wants_subcommand}
use Rattle.cq_words.proofs.words.command.Goals as goal

pub returns : goal.returns
returns c =
    let run_plain = plain_fields c.in_ok-run.run' (ap (λ (a : App). a.top.is_plain) c.in_ok-run.ensures) in
    let gen_plain = plain_fields c.in_ok-other.other (ap (λ (a : App). a.top.is_plain) c.in_ok-other.ensures) in
    let bare = ap app_of_fields c.subcommand_required-wanting.ensures ∙ ap wants_subcommand c.new-bare.ensures.app in
    let one = c.in_ok-one.ensures.shape run_plain.globals ∙ ap₂ with_subcommand bare (ap (λ (a : App). a.top) c.in_ok-run.ensures) in
    c.in_ok-whole.ensures.shape gen_plain.globals ∙ ap₂ with_subcommand one (ap (λ (a : App). a.top) c.in_ok-other.ensures)
