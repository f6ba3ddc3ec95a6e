use Rattle.std.proofs.Common.{◌≡◌, ◌∙◌, Some, ap, ap₂}
use Rattle.clap.specs.Simple.{with_rule}
use Rattle.clap.specs.Walk.{Rule, rule_of}
use Rattle.clap.specs.declared.builder.action.ArgAction.TheVariants.{Append}
use Rattle.cq_words.specs.Language.{files}
use Rattle.cq_words.proofs.words.run_command.Goals as goal

pub returns : goal.returns
returns c =
    let file : rule_of c.action-files.result ≡ files = ap rule_of c.action-files.ensures ∙ ap (λ (r : Rule). record r { action = Some Append }) c.new-file.ensures.rule in
    let local = ap (λ a. a.global) c.action-files.ensures ∙ c.new-file.ensures.optional.1 in
    c.in_ok-run.ensures.shape local
    ∙ ap₂ with_rule (c.in_ok-three.ensures.shape c.numbered-answers.ensures.local
    ∙ ap₂ with_rule (c.in_ok-two.ensures.shape c.numbered-pivots.ensures.local
    ∙ ap₂ with_rule (c.in_ok-one.ensures.shape c.numbered-steps.ensures.local
    ∙ ap₂ with_rule c.new-bare.ensures.app c.numbered-steps.ensures.rule) c.numbered-pivots.ensures.rule) c.numbered-answers.ensures.rule) file
