use Rattle.std.proofs.Common.{ap, ◌∙◌, subst, ◌≡◌, ◌∷◌}
use Rattle.std.specs.Prelude.{IfOk}
use Rattle.spec_syntax.specs.Machine.{InCurly, before_term}
use Rattle.cq_read.specs.Views.{token_of, frames_of, state_or_none}
use Rattle.cq_read.proofs.Kept.{frames_push}
use Rattle.cq_read.proofs.ParseNaming.{names_push}
use Rattle.cq_read.proofs.parse.steps.first_in_braces.Goals as goal

pub returns-clause-step : goal.returns-clause-step
returns-clause-step c ops texts known =
    let ts = c.args.heap.now.now.terms in
    let k = frames_of texts ts c.args.frames.now.items in
    let pushed : frames_of texts ts c.push.new.self.items ≡ InCurly c.args.most ∷ k = ap (frames_of texts ts) c.in_ok-push.ensures.items ∙ frames_push texts ts c.args.frames.now.items _ in
    subst (λ fs. IfOk c.before_term.result (λ next. state_or_none texts c.before_term.new.heap.now.terms c.before_term.new.frames.items next ≡ before_term ops 1200 fs (token_of texts c.args.token.now)))
    pushed (c.before_term.ensures.step ops texts known)

pub returns-clause-names : goal.returns-clause-names
returns-clause-names c texts known names =
    c.before_term.ensures.names texts known (names_push texts c.args.heap.now.now.terms c.args.frames.now.items c.push.new.self.items _ c.in_ok-push.ensures.items tt names)
