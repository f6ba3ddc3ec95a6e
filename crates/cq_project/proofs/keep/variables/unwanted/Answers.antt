use Rattle.std.proofs.Common.{ap, sym, subst, ◌∙◌}
use Rattle.std.proofs.lemmas.Result.{IfOk-weaker}
use Rattle.cq_equations.specs.Told.{numbers_of}
use Rattle.cq_project.specs.Variables.{others_than, AreUnwanted}
use Rattle.cq_project.proofs.Listing.{unwanted_are}
use Rattle.cq_project.proofs.keep.variables.unwanted.Goals as goal

pub returns : goal.returns
returns c =
    let targets = numbers_of c.args.targets.now in
    IfOk-weaker c.others.result _ _
    (λ xs e.
    subst (AreUnwanted targets c.args.rows.now) (sym (e ∙ ap (λ vs. others_than targets (numbers_of vs)) c.deref.ensures.value))
    (unwanted_are targets (numbers_of c.in_ok-variables.variables.items) c.args.rows.now c.in_ok-variables.ensures.oldest_first c.in_ok-variables.ensures.mentioned))
    c.others.ensures
