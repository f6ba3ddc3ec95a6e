use Rattle.std.proofs.Common.{◌∷◌, sym, ap, ◌∙◌, subst}
use Rattle.std.specs.List.{AllByRecursion}
use Rattle.cq_clauses.specs.declared.walk.Walk.{Walk}
use Rattle.cq_control.specs.Open.{open_choices}
use Rattle.cq_resolve.specs.Database.{Program}
use Rattle.cq_settle.specs.Contents.{Contents}
use Rattle.spec_engine.specs.Cells.{Value}
use Rattle.cq_branch.specs.Choices.{AreOpen, CanBeTried}
use Rattle.std.specs.Prelude.{None}
use Rattle.cq_branch.specs.Worlds.{saved_values, stack, value, Leads}
use Rattle.cq_branch.specs.declared.alternatives.Alternatives.{Alternatives}
use Rattle.cq_branch.specs.declared.alternatives.Alternatives.TheVariants.{Matches}
use Rattle.cq_catch.specs.Asking.{answers}
use Rattle.cq_catch.proofs.Asked.{leads}
use Rattle.cq_catch.proofs.matching.asking.ask.Goals as goal

pub returns-clause-row : goal.returns-clause-row
returns-clause-row c = λ texts p behind a i.
    let v = c.args.clauses.now in
    let saved = saved_values c.args.world.now.first c.args.world.now.second.saved in
    let now = value c.args.world.now.first c.args.world.now.second.now in
    let later = value c.push.new.world.first c.push.new.world.second.now in
    let more = saved_values c.push.new.world.first c.push.new.world.second.saved in
    subst (λ (u : Program). Leads texts (stack texts u more c.push.new.self) later None p behind (answers p c.args.removes a)) (sym c.walk-walk.ensures.same)
    (leads texts v saved c.args.choices.now now c.args.pred c.args.asked c.args.rest p behind a i c.args.removes
    (c.calls_read_the_database.ensures.clauses texts i.different c.args.pred i.name v i.program i.operators)
    c.walk-walk.result c.walk-walk.ensures.left more c.push.new.self
    (c.in_ok-push.ensures.open ∙ ap (λ (w : Walk). (now, Matches c.args.asked w c.args.removes c.args.rest) ∷ open_choices saved c.args.choices.now) c.new-untried.ensures) later)

pub returns-clause-open : goal.returns-clause-open
returns-clause-open c = λ texts o.
    let saved = saved_values c.args.world.now.first c.args.world.now.second.saved in
    let now = value c.args.world.now.first c.args.world.now.second.now in
    let more = saved_values c.push.new.world.first c.push.new.world.second.saved in
    subst (λ (u : Program). AreOpen texts u more c.push.new.self) (sym c.walk-walk.ensures.same)
    (subst (AllByRecursion (λ (x : Value Contents × Alternatives). CanBeTried texts c.args.clauses.now x.0.0.heap.terms x.1))
    (sym (c.in_ok-push.ensures.open ∙ ap (λ (w : Walk). (now, Matches c.args.asked w c.args.removes c.args.rest) ∷ open_choices saved c.args.choices.now) c.new-untried.ensures))
    (c.walk-walk.ensures.opened, o))
