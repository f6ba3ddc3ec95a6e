use Rattle.std.proofs.Common.{Some, ◌∷◌, ap, ◌∙◌}
use Rattle.cq_control.specs.Items.{items_at}
use Rattle.cq_settle.specs.Contents.{Contents}
use Rattle.spec_engine.specs.Cells.{Value}
use Rattle.cq_branch.specs.Worlds.{value, saved_values}
use Rattle.cq_branch.proofs.Older.{older_last}
use Rattle.cq_branch.proofs.Passing.{here, cut_on, fail_on, end_on, current_there, arrives_same}
use Rattle.cq_branch.proofs.marks.pass_mark.Goals as goal

pub first-requires : goal.first-requires
first-requires c =
    current_there (saved_values c.args.world.now.first c.args.world.now.second.saved) c.args.choices.now (value c.args.world.now.first c.args.world.now.second.now) c.args.start c.requires.works

pub returns-in-CutTo-clause-arrives : goal.returns-in-CutTo-clause-arrives
returns-in-CutTo-clause-arrives c = λ steps texts v db n s j.
    let saved = saved_values c.args.world.now.first c.args.world.now.second.saved in
    let now = value c.args.world.now.first c.args.world.now.second.now in
    let fewer = saved_values c.cut.new.world.first c.cut.new.world.second.saved in
    arrives_same steps texts v db n s fewer c.cut.new.self now _ (Some c.in-Some.rest) c.cut.ensures.now
    (cut_on steps texts v db n s saved c.args.choices.now now c.args.start c.in-Some.rest c.in-Some.ensures.earlier
    (here steps texts v db n s saved c.args.choices.now now (Some c.args.start) j) fewer c.cut.new.self c.in-CutTo.height
    (c.in-Some.ensures.some ∙ ap (λ x. x ∷ items_at now.1 c.in-Some.rest) c.in-CutTo.is) c.cut.ensures.open)

pub returns-in-CutFail-clause-arrives : goal.returns-in-CutFail-clause-arrives
returns-in-CutFail-clause-arrives c = λ steps texts v db n s j.
    let saved = saved_values c.args.world.now.first c.args.world.now.second.saved in
    let now = value c.args.world.now.first c.args.world.now.second.now in
    let fewer = saved_values c.cut-in-CutFail.new.world.first c.cut-in-CutFail.new.world.second.saved in
    arrives_same steps texts v db n s fewer c.cut-in-CutFail.new.self now _ _ c.cut-in-CutFail.ensures.now
    (fail_on steps texts v db n s saved c.args.choices.now now c.args.start c.in-Some.rest c.in-Some.ensures.earlier
    (here steps texts v db n s saved c.args.choices.now now (Some c.args.start) j) fewer c.cut-in-CutFail.new.self c.in-CutFail.height
    (c.in-Some.ensures.some ∙ ap (λ x. x ∷ items_at now.1 c.in-Some.rest) c.in-CutFail.is) c.cut-in-CutFail.ensures.open)

pub returns-in_default-clause-arrives : goal.returns-in_default-clause-arrives
returns-in_default-clause-arrives c = λ steps texts v db n s j.
    here steps texts v db n s (saved_values c.args.world.now.first c.args.world.now.second.saved) c.args.choices.now (value c.args.world.now.first c.args.world.now.second.now) (Some c.args.start) j

pub returns-in-Goal-clause-arrives : goal.returns-in-Goal-clause-arrives
returns-in-Goal-clause-arrives c = λ steps texts v db n s j.
    here steps texts v db n s (saved_values c.args.world.now.first c.args.world.now.second.saved) c.args.choices.now (value c.args.world.now.first c.args.world.now.second.now) (Some c.args.start) j

pub returns-in-Call-clause-arrives : goal.returns-in-Call-clause-arrives
returns-in-Call-clause-arrives c = λ steps texts v db n s j.
    here steps texts v db n s (saved_values c.args.world.now.first c.args.world.now.second.saved) c.args.choices.now (value c.args.world.now.first c.args.world.now.second.now) (Some c.args.start) j

pub returns-in-Collect-clause-arrives : goal.returns-in-Collect-clause-arrives
returns-in-Collect-clause-arrives c = λ steps texts v db n s j.
    here steps texts v db n s (saved_values c.args.world.now.first c.args.world.now.second.saved) c.args.choices.now (value c.args.world.now.first c.args.world.now.second.now) (Some c.args.start) j

pub returns-in-CutTo-clause-older : goal.returns-in-CutTo-clause-older
returns-in-CutTo-clause-older c = older_last c.in-CutTo.height (saved_values c.args.world.now.first c.args.world.now.second.saved) (saved_values c.cut.new.world.first c.cut.new.world.second.saved) c.args.choices.now c.cut.new.self c.cut.ensures.open

pub returns-in-CutFail-clause-older : goal.returns-in-CutFail-clause-older
returns-in-CutFail-clause-older c = older_last c.in-CutFail.height (saved_values c.args.world.now.first c.args.world.now.second.saved) (saved_values c.cut-in-CutFail.new.world.first c.cut-in-CutFail.new.world.second.saved) c.args.choices.now c.cut-in-CutFail.new.self
    c.cut-in-CutFail.ensures.open

pub returns-in-CatchEnd-clause-arrives : goal.returns-in-CatchEnd-clause-arrives
returns-in-CatchEnd-clause-arrives c = λ steps texts v db n s j.
    let saved = saved_values c.args.world.now.first c.args.world.now.second.saved in
    let now = value c.args.world.now.first c.args.world.now.second.now in
    end_on steps texts v db n s saved c.args.choices.now now c.args.start c.in-Some.rest c.in-Some.ensures.earlier
    (here steps texts v db n s saved c.args.choices.now now (Some c.args.start) j) c.in-CatchEnd.field-0 c.in-CatchEnd.field-1 c.in-CatchEnd.field-2
    (c.in-Some.ensures.some ∙ ap (λ x. x ∷ items_at now.1 c.in-Some.rest) c.in-CatchEnd.is)

pub returns-in-CutTo-clause-budget : goal.returns-in-CutTo-clause-budget
returns-in-CutTo-clause-budget c = ap (λ (w : Value Contents). w.0.pivots) c.cut.ensures.now

pub returns-in-CutFail-clause-budget : goal.returns-in-CutFail-clause-budget
returns-in-CutFail-clause-budget c = ap (λ (w : Value Contents). w.0.pivots) c.cut-in-CutFail.ensures.now
