use Rattle.std.proofs.Common.{◌≡◌, ◌∷◌, ◌∙◌, None, ap}
use Rattle.cq_control.specs.Open.{open_choices}
use Rattle.cq_branch.specs.declared.alternatives.Alternatives.{Alternatives}
use Rattle.cq_branch.specs.declared.alternatives.Alternatives.TheVariants.{One, Barrier, Catches}
use Rattle.cq_branch.specs.Worlds.{value, saved_values}
use Rattle.cq_branch.proofs.Budgets.{same_budget}
use Rattle.cq_branch.proofs.Older.{newest_gone, older_next}
use Rattle.cq_branch.proofs.Passing.{here, one_on, barrier_on, catch_on}
use Rattle.cq_branch.proofs.marks.come_back.Goals as goal

pub returns-in-One-clause-arrives : goal.returns-in-One-clause-arrives
returns-in-One-clause-arrives c = λ steps texts v db n s j.
    let saved = saved_values c.args.world.now.first c.args.world.now.second.saved in
    let now = value c.args.world.now.first c.args.world.now.second.now in
    let fewer = saved_values c.back.new.world.first c.back.new.world.second.saved in
    let back = value c.back.new.world.first c.back.new.world.second.now in
    let gone = newest_gone c.back.result c.args.choices.now c.back.new.self c.in-Some.ensures.some.0 (One c.in-One.next)
    (λ (x : Alternatives). open_choices saved c.args.choices.now ≡ (back, x) ∷ open_choices fewer c.back.new.self) c.back.ensures.none c.back.ensures.contents c.back.ensures.open
    (c.in-Some.ensures.some.1 ∙ ap (λ x. x ∷ c.in-Some.ensures.some.0) c.in-One.is) in
    one_on steps texts v db n s saved fewer c.args.choices.now c.back.new.self now back c.in-One.next gone (here steps texts v db n s saved c.args.choices.now now None j)

pub returns-in_default-clause-arrives : goal.returns-in_default-clause-arrives
returns-in_default-clause-arrives c = λ steps texts v db n s j.
    here steps texts v db n s (saved_values c.args.world.now.first c.args.world.now.second.saved) c.args.choices.now (value c.args.world.now.first c.args.world.now.second.now) None j

pub returns-in-Clauses-clause-arrives : goal.returns-in-Clauses-clause-arrives
returns-in-Clauses-clause-arrives c = λ steps texts v db n s j.
    here steps texts v db n s (saved_values c.args.world.now.first c.args.world.now.second.saved) c.args.choices.now (value c.args.world.now.first c.args.world.now.second.now) None j

pub returns-in-One-clause-older : goal.returns-in-One-clause-older
returns-in-One-clause-older c =
    let saved = saved_values c.args.world.now.first c.args.world.now.second.saved in
    let back = value c.back.new.world.first c.back.new.world.second.now in
    let fewer = saved_values c.back.new.world.first c.back.new.world.second.saved in
    older_next (back, One c.in-One.next) saved fewer c.args.choices.now c.back.new.self
    (newest_gone c.back.result c.args.choices.now c.back.new.self c.in-Some.ensures.some.0 (One c.in-One.next)
    (λ (x : Alternatives). open_choices saved c.args.choices.now ≡ (back, x) ∷ open_choices fewer c.back.new.self) c.back.ensures.none c.back.ensures.contents c.back.ensures.open
    (c.in-Some.ensures.some.1 ∙ ap (λ x. x ∷ c.in-Some.ensures.some.0) c.in-One.is))

pub returns-in-Barrier-clause-arrives : goal.returns-in-Barrier-clause-arrives
returns-in-Barrier-clause-arrives c = λ steps texts v db n s j.
    let saved = saved_values c.args.world.now.first c.args.world.now.second.saved in
    let now = value c.args.world.now.first c.args.world.now.second.now in
    let fewer = saved_values c.back-in-Barrier.new.world.first c.back-in-Barrier.new.world.second.saved in
    let back = value c.back-in-Barrier.new.world.first c.back-in-Barrier.new.world.second.now in
    let gone = newest_gone c.back-in-Barrier.result c.args.choices.now c.back-in-Barrier.new.self c.in-Some.ensures.some.0 Barrier
    (λ (x : Alternatives). open_choices saved c.args.choices.now ≡ (back, x) ∷ open_choices fewer c.back-in-Barrier.new.self) c.back-in-Barrier.ensures.none
    c.back-in-Barrier.ensures.contents c.back-in-Barrier.ensures.open (c.in-Some.ensures.some.1 ∙ ap (λ x. x ∷ c.in-Some.ensures.some.0) c.in-Barrier.is) in
    barrier_on steps texts v db n s saved fewer c.args.choices.now c.back-in-Barrier.new.self now back gone (here steps texts v db n s saved c.args.choices.now now None j)

pub returns-in-Barrier-clause-older : goal.returns-in-Barrier-clause-older
returns-in-Barrier-clause-older c =
    let saved = saved_values c.args.world.now.first c.args.world.now.second.saved in
    let back = value c.back-in-Barrier.new.world.first c.back-in-Barrier.new.world.second.now in
    let fewer = saved_values c.back-in-Barrier.new.world.first c.back-in-Barrier.new.world.second.saved in
    older_next (back, Barrier) saved fewer c.args.choices.now c.back-in-Barrier.new.self
    (newest_gone c.back-in-Barrier.result c.args.choices.now c.back-in-Barrier.new.self c.in-Some.ensures.some.0 Barrier
    (λ (x : Alternatives). open_choices saved c.args.choices.now ≡ (back, x) ∷ open_choices fewer c.back-in-Barrier.new.self) c.back-in-Barrier.ensures.none c.back-in-Barrier.ensures.contents c.back-in-Barrier.ensures.open
    (c.in-Some.ensures.some.1 ∙ ap (λ x. x ∷ c.in-Some.ensures.some.0) c.in-Barrier.is))

pub returns-in-Ways-clause-arrives : goal.returns-in-Ways-clause-arrives
returns-in-Ways-clause-arrives c = λ steps texts v db n s j.
    here steps texts v db n s (saved_values c.args.world.now.first c.args.world.now.second.saved) c.args.choices.now (value c.args.world.now.first c.args.world.now.second.now) None j

pub returns-in-One-clause-budget : goal.returns-in-One-clause-budget
returns-in-One-clause-budget c =
    let saved = saved_values c.args.world.now.first c.args.world.now.second.saved in
    let back = value c.back.new.world.first c.back.new.world.second.now in
    let fewer = saved_values c.back.new.world.first c.back.new.world.second.saved in
    same_budget c.args.world.now.first c.args.world.now.second.saved c.args.choices.now back (One c.in-One.next) (open_choices fewer c.back.new.self)
    (newest_gone c.back.result c.args.choices.now c.back.new.self c.in-Some.ensures.some.0 (One c.in-One.next)
    (λ (x : Alternatives). open_choices saved c.args.choices.now ≡ (back, x) ∷ open_choices fewer c.back.new.self) c.back.ensures.none c.back.ensures.contents c.back.ensures.open
    (c.in-Some.ensures.some.1 ∙ ap (λ x. x ∷ c.in-Some.ensures.some.0) c.in-One.is))

pub returns-in-Barrier-clause-budget : goal.returns-in-Barrier-clause-budget
returns-in-Barrier-clause-budget c =
    let saved = saved_values c.args.world.now.first c.args.world.now.second.saved in
    let back = value c.back-in-Barrier.new.world.first c.back-in-Barrier.new.world.second.now in
    let fewer = saved_values c.back-in-Barrier.new.world.first c.back-in-Barrier.new.world.second.saved in
    same_budget c.args.world.now.first c.args.world.now.second.saved c.args.choices.now back Barrier (open_choices fewer c.back-in-Barrier.new.self)
    (newest_gone c.back-in-Barrier.result c.args.choices.now c.back-in-Barrier.new.self c.in-Some.ensures.some.0 Barrier
    (λ (x : Alternatives). open_choices saved c.args.choices.now ≡ (back, x) ∷ open_choices fewer c.back-in-Barrier.new.self) c.back-in-Barrier.ensures.none c.back-in-Barrier.ensures.contents c.back-in-Barrier.ensures.open
    (c.in-Some.ensures.some.1 ∙ ap (λ x. x ∷ c.in-Some.ensures.some.0) c.in-Barrier.is))

pub returns-in-Caught-clause-arrives : goal.returns-in-Caught-clause-arrives
returns-in-Caught-clause-arrives c = λ steps texts v db n s j.
    here steps texts v db n s (saved_values c.args.world.now.first c.args.world.now.second.saved) c.args.choices.now (value c.args.world.now.first c.args.world.now.second.now) None j

pub returns-in-Gathers-clause-arrives : goal.returns-in-Gathers-clause-arrives
returns-in-Gathers-clause-arrives c = λ steps texts v db n s j.
    here steps texts v db n s (saved_values c.args.world.now.first c.args.world.now.second.saved) c.args.choices.now (value c.args.world.now.first c.args.world.now.second.now) None j

pub returns-in-Matches-clause-arrives : goal.returns-in-Matches-clause-arrives
returns-in-Matches-clause-arrives c = λ steps texts v db n s j.
    here steps texts v db n s (saved_values c.args.world.now.first c.args.world.now.second.saved) c.args.choices.now (value c.args.world.now.first c.args.world.now.second.now) None j

pub returns-in-Catches-clause-arrives : goal.returns-in-Catches-clause-arrives
returns-in-Catches-clause-arrives c = λ steps texts v db n s j.
    let now = value c.args.world.now.first c.args.world.now.second.now in
    let saved = saved_values c.args.world.now.first c.args.world.now.second.saved in
    let back = value c.back-in-Catches.new.world.first c.back-in-Catches.new.world.second.now in
    let fewer = saved_values c.back-in-Catches.new.world.first c.back-in-Catches.new.world.second.saved in
    catch_on steps texts v db n s saved fewer c.args.choices.now c.back-in-Catches.new.self now back c.in-Catches.field-0
    (newest_gone c.back-in-Catches.result c.args.choices.now c.back-in-Catches.new.self c.in-Some.ensures.some.0 (Catches c.in-Catches.field-0)
    (λ (x : Alternatives). open_choices saved c.args.choices.now ≡ (back, x) ∷ open_choices fewer c.back-in-Catches.new.self) c.back-in-Catches.ensures.none
    c.back-in-Catches.ensures.contents c.back-in-Catches.ensures.open (c.in-Some.ensures.some.1 ∙ ap (λ x. x ∷ c.in-Some.ensures.some.0) c.in-Catches.is))
    (here steps texts v db n s saved c.args.choices.now now None j)

pub returns-in-Catches-clause-older : goal.returns-in-Catches-clause-older
returns-in-Catches-clause-older c =
    let saved = saved_values c.args.world.now.first c.args.world.now.second.saved in
    let back = value c.back-in-Catches.new.world.first c.back-in-Catches.new.world.second.now in
    let fewer = saved_values c.back-in-Catches.new.world.first c.back-in-Catches.new.world.second.saved in
    older_next (back, Catches c.in-Catches.field-0) saved fewer c.args.choices.now c.back-in-Catches.new.self
    (newest_gone c.back-in-Catches.result c.args.choices.now c.back-in-Catches.new.self c.in-Some.ensures.some.0 (Catches c.in-Catches.field-0)
    (λ (x : Alternatives). open_choices saved c.args.choices.now ≡ (back, x) ∷ open_choices fewer c.back-in-Catches.new.self) c.back-in-Catches.ensures.none
    c.back-in-Catches.ensures.contents c.back-in-Catches.ensures.open (c.in-Some.ensures.some.1 ∙ ap (λ x. x ∷ c.in-Some.ensures.some.0) c.in-Catches.is))

pub returns-in-Catches-clause-budget : goal.returns-in-Catches-clause-budget
returns-in-Catches-clause-budget c =
    let saved = saved_values c.args.world.now.first c.args.world.now.second.saved in
    let back = value c.back-in-Catches.new.world.first c.back-in-Catches.new.world.second.now in
    let fewer = saved_values c.back-in-Catches.new.world.first c.back-in-Catches.new.world.second.saved in
    same_budget c.args.world.now.first c.args.world.now.second.saved c.args.choices.now back (Catches c.in-Catches.field-0) (open_choices fewer c.back-in-Catches.new.self)
    (newest_gone c.back-in-Catches.result c.args.choices.now c.back-in-Catches.new.self c.in-Some.ensures.some.0 (Catches c.in-Catches.field-0)
    (λ (x : Alternatives). open_choices saved c.args.choices.now ≡ (back, x) ∷ open_choices fewer c.back-in-Catches.new.self) c.back-in-Catches.ensures.none
    c.back-in-Catches.ensures.contents c.back-in-Catches.ensures.open (c.in-Some.ensures.some.1 ∙ ap (λ x. x ∷ c.in-Some.ensures.some.0) c.in-Catches.is))
