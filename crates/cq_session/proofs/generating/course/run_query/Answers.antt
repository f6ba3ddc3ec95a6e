use Rattle.std.proofs.Common.{◌≡◌, ◌∙◌, ◌<◌, suc, [], add-one, arith}
use Rattle.spec_search.specs.Search.{Search}
use Rattle.spec_command.specs.Outcome.{GenFrom, gen_budgets}
use Rattle.cq_session.proofs.Courses.{counts_none, counts_writing, counts_answering, ends_answering, ends_failing, ends_raising, ends_stopping, made}
use Rattle.cq_session.proofs.generating.course.run_query.Goals as goal

pub events-init : goal.events-init
events-init g c = record {
  came = λ s stands. counts_none _ _ s _ c.new-value.ensures.items stands;
  few = omega arith;
  named = c.requires.named;
  kept = c.requires.kept;
  budgets = c.requires.budgets;
}

pub next-requires : goal.next-requires
next-requires g c =
    let h = c.events.invariant.came c.requires.runs.0 c.requires.runs.1 in
    record { kept = c.events.invariant.kept; runs = (h.reached, h.stands) }

pub events-preserved-in-Wrote : goal.events-preserved-in-Wrote
events-preserved-in-Wrote g c =
    let i = c.events.invariant in
    let event = rw (c.in-Wrote.is, i.budgets) at c.in_ok-_text.ensures.event in
    record {
      came = λ s stands.
          let j = i.came s stands in
          counts_writing _ _ _ _ s j _ _ _ _ (event j.reached j.stands);
      few = i.few;
      named = c.in_ok-_text.ensures.names ∙ i.named;
      kept = c.in_ok-_text.ensures.kept;
      budgets = c.in_ok-_text.ensures.budgets ∙ i.budgets;
    }

pub value-requires : goal.value-requires
value-requires g c =
    let i = c.events.invariant in
    let event = rw (c.in-Answer.is, i.budgets) at c.in_ok-_text.ensures.event in
    let h = i.came c.requires.runs.0 c.requires.runs.1 in
    let e = event h.reached h.stands in
    record { kept = c.in_ok-_text.ensures.kept; told = (e.state, e.ops, e.answers); named = c.in_ok-_text.ensures.names ∙ i.named }

pub events-preserved : goal.events-preserved
events-preserved g c =
    let i = c.events.invariant in
    let event = rw (c.in-Answer.is, i.budgets) at c.in_ok-_text.ensures.event in
    let few : suc c.events.answers < 10 = omega (arith, i.few, c.if-answers-eq-ANSWERS.false) in
    record {
      came = λ s stands.
          let j = i.came s stands in
          let e = event j.reached j.stands in
          counts_answering _ _ _ _ s j _ _ _ _ e _ (c.in_ok-value-in-Answer.ensures e.state e.ops e.answers) _ (add-one c.events.answers) few;
      few = omega (arith, few);
      named = c.in_ok-_text.ensures.names ∙ i.named;
      kept = c.in_ok-_text.ensures.kept;
      budgets = c.in_ok-_text.ensures.budgets ∙ i.budgets;
    }

pub returns-then-answers-eq-ANSWERS : goal.returns-then-answers-eq-ANSWERS
returns-then-answers-eq-ANSWERS g c =
    let i = c.events.invariant in
    let event = rw (c.in-Answer.is, i.budgets) at c.in_ok-_text.ensures.event in
    let last : suc c.events.answers ≡ 10 = omega (arith, c.if-answers-eq-ANSWERS.true) in
    made c.over.result _ _ (λ line stopped. (s : Search) → g.P.Interpreter.stands c.args.program.now s → GenFrom gen_budgets c.args.number line stopped 0 [] s)
    c.over.ensures.line c.over.ensures.stopped
    (λ line is s stands.
    let j = i.came s stands in
    let e = event j.reached j.stands in
    ends_answering _ _ _ _ s j _ _ _ _ e _ (c.in_ok-value-in-Answer.ensures e.state e.ops e.answers) _ (add-one c.events.answers) line last (rw c.deref.ensures.value at is))

pub returns-in-Fail : goal.returns-in-Fail
returns-in-Fail g c =
    let i = c.events.invariant in
    let event = rw (c.in-Fail.is, i.budgets) at c.in_ok-_text.ensures.event in
    made c.over-in-Fail.result _ _ (λ line stopped. (s : Search) → g.P.Interpreter.stands c.args.program.now s → GenFrom gen_budgets c.args.number line stopped 0 [] s)
    c.over-in-Fail.ensures.line c.over-in-Fail.ensures.stopped
    (λ line is s stands.
    let j = i.came s stands in
    ends_failing _ _ _ _ s j _ _ line (event j.reached j.stands) (rw c.deref-in-Fail.ensures.value at is))

pub returns-in-Ball : goal.returns-in-Ball
returns-in-Ball g c =
    let i = c.events.invariant in
    let event = rw (c.in-Ball.is, i.budgets) at c.in_ok-_text.ensures.event in
    made c.over-in-Ball.result _ _ (λ line stopped. (s : Search) → g.P.Interpreter.stands c.args.program.now s → GenFrom gen_budgets c.args.number line stopped 0 [] s)
    c.over-in-Ball.ensures.line c.over-in-Ball.ensures.stopped
    (λ line is s stands.
    let j = i.came s stands in
    let e = event j.reached j.stands in
    ends_raising _ _ _ _ s j _ _ line e.0 e.1 (rw c.deref-in-Ball.ensures.value at is))

pub returns-in-Stop : goal.returns-in-Stop
returns-in-Stop g c =
    let i = c.events.invariant in
    let event = rw (c.in-Stop.is, i.budgets) at c.in_ok-_text.ensures.event in
    made c.stopping.result _ _ (λ line stopped. (s : Search) → g.P.Interpreter.stands c.args.program.now s → GenFrom gen_budgets c.args.number line stopped 0 [] s)
    c.stopping.ensures.line c.stopping.ensures.stopped
    (λ line is s stands.
    let j = i.came s stands in
    let e = event j.reached j.stands in
    ends_stopping _ _ _ _ s j _ _ line e.0 e.1 (is ∙ e.2))
