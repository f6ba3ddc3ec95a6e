use Rattle.std.proofs.Common.{Some, None}
use Rattle.spec_transcript.specs.Causes as why
use Rattle.cq_engine.proofs.Engines.{keeps_on, going_on, ends_next, next_then, look_front}
use Rattle.cq_engine.proofs.Halted.{halts_next, selecting_none}
use Rattle.cq_engine.specs.declared.front.Front.TheVariants.{Fail}
use Rattle.cq_engine.proofs.front.look_behind.Goals as goal

pub at_front-requires-clause-sound : goal.at_front-requires-clause-sound
at_front-requires-clause-sound c = (rw c.in-Front.is at c.in-Ok.ensures.found).2

pub at_front-requires-clause-front : goal.at_front-requires-clause-front
at_front-requires-clause-front c = (rw c.in-Front.is at c.in-Ok.ensures.found).1

pub at_front-requires-clause-works : goal.at_front-requires-clause-works
at_front-requires-clause-works c = going_on c.args.m.now c.seek.new.m c.args.start (Some c.in-Front.k) (rw c.in-Front.is at c.in-Ok.ensures.found).0 c.requires.works

pub returns-in-Front-clause-next : goal.returns-in-Front-clause-next
returns-in-Front-clause-next c =
    next_then c.args.m.now c.seek.new.m c.at_front.new.m c.args.start (Some c.in-Front.k) c.args.steps c.args.selected c.at_front.result c.seek.ensures.budget
    (rw c.in-Front.is at c.in-Ok.ensures.found).0 c.at_front.ensures.next

pub returns-in-Front-clause-program : goal.returns-in-Front-clause-program
returns-in-Front-clause-program c = keeps_on c.args.m.now c.seek.new.m c.at_front.new.m c.seek.ensures.program c.at_front.ensures.program

pub returns-in-Escaped-clause-next : goal.returns-in-Escaped-clause-next
returns-in-Escaped-clause-next c =
    let f = rw c.in-Escaped.is at c.in-Ok.ensures.found in
    (λ budgets e b s j. f.0 budgets c.args.selected s j, f.1)

pub returns-in-Over-clause-next : goal.returns-in-Over-clause-next
returns-in-Over-clause-next c =
    let f = rw c.in-Over.is at c.in-Ok.ensures.found in (
      λ budgets e b s j.
          look_front budgets c.args.m.now c.seek.new.m c.seek.new.m c.args.selected c.args.start None Fail s f.0
          (λ r k. ends_next budgets c.seek.new.m c.args.selected r f.1 k) j,
      tt,
    )

pub returns-in-Err-Overflow-clause-next : goal.returns-in-Err-Overflow-clause-next
returns-in-Err-Overflow-clause-next c = (
  λ budgets e b s j.
      halts_next budgets c.seek.new.m c.halt.new.m c.args.selected s (why.Overflow c.in-Err-Overflow.pair) tt c.halt.ensures.program c.halt.ensures.none_left j.selected
      ((rw c.in-Err-Overflow.field-0-is at c.in-Err-Overflow.ensures.stops) c.args.selected s j (selecting_none budgets) b),
  tt,
)

pub returns-in-Err-Overflow-clause-program : goal.returns-in-Err-Overflow-clause-program
returns-in-Err-Overflow-clause-program c = keeps_on c.args.m.now c.seek.new.m c.halt.new.m c.seek.ensures.program c.halt.ensures.program

pub returns-in-Err-Pivots-clause-next : goal.returns-in-Err-Pivots-clause-next
returns-in-Err-Pivots-clause-next c = (
  λ budgets e b s j.
      halts_next budgets c.seek.new.m c.halt-in-Err-Pivots.new.m c.args.selected s (why.Pivots c.in-Err-Pivots.exchanges) tt c.halt-in-Err-Pivots.ensures.program
      c.halt-in-Err-Pivots.ensures.none_left j.selected
      ((rw c.in-Err-Pivots.field-0-is at c.in-Err-Pivots.ensures.stops) c.args.selected s j (selecting_none budgets) b),
  tt,
)

pub returns-in-Err-Pivots-clause-program : goal.returns-in-Err-Pivots-clause-program
returns-in-Err-Pivots-clause-program c = keeps_on c.args.m.now c.seek.new.m c.halt-in-Err-Pivots.new.m c.seek.ensures.program c.halt-in-Err-Pivots.ensures.program
