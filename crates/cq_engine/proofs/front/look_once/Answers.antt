use Rattle.std.proofs.Common.{ℕ, Option, sym, subst}
use Rattle.cq_engine.specs.Fronts.{ComesNext}
use Rattle.cq_engine.proofs.Engines.{keeps_none, keeps_on, names_known, sound_where}
use Rattle.cq_engine.proofs.front.look_once.Goals as goal

pub is_at_front-requires : goal.is_at_front-requires
is_at_front-requires c = (rw c.in-Some.is at c.requires.works).2.current.3.there

pub at_front-requires-clause-sound : goal.at_front-requires-clause-sound
at_front-requires-clause-sound c = sound_where c.args.m.now c.requires.kept (names_known c.args.m.now c.in-Some.k (rw c.in-Some.is at c.requires.works))

pub at_front-requires-clause-works : goal.at_front-requires-clause-works
at_front-requires-clause-works c = rw c.in-Some.is at c.requires.works

pub at_front-requires-clause-front : goal.at_front-requires-clause-front
at_front-requires-clause-front c = c.is_at_front.ensures c.if-is_at_front.true

pub returns-then-is_at_front-clause-next : goal.returns-then-is_at_front-clause-next
returns-then-is_at_front-clause-next c =
    subst (λ (o : Option ℕ). ComesNext c.args.m.now o c.args.steps c.args.selected c.at_front.new.m c.at_front.result) (sym c.in-Some.is) c.at_front.ensures.next

pub returns-then-is_at_front-clause-program : goal.returns-then-is_at_front-clause-program
returns-then-is_at_front-clause-program c = keeps_on c.args.m.now c.args.m.now c.at_front.new.m (keeps_none c.args.m.now) c.at_front.ensures.program
