use Rattle.cq_trail.proofs.Kept.{is_trail_push, saved_push}
use Rattle.cq_trail.proofs.trail.Trail.push.Goals as goal

pub invariant_of-self-2 : goal.invariant_of-self-2
invariant_of-self-2 g c = rw (c.push-2.ensures.items, c.unwrap.ensures, c.in_ok-push.ensures.items, c.in_ok-reserve.ensures.items) (is_trail_push _ _ _ _ c.args.value c.self.invariant)

pub returns-clause-saved : goal.returns-clause-saved
returns-clause-saved g c = rw (← c.self.view_is, c.push-2.ensures.items, c.unwrap.ensures, c.in_ok-reserve.ensures.items) (saved_push _ c.self.inside.stamps.items _ _ c.args.value c.self.invariant)
