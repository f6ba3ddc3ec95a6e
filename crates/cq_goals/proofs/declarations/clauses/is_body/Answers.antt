use Rattle.std.proofs.Common.{Bool, subst, arith}
use Rattle.cq_goals.specs.Clauses.{BodyGoesOn}
use Rattle.cq_goals.proofs.Bodies.{body_starts, body_live, body_goes, body_less, body_stops, body_ends}
use Rattle.cq_goals.proofs.declarations.clauses.is_body.Goals as goal

pub loop-id-init : goal.loop-id-init
loop-id-init c = body_starts c.args.atoms.now c.args.heap.now.now.terms c.args.body c.in_ok-waiting.waiting.items c.requires.live c.in_ok-waiting.ensures.items

pub look_into-requires-clause-live : goal.look_into-requires-clause-live
look_into-requires-clause-live c =
    body_live c.args.atoms.now c.args.heap.now.now.terms _ c.loop-id.waiting.items c.pop.new.self.items c.in-Some.id c.loop-id.invariant c.in-Some.ensures.items

pub loop-id-preserved : goal.loop-id-preserved
loop-id-preserved c =
    let texts = c.args.atoms.now in
    let ts = c.args.heap.now.now.terms in
    let old = c.pop.new.self.items in
    let new = c.look_into.new.waiting.items in
    body_goes texts ts _ c.loop-id.waiting.items old c.in-Some.id c.loop-id.invariant c.in-Some.ensures.items new
    (subst (λ (b : Bool). BodyGoesOn texts ts old c.in-Some.id b new) c.if-not-goes_on.false c.in_ok-goes_on.ensures)

pub loop-id-smaller : goal.loop-id-smaller
loop-id-smaller c =
    let texts = c.args.atoms.now in
    let ts = c.args.heap.now.now.terms in
    let old = c.pop.new.self.items in
    let new = c.look_into.new.waiting.items in
    body_less texts ts _ c.loop-id.waiting.items old c.in-Some.id c.loop-id.invariant c.in-Some.ensures.items new
    (subst (λ (b : Bool). BodyGoesOn texts ts old c.in-Some.id b new) c.if-not-goes_on.false c.in_ok-goes_on.ensures)

pub returns-then-not-goes_on : goal.returns-then-not-goes_on
returns-then-not-goes_on c =
    let texts = c.args.atoms.now in
    let ts = c.args.heap.now.now.terms in
    let old = c.pop.new.self.items in
    body_stops texts ts _ c.loop-id.waiting.items old c.in-Some.id c.loop-id.invariant c.in-Some.ensures.items
    (subst (λ (b : Bool). BodyGoesOn texts ts old c.in-Some.id b c.look_into.new.waiting.items) c.if-not-goes_on.true c.in_ok-goes_on.ensures)

pub returns : goal.returns
returns c =
    body_ends c.args.atoms.now c.args.heap.now.now.terms _ c.loop-id.waiting.items c.loop-id.invariant (omega (arith, c.in_default.ensures.cases.0, c.loop-id.waiting.ok.0))
