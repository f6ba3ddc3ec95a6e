use Rattle.std.proofs.Common.{ap}
use Rattle.cq_term.specs.Meaning.{at}
use Rattle.cq_term.proofs.Arguments.{length-arguments}
use Rattle.cq_term.specs.Places.{numbers_of}
use Rattle.cq_term.proofs.SideBySide.{live_one, live_pop, pop_less, push_less}
use Rattle.cq_unify.proofs.Matches.{match_start, match_constants, match_ground, match_unlike, match_variables, match_other_places, match_spread}
use Rattle.cq_unify.proofs.order.variants.variant_throughout.Goals as goal

pub loop-pair-init : goal.loop-pair-init
loop-pair-init c =
    match_start c.args.heap.now.now.terms (record { left = c.args.a; right = c.args.b }) (numbers_of c.new.result.keys) (numbers_of c.new-2.result.keys) c.in_ok-work.work.items
    (ap numbers_of c.new.ensures.empty) (ap numbers_of c.new-2.ensures.empty) c.in_ok-work.ensures.items (live_one c.args.heap.now.now.terms (record { left = c.args.a; right = c.args.b }) (c.requires.a, c.requires.b))

pub compare_heads-requires-clause-left : goal.compare_heads-requires-clause-left
compare_heads-requires-clause-left c = (live_pop c.args.heap.now.now.terms c.loop-pair.work.items c.pop.new.self.items c.in-Some.pair c.in-Some.ensures.items c.loop-pair.invariant.live).1.0

pub compare_heads-requires-clause-right : goal.compare_heads-requires-clause-right
compare_heads-requires-clause-right c = (live_pop c.args.heap.now.now.terms c.loop-pair.work.items c.pop.new.self.items c.in-Some.pair c.in-Some.ensures.items c.loop-pair.invariant.live).1.1

pub loop-pair-preserved-in-Same : goal.loop-pair-preserved-in-Same
loop-pair-preserved-in-Same c =
    match_constants c.args.heap.now.now.terms _ (numbers_of c.loop-pair.met.left.keys) (numbers_of c.loop-pair.met.right.keys) c.loop-pair.work.items c.pop.new.self.items c.in-Some.pair c.in-Some.ensures.items c.loop-pair.invariant
    c.in-Same.ensures.0 c.in-Same.ensures.1

pub returns-in-Different : goal.returns-in-Different
returns-in-Different c = (
  λ h. cc,
  λ h. absurd (match_unlike c.args.heap.now.now.terms _ (numbers_of c.loop-pair.met.left.keys) (numbers_of c.loop-pair.met.right.keys) c.loop-pair.work.items c.pop.new.self.items c.in-Some.pair c.in-Some.ensures.items c.loop-pair.invariant
      c.in-Different.ensures h),
)

pub returns-then-not-branch : goal.returns-then-not-branch
returns-then-not-branch c = (
  λ h. cc,
  λ h. absurd (match_other_places c.args.heap.now.now.terms _ (numbers_of c.loop-pair.met.left.keys) (numbers_of c.loop-pair.met.right.keys) c.loop-pair.work.items c.pop.new.self.items c.in-Some.pair c.in-Some.ensures.items c.loop-pair.invariant
      c.in-Variables.v.0 c.in-Variables.w.0 c.in-Variables.ensures.0 c.in-Variables.ensures.1 (λ e. let k = c.in_ok-have_one_place-in-Variables.ensures.place.1 e in let n = c.if-not-branch.true in cc) h),
)

pub loop-pair-preserved-else-not-branch : goal.loop-pair-preserved-else-not-branch
loop-pair-preserved-else-not-branch c =
    match_variables c.args.heap.now.now.terms _ (numbers_of c.loop-pair.met.left.keys) (numbers_of c.loop-pair.met.right.keys) c.loop-pair.work.items c.pop.new.self.items c.in-Some.pair c.in-Some.ensures.items c.loop-pair.invariant
    c.in-Variables.v.0 c.in-Variables.w.0 c.in-Variables.ensures.0 c.in-Variables.ensures.1 _ _ c.in_ok-have_one_place-in-Variables.ensures.left c.in_ok-have_one_place-in-Variables.ensures.right
    (c.in_ok-have_one_place-in-Variables.ensures.place.0 c.if-not-branch.false)

pub push_pairs-requires-clause-left_arity : goal.push_pairs-requires-clause-left_arity
push_pairs-requires-clause-left_arity c = length-arguments (at c.args.heap.now.now.terms c.in-Some.pair.left) c.in-Arguments.ensures.0 c.in-Arguments.arity c.in-Arguments.ensures.1

pub push_pairs-requires-clause-right_arity : goal.push_pairs-requires-clause-right_arity
push_pairs-requires-clause-right_arity c = length-arguments (at c.args.heap.now.now.terms c.in-Some.pair.right) c.in-Arguments.ensures.0 c.in-Arguments.arity c.in-Arguments.ensures.2

pub loop-pair-smaller : goal.loop-pair-smaller
loop-pair-smaller c =
    push_less c.args.heap.now.now.terms c.loop-pair.work.items c.pop.new.self.items c.in-Some.pair c.in-Some.ensures.items c.push_pairs.new.work.items c.in_ok-push_pairs-in-Arguments.ensures c.in-Arguments.ensures.0 c.in-Arguments.arity c.in-Arguments.ensures.1

pub loop-pair-preserved : goal.loop-pair-preserved
loop-pair-preserved c =
    match_spread c.args.heap.now.now.terms _ (numbers_of c.loop-pair.met.left.keys) (numbers_of c.loop-pair.met.right.keys) c.loop-pair.work.items c.pop.new.self.items c.in-Some.pair c.in-Some.ensures.items c.loop-pair.invariant
    c.in-Arguments.arity c.push_pairs.new.work.items c.in-Arguments.ensures c.in_ok-push_pairs-in-Arguments.ensures

pub is_one_ground_term-requires : goal.is_one_ground_term-requires
is_one_ground_term-requires c = (live_pop c.args.heap.now.now.terms c.loop-pair.work.items c.pop.new.self.items c.in-Some.pair c.in-Some.ensures.items c.loop-pair.invariant.live).1.0

pub loop-pair-smaller-then-is_one_ground_term : goal.loop-pair-smaller-then-is_one_ground_term
loop-pair-smaller-then-is_one_ground_term c = pop_less c.args.heap.now.now.terms c.loop-pair.work.items c.pop.new.self.items c.in-Some.pair c.in-Some.ensures.items

pub loop-pair-preserved-then-is_one_ground_term : goal.loop-pair-preserved-then-is_one_ground_term
loop-pair-preserved-then-is_one_ground_term c =
    match_ground c.args.heap.now.now.terms _ (numbers_of c.loop-pair.met.left.keys) (numbers_of c.loop-pair.met.right.keys) c.loop-pair.work.items c.pop.new.self.items c.in-Some.pair c.in-Some.ensures.items c.loop-pair.invariant
    (c.is_one_ground_term.ensures.same c.if-is_one_ground_term.true) (c.is_one_ground_term.ensures.ground c.if-is_one_ground_term.true)

pub loop-pair-smaller-in-Same : goal.loop-pair-smaller-in-Same
loop-pair-smaller-in-Same c = pop_less c.args.heap.now.now.terms c.loop-pair.work.items c.pop.new.self.items c.in-Some.pair c.in-Some.ensures.items

pub loop-pair-smaller-else-not-branch : goal.loop-pair-smaller-else-not-branch
loop-pair-smaller-else-not-branch c = pop_less c.args.heap.now.now.terms c.loop-pair.work.items c.pop.new.self.items c.in-Some.pair c.in-Some.ensures.items
