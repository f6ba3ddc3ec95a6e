use Rattle.std.proofs.Common.{◌≡◌, ◌⊎◌, ◌<◌, suc, inl, inr, arith, sym, ap, subst}
use Rattle.spec_numbers.specs.Rational.{0ℚ}
use Rattle.cq_form.specs.Entries.{products_of}
use Rattle.cq_cert.specs.Pieces.{pieces}
use Rattle.cq_cert.proofs.Pairs.{InOrder, no_products}
use Rattle.cq_cert.proofs.Rests.{left, cut_size, size_some, pushed_same, member_no_pair, member_out_of_order, member_next, member_all}
use Rattle.cq_cert.proofs.lines.products.Goals as goal
use Rattle.cq_cert.proofs.lines.products.Goals.{then-number-last-via-then-number-last, then-number-last-via-else-number-last+then-number-greatest, then-number-last-via-else-number-last+else-number-greatest+then-is_zero}

pub loop-rest-init : goal.loop-rest-init
loop-rest-init c =
    let seen = c.args.seen in
    let words = pieces 32 (left c.args.line) in
    record {
      read = subst (λ s. InOrder seen words words s seen 0) (ap products_of (sym c.new-entries.ensures.items)) (no_products seen words);
      room = omega arith;
    }

pub returns-in_default-pair-clause-read : goal.returns-in_default-pair-clause-read
returns-in_default-pair-clause-read c =
    member_no_pair c.args.seen (pieces 32 (left c.args.line)) c.loop-rest.rest c.cut.result.1 c.in-Some.text c.cut.result.0.now c.loop-rest.entries.items c.loop-rest.greatest c.loop-rest.last
    c.loop-rest.invariant.read c.in-Some.is c.cut.ensures.parts (sym c.in_default-pair.ensures)

pub returns-then-number-last-clause-read : goal.returns-then-number-last-clause-read
returns-then-number-last-clause-read c =
    let number = c.in-Some-pair.number in
    let factor = c.in-Some-pair.factor in
    let never : (number < suc c.loop-rest.last) ⊎ ((suc c.loop-rest.greatest < number) ⊎ (factor ≡ 0ℚ)) = elim c.then-number-last.branch [
      | then-number-last-via-then-number-last w ↦ inl (omega (arith, w.if-number-last.true))
      | then-number-last-via-else-number-last+then-number-greatest w ↦ inr (inl (omega (arith, w.if-number-greatest.true)))
      | then-number-last-via-else-number-last+else-number-greatest+then-is_zero w ↦ inr (inr (let none = w.is_zero.ensures.0 w.if-is_zero.true in cc))
    ] in
    member_out_of_order c.args.seen (pieces 32 (left c.args.line)) c.loop-rest.rest c.cut.result.1 c.in-Some.text c.cut.result.0.now c.loop-rest.entries.items c.loop-rest.greatest c.loop-rest.last
    c.loop-rest.invariant.read c.in-Some.is c.cut.ensures.parts (number, factor) (sym c.in-Some-pair.ensures) never

pub loop-rest-preserved : goal.loop-rest-preserved
loop-rest-preserved c = record {
  read = member_next c.args.seen (pieces 32 (left c.args.line)) c.loop-rest.rest c.cut.result.1 c.in-Some.text c.cut.result.0.now c.loop-rest.entries.items c.loop-rest.greatest c.loop-rest.last
      c.loop-rest.invariant.read c.in-Some.is c.cut.ensures.parts (c.in-Some-pair.number, c.in-Some-pair.factor) c.push.new.self.items c.max-greatest.result (sym c.in-Some-pair.ensures) (omega arith)
      (omega arith) (λ e. let t = c.is_zero.ensures.1 (cc) in let f = c.if-is_zero.false in cc)
      (pushed_same c.loop-rest.entries.items c.push.new.self.items (λ q. record { quantity = c.in-Some-pair.number; factor = q }) _ c.in-Some-pair.factor c.in_ok-push.ensures.items (cc)) c.max-greatest.ensures;
  room = omega (
    arith,
    c.loop-rest.invariant.room,
    c.max-greatest.ensures,
    c.if-number-greatest.false,
    cut_size c.in-Some.text.now c.cut.result.0.now c.cut.result.1 c.cut.ensures.first c.cut.ensures.rest,
    size_some c.loop-rest.rest c.in-Some.text c.in-Some.is,
  );
}

pub returns-clause-read : goal.returns-clause-read
returns-clause-read c =
    (member_all c.args.seen (pieces 32 (left c.args.line)) c.loop-rest.rest c.loop-rest.entries.items c.loop-rest.greatest c.loop-rest.last c.loop-rest.invariant.read c.in_default.is).read

pub returns-clause-in_order : goal.returns-clause-in_order
returns-clause-in_order c =
    (member_all c.args.seen (pieces 32 (left c.args.line)) c.loop-rest.rest c.loop-rest.entries.items c.loop-rest.greatest c.loop-rest.last c.loop-rest.invariant.read c.in_default.is).in_order

pub returns-clause-seen : goal.returns-clause-seen
returns-clause-seen c =
    let all = member_all c.args.seen (pieces 32 (left c.args.line)) c.loop-rest.rest c.loop-rest.entries.items c.loop-rest.greatest c.loop-rest.last c.loop-rest.invariant.read c.in_default.is in
    (all.greatest, omega (arith, c.loop-rest.invariant.room))
