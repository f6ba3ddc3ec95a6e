use Rattle.std.proofs.Common.{◌≡◌, arith, sym, ◌∙◌}
use Rattle.spec_log.specs.Verdicts.{verdict}
use Rattle.cq_cert.proofs.Reading.{accepted_has_none}
use Rattle.cq_cert.proofs.Rests.{cut_size, size_some, line_ends, line_goes, last_line}
use Rattle.cq_cert.specs.Places.{place_of}
use Rattle.cq_cert.proofs.check.check_log.Goals as goal
use Rattle.cq_cert.proofs.check.check_log.Goals.{In-Ends}

ended : (c : In-Ends) → c.in-Ends.found ≡ verdict c.args.log.now
ended c =
    let found = rw c.in-Ends.is at c.in_ok-other.ensures in
    sym (c.loop-rest.invariant.same ∙ line_ends c.loop-rest.line (place_of c.loop-rest.place) c.loop-rest.text.now c.loop-rest.rest c.in-Some.next c.in-Ends.found c.in-Some.is found)

pub returns-in-Ends-clause-exact : goal.returns-in-Ends-clause-exact
returns-in-Ends-clause-exact c = ended (goal.at.returns-in-Ends-clause-exact c).In-Ends

pub returns-in-Ends-clause-sound : goal.returns-in-Ends-clause-sound
returns-in-Ends-clause-sound c = λ n e. accepted_has_none c.args.log.now c.in-Ends.found n (ended (goal.at.returns-in-Ends-clause-sound c).In-Ends) e

pub loop-rest-preserved : goal.loop-rest-preserved
loop-rest-preserved c =
    let i = c.loop-rest.invariant in
    let goes = rw c.in-Goes.is at c.in_ok-other.ensures in
    let left = size_some c.loop-rest.rest c.in-Some.next c.in-Some.is in
    let size = cut_size c.in-Some.next.now c.cut-in-Some.result.0.now c.cut-in-Some.result.1 c.cut-in-Some.ensures.first c.cut-in-Some.ensures.rest in
    record {
      same = i.same ∙ line_goes c.loop-rest.line (place_of c.loop-rest.place) (place_of c.in-Goes.other) c.loop-rest.text.now c.cut-in-Some.result.0.now c.loop-rest.rest
          c.cut-in-Some.result.1 c.in-Some.next c.in-Some.is goes.0 c.cut-in-Some.ensures.parts;
      sound = goes.1;
      first = omega arith;
      room = omega (arith, i.room, goes.2, left, size);
      lines = omega (arith, i.lines, left, size);
    }

pub returns-clause-sound : goal.returns-clause-sound
returns-clause-sound c = λ n e.
    let found : c.finish.result ≡ verdict c.args.log.now =
    sym (c.loop-rest.invariant.same ∙ last_line c.loop-rest.line (place_of c.loop-rest.place) c.loop-rest.text.now c.loop-rest.rest c.in_default.is ∙ sym c.finish.ensures) in
    accepted_has_none c.args.log.now c.finish.result n found e
