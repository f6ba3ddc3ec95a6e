use Rattle.std.proofs.Common.{◌≡◌, ◌⊎◌, ◌<◌, inl, inr, not, arith, sym, ap, subst, ◌∙◌}
use Rattle.cq_cert.specs.Pieces.{pieces}
use Rattle.cq_cert.proofs.LineWords.{run_words}
use Rattle.cq_cert.proofs.Pairs.{InRun, no_entries, read_members}
use Rattle.cq_cert.proofs.Rests.{left, pushed_same, run_no_pair, run_no_member, run_next, run_all}
use Rattle.cq_cert.proofs.lines.run.Goals as goal
use Rattle.cq_cert.proofs.lines.run.Goals.{then-number-eq0-via-then-number-eq0, then-number-eq0-via-else-number-eq0+then-number-members}

pub loop-rest-init : goal.loop-rest-init
loop-rest-init c =
    let words = pieces 32 (left c.cut.result.1) in
    subst (InRun c.args.members words words) (sym c.new-found.ensures.items) (no_entries c.args.members words)

pub returns-in_default-pair-clause-read : goal.returns-in_default-pair-clause-read
returns-in_default-pair-clause-read c =
    let words = pieces 32 (left c.cut.result.1) in
    run_no_pair c.args.members words c.loop-rest.rest c.cut-in-Some.result.1 c.in-Some.text c.cut-in-Some.result.0.now c.loop-rest.found.items c.loop-rest.invariant c.in-Some.is
    c.cut-in-Some.ensures.parts (sym c.in_default-pair.ensures)
    ∙ run_words c.args.members c.args.line.now c.cut.result.0.now words c.cut.ensures.parts (sym c.is.ensures ∙ c.if-not-is.false)

pub returns-then-number-eq0-clause-read : goal.returns-then-number-eq0-clause-read
returns-then-number-eq0-clause-read c =
    let words = pieces 32 (left c.cut.result.1) in
    let number = c.in-Some-pair.number in
    let never : (number ≡ 0) ⊎ (c.args.members < number) = elim c.then-number-eq0.branch [
      | then-number-eq0-via-then-number-eq0 w ↦ inl w.if-number-eq0.true
      | then-number-eq0-via-else-number-eq0+then-number-members w ↦ inr (omega (arith, w.if-number-members.true))
    ] in
    run_no_member c.args.members words c.loop-rest.rest c.cut-in-Some.result.1 c.in-Some.text c.cut-in-Some.result.0.now c.loop-rest.found.items c.loop-rest.invariant c.in-Some.is
    c.cut-in-Some.ensures.parts (number, c.in-Some-pair.multiplier) (sym c.in-Some-pair.ensures) never
    ∙ run_words c.args.members c.args.line.now c.cut.result.0.now words c.cut.ensures.parts (sym c.is.ensures ∙ c.if-not-is.false)

pub loop-rest-preserved : goal.loop-rest-preserved
loop-rest-preserved c =
    run_next c.args.members (pieces 32 (left c.cut.result.1)) c.loop-rest.rest c.cut-in-Some.result.1 c.in-Some.text c.cut-in-Some.result.0.now c.loop-rest.found.items c.loop-rest.invariant
    c.in-Some.is c.cut-in-Some.ensures.parts (c.in-Some-pair.number, c.in-Some-pair.multiplier) c.push.new.self.items (sym c.in-Some-pair.ensures) (omega arith) (omega arith)
    (pushed_same c.loop-rest.found.items c.push.new.self.items (λ q. (c.in-Some-pair.number, q)) _ c.in-Some-pair.multiplier c.in_ok-push.ensures.items (cc))

pub returns-clause-read : goal.returns-clause-read
returns-clause-read c =
    run_all c.args.members c.cut.result.1 c.loop-rest.rest c.loop-rest.found.items (c.is_none.ensures ∙ ap not c.if-is_none.false) c.loop-rest.invariant c.in_default.is
    ∙ run_words c.args.members c.args.line.now c.cut.result.0.now (pieces 32 (left c.cut.result.1)) c.cut.ensures.parts (sym c.is.ensures ∙ c.if-not-is.false)

pub returns-clause-members : goal.returns-clause-members
returns-clause-members c = read_members c.args.members _ _ c.loop-rest.found.items c.loop-rest.invariant
