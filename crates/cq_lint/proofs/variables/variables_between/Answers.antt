use Rattle.std.proofs.Common.{[], ◌++◌, ◌∙◌, ap, sym, subst, append-nil, append_assoc, arith}
use Rattle.spec_text.proofs.Onward.{next_there}
use Rattle.cq_read.specs.LexShown.{shown}
use Rattle.cq_lint.specs.Variables.{AreVariables, none, fault, end, next, variable_if}
use Rattle.cq_lint.proofs.Ends.{ends_text, goes_further}
use Rattle.cq_lint.proofs.variables.variables_between.Goals as goal

pub loop-at-init : goal.loop-at-init
loop-at-init c = record {
  within = c.requires;
  same = λ vs h. subst (λ us. AreVariables c.args.text.now c.args.to c.args.from (us ++ vs)) (sym c.new-found.ensures.items) h;
}

pub returns-in-Err : goal.returns-in-Err
returns-in-Err c =
    subst (AreVariables c.args.text.now c.args.to c.args.from) (append-nil c.loop-at.found.items)
    (c.loop-at.invariant.same [] (fault (sym c.in-Err.ensures.value)))

pub returns-then-is_end : goal.returns-then-is_end
returns-then-is_end c =
    subst (AreVariables c.args.text.now c.args.to c.args.from) (append-nil c.loop-at.found.items)
    (c.loop-at.invariant.same [] (end (sym c.in-Ok.ensures.value) (ends_text c.in-Ok.token.kind (sym c.is_end.ensures ∙ c.if-is_end.true))))

pub add_variable-requires-clause-forward : goal.add_variable-requires-clause-forward
add_variable-requires-clause-forward c =
    let there = next_there c.args.text.now c.loop-at.at (shown c.in-Ok.token) c.loop-at.invariant.within (sym c.in-Ok.ensures.value) in
    let more = there.takes (goes_further c.in-Ok.token.kind (sym c.is_end.ensures ∙ c.if-is_end.false)) in
    omega (arith, more)

pub loop-at-smaller : goal.loop-at-smaller
loop-at-smaller c =
    let there = next_there c.args.text.now c.loop-at.at (shown c.in-Ok.token) c.loop-at.invariant.within (sym c.in-Ok.ensures.value) in
    let more = there.takes (goes_further c.in-Ok.token.kind (sym c.is_end.ensures ∙ c.if-is_end.false)) in
    omega (arith, there.behind, more, there.within)

pub loop-at-preserved : goal.loop-at-preserved
loop-at-preserved c =
    let there = next_there c.args.text.now c.loop-at.at (shown c.in-Ok.token) c.loop-at.invariant.within (sym c.in-Ok.ensures.value) in
    record {
      within = there.within;
      same = λ vs h.
          subst (AreVariables c.args.text.now c.args.to c.args.from)
          (sym (append_assoc c.loop-at.found.items (variable_if c.args.text.now (shown c.in-Ok.token)) vs) ∙ ap (λ us. us ++ vs) (sym c.in_ok-add_variable.ensures))
          (c.loop-at.invariant.same _ (next c.loop-at-test.true (sym c.in-Ok.ensures.value) (goes_further c.in-Ok.token.kind (sym c.is_end.ensures ∙ c.if-is_end.false)) h));
    }

pub returns : goal.returns
returns c =
    subst (AreVariables c.args.text.now c.args.to c.args.from) (append-nil c.loop-at.found.items)
    (c.loop-at.invariant.same [] (none c.loop-at-test.false))
