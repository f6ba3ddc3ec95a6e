use Rattle.std.proofs.Common.{◌≡◌, refl, sym, ap, subst, ◌∙◌, ◌∷◌, []}
use Rattle.std.specs.Prelude.{IfOk}
use Rattle.cq_term.specs.Texts.{text_of}
use Rattle.cq_ops.specs.Tables.{named}
use Rattle.spec_syntax.specs.Grammar.{use_of, applied_as}
use Rattle.spec_syntax.specs.Machine.{OperandOf, before_term, after_name, after_operand}
use Rattle.cq_term.specs.Trees.{tree}
use Rattle.cq_read.specs.Views.{token_of, frames_of, state_or_none}
use Rattle.cq_read.proofs.Kept.{frames_kept, frames_push}
use Rattle.cq_read.proofs.parse.steps.after_name.Goals as goal
use Rattle.cq_read.proofs.ParseNaming.{names_push}
use Rattle.spec_numbers.proofs.Tests.{le_true}

pub returns-in_ok-push-in-Some-clause-step : goal.returns-in_ok-push-in-Some-clause-step
returns-in_ok-push-in-Some-clause-step c texts known is =
    let ops = named texts c.args.grammar.now.ops.now in
    let f = text_of texts c.args.name in
    let ts = c.args.heap.now.now.terms in
    let k = frames_of texts ts c.args.frames.now.items in
    let tok = token_of texts c.args.token.now in
    let low = le_true c.in-Some.op.priority c.args.most c.if-op-most.true in
    let pushed : frames_of texts ts c.push.new.self.items ≡ OperandOf f c.in-Some.op c.args.most ∷ k = ap (frames_of texts ts) c.in_ok-push-in-Some.ensures.items ∙ frames_push texts ts c.args.frames.now.items _ in
    let there : before_term ops c.right_most.result (frames_of texts ts c.push.new.self.items) tok ≡ after_name ops f c.args.most k tok (applied_as ops f (tok ∷ [])) =
    rw (sym (c.in-Some.ensures texts known is), low, c.right_most.ensures, pushed) refl in
    subst (λ s. IfOk c.before_term.result (λ next. state_or_none texts c.before_term.new.heap.now.terms c.before_term.new.frames.items next ≡ s)) there (c.before_term.ensures.step ops texts known.grammar)

pub returns-in_ok-operand-in-None-clause-step : goal.returns-in_ok-operand-in-None-clause-step
returns-in_ok-operand-in-None-clause-step c texts known is =
    let ops = named texts c.args.grammar.now.ops.now in
    let f = text_of texts c.args.name in
    let ts = c.args.heap.now.now.terms in
    let us = c.atom.new.heap.now.terms in
    let k = frames_of texts ts c.args.frames.now.items in
    let tok = token_of texts c.args.token.now in
    let there : after_operand ops (frames_of texts us c.args.frames.now.items) c.args.most (tree texts us c.in_ok-operand-in-None.operand) tok (use_of ops c.args.most 0 tok) ≡ after_name ops f c.args.most k tok (applied_as ops f (tok ∷ [])) =
    rw (sym (c.in-None.ensures texts known is), frames_kept texts ts us c.in_ok-operand-in-None.ensures.heap.terms c.args.frames.now.items c.requires.frames, c.in_ok-operand-in-None.ensures.built) refl in
    subst (λ s. IfOk c.behind.result (λ next. state_or_none texts c.behind.new.heap.now.terms c.behind.new.frames.items next ≡ s)) there (c.behind.ensures.step texts known)

pub returns-in_ok-operand-in-None-clause-known : goal.returns-in_ok-operand-in-None-clause-known
returns-in_ok-operand-in-None-clause-known c texts known = c.behind.ensures.known texts

pub returns-in_ok-push-in-Some-clause-names : goal.returns-in_ok-push-in-Some-clause-names
returns-in_ok-push-in-Some-clause-names c texts known is names =
    c.before_term.ensures.names texts known.grammar (names_push texts c.args.heap.now.now.terms c.args.frames.now.items c.push.new.self.items _ c.in_ok-push-in-Some.ensures.items is names)

pub returns-in_ok-operand-in-None-clause-names : goal.returns-in_ok-operand-in-None-clause-names
returns-in_ok-operand-in-None-clause-names c texts known is names =
    c.behind.ensures.names texts known (record { terms = c.in_ok-operand-in-None.ensures.names texts is names.terms; frames = names.frames })
