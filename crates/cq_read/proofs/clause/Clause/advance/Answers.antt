use Rattle.std.proofs.Common.{sym, ap, subst, ◌∙◌, true, false}
use Rattle.cq_read.specs.LexShown.{shown}
use Rattle.cq_read.specs.Known.{Knows, KnowsOrNone}
use Rattle.cq_read.specs.Views.{state_or_none}
use Rattle.cq_read.specs.Names.{variables}
use Rattle.cq_read.proofs.Steps.{advances}
use Rattle.cq_read.proofs.clause.Clause.advance.Goals as goal

pub returns-in-Some-clause-step : goal.returns-in-Some-clause-step
returns-in-Some-clause-step c texts are =
    let knows : Knows texts c.args.grammar.now.names.now c.in_ok-seen.seen = record { different = are.different; grammar = are.grammar; token = c.in_ok-seen.ensures.known texts are.kept } in
    advances texts c.args.grammar.now.ops.now c.args.text.now (shown c.args.token.now) c.args.heap.now.now c.token_of.new.heap.now c.step.new.heap.now c.args.self.now _ c.requires.live
    c.token_of.ensures.heap.terms c.in_ok-seen.seen true (c.in_ok-seen.ensures.token texts are.kept)
    (sym (ap (state_or_none texts c.step.new.heap.now.terms c.step.new.frames.items) c.in-Some.is) ∙ c.in_ok-next.ensures.step texts knows are.state)
    (ap (variables c.token_of.new.variables) c.in_ok-next.ensures.heap.images ∙ c.in_ok-seen.ensures.variables)

pub returns-in-Some-clause-known : goal.returns-in-Some-clause-known
returns-in-Some-clause-known c texts keeps goes_on = subst (KnowsOrNone texts) c.in-Some.is (c.in_ok-next.ensures.known texts (c.in_ok-seen.ensures.known texts keeps))

pub returns-clause-step : goal.returns-clause-step
returns-clause-step c texts are =
    let knows : Knows texts c.args.grammar.now.names.now c.in_ok-seen.seen = record { different = are.different; grammar = are.grammar; token = c.in_ok-seen.ensures.known texts are.kept } in
    advances texts c.args.grammar.now.ops.now c.args.text.now (shown c.args.token.now) c.args.heap.now.now c.token_of.new.heap.now c.step.new.heap.now c.args.self.now _ c.requires.live
    c.token_of.ensures.heap.terms c.in_ok-seen.seen false (c.in_ok-seen.ensures.token texts are.kept)
    (sym (ap (state_or_none texts c.step.new.heap.now.terms c.step.new.frames.items) c.in-None.is) ∙ c.in_ok-next.ensures.step texts knows are.state)
    (ap (variables c.token_of.new.variables) c.in_ok-next.ensures.heap.images ∙ c.in_ok-seen.ensures.variables)

pub returns-in-Some-clause-names : goal.returns-in-Some-clause-names
returns-in-Some-clause-names c texts are names =
    let knows : Knows texts c.args.grammar.now.names.now c.in_ok-seen.seen = record { different = are.different; grammar = are.grammar; token = c.in_ok-seen.ensures.known texts are.kept } in
    c.in_ok-next.ensures.names texts knows are.state (record { terms = c.in_ok-seen.ensures.terms texts names.terms; frames = names.frames })

pub returns-clause-names : goal.returns-clause-names
returns-clause-names c texts are names =
    let knows : Knows texts c.args.grammar.now.names.now c.in_ok-seen.seen = record { different = are.different; grammar = are.grammar; token = c.in_ok-seen.ensures.known texts are.kept } in
    c.in_ok-next.ensures.names texts knows are.state (record { terms = c.in_ok-seen.ensures.terms texts names.terms; frames = names.frames })
