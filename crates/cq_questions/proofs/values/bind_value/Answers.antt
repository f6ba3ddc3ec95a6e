use Rattle.cq_questions.proofs.Binding.{valued_nothing, unfixed_free, one_valued, one_free, one_names}
use Rattle.cq_questions.proofs.values.bind_value.Goals as goal

pub returns-in_default-clause-valued : goal.returns-in_default-clause-valued
returns-in_default-clause-valued c = valued_nothing c.args.store.now.told c.args.heap.now.now c.args.term c.requires.live

pub returns-in_default-clause-free : goal.returns-in_default-clause-free
returns-in_default-clause-free c =
    unfixed_free c.args.store.now.told c.args.heap.now.now c.args.term c.args.variable.0 c.value.result c.value.ensures c.in_default.not-Some

pub returns-then-not-is_unbound-clause-valued : goal.returns-then-not-is_unbound-clause-valued
returns-then-not-is_unbound-clause-valued c = valued_nothing c.args.store.now.told c.args.heap.now.now c.args.term c.requires.live

pub returns-then-not-is_unbound-clause-free : goal.returns-then-not-is_unbound-clause-free
returns-then-not-is_unbound-clause-free c = λ fixed f o. absurd (c.if-not-is_unbound.ensures (c.view.ensures.inside c.args.variable.0 o).1)

pub returns-clause-valued : goal.returns-clause-valued
returns-clause-valued c =
    one_valued c.args.store.now.told c.args.heap.now.now c.number.new.self.now c.bind.new.self.now c.args.term c.args.variable.0 c.in_ok-number.number c.in-Some.value c.requires.live
    c.in-Some.ensures c.in_ok-number.ensures.id c.in_ok-number.ensures.terms c.in_ok-number.ensures.images c.in_ok-bind.ensures.terms c.in_ok-bind.ensures.images

pub returns-clause-free : goal.returns-clause-free
returns-clause-free c =
    one_free c.args.store.now.told c.args.heap.now.now c.number.new.self.now c.bind.new.self.now c.args.term c.args.variable.0 c.in_ok-number.number c.in-Some.value c.requires.live
    c.in-Some.ensures c.in_ok-number.ensures.id c.in_ok-number.ensures.terms c.in_ok-number.ensures.images c.in_ok-bind.ensures.terms c.in_ok-bind.ensures.images

pub returns-clause-names : goal.returns-clause-names
returns-clause-names c =
    one_names c.args.store.now.told c.args.heap.now.now c.number.new.self.now c.bind.new.self.now c.args.term c.args.variable.0 c.in_ok-number.number c.in-Some.value c.requires.live
    c.in-Some.ensures c.in_ok-number.ensures.id c.in_ok-number.ensures.terms c.in_ok-number.ensures.images c.in_ok-bind.ensures.terms c.in_ok-bind.ensures.images
