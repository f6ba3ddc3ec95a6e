use Rattle.std.proofs.Common.{length, arith}
use Rattle.cq_term.specs.Meaning.{at}
use Rattle.cq_term.proofs.Arguments.{length-arguments}
use Rattle.cq_term.proofs.Named.{functor_below}
use Rattle.cq_write.proofs.Heads.{one_argument, two_arguments, many_arguments}
use Rattle.cq_write.proofs.writer.Writer.compound_shape.Goals as goal

pub argument-requires-clause-within : goal.argument-requires-clause-within
argument-requires-clause-within c =
    let e = length-arguments (at c.args.self.now.heap.now.now.terms c.args.term) c.args.name c.args.arity c.requires.shown in
    let t = c.if-arity-eq1.true in
    omega (arith, e, t)

pub argument-requires-then-arity-eq2-clause-within : goal.argument-requires-then-arity-eq2-clause-within
argument-requires-then-arity-eq2-clause-within c =
    let e = length-arguments (at c.args.self.now.heap.now.now.terms c.args.term) c.args.name c.args.arity c.requires.shown in
    let t = c.if-arity-eq2.true in
    omega (arith, e, t)

pub argument-requires-then-arity-eq2-2-clause-within : goal.argument-requires-then-arity-eq2-2-clause-within
argument-requires-then-arity-eq2-2-clause-within c =
    let e = length-arguments (at c.args.self.now.heap.now.now.terms c.args.term) c.args.name c.args.arity c.requires.shown in
    let t = c.if-arity-eq2.true in
    omega (arith, e, t)

pub returns-then-arity-eq1 : goal.returns-then-arity-eq1
returns-then-arity-eq1 c =
    let ts = c.args.self.now.heap.now.now.terms in (
      one_argument (at ts c.args.term) (at ts c.argument.result) c.args.name c.args.arity c.requires.shown c.if-arity-eq1.true c.argument.ensures.argument,
      functor_below (length c.args.self.now.atoms.now) (at ts c.args.term) c.args.name c.args.arity c.requires.shown c.requires.known.names,
      c.argument.ensures.known,
    )

pub returns-then-arity-eq2 : goal.returns-then-arity-eq2
returns-then-arity-eq2 c =
    let ts = c.args.self.now.heap.now.now.terms in (
      two_arguments (at ts c.args.term) (at ts c.argument-then-arity-eq2.result) (at ts c.argument-then-arity-eq2-2.result) c.args.name c.args.arity c.requires.shown c.if-arity-eq2.true c.argument-then-arity-eq2.ensures.argument c.argument-then-arity-eq2-2.ensures.argument,
      functor_below (length c.args.self.now.atoms.now) (at ts c.args.term) c.args.name c.args.arity c.requires.shown c.requires.known.names,
      c.argument-then-arity-eq2.ensures.known,
      c.argument-then-arity-eq2-2.ensures.known,
    )

pub returns-else-arity-eq2 : goal.returns-else-arity-eq2
returns-else-arity-eq2 c =
    let ts = c.args.self.now.heap.now.now.terms in
    let many = many_arguments (at ts c.args.term) c.args.name c.args.arity c.requires.shown c.if-arity-eq1.false c.if-arity-eq2.false in
    (many.0, many.1, many.2, many.3, functor_below (length c.args.self.now.atoms.now) (at ts c.args.term) c.args.name c.args.arity c.requires.shown c.requires.known.names)
