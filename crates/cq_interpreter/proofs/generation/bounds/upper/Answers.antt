use Rattle.std.proofs.Common.{codes}
use Rattle.spec_syntax.specs.Trees.{binary}
use Rattle.cq_term.specs.Trees.{tree}
use Rattle.cq_built.proofs.Growing.{grows_both}
use Rattle.cq_interpreter.proofs.Grown.{still_unbound, still_there, built_as}
use Rattle.cq_interpreter.proofs.generation.bounds.upper.Goals as goal

pub variable-this-requires : goal.variable-this-requires
variable-this-requires c =
    let a = c.args.atoms.now in
    let g = c.whole.ensures.grows in
    record { unbound = still_unbound a a _ _ g c.requires.unbound; there = still_there a a _ _ g c.args.number c.requires.there }

pub over-requires : goal.over-requires
over-requires c = record { first = c.variable-this.ensures.live; second = c.in_ok-bound.ensures.live; names = c.whole.ensures.grows.names c.requires.names }

pub returns-clause-built : goal.returns-clause-built
returns-clause-built c =
    built_as c.over.result (tree c.over.new.atoms c.over.new.heap.now.terms) _ _
    (λ j. binary (codes "=<") (c.variable-this.ensures.variable c.args.atoms.now j) (c.in_ok-bound.ensures.built j)) c.over.ensures.built

pub returns-clause-grows : goal.returns-clause-grows
returns-clause-grows c = grows_both c.args.atoms.now c.args.atoms.now _ _ _ _ c.whole.ensures.grows c.over.ensures.grows
