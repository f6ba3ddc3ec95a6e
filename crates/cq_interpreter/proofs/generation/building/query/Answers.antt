use Rattle.std.proofs.Common.{◌∙◌, codes}
use Rattle.spec_syntax.specs.Trees.{binary}
use Rattle.cq_term.specs.Trees.{tree}
use Rattle.cq_built.proofs.Growing.{grows_both}
use Rattle.cq_built.proofs.Trees.{kept}
use Rattle.cq_interpreter.proofs.Grown.{built_as}
use Rattle.cq_interpreter.proofs.generation.building.query.Goals as goal

pub returns-clause-built : goal.returns-clause-built
returns-clause-built c =
    let t = c.told in
    let a = c.asked in
    let first = kept t.new.atoms a.new.atoms t.new.heap a.new.heap a.ensures.grows (t.ensures.grows.names c.requires.names) c.in_ok-first.first c.in_ok-first.ensures.live
    ∙ c.in_ok-first.ensures.built in
    built_as c.over.result (tree c.over.new.atoms c.over.new.heap.now.terms) _ _ (λ j. binary (codes ",") (first j) (c.in_ok-second.ensures.built j)) c.over.ensures.built

pub returns-clause-grows : goal.returns-clause-grows
returns-clause-grows c =
    let a = c.args.atoms.now in
    let first = grows_both a c.told.new.atoms c.asked.new.atoms _ _ _ c.told.ensures.grows c.asked.ensures.grows in
    grows_both a c.asked.new.atoms c.over.new.atoms _ _ _ first c.over.ensures.grows
