use Rattle.std.proofs.Common.{◌≡◌, ◌∙◌, ◌+◌, suc, codes, ap, add-one, arith}
use Rattle.spec_terms.specs.Term.{Var}
use Rattle.spec_syntax.specs.Trees.{Tree, binary, natural}
use Rattle.spec_command.specs.Query.{gap}
use Rattle.cq_term.specs.Trees.{tree}
use Rattle.cq_built.proofs.Growing.{grows_both}
use Rattle.cq_interpreter.proofs.Grown.{built_as}
use Rattle.cq_interpreter.proofs.generation.bounds.next_lower.Goals as goal

pub returns-clause-built : goal.returns-clause-built
returns-clause-built c =
    let last = c.args.last in
    let place : last + 2 ≡ suc (suc last) = omega arith in
    let this = c.variable-this.ensures.variable c.over.new.atoms ∙ ap (λ v. Var v) (add-one last) in
    let more = c.in_ok-more.ensures.built ∙ ap natural (c.gap.ensures ∙ ap gap place) in
    let sum = c.in_ok-sum.ensures.built ∙ (λ j. binary (codes "+") (c.variable-before.ensures.variable c.args.atoms.now j) (more j)) in
    built_as c.over-2.result (tree c.over-2.new.atoms c.over-2.new.heap.now.terms) _ _ (λ j. binary (codes ">=") (this j) (sum j)) c.over-2.ensures.built

pub returns-clause-grows : goal.returns-clause-grows
returns-clause-grows c =
    let a = c.args.atoms.now in
    let first = grows_both a a c.over.new.atoms _ _ _ c.whole.ensures.grows c.over.ensures.grows in
    grows_both a c.over.new.atoms c.over-2.new.atoms _ _ _ first c.over-2.ensures.grows
