use Rattle.std.proofs.Common.{◌≡◌, ◌∙◌, List, [], ◌++◌, sym, ap, subst, map, ℕ}
use Rattle.std.specs.Prelude.{fold}
use Rattle.spec_linear.specs.Echelon.{AreDistinct}
use Rattle.spec_terms.specs.VariableName.{VariableName}
use Rattle.cq_attr.specs.declared.susp.Susp.{Susp}
use Rattle.cq_term.specs.Trees.{tree}
use Rattle.cq_answer.specs.Shown.{AreLive}
use Rattle.cq_answer.proofs.Named.{free_distinct}
use Rattle.cq_answer.proofs.residual.residues_of.Goals as goal

pub wanted_of-requires-clause-distinct : goal.wanted_of-requires-clause-distinct
wanted_of-requires-clause-distinct c =
    let h = c.args.heap.now.now in
    subst (λ (ns : List VariableName). AreDistinct (map (λ (n : VariableName). n.number) ns)) (sym (c.deref.ensures.value ∙ c.in_ok-free.ensures [])) (free_distinct (tree [] h.images) c.args.names.now c.requires.distinct)
