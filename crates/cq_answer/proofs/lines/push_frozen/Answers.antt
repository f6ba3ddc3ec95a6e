use Rattle.std.proofs.Common.{◌≡◌, ◌++◌, ◌∷◌, [], ◌∙◌, ap, ap₂, codes, append_assoc}
use Rattle.spec_terms.specs.Term.{named}
use Rattle.spec_builtins.specs.Built.{compound2}
use Rattle.spec_text.specs.declared.writing.Style.TheVariants.{Quoted}
use Rattle.spec_text.specs.Written.{text_within}
use Rattle.cq_term.specs.Texts.{text_of}
use Rattle.cq_term.specs.Trees.{tree}
use Rattle.cq_write.specs.Meaning.{operators}
use Rattle.cq_write.proofs.Steps.{on_ok}
use Rattle.cq_answer.specs.Lines.{goal_line}
use Rattle.cq_answer.proofs.Joining.{made_tree, grown}
use Rattle.cq_answer.proofs.lines.push_frozen.Goals as goal

pub returns-clause-line : goal.returns-clause-line
returns-clause-line c =
    let w = c.args.writing.now in
    let texts = w.atoms.now in
    let h = c.args.heap.now.now in
    let F = goal_line (operators w.atoms.now w.ops.now) w.names.now in
    let old = c.args.out.now.items in
    let new = c.compound.new.self.now.terms in
    let a = c.var_term-awaited.result in
    let made = made_tree h.terms new c.args.freeze a c.args.goal c.in_ok-frozen.frozen c.in_ok-frozen.ensures.id c.in_ok-frozen.ensures.terms texts c.requires.freeze in
    let trees = made ∙ ap (λ t. compound2 "freeze" t (tree texts h.terms c.args.goal)) (ap (named (text_of texts)) c.var_term-awaited.ensures.term) in
    on_ok c.extend_from_slice.result
    (λ e. e ∙ ap (λ t. t ++ codes "\n") c.in_ok-push_term.ensures ∙ append_assoc old (F (tree texts new c.in_ok-frozen.frozen)) (codes "\n") ∙ ap (λ t. old ++ (F t ++ codes "\n")) trees)
    (grown c.extend_from_slice.result c.extend_from_slice.new.self.items (c.push_term.new.out.items ++ codes "\n") c.push_term.new.out.items c.extend_from_slice.ensures.items)
