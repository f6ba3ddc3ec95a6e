use Rattle.std.proofs.Common.{◌≡◌, Some, codes, ◌∙◌, refl}
use Rattle.spec_builtins.specs.Terms as builtins
use Rattle.spec_search.specs.Rows.{nth}
use Rattle.spec_terms.specs.Term.{more}
use Rattle.cq_attr.proofs.Elements.{on_err}
use Rattle.cq_term.specs.Trees.{tree}
use Rattle.cq_branch.proofs.Arguments.{argument_reads}
use Rattle.cq_machine.specs.Machines.{terms, now, holds}
use Rattle.cq_machine.proofs.Built.{selected_on, reads_on}
use Rattle.spec_builtins.specs.Built.{atom}
use Rattle.cq_branch.proofs.Done.{length-stack}
use Rattle.cq_branch.proofs.Reading.{read_live, tree_read}
use Rattle.cq_machine.specs.Machines.{saved}
use Rattle.cq_machine.proofs.Kept.{leads_over}
use Rattle.cq_machine.proofs.derived.once.Goals as goal

pub returns-in_err-truth-clause-err : goal.returns-in_err-truth-clause-err
returns-in_err-truth-clause-err c = on_err c.from_residual.result c.build.ensures.stands

pub once-requires-clause-goal : goal.once-requires-clause-goal
once-requires-clause-goal c =
    let m = c.args.m.now in
    let id = c.arg-inside.result in
    let t = tree m.atoms (terms m) id in
    read_live m.atoms (terms c.build.new.m) id t (c.build.ensures.more.grown.terms id t (tree_read m.atoms (terms m) id t c.arg-inside.ensures.live refl))

pub returns-clause-row : goal.returns-clause-row
returns-clause-row c = λ p behind g s.
    let m = c.args.m.now in
    let mid = c.build.new.m in
    let r = argument_reads m.atoms (now m).0 p.state c.args.goal 0 c.arg-inside.result g s.reads c.arg-inside.ensures.live c.arg-inside.ensures.arg in
    let q = selected_on m mid c.args.goal c.args.height c.args.rest p behind g c.build.ensures.more s in
    leads_over mid.atoms mid.clauses (saved mid) _ mid.choices _ (Some c.in_ok-k.k) p behind _ c.in_ok-k.ensures.saved
    (c.in_ok-k.ensures.row mid.atoms (holds mid) p behind (nth (builtins.arguments g) 0)
    (length-stack mid.atoms mid.clauses (saved mid) mid.choices c.build.ensures.sound.marked) q.selected
    (reads_on m mid p.state c.arg-inside.result (nth (builtins.arguments g) 0) c.build.ensures.more r)
    (tree_read mid.atoms (terms mid) c.in_ok-truth.truth (atom "true") c.in_ok-truth.ensures.live (c.in_ok-truth.ensures.built (codes "true") c.requires.sound.known.truth), refl))
