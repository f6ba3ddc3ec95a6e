use Rattle.std.proofs.Common.{◌≡◌, [], ◌∷◌, codes, ap, ◌∙◌}
use Rattle.spec_builtins.specs.Built.{compound1}
use Rattle.spec_builtins.specs.Terms as builtins
use Rattle.spec_search.specs.Rows.{nth}
use Rattle.spec_syntax.specs.Trees.{Tree}
use Rattle.spec_terms.specs.Term.{Compound, one, more, with_arguments}
use Rattle.cq_attr.proofs.Elements.{on_err}
use Rattle.cq_term.specs.Trees.{tree}
use Rattle.cq_branch.proofs.Arguments.{argument_reads}
use Rattle.cq_machine.specs.Machines.{terms, now}
use Rattle.cq_machine.proofs.Built.{selected_on, stands_then}
use Rattle.cq_machine.proofs.Kept.{argument_is}
use Rattle.cq_machine.proofs.Over.{reads_over_one}
use Rattle.cq_machine.proofs.derived.initialization.Goals as goal

pub returns-in_err-once-clause-err : goal.returns-in_err-once-clause-err
returns-in_err-once-clause-err c = on_err c.from_residual.result c.build.ensures.stands

pub returns-in_err-step-clause-err : goal.returns-in_err-step-clause-err
returns-in_err-step-clause-err c =
    on_err c.from_residual-in_err-step.result (stands_then c.args.m.now c.build.new.m c.put.new.m c.build.ensures.stands c.in_err-step.ensures.err)

pub returns-clause-row : goal.returns-clause-row
returns-clause-row c = λ p behind g s.
    let m = c.args.m.now in
    let mid = c.build.new.m in
    let a : Tree = nth (builtins.arguments g) 0 in
    let r = argument_reads m.atoms (now m).0 p.state c.args.goal 0 c.arg-inside.result g s.reads c.arg-inside.ensures.live c.arg-inside.ensures.arg in
    let t : tree mid.atoms (terms mid) c.in_ok-once.once ≡ Compound (codes "once") (one a) =
    c.in_ok-once.ensures.built (codes "once") c.requires.sound.known.once
    ∙ ap (λ (x : Tree). with_arguments (codes "once") (x ∷ []))
    (argument_is m.atoms (now m).0 p.state c.args.goal 0 c.arg-inside.result g s.reads c.arg-inside.ensures.live c.arg-inside.ensures.arg) in
    c.in_ok-step.ensures.row p behind c.args.goal g (compound1 "once" a) (selected_on m mid c.args.goal c.args.height c.args.rest p behind g c.build.ensures.more s)
    (reads_over_one mid.atoms (now mid).0 p.state c.in_ok-once.once (codes "once") a c.in_ok-once.ensures.live t r.1)
