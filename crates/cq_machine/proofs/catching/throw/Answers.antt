use Rattle.std.proofs.Common.{◌≡◌, sym, ap, ◌∙◌, subst}
use Rattle.spec_syntax.specs.Trees.{Tree}
use Rattle.spec_branch.specs.Branch.{read}
use Rattle.spec_search.specs.Control.{throw_row}
use Rattle.cq_term.specs.Trees.{tree}
use Rattle.cq_branch.proofs.Arguments.{argument_reads}
use Rattle.cq_machine.specs.Machines.{terms, now}
use Rattle.cq_machine.proofs.Kept.{argument_is}
use Rattle.cq_machine.proofs.Thrown.{throws_variable, throws_other}
use Rattle.cq_machine.proofs.catching.throw.Goals as goal

pub returns-then-is_variable-clause-row : goal.returns-then-is_variable-clause-row
returns-then-is_variable-clause-row c = λ height rest p behind g s.
    let m = c.args.m.now in
    let a = argument_is m.atoms (now m).0 p.state c.args.goal 0 c.arg-ball.result g s.reads c.arg-ball.ensures.live c.arg-ball.ensures.arg in
    ap (throw_row p) (sym a) ∙ throws_variable p (tree m.atoms (terms m) c.arg-ball.result) (sym (c.is_variable.ensures m.atoms) ∙ c.if-is_variable.true)

pub returns-else-is_variable-clause-row : goal.returns-else-is_variable-clause-row
returns-else-is_variable-clause-row c = λ height rest p behind g s.
    let m = c.args.m.now in
    let a = argument_is m.atoms (now m).0 p.state c.args.goal 0 c.arg-ball.result g s.reads c.arg-ball.ensures.live c.arg-ball.ensures.arg in
    let r = argument_reads m.atoms (now m).0 p.state c.args.goal 0 c.arg-ball.result g s.reads c.arg-ball.ensures.live c.arg-ball.ensures.arg in
    record {
      is = ap (throw_row p) (sym a) ∙ throws_other p (tree m.atoms (terms m) c.arg-ball.result) (sym (c.is_variable.ensures m.atoms) ∙ c.if-is_variable.false);
      reads = subst (λ (t : Tree). read p.state t ≡ t) (sym a) r.1;
    }
