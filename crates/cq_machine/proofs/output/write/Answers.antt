use Rattle.std.proofs.Common.{[], sym, ap, ◌∙◌}
use Rattle.spec_builtins.specs.Terms as builtins
use Rattle.spec_search.specs.Database.{Database}
use Rattle.spec_search.specs.Replies.{outputs}
use Rattle.spec_search.specs.Rows.{nth}
use Rattle.spec_syntax.specs.Trees.{Tree}
use Rattle.spec_text.specs.Written.{text_within}
use Rattle.cq_write.specs.Meaning.{operators}
use Rattle.cq_machine.specs.Machines.{now}
use Rattle.cq_machine.proofs.Kept.{argument_is}
use Rattle.cq_machine.proofs.output.write.Goals as goal

pub returns : goal.returns
returns c = record {
  row = λ height rest p behind g s.
      let m = c.args.m.now in
      ap (λ (d : Database). outputs p (text_within c.args.style d.operators [] 1200 (nth (builtins.arguments g) 0))) s.database
      ∙ ap (λ (t : Tree). outputs p (text_within c.args.style (operators m.atoms m.ops) [] 1200 t))
      (sym (argument_is m.atoms (now m).0 p.state c.args.goal 0 c.arg-term.result g s.reads c.arg-term.ensures.live c.arg-term.ensures.arg))
      ∙ ap (outputs p) (sym c.in_ok-text.ensures);
}
