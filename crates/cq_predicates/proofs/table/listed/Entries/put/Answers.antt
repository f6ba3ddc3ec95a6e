use Rattle.std.proofs.Common.{◌<◌, ap, ◌∙◌, length, List, Option, None, arith}
use Rattle.std.specs.Prelude.{slice_index_or}
use Rattle.cq_predicates.specs.declared.table.builtins.Builtin.{Builtin}
use Rattle.cq_predicates.proofs.Entries.{pushed_none, put_at}
use Rattle.cq_predicates.proofs.table.listed.Entries.put.Goals as goal

pub loop-self-preserved : goal.loop-self-preserved
loop-self-preserved c = λ k.
    ap (λ (xs : List (Option Builtin)). slice_index_or xs k None) c.in_ok-push.ensures.items ∙ pushed_none c.loop-self.self.builtins.items k ∙ c.loop-self.invariant k

pub returns : goal.returns
returns c =
    let wide = c.loop-self.self.builtins in
    let within : c.args.number < length wide.items = omega (arith, c.loop-self-test.false, c.len.ensures, wide.ok.0) in
    put_at c.args.self.now.builtins.items wide.items c.args.number c.args.builtin within c.loop-self.invariant
