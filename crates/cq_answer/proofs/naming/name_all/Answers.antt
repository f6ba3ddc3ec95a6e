use Rattle.std.proofs.Common.{◌≡◌, ◌<◌, ◌≤◌, ℕ, List, length, get_or, ap, arith, length-append, ◌∷◌, []}
use Rattle.std.proofs.lemmas.List.{get_or_default}
use Rattle.spec_terms.specs.VariableName.{VariableName}
use Rattle.cq_frac.specs.declared.VarId.{VarId}
use Rattle.cq_answer.proofs.Counting.{counted_more, one_longer}
use Rattle.cq_answer.proofs.naming.name_all.Goals as goal

pub variables-preserved : goal.variables-preserved
variables-preserved c =
    let xs = c.args.variables.now in
    let i = c.variables.variable-index in
    let d : VarId = record { 0 = 0 } in
    let x = get_or xs i d in
    let here : i < length xs = c.variables-test.true in
    record {
      longer = one_longer c.args.from c.variables.names.items c.name_next.new.names.items _ c.variables.invariant.longer c.in_ok-name_next.ensures;
      named = λ first us a.
          counted_more first us c.args.from xs i x c.variables.names.items c.name_next.new.names.items here (get_or_default xs i d x here) (c.variables.invariant.named first us a) c.in_ok-name_next.ensures;
    }
