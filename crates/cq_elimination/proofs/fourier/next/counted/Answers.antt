use Rattle.std.proofs.Common.{◌<◌, ◌≤◌, length, arith, sym, subst, ◌∙◌}
use Rattle.cq_frac.specs.declared.VarId.{VarId}
use Rattle.cq_elimination.proofs.Counting.{Counted, counted_more, variable_stays, counts_all}
use Rattle.cq_elimination.proofs.fourier.next.counted.Goals as goal

pub rows-preserved : goal.rows-preserved
rows-preserved c =
    let within : c.rows.row-index < length c.args.rows.now = omega arith in
    record {
      variable = variable_stays c.side_of.result c.rows.own c.count.new.self c.count.ensures ∙ c.rows.invariant.variable;
      counted = counted_more c.args.variable.0 c.args.rows.now c.rows.row-index c.row-item.result within c.row-item.is c.side_of.result c.rows.own c.count.new.self
          c.side_of.ensures c.count.ensures c.rows.invariant.counted;
    }

pub returns-clause-counts : goal.returns-clause-counts
returns-clause-counts c =
    let whole : length c.args.rows.now ≤ c.rows.row-index = omega arith in
    counts_all c.args.rows.now c.rows.own c.rows.row-index whole
    (subst (λ (v : VarId). Counted v.0 c.args.rows.now c.rows.row-index c.rows.own.lower c.rows.own.upper c.rows.own.others) (sym c.rows.invariant.variable) c.rows.invariant.counted)
