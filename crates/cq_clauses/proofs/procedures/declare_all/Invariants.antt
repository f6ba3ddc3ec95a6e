use Rattle.std.proofs.Common.{◌≡◌, ◌+◌, ◌<◌, ◌≤◌, All, length, map, drop}
use Rattle.std.specs.Vec.{vec_len, vec_capacity}
use Rattle.cq_clauses.specs.Procedures.{pred_of, with_all_dynamic}
use Rattle.cq_clauses.proofs.procedures.declare_all.Given as goal

abbrev pub invariant-loop-pred : goal.invariant-loop-pred
invariant-loop-pred l = record {
  keys : l.numbers.preds ≡ map pred_of l.procedures.items;
  memory : length l.preds ≤ l.numbers.room + l.pred-index;
  names : All (λ p. p.name < l.numbers.names) l.preds;
  room : vec_len l.procedures + length l.preds ≤ vec_capacity l.procedures + l.pred-index;
  declared : with_all_dynamic (drop l.pred-index l.preds) l.procedures.items ≡ with_all_dynamic l.preds l.fn.procedures.items;
}
