use Rattle.cq_catch.proofs.Showing.{showing_same, showing_then, showing_kept, showing_more}
use Rattle.cq_catch.proofs.revise.laws.walks_outlast_changes.Goals as goal

pub returns : goal.returns
returns c = record {
  same = showing_same;
  added = λ end kind pred content old new adds reading known. showing_more old new reading content adds.contents known c.calls_read_the_database.ensures.later;
  removed = λ n old new removes reading. showing_kept old new reading removes.contents;
  declared = λ pred old new declares reading. showing_kept old new reading declares.contents;
  all_declared = λ preds old new declares reading. showing_kept old new reading declares.contents;
  further = showing_then;
}
