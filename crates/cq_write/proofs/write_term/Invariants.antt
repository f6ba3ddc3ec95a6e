use Rattle.std.proofs.Common.{◌≡◌, reverse}
use Rattle.spec_text.specs.Written.{text_by}
use Rattle.cq_write.specs.Spelled.{written, put_all}
use Rattle.cq_write.specs.Work.{AreReady, all_pieces, jobs_weight, tree}
use Rattle.cq_write.specs.Settings.{setting}
use Rattle.cq_write.proofs.write_term.Given as goal

abbrev pub invariant-loop-job : goal.invariant-loop-job
invariant-loop-job l = record {
  ready : AreReady (setting l.writer) (reverse l.jobs.items);
  text : (put_all (written l.line) (all_pieces (setting l.writer) (reverse l.jobs.items))).text
      ≡ text_by (setting l.writer).style (setting l.writer).ops (setting l.writer).name l.fn.priority (tree (setting l.writer) l.fn.term);
}

abbrev pub decreases-loop-job : goal.decreases-loop-job
decreases-loop-job l = jobs_weight (setting l.writer) (reverse l.jobs.items)
