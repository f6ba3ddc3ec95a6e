use Rattle.cq_machine.proofs.Errors.{row_replies, error_replies}
use Rattle.cq_machine.proofs.offer.laws.rows_are_replies.Goals as goal

pub returns : goal.returns
returns c = record {
  replies = λ b q found no p ts. row_replies p ts b q found no;
  errors = λ b q found p ts e h. error_replies p ts b q e found h;
}
