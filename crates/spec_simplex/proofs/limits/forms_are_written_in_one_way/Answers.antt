use Rattle.std.proofs.Common.{inr}
use Rattle.spec_simplex.proofs.LimitsWritten.{some_way, one_way, asked_mentions}
use Rattle.spec_simplex.proofs.limits.forms_are_written_in_one_way.Goals as goal

pub returns : goal.returns
returns c = record {
  some_way = some_way;
  asked_form = λ l asked zeros columns d f h. some_way l asked zeros columns d f (λ x m. inr (asked_mentions f asked x h m));
  one_way = one_way;
}
