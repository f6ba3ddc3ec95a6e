use Rattle.std.proofs.Common.{arith}
use Rattle.std.proofs.lemmas.Map.Text.{text_keys}
use Rattle.cq_outside.proofs.memory_shelf.SteadyShelf.add.Goals as goal

pub returns-clause-ok : goal.returns-clause-ok
returns-clause-ok c = record {
  there = grind (arith, text_keys);
  others = λ other h. grind (arith, text_keys);
}
