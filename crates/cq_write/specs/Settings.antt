-- What a writer writes, and how.
use Rattle.std.specs.Prelude.{ℕ, nat_eq}
use Rattle.indexmap.specs.IndexMap.{get}
use Rattle.spec_numbers.specs.Texts.{Text}
use Rattle.spec_text.specs.Written.{shown}
use Rattle.cq_write.specs.Meaning.{operators}
use Rattle.cq_write.specs.Naming.{AreFound}
use Rattle.cq_write.specs.Work.{Setting}
use Rattle.cq_write.specs.declared.writer.Writer.{Writer}
use Rattle.cq_write.specs.declared.variables.Names.{Names}

abbrev pub shown_by : Names → ℕ → Text
shown_by n v = shown n.names.now n.unnamed.keys v

abbrev pub setting : Writer → Setting
setting w = record {
  style = w.style;
  name = shown_by w.names;
  ops = operators w.atoms.now w.ops.now;
  texts = w.atoms.now;
  terms = w.heap.now.now.terms;
}

-- the names are found by their places
pub record IsIndexed (n : Names) : Type 0 where
  pub given : AreFound n.names.now (get nat_eq n.given)
