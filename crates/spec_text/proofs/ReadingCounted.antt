-- What the machine reads with variables counted on from a number stands there, but for the numbers.
use Rattle.std.proofs.Common.{◌≡◌, ℕ, ◌≤◌, List, length, inl, inr}
use Rattle.spec_syntax.specs.Operators.{Ops}
use Rattle.spec_syntax.specs.Machine.{start}
use Rattle.spec_text.specs.Readings.{Read, Reads}
use Rattle.spec_text.specs.Runs.{ReadsOn, IsBefore}
use Rattle.spec_text.specs.Later.{variables_from, read_later}
use Rattle.spec_text.proofs.Once.{reads_once}
use Rattle.spec_text.proofs.ByMachine.{by_machine}
use Rattle.spec_text.proofs.Onward.{some_reading}
use Rattle.spec_text.proofs.Later.{counted_on}

pub counted_back : (ops : Ops) (text : List ℕ) (at n : ℕ) (r : Read) → at ≤ length text → IsBefore text at → ReadsOn ops text start at (variables_from n) r → (q : Read) × Reads ops text at q × (r ≡ read_later n q)
counted_back ops text at n r fits before reads =
    let (q, stands) = some_reading ops text at fits in
    elim (by_machine ops text at q stands) [
      | inl (t, found, k, same) ↦ absurd (before t found k)
      | inr (again, others) ↦ (q, stands, reads_once ops text start at (variables_from n) r (read_later n q) reads (counted_on n ops text at q others))
    ]
