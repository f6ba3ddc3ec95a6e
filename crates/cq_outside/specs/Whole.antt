-- What reading a source to its end does.
use Rattle.std.specs.Prelude.{◌≡◌, ℕ, List, length, Ok, Err, Vec, Option, Result}
use Rattle.std.specs.Io.KnownBytes.{Consumes}
use Rattle.std.specs.declared.alloc.Global.{Global}
use Rattle.cq_outside.specs.Counts.{Counts, Rose}
use Rattle.cq_outside.specs.declared.whole.ReadFault.{ReadFault}
use Rattle.cq_outside.specs.declared.whole.ReadFault.TheVariants.{TooLarge, Failed, NoMemory}

-- these bytes, and no others, were taken and counted
pub record TakesBytes (left now_left : Option (List ℕ)) (taken now_taken : ℕ) (bytes : List ℕ) : Type 0 where
  pub consumed : Consumes left now_left bytes
  pub counted : Counts (length bytes) taken now_taken

-- a read failed only where the count of faults rose, which else stays
abbrev pub CountsFault : ℕ → ℕ → Result (Vec ℕ Global) ReadFault → Type 0
CountsFault before now (Ok bytes) = now ≡ before
CountsFault before now (Err TooLarge) = now ≡ before
CountsFault before now (Err Failed) = Rose before now
CountsFault before now (Err NoMemory) = now ≡ before
