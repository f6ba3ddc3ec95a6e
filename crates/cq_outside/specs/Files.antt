-- What a shelf gives, where it tells its files, and what its counts do.
use Rattle.std.specs.Prelude.{◌≡◌, ◌≢◌, ℕ, ◌≤◌, ◌<◌, List, length, ⊤, Some, None, Ok, Err, Vec, Option, Result}
use Rattle.std.specs.declared.alloc.Global.{Global}
use Rattle.cq_outside.specs.Counts.{Rose}
use Rattle.cq_outside.specs.declared.shelf.TheConstants.{SIZE_LIMIT}
use Rattle.cq_outside.specs.declared.shelf.ShelfFault.{ShelfFault}
use Rattle.cq_outside.specs.declared.shelf.ShelfFault.TheVariants.{Absent, TooLarge, Failed, NoMemory}

-- the bytes of each file by its name
abbrev pub Files : Type 0
Files = List ℕ → Option (List ℕ)

-- there is no file
abbrev pub IsBare : Files → Type 0
IsBare files = (name : List ℕ) → files name ≡ None

-- the file of this name has these bytes now, and each other name has the file that it had
pub record Puts (files now : Files) (name bytes : List ℕ) : Type 0 where
  pub there : now name ≡ Some bytes
  pub others : (other : List ℕ) → other ≢ name → now other ≡ files other

-- the file is one of more bytes than a file may have
abbrev pub IsTooLarge : Option (List ℕ) → Type 0
IsTooLarge None = ⊥
IsTooLarge (Some bytes) = SIZE_LIMIT < length bytes

-- Ok gives the file's bytes; Absent where there is no such file, TooLarge where it has too many bytes
abbrev pub Loads : Option Files → List ℕ → Result (Vec ℕ Global) ShelfFault → Type 0
Loads None name result = ⊤
Loads (Some files) name (Ok bytes) = (files name ≡ Some bytes.items) × (length bytes.items ≤ SIZE_LIMIT)
Loads (Some files) name (Err Absent) = files name ≡ None
Loads (Some files) name (Err TooLarge) = IsTooLarge (files name)
Loads (Some files) name (Err Failed) = ⊤
Loads (Some files) name (Err NoMemory) = ⊤

-- a load failed only where the count of faults rose, which else stays
abbrev pub CountsFault : ℕ → ℕ → Result (Vec ℕ Global) ShelfFault → Type 0
CountsFault before now (Ok bytes) = now ≡ before
CountsFault before now (Err Absent) = now ≡ before
CountsFault before now (Err TooLarge) = now ≡ before
CountsFault before now (Err Failed) = Rose before now
CountsFault before now (Err NoMemory) = now ≡ before

-- a file was refused only where the count of refused files rose, which else stays
abbrev pub CountsRefusal : ℕ → ℕ → Result (Vec ℕ Global) ShelfFault → Type 0
CountsRefusal before now (Ok bytes) = now ≡ before
CountsRefusal before now (Err Absent) = Rose before now
CountsRefusal before now (Err TooLarge) = Rose before now
CountsRefusal before now (Err Failed) = now ≡ before
CountsRefusal before now (Err NoMemory) = now ≡ before
