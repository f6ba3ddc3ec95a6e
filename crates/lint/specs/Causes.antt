-- What a run that breaks off says of counts.
use Rattle.std.specs.Prelude.{◌≡◌, ℕ, Ok, Err, Result, ⊤}
use Rattle.cq_outside.specs.Counts.{Rose}
use Rattle.lint.specs.declared.pages.Halt.{Halt}
use Rattle.lint.specs.declared.pages.Halt.TheVariants.{Absent, TooLarge, Read, Write, Memory}
use Rattle.lint.specs.declared.running.Ending.{Ending}
use Rattle.lint.specs.declared.running.Ending.TheVariants as ending

-- what a halt says of a shelf's counts of faults and refused files, before and after
abbrev pub IsDue : ℕ → ℕ → ℕ → ℕ → Halt → Type 0
IsDue faults refused now_faults now_refused (Absent name) = Rose refused now_refused
IsDue faults refused now_faults now_refused (TooLarge name) = Rose refused now_refused
IsDue faults refused now_faults now_refused Read = Rose faults now_faults
IsDue faults refused now_faults now_refused Write = ⊥
IsDue faults refused now_faults now_refused Memory = ⊤

-- where nothing breaks off, the counts stay
abbrev pub CountedBy : {T : Type 0} → ℕ → ℕ → ℕ → ℕ → Result T Halt → Type 0
CountedBy faults refused now_faults now_refused (Ok value) = (now_faults ≡ faults) × (now_refused ≡ refused)
CountedBy faults refused now_faults now_refused (Err halt) = IsDue faults refused now_faults now_refused halt

-- the same of a run, and of the faults of `out`
abbrev pub RunDue : ℕ → ℕ → ℕ → ℕ → ℕ → ℕ → Halt → Type 0
RunDue faults refused out now_faults now_refused now_out Write = Rose out now_out
RunDue faults refused out now_faults now_refused now_out halt = IsDue faults refused now_faults now_refused halt

-- where a run breaks off, this holds of why
abbrev pub IfBroken : (Halt → Type 0) → Ending → Type 0
IfBroken P (ending.Broken halt) = P halt
IfBroken P e = ⊤
