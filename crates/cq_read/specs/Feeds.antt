-- What a feed answers.
use Rattle.std.specs.Prelude.{◌≡◌, ℕ, Bool, true, false, nat_lt, List, length, Result, Ok, Err, ◌⊎◌, ⊤}
use Rattle.std.specs.declared.alloc.AllocError.{AllocError}
use Rattle.spec_numbers.specs.Texts.{Text}
use Rattle.spec_syntax.specs.Operators.{Ops}
use Rattle.spec_text.specs.Decided.{Decided}
use Rattle.cq_term.specs.HeapValue.{HeapValue, Terms}
use Rattle.cq_read.specs.declared.reading.Read.{Read}
use Rattle.cq_read.specs.declared.reading.Read.TheVariants as read
use Rattle.cq_read.specs.declared.feed.Fed.{Fed}
use Rattle.cq_read.specs.declared.feed.Fed.TheVariants as fed
use Rattle.cq_read.specs.Growth.{IsAsBefore}
use Rattle.cq_read.specs.Inputs.{Input}
use Rattle.cq_read.specs.Shown.{read_of, IsReadOf, IsForward, IsLiveRead, Leaves}

-- where reading goes on behind what was read at a place
abbrev pub place_after : ℕ → Read → ℕ
place_after at (read.Clause term names next) = next
place_after at read.End = at
place_after at (read.Syntax error resume) = resume

-- reading goes on before the end of a text of so many bytes
abbrev pub goes_on_before : Read → ℕ → Bool
goes_on_before (read.Clause term names next) n = nat_lt next n
goes_on_before read.End n = false
goes_on_before (read.Syntax error resume) n = nat_lt resume n

-- What stands at the input's place, where no more bytes come or those so far decide it; more are needed where neither is so.
abbrev pub IsFed : Ops → List Text → Input → Terms → Terms → Fed → Type 0
IsFed ops texts input old new (fed.Read r) =
    ((input.finished ≡ true) ⊎ Decided ops input.bytes input.place) × IsReadOf ops input.bytes input.place (length old.images) (read_of texts new r)
IsFed ops texts input old new fed.Needs = (input.finished ≡ false) × (Decided ops input.bytes input.place → ⊥)

-- the place behind what was read at a place, which is the same one where nothing was
abbrev pub place_behind : ℕ → Result Fed AllocError → ℕ
place_behind at (Ok (fed.Read r)) = place_after at r
place_behind at r = at

-- reading goes on past a clause or an error, within so many bytes
abbrev pub GoesOn : ℕ → ℕ → Fed → Type 0
GoesOn len at (fed.Read r) = IsForward len at r
GoesOn len at fed.Needs = ⊤

-- a clause that was read lives on the heap
abbrev pub IsLiveFed : Terms → Fed → Type 0
IsLiveFed heap (fed.Read r) = IsLiveRead heap r
IsLiveFed heap fed.Needs = ⊤

-- the heap has a clause's terms and variables in addition, and none where no clause is read
abbrev pub LeavesFed : HeapValue → HeapValue → Result Fed AllocError → Type 0
LeavesFed old new (Ok (fed.Read r)) = Leaves old new (Ok r)
LeavesFed old new r = IsAsBefore old new
