-- What a reading is by the terms of a heap and the texts of the names.
use Rattle.std.specs.Prelude.{◌≡◌, ℕ, ◌<◌, ◌≤◌, List, length, Bool, true, false, Result, Ok, ◌⊎◌, ⊤}
use Rattle.std.specs.declared.alloc.AllocError.{AllocError}
use Rattle.spec_numbers.specs.Texts.{Text}
use Rattle.spec_syntax.specs.Operators.{Ops}
use Rattle.spec_syntax.specs.declared.grammar.Kind.TheVariants as kind
use Rattle.spec_syntax.specs.GrammarTokens as lexical
use Rattle.spec_syntax.specs.GrammarTokens.{next_token}
use Rattle.spec_syntax.specs.Machine.{start}
use Rattle.spec_text.specs.Readings as readings
use Rattle.spec_text.specs.Readings.{Reads}
use Rattle.spec_text.specs.Runs.{ReadsOn, IsBefore}
use Rattle.spec_text.specs.Later.{read_later, variables_from}
use Rattle.cq_term.specs.HeapValue.{HeapValue, Terms}
use Rattle.cq_term.specs.Trees.{tree}
use Rattle.cq_read.specs.declared.reading.Read.{Read}
use Rattle.cq_read.specs.declared.reading.Read.TheVariants as read
use Rattle.cq_read.specs.Growth.{Grows, IsAsBefore}
use Rattle.cq_read.specs.Names.{variables, AreUnbound}

-- the reading, where the variables of a clause are those that the heap has got
abbrev pub read_of : List Text → Terms → Read → readings.Read
read_of texts heap (read.Clause term names next) = readings.Clause (tree texts heap.terms term) (variables names.items heap.images) next
read_of texts heap read.End = readings.Ended
read_of texts heap (read.Syntax error resume) = readings.Syntax error resume

-- a clause was read
abbrev pub is_clause : Read → Bool
is_clause (read.Clause term names next) = true
is_clause r = false

-- This is what stands at a place of the text, where the variables of a clause are counted on from a number.
abbrev pub IsReadOf : Ops → List ℕ → ℕ → ℕ → readings.Read → Type 0
IsReadOf ops text at n r = (q : readings.Read) × Reads ops text at q × (r ≡ read_later n q)

-- the machine reads this, with variables counted on from a number
abbrev pub MachineRead : Ops → List ℕ → ℕ → ℕ → readings.Read → Type 0
MachineRead ops text at n r =
    ((t : lexical.Token) × (next_token text at ≡ Ok t) × (t.kind ≡ kind.Eof) × (r ≡ readings.Ended))
    ⊎ (IsBefore text at × ReadsOn ops text start at (variables_from n) r)

-- reading goes on past a clause or an error at a place, within so many bytes
abbrev pub IsForward : ℕ → ℕ → Read → Type 0
IsForward len at (read.Clause term names next) = (at < next) × (next ≤ len)
IsForward len at read.End = ⊤
IsForward len at (read.Syntax error resume) = (at ≤ error) × (error ≤ resume) × (at < resume) × (resume ≤ len)

-- a clause's term is one of the heap, and its named variables are unbound
abbrev pub IsLiveRead : Terms → Read → Type 0
IsLiveRead heap (read.Clause term names next) = (term < length heap.terms) × AreUnbound heap.images names.items
IsLiveRead heap r = ⊤

-- The heap has a clause's terms and variables in addition, and none where there is no clause.
abbrev pub Leaves : HeapValue → HeapValue → Result Read AllocError → Type 0
Leaves old new (Ok (read.Clause term names next)) = Grows old new
Leaves old new r = IsAsBefore old new
