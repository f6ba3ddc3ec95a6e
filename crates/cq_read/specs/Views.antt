-- What the machine's tokens, frames and state mean, by the texts of the names and the terms of the heap.
use Rattle.std.specs.Prelude.{◌≡◌, ℕ, ◌<◌, ◌≤◌, List, Option, Some, None, Result, IfOk, map, reverse, All, ⊤}
use Rattle.std.specs.declared.alloc.AllocError.{AllocError}
use Rattle.std.specs.String.{string_bytes}
use Rattle.spec_numbers.specs.Texts.{Text}
use Rattle.spec_numbers.specs.Prefixes.{IsPrefix}
use Rattle.cq_term.specs.Texts.{text_of}
use Rattle.cq_term.specs.Meaning.{HeapTerm}
use Rattle.cq_term.specs.Trees.{tree}
use Rattle.cq_term.specs.HeapValue.{HeapValue}
use Rattle.cq_term.specs.Shown.{IsUnbound}
use Rattle.spec_syntax.specs.Operators.{Ops}
use Rattle.spec_syntax.specs.Trees.{Tree}
use Rattle.spec_syntax.specs.Tokens as grammar
use Rattle.spec_syntax.specs.Grammar.{Use, AsInfix, AsPostfix, Outside, use_of}
use Rattle.spec_syntax.specs.Machine as machine
use Rattle.cq_read.specs.declared.parse.tokens.Token.{Token}
use Rattle.cq_read.specs.declared.parse.tokens.Token.TheVariants as token
use Rattle.cq_read.specs.declared.parse.frames.Frame.{Frame}
use Rattle.cq_read.specs.declared.parse.frames.Frame.TheVariants as frame
use Rattle.cq_read.specs.declared.parse.frames.State.{State}
use Rattle.cq_read.specs.declared.parse.frames.State.TheVariants as state
use Rattle.cq_read.specs.declared.parse.operators.UseThere.{UseThere}
use Rattle.cq_read.specs.declared.parse.operators.UseThere.TheVariants as use_there
use Rattle.cq_read.specs.declared.parse.folding.Folded.{Folded}
use Rattle.cq_read.specs.declared.parse.folding.Folded.TheVariants as folded

-- The heap got new terms, and no more: older terms and the variables stand as they did, and its marks with their room too.
pub record OnlyGrows (old new : HeapValue) : Type 0 where
  pub terms : IsPrefix old.now.terms new.now.terms
  pub images : new.now.images ≡ old.now.images
  pub saved : new.saved ≡ old.saved
  pub room : old.room ≤ new.room

-- the trees of terms that were read one after another, last first
abbrev pub trees : List Text → List HeapTerm → List ℕ → List Tree
trees texts ts ids = reverse (map (tree texts ts) ids)

abbrev pub token_of : List Text → Token → grammar.Token
token_of texts (token.Variable v) = grammar.Variable v.0
token_of texts (token.Numeral q) = grammar.Numeral q
token_of texts (token.Codes text) = grammar.Codes (string_bytes text)
token_of texts (token.Named f quoted) = grammar.Named (text_of texts f) quoted
token_of texts (token.Functor f) = grammar.Functor (text_of texts f)
token_of texts token.Minus = grammar.Minus
token_of texts token.Open = grammar.Open
token_of texts token.Close = grammar.Close
token_of texts token.OpenList = grammar.OpenList
token_of texts token.CloseList = grammar.CloseList
token_of texts token.OpenCurly = grammar.OpenCurly
token_of texts token.CloseCurly = grammar.CloseCurly
token_of texts token.Comma = grammar.Comma
token_of texts token.Bar = grammar.Bar
token_of texts token.End = grammar.End

abbrev pub frame_of : List Text → List HeapTerm → Frame → machine.Frame
frame_of texts ts (frame.RightOf f left op most) = machine.RightOf (text_of texts f) (tree texts ts left) op most
frame_of texts ts (frame.OperandOf f op most) = machine.OperandOf (text_of texts f) op most
frame_of texts ts (frame.InGroup most) = machine.InGroup most
frame_of texts ts (frame.InCurly most) = machine.InCurly most
frame_of texts ts (frame.InArguments f before most) = machine.InArguments (text_of texts f) (trees texts ts before.items) most
frame_of texts ts (frame.InElements before most) = machine.InElements (trees texts ts before.items) most
frame_of texts ts (frame.InTail before most) = machine.InTail (trees texts ts before.items) most

-- the frames, the innermost first
abbrev pub frames_of : List Text → List HeapTerm → List Frame → List machine.Frame
frames_of texts ts frames = reverse (map (frame_of texts ts) frames)

abbrev pub state_of : List Text → List HeapTerm → List machine.Frame → State → machine.State
state_of texts ts k (state.BeforeTerm most) = machine.BeforeTerm most k
state_of texts ts k (state.AfterOperand most priority operand) = machine.AfterOperand most priority (tree texts ts operand) k
state_of texts ts k (state.AfterName f most) = machine.AfterName (text_of texts f) most k
state_of texts ts k (state.AfterFunctor f most) = machine.AfterFunctor (text_of texts f) most k
state_of texts ts k (state.AfterMinus most) = machine.AfterMinus most k
state_of texts ts k (state.AfterOpenList most) = machine.AfterOpenList most k
state_of texts ts k (state.AfterOpenCurly most) = machine.AfterOpenCurly most k
state_of texts ts k (state.Whole term) = machine.Whole (tree texts ts term)

abbrev pub state_or_none : List Text → List HeapTerm → List Frame → Option State → Option machine.State
state_or_none texts ts frames None = None
state_or_none texts ts frames (Some s) = Some (state_of texts ts (frames_of texts ts frames) s)

-- a step leads to this state of the definition's machine, or its token is refused as there
abbrev pub LeadsTo : List Text → List HeapTerm → List Frame → Result (Option State) AllocError → Option machine.State → Type 0
LeadsTo texts ts frames r s = IfOk r (λ next. state_or_none texts ts frames next ≡ s)

abbrev pub use_by_text : List Text → UseThere → Use
use_by_text texts (use_there.Infix f op) = AsInfix (text_of texts f) op
use_by_text texts (use_there.Postfix f op) = AsPostfix (text_of texts f) op
use_by_text texts use_there.Outside = Outside

-- ---- what lives on a heap

abbrev pub IsLiveFrame : ℕ → Frame → Type 0
IsLiveFrame n (frame.RightOf f left op most) = left < n
IsLiveFrame n (frame.OperandOf f op most) = ⊤
IsLiveFrame n (frame.InGroup most) = ⊤
IsLiveFrame n (frame.InCurly most) = ⊤
IsLiveFrame n (frame.InArguments f before most) = All (λ id. id < n) before.items
IsLiveFrame n (frame.InElements before most) = All (λ id. id < n) before.items
IsLiveFrame n (frame.InTail before most) = All (λ id. id < n) before.items

abbrev pub AreLive : ℕ → List Frame → Type 0
AreLive n frames = All (IsLiveFrame n) frames

abbrev pub IsLiveState : ℕ → State → Type 0
IsLiveState n (state.AfterOperand most priority operand) = operand < n
IsLiveState n (state.Whole term) = term < n
IsLiveState n s = ⊤

abbrev pub IsLiveOrNone : ℕ → Option State → Type 0
IsLiveOrNone n None = ⊤
IsLiveOrNone n (Some s) = IsLiveState n s

-- ---- an operand that is put into its frame

-- what becomes of it is what the machine does where the term ends
abbrev pub Folds : Ops → List Text → List HeapTerm → List Frame → grammar.Token → Option machine.State → Folded → Type 0
Folds ops texts ts frames tok s (folded.Operand most priority operand) = machine.after_operand ops (frames_of texts ts frames) most (tree texts ts operand) tok (use_of ops most priority tok) ≡ s
Folds ops texts ts frames tok s (folded.Done next) = state_or_none texts ts frames next ≡ s

abbrev pub IsLiveFolded : ℕ → Folded → Type 0
IsLiveFolded n (folded.Operand most priority operand) = operand < n
IsLiveFolded n (folded.Done next) = IsLiveOrNone n next

-- while an operand is put into frames there are no more of them
abbrev pub NoMoreFrames : ℕ → ℕ → Folded → Type 0
NoMoreFrames before after (folded.Operand most priority operand) = after ≤ before
NoMoreFrames before after (folded.Done next) = ⊤

-- ---- tokens

-- a variable is one of the heap that is unbound
abbrev pub IsLiveToken : List HeapTerm → Token → Type 0
IsLiveToken images (token.Variable v) = IsUnbound images v.0
IsLiveToken images t = ⊤
