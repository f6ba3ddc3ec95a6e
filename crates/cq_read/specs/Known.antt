-- Which names a table of texts knows.
use Rattle.std.specs.Prelude.{◌≡◌, ℕ, List, All, Option, Some, None, codes, slice_get, ⊤}
use Rattle.spec_numbers.specs.Texts.{Text}
use Rattle.cq_term.specs.Texts.{AreDifferent, text_of}
use Rattle.cq_term.specs.Meaning.{HeapTerm}
use Rattle.cq_term.specs.Trees.{KnowsTerms}
use Rattle.cq_read.specs.declared.parse.tokens.Token.{Token}
use Rattle.cq_read.specs.declared.parse.tokens.Token.TheVariants as token
use Rattle.cq_read.specs.declared.parse.frames.Frame.{Frame}
use Rattle.cq_read.specs.declared.parse.frames.Frame.TheVariants as frame
use Rattle.cq_read.specs.declared.parse.frames.State.{State}
use Rattle.cq_read.specs.declared.parse.frames.State.TheVariants as state
use Rattle.cq_read.specs.declared.parse.folding.Folded.{Folded}
use Rattle.cq_read.specs.declared.parse.folding.Folded.TheVariants as folded
use Rattle.cq_read.specs.declared.parse.operators.UseThere.{UseThere}
use Rattle.cq_read.specs.declared.parse.operators.UseThere.TheVariants as use_there
use Rattle.cq_read.specs.declared.parse.names.GrammarNames.{GrammarNames}

-- the number has a text
abbrev pub IsKnown : List Text → ℕ → Type 0
IsKnown texts name = slice_get texts name ≡ Some (text_of texts name)

-- the names that the grammar itself speaks of
pub record AreGrammarNames (texts : List Text) (names : GrammarNames) : Type 0 where
  pub minus : slice_get texts names.minus ≡ Some (codes "-")
  pub comma : slice_get texts names.comma ≡ Some (codes ",")
  pub nil : slice_get texts names.nil ≡ Some (codes "[]")
  pub curly : slice_get texts names.curly ≡ Some (codes "{}")
  pub dot : slice_get texts names.dot ≡ Some (codes ".")

-- the name of a token, if it has one, is known
abbrev pub KnowsToken : List Text → Token → Type 0
KnowsToken texts (token.Named f quoted) = IsKnown texts f
KnowsToken texts (token.Functor f) = IsKnown texts f
KnowsToken texts tok = ⊤

abbrev pub KnowsState : List Text → State → Type 0
KnowsState texts (state.AfterName f most) = IsKnown texts f
KnowsState texts (state.AfterFunctor f most) = IsKnown texts f
KnowsState texts s = ⊤

abbrev pub KnowsOrNone : List Text → Option State → Type 0
KnowsOrNone texts None = ⊤
KnowsOrNone texts (Some s) = KnowsState texts s

abbrev pub KnowsFolded : List Text → Folded → Type 0
KnowsFolded texts (folded.Operand most priority operand) = ⊤
KnowsFolded texts (folded.Done next) = KnowsOrNone texts next

abbrev pub KnowsUse : List Text → UseThere → Type 0
KnowsUse texts (use_there.Infix f op) = IsKnown texts f
KnowsUse texts (use_there.Postfix f op) = IsKnown texts f
KnowsUse texts use_there.Outside = ⊤

-- the name of a frame, if it has one, is known
abbrev pub KnowsFrame : List Text → Frame → Type 0
KnowsFrame texts (frame.RightOf f left op most) = IsKnown texts f
KnowsFrame texts (frame.OperandOf f op most) = IsKnown texts f
KnowsFrame texts (frame.InArguments f before most) = IsKnown texts f
KnowsFrame texts k = ⊤

-- the names of terms and of frames are known
pub record KnowsNames (texts : List Text) (ts : List HeapTerm) (stack : List Frame) : Type 0 where
  pub terms : KnowsTerms texts ts
  pub frames : All (KnowsFrame texts) stack

-- the texts differ, and have the names that a step looks at
pub record Knows (texts : List Text) (names : GrammarNames) (tok : Token) : Type 0 where
  pub different : AreDifferent texts
  pub grammar : AreGrammarNames texts names
  pub token : KnowsToken texts tok
