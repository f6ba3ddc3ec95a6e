-- A clause that is being read, and a token more of it.
use Rattle.std.specs.Prelude.{◌≡◌, ℕ, List, length, Bool, true, false, Option, Some, None}
use Rattle.spec_numbers.specs.Texts.{Text}
use Rattle.spec_syntax.specs.GrammarTokens as lexical
use Rattle.spec_syntax.specs.Tokens as grammar
use Rattle.spec_syntax.specs.TextTokens.{Variables, seen, variables_after}
use Rattle.spec_syntax.specs.Machine as machine
use Rattle.cq_term.specs.Texts.{KeepsTexts, AreDifferent}
use Rattle.cq_ops.specs.Tables.{Tables, named}
use Rattle.cq_term.specs.HeapValue.{Terms}
use Rattle.cq_read.specs.declared.parse.frames.State.{State}
use Rattle.cq_read.specs.declared.parse.frames.State.TheVariants as stand
use Rattle.cq_read.specs.declared.parse.names.GrammarNames.{GrammarNames}
use Rattle.cq_read.specs.Known.{AreGrammarNames, KnowsState, KnowsNames}
use Rattle.cq_read.specs.Views.{state_of, frames_of, AreLive, IsLiveState}
use Rattle.cq_read.specs.declared.clause.Clause.{Clause}
use Rattle.cq_read.specs.Names.{variables, AreUnbound}

-- the machine's state
abbrev pub state : List Text → Terms → Clause → machine.State
state texts heap clause = state_of texts heap.terms (frames_of texts heap.terms clause.frames.items) clause.state

-- the term of a whole clause
abbrev pub whole_term : State → Option ℕ
whole_term (stand.Whole term) = Some term
whole_term s = None

-- the variables so far
abbrev pub variables_so_far : Terms → Clause → Variables
variables_so_far heap clause = variables clause.variables heap.images

-- terms are there, and named variables unbound
pub record IsLive (heap : Terms) (clause : Clause) : Type 0 where
  pub frames : AreLive (length heap.terms) clause.frames.items
  pub state : IsLiveState (length heap.terms) clause.state
  pub unbound : AreUnbound heap.images clause.variables

-- the state behind a token, or none where it was refused
abbrev pub state_if : Bool → machine.State → Option machine.State
state_if true s = Some s
state_if false s = None

-- The texts keep those of the names so far, differ, and have the names that a step of the clause looks at.
pub record AreTextsFor (atoms : List Text) (names : GrammarNames) (clause : Clause) (texts : List Text) : Type 0 where
  pub kept : KeepsTexts atoms texts
  pub different : AreDifferent texts
  pub grammar : AreGrammarNames texts names
  pub state : KnowsState texts clause.state

-- the names of terms and frames are known afterwards if they were before
abbrev pub KeepsNames : List Text → Terms → Clause → Terms → Clause → Type 0
KeepsNames texts old_heap old new_heap new = KnowsNames texts old_heap.terms old.frames.items → KnowsNames texts new_heap.terms new.frames.items

-- The machine's step at a token of the text, from a clause on a heap to another on another; it goes on or is refused.
pub record Advances (texts : List Text) (ops : Tables) (text : List ℕ) (t : lexical.Token) (old_heap : Terms) (old : Clause) (new_heap : Terms) (new : Clause) (goes_on : Bool) : Type 0 where
  pub token : grammar.Token
  pub seen : seen text (variables_so_far old_heap old) t ≡ Some token
  pub step : machine.step (named texts ops) (state texts old_heap old) token ≡ state_if goes_on (state texts new_heap new)
  pub variables : variables_so_far new_heap new ≡ variables_after text (variables_so_far old_heap old) t
