-- A machine that reads clauses a token at a time. The laws say that it accepts just what the grammar does.
use Rattle.std.specs.Prelude.{◌≡◌, ℕ, Bool, true, false, nat_le, List, [], ◌∷◌, codes, ⊤, Option, Some, None}
use Rattle.spec_numbers.specs.Rational.{neg_ℚ}
use Rattle.spec_syntax.specs.declared.operators.OpDef.{OpDef}
use Rattle.spec_numbers.specs.Texts.{Text}
use Rattle.spec_syntax.specs.Operators.{Ops, right_most}
use Rattle.spec_terms.specs.Term.{Terms, Var, Number, Name, Compound, one, more}
use Rattle.spec_syntax.specs.Tokens.{Token, Variable, Numeral, Codes, Named, Functor, Minus, Open, Close, OpenList, CloseList, OpenCurly, CloseCurly, Comma, Bar, End}
use Rattle.spec_syntax.specs.Trees.{Tree, unary, binary, nil, cell, code_list}
use Rattle.spec_syntax.specs.Grammar.{Use, AsInfix, AsPostfix, Outside, use_of, applied_as}

-- What a term that is read is for. Each frame has the most that the priority of the term around it may be. Arguments and
-- elements that were read stand last first.
pub data Frame : Type 0 where
  -- the right operand of an infix operator, with the left one
  RightOf : Text → Tree → OpDef → ℕ → Frame
  -- the operand of a prefix operator
  OperandOf : Text → OpDef → ℕ → Frame
  -- the term in parentheses, or in braces
  InGroup : ℕ → Frame
  InCurly : ℕ → Frame
  -- an argument, behind others
  InArguments : Text → List Tree → ℕ → Frame
  -- an element of a list, behind others, or its tail
  InElements : List Tree → ℕ → Frame
  InTail : List Tree → ℕ → Frame

-- Where the machine stands: with the most that the term's priority may be, and what it is for, the innermost frame first.
pub data State : Type 0 where
  BeforeTerm : ℕ → List Frame → State
  -- behind an operand of this priority
  AfterOperand : ℕ → ℕ → Tree → List Frame → State
  -- behind a name that may be applied
  AfterName : Text → ℕ → List Frame → State
  -- before the `(` of arguments
  AfterFunctor : Text → ℕ → List Frame → State
  -- before the numeral of a negative number
  AfterMinus : ℕ → List Frame → State
  -- behind `[` or `{`
  AfterOpenList : ℕ → List Frame → State
  AfterOpenCurly : ℕ → List Frame → State
  -- behind a whole clause
  Whole : Tree → State

-- the arguments with those before them
abbrev pub with_arguments_before : List Tree → Terms Text → Terms Text
with_arguments_before [] ts = ts
with_arguments_before (a ∷ before) ts = with_arguments_before before (more a ts)

-- the list with the elements before it
abbrev pub with_elements_before : List Tree → Tree → Tree
with_elements_before [] t = t
with_elements_before (a ∷ before) t = with_elements_before before (cell a t)

-- the machine at the start of a clause
abbrev pub start : State
start = BeforeTerm 1200 []

-- the clause is not whole yet
abbrev pub IsOpen : State → Type 0
IsOpen (Whole t) = ⊥
IsOpen s = ⊤

module _ (ops : Ops) where
  -- ---- where a term ends: the token that its frame waits for

  -- the end token, behind the term of a clause
  abbrev pub end_clause : Tree → Token → Option State
  end_clause a End = Some (Whole a)
  end_clause a tok = None

  -- `)`, behind the term in parentheses
  abbrev pub end_group : ℕ → Tree → List Frame → Token → Option State
  end_group m a k Close = Some (AfterOperand m 0 a k)
  end_group m a k tok = None

  -- `}`, behind the term in braces
  abbrev pub end_curly : ℕ → Tree → List Frame → Token → Option State
  end_curly m a k CloseCurly = Some (AfterOperand m 0 (unary (codes "{}") a) k)
  end_curly m a k tok = None

  -- `)` or `,`, behind an argument
  abbrev pub end_argument : Text → List Tree → ℕ → Tree → List Frame → Token → Option State
  end_argument f before m a k Close = Some (AfterOperand m 0 (Compound f (with_arguments_before before (one a))) k)
  end_argument f before m a k Comma = Some (BeforeTerm 999 (InArguments f (a ∷ before) m ∷ k))
  end_argument f before m a k tok = None

  -- `]`, `,` or `|`, behind an element
  abbrev pub end_element : List Tree → ℕ → Tree → List Frame → Token → Option State
  end_element before m a k CloseList = Some (AfterOperand m 0 (with_elements_before before (cell a nil)) k)
  end_element before m a k Comma = Some (BeforeTerm 999 (InElements (a ∷ before) m ∷ k))
  end_element before m a k Bar = Some (BeforeTerm 999 (InTail (a ∷ before) m ∷ k))
  end_element before m a k tok = None

  -- `]`, behind a tail
  abbrev pub end_tail : List Tree → ℕ → Tree → List Frame → Token → Option State
  end_tail before m a k CloseList = Some (AfterOperand m 0 (with_elements_before before a) k)
  end_tail before m a k tok = None

  -- ---- the steps

  -- Behind an operand a within a term of priority at most m, at a token with this use. Where the term ends, it is an operand
  -- of the term around it, which may use the token, or its frame waits for the token.
  abbrev pub after_operand : List Frame → ℕ → Tree → Token → Use → Option State
  after_operand k m a tok (AsInfix f op) = Some (BeforeTerm (right_most op) (RightOf f a op m ∷ k))
  after_operand k m a tok (AsPostfix f op) = Some (AfterOperand m op.priority (unary f a) k)
  after_operand [] m a tok Outside = end_clause a tok
  after_operand (RightOf f b op n ∷ k) m a tok Outside = after_operand k n (binary f b a) tok (use_of ops n op.priority tok)
  after_operand (OperandOf f op n ∷ k) m a tok Outside = after_operand k n (unary f a) tok (use_of ops n op.priority tok)
  after_operand (InGroup n ∷ k) m a tok Outside = end_group n a k tok
  after_operand (InCurly n ∷ k) m a tok Outside = end_curly n a k tok
  after_operand (InArguments f before n ∷ k) m a tok Outside = end_argument f before n a k tok
  after_operand (InElements before n ∷ k) m a tok Outside = end_element before n a k tok
  after_operand (InTail before n ∷ k) m a tok Outside = end_tail before n a k tok

  -- where a term begins
  abbrev pub before_term : ℕ → List Frame → Token → Option State
  before_term m k (Variable v) = Some (AfterOperand m 0 (Var v) k)
  before_term m k (Numeral q) = Some (AfterOperand m 0 (Number q) k)
  before_term m k (Codes text) = Some (AfterOperand m 0 (code_list text) k)
  before_term m k (Named f quoted) = Some (AfterName f m k)
  before_term m k (Functor f) = Some (AfterFunctor f m k)
  before_term m k Minus = Some (AfterMinus m k)
  before_term m k Open = Some (BeforeTerm 1200 (InGroup m ∷ k))
  before_term m k OpenList = Some (AfterOpenList m k)
  before_term m k OpenCurly = Some (AfterOpenCurly m k)
  before_term m k tok = None

  -- at the first token of a prefix operator's operand, if the operator's priority is allowed
  abbrev pub apply_if : Bool → Text → OpDef → ℕ → List Frame → Token → Option State
  apply_if true f op m k tok = before_term (right_most op) (OperandOf f op m ∷ k) tok
  apply_if false f op m k tok = None

  -- behind a name, which is applied as this operator, or is an atom
  abbrev pub after_name : Text → ℕ → List Frame → Token → Option OpDef → Option State
  after_name f m k tok (Some op) = apply_if (nat_le op.priority m) f op m k tok
  after_name f m k tok None = after_operand k m (Name f) tok (use_of ops m 0 tok)

  -- behind a name that has a `(` directly behind it
  abbrev pub after_functor : Text → ℕ → List Frame → Token → Option State
  after_functor f m k Open = Some (BeforeTerm 999 (InArguments f [] m ∷ k))
  after_functor f m k tok = None

  -- behind a sign that has a digit directly behind it
  abbrev pub after_minus : ℕ → List Frame → Token → Option State
  after_minus m k (Numeral q) = Some (AfterOperand m 0 (Number (neg_ℚ q)) k)
  after_minus m k tok = None

  -- behind `[`
  abbrev pub after_open_list : ℕ → List Frame → Token → Option State
  after_open_list m k CloseList = Some (AfterOperand m 0 nil k)
  after_open_list m k tok = before_term 999 (InElements [] m ∷ k) tok

  -- behind `{`
  abbrev pub after_open_curly : ℕ → List Frame → Token → Option State
  after_open_curly m k CloseCurly = Some (AfterOperand m 0 (Name (codes "{}")) k)
  after_open_curly m k tok = before_term 1200 (InCurly m ∷ k) tok

  -- the state behind the next token, or none where the token is refused
  abbrev pub step : State → Token → Option State
  step (BeforeTerm m k) tok = before_term m k tok
  step (AfterOperand m l a k) tok = after_operand k m a tok (use_of ops m l tok)
  step (AfterName f m k) tok = after_name f m k tok (applied_as ops f (tok ∷ []))
  step (AfterFunctor f m k) tok = after_functor f m k tok
  step (AfterMinus m k) tok = after_minus m k tok
  step (AfterOpenList m k) tok = after_open_list m k tok
  step (AfterOpenCurly m k) tok = after_open_curly m k tok
  step (Whole a) tok = None

  -- the state behind these tokens
  abbrev pub run_from : Option State → List Token → Option State
  run_from o [] = o
  run_from None (tok ∷ ts) = None
  run_from (Some s) (tok ∷ ts) = run_from (step s tok) ts

  -- the state behind the first tokens of a clause
  abbrev pub run : List Token → Option State
  run ts = run_from (Some start) ts

  -- these tokens begin a clause, and the machine refuses the next one
  abbrev pub StopsAt : List Token → Token → Type 0
  StopsAt ts tok = (s : State) × (run ts ≡ Some s) × IsOpen s × (step s tok ≡ None)
