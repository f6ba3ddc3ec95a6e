-- The grammar of clauses over tokens, with an operator table.
use Rattle.std.specs.Prelude.{◌≡◌, ℕ, ◌≤◌, Bool, true, false, not, ◌||◌, ◌&&◌, nat_le, if◌then◌else◌, List, [], ◌∷◌, ◌++◌, codes, ⊤, Option, Some, None, is_some}
use Rattle.spec_numbers.specs.Rational.{ℚ, neg_ℚ}
use Rattle.spec_syntax.specs.declared.operators.OpDef.{OpDef}
use Rattle.spec_numbers.specs.Texts.{Text}
use Rattle.spec_syntax.specs.Operators.{Ops, left_most, right_most}
use Rattle.spec_terms.specs.Term.{Terms, Var, Number, Name, Compound, one, more}
use Rattle.spec_syntax.specs.Tokens.{Token, Variable, Numeral, Codes, Named, Functor, Minus, Open, Close, OpenList, CloseList, OpenCurly, CloseCurly, Comma, Bar, End}
use Rattle.spec_syntax.specs.Trees.{Tree, unary, binary, nil, cell, code_list}

-- ---- operators behind an operand

-- the name as which a token may be an operator behind an operand; quotes make no difference
abbrev pub operator_name : Token → Option Text
operator_name (Named f quoted) = Some f
operator_name (Functor f) = Some f
operator_name Minus = Some (codes "-")
operator_name Comma = Some (codes ",")
operator_name tok = None

-- the operator, where a term of priority at most m takes it behind an operand of priority l
abbrev pub allowed : ℕ → ℕ → Option OpDef → Option OpDef
allowed m l None = None
allowed m l (Some op) = if nat_le op.priority m && nat_le l (left_most op) then Some op else None

-- what a term does at the token behind an operand: it takes an infix or a postfix operator, or it ends
pub data Use : Type 0 where
  AsInfix : Text → OpDef → Use
  AsPostfix : Text → OpDef → Use
  Outside : Use

-- the use of a name that is allowed as infix operator or as postfix operator; a table has no name that is both
abbrev pub use_allowed : Text → Option OpDef → Option OpDef → Use
use_allowed f (Some op) postfix = AsInfix f op
use_allowed f None (Some op) = AsPostfix f op
use_allowed f None None = Outside

-- the use of a name, if there is one
abbrev pub use_of_name : Ops → ℕ → ℕ → Option Text → Use
use_of_name ops m l None = Outside
use_of_name ops m l (Some f) = use_allowed f (allowed m l (ops.infixed f)) (allowed m l (ops.postfix f))

-- what a term of priority at most m does at this token behind an operand of priority l
unfoldable pub use_of : Ops → ℕ → ℕ → Token → Use
use_of ops m l tok = use_of_name ops m l (operator_name tok)

-- The term ends before these tokens. An operator that stands there is left to a term further out: of the terms that may take
-- an operator the innermost takes it.
abbrev pub Stops : Ops → ℕ → ℕ → List Token → Type 0
Stops ops m l [] = ⊤
Stops ops m l (tok ∷ ts) = use_of ops m l tok ≡ Outside

-- ---- prefix operators

-- a name that is not an infix operator, or is a prefix operator too
abbrev pub may_begin : Ops → Text → Bool
may_begin ops f = not (is_some (ops.infixed f)) || is_some (ops.prefix f)

-- A prefix operator in front of this token is applied. The token decides it alone.
unfoldable pub begins_term : Ops → Token → Bool
begins_term ops (Variable v) = true
begins_term ops (Numeral q) = true
begins_term ops (Codes text) = true
begins_term ops (Named f quoted) = quoted || may_begin ops f
begins_term ops (Functor f) = true
begins_term ops Minus = may_begin ops (codes "-")
begins_term ops Open = true
begins_term ops OpenList = true
begins_term ops OpenCurly = true
begins_term ops tok = false

-- the prefix operator as which a name is applied to what follows it, if it is
abbrev pub applied_as : Ops → Text → List Token → Option OpDef
applied_as ops f [] = None
applied_as ops f (tok ∷ ts) = if begins_term ops tok then ops.prefix f else None

-- ---- terms

-- Each relation says of a list of tokens that the first of them are such a part, with this tree, and that the others are left.
mutual
  -- a term of priority at most m: an operand, and the operators behind it
  pub data IsTerm (ops : Ops) : ℕ → List Token → List Token → Tree → Type 0 where
    term : {m l : ℕ} {ts mid rest : List Token} {a t : Tree} → IsOperand ops m ts mid l a → IsAfter ops m l a mid rest t → IsTerm ops m ts rest t

  -- an operand within a term of priority at most m, and the operand's own priority
  pub data IsOperand (ops : Ops) : ℕ → List Token → List Token → ℕ → Tree → Type 0 where
    variable : {m v : ℕ} {rest : List Token} → IsOperand ops m (Variable v ∷ rest) rest 0 (Var v)
    numeral : {m : ℕ} {q : ℚ} {rest : List Token} → IsOperand ops m (Numeral q ∷ rest) rest 0 (Number q)
    negative : {m : ℕ} {q : ℚ} {rest : List Token} → IsOperand ops m (Minus ∷ Numeral q ∷ rest) rest 0 (Number (neg_ℚ q))
    text : {m : ℕ} {bytes : Text} {rest : List Token} → IsOperand ops m (Codes bytes ∷ rest) rest 0 (code_list bytes)
    compound : {m : ℕ} {f : Text} {ts rest : List Token} {args : Terms Text} → AreArguments ops ts rest args →
        IsOperand ops m (Functor f ∷ Open ∷ ts) rest 0 (Compound f args)
    -- a name that is no prefix operator, or is not applied; as an atom it has priority 0, even if it is an operator
    atom : {m : ℕ} {f : Text} {quoted : Bool} {rest : List Token} → applied_as ops f rest ≡ None → IsOperand ops m (Named f quoted ∷ rest) rest 0 (Name f)
    -- where the operator would be applied and its priority is higher than m, there is no operand
    applied : {m l : ℕ} {f : Text} {quoted : Bool} {op : OpDef} {ts rest : List Token} {a : Tree} → applied_as ops f ts ≡ Some op → op.priority ≤ m → l ≡ op.priority →
        IsTerm ops (right_most op) ts rest a → IsOperand ops m (Named f quoted ∷ ts) rest l (unary f a)
    group : {m : ℕ} {ts rest : List Token} {t : Tree} → IsTerm ops 1200 ts (Close ∷ rest) t → IsOperand ops m (Open ∷ ts) rest 0 t
    empty_list : {m : ℕ} {rest : List Token} → IsOperand ops m (OpenList ∷ CloseList ∷ rest) rest 0 nil
    listed : {m : ℕ} {ts rest : List Token} {t : Tree} → AreElements ops ts rest t → IsOperand ops m (OpenList ∷ ts) rest 0 t
    empty_curly : {m : ℕ} {rest : List Token} → IsOperand ops m (OpenCurly ∷ CloseCurly ∷ rest) rest 0 (Name (codes "{}"))
    curly : {m : ℕ} {ts rest : List Token} {t : Tree} → IsTerm ops 1200 ts (CloseCurly ∷ rest) t → IsOperand ops m (OpenCurly ∷ ts) rest 0 (unary (codes "{}") t)

  -- what follows an operand a of priority l within a term of priority at most m, and what it makes of a
  pub data IsAfter (ops : Ops) : ℕ → ℕ → Tree → List Token → List Token → Tree → Type 0 where
    stop : {m l : ℕ} {a : Tree} {ts : List Token} → Stops ops m l ts → IsAfter ops m l a ts ts a
    infixed : {m l : ℕ} {f : Text} {op : OpDef} {tok : Token} {ts mid rest : List Token} {a b t : Tree} → use_of ops m l tok ≡ AsInfix f op →
        IsTerm ops (right_most op) ts mid b → IsAfter ops m op.priority (binary f a b) mid rest t → IsAfter ops m l a (tok ∷ ts) rest t
    postfixed : {m l : ℕ} {f : Text} {op : OpDef} {tok : Token} {ts rest : List Token} {a t : Tree} → use_of ops m l tok ≡ AsPostfix f op →
        IsAfter ops m op.priority (unary f a) ts rest t → IsAfter ops m l a (tok ∷ ts) rest t

  -- one or more arguments with `,` between them, and `)`; 999 is below the comma's priority
  pub data AreArguments (ops : Ops) : List Token → List Token → Terms Text → Type 0 where
    last : {ts rest : List Token} {a : Tree} → IsTerm ops 999 ts (Close ∷ rest) a → AreArguments ops ts rest (one a)
    next : {ts mid rest : List Token} {a : Tree} {args : Terms Text} → IsTerm ops 999 ts (Comma ∷ mid) a → AreArguments ops mid rest args → AreArguments ops ts rest (more a args)

  -- one or more elements with `,` between them, perhaps `|` and a tail, and `]`
  pub data AreElements (ops : Ops) : List Token → List Token → Tree → Type 0 where
    final : {ts rest : List Token} {a : Tree} → IsTerm ops 999 ts (CloseList ∷ rest) a → AreElements ops ts rest (cell a nil)
    further : {ts mid rest : List Token} {a t : Tree} → IsTerm ops 999 ts (Comma ∷ mid) a → AreElements ops mid rest t → AreElements ops ts rest (cell a t)
    tailed : {ts mid rest : List Token} {a t : Tree} → IsTerm ops 999 ts (Bar ∷ mid) a → IsTerm ops 999 mid (CloseList ∷ rest) t → AreElements ops ts rest (cell a t)

-- ---- clauses

-- the tokens are a clause: a term and the end
abbrev pub Parses : Ops → List Token → Tree → Type 0
Parses ops ts t = IsTerm ops 1200 ts (End ∷ []) t

-- the tokens begin a clause: it has one more at least
abbrev pub BeginsClause : Ops → List Token → Type 0
BeginsClause ops ts = (tok : Token) × (rest : List Token) × (t : Tree) × Parses ops (ts ++ tok ∷ rest) t

-- the tokens neither are a clause nor begin one
pub record IsNeither (ops : Ops) (ts : List Token) : Type 0 where
  pub no_clause : (t : Tree) → Parses ops ts t → ⊥
  pub no_beginning : BeginsClause ops ts → ⊥

-- The token is refused behind these: they begin a clause, and with it they neither are one nor begin one.
pub record IsRefused (ops : Ops) (ts : List Token) (tok : Token) : Type 0 where
  pub begun : BeginsClause ops ts
  pub refused : IsNeither ops (ts ++ tok ∷ [])
