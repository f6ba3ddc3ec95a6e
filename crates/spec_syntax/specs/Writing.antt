-- The tokens of a term as it is written.
use Rattle.std.specs.Prelude.{◌≡◌, ℕ, ◌==◌, nat_le, nat_lt, codes, bytes_eq, length, Bool, true, false, not, ◌||◌, ◌&&◌, if◌then◌else◌, List, [], ◌∷◌, ◌++◌, Option, Some, None, Result, Ok, Err, pos, negsuc}
use Rattle.spec_numbers.specs.Rational.{ℚ, neg_ℚ}
use Rattle.spec_syntax.specs.declared.operators.OpDef.{OpDef}
use Rattle.spec_syntax.specs.declared.operators.OpKind.TheVariants.{Xfy}
use Rattle.spec_numbers.specs.Texts.{Text}
use Rattle.spec_syntax.specs.Operators.{Ops, left_most, right_most, is_operator, Prefix, Infix, Postfix, Fits}
use Rattle.spec_terms.specs.Term.{Terms, Var, Number, Name, Compound, one, more}
use Rattle.spec_syntax.specs.declared.grammar.Kind.TheVariants as kind
use Rattle.spec_syntax.specs.declared.grammar.LexFault.{LexFault}
use Rattle.spec_syntax.specs.Characters.{passes, first_char, continues_name}
use Rattle.spec_syntax.specs.GrammarTokens as lexical
use Rattle.spec_syntax.specs.GrammarTokens.{next_token}
use Rattle.spec_syntax.specs.Tokens.{Token, Variable, Numeral, Named, Functor, Minus, Open, Close, OpenList, CloseList, OpenCurly, CloseCurly, Comma, Bar}
use Rattle.spec_syntax.specs.Trees.{Tree}

-- ---- operator tables

-- what is true of the operators at the start, and stays true whatever `op/3` changes
pub record IsTable (ops : Ops) : Type 0 where
  pub prefix : (f : Text) (op : OpDef) → ops.prefix f ≡ Some op → Fits Prefix op
  pub infixed : (f : Text) (op : OpDef) → ops.infixed f ≡ Some op → Fits Infix op
  pub postfix : (f : Text) (op : OpDef) → ops.postfix f ≡ Some op → Fits Postfix op
  pub not_both : (f : Text) (op : OpDef) → ops.infixed f ≡ Some op → ops.postfix f ≡ None
  pub comma : ops.infixed (codes ",") ≡ Some (record { priority = 1000; kind = Xfy })
  -- the comma is an infix operator alone
  pub no_prefix_comma : ops.prefix (codes ",") ≡ None

-- ---- the operator of a term

-- the first that is there
abbrev pub or_else : Option OpDef → Option OpDef → Option OpDef
or_else (Some op) other = Some op
or_else None other = other

-- the operator as which a name with one argument is written, a prefix one before a postfix one; braces are none
abbrev pub unary_operator : Ops → Text → Option OpDef
unary_operator ops f = if bytes_eq f (codes "{}") then None else or_else (ops.prefix f) (ops.postfix f)

-- the operator as which a name with two arguments is written; a list's cell is none
abbrev pub binary_operator : Ops → Text → Option OpDef
binary_operator ops f = if bytes_eq f (codes ".") then None else ops.infixed f

-- the operator as which a term is written
abbrev pub operator_of : Ops → Tree → Option OpDef
operator_of ops (Compound f (one a)) = unary_operator ops f
operator_of ops (Compound f (more a (one b))) = binary_operator ops f
operator_of ops t = None

-- an operator's priority, or 0
abbrev pub priority_of : Option OpDef → ℕ
priority_of None = 0
priority_of (Some op) = op.priority

-- the most that the priority of its right operand may be, or 0 where none stands at the right end
abbrev pub right_end : Option OpDef → ℕ
right_end None = 0
right_end (Some op) = right_most op

-- the priority of a term
abbrev pub priority : Ops → Tree → ℕ
priority ops t = priority_of (operator_of ops t)

-- the most that the priority of the operand at a term's right end may be, or 0
abbrev pub open_end : Ops → Tree → ℕ
open_end ops t = right_end (operator_of ops t)

-- ---- parentheses

-- a number below zero
abbrev pub is_negative : ℚ → Bool
is_negative q = elim q.numerator [ pos n ↦ false | negsuc n ↦ true ]

-- an atom that is an operator, or a negative number: as an operand of an operator it has parentheses
abbrev pub is_never_bare : Ops → Tree → Bool
is_never_bare ops (Name f) = is_operator ops f
is_never_bare ops (Number q) = is_negative q
is_never_bare ops t = false

-- a right operand, or that of a prefix operator, has no parentheses
unfoldable pub is_bare_right : Ops → ℕ → Tree → Bool
is_bare_right ops most a = nat_le (priority ops a) most && not (is_never_bare ops a)

-- A left operand, or that of a postfix operator, has no parentheses. An operand at its own right end must not take the operator.
unfoldable pub is_bare_left : Ops → OpDef → Tree → Bool
is_bare_left ops op a = (nat_le (priority ops a) (left_most op) && nat_lt (open_end ops a) op.priority) && not (is_never_bare ops a)

-- an argument, an element or a tail has no parentheses
unfoldable pub is_bare_argument : Ops → Tree → Bool
is_bare_argument ops a = nat_le (priority ops a) 999

-- the tokens in parentheses, where they do not stand bare
abbrev pub unless : Bool → List Token → List Token
unless bare ts = if bare then ts else Open ∷ ts ++ Close ∷ []

-- an argument, an element or a tail with these tokens
abbrev pub as_argument : Ops → Tree → List Token → List Token
as_argument ops a ts = unless (is_bare_argument ops a) ts

-- ---- names

-- the token is an unquoted name that ends at this place
abbrev pub is_name_to : ℕ → Result lexical.Token LexFault → Bool
is_name_to end (Err f) = false
is_name_to end (Ok t) = elim t.kind [
  | kind.Name ↦ (t.span.start == 0) && (t.span.end == end)
  | kind.Quoted ↦ false
  | kind.Codes ↦ false
  | kind.Variable ↦ false
  | kind.Numeral ↦ false
  | kind.Punctuation ↦ false
  | kind.End ↦ false
  | kind.Eof ↦ false
]

-- a name that is not one unquoted name token
unfoldable pub needs_quotes : Text → Bool
needs_quotes f = not (is_name_to (length f) (next_token f 0))

-- an infix name with a blank on each side: it begins like a name of letters, or needs quotes
unfoldable pub is_spaced : Text → Bool
is_spaced f = passes continues_name (first_char f) || needs_quotes f

-- an infix name directly before its right operand
abbrev pub name_before : Text → List Token → Token
name_before f (Open ∷ ts) = Functor f
name_before f (Numeral q ∷ ts) = if bytes_eq f (codes "-") then Minus else Named f (needs_quotes f)
name_before f ts = Named f (needs_quotes f)

-- an infix name before its right operand
unfoldable pub infix_token : Text → List Token → Token
infix_token f right =
    if bytes_eq f (codes ",") then Comma
    else if is_spaced f then Named f (needs_quotes f)
    else name_before f right

-- ---- terms

-- a term by itself, or as the rest of a list behind its first elements, with the closing bracket
pub data Place : Type 0 where
  Alone : Place
  InList : Place

-- the tokens of a term at its place, where it is no list
abbrev pub placed : Ops → Place → Tree → List Token → List Token
placed ops Alone t ts = ts
placed ops InList t ts = Bar ∷ as_argument ops t ts ++ CloseList ∷ []

-- a number with its sign
abbrev pub number_tokens : Bool → ℚ → List Token
number_tokens false q = Numeral q ∷ []
number_tokens true q = Minus ∷ Numeral (neg_ℚ q) ∷ []

-- the empty list
abbrev pub nil_tokens : Place → List Token
nil_tokens Alone = OpenList ∷ CloseList ∷ []
nil_tokens InList = CloseList ∷ []

-- an atom that is not the empty list
abbrev pub atom_tokens : Bool → Text → List Token
atom_tokens true f = OpenCurly ∷ CloseCurly ∷ []
atom_tokens false f = Named f (needs_quotes f) ∷ []

-- an atom: the empty list or another
abbrev pub name_tokens : Ops → Bool → Place → Text → List Token
name_tokens ops true place f = nil_tokens place
name_tokens ops false place f = placed ops place (Name f) (atom_tokens (bytes_eq f (codes "{}")) f)

-- a name and its arguments, with these tokens
abbrev pub functional : Text → List Token → List Token
functional f args = Functor f ∷ Open ∷ args ++ Close ∷ []

-- a number as the operand of `-`, which would be read as its sign
abbrev pub is_signed : Text → Tree → Bool
is_signed f (Number q) = bytes_eq f (codes "-")
is_signed f t = false

-- a prefix operator and its operand a with these tokens
abbrev pub prefix_tokens : Ops → OpDef → Bool → Text → Tree → List Token → List Token
prefix_tokens ops op true f a ts = functional f ts
prefix_tokens ops op false f a ts = Named f (needs_quotes f) ∷ unless (is_bare_right ops (right_most op) a) ts

-- a name with one argument a with these tokens: as the prefix or postfix operator that it is, or in functional notation
abbrev pub operand_tokens : Ops → Option OpDef → Option OpDef → Text → Tree → List Token → List Token
operand_tokens ops (Some op) postfix f a ts = prefix_tokens ops op (is_signed f a) f a ts
operand_tokens ops None (Some op) f a ts = unless (is_bare_left ops op a) ts ++ Named f (needs_quotes f) ∷ []
operand_tokens ops None None f a ts = functional f (as_argument ops a ts)

-- a name with one argument, or a term in braces
abbrev pub unary_tokens : Ops → Bool → Text → Tree → List Token → List Token
unary_tokens ops true f a ts = OpenCurly ∷ ts ++ CloseCurly ∷ []
unary_tokens ops false f a ts = operand_tokens ops (ops.prefix f) (ops.postfix f) f a ts

-- an infix operator and its operands a and b with these tokens, or functional notation
abbrev pub infix_tokens : Ops → Option OpDef → Text → Tree → Tree → List Token → List Token → List Token
infix_tokens ops (Some op) f a b ts us =
    let right = unless (is_bare_right ops (right_most op) b) us in unless (is_bare_left ops op a) ts ++ infix_token f right ∷ right
infix_tokens ops None f a b ts us = functional f (as_argument ops a ts ++ Comma ∷ as_argument ops b us)

-- the first token of a list's cell, or the one between its elements
abbrev pub cell_token : Place → Token
cell_token Alone = OpenList
cell_token InList = Comma

-- a name with two arguments with these tokens, or a list's cell with its rest
abbrev pub binary_tokens : Ops → Bool → Place → Text → Tree → Tree → List Token → List Token → List Token → List Token
binary_tokens ops true place f a b ts us rest = cell_token place ∷ as_argument ops a ts ++ rest
binary_tokens ops false place f a b ts us rest = placed ops place (Compound f (more a (one b))) (infix_tokens ops (ops.infixed f) f a b ts us)

unfoldable mutual
  pub written_at : Ops → Place → Tree → List Token
  written_at ops place (Var v) = placed ops place (Var v) (Variable v ∷ [])
  written_at ops place (Number q) = placed ops place (Number q) (number_tokens (is_negative q) q)
  written_at ops place (Name f) = name_tokens ops (bytes_eq f (codes "[]")) place f
  written_at ops place (Compound f (one a)) =
      placed ops place (Compound f (one a)) (unary_tokens ops (bytes_eq f (codes "{}")) f a (written_at ops Alone a))
  written_at ops place (Compound f (more a (one b))) =
      binary_tokens ops (bytes_eq f (codes ".")) place f a b (written_at ops Alone a) (written_at ops Alone b) (written_at ops InList b)
  written_at ops place (Compound f (more a (more b cs))) =
      placed ops place (Compound f (more a (more b cs))) (functional f (as_argument ops a (written_at ops Alone a) ++ Comma ∷ arguments_written ops (more b cs)))

  -- arguments with `,` between them
  pub arguments_written : Ops → Terms Text → List Token
  arguments_written ops (one a) = as_argument ops a (written_at ops Alone a)
  arguments_written ops (more a as1) = as_argument ops a (written_at ops Alone a) ++ Comma ∷ arguments_written ops as1

-- the tokens of a term that is written by itself
abbrev pub written : Ops → Tree → List Token
written ops t = written_at ops Alone t
