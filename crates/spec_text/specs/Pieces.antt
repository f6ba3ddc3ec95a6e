-- A term as it is written: pieces, each a token and what may stand round it.
use Rattle.std.specs.Prelude.{bytes_eq, codes, Bool, true, false, not, ◌&&◌, if◌then◌else◌, List, [], ◌∷◌, ◌++◌, Option, Some, None, map}
use Rattle.spec_numbers.specs.Rational.{ℚ, neg_ℚ}
use Rattle.spec_syntax.specs.declared.operators.OpDef.{OpDef}
use Rattle.spec_syntax.specs.Operators.{Ops, right_most}
use Rattle.spec_numbers.specs.Texts.{Text}
use Rattle.spec_terms.specs.Term.{Terms, Var, Number, Name, Compound, one, more}
use Rattle.spec_syntax.specs.Tokens.{Token, Variable, Numeral, Named, Functor, Minus, Open, Close, OpenList, CloseList, OpenCurly, CloseCurly, Comma, Bar}
use Rattle.spec_syntax.specs.Trees.{Tree}
use Rattle.spec_syntax.specs.Writing.{is_negative, is_bare_right, is_bare_left, is_bare_argument, needs_quotes, is_spaced, infix_token, Place, Alone, InList, is_signed, cell_token}

-- a piece of a written term: a token, and whether blanks stand round it
pub record Piece : Type 0 where
  pub token : Token
  -- it has a blank on each side
  pub has_blanks : Bool
  -- it is a prefix operator, in front of its operand
  pub is_prefix : Bool

-- a token that is no prefix operator and asks for no blanks
abbrev pub piece : Token → Piece
piece tok = record { token = tok; has_blanks = false; is_prefix = false }

-- a prefix operator
abbrev pub prefix_piece : Text → Piece
prefix_piece f = record { token = Named f (needs_quotes f); has_blanks = false; is_prefix = true }

-- the tokens of pieces
abbrev pub tokens : List Piece → List Token
tokens ps = map (λ p. p.token) ps

-- an infix operator before its right operand
abbrev pub infix_piece : Text → List Piece → Piece
infix_piece f right = record { token = infix_token f (tokens right); has_blanks = not (bytes_eq f (codes ",")) && is_spaced f; is_prefix = false }

-- the pieces in parentheses, where they do not stand bare
abbrev pub unless : Bool → List Piece → List Piece
unless bare ps = if bare then ps else piece Open ∷ ps ++ piece Close ∷ []

-- an argument, an element or a tail with these pieces
abbrev pub as_argument : Ops → Tree → List Piece → List Piece
as_argument ops a ps = unless (is_bare_argument ops a) ps

-- the pieces of a term at its place, where it is no list
abbrev pub placed : Ops → Place → Tree → List Piece → List Piece
placed ops Alone t ps = ps
placed ops InList t ps = piece Bar ∷ as_argument ops t ps ++ piece CloseList ∷ []

-- a number with its sign
abbrev pub number_pieces : Bool → ℚ → List Piece
number_pieces false q = piece (Numeral q) ∷ []
number_pieces true q = piece Minus ∷ piece (Numeral (neg_ℚ q)) ∷ []

-- the empty list
abbrev pub nil_pieces : Place → List Piece
nil_pieces Alone = piece OpenList ∷ piece CloseList ∷ []
nil_pieces InList = piece CloseList ∷ []

-- an atom that is not the empty list
abbrev pub atom_pieces : Bool → Text → List Piece
atom_pieces true f = piece OpenCurly ∷ piece CloseCurly ∷ []
atom_pieces false f = piece (Named f (needs_quotes f)) ∷ []

-- an atom: the empty list or another
abbrev pub name_pieces : Ops → Bool → Place → Text → List Piece
name_pieces ops true place f = nil_pieces place
name_pieces ops false place f = placed ops place (Name f) (atom_pieces (bytes_eq f (codes "{}")) f)

-- a name and its arguments, with these pieces
abbrev pub functional : Text → List Piece → List Piece
functional f args = piece (Functor f) ∷ piece Open ∷ args ++ piece Close ∷ []

-- a prefix operator and its operand a with these pieces
abbrev pub prefix_pieces : Ops → OpDef → Bool → Text → Tree → List Piece → List Piece
prefix_pieces ops op true f a ps = functional f ps
prefix_pieces ops op false f a ps = prefix_piece f ∷ unless (is_bare_right ops (right_most op) a) ps

-- a name with one argument a with these pieces: as the prefix or postfix operator that it is, or in functional notation
abbrev pub operand_pieces : Ops → Option OpDef → Option OpDef → Text → Tree → List Piece → List Piece
operand_pieces ops (Some op) postfix f a ps = prefix_pieces ops op (is_signed f a) f a ps
operand_pieces ops None (Some op) f a ps = unless (is_bare_left ops op a) ps ++ piece (Named f (needs_quotes f)) ∷ []
operand_pieces ops None None f a ps = functional f (as_argument ops a ps)

-- a name with one argument, or a term in braces
abbrev pub unary_pieces : Ops → Bool → Text → Tree → List Piece → List Piece
unary_pieces ops true f a ps = piece OpenCurly ∷ ps ++ piece CloseCurly ∷ []
unary_pieces ops false f a ps = operand_pieces ops (ops.prefix f) (ops.postfix f) f a ps

-- an infix operator and its operands a and b with these pieces, or functional notation
abbrev pub infix_pieces : Ops → Option OpDef → Text → Tree → Tree → List Piece → List Piece → List Piece
infix_pieces ops (Some op) f a b ps qs =
    let right = unless (is_bare_right ops (right_most op) b) qs in unless (is_bare_left ops op a) ps ++ infix_piece f right ∷ right
infix_pieces ops None f a b ps qs = functional f (as_argument ops a ps ++ piece Comma ∷ as_argument ops b qs)

-- a name with two arguments with these pieces, or a list's cell with its rest
abbrev pub binary_pieces : Ops → Bool → Place → Text → Tree → Tree → List Piece → List Piece → List Piece → List Piece
binary_pieces ops true place f a b ps qs rest = piece (cell_token place) ∷ as_argument ops a ps ++ rest
binary_pieces ops false place f a b ps qs rest = placed ops place (Compound f (more a (one b))) (infix_pieces ops (ops.infixed f) f a b ps qs)

unfoldable mutual
  pub pieces_at : Ops → Place → Tree → List Piece
  pieces_at ops place (Var v) = placed ops place (Var v) (piece (Variable v) ∷ [])
  pieces_at ops place (Number q) = placed ops place (Number q) (number_pieces (is_negative q) q)
  pieces_at ops place (Name f) = name_pieces ops (bytes_eq f (codes "[]")) place f
  pieces_at ops place (Compound f (one a)) =
      placed ops place (Compound f (one a)) (unary_pieces ops (bytes_eq f (codes "{}")) f a (pieces_at ops Alone a))
  pieces_at ops place (Compound f (more a (one b))) =
      binary_pieces ops (bytes_eq f (codes ".")) place f a b (pieces_at ops Alone a) (pieces_at ops Alone b) (pieces_at ops InList b)
  pieces_at ops place (Compound f (more a (more b cs))) =
      placed ops place (Compound f (more a (more b cs))) (functional f (as_argument ops a (pieces_at ops Alone a) ++ piece Comma ∷ argument_pieces ops (more b cs)))

  -- arguments with `,` between them
  pub argument_pieces : Ops → Terms Text → List Piece
  argument_pieces ops (one a) = as_argument ops a (pieces_at ops Alone a)
  argument_pieces ops (more a as1) = as_argument ops a (pieces_at ops Alone a) ++ piece Comma ∷ argument_pieces ops as1

-- the pieces of a term that is written by itself
abbrev pub pieces : Ops → Tree → List Piece
pieces ops t = pieces_at ops Alone t
