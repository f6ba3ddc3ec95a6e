-- The tokens of a term's pieces are the tokens that are written of it.
use Rattle.std.proofs.Common.{◌≡◌, Bool, true, false, List, [], ◌∷◌, ◌++◌, codes, Option, Some, None, refl, ap, ◌∙◌}
use Rattle.std.specs.Prelude.{bytes_eq}
use Rattle.spec_numbers.specs.Rational.{ℚ}
use Rattle.spec_syntax.specs.declared.operators.OpDef.{OpDef}
use Rattle.spec_syntax.specs.Operators.{Ops, right_most}
use Rattle.spec_numbers.specs.Texts.{Text}
use Rattle.spec_terms.specs.Term.{Terms, Var, Number, Name, Compound, one, more}
use Rattle.spec_syntax.specs.Tokens.{Token, Comma}
use Rattle.spec_syntax.specs.Trees.{Tree}
use Rattle.spec_syntax.specs.Writing.{Place, Alone, InList, is_negative, is_bare_right, is_bare_left, is_bare_argument, is_signed, infix_token, written_at, arguments_written}
use Rattle.spec_syntax.specs.Writing as tok
use Rattle.spec_text.specs.Pieces.{Piece, piece, prefix_piece, infix_piece, tokens, pieces_at, argument_pieces}
use Rattle.spec_text.specs.Pieces as pc

pub tokens-append : (ps qs : List Piece) → tokens (ps ++ qs) ≡ tokens ps ++ tokens qs
tokens-append [] qs = refl
tokens-append (p ∷ ps) qs = ap (λ ts. p.token ∷ ts) (tokens-append ps qs)

pub same_unless : (b : Bool) (ps : List Piece) → tokens (pc.unless b ps) ≡ tok.unless b (tokens ps)
same_unless true ps = refl
same_unless false ps = rw (tokens-append ps _) refl

same_argument : (ops : Ops) (a : Tree) (ps : List Piece) → tokens (pc.as_argument ops a ps) ≡ tok.as_argument ops a (tokens ps)
same_argument ops a ps = same_unless (is_bare_argument ops a) ps

same_placed : (ops : Ops) (place : Place) (t : Tree) (ps : List Piece) → tokens (pc.placed ops place t ps) ≡ tok.placed ops place t (tokens ps)
same_placed ops Alone t ps = refl
same_placed ops InList t ps = rw (tokens-append (pc.as_argument ops t ps) _, same_argument ops t ps) refl

same_number : (b : Bool) (q : ℚ) → tokens (pc.number_pieces b q) ≡ tok.number_tokens b q
same_number true q = refl
same_number false q = refl

same_nil : (place : Place) → tokens (pc.nil_pieces place) ≡ tok.nil_tokens place
same_nil Alone = refl
same_nil InList = refl

same_atom : (b : Bool) (f : Text) → tokens (pc.atom_pieces b f) ≡ tok.atom_tokens b f
same_atom true f = refl
same_atom false f = refl

same_name : (ops : Ops) (b : Bool) (place : Place) (f : Text) → tokens (pc.name_pieces ops b place f) ≡ tok.name_tokens ops b place f
same_name ops true place f = same_nil place
same_name ops false place f = same_placed ops place (Name f) _ ∙ ap (tok.placed ops place (Name f)) (same_atom (bytes_eq f (codes "{}")) f)

same_functional : (f : Text) (args : List Piece) → tokens (pc.functional f args) ≡ tok.functional f (tokens args)
same_functional f args = rw (tokens-append args _) refl

same_prefix : (ops : Ops) (op : OpDef) (b : Bool) (f : Text) (a : Tree) (ps : List Piece) → tokens (pc.prefix_pieces ops op b f a ps) ≡ tok.prefix_tokens ops op b f a (tokens ps)
same_prefix ops op true f a ps = same_functional f ps
same_prefix ops op false f a ps = rw (same_unless (is_bare_right ops (right_most op) a) ps) refl

same_operand : (ops : Ops) (o p : Option OpDef) (f : Text) (a : Tree) (ps : List Piece) → tokens (pc.operand_pieces ops o p f a ps) ≡ tok.operand_tokens ops o p f a (tokens ps)
same_operand ops (Some op) p f a ps = same_prefix ops op (is_signed f a) f a ps
same_operand ops None (Some op) f a ps = rw (tokens-append (pc.unless (is_bare_left ops op a) ps) _, same_unless (is_bare_left ops op a) ps) refl
same_operand ops None None f a ps = same_functional f _ ∙ ap (tok.functional f) (same_argument ops a ps)

same_unary : (ops : Ops) (b : Bool) (f : Text) (a : Tree) (ps : List Piece) → tokens (pc.unary_pieces ops b f a ps) ≡ tok.unary_tokens ops b f a (tokens ps)
same_unary ops true f a ps = rw (tokens-append ps _) refl
same_unary ops false f a ps = same_operand ops (ops.prefix f) (ops.postfix f) f a ps

same_infix : (ops : Ops) (o : Option OpDef) (f : Text) (a b : Tree) (ps qs : List Piece) → tokens (pc.infix_pieces ops o f a b ps qs) ≡ tok.infix_tokens ops o f a b (tokens ps) (tokens qs)
same_infix ops (Some op) f a b ps qs =
    rw (tokens-append (pc.unless (is_bare_left ops op a) ps) _, same_unless (is_bare_left ops op a) ps, same_unless (is_bare_right ops (right_most op) b) qs) refl
same_infix ops None f a b ps qs =
    same_functional f _ ∙ ap (tok.functional f) (rw (tokens-append (pc.as_argument ops a ps) _, same_argument ops a ps, same_argument ops b qs) refl)

same_binary : (ops : Ops) (d : Bool) (place : Place) (f : Text) (a b : Tree) (ps qs rest : List Piece) →
    tokens (pc.binary_pieces ops d place f a b ps qs rest) ≡ tok.binary_tokens ops d place f a b (tokens ps) (tokens qs) (tokens rest)
same_binary ops true place f a b ps qs rest = rw (tokens-append (pc.as_argument ops a ps) rest, same_argument ops a ps) refl
same_binary ops false place f a b ps qs rest = same_placed ops place _ _ ∙ ap (tok.placed ops place _) (same_infix ops (ops.infixed f) f a b ps qs)

same_more : (ops : Ops) (a : Tree) (ps qs : List Piece) (ts us : List Token) → tokens ps ≡ ts → tokens qs ≡ us →
    tokens (pc.as_argument ops a ps ++ piece Comma ∷ qs) ≡ tok.as_argument ops a ts ++ Comma ∷ us
same_more ops a ps qs ts us e g = rw (tokens-append (pc.as_argument ops a ps) (piece Comma ∷ qs), same_argument ops a ps, e, g) refl

mutual
  unfolding pieces_at written_at

  pub same : (ops : Ops) (place : Place) (t : Tree) → tokens (pieces_at ops place t) ≡ written_at ops place t
  same ops place (Var v) = same_placed ops place (Var v) _
  same ops place (Number q) = same_placed ops place (Number q) _ ∙ ap (tok.placed ops place (Number q)) (same_number (is_negative q) q)
  same ops place (Name f) = same_name ops (bytes_eq f (codes "[]")) place f
  same ops place (Compound f (one a)) =
      same_placed ops place (Compound f (one a)) _
      ∙ ap (tok.placed ops place (Compound f (one a))) (same_unary ops (bytes_eq f (codes "{}")) f a _ ∙ ap (tok.unary_tokens ops (bytes_eq f (codes "{}")) f a) (same ops Alone a))
  same ops place (Compound f (more a (one b))) =
      rw (same_binary ops (bytes_eq f (codes ".")) place f a b (pieces_at ops Alone a) (pieces_at ops Alone b) (pieces_at ops InList b), same ops Alone a, same ops Alone b, same ops InList b) refl
  same ops place (Compound f (more a (more b cs))) =
      same_placed ops place (Compound f (more a (more b cs))) _
      ∙ ap (tok.placed ops place (Compound f (more a (more b cs)))) (same_functional f _
      ∙ ap (tok.functional f) (same_more ops a _ _ _ _ (same ops Alone a) (same_arguments ops (more b cs))))

  same_arguments : (ops : Ops) (as1 : Terms Text) → tokens (argument_pieces ops as1) ≡ arguments_written ops as1
  same_arguments ops (one a) = rw (same_argument ops a (pieces_at ops Alone a), same ops Alone a) refl
  same_arguments ops (more a as1) = same_more ops a _ _ _ _ (same ops Alone a) (same_arguments ops as1)
