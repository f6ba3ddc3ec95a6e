-- A term with other variables is written as before but for their names.
use Rattle.std.proofs.Common.{◌≡◌, ℕ, Bool, true, false, not, ◌&&◌, List, [], ◌∷◌, ◌++◌, codes, length, Option, Some, None, refl, sym, ap, ◌∙◌, nat_le}
use Rattle.std.specs.Prelude.{◌==◌, bytes_eq, if◌then◌else◌}
use Rattle.spec_numbers.specs.Rational.{ℚ}
use Rattle.spec_syntax.specs.declared.operators.OpDef.{OpDef}
use Rattle.spec_syntax.specs.Operators.{Ops, right_most}
use Rattle.spec_numbers.specs.Texts.{Text}
use Rattle.spec_terms.specs.Term.{Terms, Var, Number, Name, Compound, one, more, apply, apply_all}
use Rattle.spec_syntax.specs.Tokens.{Token, Variable, Numeral, Codes, Named, Functor, Minus, Open, Close, OpenList, CloseList, OpenCurly, CloseCurly, Comma, Bar, End}
use Rattle.spec_syntax.specs.Trees.{Tree}
use Rattle.spec_syntax.specs.Writing.{Place, Alone, InList, operator_of, priority, is_never_bare, is_negative, is_bare_right, is_bare_left, is_bare_argument, is_signed, is_spaced, needs_quotes, name_before, infix_token}
use Rattle.spec_text.specs.Pieces.{Piece, piece, prefix_piece, infix_piece, tokens, pieces, pieces_at, argument_pieces}
use Rattle.spec_text.specs.Pieces as pc
use Rattle.spec_text.specs.declared.writing.Style.TheVariants.{Quoted}
use Rattle.spec_text.specs.Texts.{token_text, text_of, is_apart, blank_behind, joined, seen}
use Rattle.spec_text.specs.Written.{pieces_within, text_by}

module _ (f : ℕ → ℕ) where
  abbrev ren : Tree → Tree
  ren t = apply (λ v. Var (f v)) t

  abbrev ren_token : Token → Token
  ren_token (Variable v) = Variable (f v)
  ren_token tok = tok

  abbrev ren_piece : Piece → Piece
  ren_piece p = record { token = ren_token p.token; has_blanks = p.has_blanks; is_prefix = p.is_prefix }

  abbrev rens : List Piece → List Piece
  rens [] = []
  rens (p ∷ ps) = ren_piece p ∷ rens ps

  rens-append : (ps qs : List Piece) → rens (ps ++ qs) ≡ rens ps ++ rens qs
  rens-append [] qs = refl
  rens-append (p ∷ ps) qs = ap (λ rs. ren_piece p ∷ rs) (rens-append ps qs)

  module _ (ops : Ops) where
    operator_same : (t : Tree) → operator_of ops (ren t) ≡ operator_of ops t
    operator_same (Var v) = refl
    operator_same (Number q) = refl
    operator_same (Name a) = refl
    operator_same (Compound a (one t)) = refl
    operator_same (Compound a (more t (one u))) = refl
    operator_same (Compound a (more t (more u us))) = refl

    never_same : (t : Tree) → is_never_bare ops (ren t) ≡ is_never_bare ops t
    never_same (Var v) = refl
    never_same (Number q) = refl
    never_same (Name a) = refl
    never_same (Compound a ts) = refl

    signed_same : (a : Text) (t : Tree) → is_signed a (ren t) ≡ is_signed a t
    signed_same a (Var v) = refl
    signed_same a (Number q) = refl
    signed_same a (Name b) = refl
    signed_same a (Compound b ts) = refl

    right_same : (most : ℕ) (t : Tree) → is_bare_right ops most (ren t) ≡ is_bare_right ops most t
    unfolding is_bare_right
    right_same most t = rw (operator_same t, never_same t) refl

    left_same : (op : OpDef) (t : Tree) → is_bare_left ops op (ren t) ≡ is_bare_left ops op t
    unfolding is_bare_left
    left_same op t = rw (operator_same t, never_same t) refl

    argument_same : (t : Tree) → is_bare_argument ops (ren t) ≡ is_bare_argument ops t
    unfolding is_bare_argument
    argument_same t = rw (operator_same t) refl

    ren_unless : (b : Bool) (ps : List Piece) → pc.unless b (rens ps) ≡ rens (pc.unless b ps)
    ren_unless true ps = refl
    ren_unless false ps = rw (rens-append ps (piece Close ∷ [])) refl

    ren_argument : (t : Tree) (ps : List Piece) → pc.as_argument ops (ren t) (rens ps) ≡ rens (pc.as_argument ops t ps)
    ren_argument t ps = rw (argument_same t) (ren_unless (is_bare_argument ops t) ps)

    ren_placed : (place : Place) (t : Tree) (ps : List Piece) → pc.placed ops place (ren t) (rens ps) ≡ rens (pc.placed ops place t ps)
    ren_placed Alone t ps = refl
    ren_placed InList t ps = rw (rens-append (pc.as_argument ops t ps) (piece CloseList ∷ []), ren_argument t ps) refl

    ren_functional : (a : Text) (ps : List Piece) → pc.functional a (rens ps) ≡ rens (pc.functional a ps)
    ren_functional a ps = rw (rens-append ps (piece Close ∷ [])) refl

    ren_prefix : (op : OpDef) (b : Bool) (a : Text) (t : Tree) (ps : List Piece) → pc.prefix_pieces ops op b a (ren t) (rens ps) ≡ rens (pc.prefix_pieces ops op b a t ps)
    ren_prefix op true a t ps = ren_functional a ps
    ren_prefix op false a t ps = rw (right_same (right_most op) t, ren_unless (is_bare_right ops (right_most op) t) ps) refl

    ren_operand : (o p : Option OpDef) (a : Text) (t : Tree) (ps : List Piece) → pc.operand_pieces ops o p a (ren t) (rens ps) ≡ rens (pc.operand_pieces ops o p a t ps)
    ren_operand (Some op) p a t ps = rw (signed_same a t) (ren_prefix op (is_signed a t) a t ps)
    ren_operand None (Some op) a t ps =
        rw (left_same op t, rens-append (pc.unless (is_bare_left ops op t) ps) (piece (Named a (needs_quotes a)) ∷ []), ren_unless (is_bare_left ops op t) ps) refl
    ren_operand None None a t ps = rw (ren_argument t ps) (ren_functional a (pc.as_argument ops t ps))

    ren_unary : (b : Bool) (a : Text) (t : Tree) (ps : List Piece) → pc.unary_pieces ops b a (ren t) (rens ps) ≡ rens (pc.unary_pieces ops b a t ps)
    ren_unary true a t ps = rw (rens-append ps (piece CloseCurly ∷ [])) refl
    ren_unary false a t ps = ren_operand (ops.prefix a) (ops.postfix a) a t ps

    -- ---- infix operators

    ren_if : (b : Bool) (x y : Token) → ren_token (if b then x else y) ≡ (if b then ren_token x else ren_token y)
    ren_if true x y = refl
    ren_if false x y = refl

    ren_before : (a : Text) (tok : Token) (ts us : List Token) → name_before a (ren_token tok ∷ ts) ≡ ren_token (name_before a (tok ∷ us))
    ren_before a (Variable v) ts us = refl
    ren_before a (Numeral q) ts us = sym (ren_if (bytes_eq a (codes "-")) Minus (Named a (needs_quotes a)))
    ren_before a (Codes bytes) ts us = refl
    ren_before a (Named b quoted) ts us = refl
    ren_before a (Functor b) ts us = refl
    ren_before a Minus ts us = refl
    ren_before a Open ts us = refl
    ren_before a Close ts us = refl
    ren_before a OpenList ts us = refl
    ren_before a CloseList ts us = refl
    ren_before a OpenCurly ts us = refl
    ren_before a CloseCurly ts us = refl
    ren_before a Comma ts us = refl
    ren_before a Bar ts us = refl
    ren_before a End ts us = refl

    ren_name : (a : Text) (ps : List Piece) → name_before a (tokens (rens ps)) ≡ ren_token (name_before a (tokens ps))
    ren_name a [] = refl
    ren_name a (p ∷ ps) = ren_before a p.token (tokens (rens ps)) (tokens ps)

    ren_infix_token : (a : Text) (ps : List Piece) → infix_token a (tokens (rens ps)) ≡ ren_token (infix_token a (tokens ps))
    unfolding infix_token
    ren_infix_token a ps = by (bytes_eq a (codes ",")) (is_spaced a) _ _ (ren_name a ps)
      where
        by : (x y : Bool) (u v : Token) → u ≡ ren_token v →
            (if x then Comma else if y then Named a (needs_quotes a) else u) ≡ ren_token (if x then Comma else if y then Named a (needs_quotes a) else v)
        by true y u v e = refl
        by false true u v e = refl
        by false false u v e = e

    ren_infix_piece : (a : Text) (ps : List Piece) → infix_piece a (rens ps) ≡ ren_piece (infix_piece a ps)
    ren_infix_piece a ps = rw (ren_infix_token a ps) refl

    ren_infix : (o : Option OpDef) (a : Text) (t u : Tree) (ps qs : List Piece) → pc.infix_pieces ops o a (ren t) (ren u) (rens ps) (rens qs) ≡ rens (pc.infix_pieces ops o a t u ps qs)
    ren_infix (Some op) a t u ps qs =
        rw (left_same op t, right_same (right_most op) u, ren_unless (is_bare_left ops op t) ps, ren_unless (is_bare_right ops (right_most op) u) qs, ren_infix_piece a (pc.unless (is_bare_right ops (right_most op) u) qs))
        (sym (rens-append (pc.unless (is_bare_left ops op t) ps) _))
    ren_infix None a t u ps qs =
        rw (ren_argument t ps, ren_argument u qs) (ap (pc.functional a) (sym (rens-append (pc.as_argument ops t ps) _)) ∙ ren_functional a _)

    ren_binary : (d : Bool) (place : Place) (a : Text) (t u : Tree) (ps qs rest : List Piece) →
        pc.binary_pieces ops d place a (ren t) (ren u) (rens ps) (rens qs) (rens rest) ≡ rens (pc.binary_pieces ops d place a t u ps qs rest)
    ren_binary true Alone a t u ps qs rest = rw (ren_argument t ps) (ap (λ xs. piece OpenList ∷ xs) (sym (rens-append (pc.as_argument ops t ps) rest)))
    ren_binary true InList a t u ps qs rest = rw (ren_argument t ps) (ap (λ xs. piece Comma ∷ xs) (sym (rens-append (pc.as_argument ops t ps) rest)))
    ren_binary false place a t u ps qs rest = rw (ren_infix (ops.infixed a) a t u ps qs) (ren_placed place (Compound a (more t (one u))) _)

    -- ---- terms

    ren_number : (b : Bool) (q : ℚ) → pc.number_pieces b q ≡ rens (pc.number_pieces b q)
    ren_number true q = refl
    ren_number false q = refl

    ren_atom : (b : Bool) (a : Text) → pc.atom_pieces b a ≡ rens (pc.atom_pieces b a)
    ren_atom true a = refl
    ren_atom false a = refl

    ren_nil : (place : Place) → pc.nil_pieces place ≡ rens (pc.nil_pieces place)
    ren_nil Alone = refl
    ren_nil InList = refl

    ren_atom_name : (b : Bool) (place : Place) (a : Text) → pc.name_pieces ops b place a ≡ rens (pc.name_pieces ops b place a)
    ren_atom_name true place a = ren_nil place
    ren_atom_name false place a = ap (pc.placed ops place (Name a)) (ren_atom (bytes_eq a (codes "{}")) a) ∙ ren_placed place (Name a) (pc.atom_pieces (bytes_eq a (codes "{}")) a)

    ren_more : (t : Tree) (ps qs ts us : List Piece) → ps ≡ rens ts → qs ≡ rens us →
        pc.as_argument ops (ren t) ps ++ piece Comma ∷ qs ≡ rens (pc.as_argument ops t ts ++ piece Comma ∷ us)
    ren_more t ps qs ts us e g = rw (e, g, ren_argument t ts) (sym (rens-append (pc.as_argument ops t ts) (piece Comma ∷ us)))

    mutual
      unfolding pieces_at

      ren_pieces : (place : Place) (t : Tree) → pieces_at ops place (ren t) ≡ rens (pieces_at ops place t)
      ren_pieces place (Var v) = ren_placed place (Var v) (piece (Variable v) ∷ [])
      ren_pieces place (Number q) = ap (pc.placed ops place (Number q)) (ren_number (is_negative q) q) ∙ ren_placed place (Number q) (pc.number_pieces (is_negative q) q)
      ren_pieces place (Name a) = ren_atom_name (bytes_eq a (codes "[]")) place a
      ren_pieces place (Compound a (one t)) =
          ap (λ ps. pc.placed ops place (ren (Compound a (one t))) (pc.unary_pieces ops (bytes_eq a (codes "{}")) a (ren t) ps)) (ren_pieces Alone t)
          ∙ ap (pc.placed ops place (ren (Compound a (one t)))) (ren_unary (bytes_eq a (codes "{}")) a t (pieces_at ops Alone t))
          ∙ ren_placed place (Compound a (one t)) (pc.unary_pieces ops (bytes_eq a (codes "{}")) a t (pieces_at ops Alone t))
      ren_pieces place (Compound a (more t (one u))) =
          rw (ren_pieces Alone t, ren_pieces Alone u, ren_pieces InList u)
          (ren_binary (bytes_eq a (codes ".")) place a t u (pieces_at ops Alone t) (pieces_at ops Alone u) (pieces_at ops InList u))
      ren_pieces place (Compound a (more t (more u us))) =
          ap (λ ps. pc.placed ops place (ren (Compound a (more t (more u us)))) (pc.functional a ps)) (ren_more t _ _ _ _ (ren_pieces Alone t) (ren_arguments (more u us)))
          ∙ ap (pc.placed ops place (ren (Compound a (more t (more u us))))) (ren_functional a _)
          ∙ ren_placed place (Compound a (more t (more u us))) _

      ren_arguments : (ts : Terms Text) → argument_pieces ops (apply_all (λ v. Var (f v)) ts) ≡ rens (argument_pieces ops ts)
      ren_arguments (one t) = ap (pc.as_argument ops (ren t)) (ren_pieces Alone t) ∙ ren_argument t (pieces_at ops Alone t)
      ren_arguments (more t ts) = ren_more t _ _ _ _ (ren_pieces Alone t) (ren_arguments ts)

    ren_within : (m : ℕ) (t : Tree) → pieces_within ops m (ren t) ≡ rens (pieces_within ops m t)
    ren_within m t = rw (operator_same t, ren_pieces Alone t) (ren_unless (nat_le (priority ops t) m) (pieces ops t))

  -- ---- texts

  module _ (name other : ℕ → Text) (names : (v : ℕ) → name (f v) ≡ other v) where
    token_same : (tok : Token) → token_text Quoted name (ren_token tok) ≡ token_text Quoted other tok
    token_same (Variable v) = names v
    token_same (Numeral q) = refl
    token_same (Codes bytes) = refl
    token_same (Named a quoted) = refl
    token_same (Functor a) = refl
    token_same Minus = refl
    token_same Open = refl
    token_same Close = refl
    token_same OpenList = refl
    token_same CloseList = refl
    token_same OpenCurly = refl
    token_same CloseCurly = refl
    token_same Comma = refl
    token_same Bar = refl
    token_same End = refl

    apart_same : (p q : Piece) → is_apart Quoted name (ren_piece p) (ren_piece q) ≡ is_apart Quoted other p q
    unfolding is_apart
    apart_same p q = rw (token_same p.token, token_same q.token) refl

    blank_same : (p : Piece) (ps : List Piece) → blank_behind Quoted name (ren_piece p) (rens ps) ≡ blank_behind Quoted other p ps
    blank_same p [] = refl
    blank_same p (q ∷ qs) = rw (apart_same p q) refl

    joined_same : (ps : List Piece) → joined Quoted name (rens ps) ≡ joined Quoted other ps
    joined_same [] = refl
    joined_same (p ∷ ps) = rw (token_same p.token, blank_same p ps, joined_same ps) refl

    rens_if : (b : Bool) (ps qs : List Piece) → (if b then rens ps else rens qs) ≡ rens (if b then ps else qs)
    rens_if true ps qs = refl
    rens_if false ps qs = refl

    seen_same : (ps : List Piece) → seen Quoted name (rens ps) ≡ rens (seen Quoted other ps)
    seen_same [] = refl
    seen_same (p ∷ ps) =
        rw (token_same p.token, seen_same ps) (rens_if ((length (text_of Quoted other p) == 0) && not p.has_blanks) (seen Quoted other ps) (p ∷ seen Quoted other ps))

-- the text takes no notice of the variables but for their names
pub names_shown : (ops : Ops) (name other : ℕ → Text) (f : ℕ → ℕ) (m : ℕ) (t : Tree) → ((v : ℕ) → name (f v) ≡ other v) →
    text_by Quoted ops name m (apply (λ v. Var (f v)) t) ≡ text_by Quoted ops other m t
names_shown ops name other f m t names =
    ap (λ ps. joined Quoted name (seen Quoted name ps)) (ren_within f ops m t)
    ∙ ap (joined Quoted name) (seen_same f name other names (pieces_within ops m t))
    ∙ joined_same f name other names (seen Quoted other (pieces_within ops m t))
