-- The text of a term takes no notice of the names of variables that do not stand in it.
use Rattle.std.proofs.Common.{◌≡◌, ℕ, Bool, true, false, not, ◌&&◌, List, [], ◌∷◌, ◌++◌, codes, length, Option, Some, None, refl, ap, ap₂, ◌∙◌, nat_le, inl, inr}
use Rattle.std.specs.Prelude.{◌==◌, bytes_eq, if◌then◌else◌, filter, ⊤}
use Rattle.spec_numbers.specs.Rational.{ℚ}
use Rattle.spec_syntax.specs.declared.operators.OpDef.{OpDef}
use Rattle.spec_syntax.specs.Operators.{Ops, right_most}
use Rattle.spec_numbers.specs.Texts.{Text}
use Rattle.spec_terms.specs.Term.{Terms, Var, Number, Name, Compound, one, more, Occurs, OccursIn}
use Rattle.spec_terms.specs.VariableName.{VariableName}
use Rattle.spec_terms.specs.Variables.{variables}
use Rattle.spec_syntax.specs.Tokens.{Token, Variable, Numeral, Codes, Named, Functor, Minus, Open, Close, OpenList, CloseList, OpenCurly, CloseCurly, Comma, Bar, End}
use Rattle.spec_syntax.specs.Trees.{Tree}
use Rattle.spec_syntax.specs.Writing.{Place, Alone, InList, priority, is_negative, is_bare_right, is_bare_left, is_bare_argument, is_signed, is_spaced, needs_quotes, name_before, infix_token, cell_token}
use Rattle.spec_text.specs.Pieces.{Piece, piece, tokens, pieces, pieces_at, argument_pieces, infix_piece}
use Rattle.spec_text.specs.Pieces as pc
use Rattle.spec_text.specs.declared.writing.Style.{Style}
use Rattle.spec_text.specs.Texts.{token_text, text_of, own_blank, blank_behind, is_apart, joined, seen}
use Rattle.spec_text.specs.Written.{given_name, is_unnamed, shown, counted_name, pieces_within, text_by, text_within}

-- ---- the variables of a term's pieces are those of the term

module _ (P : ℕ → Type 0) where
  abbrev Holds : Token → Type 0
  Holds (Variable v) = P v
  Holds tok = ⊤

  abbrev Each : List Piece → Type 0
  Each [] = ⊤
  Each (p ∷ ps) = Holds p.token × Each ps

  each-append : (ps qs : List Piece) → Each ps → Each qs → Each (ps ++ qs)
  each-append [] qs h k = k
  each-append (p ∷ ps) qs h k = (h.0, each-append ps qs h.1 k)

  module _ (ops : Ops) where
    each_unless : (b : Bool) (ps : List Piece) → Each ps → Each (pc.unless b ps)
    each_unless true ps h = h
    each_unless false ps h = (tt, each-append ps (piece Close ∷ []) h (tt, tt))

    each_argument : (t : Tree) (ps : List Piece) → Each ps → Each (pc.as_argument ops t ps)
    each_argument t ps h = each_unless (is_bare_argument ops t) ps h

    each_placed : (place : Place) (t : Tree) (ps : List Piece) → Each ps → Each (pc.placed ops place t ps)
    each_placed Alone t ps h = h
    each_placed InList t ps h = (tt, each-append (pc.as_argument ops t ps) (piece CloseList ∷ []) (each_argument t ps h) (tt, tt))

    each_functional : (a : Text) (ps : List Piece) → Each ps → Each (pc.functional a ps)
    each_functional a ps h = (tt, (tt, each-append ps (piece Close ∷ []) h (tt, tt)))

    each_prefix : (op : OpDef) (b : Bool) (a : Text) (t : Tree) (ps : List Piece) → Each ps → Each (pc.prefix_pieces ops op b a t ps)
    each_prefix op true a t ps h = each_functional a ps h
    each_prefix op false a t ps h = (tt, each_unless (is_bare_right ops (right_most op) t) ps h)

    each_operand : (o p : Option OpDef) (a : Text) (t : Tree) (ps : List Piece) → Each ps → Each (pc.operand_pieces ops o p a t ps)
    each_operand (Some op) p a t ps h = each_prefix op (is_signed a t) a t ps h
    each_operand None (Some op) a t ps h = each-append (pc.unless (is_bare_left ops op t) ps) (piece (Named a (needs_quotes a)) ∷ []) (each_unless (is_bare_left ops op t) ps h) (tt, tt)
    each_operand None None a t ps h = each_functional a (pc.as_argument ops t ps) (each_argument t ps h)

    each_unary : (b : Bool) (a : Text) (t : Tree) (ps : List Piece) → Each ps → Each (pc.unary_pieces ops b a t ps)
    each_unary true a t ps h = (tt, each-append ps (piece CloseCurly ∷ []) h (tt, tt))
    each_unary false a t ps h = each_operand (ops.prefix a) (ops.postfix a) a t ps h

    -- ---- infix operators

    holds_if : (b : Bool) (x y : Token) → Holds x → Holds y → Holds (if b then x else y)
    holds_if true x y h k = h
    holds_if false x y h k = k

    holds_before : (a : Text) (ts : List Token) → Holds (name_before a ts)
    holds_before a [] = tt
    holds_before a (Variable v ∷ ts) = tt
    holds_before a (Numeral q ∷ ts) = holds_if (bytes_eq a (codes "-")) Minus (Named a (needs_quotes a)) tt tt
    holds_before a (Codes bytes ∷ ts) = tt
    holds_before a (Named b quoted ∷ ts) = tt
    holds_before a (Functor b ∷ ts) = tt
    holds_before a (Minus ∷ ts) = tt
    holds_before a (Open ∷ ts) = tt
    holds_before a (Close ∷ ts) = tt
    holds_before a (OpenList ∷ ts) = tt
    holds_before a (CloseList ∷ ts) = tt
    holds_before a (OpenCurly ∷ ts) = tt
    holds_before a (CloseCurly ∷ ts) = tt
    holds_before a (Comma ∷ ts) = tt
    holds_before a (Bar ∷ ts) = tt
    holds_before a (End ∷ ts) = tt

    holds_infix : (a : Text) (ps : List Piece) → Holds (infix_token a (tokens ps))
    unfolding infix_token
    holds_infix a ps =
        holds_if (bytes_eq a (codes ",")) Comma (if is_spaced a then Named a (needs_quotes a) else name_before a (tokens ps)) tt
        (holds_if (is_spaced a) (Named a (needs_quotes a)) (name_before a (tokens ps)) tt (holds_before a (tokens ps)))

    each_infix : (o : Option OpDef) (a : Text) (t u : Tree) (ps qs : List Piece) → Each ps → Each qs → Each (pc.infix_pieces ops o a t u ps qs)
    each_infix (Some op) a t u ps qs h k =
        let right = pc.unless (is_bare_right ops (right_most op) u) qs in
        each-append (pc.unless (is_bare_left ops op t) ps) (infix_piece a right ∷ right) (each_unless (is_bare_left ops op t) ps h)
        (holds_infix a right, each_unless (is_bare_right ops (right_most op) u) qs k)
    each_infix None a t u ps qs h k =
        each_functional a (pc.as_argument ops t ps ++ piece Comma ∷ pc.as_argument ops u qs)
        (each-append (pc.as_argument ops t ps) (piece Comma ∷ pc.as_argument ops u qs) (each_argument t ps h) (tt, each_argument u qs k))

    holds_cell : (place : Place) → Holds (cell_token place)
    holds_cell Alone = tt
    holds_cell InList = tt

    each_binary : (d : Bool) (place : Place) (a : Text) (t u : Tree) (ps qs rest : List Piece) → Each ps → Each qs → Each rest → Each (pc.binary_pieces ops d place a t u ps qs rest)
    each_binary true place a t u ps qs rest h k l = (holds_cell place, each-append (pc.as_argument ops t ps) rest (each_argument t ps h) l)
    each_binary false place a t u ps qs rest h k l = each_placed place (Compound a (more t (one u))) (pc.infix_pieces ops (ops.infixed a) a t u ps qs) (each_infix (ops.infixed a) a t u ps qs h k)

    -- ---- terms

    each_number : (b : Bool) (q : ℚ) → Each (pc.number_pieces b q)
    each_number true q = (tt, (tt, tt))
    each_number false q = (tt, tt)

    each_nil : (place : Place) → Each (pc.nil_pieces place)
    each_nil Alone = (tt, (tt, tt))
    each_nil InList = (tt, tt)

    each_atom : (b : Bool) (a : Text) → Each (pc.atom_pieces b a)
    each_atom true a = (tt, (tt, tt))
    each_atom false a = (tt, tt)

    each_name : (b : Bool) (place : Place) (a : Text) → Each (pc.name_pieces ops b place a)
    each_name true place a = each_nil place
    each_name false place a = each_placed place (Name a) (pc.atom_pieces (bytes_eq a (codes "{}")) a) (each_atom (bytes_eq a (codes "{}")) a)

    each_more : (t : Tree) (ps qs : List Piece) → Each ps → Each qs → Each (pc.as_argument ops t ps ++ piece Comma ∷ qs)
    each_more t ps qs h k = each-append (pc.as_argument ops t ps) (piece Comma ∷ qs) (each_argument t ps h) (tt, k)

    mutual
      unfolding pieces_at

      each_pieces : (place : Place) (t : Tree) → ((v : ℕ) → Occurs v t → P v) → Each (pieces_at ops place t)
      each_pieces place (Var v) h = each_placed place (Var v) (piece (Variable v) ∷ []) (h v refl, tt)
      each_pieces place (Number q) h = each_placed place (Number q) (pc.number_pieces (is_negative q) q) (each_number (is_negative q) q)
      each_pieces place (Name a) h = each_name (bytes_eq a (codes "[]")) place a
      each_pieces place (Compound a (one t)) h =
          each_placed place (Compound a (one t)) (pc.unary_pieces ops (bytes_eq a (codes "{}")) a t (pieces_at ops Alone t))
          (each_unary (bytes_eq a (codes "{}")) a t (pieces_at ops Alone t) (each_pieces Alone t h))
      each_pieces place (Compound a (more t (one u))) h =
          each_binary (bytes_eq a (codes ".")) place a t u (pieces_at ops Alone t) (pieces_at ops Alone u) (pieces_at ops InList u)
          (each_pieces Alone t (λ v o. h v (inl o))) (each_pieces Alone u (λ v o. h v (inr o))) (each_pieces InList u (λ v o. h v (inr o)))
      each_pieces place (Compound a (more t (more u us))) h =
          let qs = argument_pieces ops (more u us) in
          each_placed place (Compound a (more t (more u us))) (pc.functional a (pc.as_argument ops t (pieces_at ops Alone t) ++ piece Comma ∷ qs))
          (each_functional a (pc.as_argument ops t (pieces_at ops Alone t) ++ piece Comma ∷ qs)
          (each_more t (pieces_at ops Alone t) qs (each_pieces Alone t (λ v o. h v (inl o))) (each_arguments (more u us) (λ v o. h v (inr o)))))

      each_arguments : (ts : Terms Text) → ((v : ℕ) → OccursIn v ts → P v) → Each (argument_pieces ops ts)
      each_arguments (one t) h = each_argument t (pieces_at ops Alone t) (each_pieces Alone t h)
      each_arguments (more t ts) h =
          each_more t (pieces_at ops Alone t) (argument_pieces ops ts) (each_pieces Alone t (λ v o. h v (inl o))) (each_arguments ts (λ v o. h v (inr o)))

    each_within : (m : ℕ) (t : Tree) → ((v : ℕ) → Occurs v t → P v) → Each (pieces_within ops m t)
    each_within m t h = each_unless (nat_le (priority ops t) m) (pieces ops t) (each_pieces Alone t h)

-- ---- texts

module _ (style : Style) (name other : ℕ → Text) where
  abbrev Same : List Piece → Type 0
  Same ps = Each (λ v. name v ≡ other v) ps

  token_same : (tok : Token) → Holds (λ v. name v ≡ other v) tok → token_text style name tok ≡ token_text style other tok
  token_same (Variable v) h = h
  token_same (Numeral q) h = refl
  token_same (Codes bytes) h = refl
  token_same (Named a quoted) h = refl
  token_same (Functor a) h = refl
  token_same Minus h = refl
  token_same Open h = refl
  token_same Close h = refl
  token_same OpenList h = refl
  token_same CloseList h = refl
  token_same OpenCurly h = refl
  token_same CloseCurly h = refl
  token_same Comma h = refl
  token_same Bar h = refl
  token_same End h = refl

  apart_same : (p q : Piece) → text_of style name p ≡ text_of style other p → text_of style name q ≡ text_of style other q → is_apart style name p q ≡ is_apart style other p q
  unfolding is_apart
  apart_same p q e f = rw (e, f) refl

  behind_same : (p : Piece) (ps : List Piece) → Same (p ∷ ps) → blank_behind style name p ps ≡ blank_behind style other p ps
  behind_same p [] h = refl
  behind_same p (q ∷ qs) h = rw (apart_same p q (token_same p.token h.0) (token_same q.token h.1.0)) refl

  joined_same : (ps : List Piece) → Same ps → joined style name ps ≡ joined style other ps
  joined_same [] h = refl
  joined_same (p ∷ ps) h =
      ap₂ (λ (a b : Text). own_blank p ++ (a ++ (own_blank p ++ (b ++ joined style name ps)))) (token_same p.token h.0) (behind_same p ps h)
      ∙ ap (λ (r : Text). own_blank p ++ (text_of style other p ++ (own_blank p ++ (blank_behind style other p ps ++ r)))) (joined_same ps h.1)

  same_if : (b : Bool) (ps qs : List Piece) → Same ps → Same qs → Same (if b then ps else qs)
  same_if true ps qs h k = h
  same_if false ps qs h k = k

  seen_still : (ps : List Piece) → Same ps → Same (seen style name ps)
  seen_still [] h = tt
  seen_still (p ∷ ps) h =
      same_if ((length (text_of style name p) == 0) && not p.has_blanks) (seen style name ps) (p ∷ seen style name ps) (seen_still ps h.1) (h.0, seen_still ps h.1)

  seen_same : (ps : List Piece) → Same ps → seen style name ps ≡ seen style other ps
  seen_same [] h = refl
  seen_same (p ∷ ps) h = rw (token_same p.token h.0, seen_same ps h.1) refl

-- names that agree on the variables of a term make one text
pub text_agrees : (style : Style) (ops : Ops) (name other : ℕ → Text) (m : ℕ) (t : Tree) → ((v : ℕ) → Occurs v t → name v ≡ other v) → text_by style ops name m t ≡ text_by style ops other m t
text_agrees style ops name other m t h =
    let ps = pieces_within ops m t in
    let same : Each (λ v. name v ≡ other v) ps = each_within (λ v. name v ≡ other v) ops m t h in
    joined_same style name other (seen style name ps) (seen_still style name other ps same)
    ∙ ap (joined style other) (seen_same style name other ps same)

-- ---- given names

pub shown_given : (names : List VariableName) (unnamed : List ℕ) (v : ℕ) (f : Text) → given_name names v ≡ Some f → shown names unnamed v ≡ f
shown_given names unnamed v f e = ap (λ o. elim o [ Some g ↦ g | None ↦ counted_name (Rattle.std.specs.List.position_or_len (λ w. w == v) unnamed) ]) e

-- where each variable of a term is given its name, the term is written with these names
pub text_named : (style : Style) (ops : Ops) (names : List VariableName) (name : ℕ → Text) (m : ℕ) (t : Tree) → ((v : ℕ) → Occurs v t → given_name names v ≡ Some (name v)) →
    text_within style ops names m t ≡ text_by style ops name m t
text_named style ops names name m t h =
    text_agrees style ops (shown names (filter (is_unnamed names) (variables t))) name m t (λ v o. shown_given names (filter (is_unnamed names) (variables t)) v (name v) (h v o))
