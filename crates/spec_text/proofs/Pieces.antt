-- The pieces of a term whose variables have other numbers.
use Rattle.std.proofs.Common.{◌≡◌, ℕ, Bool, true, false, not, ◌&&◌, List, [], ◌∷◌, ◌++◌, codes, map, Option, Some, None, refl, sym, ap, ap₂, ◌∙◌}
use Rattle.std.specs.Prelude.{bytes_eq, nat_le, nat_lt, if◌then◌else◌}
use Rattle.std.proofs.lemmas.List.{map-append}
use Rattle.spec_numbers.specs.Rational.{ℚ}
use Rattle.spec_syntax.specs.declared.operators.OpDef.{OpDef}
use Rattle.spec_syntax.specs.Operators.{Ops, left_most, right_most}
use Rattle.spec_numbers.specs.Texts.{Text}
use Rattle.spec_terms.specs.Term.{Terms, Subst, Var, Number, Name, Compound, one, more, apply, apply_all}
use Rattle.spec_syntax.specs.Tokens.{Token, Variable, Numeral, Codes, Named, Functor, Minus, Open, Close, OpenList, CloseList, OpenCurly, CloseCurly, Comma, Bar, End}
use Rattle.spec_syntax.specs.Trees.{Tree}
use Rattle.spec_syntax.specs.Writing.{operator_of, priority, priority_of, open_end, right_end, is_never_bare, is_bare_right, is_bare_left, is_bare_argument, is_negative, is_signed, is_spaced, needs_quotes, name_before, infix_token, Place, Alone, InList, cell_token}
use Rattle.spec_text.specs.Pieces.{Piece, piece, prefix_piece, tokens, infix_piece, unless, as_argument, placed, number_pieces, nil_pieces, atom_pieces, name_pieces, functional, prefix_pieces, operand_pieces, unary_pieces, infix_pieces, binary_pieces, pieces_at, argument_pieces}

module _ (f : ℕ → ℕ) where
  -- the variables have these numbers
  abbrev pub other : Subst Text
  other v = Var (f v)

  abbrev pub other_token : Token → Token
  other_token (Variable v) = Variable (f v)
  other_token (Numeral q) = Numeral q
  other_token (Codes bytes) = Codes bytes
  other_token (Named g quoted) = Named g quoted
  other_token (Functor g) = Functor g
  other_token Minus = Minus
  other_token Open = Open
  other_token Close = Close
  other_token OpenList = OpenList
  other_token CloseList = CloseList
  other_token OpenCurly = OpenCurly
  other_token CloseCurly = CloseCurly
  other_token Comma = Comma
  other_token Bar = Bar
  other_token End = End

  abbrev pub other_piece : Piece → Piece
  other_piece p = record { token = other_token p.token; has_blanks = p.has_blanks; is_prefix = p.is_prefix }

  abbrev pub others : List Piece → List Piece
  others ps = map other_piece ps

  -- ---- shapes

  operator_same : (ops : Ops) (t : Tree) → operator_of ops (apply other t) ≡ operator_of ops t
  operator_same ops (Var v) = refl
  operator_same ops (Number q) = refl
  operator_same ops (Name g) = refl
  operator_same ops (Compound g (one a)) = refl
  operator_same ops (Compound g (more a (one b))) = refl
  operator_same ops (Compound g (more a (more b cs))) = refl

  pub priority_same : (ops : Ops) (t : Tree) → priority ops (apply other t) ≡ priority ops t
  priority_same ops t = ap priority_of (operator_same ops t)

  open_same : (ops : Ops) (t : Tree) → open_end ops (apply other t) ≡ open_end ops t
  open_same ops t = ap right_end (operator_same ops t)

  never_same : (ops : Ops) (t : Tree) → is_never_bare ops (apply other t) ≡ is_never_bare ops t
  never_same ops (Var v) = refl
  never_same ops (Number q) = refl
  never_same ops (Name g) = refl
  never_same ops (Compound g ts) = refl

  signed_same : (g : Text) (t : Tree) → is_signed g (apply other t) ≡ is_signed g t
  signed_same g (Var v) = refl
  signed_same g (Number q) = refl
  signed_same g (Name h) = refl
  signed_same g (Compound h ts) = refl

  right_same : (ops : Ops) (most : ℕ) (a : Tree) → is_bare_right ops most (apply other a) ≡ is_bare_right ops most a
  unfolding is_bare_right
  right_same ops most a = ap₂ (λ (n : ℕ) (b : Bool). nat_le n most && not b) (priority_same ops a) (never_same ops a)

  left_same : (ops : Ops) (op : OpDef) (a : Tree) → is_bare_left ops op (apply other a) ≡ is_bare_left ops op a
  unfolding is_bare_left
  left_same ops op a =
      ap₂ (λ (n : ℕ) (e : ℕ). (nat_le n (left_most op) && nat_lt e op.priority) && not (is_never_bare ops (apply other a))) (priority_same ops a) (open_same ops a)
      ∙ ap (λ (b : Bool). (nat_le (priority ops a) (left_most op) && nat_lt (open_end ops a) op.priority) && not b) (never_same ops a)

  argument_same : (ops : Ops) (a : Tree) → is_bare_argument ops (apply other a) ≡ is_bare_argument ops a
  unfolding is_bare_argument
  argument_same ops a = ap (λ (n : ℕ). nat_le n 999) (priority_same ops a)

  -- ---- pieces

  pub unless_others : (b : Bool) (ps : List Piece) → unless b (others ps) ≡ others (unless b ps)
  unless_others true ps = refl
  unless_others false ps = ap (λ (qs : List Piece). piece Open ∷ qs) (sym (map-append other_piece ps (piece Close ∷ [])))

  as_others : (ops : Ops) (a : Tree) (ps : List Piece) → as_argument ops (apply other a) (others ps) ≡ others (as_argument ops a ps)
  as_others ops a ps = ap (λ (b : Bool). unless b (others ps)) (argument_same ops a) ∙ unless_others (is_bare_argument ops a) ps

  placed_others : (ops : Ops) (place : Place) (t : Tree) (ps : List Piece) → placed ops place (apply other t) (others ps) ≡ others (placed ops place t ps)
  placed_others ops Alone t ps = refl
  placed_others ops InList t ps =
      ap (λ (qs : List Piece). piece Bar ∷ qs ++ piece CloseList ∷ []) (as_others ops t ps)
      ∙ ap (λ (qs : List Piece). piece Bar ∷ qs) (sym (map-append other_piece (as_argument ops t ps) (piece CloseList ∷ [])))

  functional_others : (g : Text) (ps : List Piece) → functional g (others ps) ≡ others (functional g ps)
  functional_others g ps = ap (λ (qs : List Piece). piece (Functor g) ∷ piece Open ∷ qs) (sym (map-append other_piece ps (piece Close ∷ [])))

  numbers_stay : (b : Bool) (q : ℚ) → number_pieces b q ≡ others (number_pieces b q)
  numbers_stay true q = refl
  numbers_stay false q = refl

  nil_stays : (place : Place) → nil_pieces place ≡ others (nil_pieces place)
  nil_stays Alone = refl
  nil_stays InList = refl

  atoms_stay : (b : Bool) (g : Text) → atom_pieces b g ≡ others (atom_pieces b g)
  atoms_stay true g = refl
  atoms_stay false g = refl

  names_stay : (ops : Ops) (b : Bool) (place : Place) (g : Text) → name_pieces ops b place g ≡ others (name_pieces ops b place g)
  names_stay ops true place g = nil_stays place
  names_stay ops false place g =
      ap (placed ops place (Name g)) (atoms_stay (bytes_eq g (codes "{}")) g) ∙ placed_others ops place (Name g) (atom_pieces (bytes_eq g (codes "{}")) g)

  prefix_others : (ops : Ops) (op : OpDef) (b : Bool) (g : Text) (a : Tree) (ps : List Piece)
      → prefix_pieces ops op b g (apply other a) (others ps) ≡ others (prefix_pieces ops op b g a ps)
  prefix_others ops op true g a ps = functional_others g ps
  prefix_others ops op false g a ps =
      ap (λ (qs : List Piece). prefix_piece g ∷ qs)
      (ap (λ (b : Bool). unless b (others ps)) (right_same ops (right_most op) a) ∙ unless_others (is_bare_right ops (right_most op) a) ps)

  operand_others : (ops : Ops) (pre post : Option OpDef) (g : Text) (a : Tree) (ps : List Piece)
      → operand_pieces ops pre post g (apply other a) (others ps) ≡ others (operand_pieces ops pre post g a ps)
  operand_others ops (Some op) post g a ps =
      ap (λ (b : Bool). prefix_pieces ops op b g (apply other a) (others ps)) (signed_same g a) ∙ prefix_others ops op (is_signed g a) g a ps
  operand_others ops None (Some op) g a ps =
      ap (λ (qs : List Piece). qs ++ piece (Named g (needs_quotes g)) ∷ [])
      (ap (λ (b : Bool). unless b (others ps)) (left_same ops op a) ∙ unless_others (is_bare_left ops op a) ps)
      ∙ sym (map-append other_piece (unless (is_bare_left ops op a) ps) (piece (Named g (needs_quotes g)) ∷ []))
  operand_others ops None None g a ps = ap (functional g) (as_others ops a ps) ∙ functional_others g (as_argument ops a ps)

  unary_others : (ops : Ops) (b : Bool) (g : Text) (a : Tree) (ps : List Piece) → unary_pieces ops b g (apply other a) (others ps) ≡ others (unary_pieces ops b g a ps)
  unary_others ops true g a ps = ap (λ (qs : List Piece). piece OpenCurly ∷ qs) (sym (map-append other_piece ps (piece CloseCurly ∷ [])))
  unary_others ops false g a ps = operand_others ops (ops.prefix g) (ops.postfix g) g a ps

  before_same : (g : Text) (t : Token) (ts us : List Token) → name_before g (other_token t ∷ us) ≡ name_before g (t ∷ ts)
  before_same g (Variable v) ts us = refl
  before_same g (Numeral q) ts us = refl
  before_same g (Codes bytes) ts us = refl
  before_same g (Named h quoted) ts us = refl
  before_same g (Functor h) ts us = refl
  before_same g Minus ts us = refl
  before_same g Open ts us = refl
  before_same g Close ts us = refl
  before_same g OpenList ts us = refl
  before_same g CloseList ts us = refl
  before_same g OpenCurly ts us = refl
  before_same g CloseCurly ts us = refl
  before_same g Comma ts us = refl
  before_same g Bar ts us = refl
  before_same g End ts us = refl

  named_before : (g : Text) (ps : List Piece) → name_before g (tokens (others ps)) ≡ name_before g (tokens ps)
  named_before g [] = refl
  named_before g (p ∷ ps) = before_same g p.token (tokens ps) (tokens (others ps))

  infix_stays : (g : Text) (ps : List Piece) → infix_token g (tokens (others ps)) ≡ infix_token g (tokens ps)
  unfolding infix_token
  infix_stays g ps =
      ap (λ (t : Token). if bytes_eq g (codes ",") then Comma else if is_spaced g then Named g (needs_quotes g) else t) (named_before g ps)

  -- an infix operator's token is the same for other numbers
  token_stays : (g : Text) (ts : List Token) → infix_token g ts ≡ other_token (infix_token g ts)
  unfolding infix_token
  token_stays g ts = by (bytes_eq g (codes ",")) (is_spaced g) ts
    where
      before_stays : (us : List Token) → name_before g us ≡ other_token (name_before g us)
      before_stays [] = refl
      before_stays (Variable v ∷ us) = refl
      before_stays (Numeral q ∷ us) = minus (bytes_eq g (codes "-"))
        where
          minus : (b : Bool) → (if b then Minus else Named g (needs_quotes g)) ≡ other_token (if b then Minus else Named g (needs_quotes g))
          minus true = refl
          minus false = refl
      before_stays (Codes bytes ∷ us) = refl
      before_stays (Named h quoted ∷ us) = refl
      before_stays (Functor h ∷ us) = refl
      before_stays (Minus ∷ us) = refl
      before_stays (Open ∷ us) = refl
      before_stays (Close ∷ us) = refl
      before_stays (OpenList ∷ us) = refl
      before_stays (CloseList ∷ us) = refl
      before_stays (OpenCurly ∷ us) = refl
      before_stays (CloseCurly ∷ us) = refl
      before_stays (Comma ∷ us) = refl
      before_stays (Bar ∷ us) = refl
      before_stays (End ∷ us) = refl

      by : (comma spaced : Bool) (us : List Token) → (if comma then Comma else if spaced then Named g (needs_quotes g) else name_before g us)
          ≡ other_token (if comma then Comma else if spaced then Named g (needs_quotes g) else name_before g us)
      by true spaced us = refl
      by false true us = refl
      by false false us = before_stays us

  infix_piece_others : (g : Text) (ps : List Piece) → infix_piece g (others ps) ≡ other_piece (infix_piece g ps)
  infix_piece_others g ps =
      ap (λ (t : Token). record { token = t; has_blanks = not (bytes_eq g (codes ",")) && is_spaced g; is_prefix = false }) (infix_stays g ps ∙ token_stays g (tokens ps))

  infix_others : (ops : Ops) (o : Option OpDef) (g : Text) (a b : Tree) (ps qs : List Piece)
      → infix_pieces ops o g (apply other a) (apply other b) (others ps) (others qs) ≡ others (infix_pieces ops o g a b ps qs)
  infix_others ops (Some op) g a b ps qs =
      let right = unless (is_bare_right ops (right_most op) b) qs in
      let left = unless (is_bare_left ops op a) ps in
      let same_right : unless (is_bare_right ops (right_most op) (apply other b)) (others qs) ≡ others right =
      ap (λ (x : Bool). unless x (others qs)) (right_same ops (right_most op) b) ∙ unless_others (is_bare_right ops (right_most op) b) qs in
      let same_left : unless (is_bare_left ops op (apply other a)) (others ps) ≡ others left =
      ap (λ (x : Bool). unless x (others ps)) (left_same ops op a) ∙ unless_others (is_bare_left ops op a) ps in
      ap₂ (λ (l r : List Piece). l ++ infix_piece g r ∷ r) same_left same_right
      ∙ ap (λ (p : Piece). others left ++ p ∷ others right) (infix_piece_others g right)
      ∙ sym (map-append other_piece left (infix_piece g right ∷ right))
  infix_others ops None g a b ps qs =
      ap₂ (λ (l r : List Piece). functional g (l ++ piece Comma ∷ r)) (as_others ops a ps) (as_others ops b qs)
      ∙ ap (functional g) (sym (map-append other_piece (as_argument ops a ps) (piece Comma ∷ as_argument ops b qs)))
      ∙ functional_others g (as_argument ops a ps ++ piece Comma ∷ as_argument ops b qs)

  cell_stays : (place : Place) → cell_token place ≡ other_token (cell_token place)
  cell_stays Alone = refl
  cell_stays InList = refl

  binary_others : (ops : Ops) (list : Bool) (place : Place) (g : Text) (a b : Tree) (ps qs rest : List Piece)
      → binary_pieces ops list place g (apply other a) (apply other b) (others ps) (others qs) (others rest) ≡ others (binary_pieces ops list place g a b ps qs rest)
  binary_others ops true place g a b ps qs rest =
      ap₂ (λ (t : Token) (l : List Piece). piece t ∷ l ++ others rest) (cell_stays place) (as_others ops a ps)
      ∙ ap (λ (l : List Piece). piece (other_token (cell_token place)) ∷ l) (sym (map-append other_piece (as_argument ops a ps) rest))
  binary_others ops false place g a b ps qs rest =
      ap (placed ops place (apply other (Compound g (more a (one b))))) (infix_others ops (ops.infixed g) g a b ps qs)
      ∙ placed_others ops place (Compound g (more a (one b))) (infix_pieces ops (ops.infixed g) g a b ps qs)

  mutual
    unfolding pieces_at argument_pieces

    pub pieces_others : (ops : Ops) (place : Place) (t : Tree) → pieces_at ops place (apply other t) ≡ others (pieces_at ops place t)
    pieces_others ops place (Var v) = placed_others ops place (Var v) (piece (Variable v) ∷ [])
    pieces_others ops place (Number q) =
        ap (placed ops place (Number q)) (numbers_stay (is_negative q) q) ∙ placed_others ops place (Number q) (number_pieces (is_negative q) q)
    pieces_others ops place (Name g) = names_stay ops (bytes_eq g (codes "[]")) place g
    pieces_others ops place (Compound g (one a)) =
        ap (λ (ps : List Piece). placed ops place (apply other (Compound g (one a))) (unary_pieces ops (bytes_eq g (codes "{}")) g (apply other a) ps)) (pieces_others ops Alone a)
        ∙ ap (placed ops place (apply other (Compound g (one a)))) (unary_others ops (bytes_eq g (codes "{}")) g a (pieces_at ops Alone a))
        ∙ placed_others ops place (Compound g (one a)) (unary_pieces ops (bytes_eq g (codes "{}")) g a (pieces_at ops Alone a))
    pieces_others ops place (Compound g (more a (one b))) =
        ap₂ (λ (ps qs : List Piece). binary_pieces ops (bytes_eq g (codes ".")) place g (apply other a) (apply other b) ps qs (pieces_at ops InList (apply other b)))
        (pieces_others ops Alone a) (pieces_others ops Alone b)
        ∙ ap (binary_pieces ops (bytes_eq g (codes ".")) place g (apply other a) (apply other b) (others (pieces_at ops Alone a)) (others (pieces_at ops Alone b))) (pieces_others ops InList b)
        ∙ binary_others ops (bytes_eq g (codes ".")) place g a b (pieces_at ops Alone a) (pieces_at ops Alone b) (pieces_at ops InList b)
    pieces_others ops place (Compound g (more a (more b cs))) =
        let ps = pieces_at ops Alone a in
        let rest = argument_pieces ops (more b cs) in
        let whole = as_argument ops a ps ++ piece Comma ∷ rest in
        ap₂ (λ (l r : List Piece). placed ops place (apply other (Compound g (more a (more b cs)))) (functional g (as_argument ops (apply other a) l ++ piece Comma ∷ r)))
        (pieces_others ops Alone a) (arguments_others ops (more b cs))
        ∙ ap (λ (l : List Piece). placed ops place (apply other (Compound g (more a (more b cs)))) (functional g (l ++ piece Comma ∷ others rest))) (as_others ops a ps)
        ∙ ap (λ (l : List Piece). placed ops place (apply other (Compound g (more a (more b cs)))) (functional g l)) (sym (map-append other_piece (as_argument ops a ps) (piece Comma ∷ rest)))
        ∙ ap (placed ops place (apply other (Compound g (more a (more b cs))))) (functional_others g whole)
        ∙ placed_others ops place (Compound g (more a (more b cs))) (functional g whole)

    arguments_others : (ops : Ops) (ts : Terms Text) → argument_pieces ops (apply_all other ts) ≡ others (argument_pieces ops ts)
    arguments_others ops (one a) = ap (as_argument ops (apply other a)) (pieces_others ops Alone a) ∙ as_others ops a (pieces_at ops Alone a)
    arguments_others ops (more a ts) =
        let ps = pieces_at ops Alone a in
        ap₂ (λ (l r : List Piece). as_argument ops (apply other a) l ++ piece Comma ∷ r) (pieces_others ops Alone a) (arguments_others ops ts)
        ∙ ap (λ (l : List Piece). l ++ piece Comma ∷ others (argument_pieces ops ts)) (as_others ops a ps)
        ∙ sym (map-append other_piece (as_argument ops a ps) (piece Comma ∷ argument_pieces ops ts))
