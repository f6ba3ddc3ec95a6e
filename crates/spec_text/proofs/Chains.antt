-- The pieces of a term follow each other so that each token goes no further than its text.
use Rattle.std.proofs.Common.{◌≡◌, ℕ, Bool, true, false, not, ◌&&◌, ◌||◌, inl, inr, ◌⊎◌, List, [], ◌∷◌, ◌++◌, codes, Option, Some, None, is_some, refl, sym, ap, subst, ◌∙◌, append_assoc, append-nil}
use Rattle.std.specs.Prelude.{⊤, if◌then◌else◌, bytes_eq}
use Rattle.std.specs.Cmp.Lexicographic.{bytes_decides}
use Rattle.std.proofs.lemmas.Bool.{false≢true, false_from_ne_true}
use Rattle.std.proofs.lemmas.Option.{none-some}
use Rattle.spec_numbers.specs.Texts.{Text}
use Rattle.spec_numbers.proofs.Tests.{or_left, or_right}
use Rattle.spec_numbers.specs.Rational.{ℚ, neg_ℚ}
use Rattle.spec_syntax.specs.declared.operators.OpDef.{OpDef}
use Rattle.spec_syntax.specs.Operators.{Ops, right_most, is_operator}
use Rattle.spec_terms.specs.Term.{Terms, Var, Number, Name, Compound, one, more}
use Rattle.spec_syntax.specs.Tokens.{Token, Variable, Numeral, Codes, Named, Functor, Minus, Open, Close, OpenList, CloseList, OpenCurly, CloseCurly, Comma, Bar, End}
use Rattle.spec_syntax.specs.Trees.{Tree}
use Rattle.spec_syntax.specs.Writing.{IsTable, Place, Alone, InList, is_negative, is_bare_right, is_bare_left, is_bare_argument, is_signed, is_spaced, needs_quotes, name_before, infix_token}
use Rattle.spec_text.specs.Pieces.{Piece, piece, prefix_piece, infix_piece, tokens, unless, as_argument, placed, number_pieces, nil_pieces, atom_pieces, name_pieces, functional, prefix_pieces, operand_pieces, unary_pieces, infix_pieces, binary_pieces, pieces, pieces_at, argument_pieces}
use Rattle.spec_text.specs.ReadingBack.{NamesAreBare}
use Rattle.spec_text.proofs.Touching.{ComesBehind, IsUnbound, Precedes, IsLast}

-- ---- chains

-- the token is a name
abbrev pub IsNamed : Token → Type 0
IsNamed (Named f quoted) = ⊤
IsNamed tok = ⊥

-- a blank may follow it
pub named_last : (tok : Token) → IsNamed tok → IsLast tok
named_last (Named f quoted) h = tt
named_last (Variable v) h = elim h [ ]
named_last (Numeral q) h = elim h [ ]
named_last (Codes bytes) h = elim h [ ]
named_last (Functor f) h = elim h [ ]
named_last Minus h = elim h [ ]
named_last Open h = elim h [ ]
named_last Close h = elim h [ ]
named_last OpenList h = elim h [ ]
named_last CloseList h = elim h [ ]
named_last OpenCurly h = elim h [ ]
named_last CloseCurly h = elim h [ ]
named_last Comma h = elim h [ ]
named_last Bar h = elim h [ ]
named_last End h = elim h [ ]

-- only names have blanks round them
abbrev pub HasBlanksByName : Piece → Type 0
HasBlanksByName p = p.has_blanks ≡ true → IsNamed p.token

-- the piece may stand before these
abbrev pub MayPrecede : Piece → List Piece → Type 0
MayPrecede p [] = IsLast p.token
MayPrecede p (q ∷ qs) = Precedes p.token p q

-- each piece may stand before those behind it
abbrev pub AreChained : List Piece → Type 0
AreChained [] = ⊤
AreChained (p ∷ ps) = HasBlanksByName p × MayPrecede p ps × AreChained ps

-- the first, if there is one, may stand behind a term
abbrev pub FirstComesBehind : List Piece → Type 0
FirstComesBehind [] = ⊤
FirstComesBehind (p ∷ ps) = ComesBehind p.token

-- what comes behind a term may follow the pieces
abbrev Good : List Piece → Type 0
Good ps = (rest : List Piece) → FirstComesBehind rest → AreChained rest → AreChained (ps ++ rest)

-- ---- pieces of one token

no_blanks : (tok : Token) → HasBlanksByName (piece tok)
no_blanks tok e = cc

-- punctuation may precede anything
abbrev IsMark : Token → Type 0
IsMark Open = ⊤
IsMark Close = ⊤
IsMark OpenList = ⊤
IsMark CloseList = ⊤
IsMark OpenCurly = ⊤
IsMark CloseCurly = ⊤
IsMark Comma = ⊤
IsMark Bar = ⊤
IsMark tok = ⊥

mark_last : (tok : Token) → IsMark tok → IsLast tok
mark_last Open h = tt
mark_last Close h = tt
mark_last OpenList h = tt
mark_last CloseList h = tt
mark_last OpenCurly h = tt
mark_last CloseCurly h = tt
mark_last Comma h = tt
mark_last Bar h = tt
mark_last (Variable v) h = elim h [ ]
mark_last (Numeral q) h = elim h [ ]
mark_last (Codes bytes) h = elim h [ ]
mark_last (Named f quoted) h = elim h [ ]
mark_last (Functor f) h = elim h [ ]
mark_last Minus h = elim h [ ]
mark_last End h = elim h [ ]

mark_before : (tok : Token) (p q : Piece) → IsMark tok → Precedes tok p q
mark_before Open p q h = tt
mark_before Close p q h = tt
mark_before OpenList p q h = tt
mark_before CloseList p q h = tt
mark_before OpenCurly p q h = tt
mark_before CloseCurly p q h = tt
mark_before Comma p q h = tt
mark_before Bar p q h = tt
mark_before (Variable v) p q h = elim h [ ]
mark_before (Numeral n) p q h = elim h [ ]
mark_before (Codes bytes) p q h = elim h [ ]
mark_before (Named f quoted) p q h = elim h [ ]
mark_before (Functor f) p q h = elim h [ ]
mark_before Minus p q h = elim h [ ]
mark_before End p q h = elim h [ ]

mark_precedes : (tok : Token) → IsMark tok → (p : Piece) → p.token ≡ tok → (rest : List Piece) → MayPrecede p rest
mark_precedes tok h p e [] = subst IsLast (sym e) (mark_last tok h)
mark_precedes tok h p e (q ∷ qs) = subst (λ t. Precedes t p q) (sym e) (mark_before tok p q h)

-- punctuation in front of pieces that are chained
marked : (tok : Token) → IsMark tok → (rest : List Piece) → AreChained rest → AreChained (piece tok ∷ rest)
marked tok h rest c = (no_blanks tok, mark_precedes tok h (piece tok) refl rest, c)

-- a variable or a number before what comes behind a term
variable_precedes : (v : ℕ) (rest : List Piece) → FirstComesBehind rest → MayPrecede (piece (Variable v)) rest
variable_precedes v [] h = tt
variable_precedes v (q ∷ qs) h = h

numeral_precedes : (n : ℚ) (rest : List Piece) → FirstComesBehind rest → MayPrecede (piece (Numeral n)) rest
numeral_precedes n [] h = tt
numeral_precedes n (q ∷ qs) h = h

-- what comes behind a term binds no name
comes_unbound : (f : Text) (tok : Token) → ComesBehind tok → IsUnbound f tok
comes_unbound f (Variable v) h = tt
comes_unbound f (Numeral q) h = elim h [ ]
comes_unbound f (Codes bytes) h = tt
comes_unbound f (Named g quoted) h = tt
comes_unbound f (Functor g) h = tt
comes_unbound f Minus h = tt
comes_unbound f Open h = elim h [ ]
comes_unbound f Close h = tt
comes_unbound f OpenList h = tt
comes_unbound f CloseList h = tt
comes_unbound f OpenCurly h = tt
comes_unbound f CloseCurly h = tt
comes_unbound f Comma h = tt
comes_unbound f Bar h = tt
comes_unbound f End h = tt

-- a name before what comes behind a term
name_precedes : (f : Text) (rest : List Piece) → FirstComesBehind rest → MayPrecede (piece (Named f (needs_quotes f))) rest
name_precedes f [] h = tt
name_precedes f (q ∷ qs) h = record { apart = inr h; free = inr (inr (comes_unbound f q.token h)) }

-- an operator's name before anything, where nothing can bind it
operator_precedes : (f : Text) (p : Piece) (rest : List Piece) → p.token ≡ Named f (needs_quotes f) → needs_quotes f ≡ false → (p.is_prefix ≡ true) ⊎ (p.has_blanks ≡ true) → MayPrecede p rest
operator_precedes f p [] e bare h = subst IsLast (sym e) tt
operator_precedes f p (q ∷ qs) e bare h = subst (λ t. Precedes t p q) (sym e) (record { apart = inl bare; free = free h })
  where
    free : (p.is_prefix ≡ true) ⊎ (p.has_blanks ≡ true) → (p.is_prefix ≡ true) ⊎ ((p.has_blanks ≡ true) ⊎ IsUnbound f q.token)
    free (inl prefix) = inl prefix
    free (inr blanks) = inr (inl blanks)

-- ---- parentheses

regroup : (p : Piece) (ps qs rest : List Piece) → (p ∷ ps ++ qs) ++ rest ≡ p ∷ (ps ++ (qs ++ rest))
regroup p ps qs rest = ap (λ xs. p ∷ xs) (append_assoc ps qs rest)

-- pieces between punctuation
between : (opens closes : Token) → IsMark opens → IsMark closes → ComesBehind closes → (ps rest : List Piece) → Good ps → AreChained rest → AreChained ((piece opens ∷ ps ++ piece closes ∷ []) ++ rest)
between opens closes o m behind ps rest good c =
    subst AreChained (sym (regroup (piece opens) ps (piece closes ∷ []) rest))
    (marked opens o (ps ++ (piece closes ∷ rest)) (good (piece closes ∷ rest) behind (marked closes m rest c)))

good_unless : (b : Bool) (ps : List Piece) → Good ps → Good (unless b ps)
good_unless true ps good rest h c = good rest h c
good_unless false ps good rest h c = between Open Close tt tt tt ps rest good c

good_argument : (ops : Ops) (a : Tree) (ps : List Piece) → Good ps → Good (as_argument ops a ps)
good_argument ops a ps good = good_unless (is_bare_argument ops a) ps good

good_placed : (ops : Ops) (place : Place) (t : Tree) (ps : List Piece) → Good ps → Good (placed ops place t ps)
good_placed ops Alone t ps good rest h c = good rest h c
good_placed ops InList t ps good rest h c = between Bar CloseList tt tt tt (as_argument ops t ps) rest (good_argument ops t ps good) c

-- ---- operands

good_variable : (v : ℕ) → Good (piece (Variable v) ∷ [])
good_variable v rest h c = (no_blanks (Variable v), variable_precedes v rest h, c)

good_number : (b : Bool) (q : ℚ) → Good (number_pieces b q)
good_number false q rest h c = (no_blanks (Numeral q), numeral_precedes q rest h, c)
good_number true q rest h c = (no_blanks Minus, (tt, record { no_blanks = refl; no_blanks_behind = refl; no_prefix = refl }), (no_blanks (Numeral (neg_ℚ q)), numeral_precedes (neg_ℚ q) rest h, c))

good_nil : (place : Place) → Good (nil_pieces place)
good_nil Alone rest h c = marked OpenList tt (piece CloseList ∷ rest) (marked CloseList tt rest c)
good_nil InList rest h c = marked CloseList tt rest c

good_atom : (b : Bool) (f : Text) → Good (atom_pieces b f)
good_atom true f rest h c = marked OpenCurly tt (piece CloseCurly ∷ rest) (marked CloseCurly tt rest c)
good_atom false f rest h c = (no_blanks (Named f (needs_quotes f)), name_precedes f rest h, c)

good_name : (ops : Ops) (b : Bool) (place : Place) (f : Text) → Good (name_pieces ops b place f)
good_name ops true place f = good_nil place
good_name ops false place f = good_placed ops place (Name f) (atom_pieces (bytes_eq f (codes "{}")) f) (good_atom (bytes_eq f (codes "{}")) f)

good_functional : (f : Text) (args : List Piece) → Good args → Good (functional f args)
good_functional f args good rest h c =
    (no_blanks (Functor f), (tt, record { no_blanks = refl; no_blanks_behind = refl; no_prefix = refl }), between Open Close tt tt tt args rest good c)

good_more : (ops : Ops) (a : Tree) (ps qs : List Piece) → Good ps → Good qs → Good (as_argument ops a ps ++ piece Comma ∷ qs)
good_more ops a ps qs good others rest h c =
    subst AreChained (sym (append_assoc (as_argument ops a ps) (piece Comma ∷ qs) rest))
    (good_argument ops a ps good (piece Comma ∷ (qs ++ rest)) tt (marked Comma tt (qs ++ rest) (others rest h c)))

-- ---- operators

some_true : (o : Option OpDef) (op : OpDef) → o ≡ Some op → is_some o ≡ true
some_true o op e = ap is_some e

module _ (ops : Ops) (are : IsTable ops) (bare : NamesAreBare ops) where
  -- a name of the table that is not the comma needs no quotes
  other_than_comma : (f : Text) → is_operator ops f ≡ true → (f ≡ codes "," → ⊥) → needs_quotes f ≡ false
  other_than_comma f is other = by (bare f is)
    where
      by : (f ≡ codes ",") ⊎ (needs_quotes f ≡ false) → needs_quotes f ≡ false
      by (inl comma) = absurd (other comma)
      by (inr e) = e

  prefix_bare : (f : Text) (op : OpDef) → ops.prefix f ≡ Some op → needs_quotes f ≡ false
  prefix_bare f op e =
      other_than_comma f (or_left (is_some (ops.prefix f) || is_some (ops.infixed f)) (is_some (ops.postfix f)) (or_left (is_some (ops.prefix f)) (is_some (ops.infixed f)) (some_true (ops.prefix f) op e)))
      (λ comma. none-some op (sym (ap ops.prefix comma ∙ are.no_prefix_comma) ∙ e))

  postfix_bare : (f : Text) (op : OpDef) → ops.postfix f ≡ Some op → needs_quotes f ≡ false
  postfix_bare f op e =
      other_than_comma f (or_right (is_some (ops.prefix f) || is_some (ops.infixed f)) (is_some (ops.postfix f)) (some_true (ops.postfix f) op e))
      (λ comma. none-some op (sym (are.not_both f _ (ap ops.infixed comma ∙ are.comma)) ∙ e))

  infix_bare : (f : Text) (op : OpDef) → ops.infixed f ≡ Some op → bytes_eq f (codes ",") ≡ false → needs_quotes f ≡ false
  infix_bare f op e other =
      other_than_comma f (or_left (is_some (ops.prefix f) || is_some (ops.infixed f)) (is_some (ops.postfix f)) (or_right (is_some (ops.prefix f)) (is_some (ops.infixed f)) (some_true (ops.infixed f) op e)))
      (λ comma. false≢true (sym other ∙ (bytes_decides f (codes ",")).1 comma))

  good_prefix : (op : OpDef) (b : Bool) (f : Text) (a : Tree) (ps : List Piece) → ops.prefix f ≡ Some op → Good ps → Good (prefix_pieces ops op b f a ps)
  good_prefix op true f a ps e good rest h c = good_functional f ps good rest h c
  good_prefix op false f a ps e good rest h c =
      ((λ x. tt), operator_precedes f (prefix_piece f) _ refl (prefix_bare f op e) (inl refl), good_unless (is_bare_right ops (right_most op) a) ps good rest h c)

  good_operand : (o p : Option OpDef) (f : Text) (a : Tree) (ps : List Piece) → ops.prefix f ≡ o → ops.postfix f ≡ p → Good ps → Good (operand_pieces ops o p f a ps)
  good_operand (Some op) p f a ps e g good rest h c = good_prefix op (is_signed f a) f a ps e good rest h c
  good_operand None (Some op) f a ps e g good rest h c =
      subst AreChained (sym (append_assoc (unless (is_bare_left ops op a) ps) (piece (Named f (needs_quotes f)) ∷ []) rest))
      (good_unless (is_bare_left ops op a) ps good (piece (Named f (needs_quotes f)) ∷ rest) (postfix_bare f op g) (no_blanks (Named f (needs_quotes f)), name_precedes f rest h, c))
  good_operand None None f a ps e g good rest h c = good_functional f (as_argument ops a ps) (good_argument ops a ps good) rest h c

  good_unary : (b : Bool) (f : Text) (a : Tree) (ps : List Piece) → Good ps → Good (unary_pieces ops b f a ps)
  good_unary true f a ps good rest h c = between OpenCurly CloseCurly tt tt tt ps rest good c
  good_unary false f a ps good rest h c = good_operand (ops.prefix f) (ops.postfix f) f a ps refl refl good rest h c

  -- an infix operator before its right operand and the rest
  infix_first : (f : Text) (op : OpDef) (right rest : List Piece) → ops.infixed f ≡ Some op → FirstComesBehind rest → AreChained (right ++ rest) →
      ComesBehind (infix_piece f right).token × AreChained (infix_piece f right ∷ (right ++ rest))
  unfolding infix_token
  infix_first f op right rest e h c = by (bytes_eq f (codes ",")) (is_spaced f) refl refl
    where
      -- a name of symbol characters
      symbolic : needs_quotes f ≡ false → (ps : List Piece) → AreChained (ps ++ rest) →
          (let p : Piece = record { token = name_before f (tokens ps); has_blanks = false; is_prefix = false } in ComesBehind p.token × HasBlanksByName p × MayPrecede p (ps ++ rest))
      symbolic simple [] c = (simple, (λ x. tt), name_precedes f rest h)
      symbolic simple (q ∷ ps) c = on q.token q.has_blanks q.is_prefix c.0
        where
          after : Token → Bool → Bool → Piece
          after t b x = record { token = t; has_blanks = b; is_prefix = x }

          simply : (t : Token) (b x : Bool) → IsUnbound f t →
              (let p : Piece = record { token = Named f (needs_quotes f); has_blanks = false; is_prefix = false } in ComesBehind p.token × HasBlanksByName p × Precedes p.token p (record { token = t; has_blanks = b; is_prefix = x }))
          simply t b x free = (simple, (λ x. tt), record { apart = inl simple; free = inr (inr free) })

          signed : (n : ℚ) (b x : Bool) → (b ≡ true → ⊥) → (y : Bool) → bytes_eq f (codes "-") ≡ y →
              (let p : Piece = record { token = (if y then Minus else Named f (needs_quotes f)); has_blanks = false; is_prefix = false } in ComesBehind p.token × HasBlanksByName p × Precedes p.token p (record { token = Numeral n; has_blanks = b; is_prefix = x }))
          signed n b x k true i = (tt, (λ z. cc), (tt, record { no_blanks = refl; no_blanks_behind = false_from_ne_true b k; no_prefix = refl }))
          signed n b x k false i = simply (Numeral n) b x (λ same. false≢true (sym i ∙ (bytes_decides f (codes "-")).1 same))

          on : (t : Token) (b x : Bool) → (b ≡ true → IsNamed t) →
              (let p : Piece = record { token = name_before f (t ∷ tokens ps); has_blanks = false; is_prefix = false } in ComesBehind p.token × HasBlanksByName p × Precedes p.token p (record { token = t; has_blanks = b; is_prefix = x }))
          on Open b x k = (simple, (λ z. cc), (tt, record { no_blanks = refl; no_blanks_behind = false_from_ne_true b k; no_prefix = refl }))
          on (Numeral n) b x k = signed n b x k (bytes_eq f (codes "-")) refl
          on (Variable v) b x k = simply (Variable v) b x tt
          on (Codes bytes) b x k = simply (Codes bytes) b x tt
          on (Named g quoted) b x k = simply (Named g quoted) b x tt
          on (Functor g) b x k = simply (Functor g) b x tt
          on Minus b x k = simply Minus b x tt
          on Close b x k = simply Close b x tt
          on OpenList b x k = simply OpenList b x tt
          on CloseList b x k = simply CloseList b x tt
          on OpenCurly b x k = simply OpenCurly b x tt
          on CloseCurly b x k = simply CloseCurly b x tt
          on Comma b x k = simply Comma b x tt
          on Bar b x k = simply Bar b x tt
          on End b x k = simply End b x tt

      by : (x y : Bool) → bytes_eq f (codes ",") ≡ x → is_spaced f ≡ y →
          (let p : Piece = record { token = (if x then Comma else if y then Named f (needs_quotes f) else name_before f (tokens right)); has_blanks = not x && y; is_prefix = false } in ComesBehind p.token × AreChained (p ∷ (right ++ rest)))
      by true y i j = (tt, ((λ z. cc), mark_precedes Comma tt (record { token = Comma; has_blanks = false; is_prefix = false }) refl (right ++ rest), c))
      by false true i j =
          let simple : needs_quotes f ≡ false = infix_bare f op e i in
          (simple, ((λ z. tt), operator_precedes f (record { token = Named f (needs_quotes f); has_blanks = true; is_prefix = false }) (right ++ rest) refl simple (inr refl), c))
      by false false i j =
          let s = symbolic (infix_bare f op e i) right c in
          (s.0, (s.1, s.2, c))

  good_infix : (o : Option OpDef) (f : Text) (a b : Tree) (ps qs : List Piece) → ops.infixed f ≡ o → Good ps → Good qs → Good (infix_pieces ops o f a b ps qs)
  good_infix (Some op) f a b ps qs e good others rest h c =
      let right : List Piece = unless (is_bare_right ops (right_most op) b) qs in
      let chained : AreChained (unless (is_bare_right ops (right_most op) b) qs ++ rest) = good_unless (is_bare_right ops (right_most op) b) qs others rest h c in
      let first = infix_first f op (unless (is_bare_right ops (right_most op) b) qs) rest e h chained in
      subst AreChained (sym (append_assoc (unless (is_bare_left ops op a) ps) (infix_piece f right ∷ right) rest))
      (good_unless (is_bare_left ops op a) ps good (infix_piece f right ∷ (right ++ rest)) first.0 first.1)
  good_infix None f a b ps qs e good others rest h c =
      good_functional f (as_argument ops a ps ++ piece Comma ∷ as_argument ops b qs) (good_more ops a ps (as_argument ops b qs) good (good_argument ops b qs others)) rest h c

  -- pieces that may always stand behind a term
  abbrev IsTail : List Piece → Type 0
  IsTail ps = (rest : List Piece) → FirstComesBehind (ps ++ rest)

  good_cell : (opens : Token) (a : Tree) (ps rest : List Piece) → IsMark opens → Good ps → IsTail rest → Good rest → Good (piece opens ∷ as_argument ops a ps ++ rest)
  good_cell opens a ps rest m good tail cells end h c =
      subst AreChained (sym (regroup (piece opens) (as_argument ops a ps) rest end))
      (marked opens m (as_argument ops a ps ++ (rest ++ end)) (good_argument ops a ps good (rest ++ end) (tail end) (cells end h c)))

  good_binary : (d : Bool) (place : Place) (f : Text) (a b : Tree) (ps qs rest : List Piece) → Good ps → Good qs → IsTail rest → Good rest → Good (binary_pieces ops d place f a b ps qs rest)
  good_binary true Alone f a b ps qs rest good others tail cells = good_cell OpenList a ps rest tt good tail cells
  good_binary true InList f a b ps qs rest good others tail cells = good_cell Comma a ps rest tt good tail cells
  good_binary false place f a b ps qs rest good others tail cells =
      good_placed ops place (Compound f (more a (one b))) (infix_pieces ops (ops.infixed f) f a b ps qs) (good_infix (ops.infixed f) f a b ps qs refl good others)

  -- ---- terms

  name_tail : (b : Bool) (f : Text) → IsTail (name_pieces ops b InList f)
  name_tail true f rest = tt
  name_tail false f rest = tt

  binary_tail : (d : Bool) (f : Text) (a b : Tree) (ps qs rest : List Piece) → IsTail (binary_pieces ops d InList f a b ps qs rest)
  binary_tail true f a b ps qs rest end = tt
  binary_tail false f a b ps qs rest end = tt

  -- the rest of a list
  list_tail : (t : Tree) → IsTail (pieces_at ops InList t)
  unfolding pieces_at
  list_tail (Var v) rest = tt
  list_tail (Number q) rest = tt
  list_tail (Name f) rest = name_tail (bytes_eq f (codes "[]")) f rest
  list_tail (Compound f (one a)) rest = tt
  list_tail (Compound f (more a (one b))) rest = binary_tail (bytes_eq f (codes ".")) f a b _ _ _ rest
  list_tail (Compound f (more a (more b cs))) rest = tt

  mutual
    unfolding pieces_at

    pub good : (place : Place) (t : Tree) (rest : List Piece) → FirstComesBehind rest → AreChained rest → AreChained (pieces_at ops place t ++ rest)
    good place (Var v) = good_placed ops place (Var v) (piece (Variable v) ∷ []) (good_variable v)
    good place (Number q) = good_placed ops place (Number q) (number_pieces (is_negative q) q) (good_number (is_negative q) q)
    good place (Name f) = good_name ops (bytes_eq f (codes "[]")) place f
    good place (Compound f (one a)) =
        good_placed ops place (Compound f (one a)) (unary_pieces ops (bytes_eq f (codes "{}")) f a (pieces_at ops Alone a)) (good_unary (bytes_eq f (codes "{}")) f a (pieces_at ops Alone a) (good Alone a))
    good place (Compound f (more a (one b))) =
        good_binary (bytes_eq f (codes ".")) place f a b (pieces_at ops Alone a) (pieces_at ops Alone b) (pieces_at ops InList b) (good Alone a) (good Alone b) (list_tail b) (good InList b)
    good place (Compound f (more a (more b cs))) =
        good_placed ops place (Compound f (more a (more b cs))) (functional f (as_argument ops a (pieces_at ops Alone a) ++ piece Comma ∷ argument_pieces ops (more b cs)))
        (good_functional f (as_argument ops a (pieces_at ops Alone a) ++ piece Comma ∷ argument_pieces ops (more b cs))
        (good_more ops a (pieces_at ops Alone a) (argument_pieces ops (more b cs)) (good Alone a) (good_arguments (more b cs))))

    good_arguments : (as1 : Terms Text) (rest : List Piece) → FirstComesBehind rest → AreChained rest → AreChained (argument_pieces ops as1 ++ rest)
    good_arguments (one a) = good_argument ops a (pieces_at ops Alone a) (good Alone a)
    good_arguments (more a as1) = good_more ops a (pieces_at ops Alone a) (argument_pieces ops as1) (good Alone a) (good_arguments as1)

-- the pieces of a term are chained
pub pieces_chained : (ops : Ops) (t : Tree) → IsTable ops → NamesAreBare ops → AreChained (pieces ops t)
pieces_chained ops t are bare = subst AreChained (append-nil (pieces ops t)) (good ops are bare Alone t [] tt tt)
