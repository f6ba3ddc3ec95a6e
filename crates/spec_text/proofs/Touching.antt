-- Neighbouring pieces of a term stop each other's tokens, with a blank between them or without.
use Rattle.std.proofs.Common.{◌≡◌, Bool, true, false, not, ◌&&◌, ◌||◌, ◌⊎◌, inl, inr, ◌<◌, [], ◌∷◌, ◌++◌, codes, refl, sym, ap, subst, ◌∙◌, arith}
use Rattle.std.specs.Prelude.{⊤, ◌==◌, if◌then◌else◌, ◌≢◌, bytes_eq}
use Rattle.std.specs.Cmp.Lexicographic.{bytes_decides}
use Rattle.std.specs.Char.{is_ascii_digit}
use Rattle.std.specs.Str.{chars}
use Rattle.std.proofs.Math.Bool.{and-false}
use Rattle.std.proofs.lemmas.Bool.{false≢true}
use Rattle.std.proofs.lemmas.Bool.Decides.{nat_tests}
use Rattle.spec_numbers.specs.Rational.{ℚ}
use Rattle.spec_numbers.specs.Texts.{Text}
use Rattle.spec_numbers.proofs.Tests.{neither_is}
use Rattle.spec_syntax.specs.Characters.{is_symbol, continues_name, begins, begins_with, first_char, passes}
use Rattle.spec_syntax.specs.Numerals.{goes_on_as_float}
use Rattle.spec_syntax.proofs.Again.{first_char-ascii}
use Rattle.spec_syntax.specs.Tokens.{Token, Variable, Numeral, Codes, Named, Functor, Minus, Open, Close, OpenList, CloseList, OpenCurly, CloseCurly, Comma, Bar, End}
use Rattle.spec_syntax.specs.Writing.{is_negative, needs_quotes}
use Rattle.spec_text.specs.declared.writing.Style.TheVariants.{Quoted}
use Rattle.spec_text.specs.Numbers.{number_text}
use Rattle.spec_text.specs.Pieces.{Piece}
use Rattle.spec_text.specs.Texts.{last_of, both_pass, ends_name, name_text, token_text, text_of, own_blank, run_together, would_bind, is_apart}
use Rattle.spec_text.specs.Written.{counted_name}
use Rattle.spec_text.proofs.WritingNames.{StopsName}
use Rattle.spec_text.proofs.Marks.{bare_text}
use Rattle.spec_text.proofs.Numerals.{StopsNumeral, number_begins}
use Rattle.spec_text.proofs.Edges.{IsWhole, first_char-behind, begins-behind, bare_front, name_front, text_whole, variable_ends, numeral_ends, letters_last, symbols_last, no_symbol_first}
use Rattle.spec_text.proofs.Stops.{StopsNamed, GoesNoFurther, IsWritableName, IsWritable}

-- ---- what may stand before what

-- a token that may stand behind a term: punctuation that closes or parts, or an operator's name without quotes
abbrev pub ComesBehind : Token → Type 0
ComesBehind (Named f quoted) = needs_quotes f ≡ false
ComesBehind (Functor f) = needs_quotes f ≡ false
ComesBehind Minus = ⊤
ComesBehind Close = ⊤
ComesBehind CloseList = ⊤
ComesBehind CloseCurly = ⊤
ComesBehind Comma = ⊤
ComesBehind Bar = ⊤
ComesBehind tok = ⊥

-- a token that does not make the name before it a functor or a sign
abbrev pub IsUnbound : Text → Token → Type 0
IsUnbound f Open = ⊥
IsUnbound f (Numeral q) = f ≢ codes "-"
IsUnbound f tok = ⊤

abbrev pub IsOpen : Token → Type 0
IsOpen Open = ⊤
IsOpen tok = ⊥

abbrev pub IsNumeral : Token → Type 0
IsNumeral (Numeral q) = ⊤
IsNumeral tok = ⊥

-- neighbours that touch, whatever their names
pub record Touch (p q : Piece) : Type 0 where
  pub no_blanks : p.has_blanks ≡ false
  pub no_blanks_behind : q.has_blanks ≡ false
  pub no_prefix : p.is_prefix ≡ false

-- a name before a piece: it needs no quotes or the piece comes behind a term, and it is not bound by the piece
pub record NameBefore (f : Text) (p q : Piece) : Type 0 where
  pub apart : (needs_quotes f ≡ false) ⊎ ComesBehind q.token
  pub free : (p.is_prefix ≡ true) ⊎ ((p.has_blanks ≡ true) ⊎ IsUnbound f q.token)

-- a piece with this token may stand before another
abbrev pub Precedes : Token → Piece → Piece → Type 0
Precedes (Variable v) p q = ComesBehind q.token
Precedes (Numeral n) p q = ComesBehind q.token
Precedes (Named f quoted) p q = NameBefore f p q
Precedes (Functor f) p q = IsOpen q.token × Touch p q
Precedes Minus p q = IsNumeral q.token × Touch p q
Precedes tok p q = ⊤

-- ---- the text of a piece that comes behind

right_false : (a b : Bool) → a ≡ true → (a && b) ≡ false → b ≡ false
right_false true b e h = h
right_false false b e h = cc

-- a text that comes behind a numeral: no quote, and no float
pub record Behind (w : Text) : Type 0 where
  pub no_quote : (any : Text) → begins_with 39 (w ++ any) ≡ false
  pub no_float : (any : Text) → goes_on_as_float (w ++ any) ≡ false

bare_behind : (f : Text) → needs_quotes f ≡ false → Behind (name_text Quoted f)
bare_behind f bare =
    let front = bare_front f bare in
    subst Behind (sym (bare_text f bare)) (record { no_quote = λ any. begins-behind (λ b. b == 39) f any front.whole ∙ front.no_quote; no_float = front.no_float })

behind_by : (tok : Token) → ComesBehind tok → Behind (token_text Quoted counted_name tok)
behind_by (Variable v) h = elim h [ ]
behind_by (Numeral q) h = elim h [ ]
behind_by (Codes bytes) h = elim h [ ]
behind_by (Named f quoted) h = bare_behind f h
behind_by (Functor f) h = bare_behind f h
behind_by Minus h = record { no_quote = λ any. refl; no_float = λ any. refl }
behind_by Open h = elim h [ ]
behind_by Close h = record { no_quote = λ any. refl; no_float = λ any. refl }
behind_by OpenList h = elim h [ ]
behind_by CloseList h = record { no_quote = λ any. refl; no_float = λ any. refl }
behind_by OpenCurly h = elim h [ ]
behind_by CloseCurly h = record { no_quote = λ any. refl; no_float = λ any. refl }
behind_by Comma h = record { no_quote = λ any. refl; no_float = λ any. refl }
behind_by Bar h = record { no_quote = λ any. refl; no_float = λ any. refl }
behind_by End h = elim h [ ]

digit_no_open : (w : Text) → begins is_ascii_digit w ≡ true → begins_with 40 w ≡ false
digit_no_open [] e = cc
digit_no_open (b ∷ bs) e = grind (arith, nat_tests)

-- the text of a token that binds no name opens nothing
unbound_open : (f : Text) (tok : Token) → IsWritable tok → IsUnbound f tok → begins_with 40 (token_text Quoted counted_name tok) ≡ false
unbound_open f (Variable v) w h = refl
unbound_open f (Numeral q) w h = digit_no_open (number_text q) (number_begins q w.1)
unbound_open f (Codes bytes) w h = elim w [ ]
unbound_open f (Named g quoted) w h = (name_front g w.0).no_open
unbound_open f (Functor g) w h = (name_front g w).no_open
unbound_open f Minus w h = refl
unbound_open f Open w h = elim h [ ]
unbound_open f Close w h = refl
unbound_open f OpenList w h = refl
unbound_open f CloseList w h = refl
unbound_open f OpenCurly w h = refl
unbound_open f CloseCurly w h = refl
unbound_open f Comma w h = refl
unbound_open f Bar w h = refl
unbound_open f End w h = elim w [ ]

-- nor does it go on with a sign
unbound_digit : (f : Text) (tok : Token) → IsWritable tok → IsUnbound f tok → f ≡ codes "-" → begins is_ascii_digit (token_text Quoted counted_name tok) ≡ false
unbound_digit f (Variable v) w h e = refl
unbound_digit f (Numeral q) w h e = absurd (h e)
unbound_digit f (Codes bytes) w h e = elim w [ ]
unbound_digit f (Named g quoted) w h e = (name_front g w.0).no_digit
unbound_digit f (Functor g) w h e = (name_front g w).no_digit
unbound_digit f Minus w h e = refl
unbound_digit f Open w h e = elim h [ ]
unbound_digit f Close w h e = refl
unbound_digit f OpenList w h e = refl
unbound_digit f CloseList w h e = refl
unbound_digit f OpenCurly w h e = refl
unbound_digit f CloseCurly w h e = refl
unbound_digit f Comma w h e = refl
unbound_digit f Bar w h e = refl
unbound_digit f End w h e = elim w [ ]

-- ---- a blank between

-- a token that a blank may follow
abbrev pub IsLast : Token → Type 0
IsLast (Functor f) = ⊥
IsLast Minus = ⊥
IsLast tok = ⊤

-- a blank stops it
pub stops_at_blank : (tok : Token) (any : Text) → IsLast tok → GoesNoFurther tok (32 ∷ any)
unfolding first_char
stops_at_blank (Variable v) any h = refl
stops_at_blank (Numeral n) any h = record { letters = refl; quote = refl; float = refl }
stops_at_blank (Codes bytes) any h = tt
stops_at_blank (Named f quoted) any h = record { apart = λ a. refl; closed = refl; no_digit = λ a. refl; goes = λ a. record { symbols = λ s. refl; letters = λ s. refl } }
stops_at_blank (Functor f) any h = elim h [ ]
stops_at_blank Minus any h = elim h [ ]
stops_at_blank Open any h = tt
stops_at_blank Close any h = tt
stops_at_blank OpenList any h = tt
stops_at_blank CloseList any h = tt
stops_at_blank OpenCurly any h = tt
stops_at_blank CloseCurly any h = tt
stops_at_blank Comma any h = tt
stops_at_blank Bar any h = tt
stops_at_blank End any h = tt

-- a token that stands before a piece with a blank between, since neither a functor nor a sign does
last_by : (tok : Token) (p q : Piece) → p.token ≡ tok → Precedes tok p q → (IsOpen q.token × Touch p q → ⊥) → (p.token ≡ Minus → IsNumeral q.token × Touch p q → ⊥) → IsLast tok
last_by (Functor f) p q e h o n = o h
last_by Minus p q e h o n = n e h
last_by (Variable v) p q e h o n = tt
last_by (Numeral x) p q e h o n = tt
last_by (Codes bytes) p q e h o n = tt
last_by (Named f quoted) p q e h o n = tt
last_by Open p q e h o n = tt
last_by Close p q e h o n = tt
last_by OpenList p q e h o n = tt
last_by CloseList p q e h o n = tt
last_by OpenCurly p q e h o n = tt
last_by CloseCurly p q e h o n = tt
last_by Comma p q e h o n = tt
last_by Bar p q e h o n = tt
last_by End p q e h o n = tt

-- ---- no blank between

-- what it says that two pieces without blanks of their own are not apart
pub record NotApart (p q : Piece) : Type 0 where
  pub no_blanks : p.has_blanks ≡ false
  pub symbols : both_pass is_symbol is_symbol (text_of Quoted counted_name p) (text_of Quoted counted_name q) ≡ false
  pub words : both_pass ends_name continues_name (text_of Quoted counted_name p) (text_of Quoted counted_name q) ≡ false
  pub unbound : p.is_prefix ≡ true → would_bind Quoted counted_name (text_of Quoted counted_name p) (text_of Quoted counted_name q) ≡ false

not_apart : (p q : Piece) → p.has_blanks ≡ false → q.has_blanks ≡ false → is_apart Quoted counted_name p q ≡ false → NotApart p q
unfolding is_apart
not_apart p q left right e =
    let bare : not (p.has_blanks || q.has_blanks) ≡ true = rw (left, right) refl in
    let a = neither_is _ _ (right_false (not (p.has_blanks || q.has_blanks)) _ bare e) in
    let d = neither_is _ _ a.0 in
    record { no_blanks = left; symbols = d.0; words = d.1; unbound = λ prefix. right_false p.is_prefix _ prefix a.1 }

module _ (p q : Piece) (wq : IsWritable q.token) (any : Text) (near : NotApart p q) where
  abbrev behind : Text
  behind = text_of Quoted counted_name q

  whole : IsWhole behind
  whole = text_whole q.token wq

  -- no letter follows a text that ends as a name does
  no_letter : passes ends_name (last_of (chars (text_of Quoted counted_name p))) ≡ true → passes continues_name (first_char (behind ++ any)) ≡ false
  no_letter ends = ap (passes continues_name) (first_char-behind behind any whole) ∙ right_false _ _ ends near.words

  no_symbol : passes is_symbol (last_of (chars (text_of Quoted counted_name p))) ≡ true → begins is_symbol (behind ++ any) ≡ false
  no_symbol ends = begins-behind is_symbol behind any whole ∙ no_symbol_first behind (right_false _ _ ends near.symbols)

  stops_numeral : (n : ℚ) → text_of Quoted counted_name p ≡ number_text n → is_negative n ≡ false → ComesBehind q.token → StopsNumeral (behind ++ any)
  stops_numeral n text sign h =
      let b = behind_by q.token h in
      record { letters = no_letter (ap (λ w. passes ends_name (last_of (chars w))) text ∙ numeral_ends n sign); quote = b.no_quote any; float = b.no_float any }

  module _ (f : Text) (text : text_of Quoted counted_name p ≡ name_text Quoted f) (w : IsWritableName f) (h : NameBefore f p q) where
    stops_name : needs_quotes f ≡ false → StopsName f (behind ++ any)
    stops_name bare =
        let same : text_of Quoted counted_name p ≡ f = text ∙ bare_text f bare in
        record {
          symbols = λ s. no_symbol (ap (λ x. passes is_symbol (last_of (chars x))) same ∙ symbols_last f bare s);
          letters = λ s. no_letter (ap (λ x. passes ends_name (last_of (chars x))) same ∙ letters_last f w.valid bare s);
        }

    apart_by : (needs_quotes f ≡ false) ⊎ ComesBehind q.token → needs_quotes f ≡ true → begins_with 39 (behind ++ any) ≡ false
    apart_by (inl bare) needs = let z : true ≡ false = sym needs ∙ bare in cc
    apart_by (inr comes) needs = (behind_by q.token comes).no_quote any

    opens_by : (p.is_prefix ≡ true) ⊎ ((p.has_blanks ≡ true) ⊎ IsUnbound f q.token) → begins_with 40 behind ≡ false
    opens_by (inl prefix) = (neither_is _ _ (near.unbound prefix)).0
    opens_by (inr (inl blanks)) = let z : true ≡ false = sym blanks ∙ near.no_blanks in cc
    opens_by (inr (inr free)) = unbound_open f q.token wq free

    minus_bare : needs_quotes (codes "-") ≡ false
    unfolding needs_quotes first_char
    minus_bare = refl

    digit_by : (p.is_prefix ≡ true) ⊎ ((p.has_blanks ≡ true) ⊎ IsUnbound f q.token) → f ≡ codes "-" → begins is_ascii_digit behind ≡ false
    digit_by (inl prefix) e =
        let same : text_of Quoted counted_name p ≡ codes "-" = text ∙ ap (name_text Quoted) e ∙ bare_text (codes "-") minus_bare in
        right_false (bytes_eq (text_of Quoted counted_name p) (codes "-")) _ ((bytes_decides (text_of Quoted counted_name p) (codes "-")).1 same) (neither_is _ _ (near.unbound prefix)).1
    digit_by (inr (inl blanks)) e = let z : true ≡ false = sym blanks ∙ near.no_blanks in cc
    digit_by (inr (inr free)) e = unbound_digit f q.token wq free e

    stops_named : StopsNamed f (behind ++ any)
    stops_named = record {
      apart = apart_by h.apart;
      closed = begins-behind (λ b. b == 40) behind any whole ∙ opens_by h.free;
      no_digit = λ e. begins-behind is_ascii_digit behind any whole ∙ digit_by h.free e;
      goes = stops_name;
    }

only_open : (tok : Token) → IsOpen tok → tok ≡ Open
only_open Open h = refl
only_open (Variable v) h = elim h [ ]
only_open (Numeral q) h = elim h [ ]
only_open (Codes bytes) h = elim h [ ]
only_open (Named f quoted) h = elim h [ ]
only_open (Functor f) h = elim h [ ]
only_open Minus h = elim h [ ]
only_open Close h = elim h [ ]
only_open OpenList h = elim h [ ]
only_open CloseList h = elim h [ ]
only_open OpenCurly h = elim h [ ]
only_open CloseCurly h = elim h [ ]
only_open Comma h = elim h [ ]
only_open Bar h = elim h [ ]
only_open End h = elim h [ ]

digit_begins : (tok : Token) → IsWritable tok → IsNumeral tok → begins is_ascii_digit (token_text Quoted counted_name tok) ≡ true
digit_begins (Numeral q) w h = number_begins q w.1
digit_begins Open w h = elim h [ ]
digit_begins (Variable v) w h = elim h [ ]
digit_begins (Codes bytes) w h = elim h [ ]
digit_begins (Named f quoted) w h = elim h [ ]
digit_begins (Functor f) w h = elim h [ ]
digit_begins Minus w h = elim h [ ]
digit_begins Close w h = elim h [ ]
digit_begins OpenList w h = elim h [ ]
digit_begins CloseList w h = elim h [ ]
digit_begins OpenCurly w h = elim h [ ]
digit_begins CloseCurly w h = elim h [ ]
digit_begins Comma w h = elim h [ ]
digit_begins Bar w h = elim h [ ]
digit_begins End w h = elim h [ ]

opens_there : (tok : Token) (any : Text) → IsOpen tok → begins_with 40 (token_text Quoted counted_name tok ++ any) ≡ true
opens_there tok any h = ap (λ t. begins_with 40 (token_text Quoted counted_name t ++ any)) (only_open tok h)

digit_there : (tok : Token) (any : Text) → IsWritable tok → IsNumeral tok → begins is_ascii_digit (token_text Quoted counted_name tok ++ any) ≡ true
digit_there tok any w h = begins-behind is_ascii_digit (token_text Quoted counted_name tok) any (text_whole tok w) ∙ digit_begins tok w h

stops_touching : (tok : Token) (p q : Piece) (any : Text) → p.token ≡ tok → IsWritable tok → IsWritable q.token → Precedes tok p q → NotApart p q → GoesNoFurther tok (text_of Quoted counted_name q ++ any)
stops_touching (Variable v) p q any e w wq h near =
    no_letter p q wq any near (ap (λ t. passes ends_name (last_of (chars (token_text Quoted counted_name t)))) e ∙ variable_ends v)
stops_touching (Numeral x) p q any e w wq h near = stops_numeral p q wq any near x (ap (token_text Quoted counted_name) e) w.1 h
stops_touching (Codes bytes) p q any e w wq h near = tt
stops_touching (Named f quoted) p q any e w wq h near = stops_named p q wq any near f (ap (token_text Quoted counted_name) e) w.0 h
stops_touching (Functor f) p q any e w wq h near = opens_there q.token any h.0
stops_touching Minus p q any e w wq h near = digit_there q.token any wq h.0
stops_touching Open p q any e w wq h near = tt
stops_touching Close p q any e w wq h near = tt
stops_touching OpenList p q any e w wq h near = tt
stops_touching CloseList p q any e w wq h near = tt
stops_touching OpenCurly p q any e w wq h near = tt
stops_touching CloseCurly p q any e w wq h near = tt
stops_touching Comma p q any e w wq h near = tt
stops_touching Bar p q any e w wq h near = tt
stops_touching End p q any e w wq h near = tt

-- ---- pieces that touch

no_prefix : (p q : Piece) (left right : Text) → p.is_prefix ≡ false → (p.is_prefix && would_bind Quoted counted_name left right) ≡ false
no_prefix p q left right e = rw e refl

-- neither texts run together nor is there a blank for another cause
apart_false : (p q : Piece) → Touch p q → run_together Quoted counted_name (text_of Quoted counted_name p) (text_of Quoted counted_name q) ≡ false → is_apart Quoted counted_name p q ≡ false
unfolding is_apart
apart_false p q t e = rw (t.no_blanks, t.no_blanks_behind, e, t.no_prefix) refl

open_alone : (left : Text) → run_together Quoted counted_name left (codes "(") ≡ false
unfolding first_char
open_alone left = rw (and-false (passes is_symbol (last_of (chars left))), and-false (passes ends_name (last_of (chars left)))) refl

open_touches : (p q : Piece) → IsOpen q.token × Touch p q → is_apart Quoted counted_name p q ≡ false
open_touches p q h = apart_false p q h.1 (ap (λ t. run_together Quoted counted_name (text_of Quoted counted_name p) (token_text Quoted counted_name t)) (only_open q.token h.0) ∙ open_alone (text_of Quoted counted_name p))

digit_no_symbol : (w : Text) → begins is_ascii_digit w ≡ true → passes is_symbol (first_char w) ≡ false
digit_no_symbol [] e = cc
digit_no_symbol (b ∷ bs) e =
    let low : b < 128 = grind (arith, nat_tests) in
    let none : is_symbol b ≡ false = grind (arith, nat_tests) in
    ap (passes is_symbol) (first_char-ascii b bs low) ∙ none

minus_alone : (right : Text) → begins is_ascii_digit right ≡ true → run_together Quoted counted_name (codes "-") right ≡ false
unfolding chars
minus_alone right digit = rw (digit_no_symbol right digit) refl

minus_touches : (p q : Piece) → IsWritable q.token → p.token ≡ Minus → IsNumeral q.token × Touch p q → is_apart Quoted counted_name p q ≡ false
minus_touches p q w e h =
    apart_false p q h.1 (ap (λ t. run_together Quoted counted_name (token_text Quoted counted_name t) (text_of Quoted counted_name q)) e ∙ minus_alone (text_of Quoted counted_name q) (digit_begins q.token w h.0))

-- ---- neighbours

-- a piece goes no further than its text before one that it may stand before
pub stops_before : (p q : Piece) (any : Text) → IsWritable p.token → IsWritable q.token → Precedes p.token p q → (p.has_blanks ≡ true → IsLast p.token) →
    GoesNoFurther p.token (own_blank p ++ ((if is_apart Quoted counted_name p q then codes " " else []) ++ (own_blank q ++ (text_of Quoted counted_name q ++ any))))
stops_before p q any wp wq h named = by p.has_blanks q.has_blanks (is_apart Quoted counted_name p q) refl refl refl
  where
    -- the other piece has blanks
    beside : q.has_blanks ≡ true → IsLast p.token
    beside e = last_by p.token p q refl h (λ o. false≢true (sym o.1.no_blanks_behind ∙ e)) (λ m n. false≢true (sym n.1.no_blanks_behind ∙ e))

    by : (a b x : Bool) → p.has_blanks ≡ a → q.has_blanks ≡ b → is_apart Quoted counted_name p q ≡ x
        → GoesNoFurther p.token ((if a then codes " " else []) ++ ((if x then codes " " else []) ++ ((if b then codes " " else []) ++ (text_of Quoted counted_name q ++ any))))
    by true b x e f g = stops_at_blank p.token ((if x then codes " " else []) ++ ((if b then codes " " else []) ++ (text_of Quoted counted_name q ++ any))) (named e)
    by false true true e f g = stops_at_blank p.token (32 ∷ (text_of Quoted counted_name q ++ any)) (beside f)
    by false true false e f g = stops_at_blank p.token (text_of Quoted counted_name q ++ any) (beside f)
    by false false true e f g =
        stops_at_blank p.token (text_of Quoted counted_name q ++ any)
        (last_by p.token p q refl h (λ o. false≢true (sym (open_touches p q o) ∙ g)) (λ m n. false≢true (sym (minus_touches p q wq m n) ∙ g)))
    by false false false e f g = stops_touching p.token p q any refl wp wq h (not_apart p q e f g)
