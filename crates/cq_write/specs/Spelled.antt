-- Pieces by their texts, and the text that they make one behind another.
use Rattle.std.specs.Prelude.{ℕ, Bool, not, ◌&&◌, ◌||◌, ◌==◌, if◌then◌else◌, List, [], ◌∷◌, ◌++◌, length, codes, chars, bytes_eq, Option, Some, None}
use Rattle.std.specs.Char.{is_ascii_digit}
use Rattle.spec_numbers.specs.Texts.{Text}
use Rattle.spec_syntax.specs.Characters.{is_symbol, continues_name, begins, begins_with, first_char, passes}
use Rattle.spec_text.specs.Pieces.{Piece}
use Rattle.spec_text.specs.Texts.{text_of, last_of, ends_name}
use Rattle.spec_text.specs.declared.writing.Style.{Style}
use Rattle.cq_write.specs.declared.line.Line.{Line}
use Rattle.cq_write.specs.declared.line.Last.{Last}
use Rattle.cq_write.specs.declared.line.Manner.{Manner}

-- a piece by its text, and what it says about blanks
pub record Spelled : Type 0 where
  pub text : Text
  pub manner : Manner

abbrev pub spelled : Style → (ℕ → Text) → Piece → Spelled
spelled style name p = record { text = text_of style name p; manner = record { has_blanks = p.has_blanks; is_prefix = p.is_prefix } }

-- a line by its text
pub record Written : Type 0 where
  pub text : Text
  pub last : Option Last

abbrev pub written : Line → Written
written line = record { text = line.text.items; last = line.last }

-- characters that run together where they touch
abbrev pub run_together : Option ℕ → Option ℕ → Bool
run_together last first = (passes is_symbol last && passes is_symbol first) || (passes ends_name last && passes continues_name first)

-- a prefix operator would be read otherwise directly before this text
abbrev pub would_bind : Bool → Text → Bool
would_bind is_minus text = begins_with 40 text || (is_minus && begins is_ascii_digit text)

-- a blank stands between the last piece and this one, where neither has its own
abbrev pub is_apart : Last → Spelled → Bool
is_apart last p =
    not (last.manner.has_blanks || p.manner.has_blanks)
    && (run_together last.character (first_char p.text) || (last.manner.is_prefix && would_bind last.is_minus p.text))

-- the blank on each side of a piece that has one there
abbrev pub own_blank : Spelled → Text
own_blank p = if p.manner.has_blanks then codes " " else []

-- a piece with its own blanks
abbrev pub framed : Spelled → Text
framed p = own_blank p ++ (p.text ++ own_blank p)

-- what stands before a piece with its own blanks
abbrev pub blank_before : Option Last → Spelled → Text
blank_before None p = []
blank_before (Some last) p = if is_apart last p then codes " " else []

-- what the next piece has to know of this one
abbrev pub last_piece : Spelled → Last
last_piece p = record { manner = p.manner; character = last_of (chars p.text); is_minus = bytes_eq p.text (codes "-") }

-- the piece leaves nothing
abbrev pub is_unseen : Spelled → Bool
is_unseen p = (length p.text == 0) && not p.manner.has_blanks

-- one more piece, which is passed over where it leaves nothing
abbrev pub put : Written → Spelled → Written
put line p = if is_unseen p then line else record { text = line.text ++ (blank_before line.last p ++ framed p); last = Some (last_piece p) }

-- more pieces
abbrev pub put_all : Written → List Spelled → Written
put_all line [] = line
put_all line (p ∷ ps) = put_all (put line p) ps

-- nothing
abbrev pub blank_line : Written
blank_line = record { text = []; last = None }
