-- Characters of a text, and what each may begin or continue.
use Rattle.std.specs.Prelude.{ℕ, zero, suc, ◌+◌, take, slice_get, nat_lt, codes, chars, Bool, false, ◌||◌, ◌==◌, if◌then◌else◌, List, [], ◌∷◌, Option, Some, None}
use Rattle.std.specs.Char.{is_ascii_lowercase, is_ascii_uppercase, is_ascii_alphanumeric}
use Rattle.std.specs.List.{list_any}
use Rattle.std.specs.Str.{is_utf8, continuation_len}
use Rattle.unicode_ident.specs.Ident.{is_xid_start, is_xid_continue}

-- space, tab, line feed, vertical tab, form feed, carriage return
abbrev pub is_layout : ℕ → Bool
is_layout b = (b == 32) || (b == 9) || (b == 10) || (b == 11) || (b == 12) || (b == 13)

-- + - * / \ ^ < > = ~ : . ? @ # & $
abbrev pub is_symbol : ℕ → Bool
is_symbol b = list_any (λ s. s == b) (codes "+-*/\\^<>=~:.?@#&$")

-- ( ) [ ] { } , |
abbrev pub is_punctuation : ℕ → Bool
is_punctuation b = list_any (λ s. s == b) (codes "()[]{},|")

-- the bytes that the first one says belong to its character
abbrev pub front : List ℕ → List ℕ
front [] = []
front (b ∷ bs) = take (suc (continuation_len b)) (b ∷ bs)

-- the character in UTF-8 that the text begins with, if one stands there
unfoldable pub first_char : List ℕ → Option ℕ
first_char [] = None
first_char (b ∷ bs) = if nat_lt b 128 then Some b else if is_utf8 (front (b ∷ bs)) then slice_get (chars (front (b ∷ bs))) 0 else None

-- the text begins with a character that passes the test
abbrev pub passes : (ℕ → Bool) → Option ℕ → Bool
passes test None = false
passes test (Some c) = test c

-- a small letter, or a character past ASCII that may start an identifier
abbrev pub starts_name : ℕ → Bool
starts_name c = if nat_lt c 128 then is_ascii_lowercase c else is_xid_start c

-- a capital or `_`
abbrev pub starts_variable : ℕ → Bool
starts_variable b = is_ascii_uppercase b || (b == 95)

-- a letter, a digit, `_`, or a character past ASCII that may continue an identifier
abbrev pub continues_name : ℕ → Bool
continues_name c = if nat_lt c 128 then is_ascii_alphanumeric c || (c == 95) else is_xid_continue c

-- the text begins with a byte that passes the test
abbrev pub begins : (ℕ → Bool) → List ℕ → Bool
begins test [] = false
begins test (b ∷ bs) = test b

-- the text begins with this byte
abbrev pub begins_with : ℕ → List ℕ → Bool
begins_with c bs = begins (λ b. b == c) bs

-- Where the characters end that may continue a name, of a text that stands at this place. The first `skip` bytes belong to
-- the character before.
abbrev pub name_end : ℕ → List ℕ → ℕ → ℕ
name_end skip [] at = at
name_end zero (b ∷ bs) at = if passes continues_name (first_char (b ∷ bs)) then name_end (continuation_len b) bs (at + 1) else at
name_end (suc skip) (b ∷ bs) at = name_end skip bs (at + 1)
