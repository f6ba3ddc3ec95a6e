-- The lines that tell findings.
use Rattle.std.specs.Prelude.{ℕ, suc, List, [], ◌∷◌, ◌++◌, Bool, ◌&&◌, ◌||◌, ◌==◌, if◌then◌else◌, not, nat_le, nat_lt, codes, take, drop, fold, flat_map}
use Rattle.spec_numbers.specs.Texts.{Text}
use Rattle.spec_text.specs.Numbers.{whole_text}
use Rattle.spec_builtins.specs.Built.{Indicator}
use Rattle.cq_lint.specs.declared.places.Place.{Place}
use Rattle.cq_lint.specs.declared.findings.Finding.{Finding}
use Rattle.cq_lint.specs.declared.findings.Finding.TheVariants.{NoClause, Lone, Undefined, Apart}

-- ---- lines and columns

abbrev pub first_place : Place
first_place = record { at = 0; line = 1; column = 1; start = 0 }

-- the byte goes on with a character
abbrev pub goes_on : ℕ → Bool
goes_on b = nat_le 128 b && nat_lt b 192

-- behind a byte more
abbrev pub place_behind : Place → ℕ → Place
place_behind p b =
    if b == 10 then record { at = suc p.at; line = suc p.line; column = 1; start = suc p.at }
    else if goes_on b then record p { at = suc p.at }
    else record p { at = suc p.at; column = suc p.column }

-- the line and the column of a byte, both from 1, and where its line starts
abbrev pub place_of : List ℕ → ℕ → Place
place_of text at = fold place_behind first_place (take at text)

-- ---- the line of a finding

-- so much of a line is shown, and the rest of its last character
abbrev pub shown_bytes : ℕ
shown_bytes = 100

-- behind so many bytes of a line this one is not shown
abbrev pub ends_shown : ℕ → ℕ → Bool
ends_shown n b = (b == 10) || (nat_le shown_bytes n && not (goes_on b))

-- the bytes of a line from here on, of which so many are shown before
abbrev pub shown_from : ℕ → List ℕ → List ℕ
shown_from n [] = []
shown_from n (b ∷ bs) = if ends_shown n b then [] else b ∷ shown_from (suc n) bs

abbrev pub shown_line : List ℕ → Place → List ℕ
shown_line text p = shown_from 0 (drop p.start text)

-- a number behind a mark
abbrev pub marked : Text → ℕ → Text
marked mark n = mark ++ whole_text n

abbrev pub predicate_text : Indicator → Text
predicate_text i = i.name ++ marked (codes "/") i.arity

abbrev pub place_text : Text → Place → Text
place_text file p = file ++ marked (codes ":") p.line ++ marked (codes ":") p.column ++ codes ": "

-- what is said of a finding at a place
abbrev pub message : List ℕ → Place → Finding → Text
message text p (NoClause at) = codes "no clause from here: " ++ shown_line text p
message text p (Lone v) = codes "variable occurs once: " ++ v.name
message text p (Undefined at i) = codes "nowhere defined: " ++ predicate_text i
message text p (Apart at i) = codes "apart from its other clauses: " ++ predicate_text i

abbrev pub at_of : Finding → ℕ
at_of (NoClause at) = at
at_of (Lone v) = v.at
at_of (Undefined at i) = at
at_of (Apart at i) = at

abbrev pub line_at : Text → List ℕ → Place → Finding → Text
line_at file text p f = place_text file p ++ message text p f ++ codes "\n"

abbrev pub line_of : Text → List ℕ → Finding → Text
line_of file text f = line_at file text (place_of text (at_of f)) f

abbrev pub lines_of : Text → List ℕ → List Finding → Text
lines_of file text fs = flat_map (line_of file text) fs
