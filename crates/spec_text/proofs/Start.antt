-- The names of the operators at the start need no quotes.
use Rattle.std.proofs.Common.{◌≡◌, ℕ, Bool, true, false, not, ◌&&◌, ◌||◌, ◌⊎◌, inl, inr, List, [], ◌∷◌, codes, Option, refl, sym, subst}
use Rattle.std.specs.Prelude.{bytes_eq}
use Rattle.std.specs.Cmp.Lexicographic.{bytes_decides}
use Rattle.std.proofs.lemmas.Bool.{and_parts}
use Rattle.spec_numbers.specs.Texts.{Text}
use Rattle.spec_syntax.specs.declared.operators.OpDef.{OpDef}
use Rattle.spec_syntax.specs.declared.operators.OpKind.{OpKind}
use Rattle.spec_syntax.specs.Operators.{Ops, Position, Prefix, Infix, Postfix, is_operator, position_of, entry, put_at, put}
use Rattle.spec_syntax.specs.Standard.{Row, rows, put_names, put_rows, empty, standard}
use Rattle.spec_syntax.specs.Characters.{first_char}
use Rattle.spec_syntax.specs.Writing.{needs_quotes}
use Rattle.spec_text.specs.ReadingBack.{NamesAreBare}

-- the comma, or a name that needs no quotes
abbrev IsBare : Text → Type 0
IsBare f = (f ≡ codes ",") ⊎ (needs_quotes f ≡ false)

put_at_bare : (position : Position) (ops : Ops) (name : Text) (op : Option OpDef) → NamesAreBare ops → IsBare name → NamesAreBare (put_at position ops name op)
put_at_bare Prefix ops name op bare n f = by (bytes_eq f name) refl
  where
    by : (b : Bool) → bytes_eq f name ≡ b → is_operator (put_at Prefix ops name op) f ≡ true → IsBare f
    by true e is = subst IsBare (sym ((bytes_decides f name).0 e)) n
    by false e is = bare f (rw e at is)
put_at_bare Infix ops name op bare n f = by (bytes_eq f name) refl
  where
    by : (b : Bool) → bytes_eq f name ≡ b → is_operator (put_at Infix ops name op) f ≡ true → IsBare f
    by true e is = subst IsBare (sym ((bytes_decides f name).0 e)) n
    by false e is = bare f (rw e at is)
put_at_bare Postfix ops name op bare n f = by (bytes_eq f name) refl
  where
    by : (b : Bool) → bytes_eq f name ≡ b → is_operator (put_at Postfix ops name op) f ≡ true → IsBare f
    by true e is = subst IsBare (sym ((bytes_decides f name).0 e)) n
    by false e is = bare f (rw e at is)

-- the test of a name, of names and of rows
abbrev is_bare : Text → Bool
is_bare f = bytes_eq f (codes ",") || not (needs_quotes f)

abbrev are_bare : List Text → Bool
are_bare [] = true
are_bare (f ∷ fs) = is_bare f && are_bare fs

abbrev rows_are_bare : List Row → Bool
rows_are_bare [] = true
rows_are_bare (r ∷ rs) = are_bare r.names && rows_are_bare rs

tested : (f : Text) → is_bare f ≡ true → IsBare f
tested f = by (bytes_eq f (codes ",")) (needs_quotes f) refl refl
  where
    by : (x y : Bool) → bytes_eq f (codes ",") ≡ x → needs_quotes f ≡ y → (x || not y) ≡ true → IsBare f
    by true y i j e = inl ((bytes_decides f (codes ",")).0 i)
    by false false i j e = inr j
    by false true i j e = cc

names_bare : (ops : Ops) (p : ℕ) (kind : OpKind) (names : List Text) → are_bare names ≡ true → NamesAreBare ops → NamesAreBare (put_names ops p kind names)
names_bare ops p kind [] e bare = bare
names_bare ops p kind (f ∷ fs) e bare =
    let h = and_parts (is_bare f) (are_bare fs) e in
    names_bare (put ops p kind f) p kind fs h.1 (put_at_bare (position_of kind) ops f (entry p kind) bare (tested f h.0))

rows_bare : (ops : Ops) (rs : List Row) → rows_are_bare rs ≡ true → NamesAreBare ops → NamesAreBare (put_rows ops rs)
rows_bare ops [] e bare = bare
rows_bare ops (r ∷ rs) e bare =
    let h = and_parts (are_bare r.names) (rows_are_bare rs) e in
    rows_bare (put_names ops r.priority r.kind r.names) rs h.1 (names_bare ops r.priority r.kind r.names h.0 bare)

none_bare : NamesAreBare empty
none_bare f is = cc

rows_tested : rows_are_bare rows ≡ true
unfolding needs_quotes first_char
rows_tested = refl

pub standard_bare : NamesAreBare standard
standard_bare = rows_bare empty rows rows_tested none_bare
