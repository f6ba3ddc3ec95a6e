-- Texts that are split, and parts of texts: what the alternatives of atom_concat and sub_atom say. They help to state laws.
use Rattle.std.specs.Prelude.{◌≡◌, ◌⊎◌, ℕ, ◌<◌, List, [], ◌∷◌, ◌++◌, length, All, AllPairs, Contains, chars, IsUtf8, false}
use Rattle.spec_numbers.specs.Texts.{Text}
use Rattle.spec_terms.specs.Term.{Name}
use Rattle.spec_terms.specs.Unifier.{Equation}
use Rattle.spec_syntax.specs.Trees.{Tree}
use Rattle.spec_builtins.specs.Built.{natural}
use Rattle.spec_builtins.specs.Kinds.{is_variable, is_compound}
use Rattle.spec_builtins.specs.Alternatives.{◌≐◌}

-- the list has just the things with P, each once, in the order of Before
pub record ListsAll {A : Type 0} (P : A → Type 0) (Before : A → A → Type 0) (xs : List A) : Type 0 where
  pub each : All P xs
  pub all : (x : A) → P x → Contains xs x
  pub ordered : AllPairs Before xs

-- a pair of an argument that is no compound with an atom or a number
pub record IsPlain (e : Equation Text) : Type 0 where
  pub left : is_compound e.left ≡ false
  pub right : is_compound e.right ≡ false
  pub bound : is_variable e.right ≡ false

-- how many characters a text has
abbrev pub size : Text → ℕ
size text = length (chars text)

-- ---- two texts that make one

-- a text in two pieces
pub record Split : Type 0 where
  pub first : Text
  pub last : Text

-- the two pieces of this text, cut between characters
pub record IsSplit (whole : Text) (s : Split) : Type 0 where
  pub first : IsUtf8 s.first
  pub last : IsUtf8 s.last
  pub joined : s.first ++ s.last ≡ whole

-- the order in which a text is cut: the shorter first piece comes first
abbrev pub HasShorterFirst : Split → Split → Type 0
HasShorterFirst s t = size s.first < size t.first

-- the two arguments with the two texts
abbrev pub split_pairs : Tree → Tree → Split → List (Equation Text)
split_pairs a b s = (a ≐ Name s.first) ∷ (b ≐ Name s.last) ∷ []

-- ---- a part of a text

-- a part of a text, with what stands before and after it
pub record Part : Type 0 where
  pub before : Text
  pub part : Text
  pub after : Text

-- the three are this text together, cut between characters
pub record IsPart (whole : Text) (p : Part) : Type 0 where
  pub before : IsUtf8 p.before
  pub part : IsUtf8 p.part
  pub after : IsUtf8 p.after
  pub joined : p.before ++ (p.part ++ p.after) ≡ whole

-- it begins earlier, or at the same place and is shorter
abbrev pub IsEarlier : Part → Part → Type 0
IsEarlier p q =
    (size p.before < size q.before) ⊎ ((size p.before ≡ size q.before) × (size p.part < size q.part))

-- the arguments with how many characters stand before, in and after the part, and with the part
abbrev pub part_pairs : Tree → Tree → Tree → Tree → Part → List (Equation Text)
part_pairs b l r s p =
    (b ≐ natural (size p.before)) ∷ (l ≐ natural (size p.part)) ∷ (r ≐ natural (size p.after)) ∷ (s ≐ Name p.part) ∷ []
