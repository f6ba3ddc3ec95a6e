-- What predicates on texts give, by the terms of a heap.
use Rattle.std.specs.Prelude.{◌≡◌, ℕ, ◌<◌, ◌^◌, List, length, chars}
use Rattle.spec_numbers.specs.Texts.{Text}
use Rattle.spec_builtins.specs.Alternatives.{Solutions}
use Rattle.spec_builtins.specs.Texts.{atom_length_row, atom_concat_row, sub_atom_row}
use Rattle.cq_term.specs.Texts.{text_of}
use Rattle.cq_term.specs.Meaning.{HeapTerm}
use Rattle.cq_term.specs.Trees.{tree}
use Rattle.cq_predicates.specs.declared.text.ways.PartArgs.{PartArgs}
use Rattle.cq_predicates.specs.declared.text.ways.PartWays.{PartWays}
use Rattle.cq_predicates.specs.declared.text.ways.SplitArgs.{SplitArgs}
use Rattle.cq_predicates.specs.declared.text.ways.SplitWays.{SplitWays}
use Rattle.cq_predicates.specs.Places.{place}
use Rattle.cq_predicates.specs.Arguments.{IsAskedText, ArePartsAsked}

-- what atom_length gives of a text and its length
abbrev pub length_row : List Text → List HeapTerm → ℕ → ℕ → Solutions
length_row texts ts text len = atom_length_row (tree texts ts text) (tree texts ts len)

-- what sub_atom gives of a text and the arguments of its part
abbrev pub parts_row : List Text → List HeapTerm → ℕ → PartArgs → Solutions
parts_row texts ts text a =
    sub_atom_row (tree texts ts text) (tree texts ts a.before) (tree texts ts a.len) (tree texts ts a.after) (tree texts ts a.part)

-- all parts of a name's text that are as the arguments ask are still to come
pub record StartsParts (texts : List Text) (ts : List HeapTerm) (name : ℕ) (a : PartArgs) (w : PartWays) : Type 0 where
  pub characters : w.parts.characters.items ≡ chars (text_of texts name)
  pub few : length w.parts.characters.items < 2 ^ 64
  pub asked : ArePartsAsked texts ts a w.parts.sought
  pub next : w.next ≡ place 0 0
  pub args : w.args ≡ a

-- what atom_concat gives of two texts and the one that they make
abbrev pub concat_row : List Text → List HeapTerm → SplitArgs → ℕ → Solutions
concat_row texts ts a whole = atom_concat_row (tree texts ts a.first) (tree texts ts a.last) (tree texts ts whole)

-- all splits of a name's text that are as the arguments ask are still to come
pub record StartsSplits (texts : List Text) (ts : List HeapTerm) (name : ℕ) (a : SplitArgs) (w : SplitWays) : Type 0 where
  pub characters : w.splits.characters.items ≡ chars (text_of texts name)
  pub first : IsAskedText (tree texts ts a.first) w.splits.first
  pub last : IsAskedText (tree texts ts a.last) w.splits.last
  pub next : w.next ≡ 0
  pub args : w.args ≡ a
