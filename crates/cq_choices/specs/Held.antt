-- What an engine holds, and what is said of it where names are added.
use Rattle.std.specs.Prelude.{◌≡◌, List}
use Rattle.std.specs.List.{AllByRecursion}
use Rattle.spec_numbers.specs.Texts.{Text}
use Rattle.cq_control.specs.Items.{ContinuationsValue}
use Rattle.cq_control.specs.Open.{AreMarked, open_choices}
use Rattle.cq_resolve.specs.Database.{Program, IsProgram}
use Rattle.cq_term.specs.Names.{HasNamesOfTerms}
use Rattle.cq_settle.specs.Contents.{Contents}
use Rattle.cq_settle.specs.declared.world.World.{World}
use Rattle.spec_engine.specs.declared.machine.cell.Cell.{Cell}
use Rattle.spec_engine.specs.Cells.{Value, Stack}
use Rattle.cq_branch.specs.declared.alternatives.Alternatives.{Alternatives}
use Rattle.cq_branch.specs.Choices.{AreOpen}
use Rattle.cq_branch.specs.Worlds.{value, saved_values, stack}

-- the texts of its names, its choices with the values that they go back to, the oldest value first, and the value now
pub record Held : Type 0 where
  pub texts : List Text
  pub saved : List (Value Contents)
  pub choices : List Alternatives
  pub now : Value Contents

-- what these names, this world, these continuations and choices are
abbrev pub held : List Text → World → ContinuationsValue Cell → List Alternatives → Held
held texts w lists choices = record { texts = texts; saved = saved_values w lists.saved; choices = choices; now = value w lists.now }

-- its choices, each with the value that it goes back to
abbrev pub open_of : Held → List (Value Contents × Alternatives)
open_of h = open_choices h.saved h.choices

-- the same as the definitions see them
abbrev pub stack_of : Program → Held → Stack Contents
stack_of v h = stack h.texts v h.saved h.choices

-- a mark of the world for each choice
abbrev pub HasMarks : Held → Type 0
HasMarks h = AreMarked h.saved h.choices

-- in the world of each choice variables have no names but those of terms
abbrev pub AreNamedByTerms : List (Value Contents × Alternatives) → Type 0
AreNamedByTerms xs = AllByRecursion (λ (c : Value Contents × Alternatives). HasNamesOfTerms c.0.0.heap) xs

-- the names are those of the program, and each choice can be gone on with
pub record IsOver (v : Program) (h : Held) : Type 0 where
  pub program : IsProgram h.texts v
  pub choices : AreOpen h.texts v h.saved h.choices

-- nothing has changed but names that may have been added
pub record IsAsBefore (old new : Held) : Type 0 where
  pub now : new.now ≡ old.now
  pub choices : open_of new ≡ open_of old

-- where each choice could be gone on with, each can be
abbrev pub StaysOver : Held → Held → Type 0
StaysOver old new = (v : Program) → IsOver v old → IsOver v new
