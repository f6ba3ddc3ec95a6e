-- Goals that are selected, by what their arguments read as.
use Rattle.std.specs.Prelude.{◌≡◌, ◌⊎◌, ℕ, List}
use Rattle.spec_numbers.specs.Texts.{Text}
use Rattle.spec_syntax.specs.Trees.{Tree}
use Rattle.spec_builtins.specs.Built.{compound1}
use Rattle.spec_branch.specs.Branch.{Branch}
use Rattle.spec_search.specs.Replies.{Place}
use Rattle.cq_control.specs.Open.{open_choices}
use Rattle.cq_settle.specs.Ready.{MayBeTold}
use Rattle.cq_term.specs.HeapValue.{Terms}
use Rattle.cq_term.specs.Trees.{tree}
use Rattle.cq_settle.specs.Contents.{Contents}
use Rattle.spec_engine.specs.Cells.{Value, Stack}
use Rattle.cq_branch.specs.declared.alternatives.Alternatives.{Alternatives}
use Rattle.cq_branch.specs.Choices.{LeavesMore}
use Rattle.cq_branch.specs.Worlds.{ReadsAs, Placed, Selected}

-- what holds wherever a goal is selected with this continuation behind it, and this argument
abbrev pub AtGoals : List Text → Value Contents → ℕ → ℕ → (Stack Contents → Place → List Branch → Tree → Type 0) → Type 0
AtGoals texts now argument rest P = (choices : Stack Contents) (p : Place) (behind : List Branch) (t : Tree) → Placed texts choices now rest p behind
    → ReadsAs texts now.0 p.state argument t → P choices p behind t

-- the same of a goal with these two arguments
abbrev pub AtBoth : List Text → Value Contents → ℕ → ℕ → ℕ → (Stack Contents → Place → List Branch → Tree → Tree → Type 0) → Type 0
AtBoth texts now first second rest P = (choices : Stack Contents) (p : Place) (behind : List Branch) (t u : Tree) → Placed texts choices now rest p behind
    → ReadsAs texts now.0 p.state first t → ReadsAs texts now.0 p.state second u → P choices p behind t u

-- what holds wherever a goal is selected over these choices, and a cut in it goes back to the height
abbrev pub OverChoices : List Text → Stack Contents → Value Contents → ℕ → ℕ → ℕ → (Place → List Branch → Tree → Type 0) → Type 0
OverChoices texts choices now argument height rest P = (p : Place) (behind : List Branch) (t : Tree) → Selected texts choices now height rest p behind
    → ReadsAs texts now.0 p.state argument t → P p behind t

-- the open choices are those of before, and at most one more, which goes on with a continuation in this world
abbrev pub LeavesOneAtMost : List (Value Contents) → List Alternatives → Value Contents → List (Value Contents) → List Alternatives → Type 0
LeavesOneAtMost saved choices now more after = (open_choices more after ≡ open_choices saved choices) ⊎ LeavesMore saved choices now more after

-- both are goals {C} of these two constraints, and are read through the bindings
pub record AreGoals (texts : List Text) (old new : Terms) (left right : ℕ) (goals : ℕ × ℕ) : Type 0 where
  pub first : tree texts new.terms goals.0 ≡ compound1 "{}" (tree texts old.terms left)
  pub second : tree texts new.terms goals.1 ≡ compound1 "{}" (tree texts old.terms right)
  pub first_read : MayBeTold new goals.0
  pub second_read : MayBeTold new goals.1
