-- What the head of a clause comes to at a goal, and pairs of terms that are made equal.
use Rattle.std.specs.Prelude.{◌≡◌, ℕ, List, Contains, false, ⊤}
use Rattle.cq_attr.specs.Attributes.{Attributes, is_numeric, IsWokenBy}
use Rattle.cq_frac.specs.declared.VarId.{VarId}
use Rattle.cq_settle.specs.Equal.{AllEqual}
use Rattle.cq_term.specs.HeapValue.{Terms}
use Rattle.cq_term.specs.Names.{KeepsNames}
use Rattle.cq_term.specs.declared.view.View.{View}
use Rattle.cq_term.specs.declared.view.View.TheVariants as view
use Rattle.cq_term.specs.Places.{numbers_of}
use Rattle.cq_term.specs.declared.walk.pairs.Pair.{Pair}
use Rattle.cq_branch.specs.declared.begin.entering.Entry.{Entry}
use Rattle.cq_branch.specs.declared.begin.entering.Entry.TheVariants.{Body, Clash, Unsettled}
use Rattle.cq_branch.specs.declared.begin.equal.Equated.{Equated}
use Rattle.cq_branch.specs.declared.begin.equal.Equated.TheVariants as equated

-- a fact of the body, where nothing is to be settled
abbrev pub IfBody : Entry → (ℕ → Type 0) → Type 0
IfBody (Body id) P = P id
IfBody Clash P = ⊤
IfBody Unsettled P = ⊤

-- a fact, where nothing makes the two equal
abbrev pub IfClash : Entry → Type 0 → Type 0
IfClash (Body id) P = ⊤
IfClash Clash P = P
IfClash Unsettled P = ⊤

-- none of the variables is numeric, and nothing waits for one of them
pub record IsFree (a : Attributes) (newly : List VarId) : Type 0 where
  pub numeric : (v : ℕ) → Contains (numbers_of newly) v → is_numeric a v ≡ false
  pub awaited : (n : ℕ) → IsWokenBy a (numbers_of newly) n → ⊥

-- ---- pairs of terms

-- a number or a name
abbrev pub IsConstant : View → Type 0
IsConstant (view.Var v) = ⊥
IsConstant (view.Number q) = ⊤
IsConstant (view.Name a) = ⊤
IsConstant (view.Compound f n) = ⊥

-- a fact, where they were made equal
abbrev pub IfEqual : Equated → Type 0 → Type 0
IfEqual equated.Equal P = P
IfEqual equated.Apart P = ⊤
IfEqual equated.Unsettled P = ⊤

-- a fact, where nothing makes them equal
abbrev pub IfApart : Equated → Type 0 → Type 0
IfApart equated.Equal P = ⊤
IfApart equated.Apart P = P
IfApart equated.Unsettled P = ⊤

-- They were made equal, and nothing is to be settled. Names below a number stay so.
pub record AreFree (old new : Terms) (a : Attributes) (pairs : List Pair) : Type 0 where
  pub newly : List VarId
  pub equal : AllEqual old new pairs newly
  pub free : IsFree a newly
  pub names : (n : ℕ) → KeepsNames n old new
