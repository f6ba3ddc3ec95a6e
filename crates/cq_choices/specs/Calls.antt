-- What a call of a predicate on terms or texts leads an engine to.
use Rattle.std.specs.Prelude.{◌≡◌, ℕ, List, ◌∷◌, None}
use Rattle.std.specs.List.{AllZip}
use Rattle.spec_numbers.specs.Texts.{Text}
use Rattle.spec_syntax.specs.Trees.{Tree}
use Rattle.spec_branch.specs.Branch.{State, Branch}
use Rattle.spec_search.specs.Predicates.{Predicate}
use Rattle.spec_search.specs.Calls.{solutions_of}
use Rattle.spec_search.specs.Replies.{Place, Reply, offers}
use Rattle.cq_built.specs.declared.errors.BuiltinFault.{BuiltinFault}
use Rattle.cq_predicates.specs.declared.solutions.Solutions.{Solutions}
use Rattle.cq_resolve.specs.Database.{Program}
use Rattle.cq_settle.specs.Contents.{Contents}
use Rattle.cq_branch.specs.declared.alternatives.Alternatives.TheVariants as alternatives
use Rattle.cq_branch.specs.Calls.{IsRaised}
use Rattle.cq_branch.specs.Worlds.{IsBranch, ReadsAs, Placed, Leads}
use Rattle.cq_choices.specs.Held.{Held, IsOver, open_of, stack_of}

-- each argument reads as its tree
abbrev pub AreRead : List Text → Contents → State → List ℕ → List Tree → Type 0
AreRead texts c st ids ts = AllZip (ReadsAs texts c st) ids ts

-- the row of a predicate that is called with these arguments at a place
abbrev pub row_of : Predicate → Place → List Tree → Reply
row_of q p ts = offers p (solutions_of q p.state.fresh ts)

-- The engine, where the predicate's goal is selected with this continuation behind it, leads to what the row makes. It comes
-- back to it: each alternative is still to be begun.
abbrev pub CallLeads : Held → Held → Predicate → List ℕ → ℕ → Type 0
CallLeads old new q args rest = (v : Program) (p : Place) (behind : List Branch) (ts : List Tree) → IsOver v old
    → Placed old.texts (stack_of v old) old.now rest p behind → AreRead old.texts old.now.0 p.state args ts
    → Leads new.texts (stack_of v new) new.now None p behind (row_of q p ts)

-- the row is the error
abbrev pub CallRaises : Held → Predicate → List ℕ → BuiltinFault → Type 0
CallRaises h q args fault = (p : Place) (ts : List Tree) → IsBranch h.texts h.now.0 p.state → AreRead h.texts h.now.0 p.state args ts
    → IsRaised h.texts h.now.0.heap.terms fault (row_of q p ts)

-- there is one more choice than before: of a predicate's alternatives, with this continuation, over the world now
abbrev pub LeavesWays : Held → Held → ℕ → Type 0
LeavesWays old new rest = (s : Solutions) × (open_of new ≡ (new.now, alternatives.Ways s rest) ∷ open_of old)
    × (new.choices ≡ alternatives.Ways s rest ∷ old.choices)
