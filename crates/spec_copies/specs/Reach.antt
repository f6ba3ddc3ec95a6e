-- The variables that a copy of a term takes with it: those of the term, and those that something waiting links to them.
use Rattle.std.specs.Prelude.{ℕ, List, ◌++◌, map, Bool, ◌==◌}
use Rattle.std.specs.List.{list_any}
use Rattle.spec_linear.specs.Solution.{Has}
use Rattle.spec_terms.specs.Term.{Occurs}
use Rattle.spec_terms.specs.Variables.{variables}
use Rattle.spec_syntax.specs.Trees.{Tree}
use Rattle.spec_branch.specs.Branch.{State, Asleep, Frozen, read}

-- ---- what waits

-- what sleeps, its terms as they read
abbrev pub read_asleep : State → Asleep → Asleep
read_asleep st (Frozen x g) = Frozen (read st x) (read st g)

-- the delayed constraints, in the order of delaying, as they read
abbrev pub delayed_terms : State → List Tree
delayed_terms st = map (read st) st.delayed

-- what sleeps, in the order of suspension, as it reads
abbrev pub asleep_terms : State → List Asleep
asleep_terms st = map (λ k. read_asleep st k.asleep) st.sleepers

-- ---- links

-- with some variable of the first term go all variables of the second
pub record Link : Type 0 where
  pub from : Tree
  pub to : Tree

-- a delayed constraint links each of its variables to all of them
abbrev pub delayed_link : Tree → Link
delayed_link t = record { from = t; to = t }

-- freeze(X,G) links X to the variables of G, and no variable of G to anything
abbrev pub asleep_link : Asleep → Link
asleep_link (Frozen x g) = record { from = x; to = g }

-- a linear constraint links nothing
abbrev pub links : State → List Link
links st = map delayed_link (delayed_terms st) ++ map asleep_link (asleep_terms st)

-- the variables of a term, and those that links lead to from there
pub data Reaches (t : Tree) (ls : List Link) : ℕ → Type 0 where
  stands : {v : ℕ} → Occurs v t → Reaches t ls v
  linked : {v w : ℕ} (k : Link) → Has k ls → Reaches t ls w → Occurs w k.from → Occurs v k.to → Reaches t ls v

-- some variable of the term is among these
abbrev pub touches : List ℕ → Tree → Bool
touches vs t = list_any (λ v. list_any (λ w. w == v) vs) (variables t)
