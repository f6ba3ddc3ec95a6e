-- Copies that are the same but for the form of their rows, and terms that have plain copies.
use Rattle.std.specs.Prelude.{◌≡◌, ℕ, true, false}
use Rattle.spec_linear.specs.Solution.{Equivalent, SomeMentions, Has}
use Rattle.spec_terms.specs.Term.{Occurs}
use Rattle.spec_syntax.specs.Trees.{Tree}
use Rattle.spec_branch.specs.Branch.{State, Copied, read}
use Rattle.spec_copies.specs.Reach.{Link, links}

-- one copy, but for its rows, which have the same solutions
pub record SameCopy (c d : Copied) : Type 0 where
  pub variables : c.variables ≡ d.variables
  pub term : c.term ≡ d.term
  pub numeric : c.numeric ≡ d.numeric
  pub rows : Equivalent c.rows d.rows
  pub told : c.told ≡ d.told
  pub asleep : c.asleep ≡ d.asleep

-- each variable that the linear constraints mention is numeric
abbrev pub MentionsNumeric : State → Type 0
MentionsNumeric st = (v : ℕ) → SomeMentions v st.linear → st.numeric v ≡ true

-- nothing constrains a variable of the term: none is numeric, and nothing waits for one
pub record IsUnconstrained (st : State) (t : Tree) : Type 0 where
  pub plain : (v : ℕ) → Occurs v (read st t) → st.numeric v ≡ false
  pub unlinked : (v : ℕ) (k : Link) → Occurs v (read st t) → Has k (links st) → Occurs v k.from → ⊥
