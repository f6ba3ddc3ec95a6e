-- A copy is a variant, with new variables; so is a clause that is called.
use Rattle.std.proofs.Common.{◌≡◌, ℕ, zero, suc, ◌+◌, ◌<◌, ◌≤◌, arith, List, [], ◌∷◌, length, get_or, Contains, refl, subst}
use Rattle.spec_terms.specs.Term.{Occurs}
use Rattle.spec_terms.specs.Variables.{variables, numbered_from, original_from, renamed_from, counted_from}
use Rattle.spec_terms.proofs.Listed.{occurs_listed, renamed_back, variables-renamed_from}
use Rattle.spec_terms.specs.Variants.{AreVariants}
use Rattle.spec_syntax.specs.Trees.{Tree}
use Rattle.spec_branch.specs.Branch.{State, plain_copy}
use Rattle.spec_builtins.specs.Clauses.{rule}
use Rattle.spec_search.specs.Database.{Clause}
use Rattle.spec_search.specs.Replies.{Place, landed_term, landed}
use Rattle.spec_search.specs.Control.{instance, clause_state}

pub copy_variant : (st : State) (t : Tree) → AreVariants t (landed_term st (plain_copy t))
copy_variant st t = ((original_from st.fresh (variables t), renamed_back st.fresh t), (numbered_from st.fresh (variables t), refl))

counted_within : (n k v i : ℕ) → i < length (counted_from n k) → get_or (counted_from n k) i v ≡ v → (n ≤ v) × (v < n + k)
counted_within n zero v i l e = absurd (omega arith)
counted_within n (suc k) v zero l e = (omega arith, omega arith)
counted_within n (suc k) v (suc i) l e =
    let h = counted_within (suc n) k v i (omega arith) e in
    (omega (arith, h.0), omega (arith, h.1))

renamed_new : (n : ℕ) (t : Tree) (v : ℕ) → Occurs v (renamed_from n t) → (n ≤ v) × (v < n + length (variables t))
renamed_new n t v o =
    let c : Contains (counted_from n (length (variables t))) v = subst (λ (vs : List ℕ). Contains vs v) (variables-renamed_from n t) (occurs_listed (renamed_from n t) v o) in
    counted_within n (length (variables t)) v c.0 c.1 c.2

pub copy_new : (st : State) (t : Tree) (v : ℕ) → Occurs v (landed_term st (plain_copy t))
    → (st.fresh ≤ v) × (v < (landed st (plain_copy t ∷ [])).state.fresh)
copy_new st t v o = renamed_new st.fresh t v o

-- ---- clauses under the next variables

pub instance_variant : (p : Place) (c : Clause) → AreVariants (rule c.parts) (rule (instance p c))
instance_variant p c = (
  (original_from p.state.fresh (variables (rule c.parts)), renamed_back p.state.fresh (rule c.parts)),
  (numbered_from p.state.fresh (variables (rule c.parts)), refl),
)

pub instance_new : (p : Place) (c : Clause) (v : ℕ) → Occurs v (rule (instance p c))
    → (p.state.fresh ≤ v) × (v < (clause_state p c).fresh)
instance_new p c v o = renamed_new p.state.fresh (rule c.parts) v o
