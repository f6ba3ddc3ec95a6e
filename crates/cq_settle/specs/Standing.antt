-- How a world is the state of a branch.
use Rattle.std.specs.Prelude.{◌≡◌, ℕ, ◌<◌, ◌≤◌, List, length, filter, Bool, true, false, Contains}
use Rattle.std.specs.List.{AllZip}
use Rattle.spec_numbers.specs.Texts.{Text}
use Rattle.spec_terms.specs.Term.{Subst, Var, Occurs, apply}
use Rattle.spec_syntax.specs.Trees.{Tree}
use Rattle.spec_branch.specs.Branch.{Asleep, Frozen, Sleeper, State}
use Rattle.cq_frac.specs.declared.VarId.{VarId}
use Rattle.cq_term.specs.HeapValue.{Terms}
use Rattle.cq_term.specs.Meaning.{HeapTerm}
use Rattle.cq_term.specs.Trees.{tree, KnowsTerms}
use Rattle.cq_attr.specs.Attributes.{Waiting, Attributes, is_numeric}
use Rattle.cq_attr.specs.declared.susp.Susp.{Susp}
use Rattle.cq_attr.specs.declared.susp.Susp.TheVariants as susp
use Rattle.cq_settle.specs.Contents.{Contents}

-- the substitution gives each variable of the heap its image, and changes no other
pub record AreImages (texts : List Text) (images : List HeapTerm) (s : Subst Text) : Type 0 where
  pub inside : (v : ℕ) → v < length images → s v ≡ tree texts images v
  pub outside : (v : ℕ) → length images ≤ v → s v ≡ Var v

-- ---- what waits

abbrev pub is_constraint : Susp → Bool
is_constraint (susp.Delayed t) = true
is_constraint (susp.Goal v t) = false

abbrev pub is_goal : Susp → Bool
is_goal (susp.Delayed t) = false
is_goal (susp.Goal v t) = true

-- the constraints that wait to become linear, ascending by number
abbrev pub constraints : Attributes → List Waiting
constraints a = filter (λ k. is_constraint k.susp) a.waiting

-- the goals that sleep, ascending by number
abbrev pub goals : Attributes → List Waiting
goals a = filter (λ k. is_goal k.susp) a.waiting

-- What waits is the constraint, read under s. It waits for each variable that the constraint had when it was read under r.
pub record IsConstraint (texts : List Text) (h : Terms) (r s : Subst Text) (k : Waiting) (t : Tree) : Type 0 where
  pub id : ℕ
  pub susp : k.susp ≡ susp.Delayed id
  pub live : id < length h.terms
  pub reads : tree texts h.terms id ≡ apply s t
  pub watched : (v : ℕ) → Occurs v (apply r t) → Contains k.watched v

-- the id and the variable are those of freeze(X,G), read under s
abbrev pub AreRead : List Text → Terms → Subst Text → VarId → ℕ → Asleep → Type 0
AreRead texts h s x id (Frozen y g) = (tree texts h.images x.0 ≡ apply s y) × (tree texts h.terms id ≡ apply s g)

-- the variable is the one of freeze(X,G), read under r
abbrev pub IsAwaited : Subst Text → ℕ → Asleep → Type 0
IsAwaited r v (Frozen y g) = apply r y ≡ Var v

-- What waits is the goal that sleeps, read under s. It waits for the variable that it had when it was read under r.
pub record IsSleeper (texts : List Text) (h : Terms) (r s : Subst Text) (k : Waiting) (z : Sleeper) : Type 0 where
  pub variable : VarId
  pub id : ℕ
  pub susp : k.susp ≡ susp.Goal variable id
  pub variable_live : variable.0 < length h.images
  pub live : id < length h.terms
  pub reads : AreRead texts h s variable id z.asleep
  pub watched : (v : ℕ) → IsAwaited r v z.asleep → Contains k.watched v

-- The world is the state of a branch, with s in the place of the state's own bindings. What waits, waits for the variables that
-- it had when it was read under r.
pub record Stands (texts : List Text) (c : Contents) (r s : Subst Text) (st : State) : Type 0 where
  pub bindings : AreImages texts c.heap.images s
  pub linear : c.told ≡ st.linear
  pub delayed : AllZip (IsConstraint texts c.heap r s) (constraints c.attrs) st.delayed
  pub numeric : (v : ℕ) → is_numeric c.attrs v ≡ st.numeric v
  pub sleepers : AllZip (IsSleeper texts c.heap r s) (goals c.attrs) st.sleepers
  pub fresh : length c.heap.images ≡ st.fresh
  -- each name has a text
  pub names : KnowsTerms texts c.heap.terms
