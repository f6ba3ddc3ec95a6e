-- From the call of a settling to its end.
use Rattle.std.proofs.Common.{◌≡◌, ℕ, List, [], Option, sym, ◌∙◌, subst}
use Rattle.spec_numbers.specs.Rational.{ℚ}
use Rattle.spec_linear.specs.Solution.{Constraint, Solvable, Fixes}
use Rattle.spec_numbers.specs.Texts.{Text}
use Rattle.spec_terms.specs.Term.{Subst}
use Rattle.spec_branch.specs.Branch.{State, Pending}
use Rattle.cq_attr.specs.Attributes.{Attributes}
use Rattle.cq_frac.specs.declared.VarId.{VarId}
use Rattle.cq_settle.specs.Contents.{Contents}
use Rattle.cq_settle.specs.Called.{SomeIsCalled, OfCalls}
use Rattle.cq_settle.specs.Settled.{IsKept}
use Rattle.cq_settle.specs.Steps.{WakesAll}
use Rattle.cq_settle.specs.Underway.{HasStarted, SomeIsUnderway, GoesOn, OfEach, to_do}
use Rattle.cq_settle.proofs.Ways.{ends_kept}

-- a fact of each call, of lists that are the same
pub of_same : (texts : List Text) (c : Contents) (newly : List VarId) (told ts : List ℕ) (rows rs : List Constraint) (P : State → Pending → Subst Text → Type 0) → ts ≡ told → rs ≡ rows
    → OfCalls texts c newly ts rs P → OfCalls texts c newly told rows P
of_same texts c newly told ts rows rs P e f k =
    subst (λ (xs : List ℕ). OfCalls texts c newly xs rows P) e (subst (λ (xs : List Constraint). OfCalls texts c newly ts xs P) f k)

pub same_called : (texts : List Text) (c : Contents) (newly : List VarId) (told ts : List ℕ) (rows rs : List Constraint) → ts ≡ told → rs ≡ rows
    → SomeIsCalled texts c newly told rows → SomeIsCalled texts c newly ts rs
same_called texts c newly told ts rows rs e f k =
    subst (λ (xs : List ℕ). SomeIsCalled texts c newly xs rs) (sym e) (subst (λ (xs : List Constraint). SomeIsCalled texts c newly told xs) (sym f) k)

-- where the equations and rows have joined, the told terms are left
pub started : (texts : List Text) (c d : Contents) (newly : List VarId) (told ts us : List ℕ) (rows rs : List Constraint) (all : List ℕ) → ts ≡ told → rs ≡ rows → us ≡ told
    → OfCalls texts c newly ts rs (HasStarted texts c.heap.terms d ts all) → OfCalls texts c newly told rows (HasStarted texts c.heap.terms d us all)
started texts c d newly told ts us rows rs all e f g begun =
    subst (λ (xs : List ℕ). OfCalls texts c newly told rows (HasStarted texts c.heap.terms d xs all)) (e ∙ sym g)
    (of_same texts c newly told ts rows rs (HasStarted texts c.heap.terms d ts all) e f begun)

-- and the settling is underway
module _ (texts : List Text) (c d : Contents) (newly : List VarId) (told us : List ℕ) (rows : List Constraint) (all : List ℕ)
    (start : OfCalls texts c newly told rows (HasStarted texts c.heap.terms d us all)) where
  pub some_started : SomeIsCalled texts c newly told rows → SomeIsUnderway texts d (to_do us [] all all)
  some_started k =
      let s = start k.state k.pending k.unifier k.is in
      record {
        state = k.state;
        pending = k.pending;
        unifier = k.unifier;
        older = c.heap.terms;
        values = s.values;
        waiting = k.state.delayed;
        later = k.pending.told;
        is = s.underway;
      }

  -- a fact of each settling that is underway is one of each call
  pub of_started : (P : State → Pending → Subst Text → Type 0) → OfEach texts d (to_do us [] all all) P → OfCalls texts c newly told rows P
  of_started P h st p u k = let s = start st p u k in h st p u c.heap.terms s.values st.delayed p.told s.underway

  pub ran_kept : (b : Contents) (bound : List ℕ) → GoesOn texts d b (to_do us [] all all) (to_do [] [] [] bound) → Solvable b.told → (fixed : ℕ → Option ℚ) → Fixes b.told fixed
      → (a : Attributes) (goals : List ℕ) → WakesAll b bound a goals → OfCalls texts c newly told rows (λ st p u. IsKept texts c (record b { attrs = a }) goals st p u)
  ran_kept b bound goes solvable fixed fixes a goals w st p u k =
      let s = start st p u k in
      let r = goes st p u c.heap.terms s.values st.delayed p.told s.underway in
      ends_kept texts c b bound a goals solvable fixed fixes w st p u r.0 r.1 r.2 r.3

-- a world of which only the attributes have changed
pub but_attrs : (c d : Contents) → d.heap ≡ c.heap → d.told ≡ c.told → d.pivots ≡ c.pivots → record c { attrs = d.attrs } ≡ d
but_attrs c d h t p = λ i. record { heap = sym h i; attrs = d.attrs; told = sym t i; pivots = sym p i }
