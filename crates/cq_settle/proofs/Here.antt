-- What a term that waits or is told comes to over the list, in the middle of a settling.
use Rattle.std.proofs.Common.{◌≡◌, ℕ, List, Option, ap, ◌∙◌}
use Rattle.std.specs.Prelude.{true}
use Rattle.spec_numbers.specs.Rational.{ℚ}
use Rattle.spec_linear.specs.Solution.{Fixes}
use Rattle.spec_numbers.specs.Texts.{Text}
use Rattle.spec_terms.specs.Term.{Subst, Var, Occurs, apply}
use Rattle.spec_terms.proofs.Substitution.{apply-followed_by, occurs_from}
use Rattle.spec_syntax.specs.Trees.{Tree}
use Rattle.spec_branch.specs.Relations.{lin}
use Rattle.spec_branch.specs.Alike.{no_values}
use Rattle.spec_branch.specs.Branch.{State, Pending}
use Rattle.spec_transcript.specs.Operands.{relation_operands}
use Rattle.cq_term.specs.Meaning.{HeapTerm}
use Rattle.cq_term.specs.Trees.{tree}
use Rattle.cq_settle.specs.Contents.{Contents}
use Rattle.cq_settle.specs.Underway.{IsTask, IsHere, unified, numeric_then, valued, bindings_now}
use Rattle.cq_settle.proofs.Bound.{lin_same}
use Rattle.cq_settle.proofs.Operands.{relation_same, relation_agree}
use Rattle.cq_settle.proofs.Values.{same_value, lin_agree}

-- the variables of a term that is read under the unified bindings are unbound
pub inside : (st : State) (p : Pending) (u : Subst Text) → IsTask st p u → (t : Tree) (v : ℕ) → Occurs v (apply (unified st u) t) → unified st u v ≡ Var v
inside st p u k t v o = let r = occurs_from (unified st u) v t o in k.read_through.through r.0 v r.2

module _ (texts : List Text) (older : List HeapTerm) (c : Contents) (st : State) (p : Pending) (u : Subst Text) (values : ℕ → Option ℚ) (waiting later : List Tree)
    (rest numbers bound all : List ℕ) (k : IsHere texts older c st p u values waiting later rest numbers bound all) (fixed : ℕ → Option ℚ) (fixes : Fixes c.told fixed) where
  -- the values are those that the list fixes
  pub agree : (v : ℕ) → numeric_then st p u v ≡ true → unified st u v ≡ Var v → values v ≡ fixed v
  agree v n e = same_value (values v) (fixed v) (λ q h. fixes.complete v q (k.are_bound.fixed v q h)) (λ q h. k.are_bound.complete v q n e (fixes.sound v q h))

  agree_in : (t : Tree) → ((v : ℕ) → Occurs v (apply (unified st u) t) → numeric_then st p u v ≡ true) → (v : ℕ) → Occurs v (apply (unified st u) t) → values v ≡ fixed v
  agree_in t n v o = agree v (n v o) (inside st p u k.task t v o)

  -- so a term is over the list what it is with these values
  pub over_list : (t : Tree) → ((v : ℕ) → Occurs v (apply (unified st u) t) → numeric_then st p u v ≡ true)
      → lin values (apply (unified st u) t) ≡ lin fixed (apply (unified st u) t)
  over_list t n = lin_agree values fixed (apply (unified st u) t) (agree_in t n)

  -- which is what it is as the heap reads it
  pub on_heap : (id : ℕ) (t : Tree) → tree texts c.heap.terms id ≡ apply (bindings_now st u values) t
      → lin no_values (tree texts c.heap.terms id) ≡ lin values (apply (unified st u) t)
  on_heap id t e =
      ap (λ (x : Tree). lin no_values x) (e ∙ apply-followed_by (unified st u) (valued values) t)
      ∙ lin_same values (apply (unified st u) t)

  -- and so are its operations
  pub operations_over_list : (id : ℕ) (t : Tree) → tree texts c.heap.terms id ≡ apply (bindings_now st u values) t
      → ((v : ℕ) → Occurs v (apply (unified st u) t) → numeric_then st p u v ≡ true)
      → relation_operands no_values (tree texts c.heap.terms id) ≡ relation_operands fixed (apply (unified st u) t)
  operations_over_list id t e n =
      ap (λ (x : Tree). relation_operands no_values x) (e ∙ apply-followed_by (unified st u) (valued values) t)
      ∙ relation_same values (apply (unified st u) t)
      ∙ relation_agree values fixed (apply (unified st u) t) (agree_in t n)
