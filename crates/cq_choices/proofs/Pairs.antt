-- The pairs of an alternative as the work of its branch.
use Rattle.std.proofs.Common.{◌≡◌, ℕ, List, [], ◌∷◌, map, refl, ap}
use Rattle.std.specs.Prelude.{IfOk, Ok, Err}
use Rattle.std.specs.declared.result.Result.{Result}
use Rattle.spec_numbers.specs.Texts.{Text}
use Rattle.spec_terms.specs.Names.{named_pairs}
use Rattle.spec_terms.specs.Unifier.{Equation}
use Rattle.spec_branch.specs.Branch.{State, Pending}
use Rattle.spec_search.specs.Replies.{with_equations}
use Rattle.cq_term.specs.Texts.{text_of}
use Rattle.cq_built.specs.Offered.{equation_of}
use Rattle.cq_store.specs.declared.store.StoreFault.{StoreFault}
use Rattle.cq_settle.specs.Equal.{IsWork}
use Rattle.cq_term.specs.Meaning.{HeapTerm}
use Rattle.cq_term.specs.Pairs.{equations}
use Rattle.cq_term.specs.declared.walk.pairs.Pair.{Pair}
use Rattle.cq_settle.specs.Rest.{IsReadyAs}
use Rattle.cq_settle.specs.Contents.{Contents}
use Rattle.spec_engine.specs.Cells.{Value}
use Rattle.cq_branch.specs.declared.begin.beginning.Begun.{Begun}
use Rattle.cq_branch.specs.declared.begin.beginning.Begun.TheVariants.{Goes, Pruned}
use Rattle.cq_branch.specs.Begun.{IfGoes, IfPruned, OfWork, GoesOn, Prunes}
use Rattle.cq_choices.specs.Trying.{AtStates, EquationsGo, EquationsPrune}

pub equations_named : (texts : List Text) (ts : List HeapTerm) (ps : List Pair) → named_pairs (text_of texts) (equations ts ps) ≡ map (equation_of texts ts) ps
equations_named texts ts [] = refl
equations_named texts ts (p ∷ ps) = ap (λ es. equation_of texts ts p ∷ es) (equations_named texts ts ps)

module _ (texts : List Text) (old new : Value Contents) (rest : ℕ) (pairs : List Pair) (told : List ℕ) (es : List (Equation Text))
    (is_work : (st : State) → IsReadyAs texts old.0 st → IsWork texts old.0 st pairs told [] (with_equations es)) where
  pub goes_ok : (result : Result Begun StoreFault) → IfOk result (λ b. IfGoes b (GoesOn texts old new pairs told rest))
      → IfOk result (λ b. IfGoes b (EquationsGo texts old new es rest))
  goes_ok (Ok (Goes k)) g = λ choices items st place. g choices items st (with_equations es) place (is_work st place.state.ready)
  goes_ok (Ok Pruned) g = tt
  goes_ok (Err e) g = tt

  pub pruned_ok : (result : Result Begun StoreFault) → IfOk result (λ b. IfPruned b (OfWork texts old.0 pairs told Prunes))
      → IfOk result (λ b. IfPruned b (EquationsPrune texts old.0 es))
  pruned_ok (Ok (Goes k)) q = tt
  pruned_ok (Ok Pruned) q = λ st r. q st (with_equations es) r (is_work st r)
  pruned_ok (Err e) q = tt

  pub at_states : (P : State → Pending → Type 0) → OfWork texts old.0 pairs told P → AtStates texts old.0 (λ st. P st (with_equations es))
  at_states P o st r = o st (with_equations es) r (is_work st r)
