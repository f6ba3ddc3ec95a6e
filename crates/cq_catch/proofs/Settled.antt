-- What holds by what became of a branch that was begun.
use Rattle.std.proofs.Common.{◌≡◌, ℕ, List, subst}
use Rattle.std.specs.Prelude.{IfOk, Ok, Err}
use Rattle.std.specs.declared.result.Result.{Result}
use Rattle.spec_numbers.specs.Texts.{Text}
use Rattle.spec_branch.specs.Branch.{State, Pending}
use Rattle.cq_store.specs.declared.store.StoreFault.{StoreFault}
use Rattle.cq_term.specs.declared.walk.pairs.Pair.{Pair}
use Rattle.cq_settle.specs.Contents.{Contents}
use Rattle.spec_engine.specs.Cells.{Value}
use Rattle.cq_branch.specs.declared.begin.beginning.Begun.{Begun}
use Rattle.cq_branch.specs.declared.begin.beginning.Begun.TheVariants.{Goes, Pruned}
use Rattle.cq_branch.specs.Begun.{IfGoes, IfPruned, GoesOn, OfWork}

pub goes_ok : (result : Result Begun StoreFault) (P Q : ℕ → Type 0) → ((k : ℕ) → P k → Q k) → IfOk result (λ b. IfGoes b P) → IfOk result (λ b. IfGoes b Q)
goes_ok (Ok (Goes k)) P Q f p = f k p
goes_ok (Ok Pruned) P Q f p = p
goes_ok (Err e) P Q f p = p

pub pruned_ok : (result : Result Begun StoreFault) (P Q : Type 0) → (P → Q) → IfOk result (λ b. IfPruned b P) → IfOk result (λ b. IfPruned b Q)
pruned_ok (Ok (Goes k)) P Q f p = p
pruned_ok (Ok Pruned) P Q f p = f p
pruned_ok (Err e) P Q f p = p

-- nothing is told
pub untold_goes : (texts : List Text) (old new : Value Contents) (pairs : List Pair) (told none : List ℕ) (rest k : ℕ) → told ≡ none
    → GoesOn texts old new pairs told rest k → GoesOn texts old new pairs none rest k
untold_goes texts old new pairs told none rest k e g = subst (λ (ts : List ℕ). GoesOn texts old new pairs ts rest k) e g

pub untold_work : (texts : List Text) (c : Contents) (pairs : List Pair) (told none : List ℕ) (P : State → Pending → Type 0) → told ≡ none
    → OfWork texts c pairs told P → OfWork texts c pairs none P
untold_work texts c pairs told none P e w = subst (λ (ts : List ℕ). OfWork texts c pairs ts P) e w
