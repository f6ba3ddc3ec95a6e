-- What goals of arithmetic come to.
use Rattle.std.proofs.Common.{◌≡◌, List, sym, subst}
use Rattle.spec_numbers.specs.Texts.{Text}
use Rattle.spec_numbers.specs.Rational.{ℚ}
use Rattle.spec_terms.specs.Operations.{Evaluated, Value, Fails, Overflows}
use Rattle.cq_term.specs.Meaning.{HeapTerm}
use Rattle.cq_goals.specs.declared.faults.GoalFault.{GoalFault}
use Rattle.cq_goals.specs.declared.faults.GoalFault.TheVariants as fault
use Rattle.cq_goals.specs.Faults.{IsOutcome, IsFirstOutcome}

module _ (texts : List Text) (ts : List HeapTerm) where
  -- a value is no error and no overflow
  pub left_fails : (left right : Evaluated) (f : GoalFault) → IsOutcome texts ts left f → IsFirstOutcome texts ts left right f
  left_fails (Value q) right (fault.Error e) h = let e = h.fails in cc
  left_fails (Value q) right (fault.Overflow pair) h = cc
  left_fails (Value q) right fault.NoMemory h = tt
  left_fails (Fails e) right f h = h
  left_fails (Overflows pair) right f h = h

  pub right_fails : (left right : Evaluated) (q : ℚ) (f : GoalFault) → left ≡ Value q → IsOutcome texts ts right f → IsFirstOutcome texts ts left right f
  right_fails left right q f e h = subst (λ l. IsFirstOutcome texts ts l right f) (sym e) h
