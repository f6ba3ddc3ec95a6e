use Rattle.spec_numbers.specs.Rational.{ℚ}
use Rattle.spec_linear.specs.Solution.{Fixed}
use Rattle.cq_dict.specs.DictValue.{quantities_of}
use Rattle.cq_tableau.specs.Values.{IsOpen, IsNumber}
use Rattle.cq_tableau.proofs.Storing.{unknown_not_fixed}
use Rattle.cq_tableau.proofs.Fixed.{answer_of, open_is, number_is}
use Rattle.cq_tableau.proofs.values.value_of.Goals as goal

pub returns-in-Some : goal.returns-in-Some
returns-in-Some c = λ told s.
    let n = c.in-Some.n in
    answer_of c.fixed_number.result (IsOpen c.args.dict.now.roles n) ((q : ℚ) → Fixed told c.args.x.0 q → ⊥) (λ q. IsNumber c.args.dict.now.roles n q) (λ q. Fixed told c.args.x.0 q)
    (open_is told c.args.names.now.now (quantities_of c.args.dict.now) s n c.args.x c.in-Some.ensures)
    (number_is told c.args.names.now.now (quantities_of c.args.dict.now) s n c.args.x c.in-Some.ensures) c.fixed_number.ensures

pub returns-in-None : goal.returns-in-None
returns-in-None c = λ told s. unknown_not_fixed told c.args.names.now.now (quantities_of c.args.dict.now) s c.args.x.0 c.in-None.ensures
