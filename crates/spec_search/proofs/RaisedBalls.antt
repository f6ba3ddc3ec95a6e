-- Each goal of the examples raises its error.
use Rattle.std.specs.Str.{chars}
use Rattle.spec_numbers.specs.Rational.{int_ℚ, ratio, ◌+ℚ◌, ◌*ℚ◌, neg_ℚ, inv_ℚ}
use Rattle.spec_numbers.specs.Gcd.{gcd}
use lib.Utf8.{encode}
use Rattle.std.proofs.Common.{refl}
use Rattle.spec_search.specs.Examples.{here, beside_procedures}
use Rattle.spec_search.specs.ExamplesOfBalls.{AllRaise, control_balls, term_balls, text_balls, arithmetic_balls, declaration_balls, constraint_balls, AllRowsRaise, row_balls}

pub control_balls_raised : AllRaise here control_balls
unfolding int_ℚ ratio gcd ◌*ℚ◌ neg_ℚ inv_ℚ ◌+ℚ◌ chars encode
control_balls_raised = (refl, (refl, (refl, (refl, (refl, tt)))))

pub term_balls_raised : AllRaise here term_balls
unfolding int_ℚ ratio gcd ◌*ℚ◌ neg_ℚ inv_ℚ ◌+ℚ◌ chars encode
term_balls_raised = (refl, (refl, (refl, (refl, (refl, (refl, (refl, (refl, (refl, (refl, (refl, (refl, (refl, (refl, (refl, (refl, (refl, tt)))))))))))))))))

pub text_balls_raised : AllRaise here text_balls
unfolding int_ℚ ratio gcd ◌*ℚ◌ neg_ℚ inv_ℚ ◌+ℚ◌ chars encode
text_balls_raised = (refl, (refl, (refl, (refl, (refl, (refl, (refl, (refl, (refl, (refl, (refl, (refl, (refl, (refl, (refl, (refl, (refl, (refl, (refl, (refl, (refl, (refl, (refl, (refl, (refl, (refl, (refl, (refl, tt))))))))))))))))))))))))))))

pub arithmetic_balls_raised : AllRaise here arithmetic_balls
unfolding int_ℚ ratio gcd ◌*ℚ◌ neg_ℚ inv_ℚ ◌+ℚ◌ chars encode
arithmetic_balls_raised = (refl, (refl, (refl, (refl, (refl, (refl, (refl, tt)))))))

pub declaration_balls_raised : AllRaise here declaration_balls
unfolding int_ℚ ratio gcd ◌*ℚ◌ neg_ℚ inv_ℚ ◌+ℚ◌ chars encode
declaration_balls_raised = (refl, (refl, (refl, (refl, (refl, (refl, (refl, (refl, (refl, (refl, (refl, tt)))))))))))

pub constraint_balls_raised : AllRaise here constraint_balls
unfolding int_ℚ ratio gcd ◌*ℚ◌ neg_ℚ inv_ℚ ◌+ℚ◌ chars encode
constraint_balls_raised = (refl, (refl, (refl, (refl, (refl, (refl, tt))))))

pub row_balls_raised : AllRowsRaise beside_procedures row_balls
unfolding int_ℚ ratio gcd ◌*ℚ◌ neg_ℚ inv_ℚ ◌+ℚ◌ chars encode
row_balls_raised = (refl, (refl, (refl, (refl, (refl, (refl, (refl, (refl, (refl, (refl, (refl, (refl, (refl, (refl, (refl, (refl, (refl, (refl, (refl, (refl, (refl, (refl, (refl, (refl, (refl, (refl, tt))))))))))))))))))))))))))
