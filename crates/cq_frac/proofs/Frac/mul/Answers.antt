use Rattle.std.proofs.Common.{◌∙◌, refl}
use Rattle.cq_frac.proofs.Parts.{fits_not_exceeds}
use Rattle.cq_frac.proofs.Products.{Crossed, exceeds, fits, made-coprime, made-pos, made-value}
use Rattle.cq_frac.proofs.Frac.mul.Goals as goal
use Rattle.cq_frac.proofs.Frac.mul.Goals.{After-bottom-2}

read : (c : After-bottom-2) → Crossed c.args.self c.args.other c.top.result c.bottom.result c.top-2.result c.bottom-2.result
read c = record { a_is = c.top.ensures.value; b_is = c.bottom.ensures.value; c_is = c.top-2.ensures.value; d_is = c.bottom-2.ensures.value }

pub returns-in_default-clause-overflow : goal.returns-in_default-clause-overflow
returns-in_default-clause-overflow c = ((λ _. exceeds (read (goal.at.returns-in_default-clause-overflow c).After-bottom-2) c.in_default.ensures), (λ _. refl))

pub made-requires-clause-coprime : goal.made-requires-clause-coprime
made-requires-clause-coprime c = made-coprime (read (goal.at.made-requires-clause-coprime c).After-bottom-2) c.in-Some.ensures.0 c.in-Some.ensures.2

pub made-requires-clause-b_pos : goal.made-requires-clause-b_pos
made-requires-clause-b_pos c = made-pos (read (goal.at.made-requires-clause-b_pos c).After-bottom-2) c.in-Some.ensures.0 c.in-Some.ensures.2

pub returns-clause-value : goal.returns-clause-value
returns-clause-value c =
    c.made.ensures
    ∙ made-value (read (goal.at.returns-clause-value c).After-bottom-2) c.in-Some.ensures.0 c.in-Some.ensures.2 _ _ c.sign_is_negative.ensures c.sign_is_negative-2.ensures

pub returns-clause-accepted : goal.returns-clause-accepted
returns-clause-accepted c = fits (read (goal.at.returns-clause-accepted c).After-bottom-2) c.in-Some.ensures.1 c.in-Some.ensures.3

pub returns-clause-overflow : goal.returns-clause-overflow
returns-clause-overflow c = ((λ e. cc), (λ e. absurd (fits_not_exceeds _ (returns-clause-accepted c) e)))
