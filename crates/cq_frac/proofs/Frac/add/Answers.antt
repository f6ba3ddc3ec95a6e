use Rattle.std.proofs.Common.{◌∙◌, refl}
use Rattle.cq_frac.proofs.Sums.{Read, accepted, refused, accepted_not_refused, made-coprime, made-pos, made-value, made-fit}
use Rattle.cq_frac.proofs.Frac.add.Goals as goal
use Rattle.cq_frac.proofs.Frac.add.Goals.{After-bottom-2}

read : (c : After-bottom-2) → Read c.args.self c.args.other c.sign_is_negative.result c.top.result c.bottom.result c.sign_is_negative-2.result c.top-2.result c.bottom-2.result
read c = record {
  m_is = c.sign_is_negative.ensures;
  a_is = c.top.ensures.value;
  b_is = c.bottom.ensures.value;
  n_is = c.sign_is_negative-2.ensures;
  c_is = c.top-2.ensures.value;
  d_is = c.bottom-2.ensures.value;
}

pub returns-in_default-clause-overflow : goal.returns-in_default-clause-overflow
returns-in_default-clause-overflow c = ((λ _. refused (read (goal.at.returns-in_default-clause-overflow c).After-bottom-2) c.in_default.ensures), (λ _. refl))

pub made-requires-clause-coprime : goal.made-requires-clause-coprime
made-requires-clause-coprime c = made-coprime (read (goal.at.made-requires-clause-coprime c).After-bottom-2) c.in-Some.ensures.1

pub made-requires-clause-b_pos : goal.made-requires-clause-b_pos
made-requires-clause-b_pos c = made-pos (read (goal.at.made-requires-clause-b_pos c).After-bottom-2) c.in-Some.ensures.1

pub made-requires-clause-a_fits : goal.made-requires-clause-a_fits
made-requires-clause-a_fits c = (made-fit (read (goal.at.made-requires-clause-a_fits c).After-bottom-2) c.in-Some.ensures.1 c.in-Some.ensures.0).0

pub made-requires-clause-b_fits : goal.made-requires-clause-b_fits
made-requires-clause-b_fits c = (made-fit (read (goal.at.made-requires-clause-b_fits c).After-bottom-2) c.in-Some.ensures.1 c.in-Some.ensures.0).1

pub returns-clause-value : goal.returns-clause-value
returns-clause-value c = c.made.ensures ∙ made-value (read (goal.at.returns-clause-value c).After-bottom-2) c.in-Some.ensures.1

pub returns-clause-accepted : goal.returns-clause-accepted
returns-clause-accepted c = accepted (read (goal.at.returns-clause-accepted c).After-bottom-2) c.in-Some.ensures.0

pub returns-clause-overflow : goal.returns-clause-overflow
returns-clause-overflow c = ((λ e. cc), (λ e. absurd (accepted_not_refused _ _ (returns-clause-accepted c) e)))
