use Rattle.std.proofs.Common.{[], ◌∷◌, refl, sym, subst, arith}
use Rattle.std.specs.Prelude.{Contains}
use Rattle.cq_questions.specs.declared.members.Member.{Member}
use Rattle.cq_questions.specs.declared.members.Member.TheVariants as member
use Rattle.cq_questions.proofs.entailment.is_entailed.Goals as goal

pub returns-in-Linear-clause-overflow : goal.returns-in-Linear-clause-overflow
returns-in-Linear-clause-overflow c = λ pair e. record {
  constraint = c.in-Linear.constraint;
  among = subst (λ (m : Member). Contains (m ∷ []) (member.Linear c.in-Linear.constraint)) (sym c.in-Linear.is) (0, omega arith, refl);
  holds = c.entailed.ensures.overflow pair e;
}

pub returns-in-Linear-clause-pivots : goal.returns-in-Linear-clause-pivots
returns-in-Linear-clause-pivots c = λ n e.
    let o = c.entailed.ensures.pivots n e in (
      o.0,
      record {
        constraint = c.in-Linear.constraint;
        among = subst (λ (m : Member). Contains (m ∷ []) (member.Linear c.in-Linear.constraint)) (sym c.in-Linear.is) (0, omega arith, refl);
        holds = o.1;
      },
    )
