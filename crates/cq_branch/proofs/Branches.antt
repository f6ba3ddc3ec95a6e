-- A branch of a world has nothing left to settle.
use Rattle.std.proofs.Common.{List, subst}
use Rattle.spec_linear.specs.Solution.{Constraint, Fixes}
use Rattle.spec_numbers.specs.Texts.{Text}
use Rattle.spec_engine.specs.Coming.{Rest}
use Rattle.cq_branch.specs.Worlds.{IsBranch}
use Rattle.cq_branch.proofs.Rested.{settles_as_it_is}

pub branches_rest : (texts : List Text) → Rest (IsBranch texts)
branches_rest texts w st items b =
    settles_as_it_is st b.ready.rests b.fixed (subst (λ (l : List Constraint). Fixes l b.fixed) b.ready.stands.linear b.fixes) items
