use Rattle.std.proofs.Common.{[], ◌∷◌, ◌++◌}
use Rattle.cq_store.proofs.Entries.{joined_solvable, refuted_unsolvable}
use Rattle.cq_store.proofs.entering.has_joined.Goals as goal

pub returns-in-Joined : goal.returns-in-Joined
returns-in-Joined c = λ told k names q j r.
    joined_solvable told k names q c.args.entered _ c.in-Joined.is j

pub returns : goal.returns
returns c = λ told k names q j r.
    refuted_unsolvable (told ++ k ∷ []) c.args.entered _ c.in-Contradiction.is r
