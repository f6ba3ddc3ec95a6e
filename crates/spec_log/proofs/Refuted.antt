-- The lists of a log have no solution.
use Rattle.std.proofs.Common.{inl, inr, List, [], ◌∷◌}
use Rattle.std.specs.List.{AllByRecursion}
use Rattle.spec_linear.specs.Certificate.{Refutes}
use Rattle.spec_linear.specs.Solution.{Constraint, Unsolvable}
use Rattle.spec_linear.proofs.Refutation.{refuted}
use Rattle.spec_log.specs.Log.{Runs, one, two, certificate, Entry, AreRefuting, IsLawful}

runs_refute : (l : List Constraint) (rs : Runs) → AreRefuting l rs → Refutes (certificate rs) l
runs_refute l (one r) h = inl h
runs_refute l (two r s) h = inr h.together

pub all_refuted : (es : List Entry) → AllByRecursion IsLawful es → AllByRecursion (λ e. Unsolvable e.list) es
all_refuted [] h = tt
all_refuted (e ∷ es) h = (refuted (certificate e.runs) e.list (runs_refute e.list e.runs h.0.refuted), all_refuted es h.1)
