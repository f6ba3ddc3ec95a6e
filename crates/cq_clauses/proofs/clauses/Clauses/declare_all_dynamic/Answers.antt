use Rattle.std.proofs.Common.{ap, ◌∙◌, refl, arith}
use Rattle.cq_clauses.specs.Database.{database}
use Rattle.cq_clauses.proofs.Indexing.{kept_all_dynamic}
use Rattle.cq_clauses.proofs.Walking.{keeps_reading}
use Rattle.cq_clauses.proofs.Removed.{database_all_dynamic}
use Rattle.cq_clauses.proofs.Kept.{keeps_all_dynamic}
use Rattle.cq_clauses.proofs.clauses.Clauses.declare_all_dynamic.Goals as goal

pub invariant_of-self-2 : goal.invariant_of-self-2
invariant_of-self-2 g c =
    kept_all_dynamic _ _ c.self.inside.indexes.list.items c.args.preds.now c.self.inside.procedures c.declare_dynamic.new.self c.self.invariant c.in_ok-declare_dynamic.ensures.ok

pub returns-clause-declared : goal.returns-clause-declared
returns-clause-declared g c =
    rw (← c.self.view_is) (record {
      contents = refl;
      database = ap database c.in_ok-declare_dynamic.ensures.ok ∙ database_all_dynamic c.args.preds.now c.self.inside.procedures;
    })

pub returns-clause-reading : goal.returns-clause-reading
returns-clause-reading g c =
    rw (← c.self.view_is, c.in_ok-declare_dynamic.ensures.ok)
    (keeps_reading g.C.Keyed.key_of _ _ (keeps_all_dynamic c.args.preds.now c.self.inside.procedures) (omega arith) (λ s is key. refl))
