use Rattle.std.proofs.Common.{position, ap, ◌∙◌}
use Rattle.std.specs.List.{list_any}
use Rattle.cq_clauses.specs.declared.procedures.Procedure.{Procedure}
use Rattle.cq_clauses.specs.Database.{same_pred}
use Rattle.cq_clauses.specs.Procedures.{is_of}
use Rattle.cq_clauses.proofs.Found.{position-map, list_any-map}
use Rattle.cq_clauses.proofs.procedures.Procedures.find.Goals as goal

pub returns-clause-value : goal.returns-clause-value
returns-clause-value c =
    c.find.ensures.value ∙ ap (position (same_pred c.args.pred.now)) c.self.invariant ∙ position-map (λ (q : Procedure). q.pred) (same_pred c.args.pred.now) c.self.inside.procedures.items
    ∙ ap (position (is_of c.args.pred.now)) c.self.view_is

pub returns-clause-found : goal.returns-clause-found
returns-clause-found c =
    c.find.ensures.found ∙ ap (list_any (same_pred c.args.pred.now)) c.self.invariant ∙ list_any-map (λ (q : Procedure). q.pred) (same_pred c.args.pred.now) c.self.inside.procedures.items
    ∙ ap (list_any (is_of c.args.pred.now)) c.self.view_is
