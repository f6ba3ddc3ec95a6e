use Rattle.std.proofs.Common.{sym, subst, ◌∙◌}
use Rattle.std.specs.Prelude.{IfOk}
use Rattle.cq_dict.specs.Roles.{Quantities, IsRow}
use Rattle.cq_tableau.specs.Restored.{HasGreatest, AreHighest, RefusesRaised, SpendsRaised}
use Rattle.cq_tableau.proofs.Restores.{undone}
use Rattle.cq_tableau.proofs.restoring.row_entries.Goals as goal

pub highest-found-requires-clause-row : goal.highest-found-requires-clause-row
highest-found-requires-clause-row c = subst (λ (z : Quantities). IsRow z.roles c.args.q) (sym c.mark.ensures.now) c.requires.row

pub highest-found-requires-clause-greatest : goal.highest-found-requires-clause-greatest
highest-found-requires-clause-greatest c = subst (λ (z : Quantities). HasGreatest z.roles z.restricted c.args.q) (sym c.mark.ensures.now) c.requires.greatest

pub returns-clause-entries : goal.returns-clause-entries
returns-clause-entries c =
    subst (λ (z : Quantities). IfOk c.highest-found.result (λ s. AreHighest c.args.names.now.now c.args.q z.roles z.restricted s.items)) c.mark.ensures.now c.highest-found.ensures.entries

pub returns-clause-stays : goal.returns-clause-stays
returns-clause-stays c =
    undone c.args.dict.now.saved _ _ c.in_ok-start.start.number c.in_ok-start.ensures.mark c.highest-found.new.dict.saved
    (c.highest-found.ensures.saved ∙ c.in_ok-start.ensures.saved) c.undo.ensures.now

pub returns-clause-overflow : goal.returns-clause-overflow
returns-clause-overflow c = λ pair e.
    subst (λ (z : Quantities). RefusesRaised c.args.q z.roles z.restricted pair) c.mark.ensures.now (c.highest-found.ensures.overflow pair e)

pub returns-clause-pivots : goal.returns-clause-pivots
returns-clause-pivots c = λ n e.
    let o = c.highest-found.ensures.pivots n e in
    (o.0, subst (λ (z : Quantities). SpendsRaised c.args.q z.roles z.restricted n) c.mark.ensures.now o.1)
