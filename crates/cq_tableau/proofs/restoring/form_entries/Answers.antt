use Rattle.std.proofs.Common.{sym, subst, ◌∙◌}
use Rattle.std.specs.Prelude.{IfOk}
use Rattle.cq_dict.specs.Roles.{Quantities}
use Rattle.cq_tableau.specs.Restored.{AsksGreatest, AreFormEntries, RefusesFormEntries, SpendsFormEntries}
use Rattle.cq_tableau.proofs.Restores.{undone}
use Rattle.cq_tableau.proofs.restoring.form_entries.Goals as goal

pub asked_highest-found-requires-clause-greatest : goal.asked_highest-found-requires-clause-greatest
asked_highest-found-requires-clause-greatest c = subst (λ (z : Quantities). AsksGreatest c.args.names.now.now z c.args.form.now) (sym c.mark.ensures.now) c.requires.greatest

pub returns-clause-entries : goal.returns-clause-entries
returns-clause-entries c =
    subst (λ (z : Quantities). IfOk c.asked_highest-found.result (λ s. AreFormEntries c.args.names.now.now z c.args.form.now s.items)) c.mark.ensures.now
    c.asked_highest-found.ensures.entries

pub returns-clause-stays : goal.returns-clause-stays
returns-clause-stays c =
    undone c.args.dict.now.saved _ _ c.in_ok-start.start.number c.in_ok-start.ensures.mark c.asked_highest-found.new.dict.saved
    (c.asked_highest-found.ensures.saved ∙ c.in_ok-start.ensures.saved) c.undo.ensures.now

pub returns-clause-overflow : goal.returns-clause-overflow
returns-clause-overflow c = λ pair e.
    subst (λ (z : Quantities). RefusesFormEntries c.args.names.now.now z c.args.form.now pair) c.mark.ensures.now (c.asked_highest-found.ensures.overflow pair e)

pub returns-clause-pivots : goal.returns-clause-pivots
returns-clause-pivots c = λ n e.
    let o = c.asked_highest-found.ensures.pivots n e in
    (o.0, subst (λ (z : Quantities). SpendsFormEntries c.args.names.now.now z c.args.form.now n) c.mark.ensures.now o.1)
