use Rattle.std.proofs.Common.{ℕ, List, [], ◌∷◌, None, Some, refl, ap, ap₂, ◌∙◌, subst}
use Rattle.std.specs.Prelude.{Err}
use Rattle.std.specs.List.{zip}
use Rattle.spec_search.specs.Constraints.{told_child}
use Rattle.spec_search.specs.Replies.{makes}
use Rattle.cq_branch.specs.Begun.{told_work}
use Rattle.cq_store.specs.declared.store.StoreFault.{StoreFault}
use Rattle.cq_term.specs.Trees.{tree, trees}
use Rattle.cq_branch.specs.Worlds.{value, Leads}
use Rattle.cq_machine.specs.Machines.{terms, saved, holds}
use Rattle.cq_machine.proofs.Kept.{leads_over}
use Rattle.cq_execute.proofs.Kept.{names_ahead, sound_kept}
use Rattle.cq_execute.proofs.Children.{fault_stops, stops_as}
use Rattle.cq_execute.proofs.optima.telling.tell_one.Goals as goal

pub returns-in-Goes-clause-row : goal.returns-in-Goes-clause-row
returns-in-Goes-clause-row c = λ p behind pl.
    let m = c.args.m.now in
    let new = value c.tell.new.world c.tell.new.lists.now in
    leads_over m.atoms m.clauses (saved m) _ m.choices new (Some c.in-Goes.first) p behind (makes p (told_child p (tree m.atoms (terms m) c.args.relation ∷ []) ∷ [])) (ap₂ zip c.tell.ensures.saved c.tell.ensures.lists)
    (subst (λ (ids : List ℕ). Leads m.atoms (holds m) new (Some c.in-Goes.first) p behind (makes p (told_child p (trees m.atoms (terms m) ids) ∷ []))) c.in_ok-told.ensures
    ((rw c.in-Goes.is at c.in-Ok.ensures.row) (holds m) p behind pl))

pub returns-in-Pruned-clause-row : goal.returns-in-Pruned-clause-row
returns-in-Pruned-clause-row c = λ p behind pl.
    let m = c.args.m.now in
    let new = value c.tell.new.world c.tell.new.lists.now in
    leads_over m.atoms m.clauses (saved m) _ m.choices new None p behind (makes p (told_child p (tree m.atoms (terms m) c.args.relation ∷ []) ∷ [])) (ap₂ zip c.tell.ensures.saved c.tell.ensures.lists)
    (subst (λ (ids : List ℕ). Leads m.atoms (holds m) new None p behind (makes p (told_child p (trees m.atoms (terms m) ids) ∷ []))) c.in_ok-told.ensures
    ((rw c.in-Pruned.is at c.in-Ok.ensures.row) (holds m) p behind pl))

pub returns-in-Goes-clause-sound : goal.returns-in-Goes-clause-sound
returns-in-Goes-clause-sound c =
    let m = c.args.m.now in
    let s = c.requires.placed in
    sound_kept m _ c.requires.sound (record { atoms = refl; names = refl; ops = refl; clauses = refl; budget = c.tell.ensures.budget })
    (names_ahead m.atoms (holds m) (value c.tell.new.world c.tell.new.lists.now) c.in-Goes.first s.0 s.1 _ ((rw c.in-Goes.is at c.in-Ok.ensures.row) (holds m) s.0 s.1 s.2))
    (ap₂ zip c.tell.ensures.saved c.tell.ensures.lists) refl

pub returns-in-Err-clause-stop : goal.returns-in-Err-clause-stop
returns-in-Err-clause-stop c = λ p behind pl.
    let m = c.args.m.now in
    let n = m.world.first.store.pivots in
    let work = told_work (trees m.atoms (terms m) c.in_ok-told.told.items) in
    stops_as n p c.in-Err.fault work (told_work (tree m.atoms (terms m) c.args.relation ∷ [])) (ap (λ (ids : List ℕ). told_work (trees m.atoms (terms m) ids)) c.in_ok-told.ensures)
    (fault_stops n p work c.in-Err.fault
    (λ pair e. c.tell.ensures.overflow pair (c.in-Err.is ∙ ap (λ (f : StoreFault). Err f) e) (holds m) p behind pl)
    (λ k e. (let t = c.tell.ensures.pivots k (c.in-Err.is ∙ ap (λ (f : StoreFault). Err f) e) in (t.0, t.1 (holds m) p behind pl))))
