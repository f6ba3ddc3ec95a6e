use Rattle.std.proofs.Common.{[], ◌∷◌, None, Some, refl, ap₂}
use Rattle.std.specs.List.{zip}
use Rattle.spec_builtins.specs.Alternatives.{◌≐◌}
use Rattle.spec_search.specs.Replies.{unifies}
use Rattle.cq_term.specs.Trees.{tree}
use Rattle.cq_branch.specs.Worlds.{value}
use Rattle.cq_machine.specs.Machines.{terms, saved, holds}
use Rattle.cq_machine.proofs.Kept.{leads_over}
use Rattle.cq_execute.proofs.Kept.{names_ahead, sound_kept}
use Rattle.cq_execute.proofs.optima.telling.make_equal.Goals as goal

pub returns-in-Goes-clause-row : goal.returns-in-Goes-clause-row
returns-in-Goes-clause-row c = λ p behind pl.
    let m = c.args.m.now in
    let new = value c.unify.new.world c.unify.new.lists.now in
    leads_over m.atoms m.clauses (saved m) _ m.choices new (Some c.in-Goes.first) p behind (unifies p ((tree m.atoms (terms m) c.args.left ≐ tree m.atoms (terms m) c.args.right) ∷ [])) (ap₂ zip c.unify.ensures.saved c.unify.ensures.lists)
    ((rw c.in-Goes.is at c.in-Ok.ensures.row) (holds m) p behind pl)

pub returns-in-Pruned-clause-row : goal.returns-in-Pruned-clause-row
returns-in-Pruned-clause-row c = λ p behind pl.
    let m = c.args.m.now in
    let new = value c.unify.new.world c.unify.new.lists.now in
    leads_over m.atoms m.clauses (saved m) _ m.choices new None p behind (unifies p ((tree m.atoms (terms m) c.args.left ≐ tree m.atoms (terms m) c.args.right) ∷ [])) (ap₂ zip c.unify.ensures.saved c.unify.ensures.lists)
    ((rw c.in-Pruned.is at c.in-Ok.ensures.row) (holds m) p behind pl)

pub returns-in-Goes-clause-sound : goal.returns-in-Goes-clause-sound
returns-in-Goes-clause-sound c =
    let m = c.args.m.now in
    let s = c.requires.placed in
    sound_kept m _ c.requires.sound (record { atoms = refl; names = refl; ops = refl; clauses = refl; budget = c.unify.ensures.budget })
    (names_ahead m.atoms (holds m) (value c.unify.new.world c.unify.new.lists.now) c.in-Goes.first s.0 s.1 _ ((rw c.in-Goes.is at c.in-Ok.ensures.row) (holds m) s.0 s.1 s.2))
    (ap₂ zip c.unify.ensures.saved c.unify.ensures.lists) refl
