-- A goal that has changed the program goes on behind itself.
use Rattle.std.proofs.Common.{◌≡◌, ℕ, List, ◌++◌, ap, ◌∙◌}
use Rattle.spec_branch.specs.Branch.{Branch}
use Rattle.spec_search.specs.Replies.{Place, Made, made, onward}
use Rattle.spec_search.specs.Turns.{older}
use Rattle.cq_branch.specs.Worlds.{IsBranch, term_in, Selected}
use Rattle.cq_branch.proofs.Branches.{branches_rest}
use Rattle.cq_branch.proofs.Control.{goes_on_with}
use Rattle.cq_choices.proofs.Leading.{same_made}
use Rattle.cq_machine.specs.declared.machine.Machine.{Machine}
use Rattle.cq_machine.specs.Machines.{now, holds, database_of, StillStands}
use Rattle.cq_execute.specs.Changing.{GoesOnBehind}

pub goes_on_behind : (m new : Machine) (height rest : ℕ) (p : Place) (behind : List Branch) → Selected m.atoms (holds m) (now m) height rest p behind → StillStands m new
    → GoesOnBehind new rest p behind
goes_on_behind m new height rest p behind s stands = λ steps t d b.
    let q : Place = record p { database = database_of new } in
    let l = goes_on_with (IsBranch m.atoms) (term_in m.atoms) (branches_rest m.atoms) (holds m) (now m) rest q behind p.rest s.place.continuation s.waiting in
    let same : ◌≡◌ {A = Made} (made q (onward q)) l.made = same_made (made q (onward q)) l.made l.row in
    let x = l.comes steps t d (b ∙ ap (λ (y : Made). y.children ++ older y.keeps behind) same) in
    record { reached = x.reached; quiet = x.quiet; stands = stands _ _ _ x.reached x.stands }
