use Rattle.std.proofs.Common.{[], ℕ, List, refl, subst}
use Rattle.std.specs.Prelude.{All}
use Rattle.spec_branch.specs.Branch.{State}
use Rattle.cq_settle.specs.Equal.{IsWork}
use Rattle.cq_settle.specs.Ready.{MayBeTold}
use Rattle.cq_settle.specs.Settled.{MayRefuse, MayTake}
use Rattle.cq_branch.specs.Worlds.{value}
use Rattle.cq_term.specs.Trees.{trees}
use Rattle.cq_settle.specs.Rest.{IsReadyAs}
use Rattle.cq_settle.specs.Worlds.{now_of}
use Rattle.cq_branch.specs.Begun.{told_work}
use Rattle.cq_branch.proofs.Leading.{row_ok, at_places, no_pairs}
use Rattle.cq_branch.proofs.begin.rows.tell.Goals as goal
use Rattle.cq_branch.proofs.begin.rows.tell.Goals.{After-begin}

-- the terms as they read are the work
work : (c : After-begin) (st : State) → IsReadyAs c.args.atoms.now (now_of c.args.world.now) st
    → IsWork c.args.atoms.now (now_of c.args.world.now) st [] c.args.told.items [] (told_work (trees c.args.atoms.now c.args.world.now.heap.now.terms c.args.told.items))
work c st r =
    c.equated_worlds_may_be_settled.ensures.work c.args.atoms.now (now_of c.args.world.now) [] c.args.told.items [] st r (no_pairs c.args.world.now.heap.now)
    (subst (λ (l : List ℕ). All (MayBeTold c.args.world.now.heap.now) l) c.deref.ensures.value c.look_at_told.ensures.told)

pub returns-clause-row : goal.returns-clause-row
returns-clause-row c =
    row_ok c.args.atoms.now (value c.args.world.now c.args.lists.now.now) (value c.begin.new.world c.begin.new.lists.now) c.args.rest [] c.args.told.items
    (told_work (trees c.args.atoms.now c.args.world.now.heap.now.terms c.args.told.items)) refl refl (work c) c.begin.result c.begin.ensures.goes c.begin.ensures.pruned

pub returns-clause-overflow : goal.returns-clause-overflow
returns-clause-overflow c = λ pair e.
    at_places c.args.atoms.now (value c.args.world.now c.args.lists.now.now) (value c.begin.new.world c.begin.new.lists.now) c.args.rest [] c.args.told.items
    (told_work (trees c.args.atoms.now c.args.world.now.heap.now.terms c.args.told.items)) refl refl (work c) (λ st p. MayRefuse st p pair) (c.begin.ensures.overflow pair e)

pub returns-clause-pivots : goal.returns-clause-pivots
returns-clause-pivots c = λ n e.
    let o = c.begin.ensures.pivots n e in (
      o.0,
      at_places c.args.atoms.now (value c.args.world.now c.args.lists.now.now) (value c.begin.new.world c.begin.new.lists.now) c.args.rest [] c.args.told.items
          (told_work (trees c.args.atoms.now c.args.world.now.heap.now.terms c.args.told.items)) refl refl (work c) (λ st p. MayTake st p n) o.1,
    )
