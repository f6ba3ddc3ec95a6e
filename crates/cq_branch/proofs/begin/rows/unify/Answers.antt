use Rattle.std.proofs.Common.{[], ℕ, List, refl, sym, subst}
use Rattle.spec_branch.specs.Branch.{State}
use Rattle.spec_search.specs.Replies.{with_equations}
use Rattle.cq_settle.specs.Equal.{IsWork}
use Rattle.cq_settle.specs.Settled.{MayRefuse, MayTake}
use Rattle.cq_branch.specs.Worlds.{value}
use Rattle.cq_settle.specs.Rest.{IsReadyAs}
use Rattle.cq_settle.specs.Worlds.{now_of}
use Rattle.cq_branch.specs.Begun.{trees_of_pairs}
use Rattle.cq_branch.proofs.Leading.{row_ok, at_places, none_told}
use Rattle.cq_branch.proofs.begin.rows.unify.Goals as goal
use Rattle.cq_branch.proofs.begin.rows.unify.Goals.{After-begin}

-- the pairs as they read are the work
work : (c : After-begin) (st : State) → IsReadyAs c.args.atoms.now (now_of c.args.world.now) st
    → IsWork c.args.atoms.now (now_of c.args.world.now) st c.args.pairs.now c.new-told.result.items [] (with_equations (trees_of_pairs c.args.atoms.now c.args.world.now.heap.now.terms c.args.pairs.now))
work c st r =
    subst (λ (l : List ℕ). IsWork c.args.atoms.now (now_of c.args.world.now) st c.args.pairs.now l [] (with_equations (trees_of_pairs c.args.atoms.now c.args.world.now.heap.now.terms c.args.pairs.now)))
    (sym c.new-told.ensures.items)
    (c.equated_worlds_may_be_settled.ensures.work c.args.atoms.now (now_of c.args.world.now) c.args.pairs.now [] [] st r c.look_at_pairs.ensures.equal (none_told c.args.world.now.heap.now [] refl))

pub returns-clause-row : goal.returns-clause-row
returns-clause-row c =
    row_ok c.args.atoms.now (value c.args.world.now c.args.lists.now.now) (value c.begin.new.world c.begin.new.lists.now) c.args.rest c.args.pairs.now c.new-told.result.items
    (with_equations (trees_of_pairs c.args.atoms.now c.args.world.now.heap.now.terms c.args.pairs.now)) refl refl (work c) c.begin.result c.begin.ensures.goes c.begin.ensures.pruned

pub returns-clause-overflow : goal.returns-clause-overflow
returns-clause-overflow c = λ pair e.
    at_places c.args.atoms.now (value c.args.world.now c.args.lists.now.now) (value c.begin.new.world c.begin.new.lists.now) c.args.rest c.args.pairs.now c.new-told.result.items
    (with_equations (trees_of_pairs c.args.atoms.now c.args.world.now.heap.now.terms c.args.pairs.now)) refl refl (work c) (λ st p. MayRefuse st p pair) (c.begin.ensures.overflow pair e)

pub returns-clause-pivots : goal.returns-clause-pivots
returns-clause-pivots c = λ n e.
    let o = c.begin.ensures.pivots n e in (
      o.0,
      at_places c.args.atoms.now (value c.args.world.now c.args.lists.now.now) (value c.begin.new.world c.begin.new.lists.now) c.args.rest c.args.pairs.now c.new-told.result.items
          (with_equations (trees_of_pairs c.args.atoms.now c.args.world.now.heap.now.terms c.args.pairs.now)) refl refl (work c) (λ st p. MayTake st p n) o.1,
    )
