use Rattle.std.proofs.Common.{[], ℕ, List, sym, subst, arith}
use Rattle.std.specs.Prelude.{All}
use Rattle.spec_numbers.specs.Texts.{Text}
use Rattle.spec_terms.specs.Unifier.{Equation}
use Rattle.spec_branch.specs.Branch.{State}
use Rattle.spec_search.specs.Replies.{with_equations}
use Rattle.cq_builtin.specs.Over.{equations_of}
use Rattle.cq_settle.specs.Equal.{IsWork, MayBeEqual}
use Rattle.cq_term.specs.declared.walk.pairs.Pair.{Pair}
use Rattle.cq_settle.specs.Settled.{MayRefuse, MayTake}
use Rattle.cq_branch.specs.Worlds.{value}
use Rattle.cq_settle.specs.Rest.{IsReadyAs}
use Rattle.cq_settle.specs.Worlds.{now_of}
use Rattle.cq_choices.proofs.Pairs.{equations_named, goes_ok, pruned_ok, at_states}
use Rattle.cq_choices.proofs.trying.begin_pairs.Goals as goal
use Rattle.cq_choices.proofs.trying.begin_pairs.Goals.{After-begin}

-- the pairs as they read are the work
work : (c : After-begin) (st : State) → IsReadyAs c.args.atoms.now (now_of c.args.world.now) st
    → IsWork c.args.atoms.now (now_of c.args.world.now) st c.deref-2.result.now c.new-told.result.items []
    (with_equations (equations_of c.args.atoms.now c.args.world.now.heap.now.terms c.args.alternative.now))
work c st r =
    subst (λ (ps : List Pair). IsWork c.args.atoms.now (now_of c.args.world.now) st ps c.new-told.result.items []
    (with_equations (equations_of c.args.atoms.now c.args.world.now.heap.now.terms c.args.alternative.now))) (sym c.deref-2.ensures.value)
    (subst (λ (l : List ℕ). IsWork c.args.atoms.now (now_of c.args.world.now) st c.args.alternative.now.pairs.items l []
    (with_equations (equations_of c.args.atoms.now c.args.world.now.heap.now.terms c.args.alternative.now))) (sym c.new-told.ensures.items)
    (subst (λ (es : List (Equation Text)). IsWork c.args.atoms.now (now_of c.args.world.now) st c.args.alternative.now.pairs.items [] [] (with_equations es))
    (equations_named c.args.atoms.now c.args.world.now.heap.now.terms c.args.alternative.now.pairs.items)
    (c.equated_worlds_may_be_settled.ensures.work c.args.atoms.now (now_of c.args.world.now) c.args.alternative.now.pairs.items [] [] st r
    (subst (λ (ps : List Pair). All (MayBeEqual c.args.world.now.heap.now) ps) c.deref.ensures.value c.look_at_pairs.ensures.equal)
    (λ i d l. absurd (omega (arith, l))))))

pub returns-clause-goes : goal.returns-clause-goes
returns-clause-goes c =
    goes_ok c.args.atoms.now (value c.args.world.now c.args.lists.now.now) (value c.begin.new.world c.begin.new.lists.now) c.args.rest c.deref-2.result.now
    c.new-told.result.items (equations_of c.args.atoms.now c.args.world.now.heap.now.terms c.args.alternative.now) (work c) c.begin.result c.begin.ensures.goes

pub returns-clause-pruned : goal.returns-clause-pruned
returns-clause-pruned c =
    pruned_ok c.args.atoms.now (value c.args.world.now c.args.lists.now.now) (value c.begin.new.world c.begin.new.lists.now) c.args.rest c.deref-2.result.now
    c.new-told.result.items (equations_of c.args.atoms.now c.args.world.now.heap.now.terms c.args.alternative.now) (work c) c.begin.result c.begin.ensures.pruned

pub returns-clause-overflow : goal.returns-clause-overflow
returns-clause-overflow c = λ pair e.
    at_states c.args.atoms.now (value c.args.world.now c.args.lists.now.now) (value c.begin.new.world c.begin.new.lists.now) c.args.rest c.deref-2.result.now
    c.new-told.result.items (equations_of c.args.atoms.now c.args.world.now.heap.now.terms c.args.alternative.now) (work c) (λ st p. MayRefuse st p pair)
    (c.begin.ensures.overflow pair e)

pub returns-clause-pivots : goal.returns-clause-pivots
returns-clause-pivots c = λ n e.
    let o = c.begin.ensures.pivots n e in (
      o.0,
      at_states c.args.atoms.now (value c.args.world.now c.args.lists.now.now) (value c.begin.new.world c.begin.new.lists.now) c.args.rest c.deref-2.result.now
          c.new-told.result.items (equations_of c.args.atoms.now c.args.world.now.heap.now.terms c.args.alternative.now) (work c) (λ st p. MayTake st p n) o.1,
    )
