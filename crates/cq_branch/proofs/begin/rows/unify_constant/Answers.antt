use Rattle.std.proofs.Common.{◌≡◌, ◌∙◌, [], ◌∷◌, List, length, get_or, Ok, true, refl, sym, ap, subst, arith}
use Rattle.std.specs.Prelude.{Bool}
use Rattle.spec_branch.specs.Branch.{State}
use Rattle.spec_search.specs.Replies.{with_equations}
use Rattle.cq_settle.specs.Equal.{IsWork}
use Rattle.cq_branch.specs.Worlds.{value, with_heap}
use Rattle.cq_term.specs.declared.walk.pairs.Pair.{Pair}
use Rattle.cq_settle.specs.Rest.{IsReadyAs}
use Rattle.cq_settle.specs.Worlds.{now_of}
use Rattle.cq_branch.specs.Begun.{GoesOn, trees_of_pairs}
use Rattle.cq_branch.specs.Entries.{AreFree}
use Rattle.cq_branch.specs.declared.begin.beginning.Begun.TheVariants.{Goes}
use Rattle.cq_branch.proofs.Begins.{CallsForEach, all_go_on}
use Rattle.cq_branch.proofs.Free.{none_woken}
use Rattle.cq_branch.proofs.Leading.{row_ok, none_told}
use Rattle.cq_branch.proofs.begin.rows.unify_constant.Goals as goal
use Rattle.cq_branch.proofs.begin.rows.unify_constant.Goals.{In-Ok}

-- a list of one
alone : (ps : List Pair) (p : Pair) → length ps ≡ 1 → p ≡ get_or ps 0 p → ps ≡ p ∷ []
alone [] p l e = absurd (omega (arith, l))
alone (q ∷ []) p l e = ap (λ (x : Pair). x ∷ []) (sym e)
alone (q ∷ r ∷ ps) p l e = absurd (omega (arith, l))

module _ (c : In-Ok) (bound : c.in-Ok.bound ≡ true) where
  free : AreFree c.args.world.now.heap.now c.bind_constant.new.heap.now c.args.world.now.attrs.now c.args.pairs.now
  free =
      subst (λ (ps : List Pair). AreFree c.args.world.now.heap.now c.bind_constant.new.heap.now c.args.world.now.attrs.now ps)
      (sym (alone c.args.pairs.now c.index-pairs-0.result c.if-pairs-ne1.false c.index-pairs-0.is))
      (c.bind_constant.ensures.bound (c.in-Ok.is ∙ ap (λ (b : Bool). Ok b) bound))

  goes : GoesOn c.args.atoms.now (value c.args.world.now c.args.lists.now.now) (with_heap c.bind_constant.new.heap.now (now_of c.args.world.now), c.args.lists.now.now)
      c.args.pairs.now [] c.args.rest c.args.rest
  goes =
      let texts = c.args.atoms.now in
      let world = now_of c.args.world.now in
      let h = c.bind_constant.new.heap.now in
      let lists = c.args.lists.now.now in
      let each : CallsForEach texts world h c.args.pairs.now free.newly [] =
      (λ st p x w. c.equated_worlds_may_be_settled.ensures.each texts world h c.args.pairs.now free.newly [] [] st p c.requires.different x free.equal
      (free.names (length texts) c.requires.ready.1.stands.names) (λ i d l. absurd (omega (arith, l))) w) in
      let fixes = c.told-told.ensures.fixes in
      all_go_on texts world h c.args.pairs.now free.newly [] free.equal each (with_heap h world) lists lists c.args.rest c.args.rest
      (none_woken texts (with_heap h world) free.newly free.free c.told-told.ensures.solvable fixes.0 fixes.1 lists c.args.rest c.requires.rest)

  -- the pairs as they read are the work
  work : (st : State) → IsReadyAs c.args.atoms.now (now_of c.args.world.now) st
      → IsWork c.args.atoms.now (now_of c.args.world.now) st c.args.pairs.now [] [] (with_equations (trees_of_pairs c.args.atoms.now c.args.world.now.heap.now.terms c.args.pairs.now))
  work st r =
      c.equated_worlds_may_be_settled.ensures.work c.args.atoms.now (now_of c.args.world.now) c.args.pairs.now [] [] st r c.look_at_pairs.ensures.equal
      (none_told c.args.world.now.heap.now [] refl)

pub returns-in-Ok-clause-row : goal.returns-in-Ok-clause-row
returns-in-Ok-clause-row c = λ bound.
    let k = (goal.at.returns-in-Ok-clause-row c).In-Ok in
    row_ok c.args.atoms.now (value c.args.world.now c.args.lists.now.now) (with_heap c.bind_constant.new.heap.now (now_of c.args.world.now), c.args.lists.now.now) c.args.rest
    c.args.pairs.now [] (with_equations (trees_of_pairs c.args.atoms.now c.args.world.now.heap.now.terms c.args.pairs.now)) refl refl (work k bound) (Ok (Goes c.args.rest)) (goes k bound) tt
