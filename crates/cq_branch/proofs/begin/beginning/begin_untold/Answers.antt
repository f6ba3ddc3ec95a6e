use Rattle.std.proofs.Common.{◌≡◌, ◌∙◌, [], ℕ, List, length, map, Ok, sym, ap, subst, arith}
use Rattle.std.specs.Prelude.{All, IfOk, OnErr}
use Rattle.std.specs.List.{zip}
use Rattle.std.specs.declared.result.Result.{Result}
use Rattle.cq_store.specs.StoreValue.{kept}
use Rattle.cq_settle.specs.Equal.{MayBeEqual}
use Rattle.cq_settle.specs.Ready.{MayBeTold}
use Rattle.cq_settle.specs.Settled.{MayRefuse, MayTake}
use Rattle.cq_branch.specs.Worlds.{value, with_heap}
use Rattle.cq_term.specs.HeapValue.{Terms}
use Rattle.cq_settle.specs.Contents.{contents_of}
use Rattle.cq_settle.specs.Rest.{IsReady}
use Rattle.cq_settle.specs.Worlds.{now_of}
use Rattle.cq_branch.specs.Begun.{IfGoes, IfPruned, GoesOn, OfWork, Prunes}
use Rattle.cq_branch.specs.Entries.{AreFree}
use Rattle.cq_branch.specs.declared.begin.equal.Equated.{Equated}
use Rattle.cq_branch.specs.declared.begin.equal.Equated.TheVariants.{Equal, Apart, Unsettled}
use Rattle.cq_branch.proofs.Begins.{CallsForEach, all_go_on, pairs_live, pruned_at_once}
use Rattle.cq_branch.proofs.Free.{none_woken}
use Rattle.cq_branch.proofs.begin.beginning.begin_untold.Goals as goal

-- ---- nothing is to be settled

pub returns-in-Equal-clause-goes : goal.returns-in-Equal-clause-goes
returns-in-Equal-clause-goes c =
    let texts = c.args.atoms.now in
    let world = now_of c.args.world.now in
    let h = c.equate_free.new.heap.now in
    let lists = c.args.lists.now.now in
    let f : AreFree c.args.world.now.heap.now h c.args.world.now.attrs.now c.args.pairs.now = rw c.in-Equal.is at c.in_ok-equated.ensures.equal in
    let each : CallsForEach texts world h c.args.pairs.now f.newly [] =
    (λ st p x w. c.equated_worlds_may_be_settled.ensures.each texts world h c.args.pairs.now f.newly [] [] st p c.requires.different x f.equal
    (f.names (length texts) c.requires.ready.1.stands.names) (λ i d l. absurd (omega (arith, l))) w) in
    let fixes = c.told-told.ensures.fixes in
    subst (λ (ts : List ℕ). GoesOn texts (world, lists) (with_heap h world, lists) c.args.pairs.now ts c.args.rest c.args.rest) (sym c.requires.none)
    (all_go_on texts world h c.args.pairs.now f.newly [] f.equal each (with_heap h world) lists lists c.args.rest c.args.rest
    (none_woken texts (with_heap h world) f.newly f.free c.told-told.ensures.solvable fixes.0 fixes.1 lists c.args.rest c.requires.rest))

-- ---- nothing makes them equal

unlike : {E : Type 0} (r : Result Equated E) (e : Equated) → r ≡ Ok e → e ≡ Apart → r ≡ Ok Equal → ⊥
unlike r e a b f = cc

pub returns-in-Apart-clause-pruned : goal.returns-in-Apart-clause-pruned
returns-in-Apart-clause-pruned c = λ st p r w.
    pruned_at_once st p (c.equated_worlds_may_be_settled.ensures.none c.args.atoms.now (now_of c.args.world.now) c.args.pairs.now c.args.told.items [] st p c.requires.different r.stands.names
    (pairs_live c.args.world.now.heap.now c.args.pairs.now c.requires.pairs) (rw c.in-Apart.is at c.in_ok-equated.ensures.apart) w)

pub returns-in-Apart-clause-unchanged : goal.returns-in-Apart-clause-unchanged
returns-in-Apart-clause-unchanged c =
    ap (λ (t : Terms). with_heap t (now_of c.args.world.now))
    (c.equate_free.ensures.unchanged (unlike c.equate_free.result c.in_ok-equated.equated c.in_ok-equated.was c.in-Apart.is))

-- ---- something is to be settled

unsettled : {E : Type 0} (r : Result Equated E) (e : Equated) → r ≡ Ok e → e ≡ Unsettled → r ≡ Ok Equal → ⊥
unsettled r e a b f = cc

pub begin_marked-requires-clause-ready : goal.begin_marked-requires-clause-ready
begin_marked-requires-clause-ready c =
    let same = c.equate_free.ensures.unchanged (unsettled c.equate_free.result c.in_ok-equated.equated c.in_ok-equated.was c.in-Unsettled.is) in
    subst (λ (t : Terms). IsReady c.args.atoms.now (with_heap t (now_of c.args.world.now))) (sym same) c.requires.ready

pub begin_marked-requires-clause-pairs : goal.begin_marked-requires-clause-pairs
begin_marked-requires-clause-pairs c =
    let same = c.equate_free.ensures.unchanged (unsettled c.equate_free.result c.in_ok-equated.equated c.in_ok-equated.was c.in-Unsettled.is) in
    subst (λ (t : Terms). All (MayBeEqual t) c.args.pairs.now) (sym same) c.requires.pairs

pub begin_marked-requires-clause-told : goal.begin_marked-requires-clause-told
begin_marked-requires-clause-told c =
    let same = c.equate_free.ensures.unchanged (unsettled c.equate_free.result c.in_ok-equated.equated c.in_ok-equated.was c.in-Unsettled.is) in
    subst (λ (t : Terms). All (MayBeTold t) c.args.told.items) (sym same) c.requires.told

pub returns-in-Unsettled-clause-goes : goal.returns-in-Unsettled-clause-goes
returns-in-Unsettled-clause-goes c =
    let world = now_of c.args.world.now in
    let later = value c.begin_marked.new.world c.begin_marked.new.lists.now in
    let same = c.equate_free.ensures.unchanged (unsettled c.equate_free.result c.in_ok-equated.equated c.in_ok-equated.was c.in-Unsettled.is) in
    subst (λ (t : Terms). IfOk c.begin_marked.result (λ b. IfGoes b (GoesOn c.args.atoms.now (with_heap t world, c.args.lists.now.now) later c.args.pairs.now c.args.told.items c.args.rest)))
    same c.begin_marked.ensures.goes

pub returns-in-Unsettled-clause-pruned : goal.returns-in-Unsettled-clause-pruned
returns-in-Unsettled-clause-pruned c =
    let world = now_of c.args.world.now in
    let same = c.equate_free.ensures.unchanged (unsettled c.equate_free.result c.in_ok-equated.equated c.in_ok-equated.was c.in-Unsettled.is) in
    subst (λ (t : Terms). IfOk c.begin_marked.result (λ b. IfPruned b (OfWork c.args.atoms.now (with_heap t world) c.args.pairs.now c.args.told.items Prunes)))
    same c.begin_marked.ensures.pruned

pub returns-in-Unsettled-clause-unchanged : goal.returns-in-Unsettled-clause-unchanged
returns-in-Unsettled-clause-unchanged c =
    let world = now_of c.args.world.now in
    let same = c.equate_free.ensures.unchanged (unsettled c.equate_free.result c.in_ok-equated.equated c.in_ok-equated.was c.in-Unsettled.is) in
    subst (λ (t : Terms). IfOk c.begin_marked.result (λ b. IfPruned b (now_of c.begin_marked.new.world ≡ with_heap t world))) same c.begin_marked.ensures.unchanged

pub returns-in-Unsettled-clause-err : goal.returns-in-Unsettled-clause-err
returns-in-Unsettled-clause-err c =
    let world = now_of c.args.world.now in
    let same = c.equate_free.ensures.unchanged (unsettled c.equate_free.result c.in_ok-equated.equated c.in_ok-equated.was c.in-Unsettled.is) in
    subst (λ (t : Terms). OnErr c.begin_marked.result (now_of c.begin_marked.new.world ≡ with_heap t world)) same c.begin_marked.ensures.err

pub returns-in-Unsettled-clause-overflow : goal.returns-in-Unsettled-clause-overflow
returns-in-Unsettled-clause-overflow c = λ pair e.
    let world = now_of c.args.world.now in
    let same = c.equate_free.ensures.unchanged (unsettled c.equate_free.result c.in_ok-equated.equated c.in_ok-equated.was c.in-Unsettled.is) in
    subst (λ (t : Terms). OfWork c.args.atoms.now (with_heap t world) c.args.pairs.now c.args.told.items (λ st p. MayRefuse st p pair)) same (c.begin_marked.ensures.overflow pair e)

pub returns-in-Unsettled-clause-pivots : goal.returns-in-Unsettled-clause-pivots
returns-in-Unsettled-clause-pivots c = λ n e.
    let world = now_of c.args.world.now in
    let same = c.equate_free.ensures.unchanged (unsettled c.equate_free.result c.in_ok-equated.equated c.in_ok-equated.was c.in-Unsettled.is) in
    let o = c.begin_marked.ensures.pivots n e in
    (o.0, subst (λ (t : Terms). OfWork c.args.atoms.now (with_heap t world) c.args.pairs.now c.args.told.items (λ st p. MayTake st p n)) same o.1)

pub returns-in-Unsettled-clause-saved : goal.returns-in-Unsettled-clause-saved
returns-in-Unsettled-clause-saved c =
    let w = c.args.world.now in
    c.begin_marked.ensures.saved
    ∙ ap (λ (hs : List Terms). map contents_of (zip hs (zip w.attrs.saved (map (kept w.store.pivots) w.store.saved)))) c.equate_free.ensures.saved

pub returns-in-Unsettled-clause-room : goal.returns-in-Unsettled-clause-room
returns-in-Unsettled-clause-room c = omega (arith, c.equate_free.ensures.room, c.begin_marked.ensures.room)
