use Rattle.std.proofs.Common.{◌≡◌, []}
use Rattle.std.specs.Prelude.{length}
use Rattle.spec_branch.specs.Branch.{State, Pending}
use Rattle.spec_search.specs.Replies.{with_new}
use Rattle.cq_branch.specs.Begun.{GoesOn, OfWork, Prunes}
use Rattle.cq_settle.specs.Settled.{MayRefuse, MayTake}
use Rattle.cq_branch.specs.Worlds.{value, with_heap}
use Rattle.cq_branch.proofs.Added.{keeps_on}
use Rattle.cq_settle.specs.Worlds.{now_of}
use Rattle.cq_catch.specs.Taking.{BallGoes, OfBall, CarriesBall}
use Rattle.cq_catch.proofs.Recovered.{pair_of, ready_now, of_ball, ball_goes, ball_carried}
use Rattle.cq_catch.proofs.Settled.{goes_ok, pruned_ok, untold_goes, untold_work}
use Rattle.cq_catch.proofs.saved.taking.begin_caught.Goals as goal

pub begin-requires-clause-ready : goal.begin-requires-clause-ready
begin-requires-clause-ready c =
    let texts = c.args.atoms.now in
    let old = now_of c.args.world.now in
    let h = c.restore.new.heap.now in
    let r = c.in_ok-copy.ensures in
    let names = c.restore.ensures.names (length texts) c.requires.ball.below in (
      with_new c.args.ball.now.variables c.requires.ready.0,
      ready_now texts old c.args.ball.now c.requires.ball h c.in_ok-copy.copy c.args.catcher r.moved r.terms r.images names c.requires.ready.0 c.requires.ready.1,
    )

pub returns-clause-goes : goal.returns-clause-goes
returns-clause-goes c =
    let texts = c.args.atoms.now in
    let old = now_of c.args.world.now in
    let h = c.restore.new.heap.now in
    let mid = with_heap h old in
    let r = c.in_ok-copy.ensures in
    let names = c.restore.ensures.names (length texts) c.requires.ball.below in
    let pairs = pair_of texts old c.args.ball.now c.requires.ball h c.in_ok-copy.copy c.args.catcher r.moved r.terms r.images names in
    let new = value c.begin.new.world c.begin.new.lists.now in
    let told = c.new-told.result.items in
    let front = c.in_ok-recovered.recovered in
    goes_ok c.begin.result (GoesOn texts (mid, c.call_before.new.lists.now) new pairs told front)
    (BallGoes texts (old, c.args.lists.now.now) new c.args.ball.now c.args.catcher c.args.recovery c.args.rest)
    (λ k g. ball_goes texts old c.args.ball.now c.requires.ball h c.in_ok-copy.copy c.args.catcher r.moved r.terms r.images names c.args.lists.now.now c.call_before.new.lists.now
    c.call_before.ensures.keeps c.args.rest c.args.recovery front k new c.in_ok-recovered.ensures.cells
    (untold_goes texts (mid, c.call_before.new.lists.now) new pairs told [] front k c.new-told.ensures.items g))
    c.begin.ensures.goes

pub returns-clause-pruned : goal.returns-clause-pruned
returns-clause-pruned c =
    let texts = c.args.atoms.now in
    let old = now_of c.args.world.now in
    let h = c.restore.new.heap.now in
    let mid = with_heap h old in
    let r = c.in_ok-copy.ensures in
    let names = c.restore.ensures.names (length texts) c.requires.ball.below in
    let pairs = pair_of texts old c.args.ball.now c.requires.ball h c.in_ok-copy.copy c.args.catcher r.moved r.terms r.images names in
    let told = c.new-told.result.items in
    pruned_ok c.begin.result (OfWork texts mid pairs told Prunes) (OfBall texts old c.args.ball.now c.args.catcher Prunes)
    (λ w. of_ball texts old c.args.ball.now c.requires.ball h c.in_ok-copy.copy c.args.catcher r.moved r.terms r.images names Prunes
    (untold_work texts mid pairs told [] Prunes c.new-told.ensures.items w))
    c.begin.ensures.pruned

pub returns-clause-carries : goal.returns-clause-carries
returns-clause-carries c =
    let texts = c.args.atoms.now in
    let old = now_of c.args.world.now in
    let h = c.restore.new.heap.now in
    let mid = with_heap h old in
    let r = c.in_ok-copy.ensures in
    let names = c.restore.ensures.names (length texts) c.requires.ball.below in
    let keeps = keeps_on c.args.lists.now.now c.call_before.new.lists.now c.begin.new.lists.now c.call_before.ensures.keeps c.begin.ensures.keeps in
    pruned_ok c.begin.result (now_of c.begin.new.world ≡ mid)
    (CarriesBall texts (old, c.args.lists.now.now) (value c.begin.new.world c.begin.new.lists.now) c.args.ball.now c.args.rest)
    (λ same. ball_carried texts old c.args.ball.now c.requires.ball h c.in_ok-copy.copy c.args.catcher r.moved r.terms r.images names c.args.lists.now.now c.begin.new.lists.now keeps
    c.args.rest (now_of c.begin.new.world) same)
    c.begin.ensures.unchanged

pub returns-clause-overflow : goal.returns-clause-overflow
returns-clause-overflow c = λ pair e.
    let texts = c.args.atoms.now in
    let old = now_of c.args.world.now in
    let h = c.restore.new.heap.now in
    let mid = with_heap h old in
    let r = c.in_ok-copy.ensures in
    let names = c.restore.ensures.names (length texts) c.requires.ball.below in
    let pairs = pair_of texts old c.args.ball.now c.requires.ball h c.in_ok-copy.copy c.args.catcher r.moved r.terms r.images names in
    let P : State → Pending → Type 0 = λ st p. MayRefuse st p pair in
    of_ball texts old c.args.ball.now c.requires.ball h c.in_ok-copy.copy c.args.catcher r.moved r.terms r.images names P
    (untold_work texts mid pairs c.new-told.result.items [] P c.new-told.ensures.items (c.begin.ensures.overflow pair e))

pub returns-clause-pivots : goal.returns-clause-pivots
returns-clause-pivots c = λ n e.
    let texts = c.args.atoms.now in
    let old = now_of c.args.world.now in
    let h = c.restore.new.heap.now in
    let mid = with_heap h old in
    let r = c.in_ok-copy.ensures in
    let names = c.restore.ensures.names (length texts) c.requires.ball.below in
    let pairs = pair_of texts old c.args.ball.now c.requires.ball h c.in_ok-copy.copy c.args.catcher r.moved r.terms r.images names in
    let P : State → Pending → Type 0 = λ st p. MayTake st p n in
    let due = c.begin.ensures.pivots n e in (
      due.0,
      of_ball texts old c.args.ball.now c.requires.ball h c.in_ok-copy.copy c.args.catcher r.moved r.terms r.images names P
          (untold_work texts mid pairs c.new-told.result.items [] P c.new-told.ensures.items due.1),
    )
