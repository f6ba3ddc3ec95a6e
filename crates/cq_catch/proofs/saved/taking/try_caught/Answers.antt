use Rattle.std.proofs.Common.{◌≡◌, List, refl, sym, ap, ◌∙◌, subst}
use Rattle.std.specs.Prelude.{Err}
use Rattle.std.specs.List.{zip}
use Rattle.spec_numbers.proofs.Prefixes.{prefix_same}
use Rattle.cq_control.specs.Open.{open_choices}
use Rattle.cq_resolve.specs.StoredValue.{StoredValue}
use Rattle.cq_settle.specs.Contents.{Contents}
use Rattle.spec_engine.specs.Cells.{Value}
use Rattle.cq_branch.specs.Worlds.{value, saved_values}
use Rattle.cq_branch.specs.declared.alternatives.Alternatives.TheVariants.{Caught}
use Rattle.cq_branch.proofs.Budgets.{same_budget}
use Rattle.cq_choices.specs.Held.{Held, held}
use Rattle.cq_choices.proofs.Ending.{over_same}
use Rattle.cq_catch.specs.Taking.{EscapesOver, BallGoes, CarriesBall}
use Rattle.cq_catch.proofs.Handing.{counted_there, ready_there, catcher_there, rest_there, goes_on, stays_left, somewhere, hands_on, escapes_all, query_stops, stays_handed, takes_to}
use Rattle.cq_catch.proofs.SavedNewest.{taken_off, put_back, still_there, marked_still}
use Rattle.cq_catch.proofs.saved.taking.try_caught.Goals as goal

pub begin_caught-requires-clause-ready : goal.begin_caught-requires-clause-ready
begin_caught-requires-clause-ready c =
    let old = held c.args.atoms.now c.args.world.now.first c.args.world.now.second c.args.choices.now in
    let start = value c.retry.new.world.first c.retry.new.world.second.now in
    let older = c.in-Caught.ensures.open.0 in
    let was = c.in-Caught.ensures.open.1 in
    ready_there old start c.in-Caught.ball c.in-Caught.catcher c.in-Caught.recovery c.in-Caught.rest older was c.requires.works

pub begin_caught-requires-clause-ball : goal.begin_caught-requires-clause-ball
begin_caught-requires-clause-ball c =
    let old = held c.args.atoms.now c.args.world.now.first c.args.world.now.second c.args.choices.now in
    let start = value c.retry.new.world.first c.retry.new.world.second.now in
    let older = c.in-Caught.ensures.open.0 in
    let was = c.in-Caught.ensures.open.1 in
    counted_there old start c.in-Caught.ball c.in-Caught.catcher c.in-Caught.recovery c.in-Caught.rest older was c.requires.works

pub begin_caught-requires-clause-catcher : goal.begin_caught-requires-clause-catcher
begin_caught-requires-clause-catcher c =
    let old = held c.args.atoms.now c.args.world.now.first c.args.world.now.second c.args.choices.now in
    let start = value c.retry.new.world.first c.retry.new.world.second.now in
    let older = c.in-Caught.ensures.open.0 in
    let was = c.in-Caught.ensures.open.1 in
    catcher_there old start c.in-Caught.ball c.in-Caught.catcher c.in-Caught.recovery c.in-Caught.rest older was c.requires.works

pub begin_caught-requires-clause-rest : goal.begin_caught-requires-clause-rest
begin_caught-requires-clause-rest c =
    let old = held c.args.atoms.now c.args.world.now.first c.args.world.now.second c.args.choices.now in
    let start = value c.retry.new.world.first c.retry.new.world.second.now in
    let older = c.in-Caught.ensures.open.0 in
    let was = c.in-Caught.ensures.open.1 in
    rest_there old start c.in-Caught.ball c.in-Caught.catcher c.in-Caught.recovery c.in-Caught.rest older was c.requires.works

pub cut-requires : goal.cut-requires
cut-requires c =
    let old = held c.args.atoms.now c.args.world.now.first c.args.world.now.second c.args.choices.now in
    let start = value c.retry.new.world.first c.retry.new.world.second.now in
    let older = c.in-Caught.ensures.open.0 in
    let was = c.in-Caught.ensures.open.1 in
    let then_ = value c.begin_caught.new.world c.begin_caught.new.lists.now in
    let saved = saved_values c.begin_caught.new.world c.begin_caught.new.lists.saved in
    let same : saved ≡ saved_values c.retry.new.world.first c.retry.new.world.second.saved = λ i. zip (c.begin_caught.ensures.saved i) (c.begin_caught.ensures.lists i) in
    let opened = ap (λ (xs : List (Value Contents)). open_choices xs c.retry.new.self) same ∙ c.in-Caught.ensures.open.2 in
    let marked = marked_still (saved_values c.retry.new.world.first c.retry.new.world.second.saved) saved c.retry.new.self same c.retry.ensures.marked in
    let content = Caught c.in-Caught.ball c.in-Caught.catcher c.in-Caught.recovery c.in-Caught.rest in
    record { marked = marked }

pub hand_on-requires-clause-comes_up : goal.hand_on-requires-clause-comes_up
hand_on-requires-clause-comes_up c =
    let old = held c.args.atoms.now c.args.world.now.first c.args.world.now.second c.args.choices.now in
    let start = value c.retry.new.world.first c.retry.new.world.second.now in
    let older = c.in-Caught.ensures.open.0 in
    let was = c.in-Caught.ensures.open.1 in
    let then_ = value c.begin_caught.new.world c.begin_caught.new.lists.now in
    let saved = saved_values c.begin_caught.new.world c.begin_caught.new.lists.saved in
    let same : saved ≡ saved_values c.retry.new.world.first c.retry.new.world.second.saved = λ i. zip (c.begin_caught.ensures.saved i) (c.begin_caught.ensures.lists i) in
    let opened = ap (λ (xs : List (Value Contents)). open_choices xs c.retry.new.self) same ∙ c.in-Caught.ensures.open.2 in
    let marked = marked_still (saved_values c.retry.new.world.first c.retry.new.world.second.saved) saved c.retry.new.self same c.retry.ensures.marked in
    let content = Caught c.in-Caught.ball c.in-Caught.catcher c.in-Caught.recovery c.in-Caught.rest in
    let end = held c.args.atoms.now c.cut.new.world.first c.cut.new.world.second c.cut.new.self in
    let left = taken_off c.retry.new.self content c.in-Caught.ensures.contents.0 start older c.in-Caught.ensures.contents.2 saved opened c.height-newest.result end.saved end.choices c.height-newest.ensures marked c.cut.ensures.open in
    let prunes = rw c.in-Pruned.is at c.in-Ok.ensures.pruned in
    let carries : CarriesBall c.args.atoms.now start end.now c.in-Caught.ball c.in-Caught.rest =
    subst (λ (x : Value Contents). CarriesBall c.args.atoms.now start x c.in-Caught.ball c.in-Caught.rest) (sym c.cut.ensures.now) (rw c.in-Pruned.is at c.in-Ok.ensures.carries) in
    somewhere old start c.in-Caught.ball c.in-Caught.catcher c.in-Caught.recovery c.in-Caught.rest older was end.saved end.choices end.now left c.requires.works carries

pub returns-in-Goes-clause-comes : goal.returns-in-Goes-clause-comes
returns-in-Goes-clause-comes c =
    let old = held c.args.atoms.now c.args.world.now.first c.args.world.now.second c.args.choices.now in
    let start = value c.retry.new.world.first c.retry.new.world.second.now in
    let older = c.in-Caught.ensures.open.0 in
    let was = c.in-Caught.ensures.open.1 in
    let then_ = value c.begin_caught.new.world c.begin_caught.new.lists.now in
    let saved = saved_values c.begin_caught.new.world c.begin_caught.new.lists.saved in
    let same : saved ≡ saved_values c.retry.new.world.first c.retry.new.world.second.saved = λ i. zip (c.begin_caught.ensures.saved i) (c.begin_caught.ensures.lists i) in
    let opened = ap (λ (xs : List (Value Contents)). open_choices xs c.retry.new.self) same ∙ c.in-Caught.ensures.open.2 in
    let marked = marked_still (saved_values c.retry.new.world.first c.retry.new.world.second.saved) saved c.retry.new.self same c.retry.ensures.marked in
    let content = Caught c.in-Caught.ball c.in-Caught.catcher c.in-Caught.recovery c.in-Caught.rest in
    let end = held c.args.atoms.now c.cut.new.world.first c.cut.new.world.second c.cut.new.self in
    let left = taken_off c.retry.new.self content c.in-Caught.ensures.contents.0 start older c.in-Caught.ensures.contents.2 saved opened c.height-newest.result end.saved end.choices c.height-newest.ensures marked c.cut.ensures.open in
    let goes : BallGoes c.args.atoms.now start end.now c.in-Caught.ball c.in-Caught.catcher c.in-Caught.recovery c.in-Caught.rest c.in-Goes.first =
    subst (λ (x : Value Contents). BallGoes c.args.atoms.now start x c.in-Caught.ball c.in-Caught.catcher c.in-Caught.recovery c.in-Caught.rest c.in-Goes.first) (sym c.cut.ensures.now)
    (rw c.in-Goes.is at c.in-Ok.ensures.goes) in
    goes_on old start c.in-Caught.ball c.in-Caught.catcher c.in-Caught.recovery c.in-Caught.rest older was end.saved end.choices end.now left c.in-Goes.first goes

pub returns-in-Goes-clause-over : goal.returns-in-Goes-clause-over
returns-in-Goes-clause-over c =
    let old = held c.args.atoms.now c.args.world.now.first c.args.world.now.second c.args.choices.now in
    let start = value c.retry.new.world.first c.retry.new.world.second.now in
    let older = c.in-Caught.ensures.open.0 in
    let was = c.in-Caught.ensures.open.1 in
    let then_ = value c.begin_caught.new.world c.begin_caught.new.lists.now in
    let saved = saved_values c.begin_caught.new.world c.begin_caught.new.lists.saved in
    let same : saved ≡ saved_values c.retry.new.world.first c.retry.new.world.second.saved = λ i. zip (c.begin_caught.ensures.saved i) (c.begin_caught.ensures.lists i) in
    let opened = ap (λ (xs : List (Value Contents)). open_choices xs c.retry.new.self) same ∙ c.in-Caught.ensures.open.2 in
    let marked = marked_still (saved_values c.retry.new.world.first c.retry.new.world.second.saved) saved c.retry.new.self same c.retry.ensures.marked in
    let content = Caught c.in-Caught.ball c.in-Caught.catcher c.in-Caught.recovery c.in-Caught.rest in
    let end = held c.args.atoms.now c.cut.new.world.first c.cut.new.world.second c.cut.new.self in
    let left = taken_off c.retry.new.self content c.in-Caught.ensures.contents.0 start older c.in-Caught.ensures.contents.2 saved opened c.height-newest.result end.saved end.choices c.height-newest.ensures marked c.cut.ensures.open in
    stays_left old start c.in-Caught.ball c.in-Caught.catcher c.in-Caught.recovery c.in-Caught.rest older was end.saved end.choices end.now left

pub returns-in-Pruned-clause-comes : goal.returns-in-Pruned-clause-comes
returns-in-Pruned-clause-comes c =
    let old = held c.args.atoms.now c.args.world.now.first c.args.world.now.second c.args.choices.now in
    let start = value c.retry.new.world.first c.retry.new.world.second.now in
    let older = c.in-Caught.ensures.open.0 in
    let was = c.in-Caught.ensures.open.1 in
    let then_ = value c.begin_caught.new.world c.begin_caught.new.lists.now in
    let saved = saved_values c.begin_caught.new.world c.begin_caught.new.lists.saved in
    let same : saved ≡ saved_values c.retry.new.world.first c.retry.new.world.second.saved = λ i. zip (c.begin_caught.ensures.saved i) (c.begin_caught.ensures.lists i) in
    let opened = ap (λ (xs : List (Value Contents)). open_choices xs c.retry.new.self) same ∙ c.in-Caught.ensures.open.2 in
    let marked = marked_still (saved_values c.retry.new.world.first c.retry.new.world.second.saved) saved c.retry.new.self same c.retry.ensures.marked in
    let content = Caught c.in-Caught.ball c.in-Caught.catcher c.in-Caught.recovery c.in-Caught.rest in
    let end = held c.args.atoms.now c.cut.new.world.first c.cut.new.world.second c.cut.new.self in
    let left = taken_off c.retry.new.self content c.in-Caught.ensures.contents.0 start older c.in-Caught.ensures.contents.2 saved opened c.height-newest.result end.saved end.choices c.height-newest.ensures marked c.cut.ensures.open in
    let prunes = rw c.in-Pruned.is at c.in-Ok.ensures.pruned in
    let carries : CarriesBall c.args.atoms.now start end.now c.in-Caught.ball c.in-Caught.rest =
    subst (λ (x : Value Contents). CarriesBall c.args.atoms.now start x c.in-Caught.ball c.in-Caught.rest) (sym c.cut.ensures.now) (rw c.in-Pruned.is at c.in-Ok.ensures.carries) in
    let last = held c.args.atoms.now c.hand_on.new.world.first c.hand_on.new.world.second c.hand_on.new.choices in
    takes_to old last c.hand_on.result c.hand_on.ensures.goes
    (λ e. hands_on old start c.in-Caught.ball c.in-Caught.catcher c.in-Caught.recovery c.in-Caught.rest older was end.saved end.choices end.now left prunes carries last.saved last.choices last.now (c.hand_on.ensures.caught e))
    (λ b e. let x = c.hand_on.ensures.escaped b e in
    subst (λ (s : StoredValue). EscapesOver old last s) (sym x.0) (escapes_all old start c.in-Caught.ball c.in-Caught.catcher c.in-Caught.recovery c.in-Caught.rest older was end.saved end.choices end.now left prunes carries last.saved last.choices last.now x.2 x.1))

pub returns-in-Pruned-clause-over : goal.returns-in-Pruned-clause-over
returns-in-Pruned-clause-over c =
    let old = held c.args.atoms.now c.args.world.now.first c.args.world.now.second c.args.choices.now in
    let start = value c.retry.new.world.first c.retry.new.world.second.now in
    let older = c.in-Caught.ensures.open.0 in
    let was = c.in-Caught.ensures.open.1 in
    let then_ = value c.begin_caught.new.world c.begin_caught.new.lists.now in
    let saved = saved_values c.begin_caught.new.world c.begin_caught.new.lists.saved in
    let same : saved ≡ saved_values c.retry.new.world.first c.retry.new.world.second.saved = λ i. zip (c.begin_caught.ensures.saved i) (c.begin_caught.ensures.lists i) in
    let opened = ap (λ (xs : List (Value Contents)). open_choices xs c.retry.new.self) same ∙ c.in-Caught.ensures.open.2 in
    let marked = marked_still (saved_values c.retry.new.world.first c.retry.new.world.second.saved) saved c.retry.new.self same c.retry.ensures.marked in
    let content = Caught c.in-Caught.ball c.in-Caught.catcher c.in-Caught.recovery c.in-Caught.rest in
    let end = held c.args.atoms.now c.cut.new.world.first c.cut.new.world.second c.cut.new.self in
    let left = taken_off c.retry.new.self content c.in-Caught.ensures.contents.0 start older c.in-Caught.ensures.contents.2 saved opened c.height-newest.result end.saved end.choices c.height-newest.ensures marked c.cut.ensures.open in
    let last = held c.args.atoms.now c.hand_on.new.world.first c.hand_on.new.world.second c.hand_on.new.choices in
    stays_handed old start c.in-Caught.ball c.in-Caught.catcher c.in-Caught.recovery c.in-Caught.rest older was end.saved last.saved end.choices last.choices last.now left c.hand_on.ensures.open

pub returns-in-Err-clause-err : goal.returns-in-Err-clause-err
returns-in-Err-clause-err c =
    let old = held c.args.atoms.now c.args.world.now.first c.args.world.now.second c.args.choices.now in
    let start = value c.retry.new.world.first c.retry.new.world.second.now in
    let older = c.in-Caught.ensures.open.0 in
    let was = c.in-Caught.ensures.open.1 in
    let then_ = value c.begin_caught.new.world c.begin_caught.new.lists.now in
    let saved = saved_values c.begin_caught.new.world c.begin_caught.new.lists.saved in
    let same : saved ≡ saved_values c.retry.new.world.first c.retry.new.world.second.saved = λ i. zip (c.begin_caught.ensures.saved i) (c.begin_caught.ensures.lists i) in
    let opened = ap (λ (xs : List (Value Contents)). open_choices xs c.retry.new.self) same ∙ c.in-Caught.ensures.open.2 in
    let marked = marked_still (saved_values c.retry.new.world.first c.retry.new.world.second.saved) saved c.retry.new.self same c.retry.ensures.marked in
    let content = Caught c.in-Caught.ball c.in-Caught.catcher c.in-Caught.recovery c.in-Caught.rest in
    let again = put_back c.retry.new.self content c.in-Caught.ensures.contents.0 start older c.in-Caught.ensures.contents.2 saved opened c.height-newest-in-Err.result c.replace_at.ensures.0 c.replace_at.new.self c.replace_at.result c.height-newest-in-Err.ensures c.replace_at.ensures.1
    c.replace_at.ensures.2 ∙ sym was in
    still_there old saved c.replace_at.new.self then_ again

pub returns-in-Err-clause-stops : goal.returns-in-Err-clause-stops
returns-in-Err-clause-stops c =
    let old = held c.args.atoms.now c.args.world.now.first c.args.world.now.second c.args.choices.now in
    let start = value c.retry.new.world.first c.retry.new.world.second.now in
    let older = c.in-Caught.ensures.open.0 in
    let was = c.in-Caught.ensures.open.1 in
    let budget = same_budget c.args.world.now.first c.args.world.now.second.saved c.args.choices.now start (Caught c.in-Caught.ball c.in-Caught.catcher c.in-Caught.recovery c.in-Caught.rest) older was in
    query_stops old start c.in-Caught.ball c.in-Caught.catcher c.in-Caught.recovery c.in-Caught.rest older was c.args.world.now.first.store.pivots c.in-Err.fault (λ pair e. c.begin_caught.ensures.overflow pair (c.in-Err.is ∙ ap Err e))
    (λ n e. let due = c.begin_caught.ensures.pivots n (c.in-Err.is ∙ ap Err e) in (due.0 ∙ budget, due.1))

pub returns-in-Err-clause-over : goal.returns-in-Err-clause-over
returns-in-Err-clause-over c =
    let old = held c.args.atoms.now c.args.world.now.first c.args.world.now.second c.args.choices.now in
    let start = value c.retry.new.world.first c.retry.new.world.second.now in
    let older = c.in-Caught.ensures.open.0 in
    let was = c.in-Caught.ensures.open.1 in
    let then_ = value c.begin_caught.new.world c.begin_caught.new.lists.now in
    let saved = saved_values c.begin_caught.new.world c.begin_caught.new.lists.saved in
    let same : saved ≡ saved_values c.retry.new.world.first c.retry.new.world.second.saved = λ i. zip (c.begin_caught.ensures.saved i) (c.begin_caught.ensures.lists i) in
    let opened = ap (λ (xs : List (Value Contents)). open_choices xs c.retry.new.self) same ∙ c.in-Caught.ensures.open.2 in
    let marked = marked_still (saved_values c.retry.new.world.first c.retry.new.world.second.saved) saved c.retry.new.self same c.retry.ensures.marked in
    let content = Caught c.in-Caught.ball c.in-Caught.catcher c.in-Caught.recovery c.in-Caught.rest in
    let again = put_back c.retry.new.self content c.in-Caught.ensures.contents.0 start older c.in-Caught.ensures.contents.2 saved opened c.height-newest-in-Err.result c.replace_at.ensures.0 c.replace_at.new.self c.replace_at.result c.height-newest-in-Err.ensures c.replace_at.ensures.1
    c.replace_at.ensures.2 ∙ sym was in
    let failed : Held = record { texts = c.args.atoms.now; saved = saved; choices = c.replace_at.new.self; now = then_ } in
    λ v o. over_same old failed v o (prefix_same c.args.atoms.now c.args.atoms.now refl) again

pub returns-in-Err-clause-budget : goal.returns-in-Err-clause-budget
returns-in-Err-clause-budget c =
    let old = held c.args.atoms.now c.args.world.now.first c.args.world.now.second c.args.choices.now in
    let start = value c.retry.new.world.first c.retry.new.world.second.now in
    let older = c.in-Caught.ensures.open.0 in
    let was = c.in-Caught.ensures.open.1 in
    c.begin_caught.ensures.budget ∙ same_budget c.args.world.now.first c.args.world.now.second.saved c.args.choices.now start (Caught c.in-Caught.ball c.in-Caught.catcher c.in-Caught.recovery c.in-Caught.rest) older was

pub returns-in-Goes-clause-budget : goal.returns-in-Goes-clause-budget
returns-in-Goes-clause-budget c =
    let old = held c.args.atoms.now c.args.world.now.first c.args.world.now.second c.args.choices.now in
    let start = value c.retry.new.world.first c.retry.new.world.second.now in
    let older = c.in-Caught.ensures.open.0 in
    let was = c.in-Caught.ensures.open.1 in
    ap (λ (w : Value Contents). w.0.pivots) c.cut.ensures.now ∙ c.begin_caught.ensures.budget ∙ same_budget c.args.world.now.first c.args.world.now.second.saved c.args.choices.now start (Caught c.in-Caught.ball c.in-Caught.catcher c.in-Caught.recovery c.in-Caught.rest) older was

pub returns-in-Pruned-clause-budget : goal.returns-in-Pruned-clause-budget
returns-in-Pruned-clause-budget c =
    let old = held c.args.atoms.now c.args.world.now.first c.args.world.now.second c.args.choices.now in
    let start = value c.retry.new.world.first c.retry.new.world.second.now in
    let older = c.in-Caught.ensures.open.0 in
    let was = c.in-Caught.ensures.open.1 in
    c.hand_on.ensures.budget ∙ ap (λ (w : Value Contents). w.0.pivots) c.cut.ensures.now ∙ c.begin_caught.ensures.budget ∙ same_budget c.args.world.now.first c.args.world.now.second.saved c.args.choices.now start (Caught c.in-Caught.ball c.in-Caught.catcher c.in-Caught.recovery c.in-Caught.rest) older was
