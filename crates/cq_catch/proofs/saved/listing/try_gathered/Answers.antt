use Rattle.std.proofs.Common.{◌≡◌, List, length, sym, ap, ◌∙◌, subst}
use Rattle.std.specs.Prelude.{All, Err}
use Rattle.std.specs.List.{zip}
use Rattle.spec_branch.specs.Branch.{State, Pending}
use Rattle.cq_branch.specs.Begun.{Prunes}
use Rattle.cq_control.specs.Open.{open_choices}
use Rattle.cq_settle.specs.Settled.{MayRefuse, MayTake}
use Rattle.cq_resolve.specs.StoredValue.{StoredValue}
use Rattle.cq_settle.specs.Contents.{Contents}
use Rattle.spec_engine.specs.Cells.{Value}
use Rattle.cq_branch.specs.Stored.{IsCountedTerm}
use Rattle.cq_branch.specs.Worlds.{value, saved_values}
use Rattle.cq_branch.specs.declared.alternatives.Alternatives.TheVariants.{Gathers}
use Rattle.cq_branch.proofs.Budgets.{same_budget}
use Rattle.cq_choices.specs.Held.{Held, held}
use Rattle.cq_choices.proofs.Ending.{comes_same, over_same}
use Rattle.cq_catch.specs.Listing.{ListGoes, OfList}
use Rattle.cq_catch.proofs.Gathering.{counted_there, branch_there, third_there, rest_there, goes_on, comes_back, stays_left, query_stops}
use Rattle.cq_catch.proofs.SavedNewest.{taken_off, put_back, marked_still}
use Rattle.cq_catch.proofs.saved.listing.try_gathered.Goals as goal

pub begin_list-requires-clause-branch : goal.begin_list-requires-clause-branch
begin_list-requires-clause-branch c =
    let old = held c.args.atoms.now c.args.world.now.first c.args.world.now.second c.args.choices.now in
    let start = value c.retry.new.world.first c.retry.new.world.second.now in
    let older = c.in-Gathers.ensures.open.0 in
    let was = c.in-Gathers.ensures.open.1 in
    branch_there old start c.in-Gathers.third c.in-Gathers.gathered c.in-Gathers.rest older was c.requires.works

pub begin_list-requires-clause-third : goal.begin_list-requires-clause-third
begin_list-requires-clause-third c =
    let old = held c.args.atoms.now c.args.world.now.first c.args.world.now.second c.args.choices.now in
    let start = value c.retry.new.world.first c.retry.new.world.second.now in
    let older = c.in-Gathers.ensures.open.0 in
    let was = c.in-Gathers.ensures.open.1 in
    third_there old start c.in-Gathers.third c.in-Gathers.gathered c.in-Gathers.rest older was c.requires.works

pub begin_list-requires-clause-copies : goal.begin_list-requires-clause-copies
begin_list-requires-clause-copies c =
    let old = held c.args.atoms.now c.args.world.now.first c.args.world.now.second c.args.choices.now in
    let start = value c.retry.new.world.first c.retry.new.world.second.now in
    let older = c.in-Gathers.ensures.open.0 in
    let was = c.in-Gathers.ensures.open.1 in
    subst (λ (cs : List StoredValue). All (IsCountedTerm (length c.args.atoms.now)) cs) (sym c.copies.ensures) (counted_there old start c.in-Gathers.third c.in-Gathers.gathered c.in-Gathers.rest older was c.requires.works)

pub begin_list-requires-clause-rest : goal.begin_list-requires-clause-rest
begin_list-requires-clause-rest c =
    let old = held c.args.atoms.now c.args.world.now.first c.args.world.now.second c.args.choices.now in
    let start = value c.retry.new.world.first c.retry.new.world.second.now in
    let older = c.in-Gathers.ensures.open.0 in
    let was = c.in-Gathers.ensures.open.1 in
    rest_there old start c.in-Gathers.third c.in-Gathers.gathered c.in-Gathers.rest older was c.requires.works

pub cut-requires : goal.cut-requires
cut-requires c =
    let old = held c.args.atoms.now c.args.world.now.first c.args.world.now.second c.args.choices.now in
    let start = value c.retry.new.world.first c.retry.new.world.second.now in
    let older = c.in-Gathers.ensures.open.0 in
    let was = c.in-Gathers.ensures.open.1 in
    let more = c.begin_list.new.atoms in
    let longer = c.begin_list.ensures.longer in
    let known = c.names_are_of_terms.ensures.choices in
    let then_ = value c.begin_list.new.world c.begin_list.new.lists.now in
    let saved = saved_values c.begin_list.new.world c.begin_list.new.lists.saved in
    let same : saved ≡ saved_values c.retry.new.world.first c.retry.new.world.second.saved = λ i. zip (c.begin_list.ensures.saved i) (c.begin_list.ensures.lists i) in
    let opened = ap (λ (xs : List (Value Contents)). open_choices xs c.retry.new.self) same ∙ c.in-Gathers.ensures.open.2 in
    let marked = marked_still (saved_values c.retry.new.world.first c.retry.new.world.second.saved) saved c.retry.new.self same c.retry.ensures.marked in
    let content = Gathers c.in-Gathers.third c.in-Gathers.gathered c.in-Gathers.rest in
    record { marked = marked }

pub returns-in-Goes-clause-comes : goal.returns-in-Goes-clause-comes
returns-in-Goes-clause-comes c =
    let old = held c.args.atoms.now c.args.world.now.first c.args.world.now.second c.args.choices.now in
    let start = value c.retry.new.world.first c.retry.new.world.second.now in
    let older = c.in-Gathers.ensures.open.0 in
    let was = c.in-Gathers.ensures.open.1 in
    let more = c.begin_list.new.atoms in
    let longer = c.begin_list.ensures.longer in
    let known = c.names_are_of_terms.ensures.choices in
    let then_ = value c.begin_list.new.world c.begin_list.new.lists.now in
    let saved = saved_values c.begin_list.new.world c.begin_list.new.lists.saved in
    let same : saved ≡ saved_values c.retry.new.world.first c.retry.new.world.second.saved = λ i. zip (c.begin_list.ensures.saved i) (c.begin_list.ensures.lists i) in
    let opened = ap (λ (xs : List (Value Contents)). open_choices xs c.retry.new.self) same ∙ c.in-Gathers.ensures.open.2 in
    let marked = marked_still (saved_values c.retry.new.world.first c.retry.new.world.second.saved) saved c.retry.new.self same c.retry.ensures.marked in
    let content = Gathers c.in-Gathers.third c.in-Gathers.gathered c.in-Gathers.rest in
    let end = held more c.cut.new.world.first c.cut.new.world.second c.cut.new.self in
    let left = taken_off c.retry.new.self content c.in-Gathers.ensures.contents.0 start older c.in-Gathers.ensures.contents.2 saved opened c.height-newest.result end.saved end.choices c.height-newest.ensures marked c.cut.ensures.open in
    let goes : ListGoes more start end.now c.in-Gathers.third c.in-Gathers.gathered c.in-Gathers.rest c.in-Goes.first =
    subst (λ (x : Value Contents). ListGoes more start x c.in-Gathers.third c.in-Gathers.gathered c.in-Gathers.rest c.in-Goes.first) (sym c.cut.ensures.now)
    (subst (λ (cs : List StoredValue). ListGoes more start then_ c.in-Gathers.third cs c.in-Gathers.rest c.in-Goes.first) c.copies.ensures (rw c.in-Goes.is at c.in-Ok.ensures.goes)) in
    goes_on old start c.in-Gathers.third c.in-Gathers.gathered c.in-Gathers.rest older was known more longer end.saved end.choices end.now c.in-Goes.first left goes

pub returns-in-Goes-clause-over : goal.returns-in-Goes-clause-over
returns-in-Goes-clause-over c =
    let old = held c.args.atoms.now c.args.world.now.first c.args.world.now.second c.args.choices.now in
    let start = value c.retry.new.world.first c.retry.new.world.second.now in
    let older = c.in-Gathers.ensures.open.0 in
    let was = c.in-Gathers.ensures.open.1 in
    let more = c.begin_list.new.atoms in
    let longer = c.begin_list.ensures.longer in
    let known = c.names_are_of_terms.ensures.choices in
    let then_ = value c.begin_list.new.world c.begin_list.new.lists.now in
    let saved = saved_values c.begin_list.new.world c.begin_list.new.lists.saved in
    let same : saved ≡ saved_values c.retry.new.world.first c.retry.new.world.second.saved = λ i. zip (c.begin_list.ensures.saved i) (c.begin_list.ensures.lists i) in
    let opened = ap (λ (xs : List (Value Contents)). open_choices xs c.retry.new.self) same ∙ c.in-Gathers.ensures.open.2 in
    let marked = marked_still (saved_values c.retry.new.world.first c.retry.new.world.second.saved) saved c.retry.new.self same c.retry.ensures.marked in
    let content = Gathers c.in-Gathers.third c.in-Gathers.gathered c.in-Gathers.rest in
    let end = held more c.cut.new.world.first c.cut.new.world.second c.cut.new.self in
    let left = taken_off c.retry.new.self content c.in-Gathers.ensures.contents.0 start older c.in-Gathers.ensures.contents.2 saved opened c.height-newest.result end.saved end.choices c.height-newest.ensures marked c.cut.ensures.open in
    stays_left old start c.in-Gathers.third c.in-Gathers.gathered c.in-Gathers.rest older was known more longer end.saved end.choices end.now left

pub returns-in-Ok-clause-comes : goal.returns-in-Ok-clause-comes
returns-in-Ok-clause-comes c =
    let old = held c.args.atoms.now c.args.world.now.first c.args.world.now.second c.args.choices.now in
    let start = value c.retry.new.world.first c.retry.new.world.second.now in
    let older = c.in-Gathers.ensures.open.0 in
    let was = c.in-Gathers.ensures.open.1 in
    let more = c.begin_list.new.atoms in
    let longer = c.begin_list.ensures.longer in
    let known = c.names_are_of_terms.ensures.choices in
    let then_ = value c.begin_list.new.world c.begin_list.new.lists.now in
    let saved = saved_values c.begin_list.new.world c.begin_list.new.lists.saved in
    let same : saved ≡ saved_values c.retry.new.world.first c.retry.new.world.second.saved = λ i. zip (c.begin_list.ensures.saved i) (c.begin_list.ensures.lists i) in
    let opened = ap (λ (xs : List (Value Contents)). open_choices xs c.retry.new.self) same ∙ c.in-Gathers.ensures.open.2 in
    let marked = marked_still (saved_values c.retry.new.world.first c.retry.new.world.second.saved) saved c.retry.new.self same c.retry.ensures.marked in
    let content = Gathers c.in-Gathers.third c.in-Gathers.gathered c.in-Gathers.rest in
    let end = held more c.cut.new.world.first c.cut.new.world.second c.cut.new.self in
    let left = taken_off c.retry.new.self content c.in-Gathers.ensures.contents.0 start older c.in-Gathers.ensures.contents.2 saved opened c.height-newest.result end.saved end.choices c.height-newest.ensures marked c.cut.ensures.open in
    let prunes : OfList more start.0 c.in-Gathers.third c.in-Gathers.gathered Prunes =
    subst (λ (cs : List StoredValue). OfList more start.0 c.in-Gathers.third cs Prunes) c.copies.ensures (rw c.in-Pruned.is at c.in-Ok.ensures.pruned) in
    comes_back old start c.in-Gathers.third c.in-Gathers.gathered c.in-Gathers.rest older was known more longer end.saved end.choices end.now left prunes

pub returns-in-Ok-clause-over : goal.returns-in-Ok-clause-over
returns-in-Ok-clause-over c =
    let old = held c.args.atoms.now c.args.world.now.first c.args.world.now.second c.args.choices.now in
    let start = value c.retry.new.world.first c.retry.new.world.second.now in
    let older = c.in-Gathers.ensures.open.0 in
    let was = c.in-Gathers.ensures.open.1 in
    let more = c.begin_list.new.atoms in
    let longer = c.begin_list.ensures.longer in
    let known = c.names_are_of_terms.ensures.choices in
    let then_ = value c.begin_list.new.world c.begin_list.new.lists.now in
    let saved = saved_values c.begin_list.new.world c.begin_list.new.lists.saved in
    let same : saved ≡ saved_values c.retry.new.world.first c.retry.new.world.second.saved = λ i. zip (c.begin_list.ensures.saved i) (c.begin_list.ensures.lists i) in
    let opened = ap (λ (xs : List (Value Contents)). open_choices xs c.retry.new.self) same ∙ c.in-Gathers.ensures.open.2 in
    let marked = marked_still (saved_values c.retry.new.world.first c.retry.new.world.second.saved) saved c.retry.new.self same c.retry.ensures.marked in
    let content = Gathers c.in-Gathers.third c.in-Gathers.gathered c.in-Gathers.rest in
    let end = held more c.cut.new.world.first c.cut.new.world.second c.cut.new.self in
    let left = taken_off c.retry.new.self content c.in-Gathers.ensures.contents.0 start older c.in-Gathers.ensures.contents.2 saved opened c.height-newest.result end.saved end.choices c.height-newest.ensures marked c.cut.ensures.open in
    stays_left old start c.in-Gathers.third c.in-Gathers.gathered c.in-Gathers.rest older was known more longer end.saved end.choices end.now left

pub returns-clause-err : goal.returns-clause-err
returns-clause-err c =
    let old = held c.args.atoms.now c.args.world.now.first c.args.world.now.second c.args.choices.now in
    let start = value c.retry.new.world.first c.retry.new.world.second.now in
    let older = c.in-Gathers.ensures.open.0 in
    let was = c.in-Gathers.ensures.open.1 in
    let more = c.begin_list.new.atoms in
    let longer = c.begin_list.ensures.longer in
    let known = c.names_are_of_terms.ensures.choices in
    let then_ = value c.begin_list.new.world c.begin_list.new.lists.now in
    let saved = saved_values c.begin_list.new.world c.begin_list.new.lists.saved in
    let same : saved ≡ saved_values c.retry.new.world.first c.retry.new.world.second.saved = λ i. zip (c.begin_list.ensures.saved i) (c.begin_list.ensures.lists i) in
    let opened = ap (λ (xs : List (Value Contents)). open_choices xs c.retry.new.self) same ∙ c.in-Gathers.ensures.open.2 in
    let marked = marked_still (saved_values c.retry.new.world.first c.retry.new.world.second.saved) saved c.retry.new.self same c.retry.ensures.marked in
    let content = Gathers c.in-Gathers.third c.in-Gathers.gathered c.in-Gathers.rest in
    let failed : Held = record { texts = more; saved = saved; choices = c.replace_at.new.self; now = then_ } in
    let again = put_back c.retry.new.self content c.in-Gathers.ensures.contents.0 start older c.in-Gathers.ensures.contents.2 saved opened c.height-newest-in-Err.result c.replace_at.ensures.0 c.replace_at.new.self c.replace_at.result c.height-newest-in-Err.ensures c.replace_at.ensures.1
    c.replace_at.ensures.2 ∙ sym was in
    comes_same old failed known longer again

pub returns-clause-stops : goal.returns-clause-stops
returns-clause-stops c =
    let old = held c.args.atoms.now c.args.world.now.first c.args.world.now.second c.args.choices.now in
    let start = value c.retry.new.world.first c.retry.new.world.second.now in
    let older = c.in-Gathers.ensures.open.0 in
    let was = c.in-Gathers.ensures.open.1 in
    let more = c.begin_list.new.atoms in
    let longer = c.begin_list.ensures.longer in
    let known = c.names_are_of_terms.ensures.choices in
    let then_ = value c.begin_list.new.world c.begin_list.new.lists.now in
    let saved = saved_values c.begin_list.new.world c.begin_list.new.lists.saved in
    let same : saved ≡ saved_values c.retry.new.world.first c.retry.new.world.second.saved = λ i. zip (c.begin_list.ensures.saved i) (c.begin_list.ensures.lists i) in
    let opened = ap (λ (xs : List (Value Contents)). open_choices xs c.retry.new.self) same ∙ c.in-Gathers.ensures.open.2 in
    let marked = marked_still (saved_values c.retry.new.world.first c.retry.new.world.second.saved) saved c.retry.new.self same c.retry.ensures.marked in
    let content = Gathers c.in-Gathers.third c.in-Gathers.gathered c.in-Gathers.rest in
    let budget = same_budget c.args.world.now.first c.args.world.now.second.saved c.args.choices.now start content older was in
    query_stops old start c.in-Gathers.third c.in-Gathers.gathered c.in-Gathers.rest older was known more longer c.args.world.now.first.store.pivots c.in-Err.fault
    (λ pair e. subst (λ (cs : List StoredValue). OfList more start.0 c.in-Gathers.third cs (λ (st : State) (p : Pending). MayRefuse st p pair)) c.copies.ensures
    (c.begin_list.ensures.overflow pair (c.in-Err.is ∙ ap Err e)))
    (λ n e. let due = c.begin_list.ensures.pivots n (c.in-Err.is ∙ ap Err e) in
    (due.0 ∙ budget, subst (λ (cs : List StoredValue). OfList more start.0 c.in-Gathers.third cs (λ (st : State) (p : Pending). MayTake st p n)) c.copies.ensures due.1))

pub returns-clause-over : goal.returns-clause-over
returns-clause-over c =
    let old = held c.args.atoms.now c.args.world.now.first c.args.world.now.second c.args.choices.now in
    let start = value c.retry.new.world.first c.retry.new.world.second.now in
    let older = c.in-Gathers.ensures.open.0 in
    let was = c.in-Gathers.ensures.open.1 in
    let more = c.begin_list.new.atoms in
    let longer = c.begin_list.ensures.longer in
    let known = c.names_are_of_terms.ensures.choices in
    let then_ = value c.begin_list.new.world c.begin_list.new.lists.now in
    let saved = saved_values c.begin_list.new.world c.begin_list.new.lists.saved in
    let same : saved ≡ saved_values c.retry.new.world.first c.retry.new.world.second.saved = λ i. zip (c.begin_list.ensures.saved i) (c.begin_list.ensures.lists i) in
    let opened = ap (λ (xs : List (Value Contents)). open_choices xs c.retry.new.self) same ∙ c.in-Gathers.ensures.open.2 in
    let marked = marked_still (saved_values c.retry.new.world.first c.retry.new.world.second.saved) saved c.retry.new.self same c.retry.ensures.marked in
    let content = Gathers c.in-Gathers.third c.in-Gathers.gathered c.in-Gathers.rest in
    let failed : Held = record { texts = more; saved = saved; choices = c.replace_at.new.self; now = then_ } in
    let again = put_back c.retry.new.self content c.in-Gathers.ensures.contents.0 start older c.in-Gathers.ensures.contents.2 saved opened c.height-newest-in-Err.result c.replace_at.ensures.0 c.replace_at.new.self c.replace_at.result c.height-newest-in-Err.ensures c.replace_at.ensures.1
    c.replace_at.ensures.2 ∙ sym was in
    λ v o. over_same old failed v o longer again

pub returns-clause-budget : goal.returns-clause-budget
returns-clause-budget c =
    let old = held c.args.atoms.now c.args.world.now.first c.args.world.now.second c.args.choices.now in
    let start = value c.retry.new.world.first c.retry.new.world.second.now in
    let older = c.in-Gathers.ensures.open.0 in
    let was = c.in-Gathers.ensures.open.1 in
    c.begin_list.ensures.budget ∙ same_budget c.args.world.now.first c.args.world.now.second.saved c.args.choices.now start (Gathers c.in-Gathers.third c.in-Gathers.gathered c.in-Gathers.rest) older was

pub returns-in-Goes-clause-budget : goal.returns-in-Goes-clause-budget
returns-in-Goes-clause-budget c =
    let old = held c.args.atoms.now c.args.world.now.first c.args.world.now.second c.args.choices.now in
    let start = value c.retry.new.world.first c.retry.new.world.second.now in
    let older = c.in-Gathers.ensures.open.0 in
    let was = c.in-Gathers.ensures.open.1 in
    ap (λ (w : Value Contents). w.0.pivots) c.cut.ensures.now ∙ c.begin_list.ensures.budget ∙ same_budget c.args.world.now.first c.args.world.now.second.saved c.args.choices.now start (Gathers c.in-Gathers.third c.in-Gathers.gathered c.in-Gathers.rest) older was

pub returns-in-Ok-clause-budget : goal.returns-in-Ok-clause-budget
returns-in-Ok-clause-budget c =
    let old = held c.args.atoms.now c.args.world.now.first c.args.world.now.second c.args.choices.now in
    let start = value c.retry.new.world.first c.retry.new.world.second.now in
    let older = c.in-Gathers.ensures.open.0 in
    let was = c.in-Gathers.ensures.open.1 in
    ap (λ (w : Value Contents). w.0.pivots) c.cut.ensures.now ∙ c.begin_list.ensures.budget ∙ same_budget c.args.world.now.first c.args.world.now.second.saved c.args.choices.now start (Gathers c.in-Gathers.third c.in-Gathers.gathered c.in-Gathers.rest) older was
