use Rattle.std.proofs.Common.{◌≡◌, ◌∷◌, ◌∙◌, List, refl, sym, ap, subst, inl}
use Rattle.std.specs.Prelude.{Err}
use Rattle.std.specs.List.{zip}
use Rattle.cq_builtin.specs.Over.{equations_of}
use Rattle.cq_control.specs.Open.{open_choices}
use Rattle.cq_settle.specs.Contents.{Contents}
use Rattle.spec_engine.specs.Cells.{Value}
use Rattle.cq_branch.specs.declared.alternatives.Alternatives.TheVariants.{Barrier, Ways}
use Rattle.cq_branch.specs.Worlds.{value, saved_values}
use Rattle.cq_choices.specs.Held.{Held, held, open_of}
use Rattle.cq_choices.specs.Trying.{EquationsGo}
use Rattle.cq_choices.proofs.Begins.{goes_on, comes_back, comes_again, query_stops, over_after, over_again, can_now, live_now, fewer_left}
use Rattle.cq_choices.proofs.Calling.{left_open}
use Rattle.cq_choices.proofs.Newest.{other_newest}
use Rattle.cq_choices.proofs.trying.begin_way.Goals as goal

pub returns-in-Goes-clause-comes : goal.returns-in-Goes-clause-comes
returns-in-Goes-clause-comes c = λ before t.
    let mid = held c.args.atoms.now c.args.world.now.first c.args.world.now.second c.args.choices.now in
    let saved = saved_values c.begin_pairs.new.world c.begin_pairs.new.lists.saved in
    let then_ = value c.begin_pairs.new.world c.begin_pairs.new.lists.now in
    let same : saved ≡ mid.saved = λ i. zip (c.begin_pairs.ensures.saved i) (c.begin_pairs.ensures.lists i) in
    let marks = ap (λ (x : List (Value Contents)). open_choices x c.args.choices.now) same ∙ t.is in
    let kept = held c.args.atoms.now c.put_back.new.world.first c.put_back.new.world.second c.put_back.new.choices in
    let kept_now : kept.now ≡ then_ = λ i. (c.put_back.ensures.now i, c.put_back.ensures.lists i) in
    goes_on before mid c.args.way t c.names_are_of_terms.ensures.choices kept.saved kept.choices kept.now c.in-Goes.first
    (subst (λ (x : Value Contents). EquationsGo c.args.atoms.now mid.now x (equations_of c.args.atoms.now c.args.world.now.first.heap.now.terms c.args.way.alternative) c.args.way.rest
    c.in-Goes.first) (sym kept_now) (rw c.in-Goes.is at c.in-Ok.ensures.goes))
    (c.put_back.ensures.open t.start t.older marks)

pub returns-in-Goes-clause-over : goal.returns-in-Goes-clause-over
returns-in-Goes-clause-over c = λ before t.
    let mid = held c.args.atoms.now c.args.world.now.first c.args.world.now.second c.args.choices.now in
    let saved = saved_values c.begin_pairs.new.world c.begin_pairs.new.lists.saved in
    let then_ = value c.begin_pairs.new.world c.begin_pairs.new.lists.now in
    let same : saved ≡ mid.saved = λ i. zip (c.begin_pairs.ensures.saved i) (c.begin_pairs.ensures.lists i) in
    let marks = ap (λ (x : List (Value Contents)). open_choices x c.args.choices.now) same ∙ t.is in
    let kept = held c.args.atoms.now c.put_back.new.world.first c.put_back.new.world.second c.put_back.new.choices in
    let kept_now : kept.now ≡ then_ = λ i. (c.put_back.ensures.now i, c.put_back.ensures.lists i) in
    over_after before mid c.args.way t kept refl (c.put_back.ensures.open t.start t.older marks)

pub returns-in-Ok-clause-comes : goal.returns-in-Ok-clause-comes
returns-in-Ok-clause-comes c = λ before t.
    let mid = held c.args.atoms.now c.args.world.now.first c.args.world.now.second c.args.choices.now in
    let saved = saved_values c.begin_pairs.new.world c.begin_pairs.new.lists.saved in
    let then_ = value c.begin_pairs.new.world c.begin_pairs.new.lists.now in
    let same : saved ≡ mid.saved = λ i. zip (c.begin_pairs.ensures.saved i) (c.begin_pairs.ensures.lists i) in
    let marks = ap (λ (x : List (Value Contents)). open_choices x c.args.choices.now) same ∙ t.is in
    let pruned : Held = record { texts = c.args.atoms.now; saved = saved; choices = c.replace_newest.new.choices; now = then_ } in
    let left = other_newest saved c.args.choices.now c.replace_newest.new.choices (Ways c.args.way.others c.args.way.rest) (t.start, Barrier) t.older c.replace_newest.ensures marks in
    comes_back before mid c.args.way t c.names_are_of_terms.ensures.choices pruned.saved pruned.choices pruned.now (rw c.in-Pruned.is at c.in-Ok.ensures.pruned) left

pub returns-in-Ok-clause-over : goal.returns-in-Ok-clause-over
returns-in-Ok-clause-over c = λ before t.
    let mid = held c.args.atoms.now c.args.world.now.first c.args.world.now.second c.args.choices.now in
    let saved = saved_values c.begin_pairs.new.world c.begin_pairs.new.lists.saved in
    let then_ = value c.begin_pairs.new.world c.begin_pairs.new.lists.now in
    let same : saved ≡ mid.saved = λ i. zip (c.begin_pairs.ensures.saved i) (c.begin_pairs.ensures.lists i) in
    let marks = ap (λ (x : List (Value Contents)). open_choices x c.args.choices.now) same ∙ t.is in
    let pruned : Held = record { texts = c.args.atoms.now; saved = saved; choices = c.replace_newest.new.choices; now = then_ } in
    let left = other_newest saved c.args.choices.now c.replace_newest.new.choices (Ways c.args.way.others c.args.way.rest) (t.start, Barrier) t.older c.replace_newest.ensures marks in
    over_after before mid c.args.way t pruned refl (inl left)

pub returns-in-Ok-clause-fewer : goal.returns-in-Ok-clause-fewer
returns-in-Ok-clause-fewer c = λ before t.
    let mid = held c.args.atoms.now c.args.world.now.first c.args.world.now.second c.args.choices.now in
    let saved = saved_values c.begin_pairs.new.world c.begin_pairs.new.lists.saved in
    let then_ = value c.begin_pairs.new.world c.begin_pairs.new.lists.now in
    let same : saved ≡ mid.saved = λ i. zip (c.begin_pairs.ensures.saved i) (c.begin_pairs.ensures.lists i) in
    let marks = ap (λ (x : List (Value Contents)). open_choices x c.args.choices.now) same ∙ t.is in
    let pruned : Held = record { texts = c.args.atoms.now; saved = saved; choices = c.replace_newest.new.choices; now = then_ } in
    let left = other_newest saved c.args.choices.now c.replace_newest.new.choices (Ways c.args.way.others c.args.way.rest) (t.start, Barrier) t.older c.replace_newest.ensures marks in
    record {
      fewer = fewer_left before mid c.args.way t (open_of pruned) left;
      ways = (c.args.way.others, c.args.way.rest, c.replace_newest.ensures.1, c.replace_newest.ensures.3);
    }

pub returns-clause-comes_err : goal.returns-clause-comes_err
returns-clause-comes_err c = λ before t.
    let mid = held c.args.atoms.now c.args.world.now.first c.args.world.now.second c.args.choices.now in
    let saved = saved_values c.begin_pairs.new.world c.begin_pairs.new.lists.saved in
    let then_ = value c.begin_pairs.new.world c.begin_pairs.new.lists.now in
    let same : saved ≡ mid.saved = λ i. zip (c.begin_pairs.ensures.saved i) (c.begin_pairs.ensures.lists i) in
    let marks = ap (λ (x : List (Value Contents)). open_choices x c.args.choices.now) same ∙ t.is in
    let failed = held c.args.atoms.now c.renew.new.world.first c.renew.new.world.second c.renew.new.choices in
    let again = left_open saved failed.saved c.args.choices.now failed.choices t.start then_ (Ways c.give_back.new.self c.args.way.rest) t.older marks c.renew.ensures.open
    ∙ ap (λ (x : Contents). ((x, c.begin_pairs.new.lists.now), Ways c.give_back.new.self c.args.way.rest) ∷ t.older) c.in-Err.ensures.err in
    comes_again before mid c.args.way t c.names_are_of_terms.ensures.choices failed.saved failed.choices failed.now c.begin_pairs.new.lists.now c.begin_pairs.ensures.keeps c.give_back.new.self
    (c.give_back.ensures.first c.args.atoms.now c.args.world.now.first.heap.now.terms) again

pub returns-clause-stops : goal.returns-clause-stops
returns-clause-stops c = λ before t.
    let mid = held c.args.atoms.now c.args.world.now.first c.args.world.now.second c.args.choices.now in
    let saved = saved_values c.begin_pairs.new.world c.begin_pairs.new.lists.saved in
    let then_ = value c.begin_pairs.new.world c.begin_pairs.new.lists.now in
    let same : saved ≡ mid.saved = λ i. zip (c.begin_pairs.ensures.saved i) (c.begin_pairs.ensures.lists i) in
    let marks = ap (λ (x : List (Value Contents)). open_choices x c.args.choices.now) same ∙ t.is in
    query_stops before mid c.args.way t c.names_are_of_terms.ensures.choices c.args.world.now.first.store.pivots c.in-Err.fault (λ pair e. c.begin_pairs.ensures.overflow pair (c.in-Err.is ∙ ap Err e))
    (λ n e. c.begin_pairs.ensures.pivots n (c.in-Err.is ∙ ap Err e))

pub returns-clause-over : goal.returns-clause-over
returns-clause-over c = λ before t.
    let mid = held c.args.atoms.now c.args.world.now.first c.args.world.now.second c.args.choices.now in
    let saved = saved_values c.begin_pairs.new.world c.begin_pairs.new.lists.saved in
    let then_ = value c.begin_pairs.new.world c.begin_pairs.new.lists.now in
    let same : saved ≡ mid.saved = λ i. zip (c.begin_pairs.ensures.saved i) (c.begin_pairs.ensures.lists i) in
    let marks = ap (λ (x : List (Value Contents)). open_choices x c.args.choices.now) same ∙ t.is in
    let failed = held c.args.atoms.now c.renew.new.world.first c.renew.new.world.second c.renew.new.choices in
    let again = left_open saved failed.saved c.args.choices.now failed.choices t.start then_ (Ways c.give_back.new.self c.args.way.rest) t.older marks c.renew.ensures.open
    ∙ ap (λ (x : Contents). ((x, c.begin_pairs.new.lists.now), Ways c.give_back.new.self c.args.way.rest) ∷ t.older) c.in-Err.ensures.err in
    over_again before mid c.args.way t failed refl c.begin_pairs.new.lists.now c.give_back.new.self again
    (c.give_back.ensures.live c.args.world.now.first.heap.now.terms (live_now before mid c.args.way t) (can_now before mid c.args.way t))
