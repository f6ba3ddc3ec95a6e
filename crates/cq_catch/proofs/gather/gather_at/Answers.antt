use Rattle.std.proofs.Common.{List, refl, ap}
use Rattle.std.proofs.lemmas.Result.{on_err_weaker}
use Rattle.cq_resolve.specs.StoredValue.{StoredValue}
use Rattle.cq_branch.specs.declared.alternatives.Alternatives.TheVariants.{Barrier, Gathers}
use Rattle.cq_catch.proofs.Places.{found_there, gathers_more, as_before, on_ok}
use Rattle.cq_catch.proofs.gather.gather_at.Goals as goal

pub unreachable-requires : goal.unreachable-requires
unreachable-requires c =
    c.in_default.not-Gathers _ _ _ (found_there c.args.choices.now c.args.height c.requires c.replace_at.ensures.0 c.replace_at.result c.replace_at.ensures.1)

pub returns-clause-ok : goal.returns-clause-ok
returns-clause-ok c =
    let held = Gathers c.in-Gathers.list c.in-Gathers.copies c.in-Gathers.rest in
    let holds = Gathers c.in-Gathers.list c.push-pushed.new.self c.in-Gathers.rest in
    on_ok c.push-pushed.result
    (gathers_more c.args.choices.now c.replace_at.new.self c.replace_at-2.new.self c.args.height c.in-Gathers.ensures.0 c.replace_at-2.ensures.0 held c.replace_at-2.result Barrier holds
    c.requires c.in-Gathers.ensures.1 c.in-Gathers.ensures.2 c.replace_at-2.ensures.1 c.replace_at-2.ensures.2 c.in-Gathers.list c.in-Gathers.rest c.in-Gathers.copies c.push-pushed.new.self
    c.args.copy refl refl)
    c.push-pushed.ensures.ok

pub returns-clause-err : goal.returns-clause-err
returns-clause-err c =
    let held = Gathers c.in-Gathers.list c.in-Gathers.copies c.in-Gathers.rest in
    let holds = Gathers c.in-Gathers.list c.push-pushed.new.self c.in-Gathers.rest in
    on_err_weaker c.push-pushed.result
    (λ e. as_before c.args.choices.now c.replace_at.new.self c.replace_at-2.new.self c.args.height c.in-Gathers.ensures.0 c.replace_at-2.ensures.0 held c.replace_at-2.result Barrier holds
    c.requires c.in-Gathers.ensures.1 c.in-Gathers.ensures.2 c.replace_at-2.ensures.1 c.replace_at-2.ensures.2
    (ap (λ (cs : List StoredValue). Gathers c.in-Gathers.list cs c.in-Gathers.rest) e))
    c.push-pushed.ensures.err
