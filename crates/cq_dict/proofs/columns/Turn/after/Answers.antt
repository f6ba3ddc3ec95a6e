use Rattle.std.proofs.Common.{◌≡◌, length, refl, sym, subst, arith}
use Rattle.cq_dict.specs.Changes.{Turned}
use Rattle.cq_dict.proofs.Turned.{turning_start, turning_next, turning_more, turning_end}
use Rattle.cq_dict.proofs.columns.Turn.after.Goals as goal

pub loop-change-init : goal.loop-change-init
loop-change-init c = turning_start c.args.self c.args.column c.args.changes.items _ c.new-turned.ensures.items

pub next-requires-clause-row : goal.next-requires-clause-row
next-requires-clause-row c = λ o e.
    c.requires.rows c.in-Some.change o (turning_next c.args.self c.args.column c.args.changes.items _ c.loop-change.turned.items c.loop-change.invariant c.in-Some.change _ c.in-Some.ensures.items) e

pub next-requires-clause-new : goal.next-requires-clause-new
next-requires-clause-new c = λ o e.
    c.requires.new c.in-Some.change o (turning_next c.args.self c.args.column c.args.changes.items _ c.loop-change.turned.items c.loop-change.invariant c.in-Some.change _ c.in-Some.ensures.items) e

pub loop-change-preserved : goal.loop-change-preserved
loop-change-preserved c =
    let t : Turned c.args.self c.args.column c.in-Some.change.at c.in-Some.change.role c.unwrap_or-role.result =
    subst (Turned c.args.self c.args.column c.in-Some.change.at c.in-Some.change.role) (sym c.unwrap_or-role.ensures) c.in_ok-next.ensures in
    turning_more c.args.self c.args.column c.args.changes.items _ c.loop-change.turned.items c.loop-change.invariant c.in-Some.change
    (record { at = c.in-Some.change.at; role = c.unwrap_or-role.result }) c.pop.new.self.items c.push.new.self.items c.in-Some.ensures.items c.in_ok-push.ensures.items refl t

pub returns : goal.returns
returns c =
    let e : length c.loop-change.changes.items ≡ 0 = omega (arith, c.in_default.ensures.cases.0, c.in_default.ensures.len) in
    turning_end c.args.self c.args.column c.args.changes.items _ c.loop-change.turned.items c.loop-change.invariant e
