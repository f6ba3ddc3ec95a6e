use Rattle.std.proofs.Common.{◌≡◌, ◌∙◌, ◌+◌, ◌<◌, ℕ, length, take, arith, ap, sym, subst}
use Rattle.std.proofs.Math.Seq.{take-length}
use Rattle.cq_trail.specs.StackValue.{StackValue}
use Rattle.cq_trail.specs.TrailValue.{TrailValue}
use Rattle.cq_frac.specs.Row.{Row}
use Rattle.cq_frac.proofs.Shifts.{over_anywhere}
use Rattle.cq_dict.specs.declared.holders.Cell.{Cell}
use Rattle.cq_dict.specs.declared.table.Role.TheVariants.{Basic}
use Rattle.cq_dict.specs.Changes.{Changes}
use Rattle.cq_dict.specs.Holders.{Holds}
use Rattle.cq_dict.specs.Roles.{IsAt, is_live, is_dropped}
use Rattle.cq_dict.proofs.Entries.{HoldingChanges, changes_here, changes_start, changes_more}
use Rattle.cq_dict.proofs.Lists.{grows_same}
use Rattle.cq_dict.proofs.Roles.{at_index}
use Rattle.cq_dict.proofs.holders.hold_changes.Goals as goal
use Rattle.cq_dict.proofs.holders.hold_changes.Goals.{In-Basic, in-Basic+else-prove+in_ok-hold_row, in_default}

there : (c : In-Basic) → c.change-item.result.at < length c.args.roles.now
there c = c.requires.within c.change-item.result (changes_here c.args.changes.now c.loop-change.change-index c.change-item.result c.loop-change-test.true c.change-item.is)

pub loop-change-init : goal.loop-change-init
loop-change-init c = changes_start c.args.heads.now c.args.cells.now

pub prove-unreachable-requires : goal.prove-unreachable-requires
prove-unreachable-requires c =
    let k = goal.at.prove-unreachable-requires c in
    let l = there k.In-Basic in
    omega (arith, l, c.if-prove.true)

pub hold_row-requires-clause-role : goal.hold_row-requires-clause-role
hold_row-requires-clause-role c = λ own e.
    let k = goal.at.hold_row-requires-clause-role c in
    let a = at_index c.args.roles.now c.change-item.result.at c.index-roles-change.result (there k.In-Basic) c.index-roles-change.is in
    over_anywhere (is_live c.args.roles.now) (is_dropped c.args.roles.now) own (c.requires.table.rows c.change-item.result.at own (subst (IsAt c.args.roles.now c.change-item.result.at) e a))

pub hold_row-requires-clause-before : goal.hold_row-requires-clause-before
hold_row-requires-clause-before c = λ own d e m.
    let k = goal.at.hold_row-requires-clause-before c in
    let a = at_index c.args.roles.now c.change-item.result.at c.index-roles-change.result (there k.In-Basic) c.index-roles-change.is in
    c.loop-change.invariant.grows.still d c.change-item.result.at (c.requires.held.all c.change-item.result.at own d (subst (IsAt c.args.roles.now c.change-item.result.at) e a) m)

pub hold_row-requires-clause-columns : goal.hold_row-requires-clause-columns
hold_row-requires-clause-columns c = λ d m.
    let b = c.requires.columns c.change-item.result c.in-Basic.row d (changes_here c.args.changes.now c.loop-change.change-index c.change-item.result c.loop-change-test.true c.change-item.is) c.in-Basic.is m in
    omega (arith, b, c.requires.held.size, c.loop-change.invariant.grows.size)

same_row : (r z : Row) → Basic r ≡ Basic z → r ≡ z
same_row r z e = cc

pub loop-change-preserved : goal.loop-change-preserved
loop-change-preserved c =
    let h = c.args.heads.now in
    let x = c.args.cells.now in
    let front = take (c.loop-change.change-index + 1) c.args.changes.now in
    let d = c.change-item.result in
    elim c.match-change.branch [
      | in-Basic+else-prove+in_ok-hold_row w ↦
          subst (λ (z : TrailValue ℕ). HoldingChanges h x front z c.match-change.cells) (sym w.heads-is)
          (subst (λ (z : StackValue Cell). HoldingChanges h x front w.hold_row.new.heads z) (sym w.cells-is)
          (changes_more h c.loop-change.heads w.hold_row.new.heads x c.loop-change.cells w.hold_row.new.cells c.args.changes.now c.loop-change.change-index d c.loop-change-test.true c.change-item.is c.loop-change.invariant w.hold_row.ensures.grows
          (λ own e f m. w.in_ok-hold_row.ensures.listed e (subst (λ (z : Row). Holds z e) (same_row own w.in-Basic.row (sym f ∙ w.in-Basic.is)) m))))
      | in_default w ↦
          subst (λ (z : TrailValue ℕ). HoldingChanges h x front z c.match-change.cells) (sym w.heads-is)
          (subst (λ (z : StackValue Cell). HoldingChanges h x front c.loop-change.heads z) (sym w.cells-is)
          (changes_more h c.loop-change.heads c.loop-change.heads x c.loop-change.cells c.loop-change.cells c.args.changes.now c.loop-change.change-index d c.loop-change-test.true c.change-item.is c.loop-change.invariant (grows_same c.loop-change.heads c.loop-change.cells)
          (λ own e f m. absurd (w.in_default.not-Basic own f))))
    ]

pub returns-clause-listed : goal.returns-clause-listed
returns-clause-listed c = λ d own k m e h.
    let n : c.loop-change.change-index ≡ length c.args.changes.now = omega (arith, c.loop-change.auto.change-index-end, c.loop-change-test.false) in
    c.loop-change.invariant.listed d own k (subst (Changes d) (sym (ap (λ i. take i c.args.changes.now) n ∙ take-length c.args.changes.now)) m) e h
