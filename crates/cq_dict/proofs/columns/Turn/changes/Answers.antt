use Rattle.std.proofs.Common.{◌≡◌, ◌∙◌, ◌+◌, ◌++◌, [], ◌∷◌, length, take, Option, arith, ap, sym, subst}
use Rattle.std.proofs.Math.Seq.{take-length}
use Rattle.std.proofs.lemmas.List.Elements.{Contains-get_or}
use Rattle.std.specs.Prelude.{unwrap_or, slice_index_or}
use Rattle.cq_frac.proofs.Shifts.{over_anywhere}
use Rattle.cq_dict.specs.declared.table.Role.{Role}
use Rattle.cq_dict.specs.Roles.{IsAt, is_live, is_dropped}
use Rattle.cq_dict.specs.Changes.{Covers, Turned}
use Rattle.cq_dict.proofs.Others.{these_all, others_turned}
use Rattle.cq_dict.proofs.Roles.{at_index}
use Rattle.cq_dict.proofs.Keeping.{turned_hold}
use Rattle.cq_dict.proofs.Turned.{lacks_other, turns}
use Rattle.cq_dict.proofs.Written.{CoversThese, these_start, these_more, these_kept, take_one, covers_within}
use Rattle.cq_dict.proofs.columns.Turn.changes.Goals as goal
use Rattle.cq_dict.proofs.columns.Turn.changes.Goals.{in-Some+in_ok-push, in_default, After-loop-row}

pub loop-row-init : goal.loop-row-init
loop-row-init c = these_start (Turned c.args.self c.args.column) c.args.roles.now _ c.new-changes.ensures.items

pub prove-unreachable-requires : goal.prove-unreachable-requires
prove-unreachable-requires c =
    let l = c.requires.rows.within _ (Contains-get_or c.args.rows.now c.loop-row.row-index 0 c.loop-row-test.true) in
    omega (arith, l, c.if-prove.true)

pub next-requires-clause-row : goal.next-requires-clause-row
next-requires-clause-row c = λ o e.
    let n = slice_index_or c.args.rows.now c.loop-row.row-index 0 in
    let a = at_index c.args.roles.now n c.index-roles-i.result (c.requires.rows.within n (Contains-get_or c.args.rows.now c.loop-row.row-index 0 c.loop-row-test.true)) c.index-roles-i.is in
    over_anywhere (is_live c.args.roles.now) (is_dropped c.args.roles.now) o (c.requires.table.rows n o (subst (IsAt c.args.roles.now n) e a))

pub next-requires-clause-new : goal.next-requires-clause-new
next-requires-clause-new c = λ o e.
    let n = slice_index_or c.args.rows.now c.loop-row.row-index 0 in
    let a = at_index c.args.roles.now n c.index-roles-i.result (c.requires.rows.within n (Contains-get_or c.args.rows.now c.loop-row.row-index 0 c.loop-row-test.true)) c.index-roles-i.is in
    lacks_other c.args.self c.args.roles.now c.args.column o c.requires.column (c.requires.table.rows n o (subst (IsAt c.args.roles.now n) e a))

pub loop-row-preserved : goal.loop-row-preserved
loop-row-preserved c =
    let s = c.index-roles-i.result in
    let R = Turned c.args.self c.args.column in
    let n = slice_index_or c.args.rows.now c.loop-row.row-index 0 in
    let at = at_index c.args.roles.now n s (c.requires.rows.within n (Contains-get_or c.args.rows.now c.loop-row.row-index 0 c.loop-row-test.true)) c.index-roles-i.is in
    let front = take c.loop-row.row-index c.args.rows.now in
    let next : take (c.loop-row.row-index + 1) c.args.rows.now ≡ front ++ n ∷ [] = take_one c.args.rows.now c.loop-row.row-index 0 c.loop-row-test.true in
    let step : R n s (unwrap_or c.in_ok-next.next s) = c.in_ok-next.ensures in
    elim c.match-next.branch [
      | in-Some+in_ok-push w ↦
          subst (λ z. CoversThese R c.args.roles.now z c.match-next.changes.items) (sym next)
          (these_more R c.args.roles.now front n c.loop-row.changes.items s c.loop-row.invariant at w.in-Some.role c.match-next.changes.items
          (subst (λ z. R n s z) (ap (λ (o : Option Role). unwrap_or o s) w.in-Some.is) step) (ap (λ v. v.items) w.changes-is ∙ w.in_ok-push.ensures.items))
      | in_default w ↦
          subst (λ z. CoversThese R c.args.roles.now z c.match-next.changes.items) (sym next)
          (subst (CoversThese R c.args.roles.now (front ++ n ∷ [])) (sym (ap (λ v. v.items) w.changes-is))
          (these_kept R c.args.roles.now front n c.loop-row.changes.items s c.loop-row.invariant at
          (subst (λ z. R n s z) (ap (λ (o : Option Role). unwrap_or o s) w.in_default.is) step)))
    ]

all : (c : After-loop-row) → Covers (Turned c.args.self c.args.column) c.args.roles.now (length c.args.roles.now) c.loop-row.changes.items
all c =
    let R = Turned c.args.self c.args.column in
    let e : c.loop-row.row-index ≡ length c.args.rows.now = omega (arith, c.loop-row.auto.row-index-end, c.loop-row-test.false) in
    these_all R c.args.roles.now c.args.rows.now c.loop-row.changes.items
    (subst (λ z. CoversThese R c.args.roles.now z c.loop-row.changes.items) (ap (λ k. take k c.args.rows.now) e ∙ take-length c.args.rows.now) c.loop-row.invariant)
    (λ j s a out. others_turned c.args.roles.now c.args.column c.args.rows.now c.requires.rows j out c.args.self s a)

pub returns-clause-within : goal.returns-clause-within
returns-clause-within c =
    let k = goal.at.returns-clause-within c in
    covers_within (Turned c.args.self c.args.column) c.args.roles.now (length c.args.roles.now) c.loop-row.changes.items (all k.After-loop-row)

pub returns-clause-turns : goal.returns-clause-turns
returns-clause-turns c =
    let k = goal.at.returns-clause-turns c in
    turns c.args.self c.args.roles.now c.args.column c.requires.table c.loop-row.changes.items c.requires.column (all k.After-loop-row)

pub returns-clause-held : goal.returns-clause-held
returns-clause-held c =
    let k = goal.at.returns-clause-held c in
    turned_hold c.args.self c.args.roles.now c.args.column c.requires.table c.loop-row.changes.items (all k.After-loop-row)
