use Rattle.std.proofs.Common.{◌≡◌, ◌∙◌, ◌+◌, ◌++◌, [], ◌∷◌, length, take, Option, Err, arith, ap, ap₂, sym, subst}
use Rattle.std.proofs.Math.Seq.{take-length}
use Rattle.std.proofs.lemmas.List.Elements.{Contains-get_or}
use Rattle.std.specs.Prelude.{unwrap_or, slice_index_or}
use Rattle.cq_frac.proofs.Exits.{refusal_told}
use Rattle.cq_dict.specs.declared.table.Role.{Role}
use Rattle.cq_dict.specs.declared.table.Role.TheVariants.{Basic}
use Rattle.cq_dict.specs.Roles.{IsAt}
use Rattle.cq_dict.specs.Changes.{Moved}
use Rattle.cq_dict.proofs.Exchanged.{when_leaving, when_entering, when_row, when_kept, solved_over, solved_own, solved_apart, solved_rate, solved_lacks, other_over, other_lacks, solved_shift}
use Rattle.cq_dict.proofs.Roles.{at_index}
use Rattle.cq_dict.proofs.Others.{these_all, others_moved}
use Rattle.cq_dict.proofs.Written.{CoversThese, these_start, these_more, these_kept, take_one}
use Rattle.cq_dict.proofs.exchange.all_moved.Goals as goal
use Rattle.cq_dict.proofs.exchange.all_moved.Goals.{In-Basic, then-i-leaving, else-i-leaving+then-i-column+in_ok-entering, else-i-leaving+else-i-column+in-Basic+in_ok-next, else-i-leaving+else-i-column+in_default, in-Some+in_ok-push, in_default-next}

other_at : (c : In-Basic) → IsAt c.args.roles.now (slice_index_or c.args.rows.now c.loop-row.row-index 0) (Basic c.in-Basic.other)
other_at c =
    let l = c.requires.rows.within _ (Contains-get_or c.args.rows.now c.loop-row.row-index 0 c.loop-row-test.true) in
    subst (IsAt c.args.roles.now (slice_index_or c.args.rows.now c.loop-row.row-index 0)) c.in-Basic.is (at_index c.args.roles.now _ c.index-roles-i.result l c.index-roles-i.is)

pub prove-unreachable-requires : goal.prove-unreachable-requires
prove-unreachable-requires c =
    let l = c.requires.rows.within _ (Contains-get_or c.args.rows.now c.loop-row.row-index 0 c.loop-row-test.true) in
    omega (arith, l, c.if-prove.true)

pub loop-row-init : goal.loop-row-init
loop-row-init c = these_start (Moved c.args.leaving c.args.column c.args.q.now c.args.rate) c.args.roles.now _ c.new-changes.ensures.items

pub entered-requires-clause-own : goal.entered-requires-clause-own
entered-requires-clause-own c = solved_over c.args.roles.now c.args.leaving c.args.column c.args.q.now c.args.rate c.requires.table c.requires.solved

pub entered-requires-clause-new : goal.entered-requires-clause-new
entered-requires-clause-new c = solved_lacks c.args.roles.now c.args.leaving c.args.column c.args.q.now c.args.rate c.requires.table c.requires.solved

pub entered-requires-clause-nonzero : goal.entered-requires-clause-nonzero
entered-requires-clause-nonzero c = solved_rate c.args.roles.now c.args.leaving c.args.column c.args.q.now c.args.rate c.requires.table c.requires.solved

pub moved-requires-clause-other_row : goal.moved-requires-clause-other_row
moved-requires-clause-other_row c = other_over c.args.roles.now c.args.leaving c.args.column c.args.q.now c.args.rate c.requires.table c.requires.solved (slice_index_or c.args.rows.now c.loop-row.row-index 0) c.in-Basic.other (other_at c)

pub moved-requires-clause-q_row : goal.moved-requires-clause-q_row
moved-requires-clause-q_row c = solved_over c.args.roles.now c.args.leaving c.args.column c.args.q.now c.args.rate c.requires.table c.requires.solved

pub moved-requires-clause-own : goal.moved-requires-clause-own
moved-requires-clause-own c = solved_own c.args.roles.now c.args.leaving c.args.column c.args.q.now c.args.rate c.requires.table c.requires.solved

pub moved-requires-clause-new : goal.moved-requires-clause-new
moved-requires-clause-new c = (
  other_lacks c.args.roles.now c.args.leaving c.args.column c.args.q.now c.args.rate c.requires.table c.requires.solved (slice_index_or c.args.rows.now c.loop-row.row-index 0) c.in-Basic.other (other_at c),
  solved_lacks c.args.roles.now c.args.leaving c.args.column c.args.q.now c.args.rate c.requires.table c.requires.solved,
)

pub moved-requires-clause-apart : goal.moved-requires-clause-apart
moved-requires-clause-apart c = solved_apart c.args.roles.now c.args.leaving c.args.column c.args.q.now c.args.rate c.requires.table c.requires.solved

pub moved-requires-clause-nonzero : goal.moved-requires-clause-nonzero
moved-requires-clause-nonzero c = solved_rate c.args.roles.now c.args.leaving c.args.column c.args.q.now c.args.rate c.requires.table c.requires.solved

pub returns-in_err-next-clause-overflow : goal.returns-in_err-next-clause-overflow
returns-in_err-next-clause-overflow c = λ pair e.
    solved_shift c.args.roles.now c.args.leaving c.args.column c.args.q.now c.args.rate c.requires.table c.requires.solved (slice_index_or c.args.rows.now c.loop-row.row-index 0) c.in-Basic.other pair c.if-i-leaving.false
    (other_at (goal.at.returns-in_err-next-clause-overflow c).In-Basic) (c.in_err-next.ensures.overflow pair (ap Err (refusal_told _ _ pair c.from_residual-in_err-next.ensures.1 e)))

pub loop-row-preserved : goal.loop-row-preserved
loop-row-preserved c =
    let s = c.index-roles-i.result in
    let R = Moved c.args.leaving c.args.column c.args.q.now c.args.rate in
    let n = slice_index_or c.args.rows.now c.loop-row.row-index 0 in
    let at = at_index c.args.roles.now n s (c.requires.rows.within n (Contains-get_or c.args.rows.now c.loop-row.row-index 0 c.loop-row-test.true)) c.index-roles-i.is in
    let front = take c.loop-row.row-index c.args.rows.now in
    let next : take (c.loop-row.row-index + 1) c.args.rows.now ≡ front ++ n ∷ [] = take_one c.args.rows.now c.loop-row.row-index 0 c.loop-row-test.true in
    let step : R n s (unwrap_or c.if-i-leaving.next s) =
    elim c.if-i-leaving.branch [
      | then-i-leaving w ↦ when_leaving c.args.leaving c.args.column c.args.q.now c.args.rate n s _ w.if-i-leaving.true (ap (λ (o : Option Role). unwrap_or o s) w.next-is)
      | else-i-leaving+then-i-column+in_ok-entering w ↦
          when_entering c.args.leaving c.args.column c.args.q.now c.args.rate n s _ w.if-i-leaving.false w.if-i-column.true w.in_ok-entering.entering (ap (λ (o : Option Role). unwrap_or o s) w.next-is) w.in_ok-entering.ensures
      | else-i-leaving+else-i-column+in-Basic+in_ok-next w ↦
          when_row c.args.leaving c.args.column c.args.q.now c.args.rate n s _ w.if-i-leaving.false w.if-i-column.false w.in-Basic.other w.in_ok-next.ensures.value.0 w.in-Basic.is
          (ap₂ (λ (o : Option Role) (z : Role). unwrap_or o z) w.next-is w.in-Basic.is ∙ w.in_ok-next.ensures.value.1) w.in_ok-next.ensures.value.2 w.in_ok-next.ensures.accepted
      | else-i-leaving+else-i-column+in_default w ↦
          when_kept c.args.leaving c.args.column c.args.q.now c.args.rate n s _ w.if-i-leaving.false w.if-i-column.false w.in_default.not-Basic (ap (λ (o : Option Role). unwrap_or o s) w.next-is)
    ] in
    elim c.match-next.branch [
      | in-Some+in_ok-push w ↦
          subst (λ z. CoversThese R c.args.roles.now z c.match-next.changes.items) (sym next)
          (these_more R c.args.roles.now front n c.loop-row.changes.items s c.loop-row.invariant at w.in-Some.role c.match-next.changes.items
          (subst (λ z. R n s z) (ap (λ (o : Option Role). unwrap_or o s) w.in-Some.is) step) (ap (λ v. v.items) w.changes-is ∙ w.in_ok-push.ensures.items))
      | in_default-next w ↦
          subst (λ z. CoversThese R c.args.roles.now z c.match-next.changes.items) (sym next)
          (subst (CoversThese R c.args.roles.now (front ++ n ∷ [])) (sym (ap (λ v. v.items) w.changes-is))
          (these_kept R c.args.roles.now front n c.loop-row.changes.items s c.loop-row.invariant at
          (subst (λ z. R n s z) (ap (λ (o : Option Role). unwrap_or o s) w.in_default-next.is) step)))
    ]

pub returns-clause-covers : goal.returns-clause-covers
returns-clause-covers c =
    let R = Moved c.args.leaving c.args.column c.args.q.now c.args.rate in
    let e : c.loop-row.row-index ≡ length c.args.rows.now = omega (arith, c.loop-row.auto.row-index-end, c.loop-row-test.false) in
    these_all R c.args.roles.now c.args.rows.now c.loop-row.changes.items
    (subst (λ z. CoversThese R c.args.roles.now z c.loop-row.changes.items) (ap (λ k. take k c.args.rows.now) e ∙ take-length c.args.rows.now) c.loop-row.invariant)
    (λ j s a out. others_moved c.args.roles.now c.args.column c.args.rows.now c.requires.rows j out c.args.leaving c.args.q.now c.args.rate c.requires.solved s a)
