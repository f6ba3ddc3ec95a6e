use Rattle.std.proofs.Common.{◌≡◌, List, Bool, Err, ap, sym, subst}
use Rattle.cq_simplex.specs.declared.Aim.TheVariants as aim_of
use Rattle.cq_simplex.specs.Answers.{IsAnswer, RisesWithoutEnd}
use Rattle.cq_simplex.specs.Climbs.{IsSpentAfter}
use Rattle.cq_tableau.proofs.Passed.{search_passed, search_spent}
use Rattle.cq_tableau.proofs.Restores.{restored_feasible, found_highest, raise_refuses, raise_spends, not_without_end}
use Rattle.cq_tableau.proofs.restoring.highest.Goals as goal

pub ascend-requires-clause-row : goal.ascend-requires-clause-row
ascend-requires-clause-row c = c.in_ok-restore_all.ensures.restored.rows c.args.q c.requires.row

pub ascend-requires-clause-feasible : goal.ascend-requires-clause-feasible
ascend-requires-clause-feasible c =
    restored_feasible c.args.dict.now.restricted c.args.dict.now.roles c.restore_all.new.dict.roles c.in_ok-restore_all.ensures.restored c.args.q c.requires.greatest
    c.restore_all.new.dict.restricted c.in_ok-restore_all.ensures.flags

pub members-requires : goal.members-requires
members-requires c = c.in_ok-ascend.ensures.carried.asked_row

pub returns-clause-entries : goal.returns-clause-entries
returns-clause-entries c =
    let m = c.in_ok-ascend.ensures in
    let r = c.in_ok-restore_all.ensures in
    let a = subst (IsAnswer c.restore_all.new.dict.roles c.restore_all.new.dict.restricted c.args.q aim_of.Best c.ascend.new.dict.roles) c.in-At.is m.answer in
    found_highest c.args.dict.now.restricted c.args.dict.now.roles c.restore_all.new.dict.roles r.restored r.none c.args.q
    c.restore_all.new.dict.restricted r.flags c.ascend.new.dict.roles m.carried c.in-At.field-0 c.in-At.field-1.items a.1 c.args.names.now.now c.in_ok-found-in-At.found.items
    c.in_ok-found-in-At.ensures

pub unreachable-requires : goal.unreachable-requires
unreachable-requires c =
    let a = subst (IsAnswer c.restore_all.new.dict.roles c.restore_all.new.dict.restricted c.args.q aim_of.Best c.ascend.new.dict.roles) c.in-Positive.is c.in_ok-ascend.ensures.answer in
    best_not_positive a.0
  where
    best_not_positive : aim_of.Best ≡ aim_of.Positive → ⊥
    best_not_positive e = cc

pub unreachable-requires-in-Unbounded : goal.unreachable-requires-in-Unbounded
unreachable-requires-in-Unbounded c =
    let r = c.in_ok-restore_all.ensures in
    let a = subst (IsAnswer c.restore_all.new.dict.roles c.restore_all.new.dict.restricted c.args.q aim_of.Best c.ascend.new.dict.roles) c.in-Unbounded.is c.in_ok-ascend.ensures.answer in
    not_without_end c.args.dict.now.restricted c.args.dict.now.roles c.restore_all.new.dict.roles r.restored c.args.q (r.restored.rows c.args.q c.requires.row) c.requires.greatest
    (subst (λ (f : List Bool). RisesWithoutEnd c.restore_all.new.dict.roles f c.args.q) r.flags a.0)

pub returns-in_err-ascend-clause-overflow : goal.returns-in_err-ascend-clause-overflow
returns-in_err-ascend-clause-overflow c = λ pair e.
    let f = search_passed c.from_residual-in_err-ascend.result c.in_err-ascend.field-0.0 pair c.from_residual-in_err-ascend.ensures.1 e in
    let r = c.in_ok-restore_all.ensures in
    raise_refuses c.args.dict.now.restricted c.args.dict.now.roles c.restore_all.new.dict.roles r.restored r.none c.args.q c.restore_all.new.dict.restricted r.flags
    c.ascend.new.dict.roles c.in_err-ascend.ensures.carried pair (c.in_err-ascend.ensures.overflow pair (ap Err f))

pub returns-in_err-ascend-clause-pivots : goal.returns-in_err-ascend-clause-pivots
returns-in_err-ascend-clause-pivots c = λ n e.
    let f = search_spent c.from_residual-in_err-ascend.result c.in_err-ascend.field-0.0 n c.from_residual-in_err-ascend.ensures.1 e in
    let r = c.in_ok-restore_all.ensures in
    let o = c.in_err-ascend.ensures.pivots n (ap Err f) in (
      o.0,
      raise_spends c.args.dict.now.restricted c.args.dict.now.roles c.restore_all.new.dict.roles r.restored r.none c.args.q c.restore_all.new.dict.restricted r.flags
          c.ascend.new.dict.roles c.in_err-ascend.ensures.carried n
          (subst (λ m. IsSpentAfter c.restore_all.new.dict.roles c.restore_all.new.dict.restricted c.args.q aim_of.Best m c.ascend.new.dict.roles) (sym o.0) o.1),
    )
