use Rattle.std.proofs.Common.{Err, ap, subst}
use Rattle.cq_tableau.specs.Looked.{IsLooked}
use Rattle.cq_tableau.proofs.Passed.{search_passed, search_spent}
use Rattle.cq_tableau.proofs.Faces.{some_speaks, holds_after, strict_falls, disequations_faced}
use Rattle.cq_tableau.proofs.face.facing.face.Goals as goal

pub look_again-requires : goal.look_again-requires
look_again-requires c =
    some_speaks c.args.q c.args.dict.now.roles c.args.dict.now.restricted c.hold_at_zero.new.dict.roles c.hold_at_zero.new.dict.restricted c.in_ok-hold_at_zero.ensures.holds c.requires.keeps

pub returns-in_err-fallen-clause-overflow : goal.returns-in_err-fallen-clause-overflow
returns-in_err-fallen-clause-overflow c = λ pair e.
    let f = search_passed c.from_residual-in_err-fallen.result c.in_err-fallen.field-0.0 pair c.from_residual-in_err-fallen.ensures.1 e in
    record {
      roles = c.hold_at_zero.new.dict.roles;
      new_flags = c.hold_at_zero.new.dict.restricted;
      holds = c.in_ok-hold_at_zero.ensures.holds;
      refuses = c.in_err-fallen.ensures.overflow pair (ap Err f);
    }

pub returns-in_err-fallen-clause-pivots : goal.returns-in_err-fallen-clause-pivots
returns-in_err-fallen-clause-pivots c = λ n e.
    let f = search_spent c.from_residual-in_err-fallen.result c.in_err-fallen.field-0.0 n c.from_residual-in_err-fallen.ensures.1 e in
    let o = c.in_err-fallen.ensures.pivots n (ap Err f) in (
      o.0,
      record {
        roles = c.hold_at_zero.new.dict.roles;
        new_flags = c.hold_at_zero.new.dict.restricted;
        holds = c.in_ok-hold_at_zero.ensures.holds;
        spends = o.1;
      },
    )

pub returns-in-Some-clause-holds : goal.returns-in-Some-clause-holds
returns-in-Some-clause-holds c =
    holds_after c.args.q c.args.dict.now.roles c.args.dict.now.restricted c.hold_at_zero.new.dict.roles c.hold_at_zero.new.dict.restricted c.in_ok-hold_at_zero.ensures.holds
    c.look_again.new.dict.roles c.look_again.new.dict.restricted c.in_ok-fallen.ensures.flags c.in_ok-fallen.ensures.looks

pub returns-in-None-clause-holds : goal.returns-in-None-clause-holds
returns-in-None-clause-holds c =
    holds_after c.args.q c.args.dict.now.roles c.args.dict.now.restricted c.hold_at_zero.new.dict.roles c.hold_at_zero.new.dict.restricted c.in_ok-hold_at_zero.ensures.holds
    c.look_again.new.dict.roles c.look_again.new.dict.restricted c.in_ok-fallen.ensures.flags c.in_ok-fallen.ensures.looks

pub returns-in-Some-clause-faced : goal.returns-in-Some-clause-faced
returns-in-Some-clause-faced c =
    strict_falls c.args.q c.args.dict.now.roles c.args.dict.now.restricted c.hold_at_zero.new.dict.roles c.hold_at_zero.new.dict.restricted c.in_ok-hold_at_zero.ensures.holds
    c.look_again.new.dict.roles c.look_again.new.dict.restricted c.in_ok-fallen.ensures.flags c.in_ok-fallen.ensures.looks c.args.told.now c.args.names.now.now c.in-Some.fallen
    (subst (IsLooked c.args.told.now c.args.names.now.now c.hold_at_zero.new.dict.roles c.look_again.new.dict.roles c.hold_at_zero.new.dict.restricted) c.in-Some.is
    c.in_ok-fallen.ensures.looked)

pub returns-in-None-clause-faced : goal.returns-in-None-clause-faced
returns-in-None-clause-faced c =
    disequations_faced c.args.q c.args.dict.now.roles c.args.dict.now.restricted c.hold_at_zero.new.dict.roles c.hold_at_zero.new.dict.restricted c.in_ok-hold_at_zero.ensures.holds
    c.look_again.new.dict.roles c.look_again.new.dict.restricted c.in_ok-fallen.ensures.flags c.in_ok-fallen.ensures.looks c.args.told.now c.args.names.now.now
    c.fallen_disequation.result
    (subst (IsLooked c.args.told.now c.args.names.now.now c.hold_at_zero.new.dict.roles c.look_again.new.dict.roles c.hold_at_zero.new.dict.restricted) c.in-None.is
    c.in_ok-fallen.ensures.looked)
    c.fallen_disequation.ensures
