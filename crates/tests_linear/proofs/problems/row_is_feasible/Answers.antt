use Rattle.std.proofs.Common.{◌∙◌, sym, subst}
use Rattle.spec_numbers.specs.Rational.{IsNotNegative}
use Rattle.cq_dict.specs.Roles.{is_restricted}
use Rattle.cq_dict.proofs.Roles.{constant_is}
use Rattle.cq_simplex.proofs.Feasibility.{column_feasible, free_feasible, restricted_feasible}
use Rattle.tests_linear.proofs.problems.row_is_feasible.Goals as goal
use Rattle.tests_linear.proofs.problems.row_is_feasible.Goals.{then-not-is_row-via-then-not-is_row, then-not-is_row-via-else-not-is_row+then-not-is_restricted}

pub returns-then-not-is_row : goal.returns-then-not-is_row
returns-then-not-is_row c = λ asked.
    elim c.then-not-is_row.branch [
      | then-not-is_row-via-then-not-is_row w ↦ column_feasible c.args.dict.now.roles (is_restricted c.args.dict.now.restricted) asked c.args.q w.if-not-is_row.ensures
      | then-not-is_row-via-else-not-is_row+then-not-is_restricted w ↦
          free_feasible c.args.dict.now.roles (is_restricted c.args.dict.now.restricted) asked c.args.q (sym w.is_restricted.ensures ∙ w.if-not-is_restricted.true)
    ]

pub returns-in-None : goal.returns-in-None
returns-in-None c = λ asked.
    let r = c.if-not-is_row.ensures in
    restricted_feasible c.args.dict.now.roles (is_restricted c.args.dict.now.restricted) asked c.args.q
    (subst IsNotNegative (c.constant.ensures r.0 r.1 ∙ sym (constant_is c.args.dict.now.roles c.args.q r.0 r.1)) c.if-is_negative.ensures.otherwise)
    c.in-None.ensures
