use Rattle.std.proofs.Common.{Err, true, slice_set, refl, ap, sym, subst, ◌∙◌}
use Rattle.spec_numbers.specs.Rational.{ℚ, 0ℚ, IsNotNegative, ◌<ℚ◌}
use Rattle.cq_dict.specs.declared.table.Role.TheVariants.{Basic}
use Rattle.cq_dict.specs.Roles.{is_restricted, constant_at}
use Rattle.cq_dict.proofs.Roles.{at_below}
use Rattle.cq_simplex.specs.declared.Aim.TheVariants as aim_of
use Rattle.cq_simplex.specs.Answers.{IsAnswer, AreSpent}
use Rattle.cq_tableau.proofs.Joined.{unbounded_entry, still_keeps, positive_joins, unbounded_joins, unlimited_joins, told_constant}
use Rattle.cq_tableau.proofs.Passed.{search_passed, search_spent}
use Rattle.cq_tableau.proofs.raising.raise_restricted.Goals as goal

pub restrict-requires : goal.restrict-requires
restrict-requires c =
    let row = c.in_ok-ascend.ensures.carried.asked_row in
    at_below c.ascend.new.dict.roles c.args.q (Basic row.0) row.1

pub restrict-requires-in-Unbounded : goal.restrict-requires-in-Unbounded
restrict-requires-in-Unbounded c =
    let row = c.in_ok-ascend.ensures.carried.asked_row in
    at_below c.ascend.new.dict.roles c.args.q (Basic row.0) row.1

pub swap-requires : goal.swap-requires
swap-requires c =
    let a = subst (IsAnswer c.args.dict.now.roles c.args.dict.now.restricted c.args.q aim_of.Positive c.ascend.new.dict.roles) c.in-Unbounded.is c.in_ok-ascend.ensures.answer in
    unbounded_entry c.ascend.new.dict.roles (is_restricted c.args.dict.now.restricted) c.args.q c.in-Unbounded.c
    c.in_ok-ascend.ensures.carried.asked_row a.1

pub returns-then-is_negative-clause-raised : goal.returns-then-is_negative-clause-raised
returns-then-is_negative-clause-raised c =
    let m = c.in_ok-ascend.ensures in
    let a = subst (IsAnswer c.args.dict.now.roles c.args.dict.now.restricted c.args.q aim_of.Positive c.ascend.new.dict.roles) c.in-Unbounded.is m.answer in
    let s = c.in_ok-swap-in-Unbounded.ensures in
    let low : constant_at c.ascend.new.dict.roles c.args.q <ℚ 0ℚ =
    subst (λ (v : ℚ). v <ℚ 0ℚ) (told_constant c.ascend.new.dict.roles c.args.q m.carried.asked_row c.constant.result c.constant.ensures)
    (c.is_negative.ensures.negative.0 c.if-is_negative.true) in
    let e = s.flags ∙ ap (λ g. slice_set g c.args.q true) m.flags in (
      e,
      unlimited_joins c.args.dict.now.roles c.args.dict.now.restricted c.args.q c.requires.row c.requires.columns c.ascend.new.dict.roles m.carried
          c.in-Unbounded.c a.0 a.1 low c.swap.new.dict.roles c.swap.new.dict.restricted s.kinds s.same s.table
          e,
    )

pub returns-in_ok-restrict-in-Positive-clause-raised : goal.returns-in_ok-restrict-in-Positive-clause-raised
returns-in_ok-restrict-in-Positive-clause-raised c =
    let m = c.in_ok-ascend.ensures in
    let a = subst (IsAnswer c.args.dict.now.roles c.args.dict.now.restricted c.args.q aim_of.Positive c.ascend.new.dict.roles) c.in-Positive.is m.answer in
    let s = c.in_ok-restrict-in-Positive.ensures in
    let e = s.flags ∙ ap (λ g. slice_set g c.args.q true) m.flags in (
      e,
      positive_joins c.args.dict.now.roles c.args.dict.now.restricted c.args.q c.requires.row c.requires.columns c.ascend.new.dict.roles m.carried
          a.1 c.restrict.new.self.roles c.restrict.new.self.restricted s.roles e,
    )

pub returns-in_ok-restrict-in-Unbounded-clause-raised : goal.returns-in_ok-restrict-in-Unbounded-clause-raised
returns-in_ok-restrict-in-Unbounded-clause-raised c =
    let m = c.in_ok-ascend.ensures in
    let a = subst (IsAnswer c.args.dict.now.roles c.args.dict.now.restricted c.args.q aim_of.Positive c.ascend.new.dict.roles) c.in-Unbounded.is m.answer in
    let s = c.in_ok-restrict-in-Unbounded.ensures in
    let high : IsNotNegative (constant_at c.ascend.new.dict.roles c.args.q) =
    subst IsNotNegative (told_constant c.ascend.new.dict.roles c.args.q m.carried.asked_row c.constant.result c.constant.ensures)
    c.if-is_negative.ensures.otherwise in
    let e = s.flags ∙ ap (λ g. slice_set g c.args.q true) m.flags in (
      e,
      unbounded_joins c.args.dict.now.roles c.args.dict.now.restricted c.args.q c.requires.row c.requires.columns c.ascend.new.dict.roles m.carried
          a.0 high c.restrict-in-Unbounded.new.self.roles c.restrict-in-Unbounded.new.self.restricted s.roles e,
    )

pub returns-in-At-clause-raised : goal.returns-in-At-clause-raised
returns-in-At-clause-raised c =
    let m = c.in_ok-ascend.ensures in
    let a = subst (IsAnswer c.args.dict.now.roles c.args.dict.now.restricted c.args.q aim_of.Positive c.ascend.new.dict.roles) c.in-At.is m.answer in
    record {
      same_flags = m.flags;
      keeps = still_keeps c.args.dict.now.roles c.args.dict.now.restricted c.args.q c.requires.row c.requires.columns c.ascend.new.dict.roles m.carried;
      dropped = m.carried.dropped;
      row = m.carried.asked_row;
      maximum = a.0;
      entries = a.1;
      short = a.2 refl;
    }

pub returns-in_err-ascend-clause-overflow : goal.returns-in_err-ascend-clause-overflow
returns-in_err-ascend-clause-overflow c = λ pair e.
    let f = search_passed c.from_residual.result c.in_err-ascend.field-0.0 pair c.from_residual.ensures.1 e in
    let o = c.in_err-ascend.ensures.overflow pair (ap Err f) in
    let d = c.in_err-ascend.ensures.carried in
    record {
      roles = c.ascend.new.dict.roles;
      keeps = still_keeps c.args.dict.now.roles c.args.dict.now.restricted c.args.q c.requires.row c.requires.columns c.ascend.new.dict.roles d;
      is_row = d.asked_row;
      row = o.row;
      column = o.column;
      made = o.made;
      refused = o.refused;
    }

pub returns-in_err-swap-in-Unbounded-clause-overflow : goal.returns-in_err-swap-in-Unbounded-clause-overflow
returns-in_err-swap-in-Unbounded-clause-overflow c = λ pair e.
    let f = search_passed c.from_residual-in_err-swap-in-Unbounded.result c.in_err-swap-in-Unbounded.field-0.0 pair c.from_residual-in_err-swap-in-Unbounded.ensures.1 e in
    let o = c.in_err-swap-in-Unbounded.ensures.overflow pair (ap Err f) in
    let d = c.in_ok-ascend.ensures.carried in
    record {
      roles = c.ascend.new.dict.roles;
      keeps = still_keeps c.args.dict.now.roles c.args.dict.now.restricted c.args.q c.requires.row c.requires.columns c.ascend.new.dict.roles d;
      is_row = d.asked_row;
      row = c.args.q;
      column = c.in-Unbounded.c;
      made = o.0;
      refused = o.1;
    }

pub returns-in_err-ascend-clause-pivots : goal.returns-in_err-ascend-clause-pivots
returns-in_err-ascend-clause-pivots c = λ n e.
    let o = c.in_err-ascend.ensures.pivots n (ap Err (search_spent c.from_residual.result c.in_err-ascend.field-0.0 n c.from_residual.ensures.1 e)) in (
      o.0,
      record {
        roles = o.1.from;
        keeps = still_keeps c.args.dict.now.roles c.args.dict.now.restricted c.args.q c.requires.row c.requires.columns o.1.from o.1.carried;
        is_row = o.1.carried.asked_row;
        last = c.ascend.new.dict.roles;
        spent = subst (λ m. AreSpent o.1.from c.args.dict.now.restricted c.args.q aim_of.Positive m c.ascend.new.dict.roles) (sym o.0) o.1.spent;
      },
    )

pub returns-in_err-swap-in-Unbounded-clause-pivots : goal.returns-in_err-swap-in-Unbounded-clause-pivots
returns-in_err-swap-in-Unbounded-clause-pivots c = λ n e.
    absurd (c.in_err-swap-in-Unbounded.ensures.pivots n
    (ap Err (search_spent c.from_residual-in_err-swap-in-Unbounded.result c.in_err-swap-in-Unbounded.field-0.0 n c.from_residual-in_err-swap-in-Unbounded.ensures.1 e)))
