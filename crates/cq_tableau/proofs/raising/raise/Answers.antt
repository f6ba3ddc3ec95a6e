use Rattle.std.proofs.Common.{Err, ap, arith}
use Rattle.cq_dict.specs.declared.table.Role.TheVariants.{Basic}
use Rattle.cq_dict.specs.Roles.{is_restricted}
use Rattle.cq_dict.proofs.Roles.{at_below}
use Rattle.cq_tableau.proofs.Joined.{free_entry, free_joins}
use Rattle.cq_tableau.proofs.Passed.{search_passed, search_spent}
use Rattle.cq_tableau.proofs.raising.raise.Goals as goal

pub prove-unreachable-requires : goal.prove-unreachable-requires
prove-unreachable-requires c =
    omega (arith, c.if-prove.true, c.count.ensures.value, at_below c.args.dict.now.roles c.args.q (Basic c.requires.row.0) c.requires.row.1)

pub swap-requires : goal.swap-requires
swap-requires c = free_entry c.args.dict.now.roles (is_restricted c.args.dict.now.restricted) c.args.q c.in-Some.c c.requires.row c.in-Some.ensures

pub returns-in_ok-swap-in-Some-clause-raised : goal.returns-in_ok-swap-in-Some-clause-raised
returns-in_ok-swap-in-Some-clause-raised c =
    let s = c.in_ok-swap-in-Some.ensures in (
      s.flags,
      free_joins c.args.dict.now.roles c.args.dict.now.restricted c.args.q c.requires.row c.in-Some.c c.in-Some.ensures c.swap.new.dict.roles c.swap.new.dict.restricted
          s.kinds s.same s.table s.flags,
    )

pub returns-in_err-swap-in-Some-clause-overflow : goal.returns-in_err-swap-in-Some-clause-overflow
returns-in_err-swap-in-Some-clause-overflow c = λ pair e.
    let f = search_passed c.from_residual.result c.in_err-swap-in-Some.field-0.0 pair c.from_residual.ensures.1 e in
    let o = c.in_err-swap-in-Some.ensures.overflow pair (ap Err f) in
    record {
      roles = c.args.dict.now.roles;
      keeps = λ forms l k. k;
      is_row = c.requires.row;
      row = c.args.q;
      column = c.in-Some.c;
      made = o.0;
      refused = o.1;
    }

pub returns-in_err-swap-in-Some-clause-pivots : goal.returns-in_err-swap-in-Some-clause-pivots
returns-in_err-swap-in-Some-clause-pivots c = λ n e.
    absurd (c.in_err-swap-in-Some.ensures.pivots n (ap Err (search_spent c.from_residual.result c.in_err-swap-in-Some.field-0.0 n c.from_residual.ensures.1 e)))
