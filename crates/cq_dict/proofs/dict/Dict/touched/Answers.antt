use Rattle.std.proofs.Common.{sym, subst, arith}
use Rattle.cq_dict.specs.declared.table.Role.TheVariants.{Basic}
use Rattle.cq_dict.proofs.Roles.{at_below}
use Rattle.cq_dict.specs.Holders.{IsListed}
use Rattle.cq_dict.proofs.Written.{if_all_ok}
use Rattle.cq_dict.proofs.dict.Dict.touched.Goals as goal

pub listed-requires-clause-lists : goal.listed-requires-clause-lists
listed-requires-clause-lists c = rw (c.as_slice.ensures, c.as_slice-2.ensures) c.self.invariant.1.now.lists

pub listed-requires-clause-there : goal.listed-requires-clause-there
listed-requires-clause-there c =
    let l = (rw (← c.self.view_is) at c.requires) c.self.invariant.0.now.table in
    rw c.as_slice.ensures (omega (arith, l, c.self.invariant.1.now.size))

pub listed-requires-clause-column : goal.listed-requires-clause-column
listed-requires-clause-column c =
    let l = (rw (← c.self.view_is) at c.requires) c.self.invariant.0.now.table in
    omega (arith, l, c.len-count.ensures)

pub returns : goal.returns
returns c = rw (← c.self.view_is) (if_all_ok c.listed.result _ _ _ _ _ (λ rows a s b d. record {
  within = λ r h. let l = a r h in omega (arith, l, c.len-count.ensures);
  ascending = s;
  own = b;
  all = λ r row at k.
      let l = at_below c.self.inside.roles.now r (Basic row) at in
      d r (omega (arith, l, c.len-count.ensures))
      (subst (λ z. IsListed z c.as_slice-2.result.now c.args.c r) (sym c.as_slice.ensures)
      (subst (λ z. IsListed c.self.inside.heads.now z c.args.c r) (sym c.as_slice-2.ensures) (c.self.invariant.1.now.all r row c.args.c at k)));
}) c.listed.ensures.within c.listed.ensures.ascending c.listed.ensures.own c.listed.ensures.all)
