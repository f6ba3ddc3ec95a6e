use Rattle.std.proofs.Common.{Err, inl, ap, subst}
use Rattle.cq_simplex.specs.Turns.{IsLeaving}
use Rattle.cq_simplex.proofs.Exits.{simplex_told}
use Rattle.cq_tableau.specs.Lightest.{IsLightest}
use Rattle.cq_tableau.proofs.Goes.{entering_live, is_next, is_open}
use Rattle.cq_tableau.proofs.level.levelling.next_step.Goals as goal

pub returns-in-Some-clause-next : goal.returns-in-Some-clause-next
returns-in-Some-clause-next c = inl (subst (IsLightest c.args.dict.now.roles c.args.dict.now.restricted c.args.q) c.in-Some.is c.in_ok-free.ensures).0

pub leaving-requires : goal.leaving-requires
leaving-requires c = record {
  column = entering_live c.args.dict.now.roles c.args.dict.now.restricted c.args.q c.args.up c.requires.free (subst (IsLightest c.args.dict.now.roles c.args.dict.now.restricted c.args.q) c.in_default.is c.in_ok-free.ensures) c.in-Some-sloping.column c.in-Some-sloping.ensures;
}

pub returns-in_err-row-clause-overflow : goal.returns-in_err-row-clause-overflow
returns-in_err-row-clause-overflow c = λ pair e.
    let f = simplex_told c.from_residual-in_err-row.result c.in_err-row.field-0.0 pair c.from_residual-in_err-row.ensures.1 e in
    let r = c.in_err-row.ensures.overflow pair (ap Err f) c.args.q in
    record { row = r.0; column = c.in-Some-sloping.column; made = r.1.made; refused = r.1.refused }

pub returns-in-Some-2-clause-next : goal.returns-in-Some-2-clause-next
returns-in-Some-2-clause-next c =
    is_next c.args.dict.now.roles c.args.dict.now.restricted c.args.q c.args.up c.requires.free (subst (IsLightest c.args.dict.now.roles c.args.dict.now.restricted c.args.q) c.in_default.is c.in_ok-free.ensures) c.in-Some-sloping.column c.in-Some-sloping.ensures c.in-Some-2.row
    (subst (IsLeaving c.args.dict.now.roles c.args.dict.now.restricted c.args.q c.in-Some-sloping.column) c.in-Some-2.is (c.in_ok-row.ensures.value c.args.q))

pub returns-in-None-clause-next : goal.returns-in-None-clause-next
returns-in-None-clause-next c =
    is_open c.args.dict.now.roles c.args.dict.now.restricted c.args.q c.args.up c.requires.free (subst (IsLightest c.args.dict.now.roles c.args.dict.now.restricted c.args.q) c.in_default.is c.in_ok-free.ensures) c.in-Some-sloping.column c.in-Some-sloping.ensures
    (subst (IsLeaving c.args.dict.now.roles c.args.dict.now.restricted c.args.q c.in-Some-sloping.column) c.in-None.is (c.in_ok-row.ensures.value c.args.q))
