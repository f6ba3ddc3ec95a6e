use Rattle.std.proofs.Common.{Err, inl, ap, subst}
use Rattle.cq_tableau.specs.Looked.{IsLooked}
use Rattle.cq_store.proofs.Concluded.{found_of}
use Rattle.cq_store.proofs.Passed.{search_refused, spent}
use Rattle.cq_store.proofs.equating.look_at_members.Goals as goal

pub returns-in-Some-clause-found : goal.returns-in-Some-clause-found
returns-in-Some-clause-found c =
    inl (subst (IsLooked c.args.told.now c.args.names.now.now c.args.dict.now.roles c.look_again.new.dict.roles c.args.dict.now.restricted) c.in-Some.is c.in_ok-strict.ensures.looked)

pub returns-in-None-clause-found : goal.returns-in-None-clause-found
returns-in-None-clause-found c =
    found_of c.args.told.now c.args.names.now.now c.args.dict.now.roles c.look_again.new.dict.roles c.args.dict.now.restricted c.fallen_disequation.result
    (subst (IsLooked c.args.told.now c.args.names.now.now c.args.dict.now.roles c.look_again.new.dict.roles c.args.dict.now.restricted) c.in-None.is c.in_ok-strict.ensures.looked)
    c.fallen_disequation.ensures

pub returns-in_err-strict-clause-overflow : goal.returns-in_err-strict-clause-overflow
returns-in_err-strict-clause-overflow c = λ pair e.
    c.in_err-strict.ensures.overflow pair (ap Err (search_refused c.from_residual.result c.in_err-strict.field-0.0 pair c.from_residual.ensures.1 e))

pub returns-in_err-strict-clause-pivots : goal.returns-in_err-strict-clause-pivots
returns-in_err-strict-clause-pivots c = λ n e.
    c.in_err-strict.ensures.pivots n (ap Err (spent c.from_residual.result c.in_err-strict.field-0.0 n c.from_residual.ensures.1 e))
