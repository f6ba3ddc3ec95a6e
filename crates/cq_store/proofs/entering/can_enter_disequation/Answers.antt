use Rattle.std.proofs.Common.{◌+◌, [], ◌∷◌, ◌++◌, Err, length, ap, refl, subst}
use Rattle.spec_linear.specs.Solution.{Constraint}
use Rattle.spec_simplex.specs.Asked.{NoQuestion, of_joining}
use Rattle.cq_dict.specs.DictValue.{quantities_of}
use Rattle.cq_tableau.specs.declared.names.Name.TheVariants.{Member}
use Rattle.cq_tableau.proofs.Storing.{asked_row, stored_solvable}
use Rattle.cq_store.specs.StoreValue.{MayRefuse, Only}
use Rattle.cq_store.proofs.Asked.{asked_of, something_joins}
use Rattle.cq_store.proofs.Falls.{apart_joins}
use Rattle.cq_store.proofs.Moments.{asking_refused}
use Rattle.cq_store.proofs.Passed.{passed}
use Rattle.cq_store.proofs.Possible.{zero_never, turned_over}
use Rattle.cq_store.proofs.entering.can_enter_disequation.Goals as goal

pub returns-in_err-q-clause-overflow : goal.returns-in_err-q-clause-overflow
returns-in_err-q-clause-overflow c = λ pair e told s.
    let k : Constraint = record { relation = c.c.inside.relation; form = c.c.inside.form } in
    let f = passed c.from_residual.result c.in_err-q.field-0.0 pair c.from_residual.ensures.1 e in
    subst (λ (z : Constraint). MayRefuse told (Only z) NoQuestion pair) c.c.view_is
    (asking_refused told _ _ s c.c.inside.form (Only k) NoQuestion (of_joining k refl) pair (c.in_err-q.ensures.overflow pair (ap Err f)))

pub is_zero-requires : goal.is_zero-requires
is_zero-requires c =
    let t = c.requires.stored in
    asked_row t.0 _ _ t.1 _ _ _ _ c.in_ok-q.ensures.asked

pub returns-clause-solvable : goal.returns-clause-solvable
returns-clause-solvable c = λ told s.
    let k = c.args.c.now in
    let a = asked_of _ _ _ _ c.c.view_is _ _ _ c.in_ok-q.ensures.asked in
    let later = c.ask.new.names.now ++ Member (length told + 1) ∷ [] in
    turned_over c.is_zero.result c.is_zero.ensures
    (λ z. zero_never told k c.requires.disequation (apart_joins told _ _ s k c.requires.disequation _ _ _ a z later refl).flat)
    (λ z. stored_solvable (told ++ k ∷ []) later (quantities_of c.ask.new.dict) (something_joins told _ _ s k _ _ _ a c.requires.disequation z later refl [] refl).stored)
