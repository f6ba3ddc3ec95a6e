use Rattle.std.proofs.Common.{◌≡◌, ℕ, Err, ap, sym, subst}
use Rattle.cq_dict.specs.DictValue.{quantities_of}
use Rattle.cq_simplex.specs.declared.Aim.TheVariants as aim_of
use Rattle.cq_simplex.specs.Answers.{IsAnswer}
use Rattle.spec_simplex.specs.Asked.{NoQuestion}
use Rattle.std.specs.Prelude.{IfOk}
use Rattle.cq_store.specs.Questions.{OfStored}
use Rattle.cq_store.specs.StoreValue.{IsExtent, MayTake, Only}
use Rattle.cq_store.proofs.Extents.{asked_supremum, asked_unbounded, asked_feasible, search_refused, search_spent}
use Rattle.cq_store.proofs.Moments.{asking_refused}
use Rattle.cq_store.proofs.Passed as passed_on
use Rattle.cq_tableau.proofs.Storing.{asked_row}
use Rattle.cq_store.proofs.reaching.reach.Goals as goal
use Rattle.cq_store.proofs.reaching.reach.Goals.{in-At, in-Unbounded}

pub ascend-requires-clause-row : goal.ascend-requires-clause-row
ascend-requires-clause-row c =
    asked_row c.requires.stored.0 c.args.names.now.now (quantities_of c.args.dict.now) c.requires.stored.1 c.args.form.now c.ask.new.names.now (quantities_of c.ask.new.dict) c.in_ok-q.q
    c.in_ok-q.ensures.asked

pub ascend-requires-clause-feasible : goal.ascend-requires-clause-feasible
ascend-requires-clause-feasible c =
    asked_feasible c.requires.stored.0 c.args.names.now.now (quantities_of c.args.dict.now) c.requires.stored.1 c.args.form.now c.ask.new.names.now (quantities_of c.ask.new.dict)
    c.in_ok-q.q c.in_ok-q.ensures.asked

pub returns-clause-extent : goal.returns-clause-extent
returns-clause-extent c = elim c.match-branch-3.branch [
  | in-At w ↦ subst (λ r. IfOk r (λ e. OfStored c.args.names.now.now (quantities_of c.args.dict.now) (λ told. IsExtent told c.args.form.now e))) (sym w.result-is)
      (λ told s.
      let a = subst (IsAnswer c.ask.new.dict.roles c.ask.new.dict.restricted c.in_ok-q.q aim_of.Best c.ascend.new.dict.roles) w.in-At.is c.in_ok-value.ensures.answer in
      asked_supremum told c.args.names.now.now (quantities_of c.args.dict.now) s c.args.form.now c.ask.new.names.now (quantities_of c.ask.new.dict) c.in_ok-q.q c.in_ok-q.ensures.asked
      c.ascend.new.dict.roles w.in-At.value a.0)
  | in-Unbounded w ↦ subst (λ r. IfOk r (λ e. OfStored c.args.names.now.now (quantities_of c.args.dict.now) (λ told. IsExtent told c.args.form.now e))) (sym w.result-is)
      (λ told s.
      let a = subst (IsAnswer c.ask.new.dict.roles c.ask.new.dict.restricted c.in_ok-q.q aim_of.Best c.ascend.new.dict.roles) w.in-Unbounded.is c.in_ok-value.ensures.answer in
      asked_unbounded told c.args.names.now.now (quantities_of c.args.dict.now) s c.args.form.now c.ask.new.names.now (quantities_of c.ask.new.dict) c.in_ok-q.q c.in_ok-q.ensures.asked a.0)
]

pub unreachable-requires : goal.unreachable-requires
unreachable-requires c =
    let a = subst (IsAnswer c.ask.new.dict.roles c.ask.new.dict.restricted c.in_ok-q.q aim_of.Best c.ascend.new.dict.roles) c.in-Positive.is c.in_ok-value.ensures.answer in
    best_not_positive a.0
  where
    best_not_positive : aim_of.Best ≡ aim_of.Positive → ⊥
    best_not_positive e = cc

pub returns-in_err-q-clause-overflow : goal.returns-in_err-q-clause-overflow
returns-in_err-q-clause-overflow c = λ pair e told s k asks.
    let f = passed_on.passed c.from_residual.result c.in_err-q.field-0.0 pair c.from_residual.ensures.1 e in
    asking_refused told c.args.names.now.now (quantities_of c.args.dict.now) s c.args.form.now NoQuestion (Only k) asks pair (c.in_err-q.ensures.overflow pair (ap Err f))

pub returns-in_err-q-clause-pivots : goal.returns-in_err-q-clause-pivots
returns-in_err-q-clause-pivots c = λ n e.
    absurd (c.in_err-q.ensures.pivots n (ap Err (passed_on.store_spent c.from_residual.result c.in_err-q.field-0.0 n c.from_residual.ensures.1 e)))

pub returns-in_err-value-clause-overflow : goal.returns-in_err-value-clause-overflow
returns-in_err-value-clause-overflow c = λ pair e told s k asks.
    let f = passed_on.search_refused c.from_residual-in_err-value.result c.in_err-value.field-0.0 pair c.from_residual-in_err-value.ensures.1 e in
    search_refused told c.args.names.now.now (quantities_of c.args.dict.now) s c.args.form.now c.ask.new.names.now (quantities_of c.ask.new.dict) c.in_ok-q.q c.in_ok-q.ensures.asked
    NoQuestion (Only k) asks c.ascend.new.dict.roles pair c.in_err-value.ensures.carried (c.in_err-value.ensures.overflow pair (ap Err f))

pub returns-in_err-value-clause-pivots : goal.returns-in_err-value-clause-pivots
returns-in_err-value-clause-pivots c = λ n e told s.
    let f = passed_on.spent c.from_residual-in_err-value.result c.in_err-value.field-0.0 n c.from_residual-in_err-value.ensures.1 e in
    let o = c.in_err-value.ensures.pivots n (ap Err f) in (
      o.0,
      λ k asks. subst (λ (m : ℕ). MayTake told NoQuestion (Only k) m) (sym o.0)
          (search_spent told c.args.names.now.now (quantities_of c.args.dict.now) s c.args.form.now c.ask.new.names.now (quantities_of c.ask.new.dict) c.in_ok-q.q c.in_ok-q.ensures.asked
          NoQuestion (Only k) asks aim_of.Best c.args.pivots c.ascend.new.dict.roles o.1),
    )
