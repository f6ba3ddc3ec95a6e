use Rattle.std.proofs.Common.{◌≡◌, ◌+◌, ◌<◌, ◌∙◌, [], ◌∷◌, ◌++◌, length, take, drop, get_or, arith, refl, ap, sym, subst, Err}
use Rattle.std.proofs.lemmas.List.{take_more, drop_more, take-append-drop}
use Rattle.std.proofs.lemmas.Bool.Decides.{when_true, when_false}
use Rattle.std.specs.Prelude.{ℕ, List}
use Rattle.spec_linear.specs.Solution.{Constraint}
use Rattle.cq_settle.specs.Steps.{HaveJoined, CannotJoin, Refuses, Takes}
use Rattle.cq_store.proofs.Passed.{passed, store_spent}
use Rattle.cq_settle.proofs.Joined.{joins_nothing, one_more_joins, stops_at}
use Rattle.cq_settle.proofs.joining.join_rows.Goals as goal

split : (rows : List Constraint) (i : ℕ) (row : Constraint) → i < length rows → row ≡ get_or rows i row → rows ≡ take i rows ++ row ∷ drop (i + 1) rows
split rows i row l e = sym (take-append-drop i rows) ∙ ap (λ (rs : List Constraint). take i rows ++ rs) (drop_more rows i row l) ∙ ap (λ (r : Constraint). take i rows ++ r ∷ drop (i + 1) rows) (sym e)

pub loop-row-init : goal.loop-row-init
loop-row-init c = record { joined = joins_nothing c.args.store.now.told c.args.fixed.now.items; saved = refl; room = omega arith; budget = refl }

-- the row at the place of the loop
here : (rows : List Constraint) (i : ℕ) (row : Constraint) (item : Constraint) → row ≡ item → item ≡ get_or rows i item → row ≡ get_or rows i row
here rows i row item e f = subst (λ (d : Constraint). d ≡ get_or rows i d) (sym e) f

pub loop-row-preserved : goal.loop-row-preserved
loop-row-preserved c =
    let i = c.loop-row.row-index in
    let rows = c.args.rows.now in
    let at : i < length rows = omega arith in
    let row = c.in_ok-row.row in
    record {
      joined = subst (λ (rs : List Constraint). HaveJoined c.args.store.now.told rs c.join.new.store.told c.args.fixed.now.items c.join.new.fixed.items)
          (sym (take_more rows i row at ∙ ap (λ (r : Constraint). take i rows ++ r ∷ []) (sym (here rows i row c.row-item.result c.in_ok-row.ensures.cases c.row-item.is))))
          (one_more_joins c.args.store.now.told c.loop-row.store.told c.join.new.store.told (take i rows) row c.args.fixed.now.items c.loop-row.fixed.items c.join.new.fixed.items
          c.loop-row.invariant.joined (when_true _ _ c.if-not-branch.false c.in_ok-join.ensures.joined));
      saved = c.join.ensures.saved ∙ c.loop-row.invariant.saved;
      room = omega arith;
      budget = c.join.ensures.budget ∙ c.loop-row.invariant.budget;
    }

pub returns-then-not-branch-clause-joined : goal.returns-then-not-branch-clause-joined
returns-then-not-branch-clause-joined c =
    let i = c.loop-row.row-index in
    let rows = c.args.rows.now in
    let at : i < length rows = omega arith in
    let row = c.in_ok-row.row in
    stops_at CannotJoin c.args.store.now.told c.loop-row.store.told (take i rows) (drop (i + 1) rows) rows row c.args.fixed.now.items c.loop-row.fixed.items c.loop-row.invariant.joined
    (split rows i row at (here rows i row c.row-item.result c.in_ok-row.ensures.cases c.row-item.is)) (when_false _ _ c.if-not-branch.true c.in_ok-join.ensures.joined)

pub returns-in_err-join-clause-overflow : goal.returns-in_err-join-clause-overflow
returns-in_err-join-clause-overflow c = λ pair e.
    let i = c.loop-row.row-index in
    let rows = c.args.rows.now in
    let at : i < length rows = omega arith in
    let row = c.in_ok-row.row in
    stops_at (Refuses pair) c.args.store.now.told c.loop-row.store.told (take i rows) (drop (i + 1) rows) rows row c.args.fixed.now.items c.loop-row.fixed.items c.loop-row.invariant.joined
    (split rows i row at (here rows i row c.row-item.result c.in_ok-row.ensures.cases c.row-item.is))
    (c.in_err-join.ensures.overflow pair (ap Err (passed c.from_residual-in_err-join.result c.in_err-join.field-0.0 pair c.from_residual-in_err-join.ensures.1 e)))

pub returns-in_err-join-clause-pivots : goal.returns-in_err-join-clause-pivots
returns-in_err-join-clause-pivots c = λ n e.
    let i = c.loop-row.row-index in
    let rows = c.args.rows.now in
    let at : i < length rows = omega arith in
    let row = c.in_ok-row.row in
    let o = c.in_err-join.ensures.pivots n (ap Err (store_spent c.from_residual-in_err-join.result c.in_err-join.field-0.0 n c.from_residual-in_err-join.ensures.1 e)) in (
      o.0 ∙ c.loop-row.invariant.budget,
      stops_at (Takes n) c.args.store.now.told c.loop-row.store.told (take i rows) (drop (i + 1) rows) rows row c.args.fixed.now.items c.loop-row.fixed.items c.loop-row.invariant.joined
          (split rows i row at (here rows i row c.row-item.result c.in_ok-row.ensures.cases c.row-item.is)) o.1,
    )
