use Rattle.std.proofs.Common.{◌<◌, ◌≤◌, length, take, inl, inr, Err, arith, ap, sym, subst, ◌∙◌, [], ◌∷◌, ◌++◌}
use Rattle.std.proofs.lemmas.List.{take_more, take_all}
use Rattle.cq_frac.proofs.Exits.{refusal_told}
use Rattle.cq_equations.specs.Told.{numbers_of}
use Rattle.cq_elimination.proofs.Lists.{has_at}
use Rattle.spec_projection.proofs.Mentions.{some_mentions}
use Rattle.cq_elimination.proofs.Beside.{scales_due}
use Rattle.cq_elimination.specs.Lines.{line_of, lines_of}
use Rattle.cq_elimination.proofs.Joined.{Arranged, none_arranged, one_more, scaled_line, mentions_some, new_line, inequality_rows, disequation_rows}
use Rattle.cq_elimination.proofs.arrange.arranged.Goals as goal

pub rows-init : goal.rows-init
rows-init c = subst (λ items. Arranged (numbers_of c.args.order.now) [] (lines_of items)) (sym c.new-arranged.ensures.items) (none_arranged (numbers_of c.args.order.now))

pub printed-requires-clause-over : goal.printed-requires-clause-over
printed-requires-clause-over c = λ x m.
    let within : c.rows.row-index < length c.args.rows.now = omega arith in
    let member = has_at c.args.rows.now c.rows.row-index c.row-item.result within c.row-item.is in
    elim m [ inl h ↦ c.requires.over x (some_mentions x c.args.rows.now c.row-item.result member h) | inr n ↦ absurd n ]

pub printed-requires-clause-unequal : goal.printed-requires-clause-unequal
printed-requires-clause-unequal c =
    let within : c.rows.row-index < length c.args.rows.now = omega arith in
    c.requires.unequal c.row-item.result (has_at c.args.rows.now c.rows.row-index c.row-item.result within c.row-item.is)

pub printed-requires-clause-mentions : goal.printed-requires-clause-mentions
printed-requires-clause-mentions c =
    let within : c.rows.row-index < length c.args.rows.now = omega arith in
    mentions_some c.args.rows.now c.rows.row-index c.row-item.result within c.row-item.is c.requires.irredundant c.requires.solvable

pub returns-in_err-printed-clause-overflow : goal.returns-in_err-printed-clause-overflow
returns-in_err-printed-clause-overflow c = λ pair m rows e.
    let within : c.rows.row-index < length c.args.rows.now = omega arith in
    let member = has_at c.args.rows.now c.rows.row-index c.row-item.result within c.row-item.is in
    scales_due m c.args.rows.now c.row-item.result pair rows member (c.in_err-printed.ensures.overflow pair (ap Err (refusal_told _ _ pair c.from_residual.ensures.1 e)))

pub insert-requires-clause-placed : goal.insert-requires-clause-placed
insert-requires-clause-placed c = λ l h. scaled_line (numbers_of c.args.order.now) l (c.rows.invariant.scaled l h)

pub insert-requires-clause-new : goal.insert-requires-clause-new
insert-requires-clause-new c = λ h.
    let within : c.rows.row-index < length c.args.rows.now = omega arith in
    new_line c.args.rows.now c.rows.row-index c.row-item.result within c.row-item.is c.requires.irredundant (numbers_of c.args.order.now) (lines_of c.rows.arranged.items)
    (line_of c.in_ok-printed.printed) c.rows.invariant c.in_ok-printed.ensures.value h

pub rows-preserved : goal.rows-preserved
rows-preserved c =
    let within : c.rows.row-index < length c.args.rows.now = omega arith in
    let order = numbers_of c.args.order.now in
    let more = take_more c.args.rows.now c.rows.row-index c.row-item.result within ∙ ap (λ d. take c.rows.row-index c.args.rows.now ++ d ∷ []) (sym c.row-item.is) in
    subst (λ rows. Arranged order rows (lines_of c.insert.new.rows.items)) (sym more)
    (one_more order c.requires.distinct (take c.rows.row-index c.args.rows.now) (lines_of c.rows.arranged.items) (lines_of c.insert.new.rows.items) c.row-item.result
    (line_of c.in_ok-printed.printed) c.rows.invariant c.in_ok-printed.ensures.value c.in_ok-insert.ensures)

pub returns-clause-inequalities : goal.returns-clause-inequalities
returns-clause-inequalities c = λ all.
    let whole : length c.args.rows.now ≤ c.rows.row-index = omega arith in
    inequality_rows (numbers_of c.args.order.now) c.args.rows.now (lines_of c.rows.arranged.items)
    (subst (λ rows. Arranged (numbers_of c.args.order.now) rows (lines_of c.rows.arranged.items)) (take_all c.rows.row-index c.args.rows.now whole) c.rows.invariant) all

pub returns-clause-disequations : goal.returns-clause-disequations
returns-clause-disequations c = λ all.
    let whole : length c.args.rows.now ≤ c.rows.row-index = omega arith in
    disequation_rows (numbers_of c.args.order.now) c.args.rows.now (lines_of c.rows.arranged.items)
    (subst (λ rows. Arranged (numbers_of c.args.order.now) rows (lines_of c.rows.arranged.items)) (take_all c.rows.row-index c.args.rows.now whole) c.rows.invariant) all
