use Rattle.std.proofs.Common.{◌∷◌, Some, None, sym, ap, ◌∙◌, arith}
use Rattle.std.specs.Prelude.{if◌then◌else◌}
use Rattle.spec_search.specs.Database.{clause_removed}
use Rattle.cq_clauses.specs.declared.walk.Walk.{Walk}
use Rattle.cq_resolve.specs.Database.{as_database}
use Rattle.cq_branch.specs.Stops.{waiting_in}
use Rattle.cq_branch.specs.Worlds.{saved_values, value}
use Rattle.cq_branch.specs.declared.alternatives.Alternatives.{Alternatives}
use Rattle.cq_branch.specs.declared.alternatives.Alternatives.TheVariants.{Matches}
use Rattle.cq_catch.proofs.Reached.{same_stack, opened_over, arrives_over, stop_with}
use Rattle.cq_catch.proofs.matching.matching.try_matches.Goals as goal

pub compare_all-requires-clause-newest : goal.compare_all-requires-clause-newest
compare_all-requires-clause-newest c =
    let older = c.in-Some.ensures.some in (
      older.0,
      older.1 ∙ ap (λ (x : Alternatives). x ∷ older.0)
          (c.in-Matches.is ∙ ap (λ (w : Walk). Matches c.in-Matches.rule w c.in-Matches.removing c.in-Matches.behind) (sym c.walk-walk.ensures)),
    )

pub compare_all-requires-clause-works : goal.compare_all-requires-clause-works
compare_all-requires-clause-works c = let w = c.requires.works in (as_database c.args.atoms.now w.0 c.args.clauses.now, w.1, w.2, w.3)

pub returns-in-Some-found-clause-comes : goal.returns-in-Some-found-clause-comes
returns-in-Some-found-clause-comes c = λ steps ops n s j.
    let texts = c.args.atoms.now in
    let v = c.args.clauses.now in
    let db = as_database texts ops v in
    let world = c.compare_all.new.world in
    let done = c.in-Ok.ensures in
    arrives_over texts v c.settle_removal.new.clauses c.settle_removal.ensures.showing (saved_values world.first world.second.saved) c.compare_all.new.choices done.open
    steps (if c.in-Matches.removing then clause_removed c.in-Some-found.matched.clause db else db) (as_database texts ops c.settle_removal.new.clauses) n (value world.first world.second.now)
    (Some c.in-Some-found.matched.first) s (c.settle_removal.ensures.database texts ops) ((rw c.in-Some-found.is at done.comes) steps db n s j)

pub returns-in-Some-found-clause-fewer : goal.returns-in-Some-found-clause-fewer
returns-in-Some-found-clause-fewer c =
    let world = c.compare_all.new.world in
    let done = c.in-Ok.ensures in
    let same = ap waiting_in (same_stack c.args.atoms.now c.args.clauses.now c.settle_removal.new.clauses c.settle_removal.ensures.showing
    (saved_values world.first world.second.saved) c.compare_all.new.choices done.open) in
    omega (arith, same, done.fewer)

pub returns-in-Some-found-clause-over : goal.returns-in-Some-found-clause-over
returns-in-Some-found-clause-over c =
    let world = c.compare_all.new.world in
    record {
      program = c.settle_removal.ensures.program c.args.atoms.now c.requires.over.program;
      choices = opened_over c.args.atoms.now c.args.clauses.now c.settle_removal.new.clauses c.settle_removal.ensures.showing
          (saved_values world.first world.second.saved) c.compare_all.new.choices c.in-Ok.ensures.open;
    }

pub returns-in-None-clause-comes : goal.returns-in-None-clause-comes
returns-in-None-clause-comes c = λ steps ops n s j. (rw c.in-None.is at c.in-Ok.ensures.comes) steps (as_database c.args.atoms.now ops c.args.clauses.now) n s j

pub returns-in-None-clause-over : goal.returns-in-None-clause-over
returns-in-None-clause-over c = record { program = c.requires.over.program; choices = c.in-Ok.ensures.open }

pub returns-in-Err-clause-err : goal.returns-in-Err-clause-err
returns-in-Err-clause-err c = λ steps ops n s j. c.in-Err.ensures.err steps (as_database c.args.atoms.now ops c.args.clauses.now) n s j

pub returns-in-Err-clause-stops : goal.returns-in-Err-clause-stops
returns-in-Err-clause-stops c = λ ops n s j.
    let db = as_database c.args.atoms.now ops c.args.clauses.now in
    stop_with c.args.world.now.first.store.pivots c.in-Err.fault db s j.database (c.in-Err.ensures.stops db n s j)

pub returns-in-Err-clause-over : goal.returns-in-Err-clause-over
returns-in-Err-clause-over c = record { program = c.requires.over.program; choices = c.in-Err.ensures.open }
