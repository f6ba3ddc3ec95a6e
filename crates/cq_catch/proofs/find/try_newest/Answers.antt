use Rattle.std.proofs.Common.{◌∷◌, ◌<◌, ◌≤◌, ℕ, Option, None, Some, length, refl, arith}
use Rattle.std.specs.Prelude.{IfSome, IfNone}
use Rattle.cq_resolve.specs.Database.{as_database}
use Rattle.cq_catch.proofs.Reached.{stop_with}
use Rattle.cq_choices.specs.Held.{held}
use Rattle.cq_catch.proofs.Going.{reaches_at_once, reaches_over, stops_over, throws_over, fewer_left}
use Rattle.cq_catch.proofs.find.try_newest.Goals as goal

-- the choice is gone
some_less : (o : Option ℕ) (m n : ℕ) → m < n → IfSome o (λ k. m ≤ n)
some_less None m n l = tt
some_less (Some k) m n l = omega (arith, l)

none_less : (o : Option ℕ) (m n : ℕ) → m < n → IfNone o (m < n)
none_less None m n l = l
none_less (Some k) m n l = tt

pub returns-in_default-clause-next : goal.returns-in_default-clause-next
returns-in_default-clause-next c =
    (reaches_at_once c.args.clauses.now (held c.args.atoms.now c.args.world.now.first c.args.world.now.second c.args.choices.now) None, c.in_default.ensures.none)

pub returns-in_default-clause-over : goal.returns-in_default-clause-over
returns-in_default-clause-over c = c.requires.over

-- ---- a call

pub returns-in-Ok-clause-next : goal.returns-in-Ok-clause-next
returns-in-Ok-clause-next c =
    let done = c.in-Ok.ensures in
    (λ steps ops n s j. done.comes steps (as_database c.args.atoms.now ops c.args.clauses.now) n s j, done.fewer)

pub returns-in-Ok-clause-over : goal.returns-in-Ok-clause-over
returns-in-Ok-clause-over c = record { program = c.requires.over.program; choices = c.in-Ok.ensures.open }

pub returns-in-Err-clause-err : goal.returns-in-Err-clause-err
returns-in-Err-clause-err c = λ steps ops n s j. c.in-Err.ensures.err steps (as_database c.args.atoms.now ops c.args.clauses.now) n s j

pub returns-in-Err-clause-stops : goal.returns-in-Err-clause-stops
returns-in-Err-clause-stops c = λ ops n s j.
    let db = as_database c.args.atoms.now ops c.args.clauses.now in
    stop_with c.args.world.now.first.store.pivots c.in-Err.fault db s j.database (c.in-Err.ensures.stops db n s j)

pub returns-in-Err-clause-over : goal.returns-in-Err-clause-over
returns-in-Err-clause-over c = record { program = c.requires.over.program; choices = c.in-Err.ensures.open }

-- ---- a predicate

pub returns-in-Ok-try_ways-clause-next : goal.returns-in-Ok-try_ways-clause-next
returns-in-Ok-try_ways-clause-next c =
    let v = c.args.clauses.now in
    let old = held c.args.atoms.now c.args.world.now.first c.args.world.now.second c.args.choices.now in
    let new = held c.try_ways.new.atoms c.try_ways.new.world.first c.try_ways.new.world.second c.try_ways.new.choices in
    let done = c.in-Ok-try_ways.ensures in
    let comes = reaches_over v old new c.requires.over (c.names_may_be_added.ensures.database c.args.atoms.now c.try_ways.new.atoms done.longer v c.requires.over.program)
    c.in-Ok-try_ways.next done.comes in
    (comes, fewer_left v v old new c.requires.works c.requires.marked done.marked c.in-Ok-try_ways.next comes done.no_more done.gone)

pub returns-in-Ok-try_ways-clause-over : goal.returns-in-Ok-try_ways-clause-over
returns-in-Ok-try_ways-clause-over c = c.in-Ok-try_ways.ensures.over c.args.clauses.now c.requires.over

pub returns-in-Err-try_ways-clause-err : goal.returns-in-Err-try_ways-clause-err
returns-in-Err-try_ways-clause-err c =
    let v = c.args.clauses.now in
    let old = held c.args.atoms.now c.args.world.now.first c.args.world.now.second c.args.choices.now in
    let new = held c.try_ways.new.atoms c.try_ways.new.world.first c.try_ways.new.world.second c.try_ways.new.choices in
    let done = c.in-Err-try_ways.ensures in
    reaches_over v old new c.requires.over (c.names_may_be_added.ensures.database c.args.atoms.now c.try_ways.new.atoms done.longer v c.requires.over.program) None done.comes_err

pub returns-in-Err-try_ways-clause-stops : goal.returns-in-Err-try_ways-clause-stops
returns-in-Err-try_ways-clause-stops c =
    let v = c.args.clauses.now in
    let old = held c.args.atoms.now c.args.world.now.first c.args.world.now.second c.args.choices.now in
    let new = held c.try_ways.new.atoms c.try_ways.new.world.first c.try_ways.new.world.second c.try_ways.new.choices in
    let done = c.in-Err-try_ways.ensures in
    stops_over v old new c.requires.over (c.names_may_be_added.ensures.database c.args.atoms.now c.try_ways.new.atoms done.longer v c.requires.over.program)
    c.args.world.now.first.store.pivots c.in-Err-try_ways.fault done.stops

pub returns-in-Err-try_ways-clause-over : goal.returns-in-Err-try_ways-clause-over
returns-in-Err-try_ways-clause-over c = c.in-Err-try_ways.ensures.over c.args.clauses.now c.requires.over

-- ---- a findall

pub returns-in-Ok-try_gathered-clause-next : goal.returns-in-Ok-try_gathered-clause-next
returns-in-Ok-try_gathered-clause-next c =
    let v = c.args.clauses.now in
    let old = held c.args.atoms.now c.args.world.now.first c.args.world.now.second c.args.choices.now in
    let new = held c.try_gathered.new.atoms c.try_gathered.new.world.first c.try_gathered.new.world.second c.try_gathered.new.choices in
    let done = c.in-Ok-try_gathered.ensures in
    let less : length c.try_gathered.new.choices < length c.args.choices.now = done.gone in
    let comes = reaches_over v old new c.requires.over (c.names_may_be_added.ensures.database c.args.atoms.now c.try_gathered.new.atoms done.longer v c.requires.over.program)
    c.in-Ok-try_gathered.next done.comes in (
      comes,
      fewer_left v v old new c.requires.works c.requires.marked done.marked c.in-Ok-try_gathered.next comes
          (some_less c.in-Ok-try_gathered.next _ _ less) (none_less c.in-Ok-try_gathered.next _ _ less),
    )

pub returns-in-Ok-try_gathered-clause-over : goal.returns-in-Ok-try_gathered-clause-over
returns-in-Ok-try_gathered-clause-over c = c.in-Ok-try_gathered.ensures.over c.args.clauses.now c.requires.over

pub returns-in-Err-try_gathered-clause-err : goal.returns-in-Err-try_gathered-clause-err
returns-in-Err-try_gathered-clause-err c =
    let v = c.args.clauses.now in
    let old = held c.args.atoms.now c.args.world.now.first c.args.world.now.second c.args.choices.now in
    let new = held c.try_gathered.new.atoms c.try_gathered.new.world.first c.try_gathered.new.world.second c.try_gathered.new.choices in
    let done = c.in-Err-try_gathered.ensures in
    reaches_over v old new c.requires.over (c.names_may_be_added.ensures.database c.args.atoms.now c.try_gathered.new.atoms done.longer v c.requires.over.program) None done.err

pub returns-in-Err-try_gathered-clause-stops : goal.returns-in-Err-try_gathered-clause-stops
returns-in-Err-try_gathered-clause-stops c =
    let v = c.args.clauses.now in
    let old = held c.args.atoms.now c.args.world.now.first c.args.world.now.second c.args.choices.now in
    let new = held c.try_gathered.new.atoms c.try_gathered.new.world.first c.try_gathered.new.world.second c.try_gathered.new.choices in
    let done = c.in-Err-try_gathered.ensures in
    stops_over v old new c.requires.over (c.names_may_be_added.ensures.database c.args.atoms.now c.try_gathered.new.atoms done.longer v c.requires.over.program)
    c.args.world.now.first.store.pivots c.in-Err-try_gathered.fault done.stops

pub returns-in-Err-try_gathered-clause-over : goal.returns-in-Err-try_gathered-clause-over
returns-in-Err-try_gathered-clause-over c = c.in-Err-try_gathered.ensures.over c.args.clauses.now c.requires.over

-- ---- clauses that are compared

pub returns-in-Ok-try_matches-clause-next : goal.returns-in-Ok-try_matches-clause-next
returns-in-Ok-try_matches-clause-next c = (c.in-Ok-try_matches.ensures.comes, c.in-Ok-try_matches.ensures.fewer)

-- ---- a catch that has a ball

pub returns-in-Goes-clause-next : goal.returns-in-Goes-clause-next
returns-in-Goes-clause-next c =
    let v = c.args.clauses.now in
    let old = held c.args.atoms.now c.args.world.now.first c.args.world.now.second c.args.choices.now in
    let new = held c.args.atoms.now c.try_caught.new.world.first c.try_caught.new.world.second c.try_caught.new.choices in
    let done = c.in-Ok-try_caught.ensures in
    let less : length c.try_caught.new.choices < length c.args.choices.now = done.fewer in
    let comes = reaches_over v old new c.requires.over (λ ops. refl) (Some c.in-Goes.first) (rw c.in-Goes.is at done.comes) in
    (comes, fewer_left v v old new c.requires.works c.requires.marked done.marked (Some c.in-Goes.first) comes (omega (arith, less)) tt)

pub returns-in-HandedOn-clause-next : goal.returns-in-HandedOn-clause-next
returns-in-HandedOn-clause-next c =
    let v = c.args.clauses.now in
    let old = held c.args.atoms.now c.args.world.now.first c.args.world.now.second c.args.choices.now in
    let new = held c.args.atoms.now c.try_caught.new.world.first c.try_caught.new.world.second c.try_caught.new.choices in
    let done = c.in-Ok-try_caught.ensures in
    let less : length c.try_caught.new.choices < length c.args.choices.now = done.fewer in
    let comes = reaches_over v old new c.requires.over (λ ops. refl) None (rw c.in-HandedOn.is at done.comes) in
    (comes, fewer_left v v old new c.requires.works c.requires.marked done.marked None comes tt less)

pub returns-in-Escaped-clause-next : goal.returns-in-Escaped-clause-next
returns-in-Escaped-clause-next c =
    let v = c.args.clauses.now in
    let old = held c.args.atoms.now c.args.world.now.first c.args.world.now.second c.args.choices.now in
    let new = held c.args.atoms.now c.try_caught.new.world.first c.try_caught.new.world.second c.try_caught.new.choices in
    let done = c.in-Ok-try_caught.ensures in
    let gone = rw c.in-Escaped.is at done.gone in
    (throws_over v old new c.requires.over refl c.in-Escaped.ball (rw c.in-Escaped.is at done.comes), gone.0, gone.1)

pub returns-in-Goes-clause-over : goal.returns-in-Goes-clause-over
returns-in-Goes-clause-over c = c.in-Ok-try_caught.ensures.over c.args.clauses.now c.requires.over

pub returns-in-HandedOn-clause-over : goal.returns-in-HandedOn-clause-over
returns-in-HandedOn-clause-over c = c.in-Ok-try_caught.ensures.over c.args.clauses.now c.requires.over

pub returns-in-Escaped-clause-over : goal.returns-in-Escaped-clause-over
returns-in-Escaped-clause-over c = c.in-Ok-try_caught.ensures.over c.args.clauses.now c.requires.over

pub returns-in-Err-try_caught-clause-err : goal.returns-in-Err-try_caught-clause-err
returns-in-Err-try_caught-clause-err c =
    let old = held c.args.atoms.now c.args.world.now.first c.args.world.now.second c.args.choices.now in
    let new = held c.args.atoms.now c.try_caught.new.world.first c.try_caught.new.world.second c.try_caught.new.choices in
    reaches_over c.args.clauses.now old new c.requires.over (λ ops. refl) None c.in-Err-try_caught.ensures.err

pub returns-in-Err-try_caught-clause-stops : goal.returns-in-Err-try_caught-clause-stops
returns-in-Err-try_caught-clause-stops c =
    let old = held c.args.atoms.now c.args.world.now.first c.args.world.now.second c.args.choices.now in
    let new = held c.args.atoms.now c.try_caught.new.world.first c.try_caught.new.world.second c.try_caught.new.choices in
    stops_over c.args.clauses.now old new c.requires.over (λ ops. refl) c.args.world.now.first.store.pivots c.in-Err-try_caught.fault c.in-Err-try_caught.ensures.stops

pub returns-in-Err-try_caught-clause-over : goal.returns-in-Err-try_caught-clause-over
returns-in-Err-try_caught-clause-over c = c.in-Err-try_caught.ensures.over c.args.clauses.now c.requires.over
