use Rattle.std.proofs.Common.{◌≡◌, Bool, sym, ◌∙◌, subst}
use Rattle.std.specs.Prelude.{true, if◌then◌else◌}
use Rattle.spec_search.specs.Database.{Database, clause_removed}
use Rattle.cq_resolve.specs.Database.{as_database}
use Rattle.cq_catch.proofs.matching.matching.settle_removal.Goals as goal

-- where a test holds, the choice is the first
where_true : (b : Bool) (x y : Database) → b ≡ true → x ≡ (if b then x else y)
where_true b x y e = subst (λ (c : Bool). x ≡ (if c then x else y)) (sym e) (λ i. x)

pub returns-then-removes-clause-database : goal.returns-then-removes-clause-database
returns-then-removes-clause-database c = λ texts ops.
    c.changes_are_those_of_the_database.ensures.removed texts ops c.args.number c.args.clauses.now c.remove.new.self c.remove.ensures.removed
    ∙ where_true c.args.removes (clause_removed c.args.number (as_database texts ops c.args.clauses.now)) (as_database texts ops c.args.clauses.now) c.if-removes.true

pub returns-then-removes-clause-program : goal.returns-then-removes-clause-program
returns-then-removes-clause-program c = λ texts p.
    c.programs_stay_programs.ensures.removed texts c.args.number c.args.clauses.now c.remove.new.self p c.remove.ensures.removed
