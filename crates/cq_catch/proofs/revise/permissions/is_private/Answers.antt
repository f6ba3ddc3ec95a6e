use Rattle.std.proofs.Common.{None, Some, sym, ap, ◌∙◌}
use Rattle.std.specs.Option.{option_map}
use Rattle.spec_search.specs.Database as search
use Rattle.cq_built.specs.Errors.{indicator_of}
use Rattle.cq_resolve.specs.Database.{as_database, as_kind}
use Rattle.cq_catch.proofs.Refused.{built_in_private, private_by_kind}
use Rattle.cq_catch.proofs.revise.permissions.is_private.Goals as goal

pub returns-then-is_built_in : goal.returns-then-is_built_in
returns-then-is_built_in c = λ ops.
    built_in_private (as_database c.args.atoms.now ops c.args.clauses.now) (indicator_of c.args.atoms.now c.args.predicate) (sym c.is_built_in.ensures ∙ c.if-is_built_in.true)

pub returns-in-Some-Static : goal.returns-in-Some-Static
returns-in-Some-Static c = λ ops.
    let texts = c.args.atoms.now in
    let v = c.args.clauses.now in
    private_by_kind (as_database texts ops v) (indicator_of texts c.args.predicate) (Some search.Static) (sym c.is_built_in.ensures ∙ c.if-is_built_in.false)
    (c.calls_read_the_database.ensures.kind texts c.requires.different c.args.predicate c.requires.known v c.requires.program ops
    ∙ ap (option_map as_kind) (sym c.status_of.ensures ∙ c.in-Some-Static.is ∙ ap Some c.in-Some-Static.field-0-is))

pub returns-in-Some-Dynamic : goal.returns-in-Some-Dynamic
returns-in-Some-Dynamic c = λ ops.
    let texts = c.args.atoms.now in
    let v = c.args.clauses.now in
    private_by_kind (as_database texts ops v) (indicator_of texts c.args.predicate) (Some search.Dynamic) (sym c.is_built_in.ensures ∙ c.if-is_built_in.false)
    (c.calls_read_the_database.ensures.kind texts c.requires.different c.args.predicate c.requires.known v c.requires.program ops
    ∙ ap (option_map as_kind) (sym c.status_of.ensures ∙ c.in-Some-Dynamic.is ∙ ap Some c.in-Some-Dynamic.field-0-is))

pub returns-in-None : goal.returns-in-None
returns-in-None c = λ ops.
    let texts = c.args.atoms.now in
    let v = c.args.clauses.now in
    private_by_kind (as_database texts ops v) (indicator_of texts c.args.predicate) None (sym c.is_built_in.ensures ∙ c.if-is_built_in.false)
    (c.calls_read_the_database.ensures.kind texts c.requires.different c.args.predicate c.requires.known v c.requires.program ops
    ∙ ap (option_map as_kind) (sym c.status_of.ensures ∙ c.in-None.is))
