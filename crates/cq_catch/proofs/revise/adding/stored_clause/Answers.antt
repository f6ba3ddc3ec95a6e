use Rattle.std.proofs.Common.{◌∙◌, length, ap₂}
use Rattle.spec_numbers.proofs.Prefixes.{prefix_within}
use Rattle.spec_syntax.specs.Trees.{Tree}
use Rattle.spec_builtins.specs.Clauses.{counted_on}
use Rattle.cq_built.proofs.Trees.{kept, known_at}
use Rattle.cq_term.specs.Meaning.{at}
use Rattle.cq_catch.proofs.revise.adding.stored_clause.Goals as goal

pub of-requires-clause-head : goal.of-requires-clause-head
of-requires-clause-head c = prefix_within c.args.heap.now.now.terms c.goal_of.new.heap.now.terms c.args.parts.head c.in_ok-body.ensures.grows.terms c.requires.head

pub returns-clause-holds : goal.returns-clause-holds
returns-clause-holds c =
    let texts = c.args.atoms.now in
    let more = c.goal_of.new.atoms in
    let us = c.goal_of.new.heap.now.terms in
    c.clauses_are_counted.ensures.kept (at us c.args.parts.head) (at us c.in_ok-body.body) c.in_ok-clause.clause c.in_ok-clause.ensures.renamed more
    ∙ ap₂ (λ (h b : Tree). counted_on 0 (record { head = h; body = b }))
    (kept texts more c.args.heap.now c.goal_of.new.heap c.in_ok-body.ensures.grows c.requires.names c.args.parts.head c.requires.head) c.in_ok-body.ensures.converted

pub returns-clause-counted : goal.returns-clause-counted
returns-clause-counted c =
    let more = c.goal_of.new.atoms in
    let us = c.goal_of.new.heap.now.terms in
    let known = c.in_ok-body.ensures.grows.names c.requires.names in
    let live = prefix_within c.args.heap.now.now.terms us c.args.parts.head c.in_ok-body.ensures.grows.terms c.requires.head in
    c.clauses_are_counted.ensures.counted (at us c.args.parts.head) (at us c.in_ok-body.body) c.in_ok-clause.clause c.in_ok-clause.ensures.renamed (length more) c.in_ok-clause.ensures.variables
    (c.in_ok-clause.ensures.names (length more) (known_at more us c.args.parts.head known live) (known_at more us c.in_ok-body.body known c.in_ok-body.ensures.live))
