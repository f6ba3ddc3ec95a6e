use Rattle.std.proofs.Common.{◌∙◌}
use Rattle.spec_builtins.specs.Built.{indicator_of}
use Rattle.cq_term.specs.Texts.{text_of}
use Rattle.cq_predicates.specs.Names.{as_predicate}
use Rattle.cq_term.specs.Meaning.{at}
use Rattle.cq_term.specs.Trees.{tree}
use Rattle.cq_machine.specs.Machines.{terms}
use Rattle.cq_execute.proofs.Table.{arity_of}
use Rattle.cq_execute.proofs.Offered.{named_so, offer_done}
use Rattle.cq_execute.proofs.Done.{quiet_done}
use Rattle.cq_execute.proofs.rows.offered.Goals as goal

pub offer-requires-clause-arity : goal.offer-requires-clause-arity
offer-requires-clause-arity c =
    let m = c.args.m.now in
    let t = tree m.atoms (terms m) c.args.goal in
    let q = as_predicate c.args.predicate in
    arity_of (text_of m.atoms) (at (terms m) c.args.goal) ∙ c.predicates_are_found_by_name_and_arity.ensures.arity (indicator_of t) q (named_so t q c.requires.calls)

pub returns : goal.returns
returns c =
    let m = c.args.m.now in
    let new = c.offer.new.m in
    quiet_done m new c.args.goal c.args.height c.args.rest _ c.quiet.result
    (offer_done m new c.offer.ensures.program c.args.goal c.args.height c.args.rest (as_predicate c.args.predicate) c.requires.calls c.rows_are_replies.ensures.errors
    c.offer.result c.offer.ensures.row c.offer.ensures.goes c.offer.ensures.raises c.offer.ensures.sound c.offer.ensures.budget c.offer.ensures.err)
    c.quiet.ensures
