use Rattle.std.proofs.Common.{length, ap}
use Rattle.spec_text.specs.Readings.{Ended, Syntax, Clause}
use Rattle.cq_term.specs.Trees.{tree}
use Rattle.cq_ops.specs.Tables.{named}
use Rattle.cq_read.specs.Names.{variables}
use Rattle.cq_lint.proofs.MoreNames.{operators_kept}
use Rattle.cq_lint.proofs.Standing.{leads_clause, leads_fault, reads_here}
use Rattle.cq_lint.proofs.reading.read_sentence.Goals as goal

pub returns-in-End-clause-stands : goal.returns-in-End-clause-stands
returns-in-End-clause-stands c =
    let old = named c.args.atoms.now c.args.ops.now in
    let new = named c.read_clause.new.atoms c.args.ops.now in
    let same = operators_kept c.args.atoms.now c.read_clause.new.atoms c.read_clause.ensures.names c.args.ops.now c.requires.named in
    (reads_here old new c.args.text.now c.args.at _ Ended (rw c.in-End.is at c.in_ok-read_clause.ensures.reads) (ap length c.new-heap.ensures.images) same, same)

pub returns-in-End-clause-named : goal.returns-in-End-clause-named
returns-in-End-clause-named c = c.more_names_keep_the_table.ensures.known c.args.atoms.now c.read_clause.new.atoms c.args.ops.now c.read_clause.ensures.names c.requires.named

pub returns-in-Syntax-clause-stands : goal.returns-in-Syntax-clause-stands
returns-in-Syntax-clause-stands c =
    let old = named c.args.atoms.now c.args.ops.now in
    let new = named c.read_clause.new.atoms c.args.ops.now in
    let same = operators_kept c.args.atoms.now c.read_clause.new.atoms c.read_clause.ensures.names c.args.ops.now c.requires.named in
    let forward = rw c.in-Syntax.is at c.in_ok-read_clause.ensures.forward in
    leads_fault c.args.text.now old c.args.at new c.in-Syntax.at c.in-Syntax.resume
    (reads_here old new c.args.text.now c.args.at _ (Syntax c.in-Syntax.at c.in-Syntax.resume) (rw c.in-Syntax.is at c.in_ok-read_clause.ensures.reads)
    (ap length c.new-heap.ensures.images) same)
    same forward.2 forward.3

pub returns-in-Syntax-clause-named : goal.returns-in-Syntax-clause-named
returns-in-Syntax-clause-named c = c.more_names_keep_the_table.ensures.known c.args.atoms.now c.read_clause.new.atoms c.args.ops.now c.read_clause.ensures.names c.requires.named

pub returns-clause-stands : goal.returns-clause-stands
returns-clause-stands c =
    let texts = c.read_clause.new.atoms in
    let heap = c.read_clause.new.heap.now in
    let old = named c.args.atoms.now c.args.ops.now in
    let new = named texts c.args.ops.now in
    let same = operators_kept c.args.atoms.now texts c.read_clause.ensures.names c.args.ops.now c.requires.named in
    let t = tree texts heap.terms c.in-Clause.term in
    let vs = variables c.in-Clause.names.items heap.images in
    let forward = rw c.in-Clause.is at c.in_ok-read_clause.ensures.forward in
    leads_clause c.args.text.now old c.args.at (named texts c.run_directive.new.ops) new t vs c.in-Clause.next c.in_ok-clause-in-Clause.clause
    (reads_here old new c.args.text.now c.args.at _ (Clause t vs c.in-Clause.next) (rw c.in-Clause.is at c.in_ok-read_clause.ensures.reads) (ap length c.new-heap.ensures.images) same)
    c.in_ok-clause-in-Clause.ensures c.in_ok-run_directive-in-Clause.ensures.set same forward.0 forward.1

pub returns-clause-named : goal.returns-clause-named
returns-clause-named c =
    c.run_directive.ensures.known (c.more_names_keep_the_table.ensures.known c.args.atoms.now c.read_clause.new.atoms c.args.ops.now c.read_clause.ensures.names c.requires.named)
