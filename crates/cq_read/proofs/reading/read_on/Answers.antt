use Rattle.std.proofs.Common.{subst, length}
use Rattle.cq_read.specs.Running.{IsStopped}
use Rattle.cq_read.proofs.Running.{clause_read_if}
use Rattle.cq_term.specs.Trees.{KnowsTerms}
use Rattle.cq_read.proofs.Naming.{names_at_start, on_ok}
use Rattle.cq_read.proofs.reading.read_on.Goals as goal

pub returns-in-Goes-clause-reads : goal.returns-in-Goes-clause-reads
returns-in-Goes-clause-reads c =
    let n = length c.args.heap.now.now.images in
    let whole = subst (IsStopped c.args.grammar.now.ops.now c.args.text.now c.args.from n c.read_tokens.new.atoms c.read_tokens.new.heap.now c.read_tokens.new.clause) c.in-Goes.is c.in_ok-next.ensures.read in
    clause_read_if c.args.grammar.now.ops.now c.args.text.now c.args.from n c.read_tokens.new.atoms c.read_tokens.ensures.different c.read_tokens.new.heap.now c.read_tokens.new.clause c.in-Goes.next c.read.result
    whole.1 c.read.ensures

pub returns-in-Goes-clause-known : goal.returns-in-Goes-clause-known
returns-in-Goes-clause-known c known =
    let start = names_at_start c.args.atoms.now c.read_tokens.new.atoms c.args.heap.now.now.terms c.new-clause.result.frames.items c.read_tokens.ensures.kept c.new-clause.ensures.frames known in
    on_ok (KnowsTerms c.read_tokens.new.atoms c.read_tokens.new.heap.now.terms) c.read.result
    (c.in_ok-next.ensures.known c.read_tokens.new.atoms (λ i x e. e) c.read_tokens.ensures.different start).terms

pub returns-in-Stops-clause-known : goal.returns-in-Stops-clause-known
returns-in-Stops-clause-known c known =
    let start = names_at_start c.args.atoms.now c.read_tokens.new.atoms c.args.heap.now.now.terms c.new-clause.result.frames.items c.read_tokens.ensures.kept c.new-clause.ensures.frames known in
    (c.in_ok-next.ensures.known c.read_tokens.new.atoms (λ i x e. e) c.read_tokens.ensures.different start).terms
