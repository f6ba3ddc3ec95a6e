use Rattle.std.proofs.Common.{map}
use Rattle.spec_terms.specs.Term.{with_arguments}
use Rattle.cq_term.specs.Meaning.{at}
use Rattle.cq_read.proofs.Kept.{grows_by}
use Rattle.cq_read.proofs.ParseNaming.{over_terms, terms_by}
use Rattle.cq_read.proofs.parse.building.compound.Goals as goal

pub returns-clause-heap : goal.returns-clause-heap
returns-clause-heap c =
    grows_by c.args.heap.now c.compound.new.self (with_arguments c.args.name (map (at c.args.heap.now.now.terms) c.args.args.now)) c.compound.result c.compound.ensures.terms c.compound.ensures.images c.compound.ensures.saved c.compound.ensures.room c.compound.ensures.err

pub returns-clause-names : goal.returns-clause-names
returns-clause-names c texts known all =
    let ts = c.args.heap.now.now.terms in
    terms_by texts ts c.compound.new.self.now.terms (with_arguments c.args.name (map (at ts) c.args.args.now)) c.compound.result c.compound.ensures.terms
    (over_terms texts ts c.args.name c.args.args.now known c.requires.live all) all
