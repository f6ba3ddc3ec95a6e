use Rattle.spec_terms.specs.Term.{Number}
use Rattle.cq_read.proofs.Kept.{grows_by}
use Rattle.cq_read.proofs.ParseNaming.{terms_by}
use Rattle.cq_read.proofs.parse.building.number.Goals as goal

pub returns-clause-heap : goal.returns-clause-heap
returns-clause-heap c =
    grows_by c.args.heap.now c.number.new.self (Number c.args.number) c.number.result c.number.ensures.terms c.number.ensures.images c.number.ensures.saved c.number.ensures.room c.number.ensures.err

pub returns-clause-names : goal.returns-clause-names
returns-clause-names c texts = terms_by texts c.args.heap.now.now.terms c.number.new.self.now.terms (Number c.args.number) c.number.result c.number.ensures.terms tt
