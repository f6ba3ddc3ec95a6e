use Rattle.spec_terms.specs.Term.{Name}
use Rattle.cq_read.proofs.Kept.{grows_by}
use Rattle.cq_read.proofs.ParseNaming.{known_below, terms_by}
use Rattle.cq_read.proofs.parse.building.atom.Goals as goal

pub returns-clause-heap : goal.returns-clause-heap
returns-clause-heap c =
    grows_by c.args.heap.now c.atom.new.self (Name c.args.name) c.atom.result c.atom.ensures.terms c.atom.ensures.images c.atom.ensures.saved c.atom.ensures.room c.atom.ensures.err

pub returns-clause-names : goal.returns-clause-names
returns-clause-names c texts known =
    terms_by texts c.args.heap.now.now.terms c.atom.new.self.now.terms (Name c.args.name) c.atom.result c.atom.ensures.terms (known_below texts c.args.name known)
