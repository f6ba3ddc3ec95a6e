use Rattle.std.proofs.Common.{length}
use Rattle.cq_write.proofs.Heads.{names_of_argument}
use Rattle.cq_term.specs.Meaning.{at}
use Rattle.cq_write.proofs.writer.Writer.argument.Goals as goal

pub returns-clause-known : goal.returns-clause-known
returns-clause-known c =
    let ts = c.args.self.now.heap.now.now.terms in
    record {
      live = c.arg.ensures.live;
      names = names_of_argument (length c.args.self.now.atoms.now) (at ts c.args.term) c.args.at (at ts c.arg.result) c.requires.known.names c.arg.ensures.arg;
    }
