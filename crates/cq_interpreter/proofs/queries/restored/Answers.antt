use Rattle.std.proofs.Common.{List, sym, ap, ◌∙◌, subst, length}
use Rattle.spec_terms.proofs.Substitution.{named-apply}
use Rattle.spec_engine.specs.Cells.{Value}
use Rattle.cq_term.specs.Texts.{text_of}
use Rattle.cq_control.specs.Open.{AreMarked}
use Rattle.spec_terms.specs.Term.{named}
use Rattle.cq_resolve.specs.Building.{moved_by}
use Rattle.cq_settle.specs.Contents.{Contents}
use Rattle.cq_branch.specs.Choices.{AreOpen}
use Rattle.cq_interpreter.proofs.Restoring.{marks, longer_by, unbound_more}
use Rattle.cq_interpreter.proofs.queries.restored.Goals as goal

pub returns-clause-restored : goal.returns-clause-restored
returns-clause-restored c =
    let m = c.args.engine.now.machine in
    ap (named (text_of m.atoms)) c.in_ok-ids.ensures.body ∙ named-apply (text_of m.atoms) (moved_by (length m.world.first.heap.now.images)) c.args.waiting.now.clause.body

pub returns-clause-images : goal.returns-clause-images
returns-clause-images c = longer_by c.args.engine.now.machine.world.first.heap.now.images c.rename.new.heap.now.images c.args.waiting.now.clause.variables c.in_ok-ids.ensures.images

pub returns-clause-idle : goal.returns-clause-idle
returns-clause-idle c =
    let m = c.args.engine.now.machine in
    let i = c.requires.idle in
    let s = i.sound in
    let same = marks m.world.first c.rename.new.heap m.world.second.saved c.rename.ensures.saved in
    let names = c.rename.ensures.names (length m.atoms) c.requires.names s.names in
    record {
      sound = record {
        known = s.known;
        different = s.different;
        names = names;
        program = s.program;
        operators_named = s.operators_named;
        marked = subst (λ (l : List (Value Contents)). AreMarked l m.choices) (sym same) s.marked;
        untried = subst (λ (l : List (Value Contents)). AreOpen m.atoms m.clauses l m.choices) (sym same) s.untried;
      };
      nothing = record {
        names = names;
        images = unbound_more m.world.first.heap.now.images c.rename.new.heap.now.images c.args.waiting.now.clause.variables i.nothing.images c.in_ok-ids.ensures.images;
        attrs = i.nothing.attrs;
        told = i.nothing.told;
      };
      lists = i.lists;
      choices = i.choices;
    }
