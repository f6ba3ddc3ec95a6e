use Rattle.std.proofs.Common.{List, length, sym, ap, subst, ◌∙◌, arith}
use Rattle.spec_search.specs.Search.{start}
use Rattle.cq_attr.proofs.Elements.{on_err}
use Rattle.cq_term.specs.Trees.{tree}
use Rattle.cq_control.specs.Open.{AreMarked}
use Rattle.cq_settle.specs.Contents.{Contents}
use Rattle.spec_engine.specs.declared.machine.cell.Cell.{Cell}
use Rattle.spec_engine.specs.Cells.{Value}
use Rattle.cq_branch.specs.Choices.{AreOpen}
use Rattle.cq_branch.specs.Lists.{goal_cell}
use Rattle.cq_branch.specs.Worlds.{saved_values}
use Rattle.cq_machine.specs.Machines.{terms, now, database_of}
use Rattle.cq_engine.proofs.Idle.{first_cells, started}
use Rattle.cq_engine.proofs.events.engine.Engine.start.Goals as goal

pub returns-clause-stands : goal.returns-clause-stands
returns-clause-stands c =
    let m = c.args.self.now.machine in
    let lists = c.before-2.new.self in
    let k = c.in_ok-k.k in
    let h = first_cells m.world.second.now lists.now k c.done.result c.cell_of-cell.result (goal_cell m.atoms (terms m) c.args.goal 0) c.in_ok-k.ensures.number c.in_ok-k.ensures.now
    c.requires.idle.lists c.done.ensures (c.cell_of-cell.ensures m.atoms) in
    started m.atoms m.clauses (database_of m) (now m).0 lists.now (saved_values m.world.first lists.saved) m.choices k c.args.goal c.requires.idle.nothing c.requires.idle.choices c.requires.goal h

pub returns-clause-running : goal.returns-clause-running
returns-clause-running c =
    let m = c.args.self.now.machine in
    let sound = c.requires.idle.sound in
    let lists = c.before-2.new.self in
    let k = c.in_ok-k.k in
    let same = ap (λ (l : List (List (List Cell))). saved_values m.world.first l) c.before-2.ensures.saved in
    let h = first_cells m.world.second.now lists.now k c.done.result c.cell_of-cell.result (goal_cell m.atoms (terms m) c.args.goal 0) c.in_ok-k.ensures.number c.in_ok-k.ensures.now
    c.requires.idle.lists c.done.ensures (c.cell_of-cell.ensures m.atoms) in
    record {
      kept = record {
        known = sound.known;
        different = sound.different;
        program = sound.program;
        operators_named = sound.operators_named;
        marked = subst (λ (l : List (Value Contents)). AreMarked l m.choices) (sym same) sound.marked;
        untried = subst (λ (l : List (Value Contents)). AreOpen m.atoms m.clauses l m.choices) (sym same) sound.untried;
      };
      search = start (database_of m) (tree m.atoms (terms m) c.args.goal) (length m.world.first.heap.now.images);
      stands = started m.atoms m.clauses (database_of m) (now m).0 lists.now (saved_values m.world.first lists.saved) m.choices k c.args.goal c.requires.idle.nothing c.requires.idle.choices
          c.requires.goal h;
      within = omega arith;
    }

pub returns-in_err-k-clause-err : goal.returns-in_err-k-clause-err
returns-in_err-k-clause-err c =
    let i = c.requires.idle in
    let m = c.args.self.now.machine in
    let sound = i.sound in
    let same = ap (λ (l : List (List (List Cell))). saved_values m.world.first l) c.before-2.ensures.saved in
    on_err c.from_residual.result
    (record {
      sound = record {
        known = sound.known;
        different = sound.different;
        names = sound.names;
        program = sound.program;
        operators_named = sound.operators_named;
        marked = subst (λ (l : List (Value Contents)). AreMarked l m.choices) (sym same) sound.marked;
        untried = subst (λ (l : List (Value Contents)). AreOpen m.atoms m.clauses l m.choices) (sym same) sound.untried;
      };
      nothing = i.nothing;
      lists = c.in_err-k.ensures.err ∙ i.lists;
      choices = i.choices;
    })
