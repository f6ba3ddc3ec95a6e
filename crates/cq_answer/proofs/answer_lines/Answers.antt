use Rattle.std.proofs.Common.{◌≡◌, ◌++◌, ◌∙◌, Err, List, sym, ap, subst, drop, length}
use Rattle.std.specs.Prelude.{filter}
use Rattle.spec_linear.specs.Solution.{Solvable}
use Rattle.spec_simplex.specs.Answers.{IsProjectionDue}
use Rattle.spec_answers.specs.Lines.{or_true, lines_text}
use Rattle.spec_answers.specs.Rows.{row_variables}
use Rattle.cq_frac.specs.declared.VarId.{VarId}
use Rattle.cq_term.specs.Trees.{tree}
use Rattle.cq_attr.specs.declared.susp.Susp.{Susp}
use Rattle.cq_term.specs.Places.{numbers_of}
use Rattle.cq_write.specs.Meaning.{operators}
use Rattle.cq_project.specs.Answering.{IsRefusedAnswering, IsSpentAnswering}
use Rattle.cq_project.specs.EliminateFaults.{IfRows}
use Rattle.cq_project.proofs.Exits.{one_fault}
use Rattle.cq_settle.specs.Worlds.{now_of}
use Rattle.cq_answer.specs.Names.{name_among}
use Rattle.cq_project.specs.Projecting.{IsProjection, rows_of}
use Rattle.cq_answer.specs.Shown.{all_waiting, bound_in, free_in, constraint_trees, goal_trees, shown_trees, AreLive}
use Rattle.cq_answer.specs.Numbered.{counted, has_variable}
use Rattle.cq_answer.specs.Lines.{lines_with}
use Rattle.cq_answer.proofs.Shows.{waiting_live}
use Rattle.cq_answer.proofs.States.{free_first, at_state}
use Rattle.cq_answer.proofs.Answered.{answered}
use Rattle.cq_answer.proofs.answer_lines.Goals as goal

pub residues_of-requires-clause-waiting_live : goal.residues_of-requires-clause-waiting_live
residues_of-requires-clause-waiting_live c = waiting_live c.args.atoms.now (now_of c.args.world.now) c.requires.ready.0 c.requires.ready.1.stands

pub project-requires-clause-solvable : goal.project-requires-clause-solvable
project-requires-clause-solvable c = subst Solvable (sym c.told.ensures.told) c.told.ensures.solvable

pub returns-in-Err-clause-overflow : goal.returns-in-Err-clause-overflow
returns-in-Err-clause-overflow c = λ pair e st ready.
    let fault = c.in-Err.ensures.overflow pair (ap Err (one_fault c.in-Err.fault _ e)) in
    at_state c.args.names.now st c.args.atoms.now (now_of c.args.world.now) ready c.requires.live (λ vs l. IsRefusedAnswering vs l pair)
    c.in_ok-left.left.wanted.items c.deref.result.now c.told.result.now (c.in_ok-left.ensures.wanted c.args.atoms.now) c.deref.ensures.value c.told.ensures.told fault

pub returns-in-Err-clause-pivots : goal.returns-in-Err-clause-pivots
returns-in-Err-clause-pivots c = λ n e st ready.
    let fault = c.in-Err.ensures.pivots n (ap Err (one_fault c.in-Err.fault _ e)) in (
      fault.0 ∙ c.pivots.ensures,
      at_state c.args.names.now st c.args.atoms.now (now_of c.args.world.now) ready c.requires.live (λ vs l. IsSpentAnswering vs l n)
          c.in_ok-left.left.wanted.items c.deref.result.now c.told.result.now (c.in_ok-left.ensures.wanted c.args.atoms.now) c.deref.ensures.value c.told.ensures.told fault.1,
    )

pub returns-in-Err-clause-limit : goal.returns-in-Err-clause-limit
returns-in-Err-clause-limit c = λ st ready.
    at_state c.args.names.now st c.args.atoms.now (now_of c.args.world.now) ready c.requires.live (λ vs l. IfRows c.in-Err.fault (IsProjectionDue vs l 4096))
    c.in_ok-left.left.wanted.items c.deref.result.now c.told.result.now (c.in_ok-left.ensures.wanted c.args.atoms.now) c.deref.ensures.value c.told.ensures.told c.in-Err.ensures.limit

pub named_variables-requires : goal.named_variables-requires
named_variables-requires c =
    let texts = c.args.atoms.now in
    let w = now_of c.args.world.now in
    free_first (free_in (tree texts w.heap.images) c.args.names.now) c.in_ok-left.left.free.items (shown_trees texts w.heap c.args.names.now (all_waiting w.attrs))
    c.in_ok-left.left.wanted.items c.deref-2.result.now (c.in_ok-left.ensures.free texts) (c.in_ok-left.ensures.wanted texts) c.deref-2.ensures.value

pub lines_of-requires-clause-live : goal.lines_of-requires-clause-live
lines_of-requires-clause-live c =
    let w = now_of c.args.world.now in
    subst (AreLive w.heap) (sym (c.deref-4.ensures.value ∙ c.in_ok-left.ensures.waiting)) (waiting_live c.args.atoms.now w c.requires.ready.0 c.requires.ready.1.stands)

pub returns-clause-answer : goal.returns-clause-answer
returns-clause-answer c = λ st ready.
    let texts = c.args.atoms.now in
    let names = c.args.names.now in
    let w = now_of c.args.world.now in
    let ops = operators texts c.args.ops.now in
    let left = c.in_ok-left.left in
    let said = c.in_ok-left.ensures in
    let rows = c.in-Ok.rows in
    let given = c.deref-3.result.now in
    let images = tree texts w.heap.images in
    let targets = numbers_of left.wanted.items in
    let projection =
    subst (λ l. IsProjection targets l rows) c.told.ensures.told
    (subst (λ (vs : List VarId). IsProjection (numbers_of vs) c.told.result.now rows) c.deref.ensures.value c.in-Ok.ensures.rows) in
    let are_given = c.deref-3.ensures.value ∙ c.in_ok-given.ensures
    ∙ ap (λ (vs : List VarId). left.free.items ++ counted 0 (drop (length left.free.items) (numbers_of vs) ++ filter (has_variable (row_variables (rows_of rows))) (numbers_of rows.kept.items)))
    c.deref-2.ensures.value in
    let is_text = c.in_ok-text.ensures.lines
    ∙ ap (λ (ks : List Susp). lines_text (or_true (lines_with ops given (name_among given) images (bound_in images names) (rows_of rows) (constraint_trees texts w.heap ks) (goal_trees texts w.heap ks))))
    (c.deref-4.ensures.value ∙ said.waiting) in
    answered ops names st texts w ready c.requires.live rows left.free.items given targets c.in_ok-text.text.items
    (said.free texts) (said.wanted texts) said.distinct projection are_given is_text
