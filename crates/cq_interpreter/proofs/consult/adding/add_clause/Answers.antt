use Rattle.std.proofs.Common.{◌∙◌, refl, sym, ap, subst, arith, codes}
use Rattle.spec_numbers.proofs.Prefixes.{prefix_same}
use Rattle.spec_numbers.specs.Texts.{Text}
use Rattle.spec_builtins.specs.Built.{indicator}
use Rattle.spec_builtins.specs.Errors.{error_ball}
use Rattle.spec_builtins.specs.Clauses.{HeadBody, head_body}
use Rattle.spec_search.specs.Changes.{consult_error}
use Rattle.cq_term.proofs.Named.{text_is}
use Rattle.cq_built.specs.Errors.{error_tree}
use Rattle.cq_built.proofs.Growing.{known_longer, longer_by_text, grows_names}
use Rattle.cq_built.proofs.Trees.{tree_kept, name_known}
use Rattle.cq_built.proofs.Named.{grows_by_name, grows_behind_name}
use Rattle.cq_clauses.specs.declared.list.End.TheVariants.{Last}
use Rattle.cq_clauses.specs.declared.procedures.Kind.TheVariants.{Static}
use Rattle.cq_catch.specs.Revised.{AddsStored}
use Rattle.cq_interpreter.proofs.consult.adding.add_clause.Goals as goal

pub check-requires-clause-names : goal.check-requires-clause-names
check-requires-clause-names c =
    known_longer c.args.atoms.now c.intern.new.self c.args.heap.now.now.terms (longer_by_text c.args.atoms.now c.intern.new.self (codes "assertz") c.in_ok-name.ensures.texts) c.requires.names

pub add-requires-clause-names : goal.add-requires-clause-names
add-requires-clause-names c =
    known_longer c.args.atoms.now c.intern.new.self c.args.heap.now.now.terms (longer_by_text c.args.atoms.now c.intern.new.self (codes "assertz") c.in_ok-name.ensures.texts) c.requires.names

pub ball-requires-clause-names : goal.ball-requires-clause-names
ball-requires-clause-names c =
    known_longer c.args.atoms.now c.intern.new.self c.args.heap.now.now.terms (longer_by_text c.args.atoms.now c.intern.new.self (codes "assertz") c.in_ok-name.ensures.texts) c.requires.names

pub returns-in_ok-add-in-Ok-clause-came : goal.returns-in_ok-add-in-Ok-clause-came
returns-in_ok-add-in-Ok-clause-came c =
    let texts = c.args.atoms.now in
    let named = c.intern.new.self in
    let ts = c.args.heap.now.now.terms in
    let longer = longer_by_text texts named (codes "assertz") c.in_ok-name.ensures.texts in
    let same = tree_kept texts named ts ts longer (prefix_same ts ts refl) c.requires.names c.args.clause c.requires.live in (
      ap consult_error (sym same) ∙ c.in-Ok.ensures.lawful,
      subst (λ (parts : HeadBody). AddsStored Last Static c.add.new.atoms parts c.args.clauses.now c.add.new.clauses) (sym c.in-Ok.ensures.parts.are ∙ ap head_body same)
          c.in_ok-add-in-Ok.ensures.added,
    )

pub returns-in_ok-add-in-Ok-clause-grows : goal.returns-in_ok-add-in-Ok-clause-grows
returns-in_ok-add-in-Ok-clause-grows c =
    grows_behind_name c.args.atoms.now c.intern.new.self (codes "assertz") c.in_ok-name.ensures.texts c.add.new.atoms c.args.heap.now c.add.new.heap c.in_ok-add-in-Ok.ensures.grows

pub returns-in_err-add-in-Ok-clause-grows : goal.returns-in_err-add-in-Ok-clause-grows
returns-in_err-add-in-Ok-clause-grows c =
    grows_behind_name c.args.atoms.now c.intern.new.self (codes "assertz") c.in_ok-name.ensures.texts c.add.new.atoms c.args.heap.now c.add.new.heap c.in_err-add-in-Ok.ensures.grows

pub ball-requires-clause-goal : goal.ball-requires-clause-goal
ball-requires-clause-goal c = name_known c.intern.new.self c.in_ok-name.name (codes "assertz") c.in_ok-name.ensures.number

pub returns-in_ok-id-in-Error-clause-came : goal.returns-in_ok-id-in-Error-clause-came
returns-in_ok-id-in-Error-clause-came c =
    let texts = c.args.atoms.now in
    let named = c.intern.new.self in
    let ts = c.args.heap.now.now.terms in
    let longer = longer_by_text texts named (codes "assertz") c.in_ok-name.ensures.texts in
    let same = tree_kept texts named ts ts longer (prefix_same ts ts refl) c.requires.names c.args.clause c.requires.live in (
      record {
        error = error_tree named ts c.in-Error.error;
        refused = ap consult_error (sym same) ∙ (rw c.in-Error.is at c.in-Err.ensures.fault);
        live = c.in_ok-id-in-Error.ensures.live;
        is_ball = c.in_ok-id-in-Error.ensures.built
            ∙ ap (λ (f : Text). error_ball (error_tree named ts c.in-Error.error) (indicator f 1)) (text_is named c.in_ok-name.name (codes "assertz") c.in_ok-name.ensures.number);
      },
      refl,
    )

pub returns-in_ok-id-in-Error-clause-grows : goal.returns-in_ok-id-in-Error-clause-grows
returns-in_ok-id-in-Error-clause-grows c =
    grows_behind_name c.args.atoms.now c.intern.new.self (codes "assertz") c.in_ok-name.ensures.texts c.ball.new.atoms c.args.heap.now c.ball.new.heap c.in_ok-id-in-Error.ensures.grows

pub returns-in_err-id-in-Error-clause-grows : goal.returns-in_err-id-in-Error-clause-grows
returns-in_err-id-in-Error-clause-grows c =
    grows_behind_name c.args.atoms.now c.intern.new.self (codes "assertz") c.in_ok-name.ensures.texts c.ball.new.atoms c.args.heap.now c.ball.new.heap c.in_err-id-in-Error.ensures.grows

pub returns-in-NoMemory-clause-grows : goal.returns-in-NoMemory-clause-grows
returns-in-NoMemory-clause-grows c =
    grows_by_name c.args.atoms.now c.intern.new.self (codes "assertz") c.in_ok-name.ensures.texts c.args.heap.now

pub returns-in_err-name-clause-grows : goal.returns-in_err-name-clause-grows
returns-in_err-name-clause-grows c =
    let heap = c.args.heap.now in
    grows_names c.args.atoms.now c.intern.new.self heap heap (prefix_same c.args.atoms.now c.intern.new.self c.in_err-name.ensures.err) refl refl (omega arith)
