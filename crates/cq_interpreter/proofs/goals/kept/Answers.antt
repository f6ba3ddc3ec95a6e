use Rattle.std.proofs.Common.{◌≡◌, ◌<◌, ◌∙◌, ℕ, length, sym, ap, ap₂, subst}
use Rattle.spec_numbers.proofs.Prefixes.{prefix_get_or}
use Rattle.spec_terms.specs.Term.{Occurs, with_arguments}
use Rattle.spec_terms.specs.Variables.{variables, renamed_from}
use Rattle.cq_built.proofs.Trees.{known_at}
use Rattle.cq_term.specs.Meaning.{HeapTerm, at, blank}
use Rattle.cq_term.specs.Names.{HasNamesBelow}
use Rattle.cq_unify.specs.Copied.{unbound_from}
use Rattle.cq_resolve.specs.StoredValue.{both}
use Rattle.cq_interpreter.proofs.Keeping.{kept_goal, counted_all}
use Rattle.cq_interpreter.proofs.Restoring.{names_over_variables}
use Rattle.cq_interpreter.proofs.goals.kept.Goals as goal
use Rattle.cq_interpreter.proofs.goals.kept.Goals.{In_ok-clause}

-- the goal is on the heap as it was
goal_same : (c : In_ok-clause) → at c.over_variables.new.heap.now.terms c.args.goal ≡ at c.args.heap.now.now.terms c.args.goal
goal_same c = prefix_get_or c.args.heap.now.now.terms c.over_variables.new.heap.now.terms c.args.goal blank c.in_ok-head.ensures.terms c.requires.live

-- the two terms that were kept
both_are : (c : In_ok-clause) → both (at c.over_variables.new.heap.now.terms c.in_ok-head.head) (at c.over_variables.new.heap.now.terms c.args.goal)
    ≡ both (with_arguments c.args.name (unbound_from 0 (length c.args.heap.now.now.images))) (at c.args.heap.now.now.terms c.args.goal)
both_are c = ap₂ both c.in_ok-head.ensures.over (goal_same c)

inside : (c : In_ok-clause) (v : ℕ) → Occurs v (at c.args.heap.now.now.terms c.args.goal) → v < length c.args.heap.now.now.images
inside c v o = (c.view.ensures.inside v o).0

pub returns-clause-body : goal.returns-clause-body
returns-clause-body c =
    let d = (goal.at.returns-clause-body c).In_ok-clause in
    kept_goal c.args.name (length c.args.heap.now.now.images) (at c.args.heap.now.now.terms c.args.goal) (inside d) c.in_ok-clause.clause.head c.in_ok-clause.clause.body
    (c.in_ok-clause.ensures.renamed ∙ ap (renamed_from 0) (both_are d))

pub returns-clause-variables : goal.returns-clause-variables
returns-clause-variables c =
    let d = (goal.at.returns-clause-variables c).In_ok-clause in
    c.in_ok-clause.ensures.variables ∙ ap (λ (t : HeapTerm). length (variables t)) (both_are d)
    ∙ counted_all c.args.name (length c.args.heap.now.now.images) (at c.args.heap.now.now.terms c.args.goal) (inside d)

pub returns-clause-names : goal.returns-clause-names
returns-clause-names c =
    let d = (goal.at.returns-clause-names c).In_ok-clause in
    λ texts known lt. c.in_ok-clause.ensures.names (length texts)
    (subst (HasNamesBelow (length texts)) (sym c.in_ok-head.ensures.over) (names_over_variables (length texts) c.args.name 0 (length c.args.heap.now.now.images) lt))
    (subst (HasNamesBelow (length texts)) (sym (goal_same d)) (known_at texts c.args.heap.now.now.terms c.args.goal known c.requires.live))
