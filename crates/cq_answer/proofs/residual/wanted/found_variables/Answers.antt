use Rattle.std.proofs.Common.{◌≡◌, ◌∙◌, ℕ, List, [], sym, ap, subst, map}
use Rattle.std.specs.Prelude.{fold}
use Rattle.spec_linear.specs.Echelon.{AreDistinct}
use Rattle.spec_terms.specs.VariableName.{VariableName}
use Rattle.spec_numbers.specs.Texts.{Text}
use Rattle.spec_terms.specs.Variables.{variables_after}
use Rattle.cq_term.specs.Trees.{tree}
use Rattle.cq_term.specs.Places.{numbers_of}
use Rattle.cq_answer.specs.Shown.{bound_trees, constraint_trees, goal_trees, shown_trees}
use Rattle.cq_answer.proofs.Variables.{with_all, found_all, distinct_terms}
use Rattle.cq_answer.proofs.residual.wanted.found_variables.Goals as goal

pub returns-clause-wanted : goal.returns-clause-wanted
returns-clause-wanted c texts =
    let h = c.args.heap.now.now in
    let numbers = map (λ (n : VariableName). n.number) c.args.free.now in
    let start = c.in_ok-add_free.ensures ∙ ap (λ ks. with_all (numbers_of ks) numbers) c.new-found.ensures.empty in
    found_all numbers (numbers_of c.add_free.new.found.keys) (numbers_of c.add_bound.new.found.keys) (numbers_of c.add_constraints.new.found.keys) (numbers_of c.add_goals.new.found.keys)
    (bound_trees (tree texts h.images) c.args.names.now) (constraint_trees texts h c.args.waiting.now) (goal_trees texts h c.args.waiting.now)
    c.requires.distinct start (c.in_ok-add_bound.ensures texts) (c.in_ok-add_constraints.ensures texts) (c.in_ok-add_goals.ensures texts)

pub returns-clause-distinct : goal.returns-clause-distinct
returns-clause-distinct c =
    let h = c.args.heap.now.now in
    let texts : List Text = [] in
    let numbers = map (λ (n : VariableName). n.number) c.args.free.now in
    let start = c.in_ok-add_free.ensures ∙ ap (λ ks. with_all (numbers_of ks) numbers) c.new-found.ensures.empty in
    let all = found_all numbers (numbers_of c.add_free.new.found.keys) (numbers_of c.add_bound.new.found.keys) (numbers_of c.add_constraints.new.found.keys) (numbers_of c.add_goals.new.found.keys)
    (bound_trees (tree texts h.images) c.args.names.now) (constraint_trees texts h c.args.waiting.now) (goal_trees texts h c.args.waiting.now)
    c.requires.distinct start (c.in_ok-add_bound.ensures texts) (c.in_ok-add_constraints.ensures texts) (c.in_ok-add_goals.ensures texts) in
    subst AreDistinct (sym all) (distinct_terms (shown_trees texts h c.args.names.now c.args.waiting.now) numbers c.requires.distinct)
