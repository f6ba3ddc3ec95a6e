-- The value of an expression, as the row of a goal says it.
use Rattle.std.proofs.Common.{◌≡◌, List, [], ◌∷◌, sym, ap, ◌∙◌}
use Rattle.spec_numbers.specs.Texts.{Text}
use Rattle.spec_terms.specs.Operations.{Evaluated}
use Rattle.spec_syntax.specs.Trees.{Tree}
use Rattle.spec_builtins.specs.Alternatives.{◌≐◌}
use Rattle.spec_search.specs.Changes.{is_value}
use Rattle.spec_search.specs.Replies.{Place, Raises, unifies}
use Rattle.cq_goals.specs.Faults.{IsOutcome, IsValue}
use Rattle.cq_goals.specs.declared.faults.GoalFault.{GoalFault}
use Rattle.cq_goals.specs.declared.faults.GoalFault.TheVariants as goal
use Rattle.cq_term.specs.Meaning.{HeapTerm}
use Rattle.cq_relations.specs.Faults.{IsRefused}

pub value_is : (p : Place) (x : Tree) (r : Evaluated) (t : Tree) → IsValue r t → is_value p x r ≡ unifies p ((x ≐ t) ∷ [])
value_is p x r t v = ap (is_value p x) v.value ∙ ap (λ (u : Tree). unifies p ((x ≐ u) ∷ [])) (sym v.term)

pub value_refused : (texts : List Text) (ts : List HeapTerm) (p : Place) (x : Tree) (r : Evaluated) (f : GoalFault) → IsOutcome texts ts r f → IsRefused texts ts f (is_value p x r)
value_refused texts ts p x r (goal.Error e) h = ap (is_value p x) h.fails ∙ ap (λ (t : Tree). Raises t) h.term
value_refused texts ts p x r (goal.Overflow pair) h = ap (is_value p x) h
value_refused texts ts p x r goal.NoMemory h = tt
