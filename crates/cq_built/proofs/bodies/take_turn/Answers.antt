use Rattle.std.proofs.Common.{◌≡◌, ◌∙◌, ◌<◌, Some, [], ◌∷◌, ◌++◌, append_assoc, List, length, rules, sym, ap, subst, arith}
use Rattle.std.proofs.lemmas.List.Elements.{All-pop}
use Rattle.cq_term.specs.Trees.{tree}
use Rattle.cq_built.specs.Bodies.{work_of, after, done_trees, Turns}
use Rattle.cq_built.specs.declared.bodies.Task.{Task}
use Rattle.cq_built.specs.declared.bodies.Task.TheVariants as task
use Rattle.cq_built.proofs.Tasks.{sides_wait, one_done, done_last, part_weighs}
use Rattle.cq_built.proofs.bodies.take_turn.Goals as goal

-- three at the end are one after another at the end
three_more : (xs : List Task) (a b c : Task) → xs ++ a ∷ b ∷ c ∷ [] ≡ ((xs ++ a ∷ []) ++ b ∷ []) ++ c ∷ []
three_more xs a b c = simp append_assoc

pub returns-in-Some-clause-turns : goal.returns-in-Some-clause-turns
returns-in-Some-clause-turns c =
    let texts = c.args.atoms.now in
    let ts = c.args.heap.now.now.terms in
    let tasks = c.args.tasks.now.items in
    let done = c.args.done.now.items in
    let new = c.extend_from_slice.new.self.items in
    let s = c.in-Some.sides in
    let pushed = c.in_ok-extend_from_slice-in-Part.ensures.items ∙ three_more tasks (task.Join s.name) (task.Part s.right) (task.Part s.left) in
    subst (λ (t : Task). Turns texts ts t tasks done ts new done) (sym c.in-Part.is)
    (sides_wait texts ts tasks new done c.in-Part.id s c.in-Some.ensures.some c.requires.tasks c.requires.done pushed)

pub returns-in_ok-push-in-Join-clause-turns : goal.returns-in_ok-push-in-Join-clause-turns
returns-in_ok-push-in-Join-clause-turns c =
    let texts = c.args.atoms.now in
    let ts = c.args.heap.now.now.terms in
    let us = c.over.new.heap.now.terms in
    let tasks = c.args.tasks.now.items in
    let done = c.args.done.now.items in
    let one = c.pop.new.self.items in
    let rest = c.pop-in-Join.new.self.items in
    let right = c.unwrap-right.result in
    let left = c.unwrap-left.result in
    let first : done ≡ one ++ right ∷ [] = search rules in
    let second : one ≡ rest ++ left ∷ [] = search rules in
    let live = (All-pop (λ x. x < length ts) done one (Some right) first c.requires.done).0 in
    let rest_live = (All-pop (λ x. x < length ts) one rest (Some left) second live).0 in
    let trees = done_last texts ts one done right first ∙ ap (λ xs. tree texts ts right ∷ xs) (done_last texts ts rest one left second) in
    subst (λ (t : Task). Turns texts ts t tasks done us tasks c.push.new.self.items) (sym c.in-Join.is)
    (one_done texts ts us c.in_ok-id-in-Join.ensures.grows.terms c.requires.names (task.Join c.in-Join.name) tasks done rest c.push.new.self.items c.in_ok-id-in-Join.id
    c.requires.tasks rest_live c.in_ok-id-in-Join.ensures.live c.in_ok-push-in-Join.ensures.items
    (ap (λ xs. after (work_of texts ts (task.Join c.in-Join.name)) (Some xs)) trees ∙ ap (λ t. Some (t ∷ done_trees texts ts rest)) (sym c.in_ok-id-in-Join.ensures.built))
    (omega arith))

pub returns-in_ok-push-in-Part-clause-turns : goal.returns-in_ok-push-in-Part-clause-turns
returns-in_ok-push-in-Part-clause-turns c =
    let texts = c.args.atoms.now in
    let ts = c.args.heap.now.now.terms in
    let us = c.goal_of.new.heap.now.terms in
    let tasks = c.args.tasks.now.items in
    let done = c.args.done.now.items in
    subst (λ (t : Task). Turns texts ts t tasks done us tasks c.push-in-Part.new.self.items) (sym c.in-Part.is)
    (one_done texts ts us c.in_ok-goal-in-Part.ensures.grows.terms c.requires.names (task.Part c.in-Part.id) tasks done done c.push-in-Part.new.self.items c.in_ok-goal-in-Part.goal
    c.requires.tasks c.requires.done c.in_ok-goal-in-Part.ensures.live c.in_ok-push-in-Part.ensures.items
    (ap (λ t. Some (t ∷ done_trees texts ts done)) (sym c.in_ok-goal-in-Part.ensures.converted))
    (part_weighs (tree texts ts c.in-Part.id)))
