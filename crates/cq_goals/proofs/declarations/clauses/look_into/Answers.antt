use Rattle.std.proofs.Common.{◌∷◌, ◌++◌, [], ◌∙◌, ap, refl, sym}
use Rattle.cq_term.specs.Trees.{tree}
use Rattle.cq_goals.proofs.Bodies.{number_is_no_body, control_waits, goal_passes}
use Rattle.cq_goals.proofs.declarations.clauses.look_into.Goals as goal

pub returns-then-is_number : goal.returns-then-is_number
returns-then-is_number c = number_is_no_body (tree c.args.atoms.now c.args.heap.now.now.terms c.args.id) (sym (c.is_number.ensures c.args.atoms.now) ∙ c.if-is_number.true)

pub returns-in_ok-push-in-Some-2 : goal.returns-in_ok-push-in-Some-2
returns-in_ok-push-in-Some-2 c =
    let s = c.in-Some.sides in
    control_waits c.args.atoms.now c.args.heap.now.now.terms c.args.waiting.now.items c.push-in-Some.new.self.items c.args.id s c.in-Some.ensures.some
    (c.in_ok-push-in-Some-2.ensures.items ∙ ap (λ xs. xs ++ s.left ∷ []) c.in_ok-push-in-Some.ensures.items)

pub returns-in-None : goal.returns-in-None
returns-in-None c =
    goal_passes c.args.atoms.now c.args.heap.now.now.terms c.args.waiting.now.items c.args.waiting.now.items c.args.id
    (c.in-None.ensures.none refl (sym (c.is_number.ensures c.args.atoms.now) ∙ c.if-is_number.false)) refl
