use Rattle.std.proofs.Common.{◌++◌, ◌∷◌, [], ◌∙◌, ap, refl}
use Rattle.cq_built.proofs.Splitting.{part_found}
use Rattle.cq_lint.specs.Goals.{goals_of}
use Rattle.cq_lint.proofs.Taken.{one_waits, two_wait}
use Rattle.cq_lint.proofs.goals.take_goal.Goals as goal

pub returns-in_ok-push-in-Alone : goal.returns-in_ok-push-in-Alone
returns-in_ok-push-in-Alone c =
    part_found goals_of c.args.atoms.now c.args.heap.now.now.terms c.args.found.now.items c.args.waiting.now.items c.push.new.self.items c.args.waiting.now.items c.args.id c.requires.live
    c.in-Alone.ensures c.in_ok-push-in-Alone.ensures.items refl

pub returns-in_ok-push-in-One : goal.returns-in_ok-push-in-One
returns-in_ok-push-in-One c =
    let h = c.in-One.ensures in
    one_waits goals_of c.args.atoms.now c.args.heap.now.now.terms c.args.found.now.items c.args.waiting.now.items c.push-in-One.new.self.items c.args.id c.in-One.part h.0 h.1 h.2
    c.in_ok-push-in-One.ensures.items

pub returns-in_ok-push-in-Two-2 : goal.returns-in_ok-push-in-Two-2
returns-in_ok-push-in-Two-2 c =
    let h = c.in-Two.ensures in
    two_wait goals_of c.args.atoms.now c.args.heap.now.now.terms c.args.found.now.items c.args.waiting.now.items c.push-in-Two-2.new.self.items c.args.id c.in-Two.left c.in-Two.right h.0 h.1 h.2 h.3
    (c.in_ok-push-in-Two-2.ensures.items ∙ ap (λ xs. xs ++ c.in-Two.left ∷ []) c.in_ok-push-in-Two.ensures.items)
