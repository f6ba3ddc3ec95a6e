use Rattle.std.proofs.Common.{◌∷◌, ◌++◌, [], ◌∙◌, ap, refl}
use Rattle.spec_branch.specs.Checks.{members}
use Rattle.cq_term.specs.Texts.{text_of}
use Rattle.cq_term.specs.Trees.{tree}
use Rattle.cq_built.proofs.Heads.{tree_of_sides}
use Rattle.cq_built.proofs.Splitting.{sides_wait, part_found}
use Rattle.cq_goals.proofs.Heads.{members_of_conjunction}
use Rattle.cq_goals.proofs.members.take_apart.Goals as goal

pub returns-in_ok-push-in-Some-2 : goal.returns-in_ok-push-in-Some-2
returns-in_ok-push-in-Some-2 c =
    let texts = c.args.atoms.now in
    let ts = c.args.heap.now.now.terms in
    let s = c.in-Some.sides in
    let h = c.in-Some.ensures.some in
    sides_wait members texts ts c.args.found.now.items c.args.waiting.now.items c.args.found.now.items c.push-in-Some.new.self.items c.args.id s h.sides
    (ap members (tree_of_sides texts ts c.args.id s h.sides) ∙ members_of_conjunction (text_of texts s.name) (tree texts ts s.left) (tree texts ts s.right) h.conjunction)
    refl (c.in_ok-push-in-Some-2.ensures.items ∙ ap (λ xs. xs ++ s.left ∷ []) c.in_ok-push-in-Some.ensures.items)

pub returns-in_ok-push-in-None : goal.returns-in_ok-push-in-None
returns-in_ok-push-in-None c =
    part_found members c.args.atoms.now c.args.heap.now.now.terms c.args.found.now.items c.args.waiting.now.items c.push-in-None.new.self.items c.args.waiting.now.items c.args.id c.requires.live
    (c.in-None.ensures.none refl) c.in_ok-push-in-None.ensures.items refl
