use Rattle.std.proofs.Common.{◌∷◌, ◌++◌, [], ◌∙◌, ap, refl, sym}
use Rattle.spec_builtins.specs.Clauses.{declared_terms}
use Rattle.cq_term.specs.Texts.{text_of}
use Rattle.cq_term.specs.Trees.{tree}
use Rattle.cq_built.proofs.Heads.{tree_of_sides}
use Rattle.cq_built.proofs.Splitting.{sides_wait, part_found, nothing_found}
use Rattle.cq_goals.proofs.Declared.{terms_of_joined, nil_declares}
use Rattle.cq_goals.proofs.declarations.declarations.take_declared.Goals as goal

pub returns-in_ok-push-in-Some-2 : goal.returns-in_ok-push-in-Some-2
returns-in_ok-push-in-Some-2 c =
    let texts = c.args.atoms.now in
    let ts = c.args.heap.now.now.terms in
    let s = c.in-Some.sides in
    let h = c.in-Some.ensures.some in
    sides_wait declared_terms texts ts c.args.found.now.items c.args.waiting.now.items c.args.found.now.items c.push-in-Some.new.self.items c.args.id s h.sides
    (ap declared_terms (tree_of_sides texts ts c.args.id s h.sides) ∙ terms_of_joined (text_of texts s.name) (tree texts ts s.left) (tree texts ts s.right) h.joining)
    refl (c.in_ok-push-in-Some-2.ensures.items ∙ ap (λ xs. xs ++ s.left ∷ []) c.in_ok-push-in-Some.ensures.items)

pub returns-then-is_nil : goal.returns-then-is_nil
returns-then-is_nil c =
    nothing_found declared_terms c.args.atoms.now c.args.heap.now.now.terms c.args.found.now.items c.args.waiting.now.items c.args.found.now.items c.args.waiting.now.items c.args.id
    (nil_declares (tree c.args.atoms.now c.args.heap.now.now.terms c.args.id) (sym c.is_nil.ensures ∙ c.if-is_nil.true)) refl refl

pub returns-in_ok-push-in-None : goal.returns-in_ok-push-in-None
returns-in_ok-push-in-None c =
    part_found declared_terms c.args.atoms.now c.args.heap.now.now.terms c.args.found.now.items c.args.waiting.now.items c.push-in-None.new.self.items c.args.waiting.now.items c.args.id c.requires.live
    (c.in-None.ensures.none refl (sym c.is_nil.ensures ∙ c.if-is_nil.false)) c.in_ok-push-in-None.ensures.items refl
