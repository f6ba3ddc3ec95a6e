use Rattle.std.proofs.Common.{◌∙◌, [], ◌∷◌, ap, sym, refl}
use Rattle.spec_builtins.specs.Clauses.{declared_terms, is_joining}
use Rattle.cq_term.specs.Texts.{text_of}
use Rattle.cq_term.specs.Meaning.{at}
use Rattle.cq_term.specs.Trees.{tree}
use Rattle.cq_built.proofs.Heads.{tree_of_sides, side_name_known}
use Rattle.cq_goals.proofs.Declared.{declared_alone, joins_nothing}
use Rattle.cq_goals.proofs.declarations.declarations.joined_by.Goals as goal

pub returns-in_err-sides-clause-none : goal.returns-in_err-sides-clause-none
returns-in_err-sides-clause-none c = λ none no_nil.
    declared_alone (text_of c.args.atoms.now) (at c.args.heap.now.now.terms c.args.id) (c.in_err-sides.ensures.none refl) no_nil

pub text-requires : goal.text-requires
text-requires c = side_name_known c.args.atoms.now c.args.heap.now.now.terms c.args.id c.in_ok-sides.sides c.in_ok-sides.ensures.some c.requires.names c.requires.live

pub returns-then-is_joining-clause-some : goal.returns-then-is_joining-clause-some
returns-then-is_joining-clause-some c = record {
  sides = c.in_ok-sides.ensures.some;
  joining = ap is_joining (sym c.text.ensures.value) ∙ sym c.is_joining.ensures ∙ c.if-is_joining.true;
}

pub returns-else-is_joining-clause-none : goal.returns-else-is_joining-clause-none
returns-else-is_joining-clause-none c = λ none no_nil.
    let texts = c.args.atoms.now in
    let ts = c.args.heap.now.now.terms in
    let s = c.in_ok-sides.sides in
    let e = tree_of_sides texts ts c.args.id s c.in_ok-sides.ensures.some in
    ap declared_terms e
    ∙ joins_nothing (text_of texts s.name) (tree texts ts s.left) (tree texts ts s.right) (ap is_joining (sym c.text.ensures.value) ∙ sym c.is_joining.ensures ∙ c.if-is_joining.false)
    ∙ ap (λ t. t ∷ []) (sym e)
