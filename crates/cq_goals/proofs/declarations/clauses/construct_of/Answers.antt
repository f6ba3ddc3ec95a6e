use Rattle.std.proofs.Common.{◌∙◌, ap, sym, refl}
use Rattle.spec_builtins.specs.Bodies.{is_body, is_control}
use Rattle.cq_term.specs.Texts.{text_of}
use Rattle.cq_term.specs.Meaning.{at}
use Rattle.cq_term.specs.Trees.{tree}
use Rattle.cq_built.proofs.Heads.{tree_of_sides, side_name_known}
use Rattle.cq_goals.proofs.Bodies.{body_of_other, body_of_goal}
use Rattle.cq_goals.proofs.declarations.clauses.construct_of.Goals as goal

pub returns-in_err-sides-clause-none : goal.returns-in_err-sides-clause-none
returns-in_err-sides-clause-none c = λ none no_number.
    body_of_other (text_of c.args.atoms.now) (at c.args.heap.now.now.terms c.args.id) (c.in_err-sides.ensures.none refl) no_number

pub text-requires : goal.text-requires
text-requires c = side_name_known c.args.atoms.now c.args.heap.now.now.terms c.args.id c.in_ok-sides.sides c.in_ok-sides.ensures.some c.requires.names c.requires.live

pub returns-then-is_control-clause-some : goal.returns-then-is_control-clause-some
returns-then-is_control-clause-some c = record {
  sides = c.in_ok-sides.ensures.some;
  control = ap is_control (sym c.text.ensures.value) ∙ sym c.is_control.ensures ∙ c.if-is_control.true;
}

pub returns-else-is_control-clause-none : goal.returns-else-is_control-clause-none
returns-else-is_control-clause-none c = λ none no_number.
    let texts = c.args.atoms.now in
    let ts = c.args.heap.now.now.terms in
    let s = c.in_ok-sides.sides in
    ap is_body (tree_of_sides texts ts c.args.id s c.in_ok-sides.ensures.some)
    ∙ body_of_goal (text_of texts s.name) (tree texts ts s.left) (tree texts ts s.right) (ap is_control (sym c.text.ensures.value) ∙ sym c.is_control.ensures ∙ c.if-is_control.false)
