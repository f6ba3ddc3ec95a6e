use Rattle.std.proofs.Common.{◌≡◌, ◌∙◌, true, false, codes, ap, sym, refl}
use Rattle.std.specs.Prelude.{bytes_eq}
use Rattle.spec_builtins.specs.Clauses.{head_body, fact}
use Rattle.cq_term.specs.Texts.{text_of}
use Rattle.cq_term.specs.Meaning.{at}
use Rattle.cq_term.specs.Trees.{tree}
use Rattle.cq_built.proofs.Heads.{tree_of_sides, side_name_known}
use Rattle.cq_goals.proofs.Bodies.{fact_of_other, no_rule, rule_is}
use Rattle.cq_goals.proofs.declarations.clauses.rule_of.Goals as goal

pub returns-in_err-sides-clause-none : goal.returns-in_err-sides-clause-none
returns-in_err-sides-clause-none c = λ none.
    fact_of_other (text_of c.args.atoms.now) (at c.args.heap.now.now.terms c.args.clause) (c.in_err-sides.ensures.none refl)

pub text-requires : goal.text-requires
text-requires c = side_name_known c.args.atoms.now c.args.heap.now.now.terms c.args.clause c.in_ok-sides.sides c.in_ok-sides.ensures.some c.requires.names c.requires.live

pub returns-then-eq-clause-some : goal.returns-then-eq-clause-some
returns-then-eq-clause-some c =
    let texts = c.args.atoms.now in
    let ts = c.args.heap.now.now.terms in
    let s = c.in_ok-sides.sides in
    let neck : bytes_eq (text_of texts s.name) (codes ":-") ≡ true = ap (λ x. bytes_eq x (codes ":-")) (sym c.text.ensures.value) ∙ sym c.eq.ensures ∙ c.if-eq.true in
    record {
      sides = c.in_ok-sides.ensures.some;
      are = ap head_body (tree_of_sides texts ts c.args.clause s c.in_ok-sides.ensures.some) ∙ rule_is (text_of texts s.name) (tree texts ts s.left) (tree texts ts s.right) neck;
    }

pub returns-else-eq-clause-none : goal.returns-else-eq-clause-none
returns-else-eq-clause-none c = λ none.
    let texts = c.args.atoms.now in
    let ts = c.args.heap.now.now.terms in
    let s = c.in_ok-sides.sides in
    let e = tree_of_sides texts ts c.args.clause s c.in_ok-sides.ensures.some in
    let other : bytes_eq (text_of texts s.name) (codes ":-") ≡ false = ap (λ x. bytes_eq x (codes ":-")) (sym c.text.ensures.value) ∙ sym c.eq.ensures ∙ c.if-eq.false in
    ap head_body e ∙ no_rule (text_of texts s.name) (tree texts ts s.left) (tree texts ts s.right) other ∙ ap fact (sym e)
