use Rattle.std.proofs.Common.{◌≡◌, ◌∙◌, true, false, codes, ap, sym, refl}
use Rattle.std.specs.Prelude.{bytes_eq}
use Rattle.spec_builtins.specs.Clauses.{slashed}
use Rattle.cq_term.specs.Texts.{text_of}
use Rattle.cq_term.specs.Meaning.{at}
use Rattle.cq_term.specs.Trees.{tree}
use Rattle.cq_built.proofs.Heads.{tree_of_sides, side_name_known}
use Rattle.cq_goals.proofs.Declared.{no_slash, slash_is}
use Rattle.cq_goals.proofs.declarations.declarations.slash_of.Goals as goal

pub returns-in_err-sides-clause-none : goal.returns-in_err-sides-clause-none
returns-in_err-sides-clause-none c = λ none.
    no_slash (text_of c.args.atoms.now) (at c.args.heap.now.now.terms c.args.id) (c.in_err-sides.ensures.none refl)

pub text-requires : goal.text-requires
text-requires c = side_name_known c.args.atoms.now c.args.heap.now.now.terms c.args.id c.in_ok-sides.sides c.in_ok-sides.ensures.some c.requires.names c.requires.live

pub returns-then-eq-clause-some : goal.returns-then-eq-clause-some
returns-then-eq-clause-some c =
    let texts = c.args.atoms.now in
    let ts = c.args.heap.now.now.terms in
    let s = c.in_ok-sides.sides in
    let slash : bytes_eq (text_of texts s.name) (codes "/") ≡ true = ap (λ x. bytes_eq x (codes "/")) (sym c.text.ensures.value) ∙ sym c.eq.ensures ∙ c.if-eq.true in
    record {
      sides = c.in_ok-sides.ensures.some;
      slashed = ap slashed (tree_of_sides texts ts c.args.id s c.in_ok-sides.ensures.some) ∙ slash_is (text_of texts s.name) (tree texts ts s.left) (tree texts ts s.right) true slash;
    }

pub returns-else-eq-clause-none : goal.returns-else-eq-clause-none
returns-else-eq-clause-none c = λ none.
    let texts = c.args.atoms.now in
    let ts = c.args.heap.now.now.terms in
    let s = c.in_ok-sides.sides in
    let other : bytes_eq (text_of texts s.name) (codes "/") ≡ false = ap (λ x. bytes_eq x (codes "/")) (sym c.text.ensures.value) ∙ sym c.eq.ensures ∙ c.if-eq.false in
    ap slashed (tree_of_sides texts ts c.args.id s c.in_ok-sides.ensures.some) ∙ slash_is (text_of texts s.name) (tree texts ts s.left) (tree texts ts s.right) false other
