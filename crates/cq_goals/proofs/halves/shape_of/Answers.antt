use Rattle.std.proofs.Common.{◌≡◌, ◌∙◌, true, false, codes, refl, sym, ap}
use Rattle.std.specs.Prelude.{bytes_eq}
use Rattle.spec_branch.specs.Checks.{halves, is_conjunction, is_disjunction}
use Rattle.cq_term.specs.Texts.{text_of}
use Rattle.cq_term.specs.Meaning.{at}
use Rattle.cq_term.specs.Trees.{tree}
use Rattle.cq_built.proofs.Heads.{side_name_known, tree_of_sides}
use Rattle.cq_goals.proofs.Heads.{halves_of_disjunction, halves_of_conjunction, no_halves, halves_of_other}
use Rattle.cq_goals.proofs.halves.shape_of.Goals as goal

pub text-name-requires : goal.text-name-requires
text-name-requires c = side_name_known c.args.atoms.now c.args.heap.now.now.terms c.args.id c.in-Some.sides c.in-Some.ensures.some c.requires.names c.requires.live

pub returns-then-eq : goal.returns-then-eq
returns-then-eq c =
    let texts = c.args.atoms.now in
    let ts = c.args.heap.now.now.terms in
    let s = c.in-Some.sides in
    let d : is_disjunction (text_of texts s.name) ≡ true = ap (λ x. bytes_eq x (codes ";")) (sym c.text-name.ensures.value) ∙ sym c.eq.ensures ∙ c.if-eq.true in
    (c.in-Some.ensures.some, ap halves (tree_of_sides texts ts c.args.id s c.in-Some.ensures.some) ∙ halves_of_disjunction (text_of texts s.name) (tree texts ts s.left) (tree texts ts s.right) d)

pub returns-then-eq-2 : goal.returns-then-eq-2
returns-then-eq-2 c =
    let texts = c.args.atoms.now in
    let ts = c.args.heap.now.now.terms in
    let s = c.in-Some.sides in
    let d : is_disjunction (text_of texts s.name) ≡ false = ap (λ x. bytes_eq x (codes ";")) (sym c.text-name.ensures.value) ∙ sym c.eq.ensures ∙ c.if-eq.false in
    let k : is_conjunction (text_of texts s.name) ≡ true = ap (λ x. bytes_eq x (codes ",")) (sym c.text-name.ensures.value) ∙ sym c.eq-else-eq.ensures ∙ c.if-eq-2.true in
    (record { sides = c.in-Some.ensures.some; conjunction = k }, ap halves (tree_of_sides texts ts c.args.id s c.in-Some.ensures.some) ∙ halves_of_conjunction (text_of texts s.name) (tree texts ts s.left) (tree texts ts s.right) d k)

pub returns-else-eq-2 : goal.returns-else-eq-2
returns-else-eq-2 c =
    let texts = c.args.atoms.now in
    let ts = c.args.heap.now.now.terms in
    let s = c.in-Some.sides in
    let d : is_disjunction (text_of texts s.name) ≡ false = ap (λ x. bytes_eq x (codes ";")) (sym c.text-name.ensures.value) ∙ sym c.eq.ensures ∙ c.if-eq.false in
    let k : is_conjunction (text_of texts s.name) ≡ false = ap (λ x. bytes_eq x (codes ",")) (sym c.text-name.ensures.value) ∙ sym c.eq-else-eq.ensures ∙ c.if-eq-2.false in
    ap halves (tree_of_sides texts ts c.args.id s c.in-Some.ensures.some) ∙ no_halves (text_of texts s.name) (tree texts ts s.left) (tree texts ts s.right) d k

pub returns-in-None : goal.returns-in-None
returns-in-None c = halves_of_other (text_of c.args.atoms.now) (at c.args.heap.now.now.terms c.args.id) (c.in-None.ensures.none refl)
