use Rattle.std.proofs.Common.{◌≡◌, ◌<◌, ◌∙◌, codes, length, true, false, sym, ap, arith}
use Rattle.std.specs.Prelude.{bytes_eq}
use Rattle.spec_terms.specs.Term.{size}
use Rattle.cq_term.specs.Texts.{text_of}
use Rattle.cq_term.specs.Meaning.{at}
use Rattle.cq_term.specs.Shown.{arguments}
use Rattle.cq_built.proofs.Arguments.{has_two, two_arguments, other_arity, other_name, cell_parts}
use Rattle.cq_built.proofs.kinds.lists.cell_of.Goals as goal

pub returns-then-arity-ne2-clause-none : goal.returns-then-arity-ne2-clause-none
returns-then-arity-ne2-clause-none c = λ none.
    other_arity (text_of c.args.atoms.now) (at c.args.heap.now.now.terms c.args.id) c.in-Compound.name c.in-Compound.arity (sym c.view.ensures.view ∙ c.in-Compound.is) c.if-arity-ne2.true

pub arg-head-requires-clause-within : goal.arg-head-requires-clause-within
arg-head-requires-clause-within c =
    let two : 1 < length (arguments (at c.args.heap.now.now.terms c.args.id)) = has_two (at c.args.heap.now.now.terms c.args.id) c.in-Compound.name c.in-Compound.arity (sym c.view.ensures.view ∙ c.in-Compound.is) (omega arith) in
    omega (arith, two)

pub arg-tail-requires-clause-within : goal.arg-tail-requires-clause-within
arg-tail-requires-clause-within c =
    has_two (at c.args.heap.now.now.terms c.args.id) c.in-Compound.name c.in-Compound.arity (sym c.view.ensures.view ∙ c.in-Compound.is) (omega arith)

pub returns-then-eq-clause-cell : goal.returns-then-eq-clause-cell
returns-then-eq-clause-cell c =
    let ts = c.args.heap.now.now.terms in
    let built =
    two_arguments (at ts c.args.id) (at ts c.arg-head.result) (at ts c.arg-tail.result) c.in-Compound.name c.in-Compound.arity (sym c.view.ensures.view ∙ c.in-Compound.is) (omega arith)
    c.arg-head.ensures.arg c.arg-tail.ensures.arg in
    let dot : bytes_eq (text_of c.args.atoms.now c.in-Compound.name) (codes ".") ≡ true = ap (λ x. bytes_eq x (codes ".")) (sym c.text.ensures.value) ∙ sym c.eq.ensures ∙ c.if-eq.true in
    record {
      head = c.arg-head.ensures.live;
      tail = c.arg-tail.ensures.live;
      parts = cell_parts (text_of c.args.atoms.now) (at ts c.args.id) (at ts c.arg-head.result) (at ts c.arg-tail.result) c.in-Compound.name built dot;
      smaller = (let e = ap size built in omega (arith, e));
    }

pub returns-else-eq-clause-none : goal.returns-else-eq-clause-none
returns-else-eq-clause-none c = λ none.
    let other : bytes_eq (text_of c.args.atoms.now c.in-Compound.name) (codes ".") ≡ false = ap (λ x. bytes_eq x (codes ".")) (sym c.text.ensures.value) ∙ sym c.eq.ensures ∙ c.if-eq.false in
    other_name (text_of c.args.atoms.now) (at c.args.heap.now.now.terms c.args.id) c.in-Compound.name c.in-Compound.arity (sym c.view.ensures.view ∙ c.in-Compound.is) (omega arith) other
