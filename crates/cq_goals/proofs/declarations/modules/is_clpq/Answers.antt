use Rattle.std.proofs.Common.{◌≡◌, ◌∙◌, true, false, codes, ap, sym, arith}
use Rattle.std.specs.Prelude.{bytes_eq}
use Rattle.cq_term.specs.Texts.{text_of}
use Rattle.cq_term.specs.Meaning.{at}
use Rattle.cq_goals.proofs.Libraries.{has_one, one_argument, not_alone, other_name, library_is, no_compound}
use Rattle.cq_goals.proofs.declarations.modules.is_clpq.Goals as goal

pub returns-then-arity-ne1 : goal.returns-then-arity-ne1
returns-then-arity-ne1 c =
    sym (not_alone (text_of c.args.atoms.now) (at c.args.heap.now.now.terms c.args.term) c.in-Compound.name c.in-Compound.arity (sym c.view.ensures.view ∙ c.in-Compound.is) c.if-arity-ne1.true)

pub arg-library-requires-clause-within : goal.arg-library-requires-clause-within
arg-library-requires-clause-within c =
    has_one (at c.args.heap.now.now.terms c.args.term) c.in-Compound.name c.in-Compound.arity (sym c.view.ensures.view ∙ c.in-Compound.is) (omega arith)

pub returns-then-eq : goal.returns-then-eq
returns-then-eq c =
    let texts = c.args.atoms.now in
    let ts = c.args.heap.now.now.terms in
    let library : bytes_eq (text_of texts c.in-Compound.name) (codes "library") ≡ true = ap (λ x. bytes_eq x (codes "library")) (sym c.text.ensures.value) ∙ sym c.eq.ensures ∙ c.if-eq.true in
    c.is_clpq_name.ensures
    ∙ sym (library_is (text_of texts) (at ts c.args.term) (at ts c.arg-library.result) c.in-Compound.name
    (one_argument (at ts c.args.term) (at ts c.arg-library.result) c.in-Compound.name c.in-Compound.arity (sym c.view.ensures.view ∙ c.in-Compound.is) (omega arith) c.arg-library.ensures.arg) library)

pub returns-else-eq : goal.returns-else-eq
returns-else-eq c =
    let texts = c.args.atoms.now in
    let other : bytes_eq (text_of texts c.in-Compound.name) (codes "library") ≡ false = ap (λ x. bytes_eq x (codes "library")) (sym c.text.ensures.value) ∙ sym c.eq.ensures ∙ c.if-eq.false in
    sym (other_name (text_of texts) (at c.args.heap.now.now.terms c.args.term) c.in-Compound.name c.in-Compound.arity (sym c.view.ensures.view ∙ c.in-Compound.is) (omega arith) other)

pub returns-in_default : goal.returns-in_default
returns-in_default c = sym (no_compound (text_of c.args.atoms.now) (at c.args.heap.now.now.terms c.args.term) (λ f n e. c.in_default.not-Compound f n (c.view.ensures.view ∙ e)))
