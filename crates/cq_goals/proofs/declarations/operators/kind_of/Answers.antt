use Rattle.std.proofs.Common.{◌∙◌, true, false, is_some, sym, ap}
use Rattle.spec_syntax.specs.Operators.{kind_named}
use Rattle.cq_term.specs.Texts.{text_of}
use Rattle.cq_term.specs.Meaning.{at}
use Rattle.cq_term.specs.Trees.{tree}
use Rattle.cq_goals.proofs.Declaring.{no_atom, kind_tested, name_shown, no_name_shown}
use Rattle.cq_goals.proofs.declarations.operators.kind_of.Goals as goal

pub returns-then-is_kind-clause-ok : goal.returns-then-is_kind-clause-ok
returns-then-is_kind-clause-ok c = name_shown (text_of c.args.atoms.now) (at c.args.heap.now.now.terms c.args.kind) c.in-Name.name (sym c.view.ensures.view ∙ c.in-Name.is)

pub returns-then-is_kind-clause-lawful : goal.returns-then-is_kind-clause-lawful
returns-then-is_kind-clause-lawful c =
    let texts = c.args.atoms.now in
    let ts = c.args.heap.now.now.terms in
    kind_tested (tree texts ts c.args.kind) (text_of texts c.in-Name.name) true (name_shown (text_of texts) (at ts c.args.kind) c.in-Name.name (sym c.view.ensures.view ∙ c.in-Name.is))
    (ap (λ x. is_some (kind_named x)) (sym c.text.ensures.value) ∙ sym c.is_kind.ensures ∙ c.if-is_kind.true)

pub returns-else-is_kind-clause-err : goal.returns-else-is_kind-clause-err
returns-else-is_kind-clause-err c =
    let texts = c.args.atoms.now in
    let ts = c.args.heap.now.now.terms in
    kind_tested (tree texts ts c.args.kind) (text_of texts c.in-Name.name) false (name_shown (text_of texts) (at ts c.args.kind) c.in-Name.name (sym c.view.ensures.view ∙ c.in-Name.is))
    (ap (λ x. is_some (kind_named x)) (sym c.text.ensures.value) ∙ sym c.is_kind.ensures ∙ c.if-is_kind.false)

pub returns-in_default-clause-err : goal.returns-in_default-clause-err
returns-in_default-clause-err c =
    let texts = c.args.atoms.now in
    let ts = c.args.heap.now.now.terms in
    no_atom (tree texts ts c.args.kind) (no_name_shown (text_of texts) (at ts c.args.kind) (λ a e. c.in_default.not-Name a (c.view.ensures.view ∙ e)))
