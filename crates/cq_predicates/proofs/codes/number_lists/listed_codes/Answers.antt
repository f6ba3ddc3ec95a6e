use Rattle.std.proofs.Common.{◌∙◌, sym, subst}
use Rattle.std.proofs.lemmas.Result.{IfOk-weaker}
use Rattle.cq_term.specs.Trees.{tree, trees}
use Rattle.cq_built.specs.Cells.{parts_of}
use Rattle.cq_predicates.specs.Elements.{IsMadeOf}
use Rattle.cq_predicates.proofs.CodesRows.{reads_by}
use Rattle.cq_predicates.proofs.codes.number_lists.listed_codes.Goals as goal

pub returns-then-is_nil : goal.returns-then-is_nil
returns-then-is_nil c =
    let texts = c.args.atoms.now in
    let ts = c.args.heap.now.now.terms in
    IfOk-weaker c.joined_codes.result _ _ (λ o h.
    reads_by (tree texts ts c.args.list) (parts_of texts ts c.in_ok-parts.parts) o c.in_ok-parts.ensures.parts (sym c.is_nil.ensures ∙ c.if-is_nil.true)
    (subst (λ ids. IsMadeOf (trees texts ts ids) o) c.deref.ensures.value (h texts))) c.joined_codes.ensures
