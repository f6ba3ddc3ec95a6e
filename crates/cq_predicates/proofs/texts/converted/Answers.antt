use Rattle.std.proofs.Common.{◌≡◌, ℕ, List, map, length, ◌∙◌, sym, subst, arith}
use Rattle.cq_predicates.proofs.Givings.{nth_is, gives_none_new}
use Rattle.spec_numbers.specs.Texts.{Text}
use Rattle.spec_builtins.specs.Texts.{Characters, Codes, atom_list_row, char_code_row, number_codes_row}
use Rattle.spec_syntax.specs.Trees.{Tree}
use Rattle.spec_search.specs.Rows.{nth}
use Rattle.spec_search.specs.Calls.{solutions_of}
use Rattle.cq_predicates.specs.CodesRows.{conversion_of}
use Rattle.cq_predicates.specs.declared.codes.conversions.Conversion.{Conversion}
use Rattle.cq_predicates.specs.declared.codes.conversions.Conversion.TheVariants as conversion
use Rattle.cq_predicates.specs.Names.{as_conversion}
use Rattle.cq_built.specs.Errors.{Explains}
use Rattle.cq_term.specs.Meaning.{HeapTerm}
use Rattle.cq_term.specs.Trees.{tree}
use Rattle.cq_predicates.proofs.texts.converted.Goals as goal

-- a conversion's row by its arguments
row_of : (k : Conversion) (texts : List Text) (ts : List HeapTerm) (fresh a b : ℕ) (us : List Tree) → nth us 0 ≡ tree texts ts a → nth us 1 ≡ tree texts ts b
    → solutions_of (as_conversion k) fresh us ≡ conversion_of k texts ts a b
row_of conversion.AtomChars texts ts fresh a b us e d = λ i. atom_list_row Characters (e i) (d i)
row_of conversion.AtomCodes texts ts fresh a b us e d = λ i. atom_list_row Codes (e i) (d i)
row_of conversion.CharCode texts ts fresh a b us e d = λ i. char_code_row (e i) (d i)
row_of conversion.NumberCodes texts ts fresh a b us e d = λ i. number_codes_row (e i) (d i)

pub returns-in-Ok-clause-offered : goal.returns-in-Ok-clause-offered
returns-in-Ok-clause-offered c =
    let f = tree c.args.atoms.now c.args.heap.now.now.terms in
    let xs = c.args.args.now in
    let e0 = nth_is f xs 0 c.index-args-0.result (omega arith) c.index-args-0.is in
    let e1 = nth_is f xs 1 c.index-args-1.result (omega arith) c.index-args-1.is in
    gives_none_new c.convert.new.atoms c.args.heap.now.now c.convert.new.heap.now _ _
    (row_of c.args.conversion c.args.atoms.now c.args.heap.now.now.terms (length c.args.heap.now.now.images) c.index-args-0.result c.index-args-1.result (map f xs) e0 e1
    ∙ c.in-Ok.ensures.offered) c.convert.ensures.grows.images

pub returns-in-Err-clause-fault : goal.returns-in-Err-clause-fault
returns-in-Err-clause-fault c =
    let f = tree c.args.atoms.now c.args.heap.now.now.terms in
    let xs = c.args.args.now in
    let e0 = nth_is f xs 0 c.index-args-0.result (omega arith) c.index-args-0.is in
    let e1 = nth_is f xs 1 c.index-args-1.result (omega arith) c.index-args-1.is in
    subst (λ s. Explains c.args.atoms.now c.args.heap.now.now.terms s c.in-Err.fault)
    (sym (row_of c.args.conversion c.args.atoms.now c.args.heap.now.now.terms (length c.args.heap.now.now.images) c.index-args-0.result c.index-args-1.result (map f xs) e0 e1))
    c.in-Err.ensures.fault
