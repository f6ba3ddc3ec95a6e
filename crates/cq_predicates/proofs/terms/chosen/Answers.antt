use Rattle.std.proofs.Common.{refl, ◌∙◌, arith}
use Rattle.spec_builtins.specs.Terms.{arg_row}
use Rattle.cq_term.specs.Trees.{tree}
use Rattle.cq_predicates.proofs.Givings.{nth_is, paired, gives_none_new}
use Rattle.cq_predicates.proofs.terms.chosen.Goals as goal

pub returns-in-Ok-clause-offered : goal.returns-in-Ok-clause-offered
returns-in-Ok-clause-offered c =
    let f = tree c.args.atoms.now c.args.heap.now.now.terms in
    let xs = c.args.args.now in
    let e0 = nth_is f xs 0 c.index-args-0.result (omega arith) c.index-args-0.is in
    let e1 = nth_is f xs 1 c.index-args-1.result (omega arith) c.index-args-1.is in
    let e2 = nth_is f xs 2 c.index-args-2.result (omega arith) c.index-args-2.is in
    gives_none_new c.args.atoms.now c.args.heap.now.now c.args.heap.now.now _ _
    ((λ i. arg_row (e0 i) (e1 i) (e2 i)) ∙ c.in-Ok.ensures.offered c.args.atoms.now ∙ paired c.args.atoms.now c.args.heap.now.now.terms c.in-Ok.pair)
    refl

pub returns-in-Err-clause-fault : goal.returns-in-Err-clause-fault
returns-in-Err-clause-fault c =
    let f = tree c.args.atoms.now c.args.heap.now.now.terms in
    let xs = c.args.args.now in
    let e0 = nth_is f xs 0 c.index-args-0.result (omega arith) c.index-args-0.is in
    let e1 = nth_is f xs 1 c.index-args-1.result (omega arith) c.index-args-1.is in
    let e2 = nth_is f xs 2 c.index-args-2.result (omega arith) c.index-args-2.is in
    (λ i. arg_row (e0 i) (e1 i) (e2 i)) ∙ c.in-Err.ensures.error c.args.atoms.now

pub returns-in-Err-clause-culprit : goal.returns-in-Err-clause-culprit
returns-in-Err-clause-culprit c = c.in-Err.ensures.culprit c.args.atoms.now
