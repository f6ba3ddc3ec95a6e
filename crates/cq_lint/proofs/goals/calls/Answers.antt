use Rattle.std.proofs.Common.{◌≡◌, ℕ, ◌+◌, ◌<◌, ◌≤◌, ◌∙◌, List, [], ◌∷◌, length, take, get_or, subst, sym, ap}
use Rattle.std.specs.Prelude.{fold}
use Rattle.std.proofs.lemmas.List.{map-append, take_all, take_more}
use Rattle.std.proofs.lemmas.List.Elements.{All-get_or}
use Rattle.std.proofs.lemmas.List.Sums.{fold_push}
use Rattle.spec_numbers.specs.Texts.{Text}
use Rattle.cq_term.specs.Meaning.{HeapTerm}
use Rattle.cq_term.specs.Trees.{tree, trees}
use Rattle.cq_built.specs.Splitting.{AreLive}
use Rattle.cq_lint.specs.Goals.{with_called}
use Rattle.cq_lint.proofs.goals.calls.Goals as goal

-- the predicates that one goal more calls
called_more : (texts : List Text) (ts : List HeapTerm) (ids : List ℕ) (i x : ℕ) → x ≡ get_or ids i x → i < length ids
    → with_called (fold with_called [] (trees texts ts (take i ids))) (tree texts ts x) ≡ fold with_called [] (trees texts ts (take (i + 1) ids))
called_more texts ts ids i x e h =
    let before = fold with_called [] (trees texts ts (take i ids)) in
    sym (ap (λ js. fold with_called [] (trees texts ts js)) (take_more ids i x h)
    ∙ ap (fold with_called []) (map-append (tree texts ts) (take i ids) (get_or ids i x ∷ []))
    ∙ fold_push with_called [] (trees texts ts (take i ids)) (tree texts ts (get_or ids i x))
    ∙ ap (λ y. with_called before (tree texts ts y)) (sym e))

pub add_called-requires-clause-live : goal.add_called-requires-clause-live
add_called-requires-clause-live c =
    let ts = c.args.heap.now.now.terms in
    let xs = c.deref-part-items.result.now in
    let here : c.loop-part.part-index < length xs = c.loop-part-test.true in
    let live : AreLive ts xs = subst (AreLive ts) (sym c.deref-part-items.ensures.value) c.in_ok-goals.ensures.live in
    subst (λ x. x < length ts) (sym c.part-item.is) (All-get_or (λ x. x < length ts) xs c.loop-part.part-index c.part-item.result here live)

pub loop-part-preserved : goal.loop-part-preserved
loop-part-preserved c =
    let texts = c.args.atoms.now in
    let ts = c.args.heap.now.now.terms in
    let xs = c.deref-part-items.result.now in
    let here : c.loop-part.part-index < length xs = c.loop-part-test.true in
    c.in_ok-add_called.ensures
    ∙ ap (λ is. with_called is (tree texts ts c.part-item.result)) c.loop-part.invariant
    ∙ called_more texts ts xs c.loop-part.part-index c.part-item.result c.part-item.is here

pub returns : goal.returns
returns c =
    let texts = c.args.atoms.now in
    let ts = c.args.heap.now.now.terms in
    let xs = c.deref-part-items.result.now in
    let end : length xs ≤ c.loop-part.part-index = c.loop-part-test.false in
    c.loop-part.invariant
    ∙ ap (λ js. fold with_called [] (trees texts ts js)) (take_all c.loop-part.part-index xs end ∙ c.deref-part-items.ensures.value)
    ∙ ap (fold with_called []) c.in_ok-goals.ensures.goals
