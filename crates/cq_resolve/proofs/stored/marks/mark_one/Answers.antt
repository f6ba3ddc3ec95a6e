use Rattle.std.proofs.Common.{◌≡◌, ◌+◌, ◌-◌, ◌<◌, ◌≤◌, ◌∙◌, ℕ, List, ◌∷◌, map, take, drop, length, suc, get_or, ap, sym, subst, arith}
use Rattle.std.proofs.lemmas.List.{length-map}
use Rattle.std.specs.Result.{OkIff}
use Rattle.std.specs.declared.result.Result.{Result}
use Rattle.std.specs.declared.result.Result.TheVariants.{Ok, Err}
use Rattle.cq_term.specs.Meaning.{HeapTerm}
use Rattle.cq_term.specs.declared.view.View.TheVariants as view
use Rattle.cq_resolve.specs.declared.stored.part.Part.{Part}
use Rattle.cq_resolve.specs.declared.stored.part.Part.TheVariants as part
use Rattle.cq_resolve.specs.Pattern.{AreHeads, read}
use Rattle.cq_resolve.specs.Marks.{shown, widths, tops, AreSized}
use Rattle.cq_resolve.proofs.Reading.{head_fits}
use Rattle.cq_resolve.proofs.Marks.{get_or_twice, shown_at, shown_set, drop_set, met_set, sized_compound}
use Rattle.cq_resolve.proofs.stored.marks.mark_one.Goals as goal

-- a number that was made to fit is the number
counted : {E : Type 0} (r : Result ℕ E) (P : Type 0) (n k : ℕ) → OkIff r P n → r ≡ Ok k → k ≡ n
counted (Ok x) P n k ok is = (let h : x ≡ k = cc in sym h ∙ ok.1)
counted (Err x) P n k ok is = cc

-- the compound has its arguments among the terms behind it
module _ (parts : List Part) (place n f arity : ℕ) (fit : AreHeads n (map shown parts)) (lt : place < length parts) (is : (p : Part) → shown (get_or parts place p) ≡ view.Compound f arity) where
  arguments_there : (0 < arity) × (arity ≤ length (read (drop (place + 1) (map shown parts))))
  arguments_there =
      let here = head_fits n (map shown parts) fit (place + 1) place (view.Compound f arity) (omega arith) (omega (arith, length-map parts shown))
      (shown_at parts place (get_or parts place (part.Name 0)) (view.Compound f arity) lt (get_or_twice parts place (part.Name 0) lt) (is (part.Name 0))) in
      here.0

pub extent-end-requires-clause-enough : goal.extent-end-requires-clause-enough
extent-end-requires-clause-enough c =
    subst (λ (ps : List Part). c.args.arity ≤ length (read (drop (c.args.place + 1) (map shown ps)))) (sym c.deref.ensures.value)
    (arguments_there c.args.parts.now.items c.args.place c.requires.fits.0 c.args.name c.args.arity c.requires.fits.2 c.requires.within c.requires.compound).1

pub returns-clause-shown : goal.returns-clause-shown
returns-clause-shown c = shown_set c.args.parts.now.items c.args.place (part.Compound c.args.arity c.in-Ok.size c.in-Ok-try_from.top c.args.name) c.requires.within c.requires.compound

pub returns-clause-met : goal.returns-clause-met
returns-clause-met c = λ m h. met_set m c.args.parts.now.items c.args.place c.args.arity c.in-Ok.size c.in-Ok-try_from.top c.args.name c.requires.within c.requires.compound h

pub returns-clause-sized : goal.returns-clause-sized
returns-clause-sized c =
    let parts = c.args.parts.now.items in
    let place = c.args.place in
    let there = arguments_there parts place c.requires.fits.0 c.args.name c.args.arity c.requires.fits.2 c.requires.within c.requires.compound in
    let size = counted c.try_from.result _ (c.extent-end.result.0 - place) c.in-Ok.size c.try_from.ensures c.in-Ok.is in
    let top = counted c.try_from-2.result _ c.extent-end.result.1 c.in-Ok-try_from.top c.try_from-2.ensures c.in-Ok-try_from.is in
    let terms : List Part → List HeapTerm = λ ps. take c.args.arity (read (drop (place + 1) (map shown ps))) in
    let end = c.extent-end.ensures.end ∙ ap (λ ps. place + 1 + widths (terms ps)) c.deref.ensures.value in
    let above = c.extent-end.ensures.top ∙ ap (λ ps. tops (terms ps)) c.deref.ensures.value in
    let marked : Part = part.Compound c.args.arity c.in-Ok.size c.in-Ok-try_from.top c.args.name in
    let next : suc place ≡ place + 1 = omega arith in
    subst AreSized (sym (drop_set parts place marked c.requires.within ∙ ap (λ k. marked ∷ drop k parts) next))
    (sized_compound parts place c.args.name c.args.arity c.extent-end.result.0 c.in-Ok-try_from.top c.in-Ok.size there.0 there.1 end (top ∙ above) size c.requires.sized)
