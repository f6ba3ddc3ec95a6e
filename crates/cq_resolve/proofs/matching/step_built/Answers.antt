use Rattle.std.proofs.Common.{◌≡◌, ◌+◌, ◌-◌, ◌≤◌, ◌<◌, ◌^◌, ◌∷◌, ◌∙◌, ℕ, map, take, drop, length, ap, sym, subst, arith}
use Rattle.std.specs.Prelude.{All}
use Rattle.std.proofs.lemmas.List.{length-map}
use Rattle.std.proofs.lemmas.List.Elements.{All-take, All-drop, All-same}
use Rattle.std.proofs.lemmas.Result.{on_ok_weaker}
use Rattle.spec_terms.specs.Term.{Occurs, apply}
use Rattle.spec_numbers.proofs.Prefixes.{prefix_within}
use Rattle.cq_term.specs.Meaning.{HeapTerm, at}
use Rattle.cq_term.specs.Names.{KeepsNames}
use Rattle.cq_unify.proofs.Places.{variables_now}
use Rattle.cq_resolve.specs.Pattern.{read, term_of, IsNamedBelow, IsPattern}
use Rattle.cq_resolve.specs.Marks.{shown, AreMet}
use Rattle.cq_resolve.specs.Building.{image_from}
use Rattle.cq_resolve.proofs.Reading.{is_pattern}
use Rattle.cq_resolve.proofs.Marks.{below_top, top_least, sliced, met_behind}
use Rattle.cq_resolve.specs.Joined.{Joined, Clash}
use Rattle.cq_resolve.specs.Matching.{Call, IsNext}
use Rattle.cq_resolve.specs.Resolved.{completed}
use Rattle.cq_resolve.proofs.Completed.{completed_more, names_left}
use Rattle.cq_resolve.proofs.PartTerms.{part_is, part_term, part_below}
use Rattle.cq_resolve.proofs.Matched.{goal_live, place_within, parts_at, some_at, walked_clash, walked_met}
use Rattle.cq_resolve.proofs.matching.step_built.Goals as goal
use Rattle.cq_resolve.proofs.matching.step_built.Goals.{In_ok-new_variables}

module _ (c : In_ok-new_variables) (k : Call) (m : IsNext k (map shown c.args.head.now) c.args.first c.args.heap.now.now c.args.newly.now c.args.walk.now c.args.goal) where
  more : c.args.walk.now.met ≤ c.part_at-end.result.1
  more = omega (arith, c.part_at-end.ensures.met)

  below : (v : ℕ) → Occurs v (term_of (drop c.args.walk.now.place (map shown c.args.head.now))) → v < c.part_at-end.result.1
  below v o = omega (arith, below_top v (term_of (drop c.args.walk.now.place (map shown c.args.head.now))) o, c.part_at-end.ensures.met)

  some : c.part_at-end.result.1 ≤ k.count
  some =
      let h = top_least k.count (term_of (drop c.args.walk.now.place (map shown c.args.head.now))) (part_below k.count (map shown c.args.head.now) c.args.walk.now.place c.part_at-end.result.0 m.matching.begun.fits c.part_at-end.ensures.ends) in
      omega (arith, h, m.some, c.part_at-end.ensures.met)

  long : length c.new_variables.new.heap.now.images ≡ k.base + c.part_at-end.result.1
  long = omega (arith, variables_now c.args.heap.now.now.images c.new_variables.new.heap.now.images (c.part_at-end.result.1 - c.args.walk.now.met) c.in_ok-new_variables.ensures.images, m.made, more)

  full : (completed (k.base + k.count) c.new_variables.new.heap.now).images ≡ (completed (k.base + k.count) c.args.heap.now.now).images
  full = completed_more (k.base + k.count) c.args.heap.now.now c.new_variables.new.heap.now (c.part_at-end.result.1 - c.args.walk.now.met) c.in_ok-new_variables.ensures.images (omega (arith, some, m.made, more))

  space : k.base + c.part_at-end.result.1 ≤ 2 ^ 64
  space = omega (
    arith,
    names_left c.new_variables.new.heap.now.images (length c.args.heap.now.now.images) (c.part_at-end.result.1 - c.args.walk.now.met) c.in_ok-new_variables.field-0 c.in_ok-new_variables.ensures.first c.in_ok-new_variables.ensures.there (omega (arith, m.made, m.space)),
    m.made,
    more,
  )

  parts : read (drop c.args.walk.now.place (map shown c.args.head.now)) ≡ term_of (drop c.args.walk.now.place (map shown c.args.head.now)) ∷ read (drop c.part_at-end.result.0 (map shown c.args.head.now))
  parts = parts_at (map shown c.args.head.now) c.args.walk.now.place c.part_at-end.result.0 (some_at k (map shown c.args.head.now) c.args.first c.args.heap.now.now c.args.newly.now c.args.walk.now.place c.args.walk.now.met c.args.walk.now.goals.items c.args.goal m) c.part_at-end.ensures.ends.rest

pub part_at-end-requires-clause-fits : goal.part_at-end-requires-clause-fits
part_at-end-requires-clause-fits c = (c.requires.walk.0.count, c.requires.walk.1.matching.begun.few, c.requires.walk.1.matching.begun.fits)

pub part_at-end-requires-clause-within : goal.part_at-end-requires-clause-within
part_at-end-requires-clause-within c = omega (
  arith,
  place_within c.requires.walk.0 (map shown c.args.head.now) c.args.first c.args.heap.now.now c.args.newly.now c.args.walk.now.place c.args.walk.now.met c.args.walk.now.goals.items c.args.goal c.requires.walk.1,
  length-map c.args.head.now shown,
)

pub join_built-requires-clause-live : goal.join_built-requires-clause-live
join_built-requires-clause-live c =
    prefix_within _ _ c.args.goal c.new_variables.ensures.terms
    (goal_live c.requires.walk.0 (map shown c.args.head.now) c.args.first c.args.heap.now.now c.args.newly.now c.args.walk.now.place c.args.walk.now.met c.args.walk.now.goals.items c.args.goal c.requires.walk.1)

pub join_built-requires-clause-part : goal.join_built-requires-clause-part
join_built-requires-clause-part c =
    let i = (goal.at.join_built-requires-clause-part c).In_ok-new_variables in
    let m = c.requires.walk.1 in (
      c.part_at-end.result.1,
      subst (IsPattern c.part_at-end.result.1) (sym (sliced c.args.head.now c.args.walk.now.place (c.part_at-end.result.0 - c.args.walk.now.place)))
          (is_pattern c.part_at-end.result.1 (term_of (drop c.args.walk.now.place (map shown c.args.head.now))) _ (part_is (map shown c.args.head.now) c.args.walk.now.place c.part_at-end.result.0 c.part_at-end.ensures.ends) (below i c.requires.walk.0 m)),
      record { there = omega (arith, long i c.requires.walk.0 m, m.matching.begun.begins); fits = omega (arith, space i c.requires.walk.0 m, m.matching.begun.begins) },
    )

pub returns-clause-matched : goal.returns-clause-matched
returns-clause-matched c = λ e k m.
    let i = (goal.at.returns-clause-matched c).In_ok-new_variables in
    let mid = c.new_variables.new.heap.now in
    let new = c.join_built.new.heap.now in
    let t = term_of (drop c.args.walk.now.place (map shown c.args.head.now)) in
    let h = c.join_built.ensures.joined e in
    walked_met k (map shown c.args.head.now) c.args.first c.args.heap.now.now c.args.newly.now c.args.walk.now.place c.args.walk.now.met c.args.walk.now.goals.items c.args.goal m t c.part_at-end.result.0 (parts i k m)
    c.part_at-end.result.1 (more i k m) (below i k m)
    mid c.new_variables.ensures.terms (full i k m) (long i k m) (some i k m)
    new c.join_built.new.newly h.0
    (subst (λ (u : HeapTerm). Joined mid new (at mid.terms c.args.goal) (apply (image_from mid.images c.args.first) u) h.0) (ap term_of (sliced c.args.head.now c.args.walk.now.place (c.part_at-end.result.0 - c.args.walk.now.place)) ∙ part_term (map shown c.args.head.now) c.args.walk.now.place c.part_at-end.result.0 c.part_at-end.ensures.ends) h.2)
    h.1 (space i k m)

pub returns-clause-none : goal.returns-clause-none
returns-clause-none c = λ e k m.
    let i = (goal.at.returns-clause-none c).In_ok-new_variables in
    let mid = c.new_variables.new.heap.now in
    let t = term_of (drop c.args.walk.now.place (map shown c.args.head.now)) in
    walked_clash k (map shown c.args.head.now) c.args.first c.args.heap.now.now c.args.newly.now c.args.walk.now.place c.args.walk.now.met c.args.walk.now.goals.items c.args.goal m t c.part_at-end.result.0 (parts i k m)
    c.part_at-end.result.1 (more i k m) (below i k m)
    mid c.new_variables.ensures.terms (full i k m) (long i k m) (some i k m)
    (subst (λ (u : HeapTerm). Clash (at mid.terms c.args.goal) (apply (image_from mid.images c.args.first) u)) (ap term_of (sliced c.args.head.now c.args.walk.now.place (c.part_at-end.result.0 - c.args.walk.now.place)) ∙ part_term (map shown c.args.head.now) c.args.walk.now.place c.part_at-end.result.0 c.part_at-end.ensures.ends) (c.join_built.ensures.clash e))

pub returns-clause-names : goal.returns-clause-names
returns-clause-names c =
    let place = c.args.walk.now.place in
    let size = c.part_at-end.result.0 - place in
    let head = map shown c.args.head.now in
    on_ok_weaker c.join_built.result
    (λ (kept : (n : ℕ) → All (IsNamedBelow n) (map shown (take size (drop place c.args.head.now))) → KeepsNames n c.new_variables.new.heap.now c.join_built.new.heap.now).
    λ n named all. kept n (All-same (IsNamedBelow n) (map shown (take size (drop place c.args.head.now))) (take size (drop place head)) (sliced c.args.head.now place size)
    (All-take (IsNamedBelow n) size (drop place head) (All-drop (IsNamedBelow n) place head named))) (c.new_variables.ensures.names n all))
    c.join_built.ensures.names

pub returns-clause-met : goal.returns-clause-met
returns-clause-met c = λ e.
    subst (λ n. AreMet n (drop c.part_at-end.result.0 c.args.head.now)) (sym c.part_at-end.ensures.met)
    (met_behind c.args.head.now c.args.walk.now.place c.part_at-end.result.0 c.args.walk.now.met c.part_at-end.ensures.ends c.requires.met)
