use Rattle.std.proofs.Common.{◌≡◌, ℕ, List, [], ◌∷◌, sym, ap, ap₂, ◌∙◌, subst, arith}
use Rattle.std.specs.Prelude.{Err}
use Rattle.std.specs.List.{zip}
use Rattle.std.proofs.lemmas.List.Elements.{All-cons}
use Rattle.spec_syntax.specs.Trees.{Tree}
use Rattle.spec_branch.specs.Branch.{State, read}
use Rattle.spec_search.specs.Constraints.{curly_row}
use Rattle.cq_built.proofs.Growing.{grows_both}
use Rattle.cq_built.specs.Growing.{Grows}
use Rattle.cq_settle.specs.Ready.{MayBeTold}
use Rattle.cq_settle.specs.Rest.{IsReadyAs}
use Rattle.cq_store.specs.declared.store.StoreFault.{StoreFault}
use Rattle.cq_term.specs.Trees.{tree}
use Rattle.cq_settle.specs.Contents.{Contents}
use Rattle.cq_settle.specs.Worlds.{now_of}
use Rattle.spec_engine.specs.declared.machine.cell.Cell.{Cell}
use Rattle.spec_engine.specs.Cells.{Value}
use Rattle.cq_branch.specs.Worlds.{value, saved_values, stack, with_heap, Selected, Leads}
use Rattle.cq_branch.specs.Begun.{goes_to}
use Rattle.cq_relations.proofs.Curly.{told_leads, told_stops, split_leads, refused_at}
use Rattle.cq_relations.proofs.Growing.{ready_grown, grown_terms, grown_still, grown_if, after_error}
use Rattle.cq_relations.proofs.Marks.{saved_still}
use Rattle.cq_relations.proofs.constraints.constrain.Goals as goal

pub tell-requires-clause-ready : goal.tell-requires-clause-ready
tell-requires-clause-ready c =
    let g = c.check_telling.ensures.grows in
    let r = c.requires.ready in
    (r.0, ready_grown c.args.atoms.now (now_of c.args.world.now.first) c.check_telling.new.heap.now g.terms g.images (g.names r.1.stands.names) r.0 r.1)

pub returns-in-Ok-tell-clause-row : goal.returns-in-Ok-tell-clause-row
returns-in-Ok-tell-clause-row c = λ v p behind t s r.
    let texts = c.args.atoms.now in
    let g = c.check_telling.ensures.grows in
    let first = c.args.world.now.first in
    let new = value c.tell.new.world c.tell.new.lists.now in
    let saved : saved_values c.tell.new.world c.tell.new.lists.saved ≡ saved_values first c.args.world.now.second.saved =
    ap₂ (λ (k : List Contents) (l : List (List (List Cell))). zip k l) (c.tell.ensures.saved ∙ saved_still first c.check_telling.new.heap.saved g.saved) c.tell.ensures.lists in
    subst (λ (l : List (Value Contents)). Leads texts (stack texts v l c.args.choices.now) new (goes_to c.in-Ok-tell.begun) p behind (curly_row p t)) (sym saved)
    (told_leads texts (now_of first) c.check_telling.new.heap.now c.args.world.now.second.now g.terms g.images (g.names c.requires.ready.1.stands.names) c.args.constraint c.args.rest
    c.in-Ok.ensures.lawful c.in-Members.members.items (rw c.in-Members.is at c.in-Ok.ensures.telling) new c.in-Ok-tell.begun c.in-Ok-tell.ensures.row
    (stack texts v (saved_values first c.args.world.now.second.saved) c.args.choices.now) p behind t (s.place, s.waiting) r)

pub returns-in-Err-tell-clause-fault : goal.returns-in-Err-tell-clause-fault
returns-in-Err-tell-clause-fault c =
    let g = c.check_telling.ensures.grows in
    told_stops c.args.atoms.now (now_of c.args.world.now.first) c.check_telling.new.heap.now c.args.world.now.second.now g.terms g.images (g.names c.requires.ready.1.stands.names)
    c.args.constraint c.args.rest c.in-Ok.ensures.lawful c.in-Members.members.items (rw c.in-Members.is at c.in-Ok.ensures.telling) c.args.world.now.first.store.pivots c.in-Err-tell.fault
    (λ pair e. c.tell.ensures.overflow pair (c.in-Err-tell.is ∙ ap (λ (f : StoreFault). Err f) e)) (λ k e. c.tell.ensures.pivots k (c.in-Err-tell.is ∙ ap (λ (f : StoreFault). Err f) e))

pub returns-in-Err-clause-fault : goal.returns-in-Err-clause-fault
returns-in-Err-clause-fault c =
    let first = c.args.world.now.first in
    refused_at c.args.atoms.now (now_of first) c.args.world.now.second.now c.args.constraint c.args.rest first.store.pivots c.goal_fault.result
    (λ reply. c.goal_fault.ensures.refused c.args.atoms.now first.heap.now.terms _ reply c.in-Err.ensures.fault)

pub returns-in-Err-clause-culprit : goal.returns-in-Err-clause-culprit
returns-in-Err-clause-culprit c = c.goal_fault.ensures.culprit c.args.atoms.now c.args.world.now.first.heap.now.terms c.in-Err.ensures.culprit

-- ---- what was built

pub returns-in-Ok-tell-clause-unchanged : goal.returns-in-Ok-tell-clause-unchanged
returns-in-Ok-tell-clause-unchanged c =
    let texts = c.args.atoms.now in
    let g = c.check_telling.ensures.grows in
    let w = now_of c.args.world.now.first in
    let lists = c.args.world.now.second.now in
    let h = c.check_telling.new.heap.now in
    grown_if texts (w, lists) (with_heap h w, lists) (now_of c.tell.new.world) c.tell.new.lists.now c.in-Ok-tell.begun
    (grown_terms texts w h g.terms g.images (g.names c.requires.ready.1.stands.names) lists) c.in-Ok-tell.ensures.unchanged c.tell.ensures.keeps

pub returns-in-Err-tell-clause-err : goal.returns-in-Err-tell-clause-err
returns-in-Err-tell-clause-err c =
    let texts = c.args.atoms.now in
    let g = c.check_telling.ensures.grows in
    let w = now_of c.args.world.now.first in
    let lists = c.args.world.now.second.now in
    let h = c.check_telling.new.heap.now in
    grown_still texts (w, lists) (with_heap h w, lists) (now_of c.tell.new.world) c.tell.new.lists.now
    (grown_terms texts w h g.terms g.images (g.names c.requires.ready.1.stands.names) lists) c.in-Err-tell.ensures.err c.tell.ensures.keeps

pub returns-in_err-first-in-Halves-clause-err : goal.returns-in_err-first-in-Halves-clause-err
returns-in_err-first-in-Halves-clause-err c =
    let texts = c.args.atoms.now in
    let g = grows_both texts texts texts c.args.world.now.first.heap c.check_telling.new.heap c.goals_of.new.heap c.check_telling.ensures.grows c.goals_of.ensures.grows in
    after_error _ c.from_residual.result
    (grown_terms texts (now_of c.args.world.now.first) c.goals_of.new.heap.now g.terms g.images (g.names c.requires.ready.1.stands.names) c.args.world.now.second.now)

pub returns-in_err-k-in-Halves-clause-err : goal.returns-in_err-k-in-Halves-clause-err
returns-in_err-k-in-Halves-clause-err c =
    let texts = c.args.atoms.now in
    let g = grows_both texts texts texts c.args.world.now.first.heap c.check_telling.new.heap c.goals_of.new.heap c.check_telling.ensures.grows c.goals_of.ensures.grows in
    let w = now_of c.args.world.now.first in
    let lists = c.args.world.now.second.now in
    let h = c.goals_of.new.heap.now in
    after_error _ c.from_residual-in_err-k-in-Halves.result
    (grown_still texts (w, lists) (with_heap h w, lists) (now_of c.or.new.world.first) c.or.new.world.second.now
    (grown_terms texts w h g.terms g.images (g.names c.requires.ready.1.stands.names) lists) c.or.ensures.world c.or.ensures.keeps)

-- ---- two goals

first_same : (t u : Tree) → t ∷ [] ≡ u ∷ [] → t ≡ u
first_same t u e = cc

pub returns-in_ok-k-in-Halves-clause-row : goal.returns-in_ok-k-in-Halves-clause-row
returns-in_ok-k-in-Halves-clause-row c = λ v.
    let texts = c.args.atoms.now in
    let first = c.args.world.now.first in
    let marks = c.args.world.now.second.saved in
    let g = grows_both texts texts texts first.heap c.check_telling.new.heap c.goals_of.new.heap c.check_telling.ensures.grows c.goals_of.ensures.grows in
    let w = now_of first in
    let lists = c.args.world.now.second.now in
    let h = c.goals_of.new.heap.now in
    let mid = with_heap h w in
    let through : (st : State) (id : ℕ) → IsReadyAs texts mid st → MayBeTold h id → read st (tree texts h.terms id) ≡ tree texts h.terms id =
    λ st id r m. first_same (read st (tree texts h.terms id)) (tree texts h.terms id)
    (c.equated_worlds_may_be_settled.ensures.work texts mid [] (id ∷ []) [] st r (λ i d l. absurd (omega (arith, l)))
    (All-cons (MayBeTold h) id [] m (λ i d l. absurd (omega (arith, l))))).told_are in
    let saved = ap (λ (l : List Contents). zip l marks) (saved_still first c.goals_of.new.heap.saved g.saved) in
    split_leads texts w c.check_telling.new.heap.now h lists g.terms g.images (g.names c.requires.ready.1.stands.names) c.in-Halves.left c.in-Halves.right
    (c.in_ok-first-in-Halves.first, c.in_ok-first-in-Halves.second) c.in_ok-first-in-Halves.ensures.goals through c.args.constraint c.args.height c.args.rest
    c.in-Ok.ensures.lawful (rw c.in-Halves.is at c.in-Ok.ensures.telling) (stack texts v (saved_values first marks) c.args.choices.now)
    (stack texts v (saved_values c.or.new.world.first c.or.new.world.second.saved) c.or.new.choices) (value c.or.new.world.first c.or.new.world.second.now) c.in_ok-k-in-Halves.k
    (λ p behind a b s ra rb. c.in_ok-k-in-Halves.ensures.row v p behind a b
    (subst (λ (l : List (Value Contents)). Selected texts (stack texts v l c.args.choices.now) (mid, lists) c.args.height c.args.rest p behind) (sym saved) s) ra rb)
