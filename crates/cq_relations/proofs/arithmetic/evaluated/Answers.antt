use Rattle.std.proofs.Common.{◌≡◌, ◌∙◌, ◌∷◌, [], List, ap, sym, subst}
use Rattle.std.specs.Prelude.{Err}
use Rattle.spec_branch.specs.Branch.{Branch}
use Rattle.spec_search.specs.Replies.{Place, unifies, with_equations}
use Rattle.spec_engine.specs.Cells.{Stack}
use Rattle.cq_store.specs.declared.store.StoreFault.{StoreFault}
use Rattle.cq_settle.specs.Settled.{MayRefuse, MayTake}
use Rattle.cq_settle.specs.Contents.{Contents}
use Rattle.cq_settle.specs.Rest.{IsReady}
use Rattle.cq_settle.specs.Worlds.{now_of}
use Rattle.cq_branch.specs.Worlds.{value, with_heap, Placed, Leads}
use Rattle.cq_branch.specs.Begun.{goes_to, trees_of_pairs, AtPlaces}
use Rattle.cq_branch.specs.declared.begin.beginning.Begun.TheVariants.{Goes}
use Rattle.cq_relations.proofs.Equating.{leads_to, is_not_settled, has_no_value}
use Rattle.cq_relations.proofs.Growing.{ready_grown}
use Rattle.cq_relations.proofs.arithmetic.evaluated.Goals as goal
use Rattle.cq_relations.proofs.arithmetic.evaluated.Goals.{Else-unify_constant}

pub unify_constant-requires-clause-ready : goal.unify_constant-requires-clause-ready
unify_constant-requires-clause-ready c =
    let g = c.is_value.ensures.grows in
    let r = c.requires.ready in
    (r.0, ready_grown c.args.atoms.now (now_of c.args.world.now) c.is_value.new.heap.now g.terms g.images (g.names r.1.stands.names) r.0 r.1)

pub returns-then-unify_constant-clause-row : goal.returns-then-unify_constant-clause-row
returns-then-unify_constant-clause-row c =
    let g = c.is_value.ensures.grows in
    leads_to c.args.atoms.now (now_of c.args.world.now) c.is_value.new.heap.now c.args.lists.now.now c.args.left c.args.expression c.args.rest
    g.terms g.images (g.names c.requires.ready.1.stands.names) c.in-Ok.right c.in-Ok.ensures.value (value c.unify_constant.new.world c.args.lists.now.now) (Goes c.args.rest)
    (c.unify_constant.ensures.row c.if-unify_constant.true)

-- ---- the variable is not bound at once

same : (c : Else-unify_constant) → now_of c.unify_constant.new.world ≡ with_heap c.is_value.new.heap.now (now_of c.args.world.now)
same c = c.unify_constant.ensures.unchanged c.if-unify_constant.false

pub unify-requires-clause-ready : goal.unify-requires-clause-ready
unify-requires-clause-ready c =
    let g = c.is_value.ensures.grows in
    let r = c.requires.ready in
    subst (λ (x : Contents). IsReady c.args.atoms.now x) (sym (same (goal.at.unify-requires-clause-ready c).Else-unify_constant))
    (r.0, ready_grown c.args.atoms.now (now_of c.args.world.now) c.is_value.new.heap.now g.terms g.images (g.names r.1.stands.names) r.0 r.1)

pub returns-in-Ok-unify-clause-row : goal.returns-in-Ok-unify-clause-row
returns-in-Ok-unify-clause-row c =
    let g = c.is_value.ensures.grows in
    let pairs = record { left = c.args.left; right = c.in-Ok.right } ∷ [] in
    let new = value c.unify.new.world c.unify.new.lists.now in
    leads_to c.args.atoms.now (now_of c.args.world.now) c.is_value.new.heap.now c.args.lists.now.now c.args.left c.args.expression c.args.rest
    g.terms g.images (g.names c.requires.ready.1.stands.names) c.in-Ok.right c.in-Ok.ensures.value new c.in-Ok-unify.begun
    (subst (λ (x : Contents). (choices : Stack Contents) (p : Place) (behind : List Branch) → Placed c.args.atoms.now choices (x, c.args.lists.now.now) c.args.rest p behind
    → Leads c.args.atoms.now choices new (goes_to c.in-Ok-unify.begun) p behind (unifies p (trees_of_pairs c.args.atoms.now x.heap.terms pairs)))
    (same (goal.at.returns-in-Ok-unify-clause-row c).Else-unify_constant) c.in-Ok-unify.ensures.row)

pub returns-in-Err-unify-clause-fault : goal.returns-in-Err-unify-clause-fault
returns-in-Err-unify-clause-fault c =
    let g = c.is_value.ensures.grows in
    let pairs = record { left = c.args.left; right = c.in-Ok.right } ∷ [] in
    let back = same (goal.at.returns-in-Err-unify-clause-fault c).Else-unify_constant in
    is_not_settled c.args.atoms.now (now_of c.args.world.now) c.is_value.new.heap.now c.args.lists.now.now c.args.left c.args.expression c.args.rest
    g.terms g.images (g.names c.requires.ready.1.stands.names) c.in-Ok.right c.in-Ok.ensures.value c.args.world.now.store.pivots c.in-Err-unify.fault
    (λ pair e. subst (λ (x : Contents). AtPlaces c.args.atoms.now (x, c.args.lists.now.now) c.args.rest
    (λ st. MayRefuse st (with_equations (trees_of_pairs c.args.atoms.now x.heap.terms pairs)) pair)) back
    (c.unify.ensures.overflow pair (c.in-Err-unify.is ∙ ap (λ (f : StoreFault). Err f) e)))
    (λ k e. let t = c.unify.ensures.pivots k (c.in-Err-unify.is ∙ ap (λ (f : StoreFault). Err f) e) in (
      t.0 ∙ c.unify_constant.ensures.budget,
      subst (λ (x : Contents). AtPlaces c.args.atoms.now (x, c.args.lists.now.now) c.args.rest
          (λ st. MayTake st (with_equations (trees_of_pairs c.args.atoms.now x.heap.terms pairs)) k)) back t.1,
    ))

pub returns-in-Err-clause-fault : goal.returns-in-Err-clause-fault
returns-in-Err-clause-fault c =
    has_no_value c.args.atoms.now (now_of c.args.world.now) c.args.lists.now.now c.args.left c.args.expression c.args.rest c.args.world.now.store.pivots c.in-Err.fault c.in-Err.ensures.fault
