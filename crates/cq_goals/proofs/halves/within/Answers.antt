use Rattle.std.proofs.Common.{Some, ◌∙◌, refl, ap, subst}
use Rattle.cq_goals.specs.Splitting.{IsLiveFrame, resumed, halves_at}
use Rattle.cq_goals.proofs.Splitting.{both_built}
use Rattle.cq_goals.proofs.halves.within.Goals as goal

pub returns-in_ok-right-in-Left-clause-joined : goal.returns-in_ok-right-in-Left-clause-joined
returns-in_ok-right-in-Left-clause-joined c =
    let texts = c.args.atoms.now in
    let ts = c.args.heap.now.now.terms in
    let s = c.in-Left.sides in
    let h = c.args.halves in
    let live = subst (IsLiveFrame texts ts) c.in-Left.is c.requires.live in
    ap (λ f. resumed texts ts f (Some (halves_at texts ts h))) c.in-Left.is
    ∙ ap Some
    (both_built texts c.args.heap.now c.conjunction.new.heap c.conjunction-in-Left.new.heap c.conjunction.ensures.grows c.conjunction-in-Left.ensures.grows c.requires.names
    h.left s.right h.right s.right c.in_ok-left-in-Left.left c.in_ok-right-in-Left.right c.requires.halves_live.1 live.right c.in_ok-left-in-Left.ensures.live
    c.in_ok-left-in-Left.ensures.built c.in_ok-right-in-Left.ensures.built (record { left = c.in_ok-left-in-Left.left; right = c.in_ok-right-in-Left.right }) refl refl)

pub returns-in_ok-right-in-Right-clause-joined : goal.returns-in_ok-right-in-Right-clause-joined
returns-in_ok-right-in-Right-clause-joined c =
    let texts = c.args.atoms.now in
    let ts = c.args.heap.now.now.terms in
    let s = c.in-Right.sides in
    let h = c.args.halves in
    let live = subst (IsLiveFrame texts ts) c.in-Right.is c.requires.live in
    ap (λ f. resumed texts ts f (Some (halves_at texts ts h))) c.in-Right.is
    ∙ ap Some
    (both_built texts c.args.heap.now c.conjunction-in-Right.new.heap c.conjunction-in-Right-2.new.heap c.conjunction-in-Right.ensures.grows
    c.conjunction-in-Right-2.ensures.grows c.requires.names s.left h.left s.left h.right c.in_ok-left-in-Right.left c.in_ok-right-in-Right.right live.left c.requires.halves_live.1 c.in_ok-left-in-Right.ensures.live
    c.in_ok-left-in-Right.ensures.built c.in_ok-right-in-Right.ensures.built (record { left = c.in_ok-left-in-Right.left; right = c.in_ok-right-in-Right.right }) refl refl)
