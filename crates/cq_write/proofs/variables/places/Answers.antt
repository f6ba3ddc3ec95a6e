use Rattle.std.proofs.Common.{◌≡◌, ◌<◌, ◌+◌, ◌++◌, ◌∷◌, [], ℕ, ◌∙◌, ap, sym, subst, length, take, nat_eq, arith}
use Rattle.std.proofs.lemmas.List.{take_more, length-take-le}
use Rattle.indexmap.specs.IndexMap.{get}
use Rattle.spec_terms.specs.VariableName.{VariableName}
use Rattle.cq_write.specs.Naming.{AreFound, kept_or}
use Rattle.cq_write.proofs.Naming.{found_more}
use Rattle.cq_write.proofs.variables.places.Goals as goal

pub loop-place-preserved : goal.loop-place-preserved
loop-place-preserved c =
    let names = c.args.names.now in
    let i = c.loop-place.place in
    let n = c.index-names-place.result in
    let here : i < length names = c.loop-place-test.true in
    let more : take (i + 1) names ≡ take i names ++ n ∷ [] = take_more names i n here ∙ ap (λ (x : VariableName). take i names ++ x ∷ []) (sym c.index-names-place.is) in
    let long : i ≡ length (take i names) = sym (length-take-le i names (omega arith)) in
    let noted : (v : ℕ) → get nat_eq c.note.new.given v ≡ kept_or (get nat_eq c.loop-place.given v) (nat_eq n.number v) i =
    λ v. c.in_ok-note.ensures v ∙ ap (λ (x : VariableName). kept_or (get nat_eq c.loop-place.given v) (nat_eq x.number v) i) c.named.view_is in
    subst (λ ns. AreFound ns (get nat_eq c.note.new.given)) (sym more) (found_more (take i names) n (get nat_eq c.loop-place.given) (get nat_eq c.note.new.given) i c.loop-place.invariant long noted)
