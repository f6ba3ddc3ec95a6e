use Rattle.std.proofs.Common.{◌≡◌, ◌∷◌, [], ◌++◌, if◌then◌else◌, refl, sym, ap, ◌∙◌, subst, inl, inr}
use Rattle.std.specs.List.{list_any}
use Rattle.std.proofs.lemmas.Bool.{not-false, eqb-true}
use Rattle.indexmap.proofs.CallerLemmas.{Contains-list_any}
use Rattle.cq_term.specs.contracts.names.TermIdPartialEq.TheImpl as same_id
use Rattle.cq_term.specs.Visits.{Visits, VisitsArguments}
use Rattle.cq_term.proofs.walk.visits.Visited.visit.Goals as goal

pub returns : goal.returns
returns c =
    let keys = c.self.inside.known.keys in
    let known = not-false (list_any (same_id.eq-value.it c.args.id) keys) (sym c.in_ok-is_new.ensures.added ∙ c.if-is_new.false) in
    let contained = Contains-list_any same_id.eq-value.it eqb-true keys c.args.id known in
    let same : c.insert.new.self.keys ≡ keys = c.in_ok-is_new.ensures.keys ∙ ap (λ b. if b then keys else keys ++ c.args.id ∷ []) known in
    let after : Visits = record { free = c.self.inside.free; known = c.insert.new.self.keys } in
    subst (λ (before : Visits). VisitsArguments c.args.heap.now.now.terms c.args.id before after c.args.work.now.items c.args.work.now.items) c.self.view_is
    (inl (inr contained, (λ i. record { free = c.self.inside.free; known = same i }), refl))
