use Rattle.std.proofs.Common.{◌≡◌, ◌∙◌, List, map, length, ap, sym, get_or, Some, arith}
use Rattle.std.proofs.lemmas.List.{length-map}
use Rattle.cq_term.specs.declared.view.View.{View}
use Rattle.cq_resolve.specs.FirstArgument.{first_shown}
use Rattle.cq_resolve.specs.Marks.{shown}
use Rattle.cq_resolve.specs.StoredValue.{ClauseValue}
use Rattle.cq_resolve.proofs.FirstArguments.{head_shown, second_shown}
use Rattle.cq_resolve.proofs.Marks.{shown_at}
use Rattle.cq_resolve.proofs.stored.clause.Clause.first_argument.Goals as goal

pub returns-in-Compound : goal.returns-in-Compound
returns-in-Compound c =
    let parts = c.self.inside.head.items in
    let hs = map shown parts in
    let front = head_shown c.self.inside.variables hs c.self.invariant.head in
    let first : c.view.result ≡ get_or hs 0 c.view.result = shown_at parts 0 c.index.result.now c.view.result (omega (arith, length-map parts shown, ap length front.1)) c.index.ensures (sym c.view.ensures) in
    let shows = sym (first ∙ ap (λ (us : List View). get_or us 0 c.view.result) front.1) ∙ c.in-Compound.is in
    let two = second_shown c.self.inside.variables hs c.in-Compound.field-0 c.in-Compound.field-1 c.self.invariant.head shows in
    let second : c.view-in-Compound.result ≡ get_or hs 1 c.view-in-Compound.result =
    shown_at parts 1 c.index-in-Compound.result.now c.view-in-Compound.result (omega (arith, length-map parts shown, ap length two.2)) c.index-in-Compound.ensures (sym c.view-in-Compound.ensures) in
    ap Some (second ∙ ap (λ (us : List View). get_or us 1 c.view-in-Compound.result) two.2) ∙ sym two.3 ∙ ap (λ (v : ClauseValue). first_shown v.head) c.self.view_is
