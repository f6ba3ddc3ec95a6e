use Rattle.std.proofs.Common.{◌<◌, ◌-◌, List, ℕ, drop, length, sym, subst}
use Rattle.std.specs.Prelude.{All}
use Rattle.std.proofs.lemmas.List.Elements.{All-nil, All-append, All-drop, All-take}
use Rattle.cq_machine.proofs.selected.calls.all_arguments.Goals as goal

pub returns-clause-live : goal.returns-clause-live
returns-clause-live c =
    let ts = c.args.heap.now.now.terms in
    let P = λ (i : ℕ). i < length ts in
    subst (λ (l : List ℕ). All P l) (sym c.in_ok-extend_from_slice-2.ensures.items)
    (All-append P c.extend_from_slice.new.self.items _
    (subst (λ (l : List ℕ). All P l) (sym c.in_ok-extend_from_slice.ensures.items)
    (All-append P c.new-all.result.items c.args-own.result.now (subst (λ (l : List ℕ). All P l) (sym c.new-all.ensures.items) (All-nil P)) c.args-own.ensures.live))
    (All-take P (length c.args-given.result.now - 1) (drop 1 c.args-given.result.now) (All-drop P 1 c.args-given.result.now c.args-given.ensures.live)))
