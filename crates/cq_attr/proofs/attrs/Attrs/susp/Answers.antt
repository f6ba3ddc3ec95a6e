use Rattle.std.proofs.Common.{◌≡◌, ◌∙◌, Some, true, ap, sym, zero-add, arith}
use Rattle.std.specs.Prelude.{slice_get}
use Rattle.std.proofs.lemmas.Option.{same_Some}
use Rattle.cq_attr.proofs.Slots.{find_waiting}
use Rattle.cq_attr.proofs.Numbers.{slot_of, number_within}
use Rattle.cq_attr.proofs.attrs.Attrs.susp.Goals as goal

pub get-requires : goal.get-requires
get-requires c = omega (arith, c.index.ensures, number_within c.self.inside.parts.inner.second.second.now c.self.inside.parts.inner.second.first.now c.args.number (rw (← c.self.view_is) at c.requires))

pub returns : goal.returns
returns c =
    let ss = c.self.inside.parts.inner.second.second.now in
    let ws = c.self.inside.parts.inner.second.first.now in
    let m = c.args.number in
    let s = c.get.result.now in
    let h = slot_of ss ws m (rw (← c.self.view_is) at c.requires) in
    let at : slice_get ss m ≡ Some s = ap (slice_get ss) (sym c.index.ensures) ∙ c.get.ensures in
    let waits : s.waits ≡ true = ap (λ t. t.waits) (same_Some s h.slot (sym at ∙ h.there)) ∙ h.waits in
    rw (← c.self.view_is) (find_waiting 0 ss ws m m s (sym (zero-add m)) at waits)
