use Rattle.std.proofs.Common.{◌≡◌, ◌<◌, ◌-◌, suc, length, reverse, take, ap, refl, arith}
use Rattle.std.proofs.lemmas.List.{length-reverse}
use Rattle.std.proofs.lemmas.Option.{slice_get_read}
use Rattle.cq_control.proofs.Opened.{replaced-top}
use Rattle.cq_control.proofs.choices.Choices.renew.Goals as goal

pub returns : goal.returns
returns g c =
    let items = c.self.inside.contents.items in
    let n = c.len-number.result - 1 in
    let long : length items ≡ suc n = omega (arith, c.requires, ap length c.self.view_is, length-reverse items, c.len-number.ensures) in
    let within : n < length items = omega (arith, long) in
    let here = slice_get_read items (length items) n c.index_mut.result.now refl within c.index_mut.ensures.value in
    let r = replaced-top items n c.index_mut.result.now c.args.content long here in
    rw (← c.self.view_is) (c.index_mut.result.now, reverse (take n items), r.0, r.1)
