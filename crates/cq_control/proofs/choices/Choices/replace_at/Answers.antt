use Rattle.std.proofs.Common.{◌<◌, length, Some, ap, sym, ◌∙◌, refl, arith}
use Rattle.std.proofs.lemmas.List.{length-reverse}
use Rattle.std.proofs.lemmas.Option.{slice_get_read}
use Rattle.cq_control.proofs.Opened.{replaced-at}
use Rattle.cq_control.proofs.choices.Choices.replace_at.Goals as goal

pub returns : goal.returns
returns g c =
    let items = c.self.inside.contents.items in
    let within : c.args.height < length items = omega (arith, c.requires, ap length c.self.view_is, length-reverse items) in
    let here = slice_get_read items (length items) c.args.height c.index_mut.result.now refl within c.index_mut.ensures.value in
    rw (← c.self.view_is, c.replace.ensures.after)
    (replaced-at items c.args.height c.replace.result c.args.content (here ∙ ap Some (sym c.replace.ensures.value)))
