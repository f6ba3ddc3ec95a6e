use Rattle.std.proofs.Common.{◌≡◌, ◌<◌, ◌-◌, ◌++◌, ◌∷◌, [], suc, length, reverse, take, Some, ap, sym, ◌∙◌, refl, arith}
use Rattle.std.proofs.lemmas.List.{length-reverse}
use Rattle.std.proofs.lemmas.Option.{slice_get_read}
use Rattle.cq_control.specs.Open.{open_choices}
use Rattle.cq_control.proofs.Opened.{replaced-top, open-top, open-push}
use Rattle.cq_control.proofs.choices.Choices.retry.Goals as goal

pub returns-clause-contents : goal.returns-clause-contents
returns-clause-contents g c =
    let items = c.self.inside.contents.items in
    let n = c.len-number.result - 1 in
    let long : length items ≡ suc n = omega (arith, c.requires.some, ap length c.self.view_is, length-reverse items, c.len-number.ensures) in
    let within : n < length items = omega (arith, long) in
    let here = slice_get_read items (length items) n c.index_mut.result.now refl within c.index_mut.ensures.value in
    let r = replaced-top items n c.replace.result c.args.content long (here ∙ ap Some (sym c.replace.ensures.value)) in
    rw (← c.self.view_is, c.replace.ensures.after) (reverse (take n items), r.0, r.1)

pub returns-clause-open : goal.returns-clause-open
returns-clause-open g c =
    let saved = g.W.Undo.saved c.args.world.now in
    let now = g.W.Undo.now c.undo.new.self in
    let n = c.len-number.result - 1 in
    let long : length saved ≡ suc n = omega (arith, c.requires.some, c.requires.marked, ap length c.self.view_is, length-reverse c.self.inside.contents.items, c.len-number.ensures) in
    let marked = rw c.unwrap.ensures at c.mark.ensures.saved in
    let r = returns-clause-contents g c in
    let marks = marked ∙ ap (λ s. s ++ now ∷ []) c.undo.ensures.saved in
    rw c.mark.ensures.now (
      open_choices (take n saved) r.0,
      ap (open_choices saved) r.1 ∙ open-top saved r.0 n now c.replace.result long c.undo.ensures.now,
      ap (open_choices (g.W.Undo.saved c.mark.new.self)) r.2 ∙ ap (λ s. open_choices s (c.args.content ∷ r.0)) marks ∙ open-push (take n saved) r.0 now c.args.content,
    )
