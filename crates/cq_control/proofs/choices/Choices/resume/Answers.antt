use Rattle.std.proofs.Common.{◌≡◌, ◌<◌, ◌-◌, ◌++◌, ◌∷◌, [], List, suc, length, take, ap, sym, ◌∙◌, refl, arith}
use Rattle.std.proofs.lemmas.List.{length-reverse}
use Rattle.cq_control.specs.Open.{open_choices}
use Rattle.cq_control.proofs.Opened.{open-top, take-last}
use Rattle.cq_control.proofs.choices.Choices.resume.Goals as goal

-- a list that is not empty has a first one
first_of : {X : Type 0} (xs : List X) → 0 < length xs → (x : X) × (older : List X) × (xs ≡ x ∷ older)
first_of [] l = absurd (omega (arith, l))
first_of (x ∷ xs) l = (x, xs, refl)

pub returns-clause-open : goal.returns-clause-open
returns-clause-open g c =
    let saved = g.W.Undo.saved c.args.world.now in
    let now = g.W.Undo.now c.undo.new.self in
    let n = c.len.result - 1 in
    let first = first_of c.args.self.now c.requires.some in
    let long : length saved ≡ suc n = omega (arith, c.requires.some, c.requires.marked, ap length c.self.view_is, length-reverse c.self.inside.contents.items, c.len.ensures) in
    rw c.mark.ensures.now (
      first.0,
      first.1,
      open_choices (take n saved) first.1,
      first.2,
      ap (open_choices saved) first.2 ∙ open-top saved first.1 n now first.0 long c.undo.ensures.now,
    )

pub returns-clause-saved : goal.returns-clause-saved
returns-clause-saved g c =
    let saved = g.W.Undo.saved c.args.world.now in
    let now = g.W.Undo.now c.undo.new.self in
    let n = c.len.result - 1 in
    let long : length saved ≡ suc n = omega (arith, c.requires.some, c.requires.marked, ap length c.self.view_is, length-reverse c.self.inside.contents.items, c.len.ensures) in
    let marked = rw c.unwrap.ensures at c.mark.ensures.saved in
    marked ∙ ap (λ s. s ++ now ∷ []) c.undo.ensures.saved ∙ sym (take-last saved n now long c.undo.ensures.now)

pub returns-clause-marked : goal.returns-clause-marked
returns-clause-marked g c = ap length (returns-clause-saved g c) ∙ c.requires.marked
