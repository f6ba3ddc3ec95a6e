use Rattle.std.proofs.Common.{◌≡◌, ◌-◌, ◌++◌, ◌∷◌, [], suc, length, ◌∙◌, arith}
use Rattle.cq_branch.specs.Worlds.{value, saved_values}
use Rattle.cq_choices.proofs.Newest.{renews}
use Rattle.cq_choices.proofs.marks.renew.Goals as goal

pub returns-clause-open : goal.returns-clause-open
returns-clause-open c =
    let n = c.height-newest.result - 1 in
    let long : length c.args.choices.now ≡ suc n = omega (arith, c.requires.some, c.height-newest.ensures) in
    let saved = rw c.unwrap.ensures at c.mark.ensures.saved in
    renews (saved_values c.args.world.now.first c.args.world.now.second.saved) (saved_values c.mark.new.self.first c.mark.new.self.second.saved) c.args.choices.now
    c.replace_newest.new.choices n (value c.args.world.now.first c.args.world.now.second.now) c.args.content c.requires.marked long
    (saved ∙ (λ i. c.forget.ensures.saved i ++ c.forget.ensures.now i ∷ [])) c.replace_newest.ensures
