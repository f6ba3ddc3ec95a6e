use Rattle.std.proofs.Common.{◌≡◌, ◌∷◌, suc, length, reverse, sym, ap, ◌∙◌, arith}
use Rattle.std.proofs.lemmas.List.{length-reverse}
use Rattle.cq_control.specs.Open.{open_choices}
use Rattle.cq_control.proofs.Opened.{reverse-push, open-top}
use Rattle.cq_control.proofs.choices.Choices.back.Goals as goal

pub returns-clause-open : goal.returns-clause-open
returns-clause-open g c =
    let saved = g.W.Undo.saved c.args.world.now in
    let now = g.W.Undo.now c.undo.new.self in
    let content = c.in_ok-content.content in
    let older = reverse c.pop.new.self.items in
    let is : c.args.self.now ≡ content ∷ older = sym c.self.view_is ∙ ap reverse c.in_ok-content.ensures.items ∙ reverse-push c.pop.new.self.items content in
    let long : length saved ≡ suc c.len.result = omega (arith, c.requires.marked, ap length is, c.len.ensures, length-reverse c.pop.new.self.items) in
    ap (open_choices saved) is ∙ open-top saved older c.len.result now content long c.undo.ensures.now
    ∙ ap (λ s. (now, content) ∷ open_choices s older) (sym c.undo.ensures.saved)
