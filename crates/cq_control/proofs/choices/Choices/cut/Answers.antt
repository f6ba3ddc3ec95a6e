use Rattle.std.proofs.Common.{◌≡◌, ◌≤◌, length, reverse, ap, ap₂, sym, ◌∙◌, arith}
use Rattle.std.proofs.lemmas.List.{length-reverse}
use Rattle.cq_control.specs.Open.{last, open_choices}
use Rattle.cq_control.proofs.Opened.{last-reverse, last-all, open-last, length-open}
use Rattle.cq_control.proofs.choices.Choices.cut.Goals as goal

pub returns-then-height-len-clause-contents : goal.returns-then-height-len-clause-contents
returns-then-height-len-clause-contents g c =
    ap reverse c.truncate.ensures.items ∙ sym (last-reverse c.args.height c.self.inside.contents.items) ∙ ap (last c.args.height) c.self.view_is

pub returns-then-height-len-clause-open : goal.returns-then-height-len-clause-open
returns-then-height-len-clause-open g c =
    ap₂ open_choices c.forget.ensures.saved (returns-then-height-len-clause-contents g c)
    ∙ open-last (g.W.Undo.saved c.args.world.now) c.args.self.now c.args.height c.requires.marked

pub returns-else-height-len-clause-open : goal.returns-else-height-len-clause-open
returns-else-height-len-clause-open g c =
    let those = open_choices (g.W.Undo.saved c.args.world.now) c.args.self.now in
    let long : length those ≡ length c.args.self.now = length-open (g.W.Undo.saved c.args.world.now) c.args.self.now c.requires.marked in
    let all : length those ≤ c.args.height = omega (arith, long, c.len.ensures, c.if-height-len.false, length-reverse c.self.inside.contents.items, ap length c.self.view_is) in
    sym (last-all c.args.height those all)
