use Rattle.std.proofs.Common.{◌≡◌, ◌-◌, ◌∙◌, suc, length, length-drop, inl, inr, ap, arith}
use Rattle.cq_branch.specs.Worlds.{saved_values}
use Rattle.cq_branch.specs.declared.alternatives.Alternatives.TheVariants.{Barrier, Ways}
use Rattle.cq_choices.proofs.Newest.{older_ones, other_newest, same_length}
use Rattle.cq_choices.proofs.trying.put_back.Goals as goal

pub returns-then-is_over-clause-open : goal.returns-then-is_over-clause-open
returns-then-is_over-clause-open c = λ start older e.
    let n = c.height-newest.result - 1 in
    let long : length c.args.choices.now ≡ suc n = omega (arith, c.requires.some, c.height-newest.ensures) in
    inr (
      c.cut.ensures.open
          ∙ older_ones (saved_values c.args.world.now.first c.args.world.now.second.saved) c.args.choices.now n (start, Barrier) older c.requires.marked long e,
      c.is_over.ensures c.if-is_over.true,
    )

pub returns-else-is_over-clause-open : goal.returns-else-is_over-clause-open
returns-else-is_over-clause-open c = λ start older e.
    inl (other_newest (saved_values c.args.world.now.first c.args.world.now.second.saved) c.args.choices.now c.replace_newest.new.choices (Ways c.args.others c.args.rest)
    (start, Barrier) older c.replace_newest.ensures e)

pub returns-then-is_over-clause-no_more : goal.returns-then-is_over-clause-no_more
returns-then-is_over-clause-no_more c =
    omega (arith, ap length c.cut.ensures.contents, length-drop (length c.args.choices.now - (c.height-newest.result - 1)) c.args.choices.now)

pub returns-else-is_over-clause-no_more : goal.returns-else-is_over-clause-no_more
returns-else-is_over-clause-no_more c =
    omega (arith, same_length c.args.choices.now c.replace_newest.new.choices (Ways c.args.others c.args.rest) c.replace_newest.ensures)
