use Rattle.std.proofs.Common.{◌∙◌, ap}
use Rattle.std.specs.Option.{option_map}
use Rattle.spec_branch.specs.Checks.{members}
use Rattle.cq_built.proofs.Trees.{kept}
use Rattle.cq_goals.specs.Splitting.{halves_at}
use Rattle.cq_goals.proofs.tellings.members_or_halves.Goals as goal

pub returns-in_ok-members-in-None-clause-telling : goal.returns-in_ok-members-in-None-clause-telling
returns-in_ok-members-in-None-clause-telling c =
    let more = c.args.atoms.now in
    let new = c.halves.new.heap in (
      c.in_ok-halves.ensures.halves ∙ ap (option_map (halves_at more new.now.terms)) c.in-None.is,
      c.in_ok-members-in-None.ensures.members ∙ ap members (kept c.args.atoms.now more c.args.heap.now new c.halves.ensures.grows c.requires.names c.args.constraint c.requires.live),
    )
