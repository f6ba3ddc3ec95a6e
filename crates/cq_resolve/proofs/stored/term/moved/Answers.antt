use Rattle.std.proofs.Common.{◌∙◌, map}
use Rattle.cq_resolve.specs.Marks.{shown}
use Rattle.cq_resolve.proofs.StoredNamed.{named_pattern}
use Rattle.cq_resolve.proofs.Renamed.{renamed_image}
use Rattle.cq_resolve.proofs.stored.term.moved.Goals as goal

pub returns-clause-moved : goal.returns-clause-moved
returns-clause-moved c =
    let older = c.args.heap.now.now.images in
    let images = c.new_variables.new.heap.now.images in
    c.in_ok-id.ensures.built
    ∙ renamed_image older images c.in_ok-first.first c.args.count (map shown c.args.pattern.now) c.requires c.in_ok-first.ensures.images c.in_ok-first.ensures.first

pub returns-clause-names : goal.returns-clause-names
returns-clause-names c = λ n h all.
    c.in_ok-id.ensures.names n (named_pattern n c.args.count (map shown c.args.pattern.now) c.requires h) (c.in_ok-first.ensures.names n all)
