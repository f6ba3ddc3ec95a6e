use Rattle.std.proofs.Common.{◌≡◌, ◌∙◌, length, map, ap, arith}
use Rattle.spec_terms.specs.Term.{with_arguments}
use Rattle.cq_term.specs.Meaning.{at}
use Rattle.cq_unify.specs.Copied.{unbound_from}
use Rattle.cq_resolve.proofs.Built.{last_at}
use Rattle.cq_interpreter.proofs.Restoring.{the_variables}
use Rattle.cq_interpreter.proofs.goals.over_variables.Goals as goal
use Rattle.cq_interpreter.proofs.goals.over_variables.Goals.{In_ok-ids}

-- the terms that were listed are the variables
listed : (c : In_ok-ids) → map (at c.new_variables.new.heap.now.terms) c.in_ok-ids.ids.items ≡ unbound_from 0 (length c.args.heap.now.now.images)
listed c =
    let older = c.args.heap.now.now.images in
    c.in_ok-ids.ensures.terms ∙ the_variables older c.new_variables.new.heap.now.images (unbound_from (length older) 1, c.in_ok-count.ensures.images) c.requires c.in_ok-count.count (c.in_ok-count.ensures.first (omega arith))

pub returns-clause-over : goal.returns-clause-over
returns-clause-over c =
    let ts = c.new_variables.new.heap.now.terms in
    last_at ts c.compound.new.self.now.terms (with_arguments c.args.name (map (at ts) c.deref.result.now)) c.in_ok-id-2.id c.in_ok-id-2.ensures.terms c.in_ok-id-2.ensures.id
    ∙ ap (λ ids. with_arguments c.args.name (map (at ts) ids)) c.deref.ensures.value
    ∙ ap (with_arguments c.args.name) (listed (goal.at.returns-clause-over c).In_ok-ids)
