use Rattle.std.proofs.Common.{◌≡◌, ◌++◌, ◌∷◌, [], length, rules}
use Rattle.spec_numbers.proofs.Places.{newest}
use Rattle.cq_unify.proofs.Named.{names_same}
use Rattle.cq_unify.proofs.unification.unify_or_undo.Goals as goal

pub returns-in-Ok-true-clause-names : goal.returns-in-Ok-true-clause-names
returns-in-Ok-true-clause-names c = λ n all.
    let marked : c.mark.new.self.now ≡ c.args.heap.now.now = search rules in
    names_same n c.unify_pairs-outcome.new.heap.now c.forget.new.self.now c.forget.ensures.now
    (c.unify_pairs-outcome.ensures.names n (names_same n c.args.heap.now.now c.mark.new.self.now marked all))

pub returns-in_default-clause-names : goal.returns-in_default-clause-names
returns-in_default-clause-names c = λ n.
    let number : c.unwrap-start.result.number ≡ length c.args.heap.now.saved = search rules in
    let saved : c.unify_pairs-outcome.new.heap.saved ≡ c.args.heap.now.saved ++ c.args.heap.now.now ∷ [] = search rules in
    names_same n c.args.heap.now.now c.undo.new.self.now
    (newest c.args.heap.now.saved c.args.heap.now.now c.unwrap-start.result.number number c.unify_pairs-outcome.new.heap.saved saved c.undo.new.self.now c.undo.ensures.now)
