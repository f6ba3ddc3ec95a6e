use Rattle.std.proofs.Common.{◌≡◌, length}
use Rattle.cq_term.specs.Texts.{AreDifferent, KeepsTexts}
use Rattle.cq_predicates.specs.Numbered.{AreByArity}
use Rattle.cq_predicates.proofs.table.numbered.Builtins.new.Given as goal

abbrev pub invariant-loop-arity : goal.invariant-loop-arity
invariant-loop-arity l =
    KeepsTexts l.initial.atoms l.atoms × AreDifferent l.atoms × (length l.by_arity.items ≡ l.arity) × AreByArity l.atoms l.by_arity.items
