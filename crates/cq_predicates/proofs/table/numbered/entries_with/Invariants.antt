use Rattle.std.proofs.Common.{Bor}
use Rattle.std.specs.List.{AllWithin}
use Rattle.spec_numbers.specs.Texts.{Text}
use Rattle.cq_term.specs.Texts.{AreDifferent, KeepsTexts}
use Rattle.cq_predicates.specs.Numbered.{AreRight, HasEntry}
use Rattle.cq_predicates.specs.declared.table.builtins.Builtin.{Builtin}
use Rattle.cq_predicates.proofs.table.numbered.entries_with.Given as goal

abbrev pub invariant-loop-name : goal.invariant-loop-name
invariant-loop-name l =
    KeepsTexts l.initial.atoms l.atoms × AreDifferent l.atoms × AreRight l.atoms l.arity l.entries
    × AllWithin (λ (row : Bor Text × Builtin). HasEntry l.atoms l.entries row.0.now) l.name-items 0 l.name-index
