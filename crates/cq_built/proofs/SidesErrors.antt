-- Errors that are looked for in turn.
use Rattle.std.proofs.Common.{◌≡◌, List, Option, None, ap, ◌∙◌}
use Rattle.spec_numbers.specs.Texts.{Text}
use Rattle.spec_syntax.specs.Trees.{Tree}
use Rattle.spec_builtins.specs.Errors.{or_error}
use Rattle.cq_term.specs.Meaning.{HeapTerm}
use Rattle.cq_built.specs.declared.errors.BuiltinFault.{BuiltinFault}
use Rattle.cq_built.specs.declared.errors.BuiltinFault.TheVariants as builtin_fault
use Rattle.cq_built.specs.Faults.{IsFound}

pub neither : (a b : Option Tree) → a ≡ None → b ≡ None → or_error a b ≡ None
neither a b e f = ap (λ o. or_error o b) e ∙ f

module _ (texts : List Text) (ts : List HeapTerm) where
  pub found_first : (a b : Option Tree) (f : BuiltinFault) → IsFound texts ts a f → IsFound texts ts (or_error a b) f
  found_first a b (builtin_fault.Error e) h = ap (λ o. or_error o b) h
  found_first a b builtin_fault.NoMemory h = tt

  pub found_then : (a b : Option Tree) (f : BuiltinFault) → a ≡ None → IsFound texts ts b f → IsFound texts ts (or_error a b) f
  found_then a b (builtin_fault.Error e) n h = ap (λ o. or_error o b) n ∙ h
  found_then a b builtin_fault.NoMemory n h = tt

  pub found_same : (a b : Option Tree) (f : BuiltinFault) → a ≡ b → IsFound texts ts b f → IsFound texts ts a f
  found_same a b (builtin_fault.Error e) s h = s ∙ h
  found_same a b builtin_fault.NoMemory s h = tt
