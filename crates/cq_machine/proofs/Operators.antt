-- What `op(P,K,N)` comes to, by the table of the operators that hold.
use Rattle.std.proofs.Common.{◌≡◌, List, None, sym, ap, ◌∙◌, subst}
use Rattle.spec_numbers.specs.Texts.{Text}
use Rattle.spec_syntax.specs.Operators.{Ops}
use Rattle.spec_syntax.specs.Trees.{Tree}
use Rattle.spec_builtins.specs.Operators.{operator_error, operators_after, operator_names}
use Rattle.spec_search.specs.Changes.{op_row}
use Rattle.spec_search.specs.Database.{Database}
use Rattle.spec_search.specs.Replies.{Place, changes, unless_error}
use Rattle.cq_built.specs.declared.errors.BuiltinFault.{BuiltinFault}
use Rattle.cq_built.specs.declared.errors.BuiltinFault.TheVariants as fault
use Rattle.cq_resolve.specs.Database.{Program, as_database}
use Rattle.cq_built.specs.Faults.{IsFound}
use Rattle.cq_branch.specs.Calls.{IsRaised}
use Rattle.cq_term.specs.Meaning.{HeapTerm}

module _ (p : Place) (texts : List Text) (v : Program) (ops : Ops) (n k ns : Tree) (d : p.database ≡ as_database texts ops v) where
  by_table : op_row p n k ns ≡ unless_error (operator_error ops n k ns) (changes p (as_database texts (operators_after ops n k (operator_names ns)) v))
  by_table = ap
      (λ (x : Database). unless_error (operator_error x.operators n k ns)
      (changes p (record x { operators = operators_after x.operators n k (operator_names ns) }))) d

  -- the operators are set
  pub op_set : (new : Ops) → operator_error ops n k ns ≡ None → new ≡ operators_after ops n k (operator_names ns) → op_row p n k ns ≡ changes p (as_database texts new v)
  op_set new e s =
      by_table ∙ ap (λ o. unless_error o (changes p (as_database texts (operators_after ops n k (operator_names ns)) v))) e
      ∙ ap (λ t. changes p (as_database texts t v)) (sym s)

  -- the error that is found is raised
  pub op_raised : (ts : List HeapTerm) (f : BuiltinFault) → IsFound texts ts (operator_error ops n k ns) f → IsRaised texts ts f (op_row p n k ns)
  op_raised ts (fault.Error e) h = by_table ∙ ap (λ o. unless_error o (changes p (as_database texts (operators_after ops n k (operator_names ns)) v))) h
  op_raised ts fault.NoMemory h = tt

-- the same of equal terms
pub of_equal : (P : Tree → Tree → Tree → Type 0) (a b c x y z : Tree) → a ≡ x → b ≡ y → c ≡ z → P a b c → P x y z
of_equal P a b c x y z e f g h = subst (λ t. P x y t) g (subst (λ t. P x t c) f (subst (λ t. P t b c) e h))
