-- What is admitted is set.
use Rattle.std.proofs.Common.{◌≡◌, ℕ, ◌<◌, length, List, ℤ, Ok, sym, subst, refl}
use Rattle.std.specs.Prelude.{IsOk}
use Rattle.spec_numbers.specs.Texts.{Text}
use Rattle.spec_syntax.specs.declared.operators.OpKind.{OpKind}
use Rattle.spec_syntax.specs.Operators.{set}
use Rattle.cq_term.specs.Texts.{text_of}
use Rattle.cq_ops.specs.Faults.{IsAdmitted}
use Rattle.cq_ops.specs.Tables.{Tables, named, put_number}
use Rattle.cq_ops.proofs.Named.{set_ok}

module _ (texts : List Text) (tables : Tables) (priority : ℤ) (kind_name : Text) (name p : ℕ) (kind : OpKind) (within : name < length texts) (a : IsAdmitted texts tables priority kind_name name p kind) where
  pub sets : (after : Tables) → after ≡ put_number tables p kind name → set (named texts tables) priority kind_name (text_of texts name) ≡ Ok (named texts after)
  sets after is = set_ok texts tables priority kind_name name p kind a.different within a.priority_is a.kind_is a.no_comma a.no_clash after is

  pub is_set : IsOk (set (named texts tables) priority kind_name (text_of texts name))
  is_set = subst IsOk (sym (sets (put_number tables p kind name) refl)) refl
