-- How the finite maps of operators are stored.
use Rattle.std.specs.Prelude.{refl}
use Rattle.std.specs.Ordering.{nat_cmp}
use Rattle.std.specs.Coded.{Coded, code_by, coded×, coded_ℕ}
use Rattle.std.specs.FinMap.{FinMap, code}
use Rattle.spec_syntax.specs.declared.operators.OpDef.{OpDef}
use Rattle.spec_syntax.specs.contracts.operators.OpDef as op_def
use Rattle.cq_ops.specs.Tables.{Tables}

abbrev pub operators_code : Coded (FinMap nat_cmp OpDef)
operators_code = code coded_ℕ op_def.the_row.coded

-- the three maps, one after another
abbrev pub tables_code : Coded Tables
tables_code =
    code_by (FinMap nat_cmp OpDef × (FinMap nat_cmp OpDef × FinMap nat_cmp OpDef)) (coded× operators_code (coded× operators_code operators_code))
    (λ t. (t.prefix, (t.infixed, t.postfix))) (λ p. record { prefix = p.0; infixed = p.1.0; postfix = p.1.1 }) (λ _. refl)
