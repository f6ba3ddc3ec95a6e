use Rattle.std.proofs.Common.{◌≡◌, ◌∙◌, sym, subst}
use Rattle.cq_frac.specs.Row.{Row}
use Rattle.cq_dict.specs.declared.table.Role.TheVariants.{Basic}
use Rattle.cq_dict.specs.Holders.{Holds}
use Rattle.cq_dict.proofs.Written.{on_ok}
use Rattle.cq_dict.proofs.holders.hold_new.Goals as goal

same_row : (r z : Row) → Basic r ≡ Basic z → r ≡ z
same_row r z e = cc

pub returns-in-Basic-clause-listed : goal.returns-in-Basic-clause-listed
returns-in-Basic-clause-listed c = on_ok c.hold_row.result _ _
    (λ f own d e k. f d (subst (λ (z : Row). Holds z d) (same_row own c.in-Basic.row (sym e ∙ c.in-Basic.is)) k)) c.hold_row.ensures.listed
