use Rattle.std.proofs.Common.{◌≡◌, true, take}
use Rattle.cq_frac.specs.declared.row.Entry.{Entry}
use Rattle.cq_frac.specs.Rows.{Has}
use Rattle.cq_dict.specs.Roles.{is_restricted}
use Rattle.cq_simplex.proofs.rising.free_column.Given as goal

abbrev pub invariant-loop-m : goal.invariant-loop-m
invariant-loop-m l = (n : Entry) → Has n (take l.m-index l.m-items) → is_restricted l.dict.restricted n.quantity ≡ true
