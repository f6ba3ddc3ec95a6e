-- None of the entries so far is restricted.
use Rattle.std.proofs.Common.{◌≡◌, false, take}
use Rattle.cq_frac.specs.declared.row.Entry.{Entry}
use Rattle.cq_frac.specs.Rows.{Has}
use Rattle.cq_dict.specs.Roles.{is_restricted}
use Rattle.cq_store.proofs.equating.held_column.Given as goal

abbrev pub invariant-loop-m : goal.invariant-loop-m
invariant-loop-m l = (n : Entry) → Has n (take l.m-index l.m-items) → is_restricted l.dict.restricted n.quantity ≡ false
