-- The entries so far are added.
use Rattle.std.proofs.Common.{◌≡◌, ◌++◌, take}
use Rattle.spec_simplex.specs.Entries.{entries}
use Rattle.cq_form.specs.Entries.{products_of}
use Rattle.cq_tableau.specs.Refuted.{number_in}
use Rattle.cq_tableau.proofs.refuting.add_members.Given as goal

abbrev pub invariant-loop-m : goal.invariant-loop-m
invariant-loop-m l = l.cert.items ≡ l.fn.cert.items ++ entries (number_in l.fn.names.now) (products_of (take l.m-index l.row))
