-- The entries so far are allowed.
use Rattle.std.proofs.Common.{take}
use Rattle.std.specs.List.{AllByRecursion}
use Rattle.spec_linear.specs.Certificate.{IsAllowed}
use Rattle.spec_simplex.specs.Entries.{entries}
use Rattle.cq_form.specs.Entries.{products_of}
use Rattle.cq_tableau.specs.Refuted.{number_in}
use Rattle.cq_tableau.proofs.refuting.are_allowed.Given as goal

abbrev pub invariant-loop-m : goal.invariant-loop-m
invariant-loop-m l = AllByRecursion (IsAllowed l.fn.told) (entries (number_in l.fn.names.now) (products_of (take l.m-index l.row)))
