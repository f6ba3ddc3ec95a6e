use Rattle.std.proofs.Common.{◌≡◌, true, false, ltb, rules, arith, of_calls}
use Rattle.std.proofs.lemmas.Bool.{ltb-true}
use Rattle.std.proofs.lemmas.Fn.{always_returns_same}
use Rattle.std.proofs.lemmas.List.Sorted.{IsPartitionedBy-ltb}
use Rattle.std.specs.List.Sorted.{IsPartitionPoint}
use Rattle.cq_frac.specs.declared.row.Entry.{Entry}
use Rattle.cq_cexpr.proofs.slots.place_of.Goals as goal
use Rattle.cq_cexpr.proofs.slots.place_of.Goals.{After-partition_point}

parted : (c : After-partition_point) → IsPartitionPoint (λ (m : Entry). ltb m.quantity c.args.variable ≡ true) (λ (m : Entry). ltb m.quantity c.args.variable ≡ false) c.args.slots.now c.partition_point.result
parted c =
    c.partition_point.ensures.partitioned (λ (m : Entry). ltb m.quantity c.args.variable) (always_returns_same _ _ _ (λ a r f k. search (rules, of_calls)))
    (IsPartitionedBy-ltb (λ (m : Entry). m.quantity) c.args.slots.now c.args.variable c.requires.rising)

pub returns-clause-below : goal.returns-clause-below
returns-clause-below c = λ k d l. ltb-true _ _ ((parted (goal.at.returns-clause-below c).After-partition_point).0 k d (omega arith) l)

pub returns-clause-rest : goal.returns-clause-rest
returns-clause-rest c = λ k d l b.
    let e : ltb _ c.args.variable ≡ false = (parted (goal.at.returns-clause-rest c).After-partition_point).1 k d l b in grind arith
