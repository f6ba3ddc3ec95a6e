use Rattle.std.proofs.Common.{◌∙◌, refl, ap, length}
use Rattle.std.proofs.lemmas.List.{length-set}
use Rattle.cq_dict.proofs.Marks.{marked}
use Rattle.cq_dict.proofs.dict.Dict.restrict.Goals as goal

pub invariant_of-self-2 : goal.invariant_of-self-2
invariant_of-self-2 c = (
  marked c.self.invariant.0 refl c.set.ensures.saved (record {
    table = c.self.invariant.0.now.table;
    flags = ap length c.in_ok-set.ensures.ok ∙ simp (length-set) c.self.invariant.0.now.flags;
  }),
  c.self.invariant.1,
)
