use Rattle.std.proofs.Common.{sym, subst, ◌∙◌}
use Rattle.cq_simplex.specs.Turns.{IsLeaving}
use Rattle.cq_tableau.proofs.Goes.{seen_live, seen_leaves}
use Rattle.cq_tableau.proofs.level.nearing.nearing_by.Goals as goal

pub leaving-requires : goal.leaving-requires
leaving-requires c = record { column = sym (seen_live c.args.dict.now.roles c.args.q c.args.up c.args.column) ∙ c.requires.raises.column }

pub gain_of-requires-clause-limits : goal.gain_of-requires-clause-limits
gain_of-requires-clause-limits c =
    (subst (IsLeaving c.args.dict.now.roles c.args.dict.now.restricted 0 c.args.column) c.in-Ok-Some.field-0-is (c.in-Ok-Some.ensures.value 0)).limits

pub returns : goal.returns
returns c = record {
  none = c.requires.none;
  raises = c.requires.raises;
  leaves = seen_leaves c.args.dict.now.roles c.args.q c.args.dict.now.restricted c.requires.free c.args.up c.args.column c.in-Ok-Some.limit
      (subst (IsLeaving c.args.dict.now.roles c.args.dict.now.restricted c.args.q c.args.column) c.in-Ok-Some.field-0-is (c.in-Ok-Some.ensures.value c.args.q));
}
