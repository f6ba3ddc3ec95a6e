use Rattle.std.proofs.Common.{◌≡◌, map, drop}
use Rattle.cq_term.specs.Texts.{KeepsTexts}
use Rattle.spec_syntax.specs.Standard.{put_names}
use Rattle.cq_ops.specs.Tables.{AreNamed, named}
use Rattle.cq_ops.proofs.Ops.put_names.Given as goal

abbrev pub invariant-loop-name : goal.invariant-loop-name
invariant-loop-name l = record {
  table : put_names (named l.atoms l.self) l.priority l.kind (map (λ name. name.now) (drop l.name-index l.names)) ≡ put_names (named l.fn.atoms l.fn.self) l.priority l.kind (map (λ name. name.now) l.names);
  known : AreNamed l.atoms l.self;
  kept : KeepsTexts l.fn.atoms l.atoms;
}
