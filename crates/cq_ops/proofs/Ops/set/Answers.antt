use Rattle.std.proofs.Common.{sym, subst}
use Rattle.std.specs.Int.{w128}
use Rattle.std.proofs.lemmas.Int.{to_z-of_z}
use Rattle.cq_ops.specs.Faults.{IsAdmitted}
use Rattle.spec_syntax.proofs.Tables.{set_table}
use Rattle.cq_term.specs.Texts.{text_of}
use Rattle.spec_syntax.specs.Operators.{position_of, entry}
use Rattle.cq_ops.specs.Tables.{AreNamed, named}
use Rattle.cq_ops.proofs.Named.{are_named-put_number}
use Rattle.cq_ops.proofs.Admitted.{sets}
use Rattle.cq_ops.proofs.Ops.set.Goals as goal

pub returns-in-Ok-put-clause-ok : goal.returns-in-Ok-put-clause-ok
returns-in-Ok-put-clause-ok c =
    sets c.args.atoms.now c.args.self.now c.args.priority c.args.kind.now c.args.name c.in-Ok.admitted.0 c.in-Ok.admitted.1 c.requires (subst (λ z. IsAdmitted c.args.atoms.now c.args.self.now z c.args.kind.now c.args.name c.in-Ok.admitted.0 c.in-Ok.admitted.1) (to_z-of_z w128 c.args.priority c.ranges.priority) c.in-Ok.ensures.ok) c.put.new.self c.in-Ok-put.ensures.ok

pub returns-in-Ok-put-clause-known : goal.returns-in-Ok-put-clause-known
returns-in-Ok-put-clause-known c = λ known.
    subst (AreNamed c.args.atoms.now) (sym c.in-Ok-put.ensures.ok)
    (are_named-put_number (position_of c.in-Ok.admitted.1) c.args.atoms.now c.args.self.now c.args.name (entry c.in-Ok.admitted.0 c.in-Ok.admitted.1) c.requires known)

pub returns-in-Ok-put-clause-table : goal.returns-in-Ok-put-clause-table
returns-in-Ok-put-clause-table c = λ is.
    set_table (named c.args.atoms.now c.args.self.now) (named c.args.atoms.now c.put.new.self) c.args.priority c.args.kind.now (text_of c.args.atoms.now c.args.name) is
    (sets c.args.atoms.now c.args.self.now c.args.priority c.args.kind.now c.args.name c.in-Ok.admitted.0 c.in-Ok.admitted.1 c.requires (subst (λ z. IsAdmitted c.args.atoms.now c.args.self.now z c.args.kind.now c.args.name c.in-Ok.admitted.0 c.in-Ok.admitted.1) (to_z-of_z w128 c.args.priority c.ranges.priority) c.in-Ok.ensures.ok) c.put.new.self c.in-Ok-put.ensures.ok)
