use Rattle.std.proofs.Common.{ap, inl, inr}
use Rattle.spec_syntax.specs.Operators.{Prefix, Infix, Postfix, position_of}
use Rattle.cq_ops.proofs.Named.{fit-set, made_fits}
use Rattle.cq_ops.proofs.Ops.put.Goals as goal

pub invariant_of-self : goal.invariant_of-self
invariant_of-self c = record {
  prefix = fit-set Prefix c.self.inside.prefix c.set.new.self c.args.name c.entry-op.result c.set.result c.set.ensures.ok c.set.ensures.err
      (made_fits c.args.priority c.args.kind Prefix c.requires (elim c.in-Fy.is [ inl e ↦ ap position_of e | inr e ↦ ap position_of e ]) c.entry-op.result c.entry-op.ensures) c.self.invariant.prefix;
  infixed = c.self.invariant.infixed;
  postfix = c.self.invariant.postfix;
}

pub invariant_of-self-in-Xfx : goal.invariant_of-self-in-Xfx
invariant_of-self-in-Xfx c = record {
  prefix = c.self.invariant.prefix;
  infixed = fit-set Infix c.self.inside.infixed c.set-in-Xfx.new.self c.args.name c.entry-op.result c.set-in-Xfx.result c.set-in-Xfx.ensures.ok c.set-in-Xfx.ensures.err
      (made_fits c.args.priority c.args.kind Infix c.requires (elim c.in-Xfx.is [ inl e ↦ ap position_of e | inr other ↦ elim other [ inl e ↦ ap position_of e | inr e ↦ ap position_of e ] ]) c.entry-op.result c.entry-op.ensures) c.self.invariant.infixed;
  postfix = c.self.invariant.postfix;
}

pub invariant_of-self-in-Xf : goal.invariant_of-self-in-Xf
invariant_of-self-in-Xf c = record {
  prefix = c.self.invariant.prefix;
  infixed = c.self.invariant.infixed;
  postfix = fit-set Postfix c.self.inside.postfix c.set-in-Xf.new.self c.args.name c.entry-op.result c.set-in-Xf.result c.set-in-Xf.ensures.ok c.set-in-Xf.ensures.err
      (made_fits c.args.priority c.args.kind Postfix c.requires (elim c.in-Xf.is [ inl e ↦ ap position_of e | inr e ↦ ap position_of e ]) c.entry-op.result c.entry-op.ensures) c.self.invariant.postfix;
}
