use Rattle.std.proofs.Common.{◌<◌, length, sym, subst}
use Rattle.cq_dict.specs.declared.table.Role.TheVariants.{Live}
use Rattle.cq_dict.specs.Holders.{AreTouched, HoldsNoMore}
use Rattle.cq_dict.proofs.Roles.{at_below, role_live}
use Rattle.cq_dict.proofs.dict.Dict.drop_column.Goals as goal

pub touched-requires : goal.touched-requires
touched-requires c = λ t. at_below c.args.self.now.roles c.args.c Live (role_live c.args.self.now.roles c.args.c c.requires)

pub changes-requires-clause-rows : goal.changes-requires-clause-rows
changes-requires-clause-rows c = subst (λ l. AreTouched l c.args.c c.deref.result.now) (sym c.roles.ensures.value) (subst (AreTouched c.args.self.now.roles c.args.c) (sym c.deref.ensures.value) c.in_ok-rows.ensures)

pub rewrite-requires-clause-within : goal.rewrite-requires-clause-within
rewrite-requires-clause-within c = λ d h. subst (λ l. d.at < length l) c.roles.ensures.value (c.in_ok-changes.ensures.within d h)

pub rewrite-requires-clause-held : goal.rewrite-requires-clause-held
rewrite-requires-clause-held c = subst (λ l. HoldsNoMore l c.in_ok-changes.changes.items) c.roles.ensures.value c.in_ok-changes.ensures.held
