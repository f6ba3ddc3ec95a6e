use Rattle.std.proofs.Common.{◌<◌, ◌∙◌, length, refl, sym, subst, inl}
use Rattle.cq_dict.specs.declared.table.Role.TheVariants.{Basic}
use Rattle.cq_dict.proofs.Roles.{at_below}
use Rattle.cq_dict.specs.Changes.{IsWritten, Eliminates}
use Rattle.cq_dict.specs.Holders.{AreTouched}
use Rattle.cq_dict.proofs.Held.{held_below}
use Rattle.cq_dict.proofs.dict.Dict.eliminate.Goals as goal
use Rattle.cq_dict.proofs.dict.Dict.eliminate.Goals.{In_ok-write}

pub eliminate-requires-clause-there : goal.eliminate-requires-clause-there
eliminate-requires-clause-there c = subst (λ l. c.args.r < length l) (sym c.roles.ensures.value) (at_below c.args.self.now.roles c.args.r (Basic c.requires.own) c.requires.is_row)

pub touched-requires : goal.touched-requires
touched-requires c = λ t. held_below c.args.self.now.roles c.requires.own c.args.c (t.rows c.args.r c.requires.own c.requires.is_row) (record { quantity = c.args.c; factor = c.requires.factor }, inl c.requires.in_row, refl)

pub eliminate-requires-clause-rows : goal.eliminate-requires-clause-rows
eliminate-requires-clause-rows c = subst (λ l. AreTouched l c.args.c c.deref.result.now) (sym c.roles.ensures.value) (subst (AreTouched c.args.self.now.roles c.args.c) (sym c.deref.ensures.value) c.in_ok-rows.ensures)

pub write-requires-clause-within : goal.write-requires-clause-within
write-requires-clause-within c = λ d h. subst (λ l. d.at < length l) (c.roles.ensures.value ∙ sym c.clear_list.ensures.roles) (c.in_ok-changes.ensures.within d h)

pub write-requires-clause-table : goal.write-requires-clause-table
write-requires-clause-table c = λ new w.
    (c.in_ok-changes.ensures.eliminates new (subst (λ l. IsWritten l c.in_ok-changes.changes.items new) (c.clear_list.ensures.roles ∙ sym c.roles.ensures.value) w)).table

whole : (c : In_ok-write) → Eliminates c.args.self.now.roles c.args.r c.args.c c.write.new.self.roles
whole c =
    subst (λ l. Eliminates l c.args.r c.args.c c.write.new.self.roles) c.roles.ensures.value
    (c.in_ok-changes.ensures.eliminates c.write.new.self.roles
    (subst (λ l. IsWritten l c.in_ok-changes.changes.items c.write.new.self.roles) (c.clear_list.ensures.roles ∙ sym c.roles.ensures.value) c.in_ok-write.ensures.written))

pub returns-clause-same : goal.returns-clause-same
returns-clause-same c = let k = goal.at.returns-clause-same c in (whole k.In_ok-write).same

pub returns-clause-kinds : goal.returns-clause-kinds
returns-clause-kinds c = let k = goal.at.returns-clause-kinds c in (whole k.In_ok-write).kinds

pub returns-clause-table : goal.returns-clause-table
returns-clause-table c = let k = goal.at.returns-clause-table c in (whole k.In_ok-write).table
