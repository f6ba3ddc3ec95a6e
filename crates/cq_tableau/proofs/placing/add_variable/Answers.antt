use Rattle.std.proofs.Common.{◌≡◌, [], ◌∷◌, ◌++◌, length, cond, nat_eq, Some, ap, ◌∙◌}
use Rattle.std.specs.Map.{lookup}
use Rattle.cq_frac.specs.declared.VarId.{VarId}
use Rattle.cq_dict.specs.DictValue.{quantities_of}
use Rattle.cq_tableau.specs.declared.names.Name.TheVariants.{Variable}
use Rattle.cq_tableau.proofs.Storing.{variable_stays, numbered_more}
use Rattle.cq_tableau.proofs.placing.add_variable.Goals as goal

pub returns-clause-stored : goal.returns-clause-stored
returns-clause-stored c =
    let e : c.push.new.self.now ≡ c.reserve_places.new.self.now ++ Variable c.args.x ∷ [] = rw c.unwrap.ensures at c.push.ensures.ok in
    let a = c.in_ok-add_column.ensures in
    variable_stays c.args.names.now.now (quantities_of c.args.dict.now) c.args.x c.requires.new c.push.new.self.now
    (e ∙ ap (λ s. s ++ Variable c.args.x ∷ []) c.in_ok-reserve_places.ensures.now) (quantities_of c.add_column.new.self) a.roles a.flags a.same

pub returns-clause-numbered : goal.returns-clause-numbered
returns-clause-numbered c =
    let e : c.push.new.self.now ≡ c.reserve_places.new.self.now ++ Variable c.args.x ∷ [] = rw c.unwrap.ensures at c.push.ensures.ok in
    let u = rw c.unwrap-2.ensures at c.insert.ensures.updates in
    numbered_more c.args.names.now.now c.args.numbers.now.entries c.requires.numbered c.args.x c.requires.new c.len-n.result
    (c.len-n.ensures ∙ ap (λ s. length s) c.in_ok-reserve_places.ensures.now) c.insert.new.self.entries
    (λ y. u.0 y ∙ ap (λ s. cond (nat_eq c.args.x.0 y.0) (Some c.len-n.result) (lookup (λ (z : VarId). nat_eq y.0 z.0) s)) c.in_ok-reserve.ensures.entries)
    c.push.new.self.now (e ∙ ap (λ s. s ++ Variable c.args.x ∷ []) c.in_ok-reserve_places.ensures.now)
