-- The entries tell each variable's number.
use Rattle.std.proofs.Common.{◌≡◌, ℕ, Bool, Option, refl, ap, sym, subst, ◌∙◌}
use Rattle.std.specs.Prelude.{MatchOption}
use Rattle.std.specs.Map.{lookup}
use Rattle.spec_linear.specs.Solution.{Has}
use Rattle.cq_frac.specs.declared.VarId.{VarId}
use Rattle.cq_frac.specs.contracts.VarIdPartialEq.TheImpl.{eq-value}
use Rattle.cq_equations.specs.Contents.{variables_of, place_of_variable}
use Rattle.cq_equations.proofs.Numbers.{number_found}
use Rattle.cq_equations.proofs.table.Table.number.Goals as goal

pub returns : goal.returns
returns c =
    let test : VarId → Bool = eq-value.it c.args.x in
    rw (← c.self.view_is)
    (subst (λ (o : Option ℕ). MatchOption o (Has c.args.x.0 (variables_of c.self.inside.names.items) → ⊥) (λ n. Has c.args.x.0 (variables_of c.self.inside.names.items) × (n ≡ place_of_variable c.self.inside.names.items c.args.x.0)))
    (sym (c.copied.ensures ∙ c.get.ensures.value ∙ ap (lookup test) c.self.invariant.entries_are))
    (number_found test c.args.x.0 (λ y. refl) c.self.inside.names.items))
