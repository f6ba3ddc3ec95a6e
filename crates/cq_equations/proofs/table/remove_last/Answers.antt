-- The last number is that of the last name, where it is a variable's.
use Rattle.std.proofs.Common.{◌≡◌, ◌∙◌, ◌<◌, ◌++◌, ◌∷◌, [], length, ap, sym, subst}
use Rattle.cq_equations.specs.declared.table.Name.TheVariants.{Variable, Member}
use Rattle.cq_equations.specs.Numbered.{numbers_from}
use Rattle.cq_equations.proofs.Numbers.{without_member, without_variable, some_number}
use Rattle.cq_equations.proofs.table.remove_last.Goals as goal

pub returns-in-Some-Variable-clause-numbers : goal.returns-in-Some-Variable-clause-numbers
returns-in-Some-Variable-clause-numbers c =
    let old : c.args.names.now.items ≡ c.pop.new.self.items ++ Variable c.in-Some-Variable.field-0-0 ∷ [] = rw c.in-Some-Variable.field-0-is at c.in-Some-Variable.ensures.items in
    let numbers = c.requires.numbers ∙ ap (numbers_from 0) old in
    let some : 0 < length c.args.numbers.now.entries = subst (λ l. 0 < length l) (sym numbers) (some_number c.pop.new.self.items c.in-Some-Variable.field-0-0) in
    without_variable c.pop.new.self.items c.in-Some-Variable.field-0-0 c.pop-in-Some-Variable.new.self.entries c.pop-in-Some-Variable.result (sym numbers ∙ c.pop-in-Some-Variable.ensures.entries) (c.pop-in-Some-Variable.ensures.found.1 some)

pub returns-in-Some-Member-clause-numbers : goal.returns-in-Some-Member-clause-numbers
returns-in-Some-Member-clause-numbers c =
    let old : c.args.names.now.items ≡ c.pop.new.self.items ++ Member ∷ [] = rw c.in-Some-Member.field-0-is at c.in-Some-Member.ensures.items in
    c.requires.numbers ∙ ap (numbers_from 0) old ∙ without_member c.pop.new.self.items
