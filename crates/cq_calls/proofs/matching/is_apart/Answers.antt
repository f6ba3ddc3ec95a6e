use Rattle.std.proofs.Common.{ap, sym}
use Rattle.cq_term.specs.declared.view.View.TheVariants as view
use Rattle.cq_resolve.specs.Marks.{shown}
use Rattle.cq_calls.proofs.Apart.{other_head, variable_there}
use Rattle.cq_calls.proofs.matching.is_apart.Goals as goal

pub returns-in-Again : goal.returns-in-Again
returns-in-Again c = λ yes goal args.
    c.was_other.ensures yes goal args
    (variable_there c.args.head.now c.requires.pattern.0 c.requires.pattern.1 c.requires.marks c.args.place c.args.i c.requires.begins c.requires.within c.index-head-place.result
    c.index-head-place.is c.in-Again.variable (ap shown c.in-Again.is))

pub returns-in_default : goal.returns-in_default
returns-in_default c = λ yes goal args.
    other_head c.args.head.now c.requires.pattern.0 c.requires.pattern.1 c.requires.marks c.args.place c.args.i c.requires.begins c.requires.within c.index-head-place.result
    c.index-head-place.is c.args.heap.now.now.terms c.args.goals.now c.index-goals-i-in_default.result c.requires.asked c.index-goals-i-in_default.is goal args c.view-in_default.result c.view-in_default-2.result
    c.view-in_default.ensures.view c.view-in_default-2.ensures (c.differ.ensures yes)

pub returns-in-Name : goal.returns-in-Name
returns-in-Name c = λ yes goal args.
    other_head c.args.head.now c.requires.pattern.0 c.requires.pattern.1 c.requires.marks c.args.place c.args.i c.requires.begins c.requires.within c.index-head-place.result
    c.index-head-place.is c.args.heap.now.now.terms c.args.goals.now c.index-goals-i.result c.requires.asked c.index-goals-i.is goal args c.view.result (view.Name c.in-Name.name)
    c.view.ensures.view (sym (ap shown c.in-Name.is)) (let d = c.is_other_name.ensures yes in (d.0, tt, d.1))

pub returns-in-Compound : goal.returns-in-Compound
returns-in-Compound c = λ yes goal args.
    other_head c.args.head.now c.requires.pattern.0 c.requires.pattern.1 c.requires.marks c.args.place c.args.i c.requires.begins c.requires.within c.index-head-place.result
    c.index-head-place.is c.args.heap.now.now.terms c.args.goals.now c.index-goals-i-in-Compound.result c.requires.asked c.index-goals-i-in-Compound.is goal args c.view-in-Compound.result
    (view.Compound c.in-Compound.name c.in-Compound.arity) c.view-in-Compound.ensures.view (sym (ap shown c.in-Compound.is)) (let d = c.is_other_compound.ensures yes in (d.0, tt, d.1))
