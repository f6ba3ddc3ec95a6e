use Rattle.std.proofs.Common.{◌<◌, ℕ, List, length, sym, subst}
use Rattle.std.specs.Prelude.{All, Contains}
use Rattle.cq_frac.specs.declared.VarId.{VarId}
use Rattle.cq_term.specs.Places.{numbers_of}
use Rattle.cq_questions.proofs.Binding.{all_valued}
use Rattle.cq_questions.proofs.values.bind_values.Goals as goal

pub bind_each-requires-clause-there : goal.bind_each-requires-clause-there
bind_each-requires-clause-there c =
    subst (λ (vs : List VarId). All (λ v. v.0 < length c.args.heap.now.now.images) vs) (sym c.deref.ensures.value) (λ k d l. (c.in_ok-variables.ensures.unbound k d l).0)

pub returns-clause-values : goal.returns-clause-values
returns-clause-values c =
    all_valued c.args.store.now.told c.args.heap.now.now c.bind_each.new.heap.now c.args.term c.in_ok-bind_each.ensures.valued
    (λ v h. c.in_ok-bind_each.ensures.free v
    (subst (λ (vs : List VarId). Contains (numbers_of vs) v) (sym c.deref.ensures.value)
    (subst (λ (ns : List ℕ). Contains ns v) (sym c.in_ok-variables.ensures.variables) h)))
