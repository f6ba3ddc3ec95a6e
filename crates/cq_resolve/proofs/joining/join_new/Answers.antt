use Rattle.std.proofs.Common.{◌≡◌, ◌+◌, [], ◌∷◌, length, ap, refl, sym, subst, arith, append-nil, length-append}
use Rattle.spec_terms.specs.Term.{Var}
use Rattle.cq_frac.specs.declared.VarId.{VarId}
use Rattle.cq_term.specs.Meaning.{at}
use Rattle.spec_numbers.proofs.Prefixes.{prefix_same}
use Rattle.cq_resolve.specs.Joined.{Joined}
use Rattle.cq_resolve.specs.Resolved.{completed}
use Rattle.cq_resolve.proofs.Completed.{joined_new}
use Rattle.cq_resolve.proofs.joining.join_new.Goals as goal

pub returns-clause-joined : goal.returns-clause-joined
returns-clause-joined c = λ total le.
    let v : VarId = record { 0 = c.variables.result } in
    let heap = c.args.heap.now.now in
    let none : length heap.images + 0 ≡ length heap.images = omega arith in (
      v ∷ [],
      c.in_ok-push.ensures.ok,
      subst (λ n. Joined (completed total heap) (completed total c.new_bound_var.new.self.now) (at heap.terms c.args.goal) (Var n) (v ∷ [])) none
          (joined_new total heap heap c.new_bound_var.new.self.now 0 c.args.goal v (prefix_same heap.terms heap.terms refl) (sym (append-nil heap.images)) refl
          c.variables.ensures c.new_bound_var.ensures.terms c.in_ok-new_bound_var.ensures.images le c.variables_are_unbound.ensures c.images_are_unbound.ensures),
    )

pub returns-clause-made : goal.returns-clause-made
returns-clause-made c =
    let heap = c.args.heap.now.now in
    omega (arith, ap length c.in_ok-new_bound_var.ensures.images, length-append heap.images (at heap.terms c.args.goal ∷ []))
