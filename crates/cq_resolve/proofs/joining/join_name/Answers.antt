use Rattle.std.proofs.Common.{◌≡◌, ◌∙◌, ◌∷◌, [], ap, sym, subst, append-nil}
use Rattle.std.proofs.lemmas.Bool.{eqb-true}
use Rattle.spec_terms.specs.Term.{Var, Name, Occurs}
use Rattle.cq_term.specs.Meaning.{at}
use Rattle.cq_term.proofs.Arguments.{shown_variable}
use Rattle.cq_resolve.specs.Joined.{CanMeet}
use Rattle.cq_resolve.proofs.Named.{names_bind_new}
use Rattle.cq_resolve.proofs.Built.{last_at}
use Rattle.cq_resolve.proofs.Telling.{joined_told, joined_as, joined_larger, joined_same, constant_can, shown_name, ok_true}
use Rattle.cq_resolve.proofs.joining.join_name.Goals as goal
use Rattle.cq_resolve.proofs.joining.join_name.Goals.{In_ok-id-in-Var}

unbound : (c : In_ok-id-in-Var) → CanMeet c.atom.new.self.now c.in-Var.variable c.in_ok-id-in-Var.id
unbound c = constant_can c.args.heap.now.now c.atom.new.self.now c.in-Var.variable c.in_ok-id-in-Var.id c.in_ok-id-in-Var.ensures.images
    (c.in-Var.ensures.unbound c.in-Var.variable.0 (shown_variable (at c.args.heap.now.now.terms c.args.goal) c.in-Var.variable (sym c.in-Var.ensures.view)))
    (λ x o. subst (Occurs x) (last_at c.args.heap.now.now.terms c.atom.new.self.now.terms (Name c.args.name) c.in_ok-id-in-Var.id c.in_ok-id-in-Var.ensures.terms c.in_ok-id-in-Var.ensures.id) o)

pub bind-requires-clause-unbound : goal.bind-requires-clause-unbound
bind-requires-clause-unbound c = (unbound (goal.at.bind-requires-clause-unbound c).In_ok-id-in-Var).unbound

pub returns-in_ok-push-in-Var-clause-joined : goal.returns-in_ok-push-in-Var-clause-joined
returns-in_ok-push-in-Var-clause-joined c = λ e.
    let k = (goal.at.returns-in_ok-push-in-Var-clause-joined c).In_ok-id-in-Var in
    let old = c.args.heap.now.now in
    let mid = c.atom.new.self.now in
    let new = c.bind.new.self.now in
    let shown = shown_variable (at old.terms c.args.goal) c.in-Var.variable (sym c.in-Var.ensures.view) in
    let term = last_at old.terms mid.terms (Name c.args.name) c.in_ok-id-in-Var.id c.in_ok-id-in-Var.ensures.terms c.in_ok-id-in-Var.ensures.id in
    let told = c.in-Var.variable ∷ [] in
    let h = joined_told mid new c.in-Var.variable c.in_ok-id-in-Var.id (unbound k) c.in_ok-bind-in-Var.ensures.terms c.in_ok-bind-in-Var.ensures.images in (
      told,
      c.in_ok-push-in-Var.ensures.ok,
      joined_larger old mid new (at old.terms c.args.goal) (Name c.args.name) told (Name c.args.name ∷ [], c.in_ok-id-in-Var.ensures.terms) c.in_ok-id-in-Var.ensures.images
          (joined_as mid new (Var c.in-Var.variable.0) (at mid.terms c.in_ok-id-in-Var.id) (at old.terms c.args.goal) (Name c.args.name) told (sym shown) term h),
    )

pub returns-in-Name-clause-joined : goal.returns-in-Name-clause-joined
returns-in-Name-clause-joined c = λ e.
    let old = c.args.heap.now.now in
    let shown = shown_name (at old.terms c.args.goal) c.in-Name.shown (sym c.in-Name.ensures.view) in
    let same : c.in-Name.shown ≡ c.args.name = eqb-true c.in-Name.shown c.args.name (sym c.eq.ensures ∙ ok_true c.eq.result e) in
    ([], sym (append-nil c.args.newly.now), joined_same old (at old.terms c.args.goal) (Name c.args.name) (shown ∙ ap (λ a. Name a) same))

pub returns-in_err-push-in-Var-clause-names : goal.returns-in_err-push-in-Var-clause-names
returns-in_err-push-in-Var-clause-names c = λ n h all.
    names_bind_new n c.in-Var.variable.0 c.args.heap.now.now.terms c.atom.new.self.now.terms c.bind.new.self.now.terms (Name c.args.name) c.in_ok-id-in-Var.id
    c.in_ok-id-in-Var.ensures.terms c.in_ok-id-in-Var.ensures.id c.in_ok-bind-in-Var.ensures.terms h all

pub returns-in_ok-push-in-Var-clause-names : goal.returns-in_ok-push-in-Var-clause-names
returns-in_ok-push-in-Var-clause-names c = λ n h all.
    names_bind_new n c.in-Var.variable.0 c.args.heap.now.now.terms c.atom.new.self.now.terms c.bind.new.self.now.terms (Name c.args.name) c.in_ok-id-in-Var.id
    c.in_ok-id-in-Var.ensures.terms c.in_ok-id-in-Var.ensures.id c.in_ok-bind-in-Var.ensures.terms h all
