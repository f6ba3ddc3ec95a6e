use Rattle.std.proofs.Common.{◌≡◌, ap, sym, ◌∙◌, eq-eqb, eqb-true}
use Rattle.cq_term.specs.Meaning.{at}
use Rattle.cq_unify.proofs.Heads.{bind_to_left, bind_to_right, compounds_clash}
use Rattle.cq_unify.proofs.pairs.demand_of.Goals as goal
use Rattle.cq_unify.proofs.pairs.demand_of.Goals.{else-eq-2-via-then-eq-2+else-n-m, else-eq-2-via-else-eq-2}

pub returns-then-v-w : goal.returns-then-v-w
returns-then-v-w c = bind_to_left c.args.heap.now.now c.args.left c.args.right c.in-Var-shown.w c.view.ensures.unbound c.view-shown.ensures.unbound
    (sym c.view-shown.ensures.view ∙ c.in-Var-shown.is) c.requires.left
    (λ x h. let k = c.view.ensures.view in let i = c.in-Var.is in let q : c.in-Var.v ≡ x = cc in rw (← q) c.if-v-w.true)

pub returns-then-w-v : goal.returns-then-w-v
returns-then-w-v c = bind_to_right c.args.heap.now.now c.args.left c.args.right c.in-Var.v c.view.ensures.unbound c.view-shown.ensures.unbound
    (sym c.view.ensures.view ∙ c.in-Var.is) c.requires.right
    (λ x h. let k = c.view-shown.ensures.view in let i = c.in-Var-shown.is in let q : c.in-Var-shown.w ≡ x = cc in rw (← q) c.if-w-v.true)

pub returns-in_default : goal.returns-in_default
returns-in_default c = bind_to_right c.args.heap.now.now c.args.left c.args.right c.in-Var.v c.view.ensures.unbound c.view-shown.ensures.unbound
    (sym c.view.ensures.view ∙ c.in-Var.is) c.requires.right
    (λ x h. absurd (c.in_default.not-Var x (c.view-shown.ensures.view ∙ h)))

pub returns-in-Var-shown-2 : goal.returns-in-Var-shown-2
returns-in-Var-shown-2 c = bind_to_left c.args.heap.now.now c.args.left c.args.right c.in-Var-shown-2.w c.view.ensures.unbound c.view-shown.ensures.unbound
    (sym c.view-shown.ensures.view ∙ c.in-Var-shown-2.is) c.requires.left
    (λ x h. let k = c.view.ensures.view in let i = c.in-Number.is in cc)

pub returns-in-Var-shown-3 : goal.returns-in-Var-shown-3
returns-in-Var-shown-3 c = bind_to_left c.args.heap.now.now c.args.left c.args.right c.in-Var-shown-3.w c.view.ensures.unbound c.view-shown.ensures.unbound
    (sym c.view-shown.ensures.view ∙ c.in-Var-shown-3.is) c.requires.left
    (λ x h. let k = c.view.ensures.view in let i = c.in-Name.is in cc)

pub returns-in-Var-shown-4 : goal.returns-in-Var-shown-4
returns-in-Var-shown-4 c = bind_to_left c.args.heap.now.now c.args.left c.args.right c.in-Var-shown-4.w c.view.ensures.unbound c.view-shown.ensures.unbound
    (sym c.view-shown.ensures.view ∙ c.in-Var-shown-4.is) c.requires.left
    (λ x h. let k = c.view.ensures.view in let i = c.in-Compound.is in cc)

pub returns-then-eq : goal.returns-then-eq
returns-then-eq c = ap (at c.args.heap.now.now.terms) (eqb-true c.args.left c.args.right (sym c.eq.ensures ∙ c.if-eq.true))

pub returns-else-eq-2 : goal.returns-else-eq-2
returns-else-eq-2 c = compounds_clash (at c.args.heap.now.now.terms c.args.left) (at c.args.heap.now.now.terms c.args.right) c.in-Compound.f c.in-Compound.n c.in-Compound-shown.g c.in-Compound-shown.m
    (sym c.view.ensures.view ∙ c.in-Compound.is) (sym c.view-shown.ensures.view ∙ c.in-Compound-shown.is)
    (λ p q. elim c.else-eq-2.branch [ else-eq-2-via-then-eq-2+else-n-m w ↦ w.if-n-m.false q | else-eq-2-via-else-eq-2 w ↦ (let k = c.eq-in-Compound-shown.ensures in let h = w.if-eq-2.false in let e = eq-eqb c.in-Compound.f c.in-Compound-shown.g p in cc) ])
