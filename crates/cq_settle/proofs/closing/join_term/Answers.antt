use Rattle.std.proofs.Common.{◌<◌, List, ℕ, Err, [], ◌∷◌, length, ap, sym, subst, ◌∙◌}
use Rattle.std.specs.Prelude.{Contains}
use Rattle.std.proofs.lemmas.List.Elements.{All-head}
use Rattle.std.proofs.lemmas.Result.{IfOk-weaker}
use Rattle.spec_terms.proofs.Listed.{occurs_listed}
use Rattle.cq_term.specs.Texts.{text_of}
use Rattle.cq_attr.specs.Attributes.{Attributes}
use Rattle.cq_cexpr.specs.Found.{constraint_of}
use Rattle.cq_store.proofs.Passed.{refused, never_spent}
use Rattle.cq_term.specs.Meaning.{at}
use Rattle.cq_term.specs.Trees.{tree}
use Rattle.cq_term.specs.Places.{numbers_of}
use Rattle.cq_settle.specs.Worlds.{now_of}
use Rattle.cq_settle.specs.Underway.{GoesOn, to_do}
use Rattle.cq_settle.proofs.Again.{by_yes}
use Rattle.cq_settle.proofs.Start.{variables_named}
use Rattle.cq_settle.proofs.Terms.{front_false, front_refusal, front_none, front_overflow, front_pivots, front_joins, front_suspends}
use Rattle.cq_settle.proofs.Ways.{rest_live, named, numeric_live}
use Rattle.cq_settle.proofs.closing.join_term.Goals as goal

pub linearise-requires-clause-live : goal.linearise-requires-clause-live
linearise-requires-clause-live c =
    All-head (λ id. id < length c.args.world.now.heap.now.terms) c.args.term c.requires.0 (rest_live c.args.atoms.now (now_of c.args.world.now) _ c.requires.1)

pub linearise-requires-clause-names : goal.linearise-requires-clause-names
linearise-requires-clause-names c =
    named c.args.atoms.now (now_of c.args.world.now) _ c.requires.1 c.args.term
    (All-head (λ id. id < length c.args.world.now.heap.now.terms) c.args.term c.requires.0 (rest_live c.args.atoms.now (now_of c.args.world.now) _ c.requires.1))

pub returns-in_err-linearise-clause-overflow : goal.returns-in_err-linearise-clause-overflow
returns-in_err-linearise-clause-overflow c = λ pair e rest.
    let f = c.store_and_numbers.ensures.fixes in
    front_refusal c.args.atoms.now (now_of c.args.world.now) c.store_and_numbers.ensures.solvable f.0 f.1 c.args.term pair
    (c.in_err-linearise.ensures.overflow pair (ap Err (refused c.from_residual.result c.in_err-linearise.field-0.0 pair c.from_residual.ensures.1 e)))
    (numbers_of c.args.newly.now) rest

pub returns-in_err-linearise-clause-pivots : goal.returns-in_err-linearise-clause-pivots
returns-in_err-linearise-clause-pivots c = λ n e. absurd (never_spent c.from_residual.result c.in_err-linearise.field-0.0 n c.from_residual.ensures.1 e)

pub returns-in-False-clause-joined : goal.returns-in-False-clause-joined
returns-in-False-clause-joined c = λ rest.
    let f = c.store_and_numbers.ensures.fixes in
    front_false c.args.atoms.now (now_of c.args.world.now) c.store_and_numbers.ensures.solvable f.0 f.1 c.args.term
    (sym c.in_ok-linearise.ensures.lin ∙ ap constraint_of c.in-False.is) (numbers_of c.args.newly.now) rest

pub tell-requires : goal.tell-requires
tell-requires c = numeric_live c.args.atoms.now (now_of c.args.world.now) _ c.requires.1

pub returns-in-Linear-clause-joined : goal.returns-in-Linear-clause-joined
returns-in-Linear-clause-joined c =
    let f = c.store_and_numbers.ensures.fixes in
    let e = sym c.in_ok-linearise.ensures.lin ∙ ap constraint_of c.in-Linear.is in
    IfOk-weaker c.tell.result _ _ (λ b h. by_yes b
    (λ j rest. front_joins c.args.atoms.now (now_of c.args.world.now) c.store_and_numbers.ensures.solvable f.0 f.1 c.args.term c.in-Linear.constraint e
    (now_of c.tell.new.world) c.args.newly.now c.tell.new.newly j rest)
    (λ n rest. front_none c.args.atoms.now (now_of c.args.world.now) c.store_and_numbers.ensures.solvable f.0 f.1 c.args.term c.in-Linear.constraint e n (numbers_of c.args.newly.now) rest)
    h) c.tell.ensures.joined

pub returns-in-Linear-clause-overflow : goal.returns-in-Linear-clause-overflow
returns-in-Linear-clause-overflow c = λ pair i rest.
    let f = c.store_and_numbers.ensures.fixes in
    let e = sym c.in_ok-linearise.ensures.lin ∙ ap constraint_of c.in-Linear.is in
    front_overflow c.args.atoms.now (now_of c.args.world.now) c.store_and_numbers.ensures.solvable f.0 f.1 c.args.term c.in-Linear.constraint e pair
    (c.tell.ensures.overflow pair i) (numbers_of c.args.newly.now) rest

pub returns-in-Linear-clause-pivots : goal.returns-in-Linear-clause-pivots
returns-in-Linear-clause-pivots c = λ n i.
    let f = c.store_and_numbers.ensures.fixes in
    let e = sym c.in_ok-linearise.ensures.lin ∙ ap constraint_of c.in-Linear.is in
    let o = c.tell.ensures.pivots n i in (
      o.0,
      λ rest. front_pivots c.args.atoms.now (now_of c.args.world.now) c.store_and_numbers.ensures.solvable f.0 f.1 c.args.term c.in-Linear.constraint e n o.1
          (numbers_of c.args.newly.now) rest,
    )

pub returns-in_ok-suspend-in-Waits-clause-joined : goal.returns-in_ok-suspend-in-Waits-clause-joined
returns-in_ok-suspend-in-Waits-clause-joined c = λ rest.
    let f = c.store_and_numbers.ensures.fixes in
    let w = now_of c.args.world.now in
    let all = numbers_of c.args.newly.now in
    let id = c.args.term in
    let vs = c.deref.result.now in
    let these = ap numbers_of c.deref.ensures.value ∙ (rw c.in-Waits.is at c.in_ok-linearise.ensures.waits) in
    subst (λ (a : Attributes). GoesOn c.args.atoms.now w (record w { attrs = a }) (to_do (id ∷ rest) [] all all) (to_do rest [] all all)) (sym c.in_ok-suspend-in-Waits.ensures.ok)
    (front_suspends c.args.atoms.now w c.store_and_numbers.ensures.solvable f.0 f.1 id (sym c.in_ok-linearise.ensures.lin ∙ ap constraint_of c.in-Waits.is) (numbers_of vs)
    (λ v o. subst (λ (ns : List ℕ). Contains ns v) (variables_named (text_of c.args.atoms.now) (at w.heap.terms id) ∙ sym these) (occurs_listed (tree c.args.atoms.now w.heap.terms id) v o)) all rest)
