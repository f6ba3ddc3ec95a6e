use Rattle.std.proofs.Common.{◌<◌, List, ℕ, [], ◌∷◌, Err, Some, length, drop, ap, sym, subst, ◌∙◌}
use Rattle.std.specs.Prelude.{All}
use Rattle.std.proofs.lemmas.Result.{IfOk-weaker}
use Rattle.cq_attr.specs.Attributes.{Attributes}
use Rattle.cq_attr.specs.declared.susp.Susp.{Susp}
use Rattle.cq_cexpr.specs.Found.{constraint_of}
use Rattle.cq_store.proofs.Passed.{refused, never_spent}
use Rattle.cq_term.specs.Places.{numbers_of}
use Rattle.cq_settle.specs.Worlds.{now_of}
use Rattle.cq_settle.specs.Underway.{GoesOn, to_do}
use Rattle.cq_settle.proofs.Again.{by_yes, behind, none_behind, joins_fewer, others_wait, no_constraint}
use Rattle.cq_settle.proofs.Terms.{under_false, under_refusal, under_none, under_overflow, under_pivots, under_joins, under_waits}
use Rattle.cq_settle.proofs.Unique.{once_ascending}
use Rattle.cq_settle.proofs.Ways.{live_under, named, numeric_live, passed_over}
use Rattle.cq_settle.proofs.closing.rejoin.Goals as goal

pub returns-in-Goal-clause-joined : goal.returns-in-Goal-clause-joined
returns-in-Goal-clause-joined c = λ ns bound.
    let w = now_of c.args.world.now in
    let all = numbers_of c.args.newly.now in
    let found = c.susp.ensures ∙ ap (λ (s : Susp). Some s) c.in-Goal.is in
    subst (λ (b : List ℕ). GoesOn c.args.atoms.now w w (to_do [] (c.args.number ∷ ns) bound all) (to_do [] ns b all)) (sym (none_behind bound c.args.newly.now))
    (passed_over c.args.atoms.now w c.args.number ns bound all
    (no_constraint w.attrs c.args.number c.in-Goal.field-0 c.in-Goal.field-1 (once_ascending _ c.store_and_numbers.ensures.ascending) found))

pub linearise-requires-clause-live : goal.linearise-requires-clause-live
linearise-requires-clause-live c =
    let found = c.susp.ensures ∙ ap (λ (s : Susp). Some s) c.in-Delayed.is in
    live_under c.args.atoms.now (now_of c.args.world.now) _ c.requires.underway.2 c.args.number c.in-Delayed.term found

pub linearise-requires-clause-names : goal.linearise-requires-clause-names
linearise-requires-clause-names c =
    let found = c.susp.ensures ∙ ap (λ (s : Susp). Some s) c.in-Delayed.is in
    named c.args.atoms.now (now_of c.args.world.now) _ c.requires.underway.2 c.in-Delayed.term
    (live_under c.args.atoms.now (now_of c.args.world.now) _ c.requires.underway.2 c.args.number c.in-Delayed.term found)

pub returns-in_err-linearise-in-Delayed-clause-overflow : goal.returns-in_err-linearise-in-Delayed-clause-overflow
returns-in_err-linearise-in-Delayed-clause-overflow c = λ pair e ns bound.
    let f = c.store_and_numbers.ensures.fixes in
    let found = c.susp.ensures ∙ ap (λ (s : Susp). Some s) c.in-Delayed.is in
    under_refusal c.args.atoms.now (now_of c.args.world.now) c.store_and_numbers.ensures.solvable f.0 f.1 c.in-Delayed.term c.args.number
    (once_ascending _ c.store_and_numbers.ensures.ascending) found pair
    (c.in_err-linearise-in-Delayed.ensures.overflow pair (ap Err (refused c.from_residual.result c.in_err-linearise-in-Delayed.field-0.0 pair c.from_residual.ensures.1 e)))
    (numbers_of c.args.newly.now) ns bound

pub returns-in_err-linearise-in-Delayed-clause-pivots : goal.returns-in_err-linearise-in-Delayed-clause-pivots
returns-in_err-linearise-in-Delayed-clause-pivots c = λ n e. absurd (never_spent c.from_residual.result c.in_err-linearise-in-Delayed.field-0.0 n c.from_residual.ensures.1 e)

pub returns-in-False-clause-joined : goal.returns-in-False-clause-joined
returns-in-False-clause-joined c = λ ns bound.
    let f = c.store_and_numbers.ensures.fixes in
    let found = c.susp.ensures ∙ ap (λ (s : Susp). Some s) c.in-Delayed.is in
    under_false c.args.atoms.now (now_of c.args.world.now) c.store_and_numbers.ensures.solvable f.0 f.1 c.in-Delayed.term c.args.number
    (once_ascending _ c.store_and_numbers.ensures.ascending) found
    (sym c.in_ok-linearise-in-Delayed.ensures.lin ∙ ap constraint_of c.in-False.is) (numbers_of c.args.newly.now) ns bound

pub returns-clause-joined : goal.returns-clause-joined
returns-clause-joined c = λ ns bound.
    let f = c.store_and_numbers.ensures.fixes in
    let w = now_of c.args.world.now in
    let all = numbers_of c.args.newly.now in
    let found = c.susp.ensures ∙ ap (λ (s : Susp). Some s) c.in-Delayed.is in
    subst (λ (b : List ℕ). GoesOn c.args.atoms.now w w (to_do [] (c.args.number ∷ ns) bound all) (to_do [] ns b all)) (sym (none_behind bound c.args.newly.now))
    (under_waits c.args.atoms.now w c.store_and_numbers.ensures.solvable f.0 f.1 c.in-Delayed.term c.args.number
    (once_ascending _ c.store_and_numbers.ensures.ascending) found (sym c.in_ok-linearise-in-Delayed.ensures.lin ∙ ap constraint_of c.in-Waits.is) all ns bound)

pub tell-requires : goal.tell-requires
tell-requires c =
    subst (λ (a : Attributes). All (λ v. v < length c.args.world.now.heap.now.images) a.numeric) (sym c.in_ok-take-in-Linear.ensures.ok)
    (numeric_live c.args.atoms.now (now_of c.args.world.now) _ c.requires.underway.2)

pub returns-in-Linear-clause-joined : goal.returns-in-Linear-clause-joined
returns-in-Linear-clause-joined c =
    let f = c.store_and_numbers.ensures.fixes in
    let w = now_of c.args.world.now in
    let found = c.susp.ensures ∙ ap (λ (s : Susp). Some s) c.in-Delayed.is in
    let e = sym c.in_ok-linearise-in-Delayed.ensures.lin ∙ ap constraint_of c.in-Linear.is in
    let once = once_ascending _ c.store_and_numbers.ensures.ascending in
    IfOk-weaker c.tell.result _ _ (λ b h. by_yes b
    (λ j ns bound. under_joins c.args.atoms.now w c.store_and_numbers.ensures.solvable f.0 f.1 c.in-Delayed.term c.args.number once found c.in-Linear.constraint e
    c.take.new.self.now c.in_ok-take-in-Linear.ensures.ok (now_of c.tell.new.world) c.args.newly.now c.tell.new.newly (drop (length c.args.newly.now) c.tell.new.newly) j
    (sym (behind c.args.newly.now c.tell.new.newly j.binds.more j.binds.list)) ns bound)
    (λ n ns bound. under_none c.args.atoms.now w c.store_and_numbers.ensures.solvable f.0 f.1 c.in-Delayed.term c.args.number once found c.in-Linear.constraint e n
    (numbers_of c.args.newly.now) ns bound)
    h) c.tell.ensures.joined

pub returns-in-Linear-clause-fewer : goal.returns-in-Linear-clause-fewer
returns-in-Linear-clause-fewer c =
    let found = c.susp.ensures ∙ ap (λ (s : Susp). Some s) c.in-Delayed.is in
    IfOk-weaker c.tell.result _ _ (λ b h. by_yes b
    (joins_fewer (now_of c.args.world.now) (now_of c.tell.new.world) c.take.new.self.now c.in-Linear.constraint c.args.newly.now c.tell.new.newly c.args.number c.in-Delayed.term
    (once_ascending _ c.store_and_numbers.ensures.ascending) found c.in_ok-take-in-Linear.ensures.ok)
    (λ n. tt) h) c.tell.ensures.joined

pub returns-in-Linear-clause-others : goal.returns-in-Linear-clause-others
returns-in-Linear-clause-others c =
    IfOk-weaker c.tell.result _ _ (λ b h. by_yes b
    (λ j. others_wait c.args.world.now.attrs.now c.tell.new.world.attrs.now c.args.number (j.attrs ∙ c.in_ok-take-in-Linear.ensures.ok))
    (λ n. tt) h) c.tell.ensures.joined

pub returns-in-Linear-clause-overflow : goal.returns-in-Linear-clause-overflow
returns-in-Linear-clause-overflow c = λ pair i ns bound.
    let f = c.store_and_numbers.ensures.fixes in
    let found = c.susp.ensures ∙ ap (λ (s : Susp). Some s) c.in-Delayed.is in
    let e = sym c.in_ok-linearise-in-Delayed.ensures.lin ∙ ap constraint_of c.in-Linear.is in
    under_overflow c.args.atoms.now (now_of c.args.world.now) c.store_and_numbers.ensures.solvable f.0 f.1 c.in-Delayed.term c.args.number
    (once_ascending _ c.store_and_numbers.ensures.ascending) found c.in-Linear.constraint e pair (c.tell.ensures.overflow pair i) (numbers_of c.args.newly.now) ns bound

pub returns-in-Linear-clause-pivots : goal.returns-in-Linear-clause-pivots
returns-in-Linear-clause-pivots c = λ n i.
    let f = c.store_and_numbers.ensures.fixes in
    let found = c.susp.ensures ∙ ap (λ (s : Susp). Some s) c.in-Delayed.is in
    let e = sym c.in_ok-linearise-in-Delayed.ensures.lin ∙ ap constraint_of c.in-Linear.is in
    let o = c.tell.ensures.pivots n i in (
      o.0,
      λ ns bound. under_pivots c.args.atoms.now (now_of c.args.world.now) c.store_and_numbers.ensures.solvable f.0 f.1 c.in-Delayed.term c.args.number
          (once_ascending _ c.store_and_numbers.ensures.ascending) found c.in-Linear.constraint e n o.1 (numbers_of c.args.newly.now) ns bound,
    )
