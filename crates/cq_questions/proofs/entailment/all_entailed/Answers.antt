use Rattle.std.proofs.Common.{◌≤◌, ◌∙◌, List, Err, length, ap, subst, arith}
use Rattle.std.specs.Prelude.{All}
use Rattle.std.proofs.lemmas.List.{take_all}
use Rattle.std.proofs.lemmas.List.Elements.{All-more}
use Rattle.spec_linear.specs.Solution.{Constraint}
use Rattle.spec_simplex.specs.Asked.{NoQuestion}
use Rattle.spec_search.specs.Steps.{IsEntailed}
use Rattle.cq_store.proofs.Passed.{passed, store_spent}
use Rattle.cq_store.specs.StoreValue.{MayRefuse, MayTake, Only}
use Rattle.cq_questions.specs.Members.{lin_of}
use Rattle.cq_questions.specs.declared.members.Member.{Member}
use Rattle.cq_questions.proofs.Listed.{asks_among}
use Rattle.cq_questions.proofs.entailment.all_entailed.Goals as goal

pub returns-in_err-is_entailed-clause-overflow : goal.returns-in_err-is_entailed-clause-overflow
returns-in_err-is_entailed-clause-overflow c = λ pair e.
    asks_among c.args.members.now c.loop-member.member-index c.member-item.result (omega (arith, c.loop-member-test.true)) c.member-item.is
    (λ k. MayRefuse c.loop-member.store.told NoQuestion (Only k) pair) (λ k. MayRefuse c.args.store.now.told NoQuestion (Only k) pair)
    (λ k h. subst (λ (l : List Constraint). MayRefuse l NoQuestion (Only k) pair) c.loop-member.invariant.told h)
    (c.in_err-is_entailed.ensures.overflow pair (ap Err (passed c.from_residual.result c.in_err-is_entailed.field-0.0 pair c.from_residual.ensures.1 e)))

pub returns-in_err-is_entailed-clause-pivots : goal.returns-in_err-is_entailed-clause-pivots
returns-in_err-is_entailed-clause-pivots c = λ n e.
    let o = c.in_err-is_entailed.ensures.pivots n (ap Err (store_spent c.from_residual.result c.in_err-is_entailed.field-0.0 n c.from_residual.ensures.1 e)) in (
      o.0 ∙ c.loop-member.invariant.pivots,
      asks_among c.args.members.now c.loop-member.member-index c.member-item.result (omega (arith, c.loop-member-test.true)) c.member-item.is
          (λ k. MayTake c.loop-member.store.told NoQuestion (Only k) n) (λ k. MayTake c.args.store.now.told NoQuestion (Only k) n)
          (λ k h. subst (λ (l : List Constraint). MayTake l NoQuestion (Only k) n) c.loop-member.invariant.told h) o.1,
    )

pub loop-member-preserved : goal.loop-member-preserved
loop-member-preserved c =
    let here = rw c.if-not-branch.false at c.in_ok-is_entailed.ensures.entailed in
    record {
      all = All-more (λ (m : Member). IsEntailed c.args.store.now.told (lin_of m)) c.args.members.now c.loop-member.member-index c.member-item.result
          (omega (arith, c.loop-member-test.true)) c.loop-member.invariant.all
          (subst (λ (m : Member). IsEntailed c.args.store.now.told (lin_of m)) c.member-item.is
          (subst (λ (l : List Constraint). IsEntailed l (lin_of c.member-item.result)) c.loop-member.invariant.told here));
      told = c.is_entailed.ensures.told ∙ c.loop-member.invariant.told;
      saved = c.is_entailed.ensures.saved ∙ c.loop-member.invariant.saved;
      room = omega (arith, c.is_entailed.ensures.room, c.loop-member.invariant.room);
      pivots = c.is_entailed.ensures.budget ∙ c.loop-member.invariant.pivots;
    }

pub returns-clause-entailed : goal.returns-clause-entailed
returns-clause-entailed c =
    let all : length c.args.members.now ≤ c.loop-member.member-index = omega (arith, c.loop-member-test.false) in
    subst (λ (ms : List Member). All (λ m. IsEntailed c.args.store.now.told (lin_of m)) ms) (take_all c.loop-member.member-index c.args.members.now all) c.loop-member.invariant.all
