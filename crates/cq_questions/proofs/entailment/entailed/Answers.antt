use Rattle.std.proofs.Common.{Err, List, ap, ◌∙◌, subst}
use Rattle.std.specs.Prelude.{All, Any, MatchBool}
use Rattle.spec_search.specs.Steps.{IsEntailed, IsBroken}
use Rattle.spec_simplex.specs.Asked.{NoQuestion}
use Rattle.cq_frac.specs.declared.Refusal.{Refusal}
use Rattle.cq_store.specs.StoreValue.{MayRefuse, MayTake, Only}
use Rattle.cq_store.specs.declared.store.StoreFault.{StoreFault}
use Rattle.cq_questions.specs.Members.{lin_of, AsksOne}
use Rattle.cq_questions.specs.declared.members.Member.{Member}
use Rattle.cq_term.specs.Trees.{trees}
use Rattle.spec_search.specs.Replies.{IfEntailed}
use Rattle.spec_transcript.specs.Questions.{IsQuestionMoment}
use Rattle.cq_questions.proofs.Listed.{answer_of}
use Rattle.cq_questions.proofs.Moments.{asked_due, member_refuses, refusal_due}
use Rattle.cq_questions.proofs.entailment.entailed.Goals as goal

pub returns-in-Waits-clause-answer : goal.returns-in-Waits-clause-answer
returns-in-Waits-clause-answer c = λ fixed f. (rw c.in-Waits.is at c.in-Ok.ensures.found) fixed f

pub returns-in-Ok-all_entailed-clause-answer : goal.returns-in-Ok-all_entailed-clause-answer
returns-in-Ok-all_entailed-clause-answer c = λ fixed f.
    answer_of c.args.atoms.now c.args.world.now.heap.now.terms c.args.world.now.store.told fixed (trees c.args.atoms.now c.args.world.now.heap.now.terms c.args.members.now)
    c.in-All.all.items ((rw c.in-All.is at c.in-Ok.ensures.found) fixed f) c.in-Ok-all_entailed.yes c.if_all.result
    (subst (λ (ms : List Member). MatchBool c.in-Ok-all_entailed.yes (All (λ m. IsEntailed c.args.world.now.store.told (lin_of m)) ms)
    (Any (λ m. IsBroken c.args.world.now.store.told (lin_of m)) ms)) c.deref.ensures.value c.in-Ok-all_entailed.ensures.entailed)
    c.if_all.ensures

pub returns-in-Ok-clause-stop : goal.returns-in-Ok-clause-stop
returns-in-Ok-clause-stop c = λ st same b.
    let v = c.values_are_fixed.ensures in
    let l = c.args.world.now.store.told in
    asked_due l v.0 v.1 st same (trees c.args.atoms.now c.args.world.now.heap.now.terms c.args.members.now) b
    c.in-All.all.items ((rw c.in-All.is at c.in-Ok.ensures.found) v.0 v.1) c.args.world.now.store.pivots c.in-Err-all_entailed.fault
    (λ pair e. subst (λ (ms : List Member). AsksOne ms (λ k. MayRefuse l NoQuestion (Only k) pair)) c.deref.ensures.value
    (c.all_entailed.ensures.overflow pair (c.in-Err-all_entailed.is ∙ ap (λ (f : StoreFault). Err f) e)))
    (λ n e. (let o = c.all_entailed.ensures.pivots n (c.in-Err-all_entailed.is ∙ ap (λ (f : StoreFault). Err f) e) in
    (o.0, subst (λ (ms : List Member). AsksOne ms (λ k. MayTake l NoQuestion (Only k) n)) c.deref.ensures.value o.1)))

pub returns-clause-stop : goal.returns-clause-stop
returns-clause-stop c = λ st same b.
    let v = c.values_are_fixed.ensures in
    let ts = trees c.args.atoms.now c.args.world.now.heap.now.terms c.args.members.now in
    refusal_due (IsQuestionMoment st (IfEntailed ts b)) c.args.world.now.store.pivots c.in-Err.refusal c.from.result c.from.ensures
    (λ pair e. (let r = c.members_now.ensures.overflow pair (c.in-Err.is ∙ ap (λ (f : Refusal). Err f) e) v.0 v.1 in
    member_refuses c.args.world.now.store.told v.0 v.1 st same ts b r.0 r.1 pair r.2))
