use Rattle.std.proofs.Common.{◌≡◌, map, Err, ◌<◌, ◌≤◌, ◌∙◌, ℕ, List, length, take, Some, ◌+◌, refl, sym, ap, subst, arith}
use Rattle.std.proofs.lemmas.List.{take_all}
use Rattle.spec_linear.specs.Solution.{Has}
use Rattle.spec_branch.specs.Relations.{lin}
use Rattle.spec_transcript.specs.Operands.{relation_operands}
use Rattle.cq_cexpr.specs.Overflows.{ComesFrom}
use Rattle.cq_term.specs.HeapValue.{Terms}
use Rattle.cq_term.specs.Trees.{tree, trees, KnowsTerms}
use Rattle.cq_frac.specs.declared.Refusal.{Refusal}
use Rattle.cq_frac.specs.declared.Refusal.TheVariants as refusal
use Rattle.cq_questions.specs.Members.{lin_of}
use Rattle.cq_questions.specs.declared.members.Member.{Member}
use Rattle.cq_questions.proofs.Listed.{AreFound, first_waits, found_more, has_tree}
use Rattle.cq_questions.proofs.members.members_now.Goals as goal

pub loop-member-init : goal.loop-member-init
loop-member-init c = record { found = λ fixed f. ap (λ (ms : List Member). map lin_of ms) (sym c.new-found.ensures.items); heap = refl; saved = refl; room = omega arith }

pub relation_now-requires-clause-live : goal.relation_now-requires-clause-live
relation_now-requires-clause-live c =
    let within : c.loop-member.member-index < length c.args.members.now = omega (arith, c.loop-member-test.true) in
    subst (λ (h : Terms). c.member-item.result < length h.terms) (sym c.loop-member.invariant.heap)
    (subst (λ (x : ℕ). x < length c.args.heap.now.now.terms) (sym c.member-item.is) (c.requires.live c.loop-member.member-index c.member-item.result within))

pub relation_now-requires-clause-names : goal.relation_now-requires-clause-names
relation_now-requires-clause-names c = subst (λ (h : Terms). KnowsTerms c.args.atoms.now h.terms) (sym c.loop-member.invariant.heap) c.requires.names

pub loop-member-preserved : goal.loop-member-preserved
loop-member-preserved c =
    let i = c.loop-member.member-index in
    let ids = c.args.members.now in
    let texts = c.args.atoms.now in
    let us = c.args.heap.now.now.terms in
    let item = c.member-item.result in
    let within : i < length ids = omega (arith, c.loop-member-test.true) in
    record {
      found = λ fixed f.
          subst (λ ms. AreFound fixed (trees texts us (take (i + 1) ids)) ms) (sym c.in_ok-push-in-Some.ensures.items)
          (found_more fixed texts us ids i item within c.loop-member.found.items (c.loop-member.invariant.found fixed f) c.in-Some.next
          (ap (λ (x : ℕ). lin fixed (tree texts us x)) (sym c.member-item.is)
          ∙ ap (λ (h : Terms). lin fixed (tree texts h.terms item)) (sym c.loop-member.invariant.heap)
          ∙ sym (c.in-Ok.ensures.lin fixed f) ∙ c.in-Some.ensures.some));
      heap = c.relation_now.ensures.heap ∙ c.loop-member.invariant.heap;
      saved = c.relation_now.ensures.saved ∙ c.loop-member.invariant.saved;
      room = omega (arith, c.relation_now.ensures.room, c.loop-member.invariant.room);
    }

pub returns-in-None-clause-found : goal.returns-in-None-clause-found
returns-in-None-clause-found c = λ fixed f.
    let i = c.loop-member.member-index in
    let ids = c.args.members.now in
    let texts = c.args.atoms.now in
    let us = c.args.heap.now.now.terms in
    let item = c.member-item.result in
    let within : i < length ids = omega (arith, c.loop-member-test.true) in (
      subst (λ (x : ℕ). x < length us) (sym c.member-item.is) (c.requires.live i item within),
      first_waits fixed texts us ids i item within c.loop-member.found.items (c.loop-member.invariant.found fixed f)
          (ap (λ (x : ℕ). lin fixed (tree texts us x)) (sym c.member-item.is)
          ∙ ap (λ (h : Terms). lin fixed (tree texts h.terms item)) (sym c.loop-member.invariant.heap)
          ∙ sym (c.in-Ok.ensures.lin fixed f) ∙ c.in-None.ensures.none)
          ∙ ap (λ (x : ℕ). Some (tree texts us x)) (sym c.member-item.is),
    )

pub returns-in-Err-clause-overflow : goal.returns-in-Err-clause-overflow
returns-in-Err-clause-overflow c = λ pair e fixed f.
    let same : c.in-Err.refusal ≡ refusal.Overflow pair = cc in
    let i = c.loop-member.member-index in
    let ids = c.args.members.now in
    let texts = c.args.atoms.now in
    let us = c.args.heap.now.now.terms in
    let item = c.member-item.result in
    let within : i < length ids = omega (arith, c.loop-member-test.true) in (
      tree texts us item,
      subst (λ (x : ℕ). Has (tree texts us x) (trees texts us ids)) (sym c.member-item.is) (has_tree texts us ids i item within),
      subst (λ (h : Terms). ComesFrom (relation_operands fixed (tree texts h.terms item)) pair) c.loop-member.invariant.heap
          (c.relation_now.ensures.overflow pair (c.in-Err.is ∙ ap (λ (r : Refusal). Err r) same) fixed f),
    )

pub returns-clause-found : goal.returns-clause-found
returns-clause-found c = λ fixed f.
    let all : length c.args.members.now ≤ c.loop-member.member-index = omega (arith, c.loop-member-test.false) in
    subst (λ (ids : List ℕ). AreFound fixed (trees c.args.atoms.now c.args.heap.now.now.terms ids) c.loop-member.found.items)
    (take_all c.loop-member.member-index c.args.members.now all) (c.loop-member.invariant.found fixed f)
