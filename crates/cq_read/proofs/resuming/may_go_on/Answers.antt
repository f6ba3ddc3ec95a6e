use Rattle.std.proofs.Common.{◌≡◌, ◌≤◌, ℕ, None, Some, sym, ap, subst, ◌∙◌, arith, length, nat_lt, false}
use Rattle.std.proofs.lemmas.Bool.Decides.{nat_tests}
use Rattle.spec_text.specs.Readings.{Resumes}
use Rattle.cq_read.proofs.Passing.{stays}
use Rattle.cq_read.proofs.resuming.may_go_on.Goals as goal

same_place : (p q : ℕ) → Some p ≡ Some q → p ≡ q
same_place p q e = cc

none_there : {q : ℕ} → None ≡ Some q → ⊥
none_there e = cc

pub returns-in-Some : goal.returns-in-Some
returns-in-Some c e ops r reads closed =
    let far : length c.args.text.now ≤ c.resume-in-Some.result = grind (arith, nat_tests) in
    stays ops c.args.text.now c.args.from c.resume.result r c.requires c.resume.ensures c.if-resume-text.false
    (λ p comes. (c.resume-in-Some.result, subst (λ x. Resumes c.args.text.now x c.resume-in-Some.result) (same_place c.in-Some.at p (sym c.in-Some.is ∙ c.first_fault.ensures.first p comes)) c.resume-in-Some.ensures, far)) reads closed

pub returns-in-None : goal.returns-in-None
returns-in-None c e ops r reads closed =
    stays ops c.args.text.now c.args.from c.resume.result r c.requires c.resume.ensures c.if-resume-text.false
    (λ p comes. absurd (none_there (sym c.in-None.is ∙ c.first_fault.ensures.first p comes))) reads closed
