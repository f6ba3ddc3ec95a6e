use Rattle.std.proofs.Common.{◌≡◌, ◌+◌, ◌<◌, ◌≤◌, ◌∷◌, [], arith, suc, length, subst}
use Rattle.cq_term.specs.Shown.{arguments}
use Rattle.cq_term.specs.Meaning.{at}
use Rattle.cq_write.specs.Spelled.{written}
use Rattle.cq_write.specs.Work.{tree}
use Rattle.cq_write.specs.Settings.{setting}
use Rattle.spec_syntax.specs.Writing.{is_bare_argument}
use Rattle.cq_write.specs.declared.jobs.Mark.TheVariants as mark
use Rattle.cq_write.specs.declared.jobs.Word.TheVariants as word
use Rattle.cq_write.specs.declared.jobs.Part.TheVariants as part
use Rattle.cq_write.specs.declared.jobs.Job.TheVariants as job
use Rattle.cq_write.proofs.Steps.{on_ok, operand_of}
use Rattle.cq_write.proofs.Begun.{begun_below}
use Rattle.cq_write.proofs.Expansions.{next_made, last_made}
use Rattle.cq_write.proofs.writer.Writer.arguments.Goals as goal

pub returns-in_ok-push_all : goal.returns-in_ok-push_all
returns-in_ok-push_all c =
    let s = setting c.args.self.now in
    let before = written c.args.line.now in
    let after = written c.operand.new.line in
    let old = c.args.jobs.now.items in
    let new = c.operand.new.jobs.items in
    let last = job.Word (word.Mark mark.Comma) ∷ job.Part (part.Arguments c.args.term (c.args.at + 1)) ∷ [] in
    let more : c.args.at + 1 < length (arguments (at s.terms c.args.term)) = subst (λ n. c.args.at + 1 < n) c.arity-arity.ensures c.if-at-arity.true in
    let next : c.args.at + 1 ≡ suc c.args.at = omega arith in
    on_ok c.operand.result
    (λ made. (
      made.0 ∷ last,
      next_made s c.args.term c.argument-argument.result c.args.at (c.args.at + 1) made.0 next c.requires.0 c.argument-argument.ensures.argument more
          (operand_of s (is_bare_argument s.ops (tree s c.argument-argument.result)) c.is_bare_argument-bare.result c.argument-argument.result made.0 c.is_bare_argument-bare.ensures made.1),
      begun_below s before after old new (made.0 ∷ []) last c.push_all.new.jobs.items c.in_ok-push_all.ensures made.2,
    ))
    c.operand.ensures

pub returns-else-at-arity : goal.returns-else-at-arity
returns-else-at-arity c =
    let s = setting c.args.self.now in
    let no_more : length (arguments (at s.terms c.args.term)) ≤ c.args.at + 1 = subst (λ n. n ≤ c.args.at + 1) c.arity-arity.ensures c.if-at-arity.false in
    on_ok c.operand-else-at-arity.result
    (λ made. (
      made.0 ∷ [],
      last_made s c.args.term c.argument-argument.result c.args.at made.0 c.argument-argument.ensures.argument no_more
          (operand_of s (is_bare_argument s.ops (tree s c.argument-argument.result)) c.is_bare_argument-bare.result c.argument-argument.result made.0 c.is_bare_argument-bare.ensures made.1),
      made.2,
    ))
    c.operand-else-at-arity.ensures
