use Rattle.std.proofs.Common.{◌≡◌, ◌≤◌, true, false, not, subst, sym, ap, ◌∙◌, length}
use Rattle.cq_ops.specs.Tables.{named}
use Rattle.cq_read.proofs.Feeding.{undecided_needs}
use Rattle.cq_read.proofs.feed.Feed.next.Goals as goal

pub returns-then-not-may_be_decided-clause-fed : goal.returns-then-not-may_be_decided-clause-fed
returns-then-not-may_be_decided-clause-fed c =
    let fits = subst (λ v. v.place ≤ length v.bytes) c.self.view_is c.self.invariant.fits in
    undecided_needs (named c.args.atoms.now c.args.ops.now) c.args.self.now.bytes c.args.self.now.place fits c.args.self.now.finished (sym (ap (λ v. v.finished) c.self.view_is) ∙ c.if-not-self.true) (c.may_be_decided.ensures.undecided c.if-not-may_be_decided.true)
