use Rattle.std.proofs.lemmas.Grind.{common_steps}
use Rattle.std.proofs.Common.{rules, arith, ◌≡◌, ℕ, ◌≤◌, sym, subst, length}
use Rattle.spec_text.specs.Readings.{Reads}
use Rattle.spec_text.specs.Decided.{IsClosed, IsFullStop}
use Rattle.cq_read.specs.Inputs.{IsTried}
use Rattle.cq_read.proofs.Feeding.{undecided, tried_all, near_within}
use Rattle.cq_read.proofs.feed.Feed.may_be_decided.Goals as goal

pub has_full_stop-requires : goal.has_full_stop-requires
has_full_stop-requires c =
    subst (λ b. c.untried-from.result ≤ length b) (sym c.deref.ensures.value)
    (near_within c.self.inside.place c.self.inside.tried c.untried-from.result (length c.self.inside.bytes.items) c.untried-from.ensures c.self.invariant.fits c.self.invariant.within)

pub invariant_of-self : goal.invariant_of-self
invariant_of-self c =
    let bytes = c.self.inside.bytes.items in
    subst (IsTried bytes c.self.inside.place) (sym (let same : c.len-self-inside.result ≡ length bytes = first_of (search (rules, c.len-self-inside.ensures), grind (arith, common_steps, c.len-self-inside.ensures, c.deref.ensures.len)) in same))
    (tried_all bytes c.self.inside.place c.self.invariant.fits
    (undecided bytes c.self.inside.place c.self.inside.tried c.untried-from.result c.self.invariant c.untried-from.ensures (subst (λ b. (stop : ℕ) → c.untried-from.result ≤ stop → IsFullStop b stop → ⊥) c.deref.ensures.value (c.has_full_stop.ensures c.if-has_full_stop.false))))

pub returns-clause-undecided : goal.returns-clause-undecided
returns-clause-undecided c e ops r =
    subst (λ v. Reads ops v.bytes v.place r → IsClosed r (length v.bytes) → ⊥) c.self.view_is
    (undecided c.self.inside.bytes.items c.self.inside.place c.self.inside.tried c.untried-from.result c.self.invariant c.untried-from.ensures (subst (λ b. (stop : ℕ) → c.untried-from.result ≤ stop → IsFullStop b stop → ⊥) c.deref.ensures.value (c.has_full_stop.ensures c.if-has_full_stop.false)) ops r)
