use Rattle.std.proofs.Common.{◌≤◌, sym, subst, length}
use Rattle.cq_read.specs.Feeds.{place_after}
use Rattle.cq_read.proofs.Feeding.{tried_at_place}
use Rattle.cq_read.proofs.feed.Feed.go_on.Goals as goal

pub invariant_of-self : goal.invariant_of-self
invariant_of-self c =
    tried_at_place c.self.inside.bytes.items c.place_after-self-inside.result
    (subst (λ n. n ≤ length c.self.inside.bytes.items) (sym c.place_after-self-inside.ensures) (subst (λ v. place_after v.place c.args.read.now ≤ length v.bytes) (sym c.self.view_is) c.requires))
