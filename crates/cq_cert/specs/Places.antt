-- Where a check stands, as the definition of a verdict has it.
use Rattle.std.specs.Prelude.{◌≡◌, ℕ, ◌+◌, ◌<◌, ◌≤◌, ⊤}
use Rattle.spec_log.specs.Verdicts.{State, Start as AtStart, Between as AtBetween, Listing as AtListing, Proving as AtProving, Proved as AtProved, Ended as AtEnded, Found, goes, ends, sum_of}
use Rattle.cq_cert.specs.declared.check.Place.{Place}
use Rattle.cq_cert.specs.declared.check.Place.TheVariants.{Start, Between, Listing, Proving, Proved, Ended}
use Rattle.cq_cert.specs.declared.check.Step.{Step}
use Rattle.cq_cert.specs.declared.check.Step.TheVariants.{Goes, Ends}

abbrev pub place_of : Place → State
place_of Start = AtStart
place_of (Between k) = AtBetween k
place_of (Listing o) = AtListing o.entries o.left o.seen o.members.items
place_of (Proving w) = AtProving w.entries w.members.items
place_of (Proved f) = AtProved f.entries f.members.items f.run.items
place_of (Ended k) = AtEnded k

-- an open list wants a member more, and a first run's multiples were added up
abbrev pub IsSound : Place → Type 0
IsSound Start = ⊤
IsSound (Between k) = ⊤
IsSound (Listing o) = 0 < o.left
IsSound (Proving w) = ⊤
IsSound (Proved f) = f.sum ≡ sum_of f.members.items f.run.items
IsSound (Ended k) = ⊤

-- entries and variables so far: no more than bytes
abbrev pub counts : Place → ℕ
counts Start = 0
counts (Between k) = k
counts (Listing o) = o.entries + o.seen
counts (Proving w) = w.entries
counts (Proved f) = f.entries
counts (Ended k) = k

-- the step is what is found of a line, and its counts are so many at most
abbrev pub Leads : Found → ℕ → Step → Type 0
Leads found most (Goes p) = (found ≡ goes (place_of p)) × IsSound p × (counts p ≤ most)
Leads found most (Ends v) = found ≡ ends v
