use Rattle.std.proofs.Common.{◌≡◌, ℕ, List, Some}
use Rattle.spec_numbers.specs.Texts.{Text}
use Rattle.spec_search.specs.Database.{Database}
use Rattle.spec_search.specs.Search.{Search}
use Rattle.cq_control.specs.Open.{AreMarked}
use Rattle.cq_resolve.specs.Database.{Program}
use Rattle.cq_branch.specs.Choices.{KeepsOlder}
use Rattle.cq_branch.specs.Worlds.{value, saved_values, Stands, Arrives}
use Rattle.cq_branch.proofs.marks.pass_marks.Given as goal

abbrev pub invariant-marks : goal.invariant-marks
invariant-marks l =
    record {
      marked : AreMarked (saved_values l.world.first l.world.second.saved) l.choices;
      arrives : (steps : ℕ) (texts : List Text) (v : Program) (db : Database) (n : ℕ) (s : Search)
          → Stands texts v db n (saved_values l.fn.world.first l.fn.world.second.saved) l.fn.choices (value l.fn.world.first l.fn.world.second.now) (Some l.fn.start) s
          → Arrives steps texts v db n (saved_values l.world.first l.world.second.saved) l.choices (value l.world.first l.world.second.now) (Some l.current) s;
      older : KeepsOlder (saved_values l.fn.world.first l.fn.world.second.saved) l.fn.choices (saved_values l.world.first l.world.second.saved) l.choices;
      budget : l.world.first.store.pivots ≡ l.fn.world.first.store.pivots;
    }

abbrev pub decreases-marks : goal.decreases-marks
decreases-marks l = l.current
