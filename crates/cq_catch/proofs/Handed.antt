-- A ball that comes up is handed to the nearest catch.
use Rattle.std.proofs.Common.{◌≡◌, ℕ, List, ◌∷◌, None, Some, sym, subst}
use Rattle.spec_numbers.specs.Texts.{Text}
use Rattle.spec_terms.specs.Term.{Var}
use Rattle.spec_branch.specs.Branch.{plain_copy}
use Rattle.cq_control.specs.Items.{items_at}
use Rattle.cq_control.specs.Open.{last}
use Rattle.cq_resolve.specs.Database.{Program}
use Rattle.cq_resolve.specs.StoredValue.{StoredValue}
use Rattle.cq_settle.specs.Contents.{Contents}
use Rattle.spec_engine.specs.Cells.{Value, Stack, catch_at, nearest_catch}
use Rattle.spec_engine.specs.Cells as left
use Rattle.spec_engine.specs.Standing.{AreWaiting}
use Rattle.spec_engine.proofs.Thrown.{caught, ball_waits, uncaught}
use Rattle.cq_branch.specs.Stored.{stored_tree}
use Rattle.cq_branch.specs.Worlds.{IsBranch, term_in, stack}
use Rattle.cq_branch.specs.declared.alternatives.Alternatives.{Alternatives}
use Rattle.cq_catch.specs.Balls.{ComesUpSomewhere, HandsBall, Misses, HasCatch, IsNearest}
use Rattle.cq_catch.specs.declared.balls.End.{End}

module _ (saved : List (Value Contents)) (choices : List Alternatives) (now : Value Contents) (from : ℕ) where
  -- the choice of the nearest end is a catch
  pub catch_there : (e : End) → IsNearest (items_at now.1 from) e → ComesUpSomewhere saved choices now from → HasCatch saved choices e.height
  catch_there e near w =
      let rs = stack w.0 w.1 saved choices in
      let h = caught (IsBranch w.0) (term_in w.0) rs now.0 w.3 (items_at now.1 from) w.2 (plain_copy (Var 0)) w.4 (e.height, e.catcher, e.recovery, near.0)
      w.5.continuation.cells near.1 in
      (w.0, w.1, h.call, h.kept)

  -- it has the ball
  pub catches_it : (e : End) → IsNearest (items_at now.1 from) e → (stored : StoredValue) (more : List (Value Contents)) (after : List Alternatives)
      → ((texts : List Text) (v : Program) (call : Value Contents × ℕ) → catch_at (stack texts v saved choices) e.height ≡ Some call
      → stack texts v more after ≡ (call.0, left.Caught (stored_tree texts stored) e.catcher e.recovery call.1) ∷ last e.height (stack texts v saved choices))
      → HandsBall saved choices now from stored more after
  catches_it e near stored more after given = λ texts v items st behind ball c kept.
      let b = ball_waits (IsBranch texts) (term_in texts) (stack texts v saved choices) now from items st ball (stored_tree texts stored) behind
      (e.height, e.catcher, e.recovery, near.0) c.continuation c.waiting near.1 kept in
      record {
        next = b.2;
        handed_on = b.3;
        waiting = subst (λ (rs : Stack Contents). AreWaiting (IsBranch texts) (term_in texts) rs b.2) (sym (given texts v b.0 b.1)) b.4;
      }

  -- without an end nothing catches it
  pub misses_it : nearest_catch (items_at now.1 from) ≡ None → Misses saved choices now from
  misses_it none = λ texts v items st behind ball c.
      uncaught (IsBranch texts) (term_in texts) (stack texts v saved choices) now.0 st (items_at now.1 from) items ball behind c.continuation.cells none
