-- What a selected goal's step tells, and for which search an engine stands then.
use Rattle.std.proofs.Common.{inr, ◌≡◌, ◌≢◌, ℕ, suc, ◌<◌, [], Option, Bool, true, false, refl, sym, ap, subst}
use Rattle.spec_numbers.specs.Texts.{Text}
use Rattle.spec_syntax.specs.Trees.{Tree}
use Rattle.spec_branch.specs.Branch.{read}
use Rattle.spec_search.specs.Replies.{Overflows, Place}
use Rattle.spec_search.specs.Rows.{reply_of}
use Rattle.spec_search.specs.Search.{Search}
use Rattle.spec_search.specs.Turns as turn
use Rattle.spec_search.specs.Turns.{Turn, Event, Wrote, Answered, Threw, Ended, place_of, after_step, with_branches}
use Rattle.spec_transcript.specs.Causes.{Budgets, Overflow}
use Rattle.spec_engine.specs.Coming.{MayGo, at_once, after, shows, Comes, Tells, Shows, Stops}
use Rattle.spec_engine.specs.Coming as coming
use Rattle.spec_engine.specs.Standing.{engine}
use Rattle.cq_frac.specs.declared.Pair.{Pair}
use Rattle.cq_branch.specs.Worlds.{IsBranch, term_in}
use Rattle.cq_machine.specs.declared.machine.Machine.{Machine}
use Rattle.cq_machine.specs.Machines.{now, holds, database_of}
use Rattle.cq_engine.specs.Seeking.{ComesTo}
use Rattle.cq_execute.specs.Executions.{Continues}
use Rattle.cq_engine.specs.Turning.{SelectsNext}

abbrev text_of_event : Event → Text
text_of_event (Wrote text) = text
text_of_event (Answered st ops) = []
text_of_event (Threw ball) = []
text_of_event Ended = []

abbrev pub is_written : Event → Bool
is_written (Wrote text) = true
is_written (Answered st ops) = false
is_written (Threw ball) = false
is_written Ended = false

module _ (old : Machine) (n rest : ℕ) (s : Search) (x : SelectsNext old n rest s) where
  abbrev place : Place
  place = place_of s x.state x.items x.cut x.behind

  abbrev goal : Tree
  goal = read x.state x.goal

  may : (steps : ℕ) → n < steps → MayGo steps s
  may steps few = inr (subst (λ (i : ℕ). i < steps) (sym x.selected) few)

  module _ (m : Machine) (current : Option ℕ) (text : Text) (k : Continues m current text place x.behind goal) where
    made : Turn s (Wrote text) (after_step s k.made x.behind)
    made = subst (λ (t : Text). Turn s (Wrote t) (after_step s k.made x.behind)) k.output (turn.steps x.look k.step)

    pub comes_then : (steps : ℕ) → ComesTo steps m (suc n) current (after_step s k.made x.behind)
    comes_then steps =
        subst (λ (i : ℕ). Comes (IsBranch m.atoms) (term_in m.atoms) steps (engine (database_of m) i (holds m) (now m) current) (after_step s k.made x.behind)) (ap suc x.selected)
        (k.comes steps (after_step s k.made x.behind) k.database refl)

    -- without a text
    pub comes_quietly : (steps : ℕ) → n < steps → text ≡ [] → ComesTo steps m (suc n) current s
    comes_quietly steps few e =
        let c = comes_then steps in
        record {
          reached = c.reached;
          quiet = after (may steps few) (subst (λ (t : Text). Turn s (Wrote t) (after_step s k.made x.behind)) e made) c.quiet;
          stands = c.stands;
        }

    -- with one
    pub tells_text : (budgets : Budgets) → n < budgets.steps → text ≢ [] → Tells budgets s (Shows (Wrote text)) (after_step s k.made x.behind)
    tells_text budgets few some = shows at_once (may budgets.steps few) made (λ e. some (ap text_of_event e))

  -- a pair that is refused
  pub tells_refused : (budgets : Budgets) → n < budgets.steps → (pair : Pair) → reply_of place goal ≡ Overflows pair
      → Tells budgets s (Stops (Overflow pair)) (with_branches [] s)
  tells_refused budgets few pair row =
      coming.stops at_once
      (coming.overflows (may budgets.steps few)
      (record { goal = x.goal; cut = x.cut; items = x.items; state = x.state; behind = x.behind; selects = x.look; refused = row }))
