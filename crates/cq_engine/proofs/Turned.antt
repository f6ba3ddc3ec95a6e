-- What an engine gives behind quiet turns, and what it keeps.
use Rattle.std.proofs.Common.{◌≡◌, ℕ, ◌≤◌, Option, None, Some, refl, sym, ap, ◌∙◌, subst, arith}
use Rattle.spec_numbers.specs.Prefixes.{IsPrefix}
use Rattle.spec_numbers.proofs.Prefixes.{prefix_both, prefix_same}
use Rattle.spec_search.specs.Search.{Search}
use Rattle.spec_transcript.specs.Causes.{Budgets}
use Rattle.spec_engine.specs.Coming.{Quietly, at_once}
use Rattle.cq_machine.specs.declared.machine.Machine.{Machine}
use Rattle.cq_engine.specs.Seeking.{GainsNames}
use Rattle.cq_engine.proofs.Told.{quietly_then}
use Rattle.cq_execute.specs.Executions.{KeepsWalks}
use Rattle.cq_engine.specs.declared.events.engine.Engine.{Engine}
use Rattle.cq_engine.specs.declared.events.event.Event.{Event}
use Rattle.cq_engine.specs.declared.events.event.Event.TheVariants.{Answer, Output, Fail, Ball, Stop}
use Rattle.cq_engine.specs.Events.{Stands, Arrives, HasBudgets, GivesNext, GoesOn, HasCounted, Keeps}
use Rattle.cq_engine.specs.Turning.{Turned}
use Rattle.cq_engine.proofs.Ended.{gives_then}

-- ---- budgets and names

pub keeps_both : (a b c : Engine) → Keeps a b → Keeps b c → Keeps a c
keeps_both a b c f g = record {
  atoms = prefix_both a.machine.atoms b.machine.atoms c.machine.atoms f.atoms g.atoms;
  steps = g.steps ∙ f.steps;
  pivots = g.pivots ∙ f.pivots;
}

pub keeps_none : (e : Engine) → Keeps e e
keeps_none e = record { atoms = prefix_same e.machine.atoms e.machine.atoms refl; steps = refl; pivots = refl }

-- another machine, and then no more
pub keeps_at : (old new : Engine) (m : Machine) → KeepsWalks old.machine m → new.machine ≡ m → new.steps ≡ old.steps → Keeps old new
keeps_at old new m k e steps = record {
  atoms = subst (λ (x : Machine). IsPrefix old.machine.atoms x.atoms) (sym e) k.atoms;
  steps = steps;
  pivots = ap (λ (x : Machine). x.world.first.store.pivots) e ∙ k.budget;
}

pub keeps_gained : (old new : Engine) (m : Machine) → KeepsWalks old.machine m → GainsNames m new.machine → new.machine.world.first.store.pivots ≡ m.world.first.store.pivots
    → new.steps ≡ old.steps → Keeps old new
keeps_gained old new m k g pivots steps = record {
  atoms = prefix_both old.machine.atoms m.atoms new.machine.atoms k.atoms g.atoms;
  steps = steps;
  pivots = pivots ∙ k.budget;
}

budgets_on : (budgets : Budgets) (old new : Engine) → Keeps old new → HasBudgets budgets old → HasBudgets budgets new
budgets_on budgets old new k h = record { steps = h.steps ∙ sym k.steps; pivots = h.pivots ∙ sym k.pivots }

-- ---- one after the other

pub goes_both : (a b c : Engine) → Keeps a b → GoesOn a b → GoesOn b c → GoesOn a c
goes_both a b c k f g = λ s j.
    let x = f s j in
    let y = subst (λ (n : ℕ). Arrives n c x.reached) k.steps (g x.reached x.stands) in
    record { reached = y.reached; quiet = quietly_then x.quiet y.quiet; stands = y.stands }

pub gives_both : (a b c : Engine) (event : Event) → Keeps a b → GoesOn a b → GivesNext b c event → GivesNext a c event
gives_both a b c event k f g = λ budgets h s j.
    let x = f s j in
    gives_then budgets c event s x.reached (subst (λ (n : ℕ). Quietly n s x.reached) (sym h.steps) x.quiet) (g budgets (budgets_on budgets a b k h) x.reached x.stands)

-- one more may have been selected before
pub counted_on : (a b c : Engine) (event : Event) → a.selected ≤ b.selected → HasCounted b c event → HasCounted a c event
counted_on a b c Answer l h = omega (arith, l, h)
counted_on a b c (Output text) l h = omega (arith, l, h)
counted_on a b c Fail l h = omega (arith, l, h)
counted_on a b c (Ball stored) l h = omega (arith, l, h)
counted_on a b c (Stop cause) l h = omega (arith, l, h)

pub turned_both : (a b c : Engine) (r : Option Event) → Keeps a b → GoesOn a b → b.selected ≡ a.selected → Turned b c r → Turned a c r
turned_both a b c None k f e t = (goes_both a b c k f t.0, let more = t.1 in omega (arith, more, e))
turned_both a b c (Some event) k f e t = (gives_both a b c event k f t.0, let same : a.selected ≤ b.selected = omega (arith, e) in counted_on a b c event same t.1)

-- ---- where nothing has changed for the search

pub goes_at_once : (old new : Engine) → ((s : Search) → Stands old s → Stands new s) → GoesOn old new
goes_at_once old new f = λ s j. record { reached = s; quiet = at_once; stands = f s j }
