-- What an engine tells, and for which searches it stands then.
use Rattle.std.proofs.Common.{◌≡◌, ℕ, suc, ◌<◌, [], Option, None, Some, refl, sym, ap, ◌∙◌, subst, arith}
use Rattle.spec_numbers.specs.Texts.{Text}
use Rattle.spec_branch.specs.Branch.{read}
use Rattle.spec_search.specs.Search.{Search}
use Rattle.spec_search.specs.Turns.{Wrote, place_of, after_step, with_branches}
use Rattle.spec_transcript.specs.Causes.{Budgets, Cause}
use Rattle.spec_engine.specs.Cells.{Stack}
use Rattle.spec_engine.specs.Coming.{Quietly, Told, Tells, Shows, Stops, at_once}
use Rattle.spec_engine.specs.Standing.{engine, AreWaiting, IsStanding}
use Rattle.cq_settle.specs.Contents.{Contents}
use Rattle.cq_branch.specs.Worlds.{IsBranch, term_in}
use Rattle.cq_machine.specs.declared.machine.Machine.{Machine}
use Rattle.cq_machine.specs.Machines.{IsSound, now, holds, database_of}
use Rattle.cq_engine.specs.Seeking.{IsKept, StandsFor, ComesTo}
use Rattle.cq_engine.proofs.Engines.{kept_where}
use Rattle.cq_engine.proofs.Told.{quietly_then, told_then}
use Rattle.cq_execute.specs.Executions.{Continues}
use Rattle.cq_engine.specs.declared.events.engine.Engine.{Engine}
use Rattle.cq_engine.specs.declared.events.event.Event.{Event}
use Rattle.cq_engine.specs.declared.events.event.Event.TheVariants.{Answer, Output, Fail, Ball, Stop}
use Rattle.cq_engine.specs.Events.{Stands, Arrives, IsRunning, TellsNext, StopsNext, Gives}
use Rattle.cq_engine.specs.Turning.{SelectsNext, IsAt, HasEnded, IsTold, Turned}
use Rattle.cq_engine.proofs.Steps.{comes_then, comes_quietly, tells_text}

-- ---- behind quiet turns

tells_then : (budgets : Budgets) (e : Engine) (s r : Search) → Quietly budgets.steps s r → (told : Told) → TellsNext budgets e told r → TellsNext budgets e told s
tells_then budgets e s r q told t = record { next = t.next; tells = told_then q t.tells; stands = t.stands }

pub gives_then : (budgets : Budgets) (e : Engine) (event : Event) (s r : Search) → Quietly budgets.steps s r → Gives budgets e event r → Gives budgets e event s
gives_then budgets e Answer s r q g = record { state = g.state; is_state = g.is_state; tells = tells_then budgets e s r q _ g.tells }
gives_then budgets e (Output text) s r q g = record { next = g.next; tells = told_then q g.tells; comes = g.comes }
gives_then budgets e Fail s r q g = tells_then budgets e s r q _ g
gives_then budgets e (Ball stored) s r q g = record { counted = g.counted; ball = g.ball; is_stored = g.is_stored; tells = tells_then budgets e s r q _ g.tells }
gives_then budgets e (Stop cause) s r q g = record {
  last = g.last;
  tells = told_then q g.tells;
  database = g.database;
  reached = g.reached;
  quiet = quietly_then q g.quiet;
  stands = g.stands;
}

-- ---- an engine that goes on

pub stands_at : (old new : Engine) (n : ℕ) (current : Option ℕ) (s : Search) → new.machine ≡ old.machine → new.selected ≡ n → new.current ≡ current
    → StandsFor old.machine n current s → Stands new s
stands_at old new n current s a b c j =
    subst (λ (m : Machine). StandsFor m new.selected new.current s) (sym a)
    (subst (λ (i : ℕ). StandsFor old.machine i new.current s) (sym b)
    (subst (λ (o : Option ℕ). StandsFor old.machine n o s) (sym c) j))

-- the same where it is another machine
pub stands_same : (new : Engine) (n : ℕ) (current : Option ℕ) (s : Search) → new.selected ≡ n → new.current ≡ current → StandsFor new.machine n current s → Stands new s
stands_same new n current s b c j =
    subst (λ (i : ℕ). StandsFor new.machine i new.current s) (sym b) (subst (λ (o : Option ℕ). StandsFor new.machine n o s) (sym c) j)

arrives_at : (old new : Engine) (current : Option ℕ) (steps : ℕ) (s : Search) → IsAt old new current → ComesTo steps old.machine (suc old.selected) current s → Arrives steps new s
arrives_at old new current steps s i c = record {
  reached = c.reached;
  quiet = c.quiet;
  stands = stands_at old new (suc old.selected) current c.reached i.machine i.selected i.current c.stands;
}

-- the machine's step leads on from the goal that is selected
abbrev pub Continued : Machine → Machine → ℕ → ℕ → Option ℕ → Text → Search → Type 0
Continued old m n rest current text s = (x : SelectsNext old n rest s) × Continues m current text (place_of s x.state x.items x.cut x.behind) x.behind (read x.state x.goal)

module _ (first mid new : Engine) (rest : ℕ) (current : Option ℕ) (text : Text) (same : mid.selected ≡ first.selected) (i : IsAt mid new current) (few : first.selected < first.steps)
    (f : (s : Search) → Stands first s → Continued first.machine mid.machine first.selected rest current text s) where
  count : ◌≡◌ {A = ℕ} (suc first.selected) (suc mid.selected)
  count = ap suc (sym same)

  at_mid : (steps : ℕ) (s : Search) → ComesTo steps mid.machine (suc first.selected) current s → Arrives steps new s
  at_mid steps s c = arrives_at mid new current steps s i (subst (λ (n : ℕ). ComesTo steps mid.machine n current s) count c)

  pub advanced : (r : Option Event) → IsTold text r → Turned first new r
  advanced None e = (
    λ s j. let x = f s j in
        at_mid first.steps s (comes_quietly first.machine first.selected rest s x.0 mid.machine current text x.1 first.steps few e),
    let more = i.selected in omega (arith, more, same),
  )
  advanced (Some (Output written)) t = (
    λ budgets h s j.
        let x = f s j in
        let less : first.selected < budgets.steps = subst (λ (n : ℕ). first.selected < n) (sym h.steps) few in
        record {
          next = after_step s x.1.made x.0.behind;
          tells = subst (λ (u : Text). Tells budgets s (Shows (Wrote u)) (after_step s x.1.made x.0.behind)) (sym t.0)
              (tells_text first.machine first.selected rest s x.0 mid.machine current text x.1 budgets less t.1);
          comes = at_mid budgets.steps (after_step s x.1.made x.0.behind) (comes_then first.machine first.selected rest s x.0 mid.machine current text x.1 budgets.steps);
        },
    let more = i.selected in omega (arith, more, same),
  )
  advanced (Some Answer) t = absurd t
  advanced (Some Fail) t = absurd t
  advanced (Some (Ball stored)) t = absurd t
  advanced (Some (Stop cause)) t = absurd t

  pub runs_on : IsRunning first → IsSound mid.machine → mid.steps ≡ first.steps → IsRunning new
  runs_on r sound steps =
      let x = f r.search r.stands in
      let c = at_mid first.steps (after_step r.search x.1.made x.0.behind) (comes_then first.machine first.selected rest r.search x.0 mid.machine current text x.1 first.steps) in
      let kept : IsKept new.machine = subst IsKept (sym i.machine) (kept_where mid.machine sound) in
      record {
        kept = kept;
        search = c.reached;
        stands = c.stands;
        within = let a = i.selected in let b = i.steps in omega (arith, a, b, same, steps);
      }

-- ---- an engine without a branch

pub stands_ended : (new : Engine) (n : ℕ) (s : Search) → HasEnded n new → s.database ≡ database_of new.machine → s.selected ≡ n → s.branches ≡ [] → Stands new s
stands_ended new n s h d e b =
    subst (λ (o : Option ℕ). IsStanding (IsBranch new.machine.atoms) (term_in new.machine.atoms) (engine (database_of new.machine) new.selected (holds new.machine) (now new.machine) o) s) (sym h.current)
    (record {
      database = d;
      selected = e ∙ sym h.selected;
      first = [];
      behind = [];
      branches = b;
      current = refl;
      waiting = subst (λ (rs : Stack Contents). AreWaiting (IsBranch new.machine.atoms) (term_in new.machine.atoms) rs []) (sym h.none_left) refl;
    })

-- the query has stopped
pub stopped : (budgets : Budgets) (new : Engine) (n : ℕ) (cause : Cause) (s last : Search) → HasEnded n new → s.database ≡ database_of new.machine → s.selected ≡ n
    → Tells budgets s (Stops cause) last → last.database ≡ s.database → StopsNext budgets new cause s
stopped budgets new n cause s last h d e t same = record {
  last = last;
  tells = t;
  database = same ∙ d;
  reached = s;
  quiet = at_once;
  stands = stands_ended new n (with_branches [] s) h d e refl;
}

pub runs_stopped : (first new : Engine) → HasEnded first.selected new → IsRunning first → new.steps ≡ first.steps
    → (first_database : (s : Search) → Stands first s → s.database ≡ database_of new.machine) → IsRunning new
runs_stopped first new h run steps d = record {
  kept = h.kept;
  search = with_branches [] run.search;
  stands = stands_ended new first.selected (with_branches [] run.search) h (d run.search run.stands) run.stands.selected refl;
  within = let a = h.selected in let b = run.within in omega (arith, a, b, steps);
}
