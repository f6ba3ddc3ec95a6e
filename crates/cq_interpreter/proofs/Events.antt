-- What an engine tells is what its interpreter tells.
use Rattle.std.proofs.Common.{◌≡◌, ℕ, ◌<◌, ◌++◌, List, codes, length, map, refl, sym, ap, ◌∙◌, subst, arith}
use Rattle.std.specs.Prelude.{All}
use Rattle.std.proofs.lemmas.List.Elements.{All-weaker}
use Rattle.spec_linear.specs.Echelon.{AreDistinct}
use Rattle.spec_terms.specs.VariableName.{VariableName}
use Rattle.spec_search.specs.Database.{Database}
use Rattle.spec_search.specs.Search.{Search}
use Rattle.spec_transcript.specs.Causes.{Budgets}
use Rattle.spec_engine.specs.Coming.{Told}
use Rattle.spec_transcript.specs.Purposes.{ball_line}
use Rattle.spec_numbers.specs.Texts.{Text}
use Rattle.spec_syntax.specs.Operators.{Ops}
use Rattle.spec_text.proofs.RenumberedNames.{written_same}
use Rattle.spec_syntax.specs.Trees.{Tree}
use Rattle.spec_terms.specs.Variables.{renamed_from}
use Rattle.spec_text.specs.declared.writing.Style.TheVariants.{Quoted}
use Rattle.cq_machine.specs.Machines.{database_of}
use Rattle.cq_engine.specs.Fronts.{as_cause}
use Rattle.cq_engine.specs.Events as engine
use Rattle.cq_engine.specs.Events.{IsRunning, HasBudgets, Stands, Gives, GivesNext, HasCounted}
use Rattle.cq_engine.specs.declared.events.engine.Engine.{Engine}
use Rattle.cq_engine.specs.declared.events.event.Event as events
use Rattle.cq_engine.specs.declared.events.event.Event.TheVariants as told
use Rattle.cq_session.specs.Events.{TellsNext, IsEvent, TakesFrom}
use Rattle.cq_session.specs.declared.transcript.interpreter.Event.{Event}
use Rattle.cq_session.specs.declared.transcript.interpreter.Event.TheVariants as event
use Rattle.cq_interpreter.specs.Counted.{AllCount}
use Rattle.cq_interpreter.specs.Numbered.{AreNumbered}
use Rattle.cq_interpreter.specs.Told.{HasBall, IsTold}
use Rattle.cq_interpreter.specs.Toplevels.{images, program_of, budgets_of, left_of, IsAsking, HasAnswered}
use Rattle.cq_interpreter.specs.declared.toplevel.Toplevel.{Toplevel}
use Rattle.cq_interpreter.proofs.Counting.{told_counts, quietly_counts, answer_counts}
use Rattle.cq_interpreter.proofs.Naming.{all_below, distinct}

-- the line of a ball says nothing of the numbers of its variables
line_of_renamed : (ops : Ops) (t : Tree) → ball_line ops (renamed_from 0 t) ≡ ball_line ops t
line_of_renamed ops t = ap (λ (x : Text). codes "error: " ++ x ++ codes "\n") (written_same Quoted ops 1200 t)

pub its_budgets : (t : Toplevel) (s : Search) → IsAsking t s → HasBudgets (budgets_of t) t.engine
its_budgets t s asking = record { steps = sym asking.steps; pivots = refl }

-- from one interpreter to another with the same names, whose engine still runs, with the goals that waited
module _ (old new : Toplevel) (names : new.names.items ≡ old.names.items) (running : IsRunning new.engine)
    (steps : new.engine.steps ≡ new.steps)
    (goals : (program_of new).later ≡ (program_of old).later) where
  -- its program with the database of a search for which the engine stands
  program_at : (s : Search) → Stands new.engine s → program_of new ≡ record (program_of old) { database = s.database }
  program_at s j = λ i. record { database = sym j.database i; later = goals i }

  asks_on : (s r : Search) → IsAsking old s → ((n : ℕ) → AllCount n s.branches → AllCount n r.branches) → Stands new.engine r → IsAsking new r
  asks_on s r asking keeps j = record {
    running = running;
    stands = j;
    steps = steps;
    variables = asking.variables;
    names = subst (λ (vs : List VariableName). AreNumbered 0 vs asking.variables) (sym names) asking.names;
    counted = keeps asking.variables asking.counted;
  }

  abbrev tells_at : (s : Search) (what : Told) → engine.TellsNext (budgets_of old) new.engine what s → TellsNext (budgets_of old) (program_of old) (program_of new) s what
  tells_at s what t = record { after = t.next; tells = t.tells; program = program_at t.next t.stands }

  has_answered : (s : Search) → IsAsking old s → (a : engine.AnswersNext (budgets_of old) new.engine s) → HasAnswered new a.state (database_of new.engine.machine).operators
  has_answered s asking a =
      let above = answer_counts asking.variables (budgets_of old) s a.tells.next a.state (database_of new.engine.machine).operators a.tells.tells asking.counted in
      let fresh = a.is_state.ready.stands.fresh in
      record {
        ready = a.is_state.ready;
        operators = refl;
        live = subst (All (λ (n : VariableName). n.number < length (images new))) (sym names)
            (All-weaker (λ (n : VariableName). n.number < asking.variables) (λ (n : VariableName). n.number < length (images new)) (λ n below. omega (arith, below, above, fresh))
            old.names.items (all_below 0 asking.variables old.names.items asking.names));
        distinct = subst (λ (vs : List VariableName). AreDistinct (map (λ (n : VariableName). n.number) vs)) (sym names) (distinct 0 asking.variables old.names.items asking.names);
      }

  pub is_event : (s : Search) → IsAsking old s → (e : events.Event) → Gives (budgets_of old) new.engine e s → (f : Event) → IsTold new.engine.machine e f
      → IsEvent (budgets_of old) (IsAsking new) (HasAnswered new) (program_of old) (program_of new) s f
  is_event s asking (told.Output text) g f t =
      subst (IsEvent (budgets_of old) (IsAsking new) (HasAnswered new) (program_of old) (program_of new) s) (sym t)
      (record {
        after = g.next;
        tells = g.tells;
        reached = g.comes.reached;
        quiet = g.comes.quiet;
        program = program_at g.comes.reached g.comes.stands;
        stands = asks_on s g.comes.reached asking (λ n h. quietly_counts n g.comes.quiet (told_counts n (budgets_of old) s g.next _ g.tells h)) g.comes.stands;
      })
  is_event s asking told.Answer g f t =
      subst (IsEvent (budgets_of old) (IsAsking new) (HasAnswered new) (program_of old) (program_of new) s) (sym t)
      (record {
        state = g.state;
        ops = (database_of new.engine.machine).operators;
        answers = has_answered s asking g;
        next = tells_at s _ g.tells;
        stands = asks_on s g.tells.next asking (λ n h. told_counts n (budgets_of old) s g.tells.next _ g.tells.tells h) g.tells.stands;
      })
  is_event s asking told.Fail g f t =
      subst (IsEvent (budgets_of old) (IsAsking new) (HasAnswered new) (program_of old) (program_of new) s) (sym t) (tells_at s _ g)
  is_event s asking (told.Ball stored) g (event.Ball line) t =
      let m = new.engine.machine in (
        g.ball,
        tells_at s _ g.tells,
        t ∙ ap (ball_line (database_of m).operators) g.is_stored.renamed ∙ line_of_renamed (database_of m).operators g.ball.term
            ∙ ap (λ (d : Database). ball_line d.operators g.ball.term) (sym g.tells.stands.database),
      )
  is_event s asking (told.Ball stored) g (event.Wrote text) t = absurd t
  is_event s asking (told.Ball stored) g event.Answer t = absurd t
  is_event s asking (told.Ball stored) g event.Fail t = absurd t
  is_event s asking (told.Ball stored) g (event.Stop line) t = absurd t
  is_event s asking (told.Stop cause) g (event.Stop line) t =
      (as_cause cause, record { after = g.last; tells = g.tells; program = λ i. record { database = sym g.database i; later = goals i } }, t)
  is_event s asking (told.Stop cause) g (event.Wrote text) t = absurd t
  is_event s asking (told.Stop cause) g event.Answer t = absurd t
  is_event s asking (told.Stop cause) g event.Fail t = absurd t
  is_event s asking (told.Stop cause) g (event.Ball line) t = absurd t

  pub takes : (e : events.Event) → HasCounted old.engine new.engine e → new.engine.steps ≡ old.engine.steps → (f : Event) → IsTold new.engine.machine e f
      → TakesFrom (left_of old) (left_of new) f
  takes (told.Output text) h same f t = (let within = running.within in subst (TakesFrom (left_of old) (left_of new)) (sym t) (omega (arith, h, same, within)))
  takes told.Answer h same f t = subst (TakesFrom (left_of old) (left_of new)) (sym t) (omega (arith, h, same))
  takes told.Fail h same f t = subst (TakesFrom (left_of old) (left_of new)) (sym t) tt
  takes (told.Ball stored) h same (event.Ball line) t = tt
  takes (told.Ball stored) h same (event.Wrote text) t = absurd t
  takes (told.Ball stored) h same event.Answer t = absurd t
  takes (told.Ball stored) h same event.Fail t = absurd t
  takes (told.Ball stored) h same (event.Stop line) t = absurd t
  takes (told.Stop cause) h same (event.Stop line) t = tt
  takes (told.Stop cause) h same (event.Wrote text) t = absurd t
  takes (told.Stop cause) h same event.Answer t = absurd t
  takes (told.Stop cause) h same event.Fail t = absurd t
  takes (told.Stop cause) h same (event.Ball line) t = absurd t

-- the names of a ball that is told have texts
pub ball_there : (b : Budgets) (e : Engine) (s : Search) (what : events.Event) → Gives b e what s → HasBall e.machine what
ball_there b e s (told.Ball stored) g = g.counted.below
ball_there b e s told.Answer g = tt
ball_there b e s (told.Output text) g = tt
ball_there b e s told.Fail g = tt
ball_there b e s (told.Stop cause) g = tt
