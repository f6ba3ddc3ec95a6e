-- What is told of a search, as what its query writes.
use Rattle.std.proofs.Common.{◌≡◌, ◌<◌, ◌-◌, ◌∙◌, ℕ, suc, List, [], ◌++◌, Option, Result, Ok, Err, IfOk, OnOk, IfErr, sym, ap, subst, arith}
use Rattle.cq_outside.specs.Bytes.{Adds, Appends, Begins}
use Rattle.spec_numbers.specs.Texts.{Text}
use Rattle.spec_syntax.specs.Operators.{Ops}
use Rattle.spec_syntax.specs.TextTokens.{VariableName}
use Rattle.spec_answers.specs.Answer.{AnswerForm}
use Rattle.spec_branch.specs.Branch.{State, Copied}
use Rattle.spec_search.specs.Database.{Database}
use Rattle.spec_search.specs.Search.{Search}
use Rattle.spec_search.specs.Turns as turn
use Rattle.spec_transcript.specs.Causes.{Budgets, Cause, stop_text}
use Rattle.spec_engine.specs.Coming.{Shows, Stops}
use Rattle.spec_transcript.specs.Purposes.{answer_end, more_line, no_line, ball_line}
use Rattle.spec_transcript.specs.Session.{Asker, ADirective, AQuery, Session, Reading, Searching, Marks, unmarked, Reader}
use Rattle.spec_engine.specs.Parts.{an_error, a_stop, StopsAnswer}
use Rattle.spec_engine.proofs.Told as told
use Rattle.spec_command.specs.Outside.{Outside, given}
use Rattle.cq_session.specs.Sentences.{Program}
use Rattle.cq_session.specs.Events.{TellsNext, GoesOn, AnswersNext}
use Rattle.cq_session.specs.Progress.{RunsIn, Advanced, Broken, marks_of}
use Rattle.cq_session.specs.Searches.{Answers, HasCome}
use Rattle.cq_session.specs.declared.transcript.halt.Halt.{Halt}
use Rattle.cq_session.specs.declared.transcript.halt.Halt.TheVariants.{Write, Memory}
use Rattle.cq_session.specs.declared.transcript.halt.Lines.{Lines}
use Rattle.cq_session.proofs.Steps.{at_start, advanced_more, advanced_both, advanced_quietly, memory_here, broken_more, write_fails, both_unmarked}

-- at the beginning
pub comes_at_once : (b : Budgets) (Stands : Search → Type 0) (s : Search) (who : Asker) (held : Option (List ℕ)) → Stands s → HasCome b Stands s who who held held
comes_at_once b Stands s who held stands = record { reached = s; stands = stands; advanced = λ o r. at_start b o (Searching s who r) held }

-- ---- a search goes on

module _ (b : Budgets) (Before Stands : Search → Type 0) (p q : Program) (s : Search) (who now_who : Asker) (held mid : Option (List ℕ)) (h : HasCome b Before s who now_who held mid) where
  -- behind output
  pub comes_writing : (text : Text) (now : Option (List ℕ)) → GoesOn b Stands p q h.reached (Shows (turn.Wrote text)) → Appends mid now text → HasCome b Stands s who now_who held now
  comes_writing text now e written = record {
    reached = e.reached;
    stands = e.stands;
    advanced = λ o r.
        advanced_quietly b o (Searching s who r) (Searching e.after now_who r) unmarked held now
        (advanced_more b o (Searching s who r) (Searching h.reached now_who r) unmarked held mid (h.advanced o r) (Searching e.after now_who r) unmarked text now
        (told.output b (given o.files) o.input h.reached e.after now_who r text e.tells) written)
        (Searching e.reached now_who r) (told.quiet b (given o.files) o.input e.after e.reached now_who r e.quiet);
  }

  -- where the output could not be written whole
  pub breaks_writing : (text : Text) (now : Option (List ℕ)) → GoesOn b Stands p q h.reached (Shows (turn.Wrote text)) → Adds mid now (λ part. Begins part text)
      → (o : Outside) (r : Reader) → Broken b o (Searching s who r) Write held now
  breaks_writing text now e added o r =
      write_fails b o (Searching s who r) (Searching h.reached now_who r) unmarked held mid (h.advanced o r) (Searching e.after now_who r) unmarked text now
      (told.output b (given o.files) o.input h.reached e.after now_who r text e.tells) added

-- ---- a search is over

-- the last text of a query or a directive, for each search that has come there
abbrev pub Ends : Budgets → (Search → Type 0) → Asker → Database → Text → Marks → Type 0
Ends b Stands who db u k = (s : Search) → Stands s → (o : Outside) (r : Reader) → RunsIn b o (Searching s who r) u k (Reading db r)

module _ (b : Budgets) (Stands : Search → Type 0) (p q : Program) where
  module _ (who : Asker) where
    pub ends_failing : ((s : Search) → Stands s → TellsNext b p q s (Shows turn.Ended)) → Ends b Stands who q.database no_line unmarked
    ends_failing e s stands o r =
        let t = e s stands in
        subst (λ db. RunsIn b o (Searching s who r) no_line unmarked (Reading db r)) (sym (ap (λ x. x.database) t.program))
        (told.failure b (given o.files) o.input s t.after who r t.tells)

    pub ends_raising : (line : Text)
        → ((s : Search) → Stands s → (ball : Copied) × (t : TellsNext b p q s (Shows (turn.Threw ball))) × (line ≡ ball_line t.after.database.operators ball.term))
        → Ends b Stands who q.database line an_error
    ends_raising line e s stands o r =
        let (ball, t, is) = e s stands in
        subst (λ u. RunsIn b o (Searching s who r) u an_error (Reading q.database r)) (sym is)
        (subst (λ db. RunsIn b o (Searching s who r) (ball_line t.after.database.operators ball.term) an_error (Reading db r)) (sym (ap (λ x. x.database) t.program))
        (told.ball b (given o.files) o.input s t.after who r ball t.tells))

    pub ends_stopping : (line : Text) → ((s : Search) → Stands s → (cause : Cause) × TellsNext b p q s (Stops cause) × (line ≡ stop_text cause))
        → Ends b Stands who q.database line a_stop
    ends_stopping line e s stands o r =
        let (cause, t, is) = e s stands in
        subst (λ u. RunsIn b o (Searching s who r) u a_stop (Reading q.database r)) (sym is)
        (subst (λ db. RunsIn b o (Searching s who r) (stop_text cause) a_stop (Reading db r)) (sym (ap (λ x. x.database) t.program))
        (told.stop b (given o.files) o.input s t.after who r cause t.tells))

  pub ends_succeeding : (Now : Search → Type 0) (IsAnswer : State → Ops → Type 0) → ((s : Search) → Stands s → AnswersNext b Now IsAnswer p q s)
      → Ends b Stands ADirective q.database [] unmarked
  ends_succeeding Now IsAnswer e s stands o r =
      let a = e s stands in
      subst (λ db. RunsIn b o (Searching s ADirective r) [] unmarked (Reading db r)) (sym (ap (λ x. x.database) a.next.program))
      (told.success b (given o.files) o.input s a.next.after r a.state a.ops a.next.tells)

module _ (b : Budgets) (Stood Stands : Search → Type 0) (who now_who : Asker) (held mid now : Option (List ℕ))
    (came : (s : Search) → Stood s → HasCome b Stands s who now_who held mid) (db : Database) where
  module _ (u : Text) (k : Marks) (ends : Ends b Stands now_who db u k) where
    pub ended : (s : Search) → Stood s → (o : Outside) (r : Reader) → Appends mid now u → Advanced b o (Searching s who r) k (Reading db r) held now
    ended s stood o r written =
        let h = came s stood in
        subst (λ m. Advanced b o (Searching s who r) m (Reading db r) held now) (both_unmarked k)
        (advanced_more b o (Searching s who r) (Searching h.reached now_who r) unmarked held mid (h.advanced o r) (Reading db r) k u now (ends h.reached h.stands o r) written)

    -- what the last line's writer answers
    pub finished : (lines : Lines) (result : Result Lines Halt) → marks_of lines ≡ k → IfOk result (λ l. l ≡ lines) → OnOk result (Appends mid now u)
        → IfOk result (λ l. (s : Search) → Stood s → (o : Outside) (r : Reader) → Advanced b o (Searching s who r) (marks_of l) (Reading db r) held now)
    finished lines (Ok l) marks same written = λ s stood o r.
        subst (λ m. Advanced b o (Searching s who r) m (Reading db r) held now) (sym (ap marks_of same ∙ marks)) (ended s stood o r written)
    finished lines (Err halt) marks same written = tt

    pub unfinished : (result : Result Lines Halt) → IfErr result (λ halt. (halt ≡ Write) × Adds mid now (λ part. Begins part u))
        → IfErr result (λ halt. (s : Search) → Stood s → (o : Outside) (r : Reader) → Broken b o (Searching s who r) halt held now)
    unfinished (Ok l) part = tt
    unfinished (Err halt) part = λ s stood o r.
        let h = came s stood in
        subst (λ x. Broken b o (Searching s who r) x held now) (sym part.0)
        (write_fails b o (Searching s who r) (Searching h.reached now_who r) unmarked held mid (h.advanced o r) (Reading db r) k u now (ends h.reached h.stands o r) part.1)

-- memory was wanting
pub wants_memory : (b : Budgets) (Stands : Search → Type 0) (s : Search) (who now_who : Asker) (held now : Option (List ℕ)) → HasCome b Stands s who now_who held now
    → (o : Outside) (r : Reader) → Broken b o (Searching s who r) Memory held now
wants_memory b Stands s who now_who held now h o r = memory_here b o (Searching s who r) (Searching h.reached now_who r) unmarked held now (h.advanced o r)

-- ---- answers

module _ (b : Budgets) (IsAnswer : State → Ops → Type 0) (names : List VariableName) (left : ℕ) where
  -- what the answer of each search writes, up to the session behind it
  abbrev Writes : Text → Marks → (Search → Reader → Session) → Type 0
  Writes u k to = (s t : Search) → Answers b IsAnswer s t → (o : Outside) (r : Reader) → RunsIn b o (Searching s (AQuery names left) r) u k (to t r)

  pub answer_written : (held now : Option (List ℕ)) (u : Text) (k : Marks) (to : Search → Reader → Session) → Writes u k to → Appends held now u
      → (s t : Search) → Answers b IsAnswer s t → (o : Outside) (r : Reader) → Advanced b o (Searching s (AQuery names left) r) k (to t r) held now
  answer_written held now u k to writes written s t a o r =
      subst (λ m. Advanced b o (Searching s (AQuery names left) r) m (to t r) held now) (both_unmarked k)
      (advanced_more b o (Searching s (AQuery names left) r) (Searching s (AQuery names left) r) unmarked held held
      (at_start b o (Searching s (AQuery names left) r) held) (to t r) k u now (writes s t a o r) written)

  pub answer_broken : (held now : Option (List ℕ)) (u : Text) (k : Marks) (to : Search → Reader → Session) → Writes u k to → Adds held now (λ part. Begins part u)
      → (s t : Search) → Answers b IsAnswer s t → (o : Outside) (r : Reader) → Broken b o (Searching s (AQuery names left) r) Write held now
  answer_broken held now u k to writes added s t a o r =
      write_fails b o (Searching s (AQuery names left) r) (Searching s (AQuery names left) r) unmarked held held
      (at_start b o (Searching s (AQuery names left) r) held) (to t r) k u now (writes s t a o r) added

  pub stop_writes : (line : Text) → ((st : State) (ops : Ops) → IsAnswer st ops → (cause : Cause) × StopsAnswer b names st cause × (line ≡ stop_text cause))
      → Writes line a_stop (λ t r. Reading t.database r)
  stop_writes line e s t a o r =
      let (cause, stops, is) = e a.state a.ops a.answers in
      subst (λ u. RunsIn b o (Searching s (AQuery names left) r) u a_stop (Reading t.database r)) (sym is)
      (told.stop_at_answer b (given o.files) o.input s t r a.state a.ops names left cause a.tells stops)

  module _ (text : Text) (e : (st : State) (ops : Ops) → IsAnswer st ops → AnswerForm ops names st text) (u : Text) where
    pub last_writes : u ≡ text ++ answer_end ++ more_line → left ≡ 1 → Writes u unmarked (λ t r. Reading t.database r)
    last_writes is one s t a o r =
        subst (λ x. RunsIn b o (Searching s (AQuery names left) r) x unmarked (Reading t.database r)) (sym is)
        (subst (λ n. RunsIn b o (Searching s (AQuery names n) r) (text ++ answer_end ++ more_line) unmarked (Reading t.database r)) (sym one)
        (told.last b (given o.files) o.input s t r a.state a.ops names text a.tells (e a.state a.ops a.answers)))

    pub next_writes : u ≡ text ++ answer_end → 1 < left → Writes u unmarked (λ t r. Searching t (AQuery names (left - 1)) r)
    next_writes is more s t a o r = go (left - 2) (omega (arith, more)) (omega (arith, more))
      where
        go : (n : ℕ) → left ≡ suc (suc n) → left - 1 ≡ suc n → RunsIn b o (Searching s (AQuery names left) r) u unmarked (Searching t (AQuery names (left - 1)) r)
        go n two one =
            subst (λ x. RunsIn b o (Searching s (AQuery names left) r) x unmarked (Searching t (AQuery names (left - 1)) r)) (sym is)
            (subst (λ m. RunsIn b o (Searching s (AQuery names m) r) (text ++ answer_end) unmarked (Searching t (AQuery names (left - 1)) r)) (sym two)
            (subst (λ m. RunsIn b o (Searching s (AQuery names (suc (suc n))) r) (text ++ answer_end) unmarked (Searching t (AQuery names m) r)) (sym one)
            (told.answer b (given o.files) o.input s t r a.state a.ops names text n a.tells (e a.state a.ops a.answers))))

-- ---- a search behind an answer

module _ (b : Budgets) (Before Stands : Search → Type 0) (IsAnswer : State → Ops → Type 0) (p q : Program) (s : Search) (who : Asker) (names : List VariableName) (left : ℕ)
    (held mid now : Option (List ℕ)) (h : HasCome b Before s who (AQuery names left) held mid) (e : AnswersNext b Stands IsAnswer p q h.reached) where
  pub answers_there : Answers b IsAnswer h.reached e.next.after
  answers_there = record { state = e.state; ops = e.ops; answers = e.answers; tells = e.next.tells }

  pub comes_answering : (Later : Search → Type 0) → ((t : Search) → Stands t → Later t)
      → ((s t : Search) → Answers b IsAnswer s t → (o : Outside) (r : Reader)
      → Advanced b o (Searching s (AQuery names left) r) unmarked (Searching t (AQuery names (left - 1)) r) mid now)
      → HasCome b Later s who (AQuery names (left - 1)) held now
  comes_answering Later later whole = record {
    reached = e.next.after;
    stands = later e.next.after e.stands;
    advanced = λ o r.
        advanced_both b o (Searching s who r) (Searching h.reached (AQuery names left) r) unmarked held mid (h.advanced o r) (Searching e.next.after (AQuery names (left - 1)) r)
        unmarked now (whole h.reached e.next.after answers_there o r);
  }

  pub ends_answering : (k : Marks)
      → ((s t : Search) → Answers b IsAnswer s t → (o : Outside) (r : Reader) → Advanced b o (Searching s (AQuery names left) r) k (Reading t.database r) mid now)
      → (o : Outside) (r : Reader) → Advanced b o (Searching s who r) k (Reading q.database r) held now
  ends_answering k whole o r =
      subst (λ db. Advanced b o (Searching s who r) k (Reading db r) held now) (sym (ap (λ x. x.database) e.next.program))
      (subst (λ m. Advanced b o (Searching s who r) m (Reading e.next.after.database r) held now) (both_unmarked k)
      (advanced_both b o (Searching s who r) (Searching h.reached (AQuery names left) r) unmarked held mid (h.advanced o r) (Reading e.next.after.database r) k now
      (whole h.reached e.next.after answers_there o r)))

  pub breaks_answering : (halt : Halt)
      → ((s t : Search) → Answers b IsAnswer s t → (o : Outside) (r : Reader) → Broken b o (Searching s (AQuery names left) r) halt mid now)
      → (o : Outside) (r : Reader) → Broken b o (Searching s who r) halt held now
  breaks_answering halt part o r =
      broken_more b o (Searching s who r) (Searching h.reached (AQuery names left) r) unmarked held mid (h.advanced o r) halt now (part h.reached e.next.after answers_there o r)
