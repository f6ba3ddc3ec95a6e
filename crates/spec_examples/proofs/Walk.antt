-- A session walked through step by step, each step with its proof: where no constraint is told, the walk goes on to the end.
use Rattle.std.proofs.Common.{◌≡◌, ℕ, zero, suc, List, [], ◌∷◌, ◌++◌, Bool, true, false, ◌==◌, Option, Some, None, inl, inr, refl, sym, ap, subst}
use Rattle.std.specs.Prelude.{nat_lt, length, map}
use Rattle.std.proofs.lemmas.Bool.Decides.{Decides-eqb, Decides-ltb}
use Rattle.spec_linear.specs.Solution.{Constraint}
use Rattle.spec_numbers.specs.Texts.{Text}
use Rattle.spec_syntax.specs.TextTokens.{VariableName, Variables}
use Rattle.spec_syntax.specs.Trees.{Tree}
use Rattle.spec_text.specs.Readings.{Clause, Ended as TextEnds, Syntax, Reads}
use Rattle.spec_builtins.specs.Built.{indicator_of}
use Rattle.spec_builtins.specs.Errors.{error_ball}
use Rattle.spec_answers.specs.Answer.{answer_lines}
use Rattle.spec_answers.specs.Lines.{or_true, lines_text}
use Rattle.spec_answers.specs.Rows.{no_rows}
use Rattle.spec_answers.specs.Targets.{wanted}
use Rattle.spec_answers.proofs.Plain.{plain_answer}
use Rattle.spec_branch.specs.Branch.{State, Item, Copied, plain_copy, Pending, Branch, read}
use Rattle.spec_branch.specs.Settling.{Settles, Pruned, Clash}
use Rattle.spec_search.specs.Database.{Database, Clause as Stored, initial}
use Rattle.spec_search.specs.Changes.{consult_error, consulted}
use Rattle.spec_search.specs.Replies as reply
use Rattle.spec_search.specs.Replies.{Reply, Place, Made, made}
use Rattle.spec_search.specs.Rows.{reply_of}
use Rattle.spec_search.specs.Control.{clause_child}
use Rattle.spec_search.specs.Steps as step
use Rattle.spec_search.specs.Steps.{Steps, IsSelection, end, takes, Ball, Children}
use Rattle.spec_search.specs.Balls.{handed}
use Rattle.spec_search.specs.Search as looks
use Rattle.spec_search.specs.Search.{Search, Look, look_at, is_selecting, gather}
use Rattle.spec_search.specs.Turns as turn
use Rattle.spec_search.specs.Turns.{Turn, place_of, after_removal, after_step, after_ball, with_branches}
use Rattle.spec_transcript.specs.Causes.{Budgets, Resolutions, Overflow, stop_text}
use Rattle.spec_transcript.specs.declared.Source.{Source}
use Rattle.spec_transcript.specs.declared.Source.TheVariants.{File, Input}
use Rattle.spec_transcript.specs.Purposes.{Purpose, Directive, Initialization, Query, Fact, purpose, once, answer_end, no_line, more_line, ball_line, syntax_line}
use Rattle.spec_transcript.specs.Session as session
use Rattle.spec_transcript.specs.Session.{Asked, Reader, beginning, Asker, ADirective, AQuery, Session, Opening, Reading, Searching, Over, Mark, plain_line, error_line, stop_line, Marks, unmarked, marked, begun, names_from, MayGo, refusal_ball, Step, Runs, none, then, Transcript}
use Rattle.spec_examples.proofs.Read.{At, found, not_found, read_at}
use Rattle.spec_examples.proofs.Settled.{SettledAs, keeps_as, prunes_as, unsettled, settle}

-- no variable is numeric in any of these
abbrev pub AllNone : List (ℕ → Bool) → Type 0
AllNone [] = Unit {0}
AllNone (f ∷ fs) = ((v : ℕ) → f v ≡ false) × AllNone fs

pub parts : (fs gs : List (ℕ → Bool)) → AllNone (fs ++ gs) → AllNone fs × AllNone gs
parts [] gs h = (tt, h)
parts (f ∷ fs) gs h = let r = parts fs gs h.1 in ((h.0, r.0), r.1)

abbrev pub nones : ℕ → List (ℕ → Bool)
nones zero = []
nones (suc n) = (λ v. false) ∷ nones n

pub fill : (n : ℕ) → AllNone (nones n)
fill zero = tt
fill (suc n) = ((λ v. refl), fill n)

-- a call may take all clauses
pub takes_all : (p : Place) (goal : Tree) (cs : List Stored) → IsSelection p goal cs cs
takes_all p goal [] = end
takes_all p goal (c ∷ cs) = takes (takes_all p goal cs)

module _ (budgets : Budgets) (shelf : Text → Option (List ℕ)) (input : List ℕ) where
  -- the next step
  pub data Next (here : Session) : Type 0 where
    next : (numerics : List (ℕ → Bool)) (out : Text) (mark : Mark) (there : Session) → (AllNone numerics → Step budgets shelf input here out mark there) → Next here
    stays : Next here

  abbrev pub sure : (here : Session) (out : Text) (mark : Mark) (there : Session) → Step budgets shelf input here out mark there → Next here
  sure here out mark there s = next [] out mark there (λ n. s)

  -- ---- searches

  module _ (s : Search) (who : Asker) (r : Reader) where
    abbrev pub here : Session
    here = Searching s who r

    abbrev pub goes : (text : Text) (t : Search) → MayGo budgets s → Turn s (turn.Wrote text) t → Next here
    goes text t m h = sure here text plain_line (Searching t who r) (session.turns m h)

    abbrev pub fell : (t : Search) (ball : Copied) → MayGo budgets s → Turn s (turn.Threw ball) t → Next here
    fell t ball m h = sure here (ball_line t.database.operators ball.term) error_line (Reading t.database r) (session.raises m h)

    -- a saved branch is pruned
    abbrev pub handed_on : (items : List Item) (st : State) (p : Pending) (bs : List Branch) → look_at s.branches ≡ looks.Settling items st p bs → Settles items st p (Pruned Clash)
        → (ball : Copied) → p.ball ≡ Some ball → (o : Option (List Branch)) → handed ball items bs ≡ o → Next here
    handed_on items st p bs h k ball e (Some later) g = goes [] (with_branches later s) (inl (ap is_selecting h)) (turn.hands_on h k e g)
    handed_on items st p bs h k ball e None g = fell (with_branches [] s) ball (inl (ap is_selecting h)) (turn.escapes h k e g)

    abbrev pub pruned : (items : List Item) (st : State) (p : Pending) (bs : List Branch) → look_at s.branches ≡ looks.Settling items st p bs → Settles items st p (Pruned Clash)
        → (o : Option Copied) → p.ball ≡ o → Next here
    pruned items st p bs h k None e = goes [] (with_branches bs s) (inl (ap is_selecting h)) (turn.prunes h k e)
    pruned items st p bs h k (Some ball) e = handed_on items st p bs h k ball e (handed ball items bs) refl

    abbrev pub settled : (items : List Item) (st : State) (p : Pending) (bs : List Branch) → look_at s.branches ≡ looks.Settling items st p bs → SettledAs items st p → Next here
    settled items st p bs h (keeps_as b k) =
        let t : Search = record s { database = after_removal p.removes s.database; branches = b ∷ bs } in
        next (st.numeric ∷ []) [] plain_line (Searching t who r) (λ n. session.turns (inl (ap is_selecting h)) (turn.keeps h (k n.0)))
    settled items st p bs h (prunes_as k) = pruned items st p bs h k p.ball refl
    settled items st p bs h unsettled = stays

    -- a goal is selected
    module _ (goal : Tree) (cut : ℕ) (items : List Item) (st : State) (bs : List Branch) (h : look_at s.branches ≡ looks.Selecting goal cut items st bs) (m : MayGo budgets s) where
      abbrev pub at : Place
      at = place_of s st items cut bs

      abbrev pub balled : (ball : Copied) → Steps at (read st goal) (Ball ball) → (o : Option (List Branch)) → handed ball items bs ≡ o → Next here
      balled ball k (Some later) g = goes [] (after_ball s later) m (turn.catches h k g)
      balled ball k None g = fell (after_ball s []) ball m (turn.throws h k g)

      abbrev pub stepped : (n : Made) → Steps at (read st goal) (Children n) → Next here
      stepped n k = goes n.output (after_step s n bs) m (turn.steps h k)

      abbrev pub ball_of : Tree → Copied
      ball_of e = plain_copy (error_ball e (indicator_of (read st goal)))

      abbrev pub by_reply : (a : Reply) → reply_of at (read st goal) ≡ a → Next here
      by_reply (reply.Raises e) k = balled (ball_of e) (step.raises k) (handed (ball_of e) items bs) refl
      by_reply (reply.Throws t) k = balled (plain_copy (read st t)) (step.throws k refl) (handed (plain_copy (read st t)) items bs) refl
      by_reply (reply.WithCopy t f) k = stepped (made at (f (plain_copy (read st t)) ∷ [])) (step.copies k refl)
      by_reply (reply.Overflows pair) k =
          sure here (stop_text (Overflow pair)) stop_line (Reading s.database r)
          (session.overflows pair m (record { goal = goal; cut = cut; items = items; state = st; behind = bs; selects = h; refused = k }))
      by_reply (reply.Makes n) k = stepped n (step.makes k)
      by_reply (reply.Calls cs) k = stepped (made at (map (clause_child at (read st goal)) cs)) (step.calls k (takes_all at (read st goal) cs))
      by_reply a k = stays

    abbrev pub spent : (goal : Tree) (cut : ℕ) (items : List Item) (st : State) (bs : List Branch) → look_at s.branches ≡ looks.Selecting goal cut items st bs
        → (b : Bool) → (s.selected == budgets.steps) ≡ b → Next here
    spent goal cut items st bs h true e = sure here (stop_text (Resolutions budgets.steps)) stop_line (Reading s.database r) (session.runs_out (ap is_selecting h) ((Decides-eqb s.selected budgets.steps).0 e))
    spent goal cut items st bs h false e = stays

    abbrev pub selected : (goal : Tree) (cut : ℕ) (items : List Item) (st : State) (bs : List Branch) → look_at s.branches ≡ looks.Selecting goal cut items st bs
        → (b : Bool) → nat_lt s.selected budgets.steps ≡ b → Next here
    selected goal cut items st bs h true e =
        by_reply goal cut items st bs h (inr ((Decides-ltb s.selected budgets.steps).0 e)) (reply_of (place_of s st items cut bs) (read st goal)) refl
    selected goal cut items st bs h false e = spent goal cut items st bs h (s.selected == budgets.steps) refl

    -- an answer without a row
    abbrev pub plain_text : List VariableName → State → Text
    plain_text names st = lines_text (or_true (answer_lines s.database.operators names st (wanted names st ++ []) no_rows))

    abbrev pub by_look : (l : Look) → look_at s.branches ≡ l → Next here
    by_look looks.Over h = sure here no_line plain_line (Reading s.database r) (session.fails (turn.ends h))
    by_look (looks.Settling items st p bs) h = settled items st p bs h (settle 100 items st p)
    by_look (looks.Moving bs) h = goes [] (with_branches bs s) (inl (ap is_selecting h)) (turn.moves h)
    by_look (looks.Collecting k t st bs) h = goes [] (with_branches (gather k (plain_copy (read st t)) bs) s) (inl (ap is_selecting h)) (turn.collects h refl)
    by_look (looks.Selecting goal cut items st bs) h = selected goal cut items st bs h (nat_lt s.selected budgets.steps) refl
    by_look (looks.Answering st bs) h = stays

  -- an answer of a branch without linear constraints
  abbrev pub answered : (s : Search) (names : List VariableName) (n : ℕ) (r : Reader) (st : State) (bs : List Branch) → look_at s.branches ≡ looks.Answering st bs
      → st.linear ≡ [] → Next (Searching s (AQuery names n) r)
  answered s names zero r st bs h e = stays
  answered s names (suc zero) r st bs h e =
      sure (Searching s (AQuery names 1) r) (lines_text (or_true (answer_lines s.database.operators names st (wanted names st ++ []) no_rows)) ++ answer_end ++ more_line) plain_line
      (Reading s.database r) (session.answers_last (turn.answers h) (plain_answer s.database.operators names st e))
  answered s names (suc (suc n)) r st bs h e =
      sure (Searching s (AQuery names (suc (suc n))) r) (lines_text (or_true (answer_lines s.database.operators names st (wanted names st ++ []) no_rows)) ++ answer_end) plain_line
      (Searching (with_branches bs s) (AQuery names (suc n)) r) (session.answers (turn.answers h) (plain_answer s.database.operators names st e))

  abbrev pub by_linear : (s : Search) (names : List VariableName) (n : ℕ) (r : Reader) (st : State) (bs : List Branch) → look_at s.branches ≡ looks.Answering st bs
      → (l : List Constraint) → st.linear ≡ l → Next (Searching s (AQuery names n) r)
  by_linear s names n r st bs h [] e = answered s names n r st bs h e
  by_linear s names n r st bs h (c ∷ l) e = stays

  abbrev pub by_asker : (s : Search) (who : Asker) (r : Reader) (l : Look) → look_at s.branches ≡ l → Next (Searching s who r)
  by_asker s ADirective r (looks.Answering st bs) h = sure (Searching s ADirective r) [] plain_line (Reading s.database r) (session.succeeds (turn.answers h))
  by_asker s (AQuery names n) r (looks.Answering st bs) h = by_linear s names n r st bs h st.linear refl
  by_asker s who r l h = by_look s who r l h

  -- ---- texts

  module _ (db : Database) (r : Reader) where
    abbrev pub by_error : (t term : Tree) (vs : Variables) (to : ℕ) → Reads db.operators r.bytes r.at (Clause term vs to) → purpose r.source term ≡ Fact t
        → (o : Option Tree) → consult_error t ≡ o → Next (Reading db r)
    by_error t term vs to h e None g = sure (Reading db r) [] plain_line (Reading (consulted t db) (record r { at = to })) (session.adds (record { term = term; reads = h; purpose_is = e }) g)
    by_error t term vs to h e (Some b) g =
        sure (Reading db r) (ball_line db.operators (refusal_ball b)) error_line (Reading db (record r { at = to })) (session.refuses (record { term = term; reads = h; purpose_is = e }) g)

    abbrev pub by_purpose : (term : Tree) (vs : Variables) (to : ℕ) → Reads db.operators r.bytes r.at (Clause term vs to) → (w : Purpose) → purpose r.source term ≡ w → Next (Reading db r)
    by_purpose term vs to h (Directive g) e =
        sure (Reading db r) [] plain_line (Searching (begun db (once g) 0 vs) ADirective (record r { at = to })) (session.directs 0 (record { term = term; reads = h; purpose_is = e }))
    by_purpose term vs to h (Initialization g) e =
        sure (Reading db r) [] plain_line (Reading db (record r { at = to; later = r.later ++ record { goal = g; variables = vs } ∷ [] }))
        (session.waits (record { term = term; reads = h; purpose_is = e }))
    by_purpose term vs to h (Query g) e =
        sure (Reading db r) [] plain_line (Searching (begun db g 0 vs) (AQuery (names_from 0 vs) budgets.answers) (record r { at = to }))
        (session.asks 0 (record { term = term; reads = h; purpose_is = e }))
    by_purpose term vs to h (Fact t) e = by_error t term vs to h e (consult_error t) refl

    abbrev pub by_source : Reads db.operators r.bytes r.at TextEnds → r.later ≡ [] → (x : Source) → r.source ≡ x → Next (Reading db r)
    by_source h e File g = sure (Reading db r) [] plain_line (Opening db r.files) (session.file_ends h g e)
    by_source h e Input g = sure (Reading db r) [] plain_line (Over db) (session.input_ends h g e)

    abbrev pub by_later : Reads db.operators r.bytes r.at TextEnds → (l : List Asked) → r.later ≡ l → Next (Reading db r)
    by_later h [] e = by_source h e r.source refl
    by_later h (a ∷ more) e =
        sure (Reading db r) [] plain_line (Searching (begun db (once a.goal) 0 a.variables) ADirective (record r { later = more })) (session.initializes 0 h e)

    abbrev pub by_reading : At r.bytes db.operators r.at → Next (Reading db r)
    by_reading (found (Clause term vs to) h) = by_purpose term vs to h (purpose r.source term) refl
    by_reading (found TextEnds h) = by_later h r.later refl
    by_reading (found (Syntax at to) h) = sure (Reading db r) (syntax_line at) error_line (Reading db (record r { at = to })) (session.syntax h)
    by_reading not_found = stays

  abbrev pub by_shelf : (db : Database) (name : Text) (names : List Text) (o : Option (List ℕ)) → shelf name ≡ o → Next (Opening db (name ∷ names))
  by_shelf db name names (Some bytes) e = sure (Opening db (name ∷ names)) [] plain_line (Reading db (beginning File bytes names)) (session.opens_file e)
  by_shelf db name names None e = stays

  abbrev pub advance : (a : Session) → Next a
  advance (Opening db []) = sure (Opening db []) [] plain_line (Reading db (beginning Input input [])) session.opens_input
  advance (Opening db (name ∷ names)) = by_shelf db name names (shelf name) refl
  advance (Reading db r) = by_reading db r (read_at r.bytes db.operators 200 r.at)
  advance (Searching s who r) = by_asker s who r (look_at s.branches) refl
  advance (Over db) = stays

  -- ---- the walk

  -- how far it has come
  pub record Run (start : Session) : Type 0 where
    pub numerics : List (ℕ → Bool)
    pub text : Text
    pub marks : Marks
    pub now : Session
    pub runs : AllNone numerics → Runs budgets shelf input start text marks now

  abbrev pub begin : (start : Session) → Run start
  begin start = record { numerics = []; text = []; marks = unmarked; now = start; runs = λ n. none }

  abbrev pub after : (start : Session) (run : Run start) → (Run start → Run start) → Next run.now → Run start
  after start run go (next numerics out mark there step) = go (record {
    numerics = numerics ++ run.numerics;
    text = run.text ++ out;
    marks = marked run.marks mark;
    now = there;
    runs = λ n. let p = parts numerics run.numerics n in then (run.runs p.1) (step p.0);
  })
  after start run go stays = run

  abbrev pub drive : (start : Session) → ℕ → Run start → Run start
  drive start zero run = run
  drive start (suc n) run = after start run (drive start n) (advance run.now)

  -- ---- the whole transcript

  -- further by one step that is given
  abbrev pub further : (start : Session) (run : Run start) (out : Text) (mark : Mark) (there : Session) → Step budgets shelf input run.now out mark there → Run start
  further start run out mark there step = record {
    numerics = run.numerics;
    text = run.text ++ out;
    marks = marked run.marks mark;
    now = there;
    runs = λ n. then (run.runs n) step;
  }

  -- further by as many steps as the walk finds
  abbrev pub onward : (start : Session) (run : Run start) → Run start
  onward start run = drive start 1000 run

  abbrev pub is_over : Session → Bool
  is_over (Over db) = true
  is_over a = false

  abbrev pub walk : (files : List Text) → Run (Opening initial files)
  walk files = onward (Opening initial files) (begin (Opening initial files))

  ended : (files : List Text) (text : Text) (marks : Marks) (a : Session) → is_over a ≡ true → Runs budgets shelf input (Opening initial files) text marks a
      → Transcript budgets shelf input files text marks
  ended files text marks (Opening db names) e runs = cc
  ended files text marks (Reading db r) e runs = cc
  ended files text marks (Searching s who r) e runs = cc
  ended files text marks (Over db) e runs = record { last = db; runs = runs }

  -- what a walk that came to the end has written
  pub finished : (files : List Text) (run : Run (Opening initial files)) → is_over run.now ≡ true → run.numerics ≡ nones (length run.numerics)
      → Transcript budgets shelf input files run.text run.marks
  finished files run e n = ended files run.text run.marks run.now e (run.runs (subst AllNone (sym n) (fill (length run.numerics))))

  pub derived : (files : List Text) → is_over (walk files).now ≡ true → (walk files).numerics ≡ nones (length (walk files).numerics)
      → Transcript budgets shelf input files (walk files).text (walk files).marks
  derived files e n = finished files (walk files) e n
