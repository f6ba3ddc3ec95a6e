-- Clauses and errors of a text, as steps of a session.
use Rattle.std.proofs.Common.{◌≡◌, ◌⊎◌, ◌<◌, ◌≤◌, ◌∙◌, ℕ, List, [], ◌∷◌, ◌++◌, length, Bool, true, false, if◌then◌else◌, Option, Some, None, inl, inr, refl, sym, ap, subst}
use Rattle.std.specs.Prelude.{bytes_eq, codes}
use Rattle.cq_outside.specs.Bytes.{Adds, Appends, Begins}
use Rattle.cq_read.specs.Inputs.{Input}
use Rattle.spec_numbers.specs.Texts.{Text}
use Rattle.spec_text.specs.Decided.{Decided, IsClosed}
use Rattle.spec_text.specs.Readings.{Read, Reads, Clause, Ended, Syntax}
use Rattle.spec_text.proofs.Decides.{decided_when_closed}
use Rattle.spec_terms.specs.Term.{Var, Number, Name, Compound, one, more}
use Rattle.spec_syntax.specs.TextTokens.{VariableName, Variables}
use Rattle.spec_syntax.specs.Trees.{Tree}
use Rattle.spec_search.specs.Changes.{consult_error, consulted}
use Rattle.spec_transcript.specs.Causes.{Budgets}
use Rattle.spec_transcript.specs.Purposes as purposes
use Rattle.spec_transcript.specs.Purposes.{Purpose, purpose, once, ball_line, syntax_line}
use Rattle.spec_transcript.specs.Session as session
use Rattle.spec_transcript.specs.Session.{Asked, ADirective, AQuery, Session, Reading, Searching, Marks, unmarked, plain_line, error_line, Reader, Step, begun, names_from, refusal_ball}
use Rattle.spec_engine.specs.Parts.{both, an_error}
use Rattle.spec_engine.proofs.Stand.{settled}
use Rattle.spec_command.specs.Outside.{Outside, given}
use Rattle.cq_session.specs.declared.transcript.halt.Halt.{Halt}
use Rattle.cq_session.specs.declared.transcript.halt.Halt.TheVariants.{Write}
use Rattle.spec_transcript.specs.declared.Source.{Source}
use Rattle.spec_transcript.specs.declared.Source.TheVariants as source
use Rattle.cq_session.specs.Sentences.{Program, IsSettled, IsFor}
use Rattle.cq_session.specs.Progress.{RunsIn, Advanced, Broken}
use Rattle.cq_session.specs.Texts.{IsAt, StandsAt, StopsShort}
use Rattle.cq_session.proofs.Steps.{one_step, at_start, advanced_more, advanced_both, advanced_quietly, broken_more, write_fails, both_unmarked}

-- ---- what stands there

-- the end of a text is no more decided by bytes than any of its continuations
pub ends_finished : (p : Program) (input : Input) → input.place ≤ length input.bytes → IsSettled p.database.operators input Ended → input.finished ≡ true
ends_finished p input fits h = elim h.settled [ inl f ↦ f | inr d ↦ absurd (closed d) ]
  where
    closed : Decided p.database.operators input.bytes input.place → ⊥
    closed d = (decided_when_closed p.database.operators input.bytes input.place Ended fits h.reads).0 d

-- what is decided is read before the end of the bytes, where more may come
pub goes_short : (p : Program) (old new : Input) (r : Read) → old.place ≤ length old.bytes → IsSettled p.database.operators old r
    → (IsClosed r (length old.bytes) → new.place < length old.bytes) → new.bytes ≡ old.bytes → new.finished ≡ old.finished → StopsShort old → StopsShort new
goes_short p old new r fits h closed bytes finished short = λ unfinished. inr (subst (λ l. new.place < length l) (sym bytes) (closed (before unfinished h.settled)))
  where
    before : new.finished ≡ false → (old.finished ≡ true) ⊎ Decided p.database.operators old.bytes old.place → IsClosed r (length old.bytes)
    before unfinished (inl f) = let no : true ≡ false = sym f ∙ sym finished ∙ unfinished in cc
    before unfinished (inr d) = (decided_when_closed p.database.operators old.bytes old.place r fits h.reads).0 d

-- where nothing was read
pub stays_short : (old new : Input) → new.place ≡ old.place → new.bytes ≡ old.bytes → new.finished ≡ old.finished → StopsShort old → StopsShort new
stays_short old new place bytes finished short = rw (finished, place, bytes) short

-- no clause of the input waits
directs : (b c : Bool) (t u g : Tree) → (if b then purposes.Directive t else if c then purposes.Query t else purposes.Query u) ≡ purposes.Initialization g → ⊥
directs true c t u g e = cc
directs false true t u g e = cc
directs false false t u g e = cc

pub never_waits : (t g : Tree) → purpose source.Input t ≡ purposes.Initialization g → ⊥
never_waits (Compound f (one t)) g e = directs (bytes_eq f (codes ":-")) (bytes_eq f (codes "?-")) t (Compound f (one t)) g e
never_waits (Compound f (more t ts)) g e = cc
never_waits (Var v) g e = cc
never_waits (Number q) g e = cc
never_waits (Name a) g e = cc

module _ (r : Reader) (s : Source) (p : Program) (old : Input) (at : IsAt r s old p) where
  -- what stands at the input's place stands where the reader is
  pub there : (q : Read) → IsSettled p.database.operators old q → Reads p.database.operators r.bytes r.at q
  there q h =
      subst (λ n. Reads p.database.operators r.bytes n q) (sym at.at)
      (subst (λ bs. Reads p.database.operators bs old.place q) (sym at.bytes)
      (settled p.database.operators old.bytes at.more old.place q h.reads (elim h.settled [ inl f ↦ inl (at.whole f) | inr d ↦ inr d ])))

  pub clause_there : (new : Input) (what : Purpose) (vs : Variables) → IsFor p.database s old new what vs → session.Stands p.database r what vs new.place
  clause_there new what vs h = record {
    term = h.term;
    reads = there (Clause h.term vs new.place) h.settled;
    purpose_is = subst (λ x. purpose x h.term ≡ what) (sym at.source) h.purpose_is;
  }

  module _ (b : Budgets) (o : Outside) (q : Program) (new : Input) (bytes : new.bytes ≡ old.bytes) (finished : new.finished ≡ old.finished) (marks : Marks) (held now : Option (List ℕ)) where
    -- the reader has gone on, with the goals that wait then
    stands_on : (s ≡ source.Input → q.later ≡ p.later) → Advanced b o (Reading p.database r) marks (Reading q.database (record r { at = new.place; later = q.later })) held now
        → StandsAt b o r s marks p q new held now
    stands_on none_waits advanced = record {
      reader = record r { at = new.place; later = q.later };
      bytes = refl;
      files = refl;
      is_at = record {
        source = at.source;
        more = at.more;
        bytes = at.bytes ∙ ap (λ bs. bs ++ at.more) (sym bytes);
        at = refl;
        later = refl;
        whole = λ f. at.whole (sym finished ∙ f);
      };
      advanced = advanced;
      none_waits = none_waits;
    }

    pub stands_here : q.later ≡ p.later → Advanced b o (Reading p.database r) marks (Reading q.database (record r { at = new.place })) held now → StandsAt b o r s marks p q new held now
    stands_here same advanced =
        stands_on (λ e. same)
        (subst (λ l. Advanced b o (Reading p.database r) marks (Reading q.database (record r { at = new.place; later = l })) held now) (at.later ∙ sym same) advanced)

  module _ (b : Budgets) (o : Outside) (q : Program) (new : Input) (bytes : new.bytes ≡ old.bytes) (finished : new.finished ≡ old.finished) (held : Option (List ℕ)) where
    -- nothing was read
    pub stays : q ≡ p → new.place ≡ old.place → StandsAt b o r s unmarked p q new held held
    stays same place =
        stands_here b o q new bytes finished unmarked held held (ap (λ x. x.later) same)
        (subst (λ n. Advanced b o (Reading p.database r) unmarked (Reading q.database (record r { at = n })) held held) (at.at ∙ sym place)
        (subst (λ x. Advanced b o (Reading p.database r) unmarked (Reading x.database r) held held) (sym same) (at_start b o (Reading p.database r) held)))

    pub adds : (t : Tree) (vs : Variables) → IsFor p.database s old new (purposes.Fact t) vs → consult_error t ≡ None → q ≡ record p { database = consulted t p.database }
        → StandsAt b o r s unmarked p q new held held
    adds t vs is none same =
        stands_here b o q new bytes finished unmarked held held (ap (λ x. x.later) same)
        (subst (λ x. Advanced b o (Reading p.database r) unmarked (Reading x.database (record r { at = new.place })) held held) (sym same)
        (advanced_quietly b o (Reading p.database r) (Reading p.database r) unmarked held held (at_start b o (Reading p.database r) held) _
        (one_step b o (Reading p.database r) _ [] plain_line (session.adds (clause_there new (purposes.Fact t) vs is) none))))

    pub waits : (g : Tree) (vs : Variables) → IsFor p.database s old new (purposes.Initialization g) vs
        → q ≡ record p { later = p.later ++ record { goal = g; variables = vs } ∷ [] } → StandsAt b o r s unmarked p q new held held
    waits g vs is same =
        stands_on b o q new bytes finished unmarked held held
        (λ e. absurd (never_waits is.term g (subst (λ x. purpose x is.term ≡ purposes.Initialization g) e is.purpose_is)))
        (subst (λ x. Advanced b o (Reading p.database r) unmarked (Reading x.database (record r { at = new.place; later = x.later })) held held) (sym same)
        (subst (λ l. Advanced b o (Reading p.database r) unmarked (Reading p.database (record r { at = new.place; later = l ++ record { goal = g; variables = vs } ∷ [] })) held held) at.later
        (advanced_quietly b o (Reading p.database r) (Reading p.database r) unmarked held held (at_start b o (Reading p.database r) held) _
        (one_step b o (Reading p.database r) _ [] plain_line (session.waits (clause_there new (purposes.Initialization g) vs is))))))

  -- ---- lines of errors

  module _ (b : Budgets) (o : Outside) (q : Program) (same : q ≡ p) (new : Input) (line : Text) (held now : Option (List ℕ)) where
    error_step : Step b (given o.files) o.input (Reading p.database r) line error_line (Reading p.database (record r { at = new.place })) →
        RunsIn b o (Reading p.database r) line an_error (Reading q.database (record r { at = new.place }))
    error_step step =
        subst (λ x. RunsIn b o (Reading p.database r) line an_error (Reading x.database (record r { at = new.place }))) (sym same)
        (one_step b o (Reading p.database r) _ line error_line step)

    pub error_written : (bytes : new.bytes ≡ old.bytes) (finished : new.finished ≡ old.finished)
        → Step b (given o.files) o.input (Reading p.database r) line error_line (Reading p.database (record r { at = new.place })) → Appends held now line
        → StandsAt b o r s an_error p q new held now
    error_written bytes finished step written =
        stands_here b o q new bytes finished an_error held now (ap (λ x. x.later) same)
        (advanced_more b o (Reading p.database r) (Reading p.database r) unmarked held held (at_start b o (Reading p.database r) held) _ an_error line now (error_step step) written)

    pub error_broken : Step b (given o.files) o.input (Reading p.database r) line error_line (Reading p.database (record r { at = new.place })) → Adds held now (λ part. Begins part line)
        → Broken b o (Reading p.database r) Write held now
    error_broken step added = write_fails b o (Reading p.database r) (Reading p.database r) unmarked held held (at_start b o (Reading p.database r) held) _ an_error line now (error_step step) added

  pub syntax_step : (b : Budgets) (o : Outside) (new : Input) (error : ℕ) (line : Text) → IsSettled p.database.operators old (Syntax error new.place) → line ≡ syntax_line error
      → Step b (given o.files) o.input (Reading p.database r) line error_line (Reading p.database (record r { at = new.place }))
  syntax_step b o new error line h is =
      subst (λ u. Step b (given o.files) o.input (Reading p.database r) u error_line (Reading p.database (record r { at = new.place }))) (sym is)
      (session.syntax (there (Syntax error new.place) h))

  pub refusal_step : (b : Budgets) (o : Outside) (new : Input) (t e : Tree) (vs : Variables) (line : Text) → IsFor p.database s old new (purposes.Fact t) vs → consult_error t ≡ Some e
      → line ≡ ball_line p.database.operators (refusal_ball e) → Step b (given o.files) o.input (Reading p.database r) line error_line (Reading p.database (record r { at = new.place }))
  refusal_step b o new t e vs line h some is =
      subst (λ u. Step b (given o.files) o.input (Reading p.database r) u error_line (Reading p.database (record r { at = new.place }))) (sym is)
      (session.refuses (clause_there new (purposes.Fact t) vs h) some)

  -- ---- searches

  module _ (b : Budgets) (o : Outside) (q : Program) (new : Input) (held now : Option (List ℕ)) (from : Session)
      (step : Step b (given o.files) o.input (Reading p.database r) [] plain_line from) where
    begins : Advanced b o (Reading p.database r) unmarked from held held
    begins =
        advanced_quietly b o (Reading p.database r) (Reading p.database r) unmarked held held (at_start b o (Reading p.database r) held) from
        (one_step b o (Reading p.database r) from [] plain_line step)

    pub searched : (marks : Marks) → new.bytes ≡ old.bytes → new.finished ≡ old.finished → q.later ≡ p.later
        → Advanced b o from marks (Reading q.database (record r { at = new.place })) held now → StandsAt b o r s marks p q new held now
    searched marks bytes finished same advanced =
        stands_here b o q new bytes finished marks held now same
        (subst (λ m. Advanced b o (Reading p.database r) m (Reading q.database (record r { at = new.place })) held now) (both_unmarked marks)
        (advanced_both b o (Reading p.database r) from unmarked held held begins (Reading q.database (record r { at = new.place })) marks now advanced))

    pub search_broken : (halt : Halt) → Broken b o from halt held now → Broken b o (Reading p.database r) halt held now
    search_broken halt broken = broken_more b o (Reading p.database r) from unmarked held held begins halt now broken

  -- the step to the search of a directive, and of a query
  pub directive_step : (b : Budgets) (o : Outside) (new : Input) (g : Tree) (vs : Variables) (base : ℕ) → IsFor p.database s old new (purposes.Directive g) vs
      → Step b (given o.files) o.input (Reading p.database r) [] plain_line (Searching (begun p.database (once g) base vs) ADirective (record r { at = new.place }))
  directive_step b o new g vs base h = session.directs base (clause_there new (purposes.Directive g) vs h)

  pub query_step : (b : Budgets) (o : Outside) (new : Input) (g : Tree) (vs : Variables) (base answers : ℕ) (names : List VariableName) → IsFor p.database s old new (purposes.Query g) vs
      → b.answers ≡ answers → names ≡ names_from base vs
      → Step b (given o.files) o.input (Reading p.database r) [] plain_line (Searching (begun p.database g base vs) (AQuery names answers) (record r { at = new.place }))
  query_step b o new g vs base answers names h some named =
      subst (λ n. Step b (given o.files) o.input (Reading p.database r) [] plain_line (Searching (begun p.database g base vs) (AQuery names n) (record r { at = new.place }))) some
      (subst (λ ns. Step b (given o.files) o.input (Reading p.database r) [] plain_line (Searching (begun p.database g base vs) (AQuery ns b.answers) (record r { at = new.place }))) (sym named)
      (session.asks base (clause_there new (purposes.Query g) vs h)))

-- one part of a text behind another
pub stands_both : (b : Budgets) (o : Outside) (r : Reader) (s : Source) (m k : Marks) (p c q : Program) (between new : Input) (held mid now : Option (List ℕ))
    → StandsAt b o r s m p c between held mid → ((t : Reader) → IsAt t s between c → StandsAt b o t s k c q new mid now) → StandsAt b o r s (both m k) p q new held now
stands_both b o r s m k p c q between new held mid now first behind =
    let second = behind first.reader first.is_at in
    record {
      reader = second.reader;
      bytes = second.bytes ∙ first.bytes;
      files = second.files ∙ first.files;
      is_at = second.is_at;
      advanced = advanced_both b o (Reading p.database r) (Reading c.database first.reader) m held mid first.advanced (Reading q.database second.reader) k now second.advanced;
      none_waits = λ e. second.none_waits e ∙ first.none_waits e;
    }

-- at the beginning of a text nothing of it is written yet
pub stands_at_once : (b : Budgets) (o : Outside) (r : Reader) (s : Source) (p : Program) (input : Input) (held : Option (List ℕ)) → IsAt r s input p
    → StandsAt b o r s unmarked p p input held held
stands_at_once b o r s p input held at = stays r s p input at b o p input refl refl held refl refl
