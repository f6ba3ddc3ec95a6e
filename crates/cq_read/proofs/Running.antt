-- What is read from a clause on that is being read.
use Rattle.std.proofs.Common.{◌≡◌, ◌≢◌, ℕ, ◌<◌, ◌≤◌, nat_lt, List, length, Bool, true, false, Some, None, Result, Ok, Err, inl, inr, refl, sym, ap, ◌∙◌, subst, arith}
use Rattle.std.specs.Prelude.{if◌then◌else◌, IfOk}
use Rattle.std.specs.declared.alloc.AllocError.{AllocError}
use Rattle.std.proofs.lemmas.Bool.Decides.{nat_tests}
use Rattle.spec_numbers.specs.Texts.{Text}
use Rattle.cq_term.specs.Texts.{KeepsTexts, AreDifferent}
use Rattle.spec_syntax.specs.Operators.{Ops}
use Rattle.spec_syntax.specs.declared.grammar.Kind.TheVariants as kind
use Rattle.spec_syntax.specs.declared.grammar.LexFault.{LexFault}
use Rattle.spec_syntax.specs.Gaps as gaps
use Rattle.spec_syntax.specs.GrammarTokens as lexical
use Rattle.spec_syntax.specs.GrammarTokens.{next_token}
use Rattle.spec_syntax.specs.Machine as machine
use Rattle.spec_syntax.specs.Machine.{IsOpen, start}
use Rattle.spec_text.specs.Readings.{Read, Clause, Ended, Syntax, Resumes, ended}
use Rattle.spec_text.specs.Runs.{ReadsOn, whole, onward, stuck, faulty, cut_off, IsBefore}
use Rattle.spec_text.specs.Later.{variables_from}
use Rattle.spec_text.proofs.Onward.{next_there}
use Rattle.spec_text.proofs.ReadingCounted.{counted_back}
use Rattle.cq_ops.specs.Tables.{Tables, named}
use Rattle.cq_term.specs.HeapValue.{HeapValue, Terms}
use Rattle.cq_read.specs.Growth.{IsAsBefore}
use Rattle.cq_read.specs.declared.parse.frames.State.{State}
use Rattle.cq_read.specs.declared.parse.frames.State.TheVariants as stand
use Rattle.cq_read.specs.declared.parse.names.GrammarNames.{GrammarNames}
use Rattle.cq_read.specs.Known.{KnowsState, AreGrammarNames}
use Rattle.cq_term.specs.Trees.{tree}
use Rattle.cq_read.specs.Views.{state_of, frames_of}
use Rattle.cq_read.specs.declared.clause.Clause as declared
use Rattle.cq_read.specs.declared.reading.Read as result
use Rattle.cq_read.specs.declared.reading.Read.TheVariants as read
use Rattle.cq_read.specs.declared.reading.Turn as declared_turn
use Rattle.cq_read.specs.declared.reading.Turn.TheVariants as turn
use Rattle.cq_read.specs.Clauses.{IsLive, Advances, state, variables_so_far, whole_term}
use Rattle.cq_read.specs.Names.{variables}
use Rattle.cq_read.specs.Ends.{IsClauseRead}
use Rattle.cq_read.specs.Running.{Begun, ReadFromHere, IsRunning, Turned, IsStopped}
use Rattle.cq_read.specs.Shown.{read_of, is_clause, IsReadOf, MachineRead, IsLiveRead, Leaves}

-- a state that is not whole is open
open_state : (texts : List Text) (heap : Terms) (k : List machine.Frame) (s : State) → whole_term s ≡ None → IsOpen (state_of texts heap.terms k s)
open_state texts heap k (stand.Whole term) e = absurd (no_some e)
  where
    no_some : {n : ℕ} → Some n ≡ None → ⊥
    no_some e = cc
open_state texts heap k (stand.AfterOperand most priority operand) e = tt
open_state texts heap k (stand.BeforeTerm most) e = tt
open_state texts heap k (stand.AfterName f most) e = tt
open_state texts heap k (stand.AfterFunctor f most) e = tt
open_state texts heap k (stand.AfterMinus most) e = tt
open_state texts heap k (stand.AfterOpenList most) e = tt
open_state texts heap k (stand.AfterOpenCurly most) e = tt

whole_state : (texts : List Text) (heap : Terms) (k : List machine.Frame) (s : State) (term : ℕ) → whole_term s ≡ Some term → state_of texts heap.terms k s ≡ machine.Whole (tree texts heap.terms term)
whole_state texts heap k (stand.Whole t) term e = let same : t ≡ term = cc in ap (λ x. machine.Whole (tree texts heap.terms x)) same
whole_state texts heap k (stand.AfterOperand most priority operand) term e = cc
whole_state texts heap k (stand.BeforeTerm most) term e = cc
whole_state texts heap k (stand.AfterName f most) term e = cc
whole_state texts heap k (stand.AfterFunctor f most) term e = cc
whole_state texts heap k (stand.AfterMinus most) term e = cc
whole_state texts heap k (stand.AfterOpenList most) term e = cc
whole_state texts heap k (stand.AfterOpenCurly most) term e = cc

same_kind : (t u : lexical.Token) (r : Result lexical.Token LexFault) → r ≡ Ok t → r ≡ Ok u → t.kind ≡ u.kind
same_kind t u r e g = let same : t ≡ u = cc in ap (λ (x : lexical.Token). x.kind) same

no_token : (f : LexFault) (t : lexical.Token) (r : Result lexical.Token LexFault) → r ≡ Err f → r ≡ Ok t → ⊥
no_token f t r e g = cc

module _ (text : List ℕ) (from place : ℕ) (s : State) where
  -- a fault or a token stands there
  pub begun_fault : (f : LexFault) → Begun text from place s → next_token text place ≡ Err f → IsBefore text from
  begun_fault f (inl (same, open_still)) e = λ t g. absurd (no_token f t (next_token text from) (ap (next_token text) same ∙ e) g)
  begun_fault f (inr (less, before)) e = before

  pub begun_token : (t : lexical.Token) → Begun text from place s → next_token text place ≡ Ok t → t.kind ≢ kind.Eof → IsBefore text from
  begun_token t (inl (same, open_still)) e n = λ u g k. n (same_kind t u (next_token text from) (ap (next_token text) same ∙ e) g ∙ k)
  begun_token t (inr (less, before)) e n = before

  pub begun_whole : (term : ℕ) → Begun text from place s → whole_term s ≡ Some term → IsBefore text from
  begun_whole term (inl (same, open_still)) e = let clash : None ≡ Some term = sym open_still ∙ e in cc
  begun_whole term (inr (less, before)) e = before

module _ (texts : List Text) (ops : Tables) (text : List ℕ) (from n place : ℕ) (heap : Terms) (clause : declared.Clause) where
  module _ (same : ReadFromHere texts ops text from n heap clause place) (begun : Begun text from place clause.state) where
    pub read_whole : (term : ℕ) → whole_term clause.state ≡ Some term → MachineRead (named texts ops) text from n (Clause (tree texts heap.terms term) (variables_so_far heap clause) place)
    read_whole term e =
        let k = frames_of texts heap.terms clause.frames.items in
        inr (
          begun_whole text from place clause.state term begun e,
          same _ (subst (λ x. ReadsOn (named texts ops) text x place (variables_so_far heap clause) (Clause (tree texts heap.terms term) (variables_so_far heap clause) place)) (sym (whole_state texts heap k clause.state term e)) whole),
        )

    pub read_fault : (f : LexFault) (resume : ℕ) → whole_term clause.state ≡ None → next_token text place ≡ Err f → Resumes text (gaps.place f) resume →
        MachineRead (named texts ops) text from n (Syntax (gaps.place f) resume)
    read_fault f resume e found on =
        inr (
          begun_fault text from place clause.state f begun found,
          same _ (faulty (open_state texts heap (frames_of texts heap.terms clause.frames.items) clause.state e) found on),
        )

    pub read_end : (t : lexical.Token) → whole_term clause.state ≡ None → next_token text place ≡ Ok t → t.kind ≡ kind.Eof → from < place → MachineRead (named texts ops) text from n (Syntax (length text) (length text))
    read_end t e found k less = inr (later begun, same _ (cut_off (open_state texts heap (frames_of texts heap.terms clause.frames.items) clause.state e) found k))
      where
        later : Begun text from place clause.state → IsBefore text from
        later (inl (here, open_still)) = absurd (omega arith)
        later (inr (more, before)) = before

    pub read_nothing : (t : lexical.Token) → next_token text place ≡ Ok t → t.kind ≡ kind.Eof → place ≤ from → MachineRead (named texts ops) text from n Ended
    read_nothing t found k le = at_once begun
      where
        at_once : Begun text from place clause.state → MachineRead (named texts ops) text from n Ended
        at_once (inl (here, open_still)) = inl (t, ap (next_token text) here ∙ found, k, refl)
        at_once (inr (more, before)) = absurd (omega arith)

    pub read_refused : (t : lexical.Token) (resume : ℕ) (new_heap : Terms) (new : declared.Clause) → whole_term clause.state ≡ None → next_token text place ≡ Ok t → t.kind ≢ kind.Eof →
        Advances texts ops text t heap clause new_heap new false → Resumes text t.span.start resume → MachineRead (named texts ops) text from n (Syntax t.span.start resume)
    read_refused t resume new_heap new e found m step on =
        inr (
          begun_token text from place clause.state t begun found m,
          same _ (stuck (open_state texts heap (frames_of texts heap.terms clause.frames.items) clause.state e) found step.seen step.step on),
        )

  -- a token more
  pub read_onward : (t : lexical.Token) (new_heap : Terms) (new : declared.Clause) → ReadFromHere texts ops text from n heap clause place → next_token text place ≡ Ok t → Advances texts ops text t heap clause new_heap new true →
      (r : Read) → ReadsOn (named texts ops) text (state texts new_heap new) t.span.end (variables_so_far new_heap new) r → ReadsOn (named texts ops) text start from (variables_from n) r
  read_onward t new_heap new same found step r reads =
      same r (onward found step.seen step.step (subst (λ vs. ReadsOn (named texts ops) text (state texts new_heap new) t.span.end vs r) step.variables reads))

keeps_same : (texts : List Text) → KeepsTexts texts texts
keeps_same texts i text e = e

module _ (ops : Tables) (text : List ℕ) (from n place : ℕ) (atoms : List Text) (different : AreDifferent atoms) (heap : Terms) (clause : declared.Clause) (running : IsRunning ops text from n atoms heap clause place)
    (is_open : whole_term clause.state ≡ None) where
  -- a fault
  pub stops_at_fault : (f : LexFault) (at resume : ℕ) (r : result.Read) → Err f ≡ next_token text place → at ≡ gaps.place f → r ≡ read.Syntax at resume → Resumes text at resume →
      MachineRead (named atoms ops) text from n (read_of atoms heap r)
  stops_at_fault f at resume r found there is on =
      subst (λ x. MachineRead (named atoms ops) text from n (read_of atoms heap x)) (sym is) (subst (λ x. MachineRead (named atoms ops) text from n (Syntax x resume)) (sym there)
      (read_fault atoms ops text from n place heap clause (running.same atoms (keeps_same atoms) different) running.begun f resume is_open (sym found) (subst (λ x. Resumes text x resume) there on)))

  -- the text's end
  pub stops_at_end : (t : lexical.Token) (r : result.Read) → Ok t ≡ next_token text place → t.kind ≡ kind.Eof →
      r ≡ (if nat_lt from place then read.Syntax (length text) (length text) else read.End) → MachineRead (named atoms ops) text from n (read_of atoms heap r)
  stops_at_end t r found k is = subst (λ x. MachineRead (named atoms ops) text from n (read_of atoms heap x)) (sym is) (by (nat_lt from place) refl)
    where
      here : ReadFromHere atoms ops text from n heap clause place
      here = running.same atoms (keeps_same atoms) different

      by : (b : Bool) → nat_lt from place ≡ b → MachineRead (named atoms ops) text from n (read_of atoms heap (if b then read.Syntax (length text) (length text) else read.End))
      by true e = read_end atoms ops text from n place heap clause here running.begun t is_open (sym found) k (grind (arith, nat_tests))
      by false e = read_nothing atoms ops text from n place heap clause here running.begun t (sym found) k (grind (arith, nat_tests))

-- a token that is refused, or one more; names may have got numbers with it
module _ (ops : Tables) (text : List ℕ) (from n place : ℕ) (old atoms : List Text) (keeps : KeepsTexts old atoms) (heap new_heap : Terms) (clause new : declared.Clause)
    (running : IsRunning ops text from n old heap clause place) (is_open : whole_term clause.state ≡ None) (t : lexical.Token) (found : Ok t ≡ next_token text place) (more_left : t.kind ≢ kind.Eof) where
  pub stops_at_token : AreDifferent atoms → Advances atoms ops text t heap clause new_heap new false → (resume : ℕ) (r : result.Read) → r ≡ read.Syntax t.span.start resume → Resumes text t.span.start resume →
      MachineRead (named atoms ops) text from n (read_of atoms new_heap r)
  stops_at_token different step resume r is on =
      subst (λ x. MachineRead (named atoms ops) text from n (read_of atoms new_heap x)) (sym is)
      (read_refused atoms ops text from n place heap clause (running.same atoms keeps different) running.begun t resume new_heap new is_open (sym found) more_left step on)

  pub goes_on : IsLive new_heap new → ((texts : List Text) → KeepsTexts atoms texts → KnowsState texts new.state) →
      ((texts : List Text) → KeepsTexts atoms texts → AreDifferent texts → Advances texts ops text t heap clause new_heap new true) → (place < t.span.end) × IsRunning ops text from n atoms new_heap new t.span.end
  goes_on live known steps =
      let there = next_there text place t running.fits (sym found) in (
        omega (arith, there.behind, there.takes more_left),
        record {
          fits = there.within;
          live = live;
          begun = inr (omega (arith, there.behind, there.takes more_left, begun_before), begun_token text from place clause.state t running.begun (sym found) more_left);
          known = known;
          same = λ texts kept different r reads.
              read_onward texts ops text from n place heap clause t new_heap new (running.same texts (λ i x e. kept i x (keeps i x e)) different) (sym found) (steps texts kept different) r reads;
        },
      )
    where
      begun_before : from ≤ place
      begun_before = elim running.begun [ inl (same, o) ↦ omega (arith, same) | inr (less, b) ↦ omega (arith, less) ]

-- later texts of names keep those that the grammar speaks of
pub grammar_kept : (old new : List Text) (names : GrammarNames) → KeepsTexts old new → AreGrammarNames old names → AreGrammarNames new names
grammar_kept old new names keeps known = record {
  minus = keeps names.minus _ known.minus;
  comma = keeps names.comma _ known.comma;
  nil = keeps names.nil _ known.nil;
  curly = keeps names.curly _ known.curly;
  dot = keeps names.dot _ known.dot;
}

pub live_error : (heap : Terms) (r : result.Read) (at resume : ℕ) → r ≡ read.Syntax at resume → IsLiveRead heap r
live_error heap r at resume is = subst (IsLiveRead heap) (sym is) tt

pub live_end : (heap : Terms) (r : result.Read) (b : Bool) (at resume : ℕ) → r ≡ (if b then read.Syntax at resume else read.End) → IsLiveRead heap r
live_end heap r true at resume is = subst (IsLiveRead heap) (sym is) tt
live_end heap r false at resume is = subst (IsLiveRead heap) (sym is) tt

-- what stops is no clause that goes on
pub stopped : (ops : Tables) (text : List ℕ) (from n : ℕ) (atoms : List Text) (heap : Terms) (clause : declared.Clause) (place : ℕ) (r : declared_turn.Turn) → ((next : ℕ) → r ≡ turn.Goes next → ⊥) →
    Turned ops text from n atoms heap clause place r → IsStopped ops text from n atoms heap clause r
stopped ops text from n atoms heap clause place (turn.Goes next) stops h = absurd (stops next refl)
stopped ops text from n atoms heap clause place (turn.Stops read) stops h = h

-- a whole clause is read from its start
pub clause_read : (ops : Tables) (text : List ℕ) (from n : ℕ) (atoms : List Text) (different : AreDifferent atoms) (heap : Terms) (clause : declared.Clause) (place : ℕ) (r : result.Read) →
    IsRunning ops text from n atoms heap clause place → IsClauseRead clause place r → MachineRead (named atoms ops) text from n (read_of atoms heap r)
clause_read ops text from n atoms different heap clause place (read.Clause term names next) running is =
    subst (λ p. MachineRead (named atoms ops) text from n (Clause (tree atoms heap.terms term) (variables names.items heap.images) p)) (sym is.2)
    (subst (λ ns. MachineRead (named atoms ops) text from n (Clause (tree atoms heap.terms term) (variables ns heap.images) place)) (sym is.1)
    (read_whole atoms ops text from n place heap clause (running.same atoms (keeps_same atoms) different) running.begun term is.0))
clause_read ops text from n atoms different heap clause place read.End running is = absurd is
clause_read ops text from n atoms different heap clause place (read.Syntax at resume) running is = absurd is

pub clause_read_if : (ops : Tables) (text : List ℕ) (from n : ℕ) (atoms : List Text) (different : AreDifferent atoms) (heap : Terms) (clause : declared.Clause) (place : ℕ) (r : Result result.Read AllocError) →
    IsRunning ops text from n atoms heap clause place → IfOk r (IsClauseRead clause place) → IfOk r (λ q. MachineRead (named atoms ops) text from n (read_of atoms heap q))
clause_read_if ops text from n atoms different heap clause place (Ok r) running is = clause_read ops text from n atoms different heap clause place r running is
clause_read_if ops text from n atoms different heap clause place (Err e) running is = tt

-- what the machine reads stands there, but for the numbers of variables
pub stands_there : (ops : Ops) (text : List ℕ) (at n : ℕ) (r : Read) → at ≤ length text → MachineRead ops text at n r → IsReadOf ops text at n r
stands_there ops text at n r fits (inl (t, found, k, same)) = (Ended, ended found k, same)
stands_there ops text at n r fits (inr (before, on)) = counted_back ops text at n r fits before on

pub read_anywhere : (texts : List Text) (heap other : Terms) (r : result.Read) → is_clause r ≡ false → read_of texts heap r ≡ read_of texts other r
read_anywhere texts heap other (read.Clause term names next) e = let clash : true ≡ false = e in cc
read_anywhere texts heap other read.End e = refl
read_anywhere texts heap other (read.Syntax at resume) e = refl

-- the same of a heap that stands as before, with as many variables as one that was marked
pub stands_on : (ops : Ops) (text : List ℕ) (at n m : ℕ) (texts : List Text) (heap other : Terms) (r : result.Read) → at ≤ length text → n ≡ m → read_of texts heap r ≡ read_of texts other r →
    MachineRead ops text at n (read_of texts heap r) → IsReadOf ops text at m (read_of texts other r)
stands_on ops text at n m texts heap other r fits same is on =
    subst (λ x. IsReadOf ops text at m x) is (subst (λ x. IsReadOf ops text at x (read_of texts heap r)) same (stands_there ops text at n (read_of texts heap r) fits on))

pub leaves_not : (old new : HeapValue) (r : result.Read) → is_clause r ≡ false → IsAsBefore old new → Leaves old new (Ok r)
leaves_not old new (read.Clause term names next) e h = let clash : true ≡ false = e in cc
leaves_not old new read.End e h = h
leaves_not old new (read.Syntax at resume) e h = h
