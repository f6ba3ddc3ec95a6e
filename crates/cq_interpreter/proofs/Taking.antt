-- What is read where the heap has no variable.
use Rattle.std.proofs.Common.{◌≡◌, ℕ, ◌+◌, List, [], ◌∷◌, length, map, refl, sym, ap, ◌∙◌, subst, arith}
use Rattle.spec_syntax.specs.Operators.{Ops}
use Rattle.spec_terms.specs.Term.{Var, identity}
use Rattle.spec_terms.proofs.Substitution.{apply_agree, apply-identity}
use Rattle.spec_syntax.specs.TextTokens.{VariableName, Variables}
use Rattle.spec_syntax.specs.Trees.{Tree}
use Rattle.spec_text.specs.Later.{tree_later, name_later, variables_later, read_later}
use Rattle.spec_text.specs.Readings.{Read, Clause, Ended, Syntax, Reads}
use Rattle.spec_search.specs.Database.{Database}
use Rattle.spec_search.specs.Search.{Search, start}
use Rattle.spec_transcript.specs.Purposes.{Purpose, Fact, Initialization, Directive, Query, purpose}
use Rattle.spec_transcript.specs.Session.{begun}
use Rattle.cq_read.specs.Inputs.{Input}
use Rattle.cq_read.specs.Shown.{IsReadOf}
use Rattle.cq_session.specs.Sentences.{Program, IsSettled, IsFor, Begins, Asks, IsSentence}
use Rattle.spec_transcript.specs.declared.Source.{Source}
use Rattle.cq_session.specs.declared.transcript.interpreter.Sentence.{Sentence}
use Rattle.cq_session.specs.declared.transcript.interpreter.Sentence.TheVariants as sentence
use Rattle.spec_numbers.specs.Texts.{Text}
use Rattle.cq_term.specs.HeapValue.{Terms}
use Rattle.cq_term.specs.Trees.{tree}
use Rattle.cq_read.specs.Names.{variables}
use Rattle.cq_read.specs.Feeds.{place_after}
use Rattle.cq_read.specs.Shown.{read_of}
use Rattle.cq_read.specs.declared.reading.Read as done
use Rattle.cq_read.specs.declared.reading.Read.TheVariants as here
use Rattle.cq_interpreter.specs.Numbered.{IsNumbered}
use Rattle.cq_interpreter.specs.Taken.{IsAdded, IsTaken, IsDone}
use Rattle.cq_interpreter.proofs.Naming.{read_numbered}

-- ---- variables that are counted on from 0

zero_more : (n : ℕ) → 0 + n ≡ n
zero_more n = omega arith

pub tree_none : (t : Tree) → tree_later 0 t ≡ t
tree_none t = apply_agree (λ v. Var (0 + v)) identity t (λ v o. ap (λ k. Var k) (zero_more v)) ∙ apply-identity t

pub names_none : (names : List VariableName) → map (name_later 0) names ≡ names
names_none [] = refl
names_none (n ∷ names) = λ i. record { name = n.name; number = zero_more n.number i } ∷ names_none names i

variables_none : (vs : Variables) → variables_later 0 vs ≡ vs
variables_none vs = λ i. record { names = names_none vs.names i; count = zero_more vs.count i }

read_none : (r : Read) → read_later 0 r ≡ r
read_none (Clause t vs next_) = λ i. Clause (tree_none t i) (variables_none vs i) next_
read_none Ended = refl
read_none (Syntax error resume) = refl

pub reads_here : (ops : Ops) (text : List ℕ) (at n : ℕ) (r : Read) → IsReadOf ops text at n r → n ≡ 0 → Reads ops text at r
reads_here ops text at n r h e = subst (Reads ops text at) (sym (h.2 ∙ ap (λ k. read_later k h.0) e ∙ read_none h.0)) h.1

begun_here : (db : Database) (g : Tree) (vs : Variables) → start db g vs.count ≡ begun db g 0 vs
begun_here db g vs = λ i. start db (sym (tree_none g) i) (sym (zero_more vs.count) i)

pub begins_here : (Stands : Search → Type 0) (db : Database) (g : Tree) (vs : Variables) → Stands (start db g vs.count) → Begins Stands db g vs
begins_here Stands db g vs h = record { base = 0; stands = subst Stands (begun_here db g vs) h }

pub asks_here : (Stands : Search → Type 0) (db : Database) (g : Tree) (vs : Variables) (names : List VariableName) → Stands (start db g vs.count) → names ≡ vs.names
    → Asks Stands db g vs names
asks_here Stands db g vs names h e = record { base = 0; stands = subst Stands (begun_here db g vs) h; names_are = e ∙ sym (names_none vs.names) }

-- ---- what was taken is what was read

module _ (Stands : Search → Type 0) (names : List VariableName) (s : Source) (p q : Program) (old new : Input) (t : Tree) (vs : Variables)
    (settled : IsSettled p.database.operators old (Clause t vs new.place)) where
  for_what : (what : Purpose) → purpose s t ≡ what → IsFor p.database s old new what vs
  for_what what e = record { term = t; settled = settled; purpose_is = e }

  added : (u : Tree) → purpose s t ≡ Fact u → (r : Sentence) → IsAdded p q u r → IsSentence Stands names s p old q new r
  added u e sentence.Added h = (u, vs, for_what (Fact u) e, h.0, h.1)
  added u e (sentence.Refused line) h = (u, h.0, vs, for_what (Fact u) e, h.1, h.2, h.3)
  added u e sentence.Needs h = absurd h
  added u e sentence.End h = absurd h
  added u e (sentence.Syntax at) h = absurd h
  added u e sentence.Waits h = absurd h
  added u e sentence.Directive h = absurd h
  added u e sentence.Query h = absurd h

  taken_for : (what : Purpose) → purpose s t ≡ what → (r : Sentence) → IsTaken Stands names p q vs what r → IsSentence Stands names s p old q new r
  taken_for (Fact u) e r h = added u e r h
  taken_for (Initialization g) e r h = subst (IsSentence Stands names s p old q new) (sym h.0) (g, vs, for_what (Initialization g) e, h.1)
  taken_for (Directive g) e r h = subst (IsSentence Stands names s p old q new) (sym h.0) (g, vs, for_what (Directive g) e, h.1, h.2)
  taken_for (Query g) e r h = subst (IsSentence Stands names s p old q new) (sym h.0) (g, vs, for_what (Query g) e, h.1, h.2)

  pub taken : (r : Sentence) → IsTaken Stands names p q vs (purpose s t) r → IsSentence Stands names s p old q new r
  taken r h = taken_for (purpose s t) refl r h

-- ---- behind a reading

pub numbered_read : (ops : Ops) (text : List ℕ) (at : ℕ) (texts : List Text) (heap : Terms) (r : done.Read) → Reads ops text at (read_of texts heap r) → IsNumbered (length heap.images) r
numbered_read ops text at texts heap (here.Clause term names next_) h = read_numbered h
numbered_read ops text at texts heap here.End h = tt
numbered_read ops text at texts heap (here.Syntax error resume) h = tt

module _ (Stands : Search → Type 0) (names : List VariableName) (source : Source) (p q : Program) (old new : Input) (texts : List Text) (heap : Terms) where
  pub read_is : (r : done.Read) (s : Sentence) → IsSettled p.database.operators old (read_of texts heap r) → new.place ≡ place_after old.place r
      → IsDone Stands names source p q (read_of texts heap r) s → IsSentence Stands names source p old q new s
  read_is (here.Clause term vs next_) s settled place h =
      taken Stands names source p q old new (tree texts heap.terms term) (variables vs.items heap.images)
      (subst (λ (k : ℕ). IsSettled p.database.operators old (Clause (tree texts heap.terms term) (variables vs.items heap.images) k)) (sym place) settled) s h
  read_is here.End s settled place h = subst (IsSentence Stands names source p old q new) (sym h.0) (settled, h.1, place)
  read_is (here.Syntax error resume) s settled place h =
      subst (IsSentence Stands names source p old q new) (sym h.0) (subst (λ (k : ℕ). IsSettled p.database.operators old (Syntax error k)) (sym place) settled, h.1)
