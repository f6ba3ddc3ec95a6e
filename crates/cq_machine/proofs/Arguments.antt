-- The arguments of a goal that reads as itself, all of them, read as themselves.
use Rattle.std.proofs.Common.{◌≡◌, ◌<◌, ℕ, List, [], ◌∷◌, length, map, Some, ap, ◌∙◌, sym, subst}
use Rattle.std.specs.Prelude.{All}
use Rattle.std.proofs.lemmas.List.Elements.{All-head, All-tail}
use Rattle.spec_numbers.specs.Texts.{Text}
use Rattle.spec_terms.specs.Term.{Terms, Var, Number, Name, Compound, one, more, list_of, apply, apply_all, named, named_all}
use Rattle.spec_syntax.specs.Trees.{Tree}
use Rattle.spec_builtins.specs.Terms as builtins
use Rattle.spec_branch.specs.Branch.{State}
use Rattle.cq_term.specs.Texts.{text_of}
use Rattle.cq_term.specs.Meaning.{HeapTerm, at}
use Rattle.cq_term.specs.Shown.{arguments}
use Rattle.cq_term.specs.Trees.{tree}
use Rattle.cq_settle.specs.Contents.{Contents}
use Rattle.cq_branch.specs.Worlds.{ReadsAs}
use Rattle.cq_branch.proofs.Added.{reads_tree}
use Rattle.cq_branch.proofs.Disjunctions.{term_there}
use Rattle.cq_branch.proofs.Arguments.{front, behind, inside}
use Rattle.cq_choices.specs.Calls.{AreRead}

module _ (texts : List Text) (c : Contents) (st : State) where
  abbrev ts : List HeapTerm
  ts = c.heap.terms

  abbrev Live : List ℕ → Type 0
  Live ids = All (λ i. i < length ts) ids

  read_one : (id : ℕ) (h : HeapTerm) → id < length ts → at ts id ≡ h → apply st.bindings (named (text_of texts) h) ≡ named (text_of texts) h
      → ReadsAs texts c st id (named (text_of texts) h)
  read_one id h l e r = (term_there texts ts id l ∙ ap (λ (x : HeapTerm). Some (named (text_of texts) x)) e, r)

  none_read : (ids : List ℕ) → map (at ts) ids ≡ [] → AreRead texts c st ids []
  none_read [] e = tt
  none_read (id ∷ ids) e = cc

  all_read : (hs : Terms ℕ) (ids : List ℕ) → Live ids → map (at ts) ids ≡ list_of hs
      → apply_all st.bindings (named_all (text_of texts) hs) ≡ named_all (text_of texts) hs → AreRead texts c st ids (list_of (named_all (text_of texts) hs))
  all_read (one h) [] l e r = cc
  all_read (one h) (id ∷ ids) l e r =
      let first : at ts id ≡ h = cc in
      let none : map (at ts) ids ≡ [] = cc in
      (read_one id h (All-head (λ i. i < length ts) id ids l) first (ap front r), none_read ids none)
  all_read (more h hs) [] l e r = cc
  all_read (more h hs) (id ∷ ids) l e r =
      let first : at ts id ≡ h = cc in
      let others : map (at ts) ids ≡ list_of hs = cc in
      (read_one id h (All-head (λ i. i < length ts) id ids l) first (ap front r), all_read hs ids (All-tail (λ i. i < length ts) id ids l) others (ap behind r))

  of_term : (h : HeapTerm) (ids : List ℕ) → Live ids → map (at ts) ids ≡ arguments h → apply st.bindings (named (text_of texts) h) ≡ named (text_of texts) h
      → AreRead texts c st ids (builtins.arguments (named (text_of texts) h))
  of_term (Var v) ids l e r = none_read ids e
  of_term (Number q) ids l e r = none_read ids e
  of_term (Name a) ids l e r = none_read ids e
  of_term (Compound f hs) ids l e r = all_read hs ids l e (ap inside r)

  pub arguments_read : (id : ℕ) (g : Tree) (ids : List ℕ) → ReadsAs texts c st id g → Live ids → map (at ts) ids ≡ arguments (at ts id)
      → AreRead texts c st ids (builtins.arguments g)
  arguments_read id g ids r l e =
      let same : tree texts ts id ≡ g = reads_tree texts c st id g r in
      subst (λ (t : Tree). AreRead texts c st ids (builtins.arguments t)) same
      (of_term (at ts id) ids l e (subst (λ (t : Tree). apply st.bindings t ≡ t) (sym same) r.1))
