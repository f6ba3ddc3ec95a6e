-- The arguments of a term that reads as itself read as themselves.
use Rattle.std.proofs.Common.{◌≡◌, ℕ, zero, suc, ◌<◌, List, length, Some, refl, sym, ap, ◌∙◌, subst}
use Rattle.std.specs.Prelude.{slice_get}
use Rattle.std.proofs.lemmas.Option.{none-some}
use Rattle.spec_numbers.specs.Texts.{Text}
use Rattle.spec_terms.specs.Term.{Terms, Var, Number, Name, Compound, one, more, list_of, Subst, apply, apply_all, named, named_all}
use Rattle.spec_syntax.specs.Trees.{Tree}
use Rattle.spec_builtins.specs.Terms as terms
use Rattle.spec_branch.specs.Branch.{State}
use Rattle.spec_search.specs.Rows.{nth}
use Rattle.cq_term.specs.Texts.{text_of}
use Rattle.cq_term.specs.Meaning.{HeapTerm, at}
use Rattle.cq_term.specs.Shown.{arguments}
use Rattle.cq_term.specs.Trees.{tree}
use Rattle.cq_settle.specs.Contents.{Contents}
use Rattle.cq_branch.specs.Worlds.{ReadsAs}
use Rattle.cq_branch.proofs.Added.{reads_tree}
use Rattle.cq_branch.proofs.Disjunctions.{term_there}

abbrev pub front : Terms Text → Tree
front (one t) = t
front (more t ts) = t

abbrev pub behind : Terms Text → Terms Text
behind (one t) = one t
behind (more t ts) = ts

abbrev pub inside : Tree → Terms Text
inside (Var v) = one (Var v)
inside (Number q) = one (Number q)
inside (Name a) = one (Name a)
inside (Compound f ts) = ts

named_at : (g : ℕ → Text) (hs : Terms ℕ) (i : ℕ) (h : HeapTerm) → slice_get (list_of hs) i ≡ Some h → nth (list_of (named_all g hs)) i ≡ named g h
named_at g (one t) zero h e = (let f : t ≡ h = cc in ap (named g) f)
named_at g (one t) (suc i) h e = absurd (none-some h e)
named_at g (more t ts) zero h e = (let f : t ≡ h = cc in ap (named g) f)
named_at g (more t ts) (suc i) h e = named_at g ts i h e

nth_read : (s : Subst Text) (ts : Terms Text) → apply_all s ts ≡ ts → (i : ℕ) → apply s (nth (list_of ts) i) ≡ nth (list_of ts) i
nth_read s (one t) e zero = ap front e
nth_read s (one t) e (suc i) = refl
nth_read s (more t ts) e zero = ap front e
nth_read s (more t ts) e (suc i) = nth_read s ts (ap behind e) i

-- an argument of a term, and how it reads where the term reads as itself
record IsArgument (s : Subst Text) (g : ℕ → Text) (t : Tree) (i : ℕ) (a : HeapTerm) : Type 0 where
  is : nth (terms.arguments t) i ≡ named g a
  reads : apply s (nth (terms.arguments t) i) ≡ nth (terms.arguments t) i

argument_is : (s : Subst Text) (g : ℕ → Text) (h : HeapTerm) (i : ℕ) (a : HeapTerm) → slice_get (arguments h) i ≡ Some a → apply s (named g h) ≡ named g h
    → IsArgument s g (named g h) i a
argument_is s g (Var v) i a e r = absurd (none-some a e)
argument_is s g (Number q) i a e r = absurd (none-some a e)
argument_is s g (Name f) i a e r = absurd (none-some a e)
argument_is s g (Compound f hs) i a e r = record { is = named_at g hs i a e; reads = nth_read s (named_all g hs) (ap inside r) i }

pub argument_reads : (texts : List Text) (c : Contents) (st : State) (id i k : ℕ) (t : Tree) → ReadsAs texts c st id t → k < length c.heap.terms
    → slice_get (arguments (at c.heap.terms id)) i ≡ Some (at c.heap.terms k) → ReadsAs texts c st k (nth (terms.arguments t) i)
argument_reads texts c st id i k t r l e =
    let same : tree texts c.heap.terms id ≡ t = reads_tree texts c st id t r in
    let a : IsArgument st.bindings (text_of texts) t i (at c.heap.terms k) =
    subst (λ (u : Tree). IsArgument st.bindings (text_of texts) u i (at c.heap.terms k)) same
    (argument_is st.bindings (text_of texts) (at c.heap.terms id) i (at c.heap.terms k) e (subst (λ (u : Tree). apply st.bindings u ≡ u) (sym same) r.1)) in
    (term_there texts c.heap.terms k l ∙ ap (λ (u : Tree). Some u) (sym a.is), a.reads)
