-- A world to whose heap terms were added, and no variables, is the state of the same branches.
use Rattle.std.proofs.Common.{◌≡◌, ℕ, zero, suc, ◌<◌, List, [], ◌∷◌, ◌++◌, length, Some, sym, ap, ◌∙◌, subst, arith}
use Rattle.std.specs.Prelude.{slice_get}
use Rattle.std.specs.Option.{option_map}
use Rattle.std.proofs.lemmas.Option.{none-some}
use Rattle.std.specs.List.{AllZip}
use Rattle.spec_numbers.specs.Prefixes.{IsPrefix}
use Rattle.spec_numbers.proofs.Prefixes.{prefix_get_or, prefix_length}
use Rattle.spec_numbers.specs.Texts.{Text}
use Rattle.spec_terms.specs.Term.{Subst, named}
use Rattle.spec_syntax.specs.Trees.{Tree}
use Rattle.spec_branch.specs.Branch.{State, Asleep, Frozen, Sleeper}
use Rattle.cq_term.specs.Texts.{text_of}
use Rattle.cq_attr.specs.Attributes.{Waiting}
use Rattle.cq_frac.specs.declared.VarId.{VarId}
use Rattle.cq_term.specs.HeapValue.{Terms}
use Rattle.cq_term.specs.Meaning.{HeapTerm, blank}
use Rattle.cq_term.specs.Trees.{tree, KnowsTerms}
use Rattle.cq_settle.specs.Contents.{Contents}
use Rattle.cq_settle.specs.Standing.{Stands, AreRead, IsConstraint, IsSleeper, constraints, goals}
use Rattle.spec_engine.specs.declared.machine.cell.Cell.{Cell}
use Rattle.cq_branch.specs.Lists.{KeepsLists}
use Rattle.cq_branch.specs.Worlds.{IsBranch, Grown, with_heap}

module _ (texts : List Text) (old new : Terms) (terms : IsPrefix old.terms new.terms) (images : new.images ≡ old.images) where
  pub tree_same : (id : ℕ) → id < length old.terms → tree texts new.terms id ≡ tree texts old.terms id
  tree_same id l = ap (named (text_of texts)) (prefix_get_or old.terms new.terms id blank terms l)

  live_still : (id : ℕ) → id < length old.terms → id < length new.terms
  live_still id l = omega (arith, l, prefix_length old.terms new.terms terms)

  image_same : (v : ℕ) → tree texts new.images v ≡ tree texts old.images v
  image_same v = ap (λ ts. tree texts ts v) images

  constraint_same : (r s : Subst Text) (k : Waiting) (t : Tree) → IsConstraint texts old r s k t → IsConstraint texts new r s k t
  constraint_same r s k t c = record { id = c.id; susp = c.susp; live = live_still c.id c.live; reads = tree_same c.id c.live ∙ c.reads; watched = c.watched }

  constraints_same : (r s : Subst Text) (ks : List Waiting) (ts : List Tree) → AllZip (IsConstraint texts old r s) ks ts → AllZip (IsConstraint texts new r s) ks ts
  constraints_same r s [] [] z = z
  constraints_same r s [] (t ∷ ts) z = absurd z
  constraints_same r s (k ∷ ks) [] z = absurd z
  constraints_same r s (k ∷ ks) (t ∷ ts) z = (constraint_same r s k t z.0, constraints_same r s ks ts z.1)

  read_same : (s : Subst Text) (x : VarId) (id : ℕ) (a : Asleep) → id < length old.terms → AreRead texts old s x id a → AreRead texts new s x id a
  read_same s x id (Frozen y g) l r = (image_same x.0 ∙ r.0, tree_same id l ∙ r.1)

  sleeper_same : (r s : Subst Text) (k : Waiting) (z : Sleeper) → IsSleeper texts old r s k z → IsSleeper texts new r s k z
  sleeper_same r s k z c = record {
    variable = c.variable;
    id = c.id;
    susp = c.susp;
    variable_live = omega (arith, c.variable_live, ap length images);
    live = live_still c.id c.live;
    reads = read_same s c.variable c.id z.asleep c.live c.reads;
    watched = c.watched;
  }

  sleepers_same : (r s : Subst Text) (ks : List Waiting) (zs : List Sleeper) → AllZip (IsSleeper texts old r s) ks zs → AllZip (IsSleeper texts new r s) ks zs
  sleepers_same r s [] [] z = z
  sleepers_same r s [] (y ∷ zs) z = absurd z
  sleepers_same r s (k ∷ ks) [] z = absurd z
  sleepers_same r s (k ∷ ks) (y ∷ zs) z = (sleeper_same r s k y z.0, sleepers_same r s ks zs z.1)

pub stands_grown : (texts : List Text) (c : Contents) (h : Terms) → IsPrefix c.heap.terms h.terms → h.images ≡ c.heap.images → KnowsTerms texts h.terms
    → (r s : Subst Text) (st : State) → Stands texts c r s st → Stands texts (with_heap h c) r s st
stands_grown texts c h terms images names r s st j = record {
  bindings = record {
    inside = λ v l. j.bindings.inside v (omega (arith, l, ap length images)) ∙ sym (image_same texts c.heap h terms images v);
    outside = λ v l. j.bindings.outside v (omega (arith, l, ap length images));
  };
  linear = j.linear;
  delayed = constraints_same texts c.heap h terms images r s (constraints c.attrs) st.delayed j.delayed;
  numeric = j.numeric;
  sleepers = sleepers_same texts c.heap h terms images r s (goals c.attrs) st.sleepers j.sleepers;
  fresh = ap length images ∙ j.fresh;
  names = names;
}

pub branch_grown : (texts : List Text) (c : Contents) (h : Terms) → IsPrefix c.heap.terms h.terms → h.images ≡ c.heap.images → KnowsTerms texts h.terms
    → (st : State) → IsBranch texts c st → IsBranch texts (with_heap h c) st
branch_grown texts c h terms images names st b = record {
  ready = record { stands = stands_grown texts c h terms images names st.bindings st.bindings st b.ready.stands; rests = b.ready.rests };
  fixed = b.fixed;
  fixes = b.fixes;
}

get_kept : (texts : List Text) (old new : List HeapTerm) (id : ℕ) (t : Tree) → IsPrefix old new → option_map (named (text_of texts)) (slice_get old id) ≡ Some t
    → option_map (named (text_of texts)) (slice_get new id) ≡ Some t
get_kept texts old new id t p e = subst (λ (ts : List HeapTerm). option_map (named (text_of texts)) (slice_get ts id) ≡ Some t) (sym p.1) (go old id e) where
  go : (ts : List HeapTerm) (i : ℕ) → option_map (named (text_of texts)) (slice_get ts i) ≡ Some t → option_map (named (text_of texts)) (slice_get (ts ++ p.0) i) ≡ Some t
  go [] i e = absurd (none-some t e)
  go (x ∷ ts) zero e = e
  go (x ∷ ts) (suc i) e = go ts i e

pub grown : (texts : List Text) (c : Contents) (h : Terms) → IsPrefix c.heap.terms h.terms → h.images ≡ c.heap.images → KnowsTerms texts h.terms
    → (old new : List (List Cell)) → KeepsLists old new → Grown texts (c, old) (with_heap h c, new)
grown texts c h terms images names old new keeps = record {
  state = λ st b. branch_grown texts c h terms images names st b;
  terms = λ id t e. get_kept texts c.heap.terms h.terms id t terms e;
  lists = keeps;
}
