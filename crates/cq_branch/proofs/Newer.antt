-- A world to whose heap terms and new variables were added is the state with as many more variables.
use Rattle.std.proofs.Common.{◌≡◌, ◌<◌, ◌≤◌, ◌+◌, ◌-◌, ℕ, List, [], ◌∷◌, ◌++◌, length, Some, sym, ap, ◌∙◌, subst, arith, inl, inr, ◌⊎◌}
use Rattle.std.specs.List.{AllZip}
use Rattle.std.proofs.lemmas.Bool.{cases_lt}
use Rattle.std.proofs.lemmas.List.{get_or_append_left}
use Rattle.spec_numbers.specs.Prefixes.{IsPrefix}
use Rattle.spec_numbers.proofs.Prefixes.{prefix_get_or, prefix_within}
use Rattle.spec_numbers.specs.Texts.{Text}
use Rattle.spec_terms.specs.Term.{Subst, Var, Occurs, named}
use Rattle.spec_syntax.specs.Trees.{Tree}
use Rattle.spec_branch.specs.Branch.{State, Asleep, Frozen, Sleeper}
use Rattle.spec_search.specs.Replies.{with_new}
use Rattle.cq_term.specs.Texts.{text_of}
use Rattle.cq_attr.specs.Attributes.{Waiting}
use Rattle.cq_frac.specs.declared.VarId.{VarId}
use Rattle.cq_resolve.proofs.Renamed.{new_image}
use Rattle.cq_term.specs.HeapValue.{Terms}
use Rattle.cq_term.specs.Meaning.{HeapTerm, at, blank}
use Rattle.cq_term.specs.Trees.{tree, KnowsTerms}
use Rattle.cq_unify.specs.Copied.{unbound_from}
use Rattle.cq_unify.proofs.Places.{variables_now}
use Rattle.cq_settle.specs.Contents.{Contents}
use Rattle.cq_settle.specs.Rest.{IsReadThrough, IsAtRest, IsReadyAs}
use Rattle.cq_settle.specs.Standing.{Stands, AreRead, IsConstraint, IsSleeper, constraints, goals}
use Rattle.cq_branch.specs.Worlds.{IsBranch, term_in, with_heap}
use Rattle.cq_branch.proofs.Added.{tree_is}
use Rattle.cq_branch.proofs.Reading.{read_live, tree_read}

module _ (texts : List Text) (old new : Terms) (n : ℕ) (terms : IsPrefix old.terms new.terms) (images : new.images ≡ old.images ++ unbound_from (length old.images) n) where
  pub more_images : length new.images ≡ length old.images + n
  more_images = variables_now old.images new.images n images

  tree_same : (id : ℕ) → id < length old.terms → tree texts new.terms id ≡ tree texts old.terms id
  tree_same id l = ap (named (text_of texts)) (prefix_get_or old.terms new.terms id blank terms l)

  image_same : (v : ℕ) → v < length old.images → tree texts new.images v ≡ tree texts old.images v
  image_same v l =
      ap (named (text_of texts)) (ap (λ (ts : List HeapTerm). at ts v) images ∙ get_or_append_left old.images (unbound_from (length old.images) n) blank v l)

  image_new : (v : ℕ) → length old.images ≤ v → v < length new.images → tree texts new.images v ≡ Var v
  image_new v m l =
      let here : length old.images + (v - length old.images) ≡ v = omega (arith, m) in
      let few : v - length old.images < n = omega (arith, m, l, more_images) in
      subst (λ (x : ℕ). tree texts new.images x ≡ Var x) here
      (ap (named (text_of texts)) (new_image old.images new.images n (v - length old.images) images few))

  constraint_same : (r s : Subst Text) (k : Waiting) (t : Tree) → IsConstraint texts old r s k t → IsConstraint texts new r s k t
  constraint_same r s k t c = record { id = c.id; susp = c.susp; live = prefix_within old.terms new.terms c.id terms c.live; reads = tree_same c.id c.live ∙ c.reads; watched = c.watched }

  constraints_same : (r s : Subst Text) (ks : List Waiting) (ts : List Tree) → AllZip (IsConstraint texts old r s) ks ts → AllZip (IsConstraint texts new r s) ks ts
  constraints_same r s [] [] z = z
  constraints_same r s [] (t ∷ ts) z = absurd z
  constraints_same r s (k ∷ ks) [] z = absurd z
  constraints_same r s (k ∷ ks) (t ∷ ts) z = (constraint_same r s k t z.0, constraints_same r s ks ts z.1)

  read_same : (s : Subst Text) (x : VarId) (id : ℕ) (a : Asleep) → x.0 < length old.images → id < length old.terms → AreRead texts old s x id a → AreRead texts new s x id a
  read_same s x id (Frozen y g) lx l r = (image_same x.0 lx ∙ r.0, tree_same id l ∙ r.1)

  sleeper_same : (r s : Subst Text) (k : Waiting) (z : Sleeper) → IsSleeper texts old r s k z → IsSleeper texts new r s k z
  sleeper_same r s k z c = record {
    variable = c.variable;
    id = c.id;
    susp = c.susp;
    variable_live = omega (arith, c.variable_live, more_images);
    live = prefix_within old.terms new.terms c.id terms c.live;
    reads = read_same s c.variable c.id z.asleep c.variable_live c.live c.reads;
    watched = c.watched;
  }

  sleepers_same : (r s : Subst Text) (ks : List Waiting) (zs : List Sleeper) → AllZip (IsSleeper texts old r s) ks zs → AllZip (IsSleeper texts new r s) ks zs
  sleepers_same r s [] [] z = z
  sleepers_same r s [] (y ∷ zs) z = absurd z
  sleepers_same r s (k ∷ ks) [] z = absurd z
  sleepers_same r s (k ∷ ks) (y ∷ zs) z = (sleeper_same r s k y z.0, sleepers_same r s ks zs z.1)

-- ---- the state with more variables

module _ (st : State) (n : ℕ) (r : IsReadThrough st) where
  below_by : (v w : ℕ) → v < st.fresh + n → Occurs w (st.bindings v) → (v < st.fresh) ⊎ (st.fresh ≤ v) → w < st.fresh + n
  below_by v w l o (inl early) = omega (arith, r.below v w early o)
  below_by v w l o (inr late) = let same : w ≡ v = subst (λ (t : Tree). Occurs w t) (r.beyond v late) o in omega (arith, l, same)

  pub reads_more : IsReadThrough (with_new n st)
  reads_more = record {
    through = r.through;
    older = r.older;
    below = λ v w l o. below_by v w l o (cases_lt v st.fresh);
    beyond = λ v l. r.beyond v (omega (arith, l));
    numeric = λ v e. omega (arith, r.numeric v e);
  }

pub rests_more : (st : State) (n : ℕ) → IsAtRest st → IsAtRest (with_new n st)
rests_more st n r = record {
  read_through = reads_more st n r.read_through;
  solvable = r.solvable;
  fixed = r.fixed;
  no_clash = r.no_clash;
  images = r.images;
  waiting = r.waiting;
  delayed = r.delayed;
  asleep = r.asleep;
}

module _ (texts : List Text) (c : Contents) (h : Terms) (n : ℕ) (terms : IsPrefix c.heap.terms h.terms) (images : h.images ≡ c.heap.images ++ unbound_from (length c.heap.images) n)
    (names : KnowsTerms texts h.terms) where
  module _ (st : State) (r : IsReadyAs texts c st) where
    abbrev stands : Stands texts c st.bindings st.bindings st
    stands = r.stands

    inside_by : (v : ℕ) → v < length h.images → (v < length c.heap.images) ⊎ (length c.heap.images ≤ v) → st.bindings v ≡ tree texts h.images v
    inside_by v l (inl early) = stands.bindings.inside v early ∙ sym (image_same texts c.heap h n terms images v early)
    inside_by v l (inr late) = stands.bindings.outside v late ∙ sym (image_new texts c.heap h n terms images v late l)

    outside : (v : ℕ) → length h.images ≤ v → st.bindings v ≡ Var v
    outside v l = stands.bindings.outside v (omega (arith, l, more_images texts c.heap h n terms images))

    pub ready_more : IsReadyAs texts (with_heap h c) (with_new n st)
    ready_more = record {
      stands = record {
        bindings = record { inside = λ v l. inside_by v l (cases_lt v (length c.heap.images)); outside = outside };
        linear = stands.linear;
        delayed = constraints_same texts c.heap h n terms images st.bindings st.bindings (constraints c.attrs) st.delayed stands.delayed;
        numeric = stands.numeric;
        sleepers = sleepers_same texts c.heap h n terms images st.bindings st.bindings (goals c.attrs) st.sleepers stands.sleepers;
        fresh = more_images texts c.heap h n terms images ∙ ap (λ (m : ℕ). m + n) stands.fresh;
        names = names;
      };
      rests = rests_more st n r.rests;
    }

  pub branch_more : (st : State) → IsBranch texts c st → IsBranch texts (with_heap h c) (with_new n st)
  branch_more st b = record { ready = ready_more st b.ready; fixed = b.fixed; fixes = b.fixes }

  -- each term is read as it was
  pub read_still : (id : ℕ) (t : Tree) → term_in texts c id ≡ Some t → term_in texts (with_heap h c) id ≡ Some t
  read_still id t e =
      let l = read_live texts c.heap.terms id t e in
      tree_read texts h.terms id t (prefix_within c.heap.terms h.terms id terms l)
      (tree_same texts c.heap h n terms images id l ∙ tree_is texts c.heap.terms id t e)
