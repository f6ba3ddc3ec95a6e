-- A world is the state of the same branches where names are added.
use Rattle.std.proofs.Common.{◌≡◌, ◌<◌, ℕ, List, [], ◌∷◌, length, Some, refl, sym, ◌∙◌}
use Rattle.std.specs.List.{AllZip}
use Rattle.std.proofs.lemmas.List.Elements.{All-weaker}
use Rattle.spec_numbers.specs.Prefixes.{IsPrefix}
use Rattle.spec_numbers.proofs.Prefixes.{prefix_same, prefix_length}
use Rattle.spec_numbers.specs.Texts.{Text}
use Rattle.spec_terms.specs.Term.{Subst}
use Rattle.spec_syntax.specs.Trees.{Tree}
use Rattle.spec_branch.specs.Branch.{State, Asleep, Frozen, Sleeper}
use Rattle.cq_attr.specs.Attributes.{Waiting}
use Rattle.cq_built.proofs.Trees.{tree_kept}
use Rattle.cq_frac.specs.declared.VarId.{VarId}
use Rattle.cq_term.specs.HeapValue.{Terms}
use Rattle.cq_term.specs.Meaning.{HeapTerm}
use Rattle.cq_term.specs.Names.{HasNamesBelow, HasNamesOfTerms}
use Rattle.cq_term.specs.Trees.{tree, KnowsTerms}
use Rattle.cq_term.proofs.Known.{names_more}
use Rattle.cq_settle.specs.Contents.{Contents}
use Rattle.cq_settle.specs.Standing.{Stands, AreRead, IsConstraint, IsSleeper, constraints, goals}
use Rattle.cq_branch.specs.Worlds.{IsBranch, term_in}
use Rattle.cq_branch.proofs.Added.{tree_is}
use Rattle.cq_branch.proofs.Reading.{read_live, tree_read}

module _ (texts more : List Text) (longer : IsPrefix texts more) where
  pub tree_named : (ts : List HeapTerm) → KnowsTerms texts ts → (id : ℕ) → id < length ts → tree more ts id ≡ tree texts ts id
  tree_named ts known id l = tree_kept texts more ts ts longer (prefix_same ts ts refl) known id l

  pub known_more : (ts : List HeapTerm) → KnowsTerms texts ts → KnowsTerms more ts
  known_more ts known =
      All-weaker (HasNamesBelow (length texts)) (HasNamesBelow (length more)) (names_more (length texts) (length more) (prefix_length texts more longer)) ts known

  -- ---- a world

  module _ (h : Terms) (terms : KnowsTerms texts h.terms) (images : KnowsTerms texts h.images) where
    constraint_named : (r s : Subst Text) (k : Waiting) (t : Tree) → IsConstraint texts h r s k t → IsConstraint more h r s k t
    constraint_named r s k t c = record { id = c.id; susp = c.susp; live = c.live; reads = tree_named h.terms terms c.id c.live ∙ c.reads; watched = c.watched }

    constraints_named : (r s : Subst Text) (ks : List Waiting) (ts : List Tree) → AllZip (IsConstraint texts h r s) ks ts → AllZip (IsConstraint more h r s) ks ts
    constraints_named r s [] [] z = z
    constraints_named r s [] (t ∷ ts) z = absurd z
    constraints_named r s (k ∷ ks) [] z = absurd z
    constraints_named r s (k ∷ ks) (t ∷ ts) z = (constraint_named r s k t z.0, constraints_named r s ks ts z.1)

    read_named : (s : Subst Text) (x : VarId) (id : ℕ) (a : Asleep) → x.0 < length h.images → id < length h.terms → AreRead texts h s x id a → AreRead more h s x id a
    read_named s x id (Frozen y g) lx l r = (tree_named h.images images x.0 lx ∙ r.0, tree_named h.terms terms id l ∙ r.1)

    sleeper_named : (r s : Subst Text) (k : Waiting) (z : Sleeper) → IsSleeper texts h r s k z → IsSleeper more h r s k z
    sleeper_named r s k z c = record {
      variable = c.variable;
      id = c.id;
      susp = c.susp;
      variable_live = c.variable_live;
      live = c.live;
      reads = read_named s c.variable c.id z.asleep c.variable_live c.live c.reads;
      watched = c.watched;
    }

    sleepers_named : (r s : Subst Text) (ks : List Waiting) (zs : List Sleeper) → AllZip (IsSleeper texts h r s) ks zs → AllZip (IsSleeper more h r s) ks zs
    sleepers_named r s [] [] z = z
    sleepers_named r s [] (y ∷ zs) z = absurd z
    sleepers_named r s (k ∷ ks) [] z = absurd z
    sleepers_named r s (k ∷ ks) (y ∷ zs) z = (sleeper_named r s k y z.0, sleepers_named r s ks zs z.1)

  stands_named : (c : Contents) → HasNamesOfTerms c.heap → (r s : Subst Text) (st : State) → Stands texts c r s st → Stands more c r s st
  stands_named c known r s st j =
      let images = known (length texts) j.names in
      record {
        bindings = record {
          inside = λ v l. j.bindings.inside v l ∙ sym (tree_named c.heap.images images v l);
          outside = j.bindings.outside;
        };
        linear = j.linear;
        delayed = constraints_named c.heap j.names images r s (constraints c.attrs) st.delayed j.delayed;
        numeric = j.numeric;
        sleepers = sleepers_named c.heap j.names images r s (goals c.attrs) st.sleepers j.sleepers;
        fresh = j.fresh;
        names = known_more c.heap.terms j.names;
      }

  pub branch_named : (c : Contents) (st : State) → HasNamesOfTerms c.heap → IsBranch texts c st → IsBranch more c st
  branch_named c st known b = record {
    ready = record { stands = stands_named c known st.bindings st.bindings st b.ready.stands; rests = b.ready.rests };
    fixed = b.fixed;
    fixes = b.fixes;
  }

  pub term_named : (c : Contents) (st : State) → IsBranch texts c st → (id : ℕ) (t : Tree) → term_in texts c id ≡ Some t → term_in more c id ≡ Some t
  term_named c st b id t e =
      let l = read_live texts c.heap.terms id t e in
      tree_read more c.heap.terms id t l (tree_named c.heap.terms b.ready.stands.names id l ∙ tree_is texts c.heap.terms id t e)
