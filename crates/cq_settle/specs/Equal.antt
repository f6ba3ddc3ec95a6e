-- Pairs of terms that were made equal, and the work that settling has then to do.
use Rattle.std.specs.Prelude.{◌≡◌, ◌≢◌, ◌↔◌, ℕ, ◌<◌, List, map, length, All, Contains}
use Rattle.std.specs.List.{AllPairs}
use Rattle.spec_linear.specs.Solution.{Constraint}
use Rattle.spec_numbers.specs.Texts.{Text}
use Rattle.spec_terms.specs.Names.{named_pairs}
use Rattle.spec_terms.specs.Term.{Subst, apply, followed_by}
use Rattle.spec_terms.specs.Unifier.{IsUnifier, read_under}
use Rattle.spec_syntax.specs.Trees.{Tree}
use Rattle.spec_branch.specs.Branch.{State, Pending, no_work, read}
use Rattle.cq_term.specs.Texts.{text_of}
use Rattle.cq_frac.specs.declared.VarId.{VarId}
use Rattle.cq_term.specs.HeapValue.{Terms}
use Rattle.cq_term.specs.Trees.{tree, trees}
use Rattle.cq_unify.specs.Unified.{IsNewlyBound}
use Rattle.cq_term.specs.Pairs.{equations}
use Rattle.cq_term.specs.declared.walk.pairs.Pair.{Pair}
use Rattle.cq_settle.specs.Contents.{Contents}
use Rattle.cq_settle.specs.Called.{IsCalled}
use Rattle.cq_settle.specs.Ready.{MayBeTold, with_terms}

-- both terms are there, and are read through the bindings
abbrev pub MayBeEqual : Terms → Pair → Type 0
MayBeEqual h p = MayBeTold h p.left × MayBeTold h p.right

-- All terms are read under the unifier of the pairs, and these variables are those that were bound.
pub record AllEqual (old new : Terms) (pairs : List Pair) (bound : List VarId) : Type 0 where
  pub read_through : All (MayBeEqual old) pairs
  pub unifier : Subst ℕ
  pub unifies : IsUnifier (equations old.terms pairs) unifier
  pub terms : new.terms ≡ map (apply unifier) old.terms
  pub images : new.images ≡ map (apply unifier) old.images
  pub newly : (v : VarId) → Contains bound v ↔ IsNewlyBound old new v
  pub once : AllPairs ◌≢◌ bound

-- the work of a branch in the state: these pairs are to be made equal, and these terms and rows to be told
pub record IsWork (texts : List Text) (c : Contents) (st : State) (pairs : List Pair) (told : List ℕ) (rows : List Constraint) (p : Pending) : Type 0 where
  pub pairs_are : read_under st.bindings p.equations ≡ named_pairs (text_of texts) (equations c.heap.terms pairs)
  pub told_are : map (read st) p.told ≡ trees texts c.heap.terms told
  pub rows_are : rows ≡ p.rows

-- such work, with the terms as they read
abbrev pub work_of : List Text → Contents → List Pair → List ℕ → List Constraint → Pending
work_of texts c pairs told rows =
    record no_work { equations = named_pairs (text_of texts) (equations c.heap.terms pairs); rows = rows; told = trees texts c.heap.terms told }

-- Settling of the work is called for in a world with the terms h, by a unifier under which each older term is read on.
pub record CallsFor (texts : List Text) (c : Contents) (h : Terms) (newly : List VarId) (told : List ℕ) (rows : List Constraint) (st : State) (p : Pending)
    : Type 0 where
  pub unifier : Subst Text
  pub called : IsCalled texts (with_terms c h) newly told rows st p unifier
  pub reads : (id : ℕ) (t : Tree) → id < length c.heap.terms → tree texts c.heap.terms id ≡ apply st.bindings t
      → tree texts h.terms id ≡ apply (followed_by st.bindings unifier) t
