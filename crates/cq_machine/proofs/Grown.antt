-- Errors and choices of a machine to which more was built.
use Rattle.std.proofs.Common.{inl, inr, ◌≡◌, ◌<◌, ℕ, List, length, Some, refl, sym, ap, subst}
use Rattle.std.specs.Prelude.{slice_get}
use Rattle.std.specs.List.{AllByRecursion}
use Rattle.std.specs.Option.{option_map}
use Rattle.spec_numbers.specs.Texts.{Text}
use Rattle.spec_terms.specs.Term.{Name, named}
use Rattle.spec_syntax.specs.Trees.{Tree}
use Rattle.spec_builtins.specs.Built.{compound2, compound3}
use Rattle.spec_branch.specs.Branch.{State}
use Rattle.cq_term.specs.Texts.{text_of}
use Rattle.cq_built.specs.Errors.{type_name, domain_name, action_name, object_name, culprit_tree, error_tree, IsThere, HasCulprit}
use Rattle.cq_built.specs.declared.errors.Culprit.{Culprit}
use Rattle.cq_built.specs.declared.errors.Culprit.TheVariants as culprit
use Rattle.cq_built.specs.declared.errors.BuiltinError.{BuiltinError}
use Rattle.cq_built.specs.declared.errors.BuiltinError.TheVariants as error
use Rattle.cq_resolve.specs.Database.{Program}
use Rattle.cq_term.specs.Meaning.{HeapTerm}
use Rattle.cq_term.specs.Trees.{tree, KnowsTerms}
use Rattle.cq_settle.specs.Contents.{Contents}
use Rattle.spec_engine.specs.Cells.{Value}
use Rattle.cq_branch.specs.declared.alternatives.Alternatives.{Alternatives}
use Rattle.cq_branch.specs.Choices.{CanBeTried, AreOpen}
use Rattle.cq_branch.specs.Worlds.{IsBranch, Grown}
use Rattle.cq_branch.proofs.Added.{tree_is}
use Rattle.cq_branch.proofs.Reading.{read_live, tree_read}
use Rattle.cq_relations.specs.Goals.{LeavesOneAtMost}

-- ---- terms and errors

module _ (texts : List Text) (old new : Value Contents) (g : Grown texts old new) where
  abbrev ts : List HeapTerm
  ts = old.0.heap.terms

  abbrev us : List HeapTerm
  us = new.0.heap.terms

  still : (id : ℕ) → id < length ts → option_map (named (text_of texts)) (slice_get us id) ≡ Some (tree texts ts id)
  still id l = g.terms id (tree texts ts id) (tree_read texts ts id (tree texts ts id) l refl)

  culprit_still : (c : Culprit) → IsThere texts ts c → culprit_tree texts us c ≡ culprit_tree texts ts c
  culprit_still (culprit.Term id) l = tree_is texts us id (tree texts ts id) (still id l)
  culprit_still (culprit.Number q) l = refl
  culprit_still (culprit.Predicate p) l = refl

  there_still : (c : Culprit) → IsThere texts ts c → IsThere texts us c
  there_still (culprit.Term id) l = read_live texts us id (tree texts ts id) (still id l)
  there_still (culprit.Number q) l = l
  there_still (culprit.Predicate p) l = l

  pub error_still : (e : BuiltinError) → HasCulprit texts ts e → error_tree texts us e ≡ error_tree texts ts e
  error_still error.Instantiation h = refl
  error_still (error.Type k c) h = ap (λ (t : Tree). compound2 "type_error" (Name (type_name k)) t) (culprit_still c h)
  error_still (error.Domain k c) h = ap (λ (t : Tree). compound2 "domain_error" (Name (domain_name k)) t) (culprit_still c h)
  error_still (error.Representation k) h = refl
  error_still (error.Permission k c) h = ap (λ (t : Tree). compound3 "permission_error" (Name (action_name k)) (Name (object_name k)) t) (culprit_still c h)
  error_still (error.UnknownProcedure p) h = refl
  error_still error.ZeroDivisor h = refl
  error_still error.IllegalNumber h = refl

  pub culprit_on : (e : BuiltinError) → HasCulprit texts ts e → HasCulprit texts us e
  culprit_on error.Instantiation h = h
  culprit_on (error.Type k c) h = there_still c h
  culprit_on (error.Domain k c) h = there_still c h
  culprit_on (error.Representation k) h = h
  culprit_on (error.Permission k c) h = there_still c h
  culprit_on (error.UnknownProcedure p) h = h
  culprit_on error.ZeroDivisor h = h
  culprit_on error.IllegalNumber h = h

  -- the names of the terms are known, as the world is the state of a branch
  pub names_grown : (st : State) → IsBranch texts old.0 st → KnowsTerms texts us
  names_grown st b = (g.state st b).ready.stands.names

-- ---- choices

abbrev Tried : List Text → Program → Value Contents × Alternatives → Type 0
Tried texts v c = CanBeTried texts v c.0.0.heap.terms c.1

-- the same choices, or one more
pub open_left : (texts : List Text) (v : Program) (marks : List (Value Contents)) (choices : List Alternatives) (now : Value Contents) (more : List (Value Contents)) (after : List Alternatives)
    → LeavesOneAtMost marks choices now more after → AreOpen texts v marks choices → AreOpen texts v more after
open_left texts v marks choices now more after (inl e) o = subst (λ (cs : List (Value Contents × Alternatives)). AllByRecursion (Tried texts v) cs) (sym e) o
open_left texts v marks choices now more after (inr (k, e)) o = subst (λ (cs : List (Value Contents × Alternatives)). AllByRecursion (Tried texts v) cs) (sym e) (tt, o)

pub open_same : (texts : List Text) (v : Program) (marks more : List (Value Contents)) (choices after : List Alternatives) → more ≡ marks → after ≡ choices
    → AreOpen texts v marks choices → AreOpen texts v more after
open_same texts v marks more choices after e f o =
    subst (λ (cs : List Alternatives). AreOpen texts v more cs) (sym f) (subst (λ (l : List (Value Contents)). AreOpen texts v l choices) (sym e) o)
