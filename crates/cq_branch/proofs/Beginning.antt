-- A world of which nothing is known is the state of a query before its first goal. A term that was read reads as itself.
use Rattle.std.proofs.Common.{◌≡◌, ℕ, ◌≤◌, List, [], length, true, false, Some, refl, sym, ap, ◌∙◌, subst, arith}
use Rattle.std.specs.List.{AllZip}
use Rattle.std.specs.Prelude.{pos}
use Rattle.spec_linear.specs.Solution.{Constraint, Fixes}
use Rattle.spec_linear.proofs.Points.{all_at}
use Rattle.spec_numbers.specs.Texts.{Text}
use Rattle.spec_terms.specs.Term.{Var, identity, named}
use Rattle.spec_terms.proofs.Substitution.{apply-identity, apply_agree, occurs_from}
use Rattle.spec_syntax.specs.Trees.{Tree}
use Rattle.spec_branch.specs.Branch.{State, read}
use Rattle.spec_branch.specs.Alike.{no_values}
use Rattle.spec_branch.proofs.Idle.{fixes_nothing}
use Rattle.spec_search.specs.Search.{empty_state}
use Rattle.cq_term.specs.Texts.{text_of}
use Rattle.cq_attr.specs.Attributes.{Attributes, is_numeric}
use Rattle.cq_settle.specs.Contents.{Contents}
use Rattle.cq_settle.specs.Standing.{IsConstraint, IsSleeper, constraints, goals}
use Rattle.cq_settle.specs.Rest.{IsAtRest, IsReadThrough}
use Rattle.cq_branch.specs.Worlds.{IsBranch, term_in, ReadsAs, KnowsNothing}

-- ---- nothing is known

same_variable : (v w : ℕ) → identity {A = Text} v ≡ Var w → w ≤ v
same_variable v w e = let h : v ≡ w = cc in omega (arith, h)

no : false ≡ true → ⊥
no e = cc

empty_reads : (n : ℕ) → IsReadThrough (empty_state n)
empty_reads n = record {
  through = λ v w o. refl;
  older = λ v w e. same_variable v w e;
  below = λ v w l o. let h : w ≡ v = o in omega (arith, l, h);
  beyond = λ v l. refl;
  numeric = λ v e. absurd (no e);
}

empty_rests : (n : ℕ) → IsAtRest (empty_state n)
empty_rests n = record {
  read_through = empty_reads n;
  solvable = (all_at (pos 0), tt);
  fixed = λ v q e f. absurd (no e);
  no_clash = λ v e. absurd (no e);
  images = λ v w e f. absurd (no e);
  waiting = tt;
  delayed = tt;
  asleep = tt;
}

module _ (texts : List Text) (c : Contents) (k : KnowsNothing texts c) where
  abbrev st : State
  st = empty_state (length c.heap.images)

  none_waits : AllZip (IsConstraint texts c.heap identity identity) (constraints c.attrs) []
  none_waits = subst (λ (a : Attributes). AllZip (IsConstraint texts c.heap identity identity) (constraints a) []) (sym k.attrs) tt

  none_sleeps : AllZip (IsSleeper texts c.heap identity identity) (goals c.attrs) []
  none_sleeps = subst (λ (a : Attributes). AllZip (IsSleeper texts c.heap identity identity) (goals a) []) (sym k.attrs) tt

  pub begins : IsBranch texts c st
  begins = record {
    ready = record {
      stands = record {
        bindings = record { inside = λ v l. ap (named (text_of texts)) (sym (k.images v l)); outside = λ v l. refl };
        linear = k.told;
        delayed = none_waits;
        numeric = λ v. ap (λ (a : Attributes). is_numeric a v) k.attrs;
        sleepers = none_sleeps;
        fresh = refl;
        names = k.names;
      };
      rests = empty_rests (length c.heap.images);
    };
    fixed = no_values;
    fixes = subst (λ (l : List Constraint). Fixes l no_values) (sym k.told) fixes_nothing;
  }

-- ---- a term that was read

pub read_again : (texts : List Text) (c : Contents) (st : State) → IsBranch texts c st → (t : Tree) → read st (read st t) ≡ read st t
read_again texts c st b t =
    apply_agree st.bindings identity (read st t) (λ w o. let r = occurs_from st.bindings w t o in b.ready.rests.read_through.through r.0 w r.2)
    ∙ apply-identity (read st t)

pub reads_again : (texts : List Text) (c : Contents) (st : State) (id : ℕ) (t : Tree) → IsBranch texts c st → term_in texts c id ≡ Some (read st t) → ReadsAs texts c st id (read st t)
reads_again texts c st id t b e = (e, read_again texts c st b t)
