-- Where nothing is left to settle, constraints may be told; and what a settling leaves is settled.
use Rattle.std.proofs.Common.{◌≡◌, ◌<◌, ◌≤◌, ℕ, List, [], ◌∷◌, length, map, true, refl, sym, ap, ap₂, ◌∙◌, subst, arith}
use Rattle.std.specs.Prelude.{All, not, ◌==◌}
use Rattle.std.proofs.lemmas.Bool.{true≢false}
use Rattle.std.proofs.lemmas.List.Elements.{All-head, All-tail}
use Rattle.spec_linear.specs.Solution.{Constraint}
use Rattle.spec_numbers.specs.Texts.{Text}
use Rattle.spec_numbers.proofs.Tests.{nat_eq-self}
use Rattle.spec_terms.specs.Term.{Subst, Var, Occurs, apply, identity, followed_by, named}
use Rattle.spec_terms.specs.Unifier.{IsUnifier}
use Rattle.spec_terms.proofs.Substitution.{apply-identity, apply_agree}
use Rattle.spec_branch.specs.Branch.{State, Pending, no_work}
use Rattle.cq_term.specs.Texts.{text_of}
use Rattle.cq_frac.specs.declared.VarId.{VarId}
use Rattle.cq_term.specs.HeapValue.{Terms}
use Rattle.cq_term.specs.Meaning.{at}
use Rattle.cq_term.specs.Trees.{tree, trees, KnowsTerms}
use Rattle.cq_settle.specs.Contents.{Contents}
use Rattle.cq_settle.specs.Standing.{AreImages, Stands}
use Rattle.cq_settle.specs.Rest.{IsReadThrough, IsReadyAs, IsReady}
use Rattle.cq_settle.specs.Called.{IsCalled, SomeIsCalled, OfCalls}
use Rattle.cq_settle.specs.Settled.{IsKept}
use Rattle.cq_settle.specs.Ready.{MayBeTold}
use Rattle.cq_settle.proofs.Names.{occurs_named}

-- a term that is read through is itself under the bindings
module _ (texts : List Text) (h : Terms) (s : Subst Text) (images : AreImages texts h.images s) where
  unbound : (id : ℕ) → MayBeTold h id → (v : ℕ) → Occurs v (tree texts h.terms id) → s v ≡ Var v
  unbound id m v o =
      let i = m.inside v (occurs_named (text_of texts) v (at h.terms id) o) in
      images.inside v i.0 ∙ ap (named (text_of texts)) i.1

  pub itself : (id : ℕ) → MayBeTold h id → tree texts h.terms id ≡ apply s (tree texts h.terms id)
  itself id m = sym (apply_agree s identity (tree texts h.terms id) (unbound id m) ∙ apply-identity (tree texts h.terms id))

  pub themselves : (ids : List ℕ) → All (MayBeTold h) ids → trees texts h.terms ids ≡ map (apply s) (trees texts h.terms ids)
  themselves [] m = refl
  themselves (id ∷ ids) m = ap₂ (λ t ts. t ∷ ts) (itself id (All-head (MayBeTold h) id ids m)) (themselves ids (All-tail (MayBeTold h) id ids m))

pub live : (h : Terms) (ids : List ℕ) → All (MayBeTold h) ids → All (λ id. id < length h.terms) ids
live h ids m i d l = (m i d l).live

module _ (texts : List Text) (c : Contents) (told : List ℕ) (rows : List Constraint) (st : State) (r : IsReadyAs texts c st) (m : All (MayBeTold c.heap) told) where
  same : followed_by st.bindings identity ≡ st.bindings
  same = λ i v. apply-identity (st.bindings v) i

  pending : Pending
  pending = record no_work { rows = rows; told = trees texts c.heap.terms told }

  is_unifier : IsUnifier {A = Text} [] identity
  is_unifier = record { unifies = tt; general = λ s e v. refl; oldest = λ v w e. let h : v ≡ w = cc in omega (arith, h) }

  unbound_itself : (v : ℕ) → not (v == v) ≡ true → ⊥
  unbound_itself v e = true≢false (sym e ∙ ap not (nat_eq-self v))

  called : IsCalled texts c [] told rows st pending identity
  unfolding pending
  called = record {
    rests = r.rests;
    unifier = is_unifier;
    read_through = subst (λ (s : Subst Text). IsReadThrough (record st { bindings = s })) (sym same) r.rests.read_through;
    stands = subst (λ (s : Subst Text). Stands texts c st.bindings s st) (sym same) r.stands;
    once = λ i j d l o. absurd (omega (arith, l, o));
    bound = λ i d l. absurd (omega (arith, l));
    numeric = λ v n b. absurd (unbound_itself v b.binds);
    awaited = λ v n w b. absurd (unbound_itself v b.binds);
    told_live = live c.heap told m;
    told_reads = themselves texts c.heap st.bindings r.stands.bindings told m ∙ ap (λ (s : Subst Text). map (apply s) (trees texts c.heap.terms told)) (sym same);
    rows_are = refl;
  }

  is_called : SomeIsCalled texts c [] told rows
  is_called = record { state = st; pending = pending; unifier = identity; is = called }

pub may_be_told : (texts : List Text) (c : Contents) (told : List ℕ) (rows : List Constraint) → IsReady texts c → All (MayBeTold c.heap) told → SomeIsCalled texts c [] told rows
may_be_told texts c told rows r m = is_called texts c told rows r.0 r.1 m

-- what a settling leaves
module _ (texts : List Text) (old new : Contents) (newly : List VarId) (told : List ℕ) (rows : List Constraint) (goals : List ℕ)
    (s : SomeIsCalled texts old newly told rows) (k : OfCalls texts old newly told rows (λ st p u. IsKept texts old new goals st p u)) where
  kept : IsKept texts old new goals s.state s.pending s.unifier
  kept = k s.state s.pending s.unifier s.is

  pub left_ready : IsReady texts new
  left_ready = (_, kept.ready)

  pub left_live : (length old.heap.terms ≤ length new.heap.terms) × (length new.heap.images ≡ length old.heap.images)
  left_live = (kept.live, kept.ready.stands.fresh ∙ sym s.is.stands.fresh)

  pub left_goals : All (λ id. id < length new.heap.terms) goals
  left_goals = kept.goals_live

pub ready_names : (texts : List Text) (c : Contents) → IsReady texts c → KnowsTerms texts c.heap.terms
ready_names texts c r = r.1.stands.names
