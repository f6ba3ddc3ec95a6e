-- What the rows lead to, by how the one child's branch was begun.
use Rattle.std.proofs.Common.{◌≡◌, ℕ, List, [], ◌∷◌, None, Some, refl, sym, ap, subst, arith}
use Rattle.std.specs.Prelude.{All, IfOk, Ok, Err}
use Rattle.std.specs.declared.result.Result.{Result}
use Rattle.std.proofs.lemmas.List.Elements.{All-cons}
use Rattle.spec_numbers.specs.Texts.{Text}
use Rattle.spec_branch.specs.Branch.{State, Branch, Pending}
use Rattle.spec_search.specs.Replies.{Place, child, made, makes}
use Rattle.spec_search.specs.Search.{look_at}
use Rattle.cq_store.specs.declared.store.StoreFault.{StoreFault}
use Rattle.cq_term.specs.HeapValue.{Terms}
use Rattle.cq_term.specs.declared.walk.pairs.Pair.{Pair}
use Rattle.cq_settle.specs.Contents.{Contents}
use Rattle.cq_settle.specs.Rest.{IsReadyAs}
use Rattle.cq_settle.specs.Equal.{MayBeEqual, IsWork}
use Rattle.cq_settle.specs.Ready.{MayBeTold}
use Rattle.spec_engine.specs.Cells.{Value, Stack}
use Rattle.spec_engine.proofs.Made.{child_kept, child_pruned}
use Rattle.cq_branch.specs.Worlds.{IsBranch, term_in, Placed, Leads}
use Rattle.cq_branch.specs.declared.begin.beginning.Begun.{Begun}
use Rattle.cq_branch.specs.declared.begin.beginning.Begun.TheVariants.{Goes, Pruned}
use Rattle.cq_branch.specs.Begun.{goes_to, IfGoes, IfPruned, OfWork, AtPlaces, IsBegun, GoesOn, Prunes}

module _ (texts : List Text) (choices : Stack Contents) (old new : Value Contents) (rest : ℕ) (p : Place) (behind : List Branch)
    (place : Placed texts choices old rest p behind) (work : Pending) (removes : work.removes ≡ None) (ball : work.ball ≡ None) where
  abbrev one_child : List Branch
  one_child = child p.rest p.state work ∷ []

  -- the child is kept
  pub leads_on : (k : ℕ) → IsBegun texts choices old new k p.rest p.state work → Leads texts choices new (Some k) p behind (makes p one_child)
  leads_on k b = record {
    made = made p one_child;
    row = refl;
    database = refl;
    output = refl;
    comes = λ steps s d e. child_kept (IsBranch texts) (term_in texts) steps p.database s.selected choices new k s p.rest p.state work behind d refl (ap look_at e) removes
        b.left b.state b.settles b.continuation place.1;
  }

  -- it is pruned
  pub leads_back : Prunes p.state work → Leads texts choices new None p behind (makes p one_child)
  leads_back q = record {
    made = made p one_child;
    row = refl;
    database = refl;
    output = refl;
    comes = λ steps s d e. child_pruned (IsBranch texts) (term_in texts) steps p.database s.selected choices new s p.rest p.state work behind d refl (ap look_at e) ball
        q.0 (q.1 p.rest) place.1;
  }

-- ---- rows

module _ (texts : List Text) (old new : Value Contents) (rest : ℕ) (pairs : List Pair) (told : List ℕ) (work : Pending) (removes : work.removes ≡ None) (ball : work.ball ≡ None)
    (is_work : (st : State) → IsReadyAs texts old.0 st → IsWork texts old.0 st pairs told [] work) where
  abbrev LeadsBy : Begun → Type 0
  LeadsBy b = (choices : Stack Contents) (p : Place) (behind : List Branch) → Placed texts choices old rest p behind
      → Leads texts choices new (goes_to b) p behind (makes p (child p.rest p.state work ∷ []))

  row_by : (b : Begun) → IfGoes b (GoesOn texts old new pairs told rest) → IfPruned b (OfWork texts old.0 pairs told Prunes) → LeadsBy b
  row_by (Goes k) g q choices p behind place =
      let r = place.0.continuation.state.ready in
      leads_on texts choices old new rest p behind place work removes ball k (g choices p.rest p.state work place.0.continuation (is_work p.state r))
  row_by Pruned g q choices p behind place =
      let r = place.0.continuation.state.ready in leads_back texts choices old new rest p behind place work removes ball (q p.state work r (is_work p.state r))

  pub row_ok : (result : Result Begun StoreFault) → IfOk result (λ b. IfGoes b (GoesOn texts old new pairs told rest))
      → IfOk result (λ b. IfPruned b (OfWork texts old.0 pairs told Prunes)) → IfOk result LeadsBy
  row_ok (Ok b) g q = row_by b g q
  row_ok (Err e) g q = tt

  pub at_places : (P : State → Pending → Type 0) → OfWork texts old.0 pairs told P → AtPlaces texts old rest (λ st. P st work)
  at_places P o choices p behind place = let r = place.0.continuation.state.ready in o p.state work r (is_work p.state r)

-- no terms are to be told
pub none_told : (h : Terms) (told : List ℕ) → told ≡ [] → All (MayBeTold h) told
none_told h told e = subst (λ (l : List ℕ). All (MayBeTold h) l) (sym e) (λ i d l. absurd (omega (arith, l)))

-- no pairs are to be equal
pub no_pairs : (h : Terms) → All (MayBeEqual h) []
no_pairs h i d l = absurd (omega (arith, l))

-- one term is to be told
pub one_told : (h : Terms) (id : ℕ) → MayBeTold h id → All (MayBeTold h) (id ∷ [])
one_told h id m = All-cons (MayBeTold h) id [] m (λ i d l. absurd (omega (arith, l)))
