-- What stops a settling while a constraint joins.
use Rattle.std.proofs.Common.{◌≡◌, ℕ, List, [], ◌∷◌, ◌++◌, Option, refl, sym, subst}
use Rattle.std.specs.Prelude.{flat_map}
use Rattle.spec_numbers.specs.Rational.{ℚ}
use Rattle.spec_linear.specs.Solution.{Constraint, Has, Fixes}
use Rattle.spec_simplex.specs.Asked.{IsInForce, alone, NoQuestion}
use Rattle.spec_simplex.specs.Overflow.{Operands, Moment}
use Rattle.spec_numbers.specs.Texts.{Text}
use Rattle.spec_terms.specs.Term.{Subst, apply, followed_by}
use Rattle.spec_branch.specs.Branch.{State, Pending}
use Rattle.spec_transcript.specs.Operands.{relation_operands}
use Rattle.spec_transcript.specs.Settlings.{IsListOf, JoinsIn, IsSettlingMoment}
use Rattle.cq_frac.specs.declared.Pair.{Pair}
use Rattle.cq_store.specs.StoreValue.{Only, IsCallList, in_force, joined, IsCallMoment}
use Rattle.cq_store.specs.StoreValue as store
use Rattle.cq_settle.specs.Settled.{MayRefuse, MayTake}
use Rattle.cq_settle.proofs.Moments.{wider, due_wider, chain_wider, asked_more, in_force_more, all_so}

-- no operation is among none
none_within : (ops more : List Operands) → ops ≡ [] → (o : Operands) → Has o ops → Has o more
none_within [] more e o h = absurd h
none_within (x ∷ xs) more e o h = cc

module _ (st : State) (p : Pending) (u : Subst Text) (l : List Constraint) (c : Constraint) (before : IsListOf st p u l) (behind : IsListOf st p u (l ++ c ∷ []))
    (joins : JoinsIn st p u c) (valued : List Constraint) (is_valued : IsListOf st p u valued) (fixed : ℕ → Option ℚ) (fixes : Fixes valued fixed) where
  abbrev operations : List Operands
  operations = flat_map (λ t. relation_operands fixed (apply (followed_by st.bindings u) t)) (st.delayed ++ p.told)

  only_joins : (d : Constraint) → Only c d → JoinsIn st p u d
  only_joins d e = subst (λ (x : Constraint). JoinsIn st p u x) (sym e) joins

  pub record HasList (m : List Constraint) : Type 0 where
    pub list : List Constraint
    pub is_list : IsListOf st p u list
    pub force : IsInForce list (JoinsIn st p u) NoQuestion m

  list_of : {m : List Constraint} → IsCallList l (Only c) NoQuestion m → HasList m
  list_of (in_force h) = record { list = l; is_list = before; force = in_force_more l (Only c) (JoinsIn st p u) NoQuestion only_joins h }
  list_of (joined d e) = record {
    list = l ++ c ∷ [];
    is_list = behind;
    force = subst (λ (x : Constraint). IsInForce (l ++ c ∷ []) (JoinsIn st p u) NoQuestion (l ++ x ∷ [])) (sym e) alone;
  }

  moment_of : (m : Moment) → IsCallMoment l (Only c) NoQuestion m → IsSettlingMoment st p (record m { operations = operations })
  moment_of m k =
      let h = list_of k.list in
      record {
        stage = k.stage;
        unifier = u;
        list = h.list;
        is_list = h.is_list;
        in_force = h.force;
        asked = all_so m.asked (λ f a. asked_more m.list (Only c) (JoinsIn st p u) NoQuestion only_joins a) k.asked;
        valued = valued;
        is_valued = is_valued;
        fixed = fixed;
        fixes = fixes;
        operations = refl;
        rows = k.rows;
      }

  pub refuses : (pair : Pair) → store.MayRefuse l (Only c) NoQuestion pair → MayRefuse st p pair
  refuses pair r = record {
    moment = wider r.moment operations (none_within r.moment.operations operations r.of_call.operations);
    of_settling = moment_of r.moment r.of_call;
    due = due_wider r.moment operations (none_within r.moment.operations operations r.of_call.operations) pair r.due;
  }

  pub takes : (n : ℕ) → store.MayTake l (Only c) NoQuestion n → MayTake st p n
  takes n r = record {
    moment = wider r.moment operations (none_within r.moment.operations operations r.of_call.operations);
    of_settling = moment_of r.moment r.of_call;
    chain = chain_wider r.moment operations (none_within r.moment.operations operations r.of_call.operations) n r.chain;
  }
