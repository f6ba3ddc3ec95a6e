-- The moments of questions.
use Rattle.std.proofs.Common.{◌≡◌, ℕ, List, [], ◌∷◌, ◌++◌, Option, refl, sym, ◌∙◌, subst, inl, inr, ◌⊎◌}
use Rattle.std.specs.Prelude.{flat_map}
use Rattle.std.specs.List.{AllByRecursion}
use Rattle.spec_numbers.specs.Rational.{ℚ}
use Rattle.spec_linear.specs.Form.{Linear}
use Rattle.spec_linear.specs.Solution.{Constraint, Has, Fixes}
use Rattle.spec_linear.specs.Weak.{at_least_zero}
use Rattle.spec_simplex.specs.Asked.{IsAsked, of_member, of_joining, of_question, of_variable, negated, IsInForce, alone, while_joining, while_asked, while_asked_unequal, NoQuestion}
use Rattle.spec_simplex.specs.Later.{HasAll, in_place_of}
use Rattle.spec_simplex.specs.Overflow.{Operands, Moment, settling}
use Rattle.spec_simplex.proofs.Later.{overflow_stays, chain_stays}
use Rattle.spec_syntax.specs.Trees.{Tree}
use Rattle.spec_branch.specs.Relations.{Is, lin_expression}
use Rattle.spec_branch.specs.Branch.{State, Branch}
use Rattle.spec_search.specs.Builtins.{Side}
use Rattle.spec_search.specs.Replies.{Reply, IfEntailed, WithExtent}
use Rattle.spec_transcript.specs.Operands.{relation_operands, expression_operands}
use Rattle.spec_transcript.specs.Questions.{JoinsNothing, AsksAbout, AsksExtent, member, reaches, asked_operands, IsQuestionMoment}
use Rattle.cq_cexpr.specs.Overflows.{ComesFrom}
use Rattle.cq_frac.specs.declared.Pair.{Pair}
use Rattle.cq_store.specs.StoreValue.{IsCallList, in_force, joined, IsCallMoment, MayRefuse, MayTake, Only}
use Rattle.cq_store.specs.declared.store.StoreFault.{StoreFault}
use Rattle.cq_store.specs.declared.store.StoreFault.TheVariants as store
use Rattle.cq_store.specs.Faults.{IsFaultOf}
use Rattle.cq_frac.specs.declared.Refusal.{Refusal}
use Rattle.cq_frac.specs.declared.Refusal.TheVariants as refusal
use Rattle.cq_questions.specs.declared.members.Member.{Member}
use Rattle.cq_questions.specs.Members.{AsksOne}
use Rattle.cq_questions.proofs.Listed.{AreFound, asked_term}
use Rattle.cq_questions.specs.Stops.{RefusesIn, TakesIn, IsDueIn}

-- ---- what one constraint is asked for, others are

module _ (l : List Constraint) (P Q : Constraint → Type 0) (more : (c : Constraint) → P c → Q c) where
  asked_more : {f : Linear} → IsAsked l NoQuestion P f → IsAsked l JoinsNothing Q f
  asked_more (of_member c h) = of_member c h
  asked_more (of_joining c h) = absurd h
  asked_more (of_question c h) = of_question c (more c h)
  asked_more (of_variable x) = of_variable x
  asked_more (negated f h) = negated f (asked_more h)

  in_force_more : {m : List Constraint} → IsInForce l NoQuestion P m → IsInForce l JoinsNothing Q m
  in_force_more alone = alone
  in_force_more (while_joining f g h e) = absurd h
  in_force_more (while_asked c h) = while_asked c (more c h)
  in_force_more (while_asked_unequal f g h e) = while_asked_unequal f g (more _ h) e

  list_more : {m : List Constraint} → IsCallList l NoQuestion P m → IsInForce l JoinsNothing Q m
  list_more (in_force h) = in_force_more h
  list_more (joined c h) = absurd h

-- ---- a call's moment, with the operations of terms

nothing_among : {A : Type 0} (xs ys : List A) → xs ≡ [] → (x : A) → Has x xs → Has x ys
nothing_among [] ys e x h = absurd h
nothing_among (y ∷ xs) ys e x h = cc

has_all : (l : List Constraint) (P : Constraint → Type 0) (m : Moment) (operations : List Operands) → IsCallMoment l NoQuestion P m → HasAll m settling operations []
has_all l P m operations k = record {
  answers = λ e. sym k.stage ∙ e;
  each_operation = nothing_among m.operations operations k.operations;
  each_row = nothing_among m.rows [] k.rows;
}

-- ---- the moments of a reply, with the values that the state's list fixes

module _ (l : List Constraint) (fixed : ℕ → Option ℚ) (fixes : Fixes l fixed) (st : State) (same : st.linear ≡ l) (r : Reply) where
  fixes_there : Fixes st.linear fixed
  fixes_there = subst (λ (k : List Constraint). Fixes k fixed) (sym same) fixes

  abbrev operations : List Operands
  operations = asked_operands fixed r

  abbrev of_terms : Moment
  of_terms = record { stage = settling; list = st.linear; asked = []; operations = operations; rows = [] }

  -- some operation of the terms that are asked about refuses the pair
  pub term_refuses : (some : List Operands) → ((o : Operands) → Has o some → Has o operations) → (pair : Pair) → ComesFrom some pair → RefusesIn (IsQuestionMoment st r) pair
  term_refuses some among pair h = record {
    moment = of_terms;
    is = record { stage = refl; fixed = fixed; fixes = fixes_there; in_force = alone; asked = tt; operations = refl; rows = refl };
    due = h of_terms among;
  }

  module _ (c : Constraint) (about : AsksAbout fixed r c) where
    asks : (d : Constraint) → Only c d → AsksAbout fixed r d
    asks d k = subst (AsksAbout fixed r) (sym k) about

    all_asked : (m : List Constraint) (fs : List Linear) → AllByRecursion (IsAsked m NoQuestion (Only c)) fs → AllByRecursion (λ f. IsAsked m JoinsNothing (AsksAbout fixed r) f ⊎ AsksExtent fixed r f) fs
    all_asked m [] a = tt
    all_asked m (f ∷ fs) a = (inl (asked_more m (Only c) (AsksAbout fixed r) asks a.0), all_asked m fs a.1)

    is_moment : (m : Moment) → IsCallMoment l NoQuestion (Only c) m → IsQuestionMoment st r (in_place_of m settling operations [])
    is_moment m k = record {
      stage = refl;
      fixed = fixed;
      fixes = fixes_there;
      in_force = subst (λ (j : List Constraint). IsInForce j JoinsNothing (AsksAbout fixed r) m.list) (sym same) (list_more l (Only c) (AsksAbout fixed r) asks k.list);
      asked = all_asked m.list m.asked k.asked;
      operations = refl;
      rows = refl;
    }

    -- so does an operation while the constraint is asked about
    pub question_refuses : (pair : Pair) → MayRefuse l NoQuestion (Only c) pair → RefusesIn (IsQuestionMoment st r) pair
    question_refuses pair h = record {
      moment = in_place_of h.moment settling operations [];
      is = is_moment h.moment h.of_call;
      due = overflow_stays h.moment settling operations [] (has_all l (Only c) h.moment operations h.of_call) pair h.due;
    }

    pub question_takes : (n : ℕ) → MayTake l NoQuestion (Only c) n → TakesIn (IsQuestionMoment st r) n
    question_takes n h = record {
      moment = in_place_of h.moment settling operations [];
      is = is_moment h.moment h.of_call;
      chain = chain_stays h.moment settling operations [] n h.chain;
    }

-- ---- members

in_left : {A : Type 0} (x : A) (xs ys : List A) → Has x xs → Has x (xs ++ ys)
in_left x [] ys h = absurd h
in_left x (z ∷ zs) ys (inl e) = inl e
in_left x (z ∷ zs) ys (inr h) = inr (in_left x zs ys h)

in_right : {A : Type 0} (x : A) (xs ys : List A) → Has x ys → Has x (xs ++ ys)
in_right x [] ys h = h
in_right x (z ∷ zs) ys h = inr (in_right x zs ys h)

in_pieces : (f : Tree → List Operands) (ts : List Tree) (t : Tree) → Has t ts → (o : Operands) → Has o (f t) → Has o (flat_map f ts)
in_pieces f [] t h o i = absurd h
in_pieces f (x ∷ ts) t (inl e) o i = in_left o (f x) (flat_map f ts) (subst (λ (y : Tree). Has o (f y)) e i)
in_pieces f (x ∷ ts) t (inr h) o i = in_right o (f x) (flat_map f ts) (in_pieces f ts t h o i)

module _ (l : List Constraint) (fixed : ℕ → Option ℚ) (fixes : Fixes l fixed) (st : State) (same : st.linear ≡ l) (ts : List Tree) (b : Branch) where
  -- an operation of a member refuses the pair
  pub member_refuses : (t : Tree) → Has t ts → (pair : Pair) → ComesFrom (relation_operands fixed t) pair → RefusesIn (IsQuestionMoment st (IfEntailed ts b)) pair
  member_refuses t h pair k =
      term_refuses l fixed fixes st same (IfEntailed ts b) (relation_operands fixed t) (in_pieces (relation_operands fixed) ts t h) pair k

  -- a member as it was found
  pub asked_due : (ms : List Member) → AreFound fixed ts ms → (pivots : ℕ) (f : StoreFault)
      → ((pair : Pair) → f ≡ store.Overflow pair → AsksOne ms (λ c. MayRefuse l NoQuestion (Only c) pair))
      → ((n : ℕ) → f ≡ store.Pivots n → (n ≡ pivots) × AsksOne ms (λ c. MayTake l NoQuestion (Only c) n)) → IsDueIn (IsQuestionMoment st (IfEntailed ts b)) pivots f
  asked_due ms found pivots (store.Overflow pair) refuses takes =
      let a = refuses pair refl in
      let t = asked_term fixed ts ms found a.constraint a.among in
      question_refuses l fixed fixes st same (IfEntailed ts b) a.constraint (member t.0 t.1 t.2) pair a.holds
  asked_due ms found pivots (store.Pivots n) refuses takes =
      let a = takes n refl in
      let t = asked_term fixed ts ms found a.1.constraint a.1.among in (
        a.0,
        question_takes l fixed fixes st same (IfEntailed ts b) a.1.constraint (member t.0 t.1 t.2) n a.1.holds,
      )
  asked_due ms found pivots store.NoMemory refuses takes = tt

-- ---- refusals of terms, as faults of the store

pub refusal_due : (P : Moment → Type 0) (pivots : ℕ) (r : Refusal) (f : StoreFault) → IsFaultOf r f → ((pair : Pair) → r ≡ refusal.Overflow pair → RefusesIn P pair) → IsDueIn P pivots f
refusal_due P pivots (refusal.Overflow pair) f e h = subst (λ (x : StoreFault). IsDueIn P pivots x) (sym e) (h pair refl)
refusal_due P pivots refusal.NoMemory f e h = subst (λ (x : StoreFault). IsDueIn P pivots x) (sym e) tt

-- ---- extents

module _ (l : List Constraint) (fixed : ℕ → Option ℚ) (fixes : Fixes l fixed) (st : State) (same : st.linear ≡ l) (side : Side) (e : Tree) (next : ℚ → Branch) where
  pub expression_refuses : (pair : Pair) → ComesFrom (expression_operands fixed e) pair → RefusesIn (IsQuestionMoment st (WithExtent side e next)) pair
  expression_refuses pair k = term_refuses l fixed fixes st same (WithExtent side e next) (expression_operands fixed e) (λ o h. h) pair k

  module _ (form : Linear) (is : lin_expression fixed e ≡ Is form) where
    -- it is asked whether the form is not below zero
    about : AsksAbout fixed (WithExtent side e next) (at_least_zero form)
    about = reaches is

    pub reach_due : (pivots : ℕ) (f : StoreFault) → ((pair : Pair) → f ≡ store.Overflow pair → MayRefuse l NoQuestion (Only (at_least_zero form)) pair)
        → ((n : ℕ) → f ≡ store.Pivots n → (n ≡ pivots) × MayTake l NoQuestion (Only (at_least_zero form)) n) → IsDueIn (IsQuestionMoment st (WithExtent side e next)) pivots f
    reach_due pivots (store.Overflow pair) refuses takes =
        question_refuses l fixed fixes st same (WithExtent side e next) (at_least_zero form) about pair (refuses pair refl)
    reach_due pivots (store.Pivots n) refuses takes =
        let t = takes n refl in (t.0, question_takes l fixed fixes st same (WithExtent side e next) (at_least_zero form) about n t.1)
    reach_due pivots store.NoMemory refuses takes = tt
