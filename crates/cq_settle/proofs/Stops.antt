-- A term that joins the list in the middle of a settling, or stops it.
use Rattle.std.proofs.Common.{◌≡◌, ℕ, List, [], ◌∷◌, ◌++◌, Option, refl, sym, ap, subst, inl, inr, append_assoc}
use Rattle.std.specs.Prelude.{flat_map}
use Rattle.spec_numbers.specs.Rational.{ℚ}
use Rattle.spec_linear.specs.Solution.{Constraint, Has, Solvable, Fixes, false_constraint}
use Rattle.spec_linear.proofs.Lists.{false_unsolvable}
use Rattle.spec_simplex.specs.Asked.{alone}
use Rattle.spec_simplex.specs.Overflow.{Moment, Operands, settling}
use Rattle.spec_numbers.specs.Texts.{Text}
use Rattle.spec_terms.specs.Term.{Subst, apply}
use Rattle.spec_syntax.specs.Trees.{Tree}
use Rattle.spec_branch.specs.Relations.{Is, False, lin, row_of}
use Rattle.spec_branch.specs.Branch.{State, Pending}
use Rattle.spec_branch.specs.Closure.{Moves, no_move, move}
use Rattle.spec_transcript.specs.Operands.{relation_operands}
use Rattle.spec_transcript.specs.Settlings.{IsListOf, JoinsIn, of_term}
use Rattle.cq_cexpr.specs.Overflows.{ComesFrom}
use Rattle.cq_frac.specs.declared.Pair.{Pair}
use Rattle.cq_settle.specs.Settled.{IsPruned, MayRefuse, MayTake}
use Rattle.cq_settle.specs.Steps.{CannotJoin, Refuses, Takes}
use Rattle.cq_settle.specs.Underway.{IsTask, IsReached, unified}
use Rattle.cq_settle.proofs.Closed.{nothing_behind}
use Rattle.cq_settle.proofs.Ends.{has_middle}
use Rattle.cq_settle.proofs.Pruned.{moved, pruned_at}
use Rattle.cq_settle.proofs.Refused.{refuses, takes}

pub has_last : {A : Type 0} (x : A) (xs : List A) → Has x (xs ++ x ∷ [])
has_last x [] = inl refl
has_last x (y ∷ ys) = inr (has_last x ys)

-- a term that is left was there
has_around : {A : Type 0} (x y : A) (before after : List A) → Has x (before ++ after) → Has x (before ++ y ∷ after)
has_around x y [] after h = inr h
has_around x y (z ∷ zs) after (inl e) = inl e
has_around x y (z ∷ zs) after (inr h) = inr (has_around x y zs after h)

was_there : {s : Subst Text} {l m : List Constraint} {w v : List Tree} → Moves s l w m v → (t : Tree) → Has t v → Has t w
was_there no_move t h = h
was_there (move k r) t h =
    let m = subst (λ (us : List Tree). Has t us) k.leaves (was_there r t h) in
    subst (λ (us : List Tree). Has t us) (sym k.among) (has_around t k.term k.before k.after m)

-- what is found in a piece is found in the whole
in_left : {A : Type 0} (x : A) (xs ys : List A) → Has x xs → Has x (xs ++ ys)
in_left x [] ys h = absurd h
in_left x (z ∷ zs) ys (inl e) = inl e
in_left x (z ∷ zs) ys (inr h) = inr (in_left x zs ys h)

in_right : {A : Type 0} (x : A) (xs ys : List A) → Has x ys → Has x (xs ++ ys)
in_right x [] ys h = h
in_right x (z ∷ zs) ys h = inr (in_right x zs ys h)

in_pieces : (f : Tree → List Operands) (ts : List Tree) (t : Tree) → Has t ts → (o : Operands) → Has o (f t) → Has o (flat_map f ts)
in_pieces f [] t h o i = absurd h
in_pieces f (x ∷ ts) t (inl e) o i = in_left o (f x) (flat_map f ts) (subst (λ (y : Tree). Has o (f y)) e i)
in_pieces f (x ∷ ts) t (inr h) o i = in_right o (f x) (flat_map f ts) (in_pieces f ts t h o i)

module _ (st : State) (p : Pending) (u : Subst Text) (task : IsTask st p u) where
  -- a list that was reached is one of the settling
  pub is_list : (l : List Constraint) (w : List Tree) → IsReached st p u l w → IsListOf st p u l
  is_list l w r = record {
    is_unifier = task.unifier;
    equations = r.equations;
    each_newly_bound = r.each_newly_bound;
    joined = r.equations ++ p.rows;
    later = [];
    split = sym (nothing_behind (r.equations ++ p.rows));
    waiting = w;
    moves = subst (λ (m : List Constraint). Moves (unified st u) m (st.delayed ++ p.told) l w) (append_assoc st.linear r.equations p.rows) r.moves;
  }

  module _ (l : List Constraint) (before after : List Tree) (t : Tree) (r : IsReached st p u l (before ++ t ∷ after)) (solvable : Solvable l)
      (fixed : ℕ → Option ℚ) (fixes : Fixes l fixed) where
    pub joins : (c : Constraint) → lin fixed (apply (unified st u) t) ≡ Is c → IsReached st p u (l ++ c ∷ []) (before ++ after)
    joins c e = moved st p u l before after t r solvable fixed fixes c (ap row_of e)

    pub false_prunes : lin fixed (apply (unified st u) t) ≡ False → IsPruned st p u
    false_prunes e =
        pruned_at st p u task.no_clash (l ++ false_constraint ∷ []) (before ++ after)
        (moved st p u l before after t r solvable fixed fixes false_constraint (ap row_of e))
        (false_unsolvable (l ++ false_constraint ∷ []) (has_last false_constraint l))

    pub row_prunes : (c : Constraint) → lin fixed (apply (unified st u) t) ≡ Is c → CannotJoin l c → IsPruned st p u
    row_prunes c e h = pruned_at st p u task.no_clash (l ++ c ∷ []) (before ++ after) (joins c e) h

    among : Has t (st.delayed ++ p.told)
    among = was_there r.moves t (has_middle t before after)

    joins_in : (c : Constraint) → lin fixed (apply (unified st u) t) ≡ Is c → JoinsIn st p u c
    joins_in c e = of_term t c l fixed among (is_list l (before ++ t ∷ after) r) fixes e

    pub row_refuses : (c : Constraint) → lin fixed (apply (unified st u) t) ≡ Is c → (pair : Pair) → Refuses pair l c → MayRefuse st p pair
    row_refuses c e =
        refuses st p u l c (is_list l (before ++ t ∷ after) r) (is_list (l ++ c ∷ []) (before ++ after) (joins c e)) (joins_in c e)
        l (is_list l (before ++ t ∷ after) r) fixed fixes

    pub row_takes : (c : Constraint) → lin fixed (apply (unified st u) t) ≡ Is c → (n : ℕ) → Takes n l c → MayTake st p n
    row_takes c e =
        takes st p u l c (is_list l (before ++ t ∷ after) r) (is_list (l ++ c ∷ []) (before ++ after) (joins c e)) (joins_in c e)
        l (is_list l (before ++ t ∷ after) r) fixed fixes

    abbrev operations : List Operands
    operations = flat_map (λ t. relation_operands fixed (apply (unified st u) t)) (st.delayed ++ p.told)

    abbrev moment : Moment
    moment = record { stage = settling; list = l; asked = []; operations = operations; rows = [] }

    -- an operation of the term is one of the settling
    pub term_refuses : (pair : Pair) → ComesFrom (relation_operands fixed (apply (unified st u) t)) pair → MayRefuse st p pair
    term_refuses pair h = record {
      moment = moment;
      of_settling = record {
        stage = refl;
        unifier = u;
        list = l;
        is_list = is_list l (before ++ t ∷ after) r;
        in_force = alone;
        asked = tt;
        valued = l;
        is_valued = is_list l (before ++ t ∷ after) r;
        fixed = fixed;
        fixes = fixes;
        operations = refl;
        rows = refl;
      };
      due = h moment (in_pieces (λ t. relation_operands fixed (apply (unified st u) t)) (st.delayed ++ p.told) t among);
    }
