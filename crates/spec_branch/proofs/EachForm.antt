-- Where a branch settles, it settles whatever the form of its linear constraints.
use Rattle.std.proofs.Common.{List, [], ◌∷◌, ◌++◌, refl, sym, subst}
use Rattle.spec_linear.specs.Solution.{Constraint, Equivalent}
use Rattle.spec_linear.proofs.Lists.{alike_solvable, alike_sym}
use Rattle.spec_numbers.specs.Texts.{Text}
use Rattle.spec_terms.specs.Term.{Subst, followed_by}
use Rattle.spec_terms.specs.Unifier.{IsUnifier, read_under}
use Rattle.spec_syntax.specs.Trees.{Tree}
use Rattle.spec_branch.specs.Branch.{State, Item, Pending, Branch}
use Rattle.spec_branch.specs.Closure.{IsMove, Moves, no_move, move, IsClosure}
use Rattle.spec_branch.specs.Settling.{Settles, no_unifier, unified, SettlesUnified, clash, no_solution, kept, Outcome, Kept, Pruned, Why, Clash, NoSolution, Settling, kept_branch}
use Rattle.spec_branch.specs.Alike.{with_linear}
use Rattle.spec_branch.proofs.Waiting.{alike_fixes}
use Rattle.spec_branch.proofs.OneSettling.{before_same}

module _ (s : Subst Text) where
  -- ---- moves from lists with the same solutions

  move_too : (l k m : List Constraint) (w x : List Tree) → Equivalent l k → (i : IsMove s l w m x)
      → IsMove s k w (k ++ i.row ∷ []) x
  move_too l k m w x e i =
      record {
        before = i.before;
        term = i.term;
        after = i.after;
        among = i.among;
        solvable = alike_solvable l k e i.solvable;
        result = i.result;
        is_lin = record { fixed = i.is_lin.fixed; fixes = alike_fixes l k e i.is_lin.fixed i.is_lin.fixes; is = i.is_lin.is };
        row = i.row;
        row_is = i.row_is;
        joins = refl;
        leaves = i.leaves;
      }

  joined_alike : (l k m : List Constraint) (w x : List Tree) → Equivalent l k → (i : IsMove s l w m x)
      → Equivalent m (k ++ i.row ∷ [])
  joined_alike l k m w x e i =
      subst (λ (n : List Constraint). Equivalent n (k ++ i.row ∷ [])) (sym i.joins) (before_same l k (i.row ∷ []) e)

  -- moves to these waiting terms, and a list with the same solutions
  record Reaches (k : List Constraint) (w : List Tree) (m : List Constraint) (x : List Tree) : Type 0 where
    linear : List Constraint
    moves : Moves s k w linear x
    alike : Equivalent m linear

  moves_too : {l m : List Constraint} {w x : List Tree} → Moves s l w m x → (k : List Constraint) → Equivalent l k
      → Reaches k w m x
  moves_too no_move k e = record { linear = k; moves = no_move; alike = e }
  moves_too (move {l = l} {l' = m} {w = w} {w' = x} i r) k e =
      let n = moves_too r (k ++ i.row ∷ []) (joined_alike l k m w x e i) in
      record { linear = n.linear; moves = move (move_too l k m w x e i) n.moves; alike = n.alike }

  -- a closure with these waiting terms, and a list with the same solutions
  record Closes (k : List Constraint) (w : List Tree) (m : List Constraint) (x : List Tree) : Type 0 where
    linear : List Constraint
    closure : IsClosure s k w linear x
    alike : Equivalent m linear

  closure_too : (l k m : List Constraint) (w x : List Tree) → Equivalent l k → IsClosure s l w m x → Closes k w m x
  closure_too l k m w x e c =
      let n = moves_too c.moves k e in
      record {
        linear = n.linear;
        closure = record {
          moves = n.moves;
          closed = λ o y i. c.closed (m ++ i.row ∷ []) y (move_too n.linear m o x y (alike_sym m n.linear n.alike) i);
        };
        alike = n.alike;
      }

-- ---- settling

module _ (items : List Item) (st : State) (l : List Constraint) (same : Equivalent st.linear l) (p : Pending) where
  abbrev there : State
  there = with_linear l st

  -- a settling from the other list, to the same waiting terms and a list with the same solutions
  record Settled (u : Subst Text) (j : Settling st p u) : Type 0 where
    settling : Settling there p u
    alike : Equivalent j.linear settling.linear

  settling_too : (u : Subst Text) (j : Settling st p u) → Settled u j
  settling_too u j =
      let s : Subst Text = followed_by st.bindings u in
      let e = before_same (st.linear ++ j.equations) (l ++ j.equations) p.rows (before_same st.linear l j.equations same) in
      let c = closure_too s (st.linear ++ j.equations ++ p.rows) (l ++ j.equations ++ p.rows) j.linear (st.delayed ++ p.told) j.waiting e j.closure in
      record {
        settling = record {
          equations = j.equations;
          each_newly_bound = j.each_newly_bound;
          linear = c.linear;
          waiting = j.waiting;
          closure = c.closure;
        };
        alike = c.alike;
      }

  abbrev KeptToo : Outcome → Type 0
  KeptToo (Kept b) = (c : Branch) × Settles items there p (Kept c)
  KeptToo (Pruned why) = (other : Why) × Settles items there p (Pruned other)

  unified_too : (u : Subst Text) → IsUnifier (read_under st.bindings p.equations) u → {o : Outcome}
      → SettlesUnified items st p u o → KeptToo o
  unified_too u h (clash c) = (Clash, unified u h (clash (record { variable = c.variable; numeric = c.numeric; image = c.image })))
  unified_too u h (no_solution n j x) =
      let k = settling_too u j in
      (NoSolution k.settling.linear, unified u h (no_solution n k.settling (λ y i. x y ((k.alike y).1 i))))
  unified_too u h (kept n j s f hf) =
      let k = settling_too u j in (
        kept_branch items there p u k.settling.linear k.settling.waiting f,
        unified u h (kept n k.settling (alike_solvable j.linear k.settling.linear k.alike s) f (alike_fixes j.linear k.settling.linear k.alike f hf)),
      )

  pub settles_too : {o : Outcome} → Settles items st p o → KeptToo o
  settles_too (no_unifier h) = (Clash, no_unifier h)
  settles_too (unified u h k) = unified_too u h k

  pub kept_too : (b : Branch) → Settles items st p (Kept b) → (c : Branch) × Settles items there p (Kept c)
  kept_too b h = settles_too h

  pub pruned_too : (why : Why) → Settles items st p (Pruned why) → (other : Why) × Settles items there p (Pruned other)
  pruned_too why h = settles_too h
