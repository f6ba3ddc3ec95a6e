-- Steps of goals that come to the same: the same ball, or children that are the same but for those of left-out clauses.
use Rattle.std.proofs.Common.{◌≡◌, ℕ, List, [], ◌∷◌, Option, Bool, true, false, map, refl, sym, subst}
use Rattle.std.specs.Prelude.{if◌then◌else◌}
use Rattle.spec_numbers.specs.Rational.{ℚ}
use Rattle.spec_linear.specs.Form.{Linear}
use Rattle.spec_linear.specs.Solution.{Constraint, Equivalent}
use Rattle.spec_linear.specs.Extremes.{Exceeds, IsSupremum, IsUnbounded}
use Rattle.spec_syntax.specs.Trees.{Tree}
use Rattle.spec_builtins.specs.Built.{is_atom}
use Rattle.spec_builtins.specs.Errors.{type_error}
use Rattle.spec_builtins.specs.Bodies.{as_goal}
use Rattle.spec_branch.specs.Relations.{Lin, Is, Waits, False, lin}
use Rattle.spec_branch.specs.Branch.{State, Item, Branch, Copied, plain_copy, read}
use Rattle.spec_branch.specs.Alike.{with_linear}
use Rattle.spec_branch.proofs.Waiting.{one_map}
use Rattle.spec_search.specs.Database.{Database, Clause}
use Rattle.spec_search.specs.Builtins.{Side, Least, Greatest}
use Rattle.spec_search.specs.Replies.{Place, Reply}
use Rattle.spec_search.specs.Control.{put, instance, clause_child, clause_work}
use Rattle.spec_search.specs.Steps.{IsSelection, end, takes, leaves_out, Stepped, Ball, Children, ball_of, children, IsEntailed, IsBroken, AllEntailed, IsExtent, HasNoExtent}
use Rattle.spec_search.proofs.LeftOut.{left_out}
use Rattle.spec_search.proofs.OneStep.{Asks, refused, all, broken, asks_once, Reaches, waiting, false_one, value, no_value, reaches_once, Result}
use Rattle.spec_search.proofs.Shapes.{Rung, OnFirst, OnSecond, OnBoth, first, second, whole, SameItems, goal, SameBranch, SameOver}
use Rattle.spec_search.proofs.Replies.{SameReply, both_raise, both_throw, both_copy, both_overflow, both_make, both_call, both_ask, both_reach, SameStep, same_ball, same_children}
use Rattle.spec_search.proofs.Rows.{made_over, more_behind}

-- ---- questions to constraints with the same solutions

module _ (l m : List Constraint) (same : Equivalent l m) where
  entailed_back : (r : Lin Constraint) → IsEntailed m r → IsEntailed l r
  entailed_back (Is c) h = λ x k. h x ((same x).0 k)
  entailed_back Waits h = absurd h
  entailed_back False h = absurd h

  pub broken_back : (r : Lin Constraint) → IsBroken m r → IsBroken l r
  broken_back (Is c) h = record { point = h.point; solves = (same h.point).1 h.solves; breaks = h.breaks }
  broken_back Waits h = absurd h
  broken_back False h = h

  pub all_back : (fixed : ℕ → Option ℚ) (ts : List Tree) → AllEntailed m fixed ts → AllEntailed l fixed ts
  all_back fixed [] h = h
  all_back fixed (t ∷ ts) h = (entailed_back (lin fixed t) h.0, all_back fixed ts h.1)

  exceeds_back : (f : Linear) (q : ℚ) → Exceeds m f q → Exceeds l f q
  exceeds_back f q h = (h.0, (same h.0).1 h.1, h.2)

  supremum_back : (f : Linear) (q : ℚ) → IsSupremum m f q → IsSupremum l f q
  supremum_back f q h =
      record {
        solvable = (h.solvable.0, (same h.solvable.0).1 h.solvable.1);
        bound = λ x k. h.bound x ((same x).0 k);
        least = λ r k. exceeds_back f r (h.least r k);
      }

  unbounded_back : (f : Linear) → IsUnbounded m f → IsUnbounded l f
  unbounded_back f h =
      record {
        solvable = (h.solvable.0, (same h.solvable.0).1 h.solvable.1);
        more = λ r. exceeds_back f r (h.more r);
      }

  pub extent_back : (side : Side) (f : Linear) (q : ℚ) → IsExtent side m f q → IsExtent side l f q
  extent_back Greatest f q h = supremum_back f q h
  extent_back Least f q h = supremum_back _ _ h

  pub none_back : (side : Side) (f : Linear) → HasNoExtent side m f → HasNoExtent side l f
  none_back Greatest f h = unbounded_back f h
  none_back Least f h = unbounded_back _ h

-- ---- steps

module _ (s : List Rung) (db : Database) (st : State) (l : List Constraint) (same : Equivalent st.linear l) (is js : List Item) (rest : SameItems s is js) (h k a b : ℕ) (aa : a ≡ first s) (bb : b ≡ second s) (t : Tree) where
  abbrev p : Place
  p = record { database = db; state = st; rest = is; cut = h; height = a }

  abbrev q : Place
  q = record { database = db; state = with_linear l st; rest = js; cut = k; height = b }

  -- ---- children

  one_child : {x y : Branch} → SameBranch s x y → SameStep s (children p (x ∷ [])) (children q (y ∷ []))
  one_child e = same_children (made_over (OnBoth ∷ []) _ _ db [] (e, tt))

  no_child : SameStep s (children p []) (children q [])
  no_child = same_children (made_over [] _ _ db [] tt)

  -- ---- calls

  body_in_front : (x : Bool) (g : Tree) → SameItems s (if x then is else put g a ∷ is) (if x then js else put g b ∷ js)
  body_in_front true g = rest
  body_in_front false g = goal (as_goal g) whole aa bb rest

  same_clause : (c : Clause) → SameBranch s (clause_child p t c) (clause_child q t c)
  same_clause c =
      record {
        items = body_in_front (is_atom "true" (instance p c).body) (instance p c).body;
        state = record { state = refl; linear = same };
        phase = refl;
      }

  -- the children of two selections
  record Chosen (xs ys : List Clause) : Type 0 where
    shape : List Rung
    branches : SameOver s shape (map (clause_child p t) xs) (map (clause_child q t) ys)

  chosen : {cs xs ys : List Clause} → IsSelection p t cs xs → IsSelection q t cs ys → Chosen xs ys
  chosen end end = record { shape = []; branches = tt }
  chosen (takes {c = c} x) (takes y) =
      let r = chosen x y in
      record { shape = OnBoth ∷ r.shape; branches = (more_behind r.shape (same_clause c), r.branches) }
  chosen (takes {c = c} x) (leaves_out e y) =
      let r = chosen x y in
      record { shape = OnFirst ∷ r.shape; branches = (record { work = clause_work p t c; unsettled = refl; pruned = left_out p t c e; no_ball = refl }, r.branches) }
  chosen (leaves_out {c = c} e x) (takes y) =
      let r = chosen x y in
      record { shape = OnSecond ∷ r.shape; branches = (record { work = clause_work q t c; unsettled = refl; pruned = left_out q t c e; no_ball = refl }, r.branches) }
  chosen (leaves_out e x) (leaves_out f y) = chosen x y

  -- ---- questions

  record Asked (ms : List Tree) (x : Branch) (fixed : ℕ → Option ℚ) (o : Stepped) : Type 0 where
    here : Stepped
    asks : Asks p t ms x fixed here
    same_step : SameStep s here o

  asked : {ms : List Tree} {x y : Branch} {fixed : ℕ → Option ℚ} {o : Stepped} → SameBranch s x y → Asks q t ms y fixed o
      → Asked ms x fixed o
  asked e (refused {m = m} f) = record { here = ball_of t (type_error "linear" m); asks = refused f; same_step = same_ball _ }
  asked {ms} {x} {y} {fixed} e (all f g) =
      record { here = children p (x ∷ []); asks = all f (all_back st.linear l same fixed ms g); same_step = one_child e }
  asked {ms} {x} {y} {fixed} e (broken m f i g) =
      record { here = children p []; asks = broken m f i (broken_back st.linear l same (lin fixed m) g); same_step = no_child }

  record Reached (side : Side) (e : Tree) (f : ℚ → Branch) (fixed : ℕ → Option ℚ) (o : Stepped) : Type 0 where
    here : Stepped
    reaches : Reaches p t side e f fixed here
    same_step : SameStep s here o

  reached : {side : Side} {e : Tree} {f g : ℚ → Branch} {fixed : ℕ → Option ℚ} {o : Stepped} → ((v : ℚ) → SameBranch s (f v) (g v))
      → Reaches q t side e g fixed o → Reached side e f fixed o
  reached {e = e} i (waiting x) = record { here = ball_of t (type_error "linear" e); reaches = waiting x; same_step = same_ball _ }
  reached i (false_one x) = record { here = children p []; reaches = false_one x; same_step = no_child }
  reached {side} {f = f} i (value {form = form} v x y) =
      record { here = children p (f v ∷ []); reaches = value v x (extent_back st.linear l same side form v y); same_step = one_child (i v) }
  reached {side} i (no_value {form = form} x y) =
      record { here = children p []; reaches = no_value x (none_back st.linear l same side form y); same_step = no_child }

  -- ---- results

  moved_to : {o x : Stepped} (u : Stepped) → o ≡ u → SameStep s u x → SameStep s o x
  moved_to {x = x} u e i = subst (λ v. SameStep s v x) (sym e) i

  between : {o x : Stepped} (u v : Stepped) → o ≡ u → x ≡ v → SameStep s u v → SameStep s o x
  between {o} {x} u v e f i = subst (λ y. SameStep s y x) (sym e) (subst (λ y. SameStep s u y) (sym f) i)

  pub step_same : {r u : Reply} → SameReply s r u → (o x : Stepped) → Result p t r o → Result q t u x → SameStep s o x
  step_same (both_raise e) o x i j = between (ball_of t e) (ball_of t e) i j (same_ball _)
  step_same (both_throw e) o x i j = between (Ball (plain_copy (read st e))) (Ball (plain_copy (read st e))) i j (same_ball _)
  step_same (both_copy {t = e} {f = f} {g = g} n) o x i j =
      let c : Copied = plain_copy (read st e) in
      between (children p (f c ∷ [])) (children q (g c ∷ [])) i j (one_child (n c))
  step_same (both_overflow pair) o x i j = absurd i
  step_same (both_make {m = m} {n = n} e) o x i j = between (Children m) (Children n) i j (same_children e)
  step_same (both_call cs) o x i j =
      let r = chosen i.1 j.1 in
      between (children p (map (clause_child p t) i.0)) (children q (map (clause_child q t) j.0)) i.2 j.2 (same_children (made_over r.shape _ _ db [] r.branches))
  step_same (both_ask {ms = ms} {b = y} {c = z} e) o x i j =
      let n = asked {fixed = j.0} e j.2 in
      let f : i.0 ≡ j.0 = one_map st.linear l i.0 j.0 same i.1 j.1 in
      moved_to n.here (asks_once p t ms y j.0 o n.here (subst (λ g. Asks p t ms y g o) f i.2) n.asks) n.same_step
  step_same (both_reach {side = side} {e = e} {f = y} {g = z} v) o x i j =
      let n = reached {fixed = j.0} v j.2 in
      let f : i.0 ≡ j.0 = one_map st.linear l i.0 j.0 same i.1 j.1 in
      moved_to n.here (reaches_once p t side e y j.0 o n.here (subst (λ g. Reaches p t side e y g o) f i.2) n.reaches) n.same_step
