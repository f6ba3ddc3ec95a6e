-- A goal has one step, but for the clauses that a call leaves out.
use Rattle.std.proofs.Common.{◌≡◌, ℕ, List, [], ◌∷◌, Option, Some, None, inl, inr, refl, sym, ap, ◌∙◌, subst}
use Rattle.std.specs.Prelude.{find, map}
use Rattle.spec_numbers.specs.Rational.{ℚ, neg_ℚ}
use Rattle.spec_numbers.proofs.Ring.{var, minus}
use Rattle.spec_numbers.proofs.RationalLemmas.{ring}
use Rattle.spec_linear.specs.Form.{Linear, negated_form}
use Rattle.spec_linear.specs.Solution.{Constraint, Fixes, Has}
use Rattle.spec_linear.proofs.Reached.{one_supremum, never_both}
use Rattle.spec_syntax.specs.Trees.{Tree}
use Rattle.spec_builtins.specs.Errors.{type_error}
use Rattle.spec_branch.specs.Relations.{Lin, Is, Waits, False, lin, lin_expression}
use Rattle.spec_branch.specs.Branch.{Branch, plain_copy, read}
use Rattle.spec_branch.proofs.Waiting.{one_map}
use Rattle.spec_search.specs.Database.{Clause}
use Rattle.spec_search.specs.Builtins.{Side, Least, Greatest}
use Rattle.spec_search.specs.Replies as reply
use Rattle.spec_search.specs.Replies.{Place, Reply, Raises, Throws, WithCopy, Makes, Calls, IfEntailed, WithExtent}
use Rattle.spec_search.specs.Control.{clause_child}
use Rattle.spec_search.specs.Rows.{reply_of}
use Rattle.spec_search.specs.Steps.{IsSelection, Steps, Stepped, Ball, Children, ball_of, children, is_not_linear, IsEntailed, IsBroken, AllEntailed, IsExtent, HasNoExtent, raises, throws, copies, makes, calls, not_linear, entailed, not_entailed, expression_waits, expression_false, extent, no_extent}

module _ (p : Place) (goal : Tree) where
  -- ---- questions

  -- what members come to
  pub data Asks (ms : List Tree) (b : Branch) (fixed : ℕ → Option ℚ) : Stepped → Type 0 where
    refused : {m : Tree} → find (is_not_linear fixed) ms ≡ Some m
        → Asks ms b fixed (ball_of goal (type_error "linear" m))
    all : find (is_not_linear fixed) ms ≡ None → AllEntailed p.state.linear fixed ms
        → Asks ms b fixed (children p (b ∷ []))
    broken : (m : Tree) → find (is_not_linear fixed) ms ≡ None → Has m ms → IsBroken p.state.linear (lin fixed m)
        → Asks ms b fixed (children p [])

  entailed_or_broken : (r : Lin Constraint) → IsEntailed p.state.linear r → IsBroken p.state.linear r → ⊥
  entailed_or_broken (Is c) e x = x.breaks (e x.point x.solves)
  entailed_or_broken Waits e x = absurd e
  entailed_or_broken False e x = absurd e

  all_or_broken : (fixed : ℕ → Option ℚ) (ms : List Tree) → AllEntailed p.state.linear fixed ms → (m : Tree)
      → Has m ms → IsBroken p.state.linear (lin fixed m) → ⊥
  all_or_broken fixed [] a m h x = absurd h
  all_or_broken fixed (t ∷ ms) a m (inl e) x = entailed_or_broken (lin fixed t) a.0 (subst (λ u. IsBroken p.state.linear (lin fixed u)) e x)
  all_or_broken fixed (t ∷ ms) a m (inr h) x = all_or_broken fixed ms a.1 m h x

  pub asks_once : (ms : List Tree) (b : Branch) (fixed : ℕ → Option ℚ) (o q : Stepped) → Asks ms b fixed o
      → Asks ms b fixed q → o ≡ q
  asks_once ms b fixed o q (refused {m = m} e) (refused {m = n} f) =
      let c : Some m ≡ Some n = sym e ∙ f in
      let d : m ≡ n = cc in
      ap (λ u. ball_of goal (type_error "linear" u)) d
  asks_once ms b fixed o q (refused {m = m} e) (all f a) = let c : Some m ≡ None = sym e ∙ f in cc
  asks_once ms b fixed o q (refused {m = m} e) (broken n f h x) = let c : Some m ≡ None = sym e ∙ f in cc
  asks_once ms b fixed o q (all e a) (refused {m = m} f) = let c : None ≡ Some m = sym e ∙ f in cc
  asks_once ms b fixed o q (all e a) (all f c) = refl
  asks_once ms b fixed o q (all e a) (broken n f h x) = absurd (all_or_broken fixed ms a n h x)
  asks_once ms b fixed o q (broken n e h x) (refused {m = m} f) = let c : None ≡ Some m = sym e ∙ f in cc
  asks_once ms b fixed o q (broken n e h x) (all f a) = absurd (all_or_broken fixed ms a n h x)
  asks_once ms b fixed o q (broken n e h x) (broken m f i y) = refl

  -- what an expression comes to
  pub data Reaches (side : Side) (e : Tree) (f : ℚ → Branch) (fixed : ℕ → Option ℚ) : Stepped → Type 0 where
    waiting : lin_expression fixed e ≡ Waits → Reaches side e f fixed (ball_of goal (type_error "linear" e))
    false_one : lin_expression fixed e ≡ False → Reaches side e f fixed (children p [])
    value : {form : Linear} (q : ℚ) → lin_expression fixed e ≡ Is form → IsExtent side p.state.linear form q
        → Reaches side e f fixed (children p (f q ∷ []))
    no_value : {form : Linear} → lin_expression fixed e ≡ Is form → HasNoExtent side p.state.linear form
        → Reaches side e f fixed (children p [])

  negative_same : (q r : ℚ) → neg_ℚ q ≡ neg_ℚ r → q ≡ r
  negative_same q r e = ring (q ∷ []) (var 0) (minus (minus (var 0))) refl ∙ ap neg_ℚ e ∙ ring (r ∷ []) (minus (minus (var 0))) (var 0) refl

  one_extent : (side : Side) (form : Linear) (q r : ℚ) → IsExtent side p.state.linear form q
      → IsExtent side p.state.linear form r → q ≡ r
  one_extent Greatest form q r h k = one_supremum p.state.linear form q r h k
  one_extent Least form q r h k = negative_same q r (one_supremum p.state.linear (negated_form form) (neg_ℚ q) (neg_ℚ r) h k)

  extent_or_none : (side : Side) (form : Linear) (q : ℚ) → IsExtent side p.state.linear form q
      → HasNoExtent side p.state.linear form → ⊥
  extent_or_none Greatest form q h k = never_both p.state.linear form q h k
  extent_or_none Least form q h k = never_both p.state.linear (negated_form form) (neg_ℚ q) h k

  form_same : (side : Side) (f g : Linear) → Is f ≡ Is g → f ≡ g
  form_same side f g e = cc

  pub reaches_once : (side : Side) (e : Tree) (f : ℚ → Branch) (fixed : ℕ → Option ℚ) (o q : Stepped)
      → Reaches side e f fixed o → Reaches side e f fixed q → o ≡ q
  reaches_once side e f fixed o q (waiting a) (waiting b) = refl
  reaches_once side e f fixed o q (waiting a) (false_one b) = let c = sym a ∙ b in cc
  reaches_once side e f fixed o q (waiting a) (value x b h) = let c = sym a ∙ b in cc
  reaches_once side e f fixed o q (waiting a) (no_value b h) = let c = sym a ∙ b in cc
  reaches_once side e f fixed o q (false_one a) (waiting b) = let c = sym a ∙ b in cc
  reaches_once side e f fixed o q (false_one a) (false_one b) = refl
  reaches_once side e f fixed o q (false_one a) (value x b h) = let c = sym a ∙ b in cc
  reaches_once side e f fixed o q (false_one a) (no_value b h) = refl
  reaches_once side e f fixed o q (value x a h) (waiting b) = let c = sym a ∙ b in cc
  reaches_once side e f fixed o q (value x a h) (false_one b) = let c = sym a ∙ b in cc
  reaches_once side e f fixed o q (value {form = u} x a h) (value {form = v} y b k) =
      let c : u ≡ v = form_same side u v (sym a ∙ b) in
      ap (λ z. children p (f z ∷ [])) (one_extent side v x y (subst (λ z. IsExtent side p.state.linear z x) c h) k)
  reaches_once side e f fixed o q (value {form = u} x a h) (no_value {form = v} b k) =
      let c : u ≡ v = form_same side u v (sym a ∙ b) in
      absurd (extent_or_none side v x (subst (λ z. IsExtent side p.state.linear z x) c h) k)
  reaches_once side e f fixed o q (no_value a h) (waiting b) = let c = sym a ∙ b in cc
  reaches_once side e f fixed o q (no_value a h) (false_one b) = refl
  reaches_once side e f fixed o q (no_value {form = u} a h) (value {form = v} y b k) =
      let c : v ≡ u = form_same side v u (sym b ∙ a) in
      absurd (extent_or_none side u y (subst (λ z. IsExtent side p.state.linear z y) c k) h)
  reaches_once side e f fixed o q (no_value a h) (no_value b k) = refl

  -- ---- replies

  -- what a reply comes to; a call comes to the children of a selection of its clauses
  abbrev pub Result : Reply → Stepped → Type 0
  Result (Raises e) o = o ≡ ball_of goal e
  Result (Throws t) o = o ≡ Ball (plain_copy (read p.state t))
  Result (WithCopy t f) o = o ≡ children p (f (plain_copy (read p.state t)) ∷ [])
  Result (reply.Overflows pair) o = ⊥
  Result (Makes m) o = o ≡ Children m
  Result (Calls cs) o = (ds : List Clause) × IsSelection p goal cs ds × (o ≡ children p (map (clause_child p goal) ds))
  Result (IfEntailed ms b) o = (fixed : ℕ → Option ℚ) × Fixes p.state.linear fixed × Asks ms b fixed o
  Result (WithExtent side e f) o = (fixed : ℕ → Option ℚ) × Fixes p.state.linear fixed × Reaches side e f fixed o

  pub result : (o : Stepped) → Steps p goal o → Result (reply_of p goal) o
  result o (raises {e = e} h) = subst (λ r. Result r (ball_of goal e)) (sym h) refl
  result o (throws {t = t} {c = c} h k) = subst (λ r. Result r (Ball c)) (sym h) (ap (λ x. Ball x) k)
  result o (copies {t = t} {f = f} {c = c} h k) = subst (λ r. Result r (children p (f c ∷ []))) (sym h) (ap (λ x. children p (f x ∷ [])) k)
  result o (makes {m = m} h) = subst (λ r. Result r (Children m)) (sym h) refl
  result o (calls {all = cs} {some = ds} h k) = subst (λ r. Result r (children p (map (clause_child p goal) ds))) (sym h) (ds, k, refl)
  result o (not_linear {m = m} fixed h k e) = subst (λ r. Result r (ball_of goal (type_error "linear" m))) (sym h) (fixed, k, refused e)
  result o (entailed {b = b} fixed h k e a) = subst (λ r. Result r (children p (b ∷ []))) (sym h) (fixed, k, all e a)
  result o (not_entailed m fixed h k e i x) = subst (λ r. Result r (children p [])) (sym h) (fixed, k, broken m e i x)
  result o (expression_waits {e = e} fixed h k a) = subst (λ r. Result r (ball_of goal (type_error "linear" e))) (sym h) (fixed, k, waiting a)
  result o (expression_false fixed h k a) = subst (λ r. Result r (children p [])) (sym h) (fixed, k, false_one a)
  result o (extent {f = f} {q = q} fixed h k a x) = subst (λ r. Result r (children p (f q ∷ []))) (sym h) (fixed, k, value q a x)
  result o (no_extent fixed h k a x) = subst (λ r. Result r (children p [])) (sym h) (fixed, k, no_value a x)

  one_fixed : (f g : ℕ → Option ℚ) → Fixes p.state.linear f → Fixes p.state.linear g → f ≡ g
  one_fixed f g h k = one_map p.state.linear p.state.linear f g (λ x. ((λ s. s), (λ s. s))) h k

  result_once : (r : Reply) → ((cs : List Clause) → r ≡ Calls cs → ⊥) → (o q : Stepped) → Result r o → Result r q
      → o ≡ q
  result_once (Raises e) n o q a b = a ∙ sym b
  result_once (Throws t) n o q a b = a ∙ sym b
  result_once (WithCopy t f) n o q a b = a ∙ sym b
  result_once (reply.Overflows pair) n o q a b = absurd a
  result_once (Makes m) n o q a b = a ∙ sym b
  result_once (Calls cs) n o q a b = absurd (n cs refl)
  result_once (IfEntailed ms br) n o q a b = asks_once ms br b.0 o q (subst (λ f. Asks ms br f o) (one_fixed a.0 b.0 a.1 b.1) a.2) b.2
  result_once (WithExtent side e f) n o q a b = reaches_once side e f b.0 o q (subst (λ g. Reaches side e f g o) (one_fixed a.0 b.0 a.1 b.1) a.2) b.2

  pub step_once : ((cs : List Clause) → reply_of p goal ≡ Calls cs → ⊥) → (o q : Stepped)
      → Steps p goal o → Steps p goal q → o ≡ q
  step_once n o q a b = result_once (reply_of p goal) n o q (result o a) (result q b)

  -- two steps are one, or both have children and nothing else
  pub data Alike (o q : Stepped) : Type 0 where
    one_step : o ≡ q → Alike o q
    both_call : (a b : List Branch) → o ≡ children p a → q ≡ children p b → Alike o q

  result_alike : (r : Reply) → (o q : Stepped) → Result r o → Result r q → Alike o q
  result_alike (Raises e) o q a b = one_step (a ∙ sym b)
  result_alike (Throws t) o q a b = one_step (a ∙ sym b)
  result_alike (WithCopy t f) o q a b = one_step (a ∙ sym b)
  result_alike (reply.Overflows pair) o q a b = absurd a
  result_alike (Makes m) o q a b = one_step (a ∙ sym b)
  result_alike (Calls cs) o q a b = both_call (map (clause_child p goal) a.0) (map (clause_child p goal) b.0) a.2 b.2
  result_alike (IfEntailed ms br) o q a b = one_step (asks_once ms br b.0 o q (subst (λ f. Asks ms br f o) (one_fixed a.0 b.0 a.1 b.1) a.2) b.2)
  result_alike (WithExtent side e f) o q a b = one_step (reaches_once side e f b.0 o q (subst (λ g. Reaches side e f g o) (one_fixed a.0 b.0 a.1 b.1) a.2) b.2)

  pub steps_alike : (o q : Stepped) → Steps p goal o → Steps p goal q → Alike o q
  steps_alike o q a b = result_alike (reply_of p goal) o q (result o a) (result q b)
