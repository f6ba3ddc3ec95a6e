-- What is known once the query's constraints are told: none waits, V is as it was, and each variable is itself or its fixed value.
use Rattle.std.proofs.Common.{◌≡◌, ◌∙◌, ◌<◌, ◌≤◌, ◌+◌, ◌⊎◌, ℕ, zero, suc, List, [], ◌∷◌, ◌++◌, Bool, true, false, cond, Option, Some, None, inl, inr, refl, pos, sym, ap, ap₂, subst, arith, ne_eqb}
use Rattle.std.specs.Prelude.{codes, ◌||◌, ◌&&◌, ◌==◌, not, ⊤}
use Rattle.std.specs.List.{AllByRecursion, list_any}
use Rattle.spec_numbers.specs.Texts.{Text}
use Rattle.spec_numbers.specs.Rational.{ℚ, int_ℚ}
use Rattle.spec_linear.specs.Form.{Linear, constant_form, sum_form}
use Rattle.spec_linear.specs.Solution.{Constraint, Fixes, Has}
use Rattle.spec_terms.specs.Term.{Subst, Var, Number, Name, Compound, apply, followed_by, identity}
use Rattle.spec_terms.specs.Unifier.{IsUnifier}
use Rattle.spec_terms.specs.Variables.{with_variable, variables}
use Rattle.spec_terms.proofs.Unifiers.{unifier_unique}
use Rattle.spec_syntax.specs.Trees.{Tree, natural, binary}
use Rattle.spec_branch.specs.Checks.{members}
use Rattle.spec_branch.specs.Expressions.{variable_under, binary_of, Plus, form_of, has_zero_divisor}
use Rattle.spec_branch.specs.Relations.{RelationName, GreaterOrEqual, LesserOrEqual, relation_name, Waits, False, related_forms, lin}
use Rattle.spec_branch.proofs.Members.{both_parts}
use Rattle.spec_branch.specs.Branch.{State, Goal, Branch, Settled}
use Rattle.spec_branch.specs.Meaning.{IsSettled}
use Rattle.spec_branch.specs.Closure.{Moves, no_move, move}
use Rattle.spec_branch.specs.Settling.{Settles, Settling, unified, SettlesUnified, kept, Kept, fixed_values, value_or_variable, is_bound, is_the_variable, newly_bound, numeric_after, stands_in, woken, left_asleep, bindings_after}
use Rattle.spec_branch.proofs.AtRest.{kept_rests}
use Rattle.spec_command.specs.Query.{asked, constraints, gap, lower, lowers, upper, uppers}
use Rattle.spec_command.proofs.Beginning.{IsFree, identity_unifies, none_passes}
use Rattle.spec_command.proofs.Told.{each}
use Rattle.spec_command.proofs.Telling.{items, work}

-- ---- what holds of each member

module _ (P : Tree → Type 0) where
  lowers_all : (c k : ℕ) (rest : List Tree) → ((j : ℕ) → j < k + c → P (lower j)) → AllByRecursion P rest → AllByRecursion P (lowers k c ++ rest)
  lowers_all zero k rest h r = r
  lowers_all (suc c) k rest h r = (h k (omega arith), lowers_all c (suc k) rest (λ j l. h j (omega (arith, l))) r)

  uppers_all : (c k : ℕ) (rest : List Tree) → ((j : ℕ) → j < k + c → P (upper j)) → AllByRecursion P rest → AllByRecursion P (uppers k c ++ rest)
  uppers_all zero k rest h r = r
  uppers_all (suc c) k rest h r = (h k (omega arith), uppers_all c (suc k) rest (λ j l. h j (omega (arith, l))) r)

  members_all : (k : ℕ) → ((j : ℕ) → j ≤ k → P (lower j)) → ((j : ℕ) → j ≤ k → P (upper j)) → AllByRecursion P (members (constraints (suc k)))
  members_all k h u =
      subst (λ ts. AllByRecursion P ts) (sym (each k))
      (lowers_all (suc k) 0 (uppers 0 k ++ upper k ∷ []) (λ j l. h j (omega (arith, l)))
      (uppers_all k 0 (upper k ∷ []) (λ j l. u j (omega (arith, l))) (u k (omega arith), tt)))

  -- what waits at the end waited at the beginning
  moves_all : (s : Subst Text) {l m : List Constraint} {w x : List Tree} → Moves s l w m x → AllByRecursion P w → AllByRecursion P x
  moves_all s no_move h = h
  moves_all s (move i r) h =
      let parts = (both_parts P i.before (i.term ∷ i.after)).0 (subst (λ ts. AllByRecursion P ts) i.among h) in
      moves_all s r (subst (λ ts. AllByRecursion P ts) (sym i.leaves) ((both_parts P i.before i.after).1 (parts.0, parts.1.1)))

-- ---- no member waits

abbrev pub IsPlainTerm : Tree → Type 0
IsPlainTerm (Var v) = ⊤
IsPlainTerm (Number q) = ⊤
IsPlainTerm t = ⊥

-- each variable is a variable or a number
abbrev pub IsPlain : Subst Text → Type 0
IsPlain s = (v : ℕ) → IsPlainTerm (s v)

abbrev NeverWaits : Tree → Type 0
NeverWaits t = (fixed : ℕ → Option ℚ) (s : Subst Text) → IsPlain s → lin fixed (apply s t) ≡ Waits → ⊥

pub plain_form : (fixed : ℕ → Option ℚ) (t : Tree) → IsPlainTerm t → (f : Linear) × (form_of fixed t ≡ Some f)
plain_form fixed (Var v) h = (variable_under (fixed v) v, refl)
plain_form fixed (Number q) h = (constant_form q, refl)
plain_form fixed (Name n) h = absurd h
plain_form fixed (Compound f ts) h = absurd h

never : (b : Bool) (o : Option RelationName) (p q : Option Linear) (r : RelationName) (f g : Linear) → o ≡ Some r → p ≡ Some f → q ≡ Some g
    → cond b False (related_forms o p q) ≡ Waits → ⊥
never true o p q r f g h i j e = cc
never false None p q r f g h i j e = cc
never false (Some x) None q r f g h i j e = cc
never false (Some x) (Some y) None r f g h i j e = cc
never false (Some x) (Some y) (Some z) r f g h i j e = cc

lower_never : (k : ℕ) → NeverWaits (lower k)
lower_never zero fixed s plain e =
    let a = plain_form fixed (s 0) (plain 0) in
    never (has_zero_divisor fixed (s 0) || has_zero_divisor fixed (natural 1)) (relation_name (codes ">=")) (form_of fixed (s 0)) (form_of fixed (natural 1))
    GreaterOrEqual a.0 (constant_form (int_ℚ (pos 1))) refl a.1 refl e
lower_never (suc k) fixed s plain e =
    let a = plain_form fixed (s (suc k)) (plain (suc k)) in
    let b = plain_form fixed (s k) (plain k) in
    let g = constant_form (int_ℚ (pos (gap (suc (suc k))))) in
    let sum = binary (codes "+") (s k) (natural (gap (suc (suc k)))) in
    never (has_zero_divisor fixed (s (suc k)) || has_zero_divisor fixed sum) (relation_name (codes ">=")) (form_of fixed (s (suc k))) (form_of fixed sum)
    GreaterOrEqual a.0 (sum_form b.0 g) refl a.1 (ap (λ o. binary_of (Some Plus) o (Some g)) b.1) e

upper_never : (k : ℕ) → NeverWaits (upper k)
upper_never k fixed s plain e =
    let a = plain_form fixed (s k) (plain k) in
    never (has_zero_divisor fixed (s k) || has_zero_divisor fixed (natural 1000000)) (relation_name (codes "=<")) (form_of fixed (s k)) (form_of fixed (natural 1000000))
    LesserOrEqual a.0 (constant_form (int_ℚ (pos 1000000))) refl a.1 refl e

none_wait : (fixed : ℕ → Option ℚ) (s : Subst Text) → IsPlain s → (ts : List Tree) → AllByRecursion NeverWaits ts
    → ((t : Tree) → Has t ts → lin fixed (apply s t) ≡ Waits) → ts ≡ []
none_wait fixed s plain [] all h = refl
none_wait fixed s plain (t ∷ ts) all h = absurd (all.0 fixed s plain (h t (inl refl)))

-- ---- V stands in no member

abbrev LacksIt : ℕ → List ℕ → Type 0
LacksIt n vs = list_any (λ w. w == n) vs ≡ false

or_rest : (a b c : Bool) → (a || b) ≡ false → (b ≡ false → c ≡ false) → (a || c) ≡ false
or_rest true b c e f = cc
or_rest false b c e f = f e

pushed_lacks : (n v : ℕ) (vs : List ℕ) → LacksIt n vs → (v ≡ n → ⊥) → LacksIt n (vs ++ v ∷ [])
pushed_lacks n v [] h o = ap (λ b. b || false) (ne_eqb v n o)
pushed_lacks n v (w ∷ ws) h o =
    or_rest (w == n) (list_any (λ x. x == n) ws) (list_any (λ x. x == n) (ws ++ v ∷ [])) h (λ e. pushed_lacks n v ws e o)

with_lacks : (n v : ℕ) (vs : List ℕ) → LacksIt n vs → (v ≡ n → ⊥) → LacksIt n (with_variable vs v)
with_lacks n v vs h o = go (list_any (λ w. w == v) vs)
  where
    go : (b : Bool) → LacksIt n (cond b vs (vs ++ v ∷ []))
    go true = h
    go false = pushed_lacks n v vs h o

abbrev LacksVariable : ℕ → Tree → Type 0
LacksVariable n t = LacksIt n (variables (apply identity t))

lower_lacks : (n k : ℕ) → k < n → LacksVariable n (lower k)
lower_lacks n zero h = with_lacks n 0 [] refl (λ e. omega (arith, e, h))
lower_lacks n (suc k) h =
    with_lacks n k (with_variable [] (suc k)) (with_lacks n (suc k) [] refl (λ e. omega (arith, e, h))) (λ e. omega (arith, e, h))

upper_lacks : (n k : ℕ) → k < n → LacksVariable n (upper k)
upper_lacks n k h = with_lacks n k [] refl (λ e. omega (arith, e, h))

none_stands : (n : ℕ) (ts : List Tree) → AllByRecursion (LacksVariable n) ts → stands_in identity ts n ≡ false
none_stands n [] h = refl
none_stands n (t ∷ ts) h = ap₂ (λ a b. a || b) h.0 (none_stands n ts h.1)

-- ---- what is known

-- the variable is itself or its fixed value
abbrev pub IsImage : (ℕ → Option ℚ) → ℕ → Tree → Type 0
IsImage fixed v t = (t ≡ Var v) ⊎ ((q : ℚ) × (t ≡ Number q) × (fixed v ≡ Some q))

pub plain_image : (fixed : ℕ → Option ℚ) (v : ℕ) (t : Tree) → IsImage fixed v t → IsPlainTerm t
plain_image fixed v t (inl e) = subst IsPlainTerm (sym e) tt
plain_image fixed v t (inr h) = subst IsPlainTerm (sym h.1) tt

-- a branch that knows the constraints of the query for suc k
pub record Knows (k : ℕ) (line : Text) (b : Branch) : Type 0 where
  pub items : b.items ≡ Goal (asked (suc k)) 0 ∷ []
  pub phase : b.phase ≡ Settled
  pub delayed : b.state.delayed ≡ []
  pub sleepers : b.state.sleepers ≡ []
  pub numeric : b.state.numeric (suc k) ≡ false
  pub unbound : b.state.bindings (suc k) ≡ Var (suc k)
  pub fixed : ℕ → Option ℚ
  pub fixes : Fixes b.state.linear fixed
  pub image : (v : ℕ) → IsImage fixed v (b.state.bindings v)

image_of : (numeric : ℕ → Bool) (fixed : ℕ → Option ℚ) (v : ℕ) → IsImage fixed v (fixed_values numeric fixed v)
image_of numeric fixed v = go (numeric v) (fixed v) refl
  where
    go : (b : Bool) (o : Option ℚ) → fixed v ≡ o → IsImage fixed v (cond b (value_or_variable o v) (Var v))
    go true None e = inl refl
    go true (Some q) e = inr (q, refl, e)
    go false o e = inl refl

module _ (k : ℕ) (line : Text) (st : State) (free : IsFree (suc k) line st) where
  abbrev ts : List Tree
  ts = members (constraints (suc k))

  module _ (u : Subst Text) (h : IsUnifier [] u) where
    nothing_changes : followed_by st.bindings u ≡ identity
    nothing_changes = λ i v. apply (λ w. unifier_unique [] u identity h identity_unifies w i) (free.bindings i v)

    numeric_then : numeric_after st u (followed_by st.bindings u) ts (suc k) ≡ false
    numeric_then =
        let nothing : newly_bound st u ≡ [] = none_passes (λ v. st.numeric v && not (is_bound st.bindings v) && is_bound u v) (λ v. ap (λ b. b && not (is_bound st.bindings v) && is_bound u v) (free.numeric v)) _ in
        let lacking : stands_in (followed_by st.bindings u) ts (suc k) ≡ false =
        ap (λ s. stands_in s ts (suc k)) nothing_changes
        ∙ none_stands (suc k) ts (members_all (LacksVariable (suc k)) k (λ j l. lower_lacks (suc k) j (omega (arith, l))) (λ j l. upper_lacks (suc k) j (omega (arith, l)))) in
        λ i. free.numeric (suc k) i || list_any (λ w. is_the_variable (suc k) (followed_by st.bindings u w)) (nothing i) || lacking i

    module _ (f : ℕ → Option ℚ) where
      abbrev numeric : ℕ → Bool
      numeric = numeric_after st u (followed_by st.bindings u) ts

      abbrev bindings : Subst Text
      bindings = bindings_after st (work k line st free) u f

      bound : (v : ℕ) → bindings v ≡ fixed_values numeric f v
      bound v = ap (λ (s : Subst Text). apply (fixed_values numeric f) (s v)) nothing_changes

      image_there : (v : ℕ) → IsImage f v (bindings v)
      image_there v = subst (λ t. IsImage f v t) (sym (bound v)) (image_of numeric f v)

      unbound_there : bindings (suc k) ≡ Var (suc k)
      unbound_there = bound (suc k) ∙ ap (λ b. cond b (value_or_variable (f (suc k)) (suc k)) (Var (suc k))) numeric_then

    waiting : (j : Settling st (work k line st free) u) → AllByRecursion NeverWaits j.waiting
    waiting j =
        moves_all NeverWaits (followed_by st.bindings u) j.closure.moves
        (subst (λ ws. AllByRecursion NeverWaits (ws ++ ts)) (sym free.delayed) (members_all NeverWaits k (λ n l. lower_never n) (λ n l. upper_never n)))

    knows_then : (b : Branch) → SettlesUnified (items k line st free) st (work k line st free) u (Kept b) → IsSettled b.state → Knows k line b
    knows_then b (kept n j s f fixes) rest = record {
      items = ap (λ ks. woken (bindings f) ks ++ items k line st free) free.sleepers;
      phase = refl;
      delayed = none_wait f (bindings f) (λ v. plain_image f v (bindings f v) (image_there f v)) j.waiting (waiting j) (λ t has. rest.waiting t (lin f (apply (bindings f) t)) has (record { fixed = f; fixes = fixes; is = refl }));
      sleepers = ap (left_asleep (bindings f)) free.sleepers;
      numeric = numeric_then;
      unbound = unbound_there f;
      fixed = f;
      fixes = fixes;
      image = image_there f;
    }

  pub knows : (b : Branch) → Settles (items k line st free) st (work k line st free) (Kept b) → Knows k line b
  knows b (unified u h x) = knows_then u h b x (kept_rests (items k line st free) st (work k line st free) b (unified u h x))
