-- The form that a list of equations has for a variable; in a distinct order that makes an echelon form a solved form.
use Rattle.std.proofs.Common.{◌≡◌, ◌≢◌, ◌↔◌, ℕ, List, [], ◌∷◌, Bool, true, false, cond, arith, Option, Some, None, refl, ap, ap₂, sym, subst, ◌∙◌, inl, inr}
use Rattle.std.specs.Prelude.{◌==◌}
use Rattle.std.specs.List.{AllByRecursion, cons_option}
use Rattle.spec_numbers.specs.Rational.{ℚ}
use Rattle.spec_numbers.specs.Sums.{Mentions}
use Rattle.spec_linear.specs.Form.{Linear, value_at}
use Rattle.spec_linear.specs.Solution.{Constraint, MentionsOnly, Has, Satisfies}
use Rattle.spec_numbers.proofs.Tests.{nat_eq-same}
use Rattle.spec_linear.specs.Echelon.{Solved, equations, solved_variables, AreDistinct, InOrder, IsEchelon}
use Rattle.spec_linear.specs.SolvedForm.{Agrees, IsSolvedForm, row_at, rows_of}
use Rattle.spec_linear.proofs.Orders.{in_order-has, in_order-once, in_order-rest}
use Rattle.spec_linear.proofs.Filled.{equation-says, equation-said}

-- the form of the first equation that is solved for x
abbrev pub found : List Solved → ℕ → Option Linear
found [] x = None
found (e ∷ es) x = cond (x == e.variable) (Some e.form) (found es x)

-- what holds of each equation holds of the one that is found
found-of : (P : Solved → Type 0) (es : List Solved) → AllByRecursion P es → (x : ℕ) (f : Linear) → found es x ≡ Some f → P (record { variable = x; form = f })
found-of P [] h x f k = absurd (none_some k)
  where
    none_some : {g : Linear} → None ≡ Some g → ⊥
    none_some {g} e = cc
found-of P (e ∷ es) h x f k = go (x == e.variable) refl k (λ i. found-of P es h.1 x f i)
  where
    go : (b : Bool) → (x == e.variable) ≡ b → cond b (Some e.form) (found es x) ≡ Some f → (found es x ≡ Some f → P (record { variable = x; form = f })) → P (record { variable = x; form = f })
    go true w i r =
        let is : e.form ≡ f = cc in
        subst P (ap₂ (λ (y : ℕ) (g : Linear). let d : Solved = record { variable = y; form = g } in d) (sym (nat_eq-same x e.variable w)) is) h.0
    go false w i r = r i

found-first : (e : Solved) (es : List Solved) → found (e ∷ es) e.variable ≡ Some e.form
found-first e es = let w : (e.variable == e.variable) ≡ true = grind arith in ap (λ (b : Bool). cond b (Some e.form) (found es e.variable)) w

found-other : (e : Solved) (es : List Solved) (x : ℕ) → x ≢ e.variable → found (e ∷ es) x ≡ found es x
found-other e es x n = let w : (x == e.variable) ≡ false = grind arith in ap (λ (b : Bool). cond b (Some e.form) (found es x)) w

pub found-none : (es : List Solved) (x : ℕ) → (Has x (solved_variables es) → ⊥) → found es x ≡ None
found-none [] x n = refl
found-none (e ∷ es) x n = found-other e es x (λ w. n (inl w)) ∙ found-none es x (λ k. n (inr k))

-- each equation is found
abbrev pub AreFound : (ℕ → Option Linear) → List Solved → Type 0
AreFound solved es = AllByRecursion (λ e. solved e.variable ≡ Some e.form) es

found-behind : (e : Solved) (es ds : List Solved) → (Has e.variable (solved_variables ds) → ⊥) → AreFound (found es) ds → AreFound (found (e ∷ es)) ds
found-behind e es [] n h = tt
found-behind e es (d ∷ ds) n h = (found-other e es d.variable (λ w. n (inl (sym w))) ∙ h.0, found-behind e es ds (λ k. n (inr k)) h.1)

pub found-each : (order : List ℕ) (es : List Solved) → AreDistinct order → InOrder order (solved_variables es) → AreFound (found es) es
found-each order [] d i = tt
found-each order (e ∷ es) d i = (
  found-first e es,
  found-behind e es es (in_order-once order e.variable (solved_variables es) d i) (found-each order es d (in_order-rest order e.variable (solved_variables es) i)),
)

-- ---- an echelon form is a solved form

says-each : (a : ℕ → ℚ) (es : List Solved) → Satisfies a (equations es) → AllByRecursion (λ e. a e.variable ≡ value_at a e.form) es
says-each a [] h = tt
says-each a (e ∷ es) h = (equation-says a e h.0, says-each a es h.1)

said-each : (a : ℕ → ℚ) (solved : ℕ → Option Linear) (es : List Solved) → AreFound solved es → Agrees a solved → Satisfies a (equations es)
said-each a solved [] h g = tt
said-each a solved (e ∷ es) h g = (equation-said a e (g e.variable e.form h.0), said-each a solved es h.1 g)

-- of any list over the variables that says what the equations say
pub solved_form : (order : List ℕ) (l k : List Constraint) (es : List Solved) → AreDistinct order → IsEchelon order l es → MentionsOnly order k → ((a : ℕ → ℚ) → Satisfies a k ↔ Satisfies a (equations es)) → IsSolvedForm order k (found es)
solved_form order l k es d h m same = record {
  distinct = d;
  known = m;
  before = found-of _ es h.first;
  free = free;
  same = λ a. (
    (λ g. found-of (λ e. a e.variable ≡ value_at a e.form) es (says-each a es ((same a).0 g))),
    (λ g. (same a).1 (said-each a (found es) es (found-each order es d h.sorted) g)),
  );
}
  where
    free : (x y : ℕ) (f : Linear) → found es x ≡ Some f → Mentions y f.products → found es y ≡ None
    free x y f e w = go (found es y) refl
      where
        go : (r : Option Linear) → found es y ≡ r → found es y ≡ None
        go None n = n
        go (Some g) k = absurd (found-of _ es (found-of _ es h.reduced x f e) y g k w)

-- ---- its rows are the equations

rows-free : (solved : ℕ → Option Linear) (v : ℕ) (order : List ℕ) → solved v ≡ None → rows_of solved (v ∷ order) ≡ rows_of solved order
rows-free solved v order e = ap (λ o. cons_option (row_at v o) (rows_of solved order)) e

rows-first : (solved : ℕ → Option Linear) (v : ℕ) (order : List ℕ) (e : Solved) → e.variable ≡ v → solved e.variable ≡ Some e.form → rows_of solved (v ∷ order) ≡ e ∷ rows_of solved order
rows-first solved v order e w k = ap (λ y. rows_of solved (y ∷ order)) (sym w) ∙ ap (λ o. cons_option (row_at e.variable o) (rows_of solved order)) k

pub rows-are : (solved : ℕ → Option Linear) (order : List ℕ) (es : List Solved) → AreDistinct order → InOrder order (solved_variables es) → AreFound solved es
    → ((x : ℕ) → Has x order → (Has x (solved_variables es) → ⊥) → solved x ≡ None) → rows_of solved order ≡ es
rows-are solved [] [] d i h n = refl
rows-are solved [] (e ∷ es) d i h n = absurd i
rows-are solved (v ∷ order) [] d i h n =
    rows-free solved v order (n v (inl refl) (λ w. w)) ∙ rows-are solved order [] d.1 tt tt (λ x k w. n x (inr k) w)
rows-are solved (v ∷ order) (e ∷ es) d (inl i) h n =
    rows-first solved v order e i.0 h.0
    ∙ ap (λ r. e ∷ r) (rows-are solved order es d.1 i.1 h.1 (λ x k w. n x (inr k) (behind x k w)))
  where
    behind : (x : ℕ) → Has x order → (Has x (solved_variables es) → ⊥) → Has x (solved_variables (e ∷ es)) → ⊥
    behind x k w (inl q) = let same : x ≡ e.variable = q in d.0 (subst (λ z. Has z order) (same ∙ i.0) k)
    behind x k w (inr q) = w q
rows-are solved (v ∷ order) (e ∷ es) d (inr i) h n =
    rows-free solved v order (n v (inl refl) (λ w. d.0 (in_order-has order (solved_variables (e ∷ es)) i v w)))
    ∙ rows-are solved order (e ∷ es) d.1 i h (λ x k w. n x (inr k) w)
