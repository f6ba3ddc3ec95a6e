-- There is one echelon form in an order of distinct variables of what a list entails.
use Rattle.std.proofs.Common.{◌≡◌, ℕ, List, [], ◌∷◌, ap, sym, ◌∙◌, inl, inr}
use Rattle.std.proofs.Math.Path.{fun_ext}
use Rattle.std.specs.List.{AllByRecursion}
use Rattle.spec_numbers.specs.Rational.{ℚ}
use Rattle.spec_numbers.specs.Sums.{Mentions}
use Rattle.spec_linear.specs.Form.{Linear}
use Rattle.spec_linear.specs.Solution.{Constraint, Entails, Has, MentionsOnly, Satisfies, equal_zero}
use Rattle.spec_linear.proofs.Lists.{entails_same}
use Rattle.spec_linear.specs.Echelon.{Solved, AreDistinct, IsBefore, IsOver, IsEchelon, difference, equation, equations, variables}
use Rattle.spec_linear.specs.SolvedForm.{rows_of}
use Rattle.spec_linear.proofs.Orders.{in_order-has, mentions-has}
use Rattle.spec_linear.proofs.Solving.{negated-mentions}
use Rattle.spec_linear.proofs.Found.{found, found-each, found-none, solved_form, rows-are}
use Rattle.spec_linear.proofs.UniqueForms.{solved_same}

-- ---- the equations are over the order

abbrev AreBefore : List ℕ → List Solved → Type 0
AreBefore order es = AllByRecursion (λ e. IsBefore order e.variable e.form.products) es

over-difference : (order : List ℕ) (e : Solved) → IsBefore order e.variable e.form.products → IsOver order (difference e)
over-difference order e b x m = in_order-has order (e.variable ∷ variables e.form.products) b.ordered x (go m)
  where
    go : Mentions x (difference e).products → Has x (e.variable ∷ variables e.form.products)
    go (inl w) = inl w
    go (inr k) = inr (mentions-has x e.form.products (negated-mentions x e.form.products k))

over-equations : (order : List ℕ) (es : List Solved) → AreBefore order es → MentionsOnly order (equations es)
over-equations order [] b x m = absurd m
over-equations order (e ∷ es) b x (inl m) = over-difference order e b.0 x m
over-equations order (e ∷ es) b x (inr k) = over-equations order es b.1 x k

-- ---- the equations of two echelon forms say the same

-- k says each equation, where it says all that l says over the order
each-said : (order : List ℕ) (l k : List Constraint) → ((f : Linear) → IsOver order f → Entails l (equal_zero f) → Entails k (equal_zero f))
    → (es : List Solved) → AreBefore order es → AllByRecursion (λ e. Entails l (equation e)) es → (a : ℕ → ℚ) → Satisfies a k → Satisfies a (equations es)
each-said order l k c [] b h a s = tt
each-said order l k c (e ∷ es) b h a s =
    ((entails_same k (equation e)).0 (c (difference e) (over-difference order e b.0) h.0) a s, each-said order l k c es b.1 h.1 a s)

others_said : (order : List ℕ) (l : List Constraint) (es gs : List Solved) → IsEchelon order l es → IsEchelon order l gs → (a : ℕ → ℚ) → Satisfies a (equations es) → Satisfies a (equations gs)
others_said order l es gs h k = each-said order l (equations es) h.complete gs k.first k.entailed

-- ---- so they are the same

rows-found : (order : List ℕ) (l : List Constraint) (es : List Solved) → AreDistinct order → IsEchelon order l es → rows_of (found es) order ≡ es
rows-found order l es d h = rows-are (found es) order es d h.sorted (found-each order es d h.sorted) (λ x k n. found-none es x n)

pub unique_echelon : (order : List ℕ) (l : List Constraint) (es gs : List Solved) → AreDistinct order → IsEchelon order l es → IsEchelon order l gs → es ≡ gs
unique_echelon order l es gs d h k =
    let known : MentionsOnly order (equations es) = over-equations order es h.first in
    let s = solved_form order l (equations es) es d h known (λ a. ((λ g. g), (λ g. g))) in
    let o = solved_form order l (equations es) gs d k known (λ a. (others_said order l es gs h k a, others_said order l gs es k h a)) in
    sym (rows-found order l es d h)
    ∙ ap (λ solved. rows_of solved order) (fun_ext (solved_same order (equations es) (found es) (found gs) s o))
    ∙ rows-found order l gs d k
