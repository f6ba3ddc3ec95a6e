-- From any list of linear constraints and any waiting terms some moves lead to a closure.
use Rattle.std.proofs.Common.{◌≡◌, ◌⊎◌, inl, inr, ℕ, suc, zero, ◌<◌, length, List, [], ◌∷◌, ◌++◌, Option, Some, None, arith, refl, ap, sym, subst, ◌∙◌}
use Rattle.std.proofs.lemmas.List.{length-append}
use Rattle.spec_numbers.specs.Rational.{ℚ}
use Rattle.spec_linear.specs.Solution.{Constraint, Solvable, Unsolvable, Has}
use Rattle.spec_numbers.specs.Texts.{Text}
use Rattle.spec_terms.specs.Term.{Subst, apply}
use Rattle.spec_syntax.specs.Trees.{Tree}
use Rattle.spec_branch.specs.Relations.{lin, row_of}
use Rattle.spec_branch.specs.Closure.{IsMove, no_move, move, IsClosure}
use Rattle.spec_branch.proofs.Waiting.{one_map}
use Rattle.spec_projection.proofs.Decision.{decided}
use Rattle.spec_projection.proofs.Fixing.{values_fixed, values_fixed_are}

has_here : (u : Tree) (c d : List Tree) → Has u (c ++ u ∷ d)
has_here u [] d = inl refl
has_here u (x ∷ c) d = inr (has_here u c d)

module _ (s : Subst Text) where
  -- ---- a term that is linear or false

  record Goes (fixed : ℕ → Option ℚ) (w : List Tree) : Type 0 where
    before : List Tree
    term : Tree
    after : List Tree
    among : w ≡ before ++ term ∷ after
    row : Constraint
    row_is : row_of (lin fixed (apply s term)) ≡ Some row

  abbrev AllWait : (ℕ → Option ℚ) → List Tree → Type 0
  AllWait fixed w = (t : Tree) → Has t w → row_of (lin fixed (apply s t)) ≡ None

  further : (fixed : ℕ → Option ℚ) (u : Tree) (w : List Tree) → Goes fixed w → Goes fixed (u ∷ w)
  further fixed u w g =
      record { before = u ∷ g.before; term = g.term; after = g.after; among = ap (λ x. u ∷ x) g.among; row = g.row; row_is = g.row_is }

  found : (fixed : ℕ → Option ℚ) (w : List Tree) → Goes fixed w ⊎ AllWait fixed w
  found fixed [] = inr (λ t h. absurd h)
  found fixed (u ∷ w) = go (row_of (lin fixed (apply s u))) refl (found fixed w)
    where
      go : (r : Option Constraint) → row_of (lin fixed (apply s u)) ≡ r → Goes fixed w ⊎ AllWait fixed w → Goes fixed (u ∷ w) ⊎ AllWait fixed (u ∷ w)
      go (Some c) e rest = inl (record { before = []; term = u; after = w; among = refl; row = c; row_is = e })
      go None e (inl g) = inl (further fixed u w g)
      go None e (inr n) = inr (λ t h. elim h [ inl d ↦ ap (λ x. row_of (lin fixed (apply s x))) d ∙ e | inr k ↦ n t k ])

  -- ---- closures

  abbrev pub Closes : List Constraint → List Tree → Type 0
  Closes l w = (m : List Constraint) × (x : List Tree) × IsClosure s l w m x

  -- over a list without a solution nothing moves
  unsolvable_closes : (l : List Constraint) (w : List Tree) → Unsolvable l → Closes l w
  unsolvable_closes l w n = (l, w, record { moves = no_move; closed = λ m x i. n i.solvable.0 i.solvable.1 })

  waiting_closes : (l : List Constraint) (w : List Tree) → AllWait (values_fixed l) w → Closes l w
  waiting_closes l w waits = (l, w, record { moves = no_move; closed = none })
    where
      none : (m : List Constraint) (x : List Tree) → IsMove s l w m x → ⊥
      none m x i =
          let one : i.is_lin.fixed ≡ values_fixed l = one_map l l i.is_lin.fixed (values_fixed l) (λ p. (λ h. h, λ h. h)) i.is_lin.fixes (values_fixed_are l) in
          let here : Has i.term w = subst (λ y. Has i.term y) (sym i.among) (has_here i.term i.before i.after) in
          let row : row_of (lin (values_fixed l) (apply s i.term)) ≡ Some i.row =
          ap (λ (f : ℕ → Option ℚ). row_of (lin f (apply s i.term))) (sym one) ∙ ap row_of i.is_lin.is ∙ i.row_is in
          let c : None ≡ Some i.row = sym (waits i.term here) ∙ row in
          cc

  moved : (l : List Constraint) (w : List Tree) → Solvable l → (g : Goes (values_fixed l) w) → IsMove s l w (l ++ g.row ∷ []) (g.before ++ g.after)
  moved l w solvable g = record {
    before = g.before;
    term = g.term;
    after = g.after;
    among = g.among;
    solvable = solvable;
    result = lin (values_fixed l) (apply s g.term);
    is_lin = record { fixed = values_fixed l; fixes = values_fixed_are l; is = refl };
    row = g.row;
    row_is = g.row_is;
    joins = refl;
    leaves = refl;
  }

  shorter : (fixed : ℕ → Option ℚ) (w : List Tree) (g : Goes fixed w) → length (g.before ++ g.after) < length w
  shorter fixed w g =
      let e : length w ≡ length (g.before ++ g.term ∷ g.after) = ap length g.among in
      omega (arith, e, length-append g.before g.after, length-append g.before (g.term ∷ g.after))

  behind : (l : List Constraint) (w : List Tree) → Solvable l → (g : Goes (values_fixed l) w) → Closes (l ++ g.row ∷ []) (g.before ++ g.after) → Closes l w
  behind l w solvable g c = (c.0, c.1, record { moves = move (moved l w solvable g) c.2.moves; closed = c.2.closed })

  -- each move takes one of the waiting terms
  closes_within : (n : ℕ) (l : List Constraint) (w : List Tree) → length w < n → Closes l w
  closes_within zero l w h = absurd (omega (arith, h))
  closes_within (suc n) l w h = go (decided l)
      (λ g. closes_within n (l ++ g.row ∷ []) (g.before ++ g.after) (let k : length (g.before ++ g.after) < length w = shorter (values_fixed l) w g in omega (arith, h, k)))
    where
      by : Solvable l → ((g : Goes (values_fixed l) w) → Closes (l ++ g.row ∷ []) (g.before ++ g.after)) → Goes (values_fixed l) w ⊎ AllWait (values_fixed l) w → Closes l w
      by solvable rest (inl g) = behind l w solvable g (rest g)
      by solvable rest (inr n) = waiting_closes l w n

      go : Solvable l ⊎ Unsolvable l → ((g : Goes (values_fixed l) w) → Closes (l ++ g.row ∷ []) (g.before ++ g.after)) → Closes l w
      go (inl solvable) rest = by solvable rest (found (values_fixed l) w)
      go (inr n) rest = unsolvable_closes l w n

  pub closure_exists : (l : List Constraint) (w : List Tree) → Closes l w
  closure_exists l w = closes_within (suc (length w)) l w (omega arith)
