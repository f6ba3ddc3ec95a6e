-- A solvable closure satisfies each other one that begins at a list with the same solutions.
use Rattle.std.proofs.Common.{◌≡◌, ◌↔◌, ℕ, List, [], ◌∷◌, ◌++◌, Option, Some, refl, sym, ap, ◌∙◌, subst, inl, inr, ◌⊎◌}
use Rattle.spec_numbers.specs.Rational.{ℚ}
use Rattle.spec_linear.specs.Solution.{Constraint, Point, Solves, Solvable, Holds, Fixes, Has, Equivalent, false_constraint}
use Rattle.spec_linear.proofs.Lists.{solves_append, false_unsolvable}
use Rattle.spec_numbers.specs.Texts.{Text}
use Rattle.spec_terms.specs.Term.{Subst, apply}
use Rattle.spec_syntax.specs.Trees.{Tree}
use Rattle.spec_branch.specs.Relations.{Lin, Is, Waits, False, lin, row_of, IsLin}
use Rattle.spec_branch.proofs.AtPoints.{linear_over, false_stays}
use Rattle.spec_branch.specs.Closure.{IsMove, Moves, no_move, move, IsClosure}

-- ---- lists

-- a member is the one that leaves, or among the others
has_rest : (t u : Tree) (c d : List Tree) → Has t (c ++ u ∷ d) → (t ≡ u) ⊎ Has t (c ++ d)
has_rest t u [] d h = h
has_rest t u (x ∷ c) d (inl e) = inr (inl e)
has_rest t u (x ∷ c) d (inr h) = elim (has_rest t u c d h) [ inl e ↦ inl e | inr k ↦ inr (inr k) ]

has_back : (t u : Tree) (c d : List Tree) → Has t (c ++ d) → Has t (c ++ u ∷ d)
has_back t u [] d h = inr h
has_back t u (x ∷ c) d (inl e) = inl e
has_back t u (x ∷ c) d (inr h) = inr (has_back t u c d h)

has_here : (u : Tree) (c d : List Tree) → Has u (c ++ u ∷ d)
has_here u [] d = inl refl
has_here u (x ∷ c) d = inr (has_here u c d)

pub has_parts : (t : Tree) (w : List Tree) → Has t w → (c : List Tree) × (d : List Tree) × (w ≡ c ++ t ∷ d)
has_parts t [] h = absurd h
has_parts t (u ∷ us) (inl e) = ([], us, ap (λ x. x ∷ us) (sym e))
has_parts t (u ∷ us) (inr h) =
    let r = has_parts t us h in
    (u ∷ r.0, r.1, ap (λ xs. u ∷ xs) r.2)

pub false_fails : (p : Point) → Holds p false_constraint → ⊥
false_fails p h = false_unsolvable (false_constraint ∷ []) (inl refl) p (h, tt)

-- moves only add
pub moves_below : {s : Subst Text} {l m : List Constraint} {w x : List Tree} → Moves s l w m x → (p : Point)
    → Solves p m → Solves p l
moves_below no_move p h = h
moves_below (move {l = l} k r) p h = ((solves_append p l (k.row ∷ [])).0 (subst (λ (c : List Constraint). Solves p c) k.joins (moves_below r p h))).0

module _ (s : Subst Text) (goal : List Constraint) (fixed : ℕ → Option ℚ) (fixes : Fixes goal fixed) (solvable : Solvable goal) where
  -- every solution of the goal satisfies the list
  abbrev pub Below : List Constraint → Type 0
  Below l = (p : Point) → Solves p goal → Solves p l

  fixed_kept : (l : List Constraint) (f : ℕ → Option ℚ) → Fixes l f → Below l → (x : ℕ) (q : ℚ) → f x ≡ Some q
      → fixed x ≡ Some q
  fixed_kept l f h below x q e = fixes.complete x q (record { solvable = solvable; always = λ p k. (h.sound x q e).always p (below p k) })

  -- a constraint that a term became over a list below the goal
  pub record Row (t : Tree) (c : Constraint) : Type 0 where
    pub list : List Constraint
    pub below : Below list
    pub result : Lin Constraint
    pub is_lin : IsLin list (apply s t) result
    pub row_is : row_of result ≡ Some c

  kept_of : (t : Tree) (c : Constraint) (r : Row t c) → (x : ℕ) (q : ℚ) → r.is_lin.fixed x ≡ Some q
      → fixed x ≡ Some q
  kept_of t c r = fixed_kept r.list r.is_lin.fixed r.is_lin.fixes r.below

  -- what the term is over the goal: linear with the same meaning, or false
  abbrev pub Became : Tree → Constraint → Type 0
  Became t c = ((d : Constraint) × (lin fixed (apply s t) ≡ Is d) × ((p : Point) → Solves p goal → Holds p c ↔ Holds p d)) ⊎ ((lin fixed (apply s t) ≡ False) × (c ≡ false_constraint))

  pub became : (t : Tree) (c : Constraint) → Row t c → Became t c
  became t c r = go r.result r.is_lin.is r.row_is
    where
      go : (w : Lin Constraint) → lin r.is_lin.fixed (apply s t) ≡ w → row_of w ≡ Some c → Became t c
      go (Is d) e h =
          let k : d ≡ c = cc in
          inl (linear_over goal r.is_lin.fixed fixed (kept_of t c r) fixes (apply s t) c (e ∙ ap (λ (z : Constraint). Is z) k))
      go Waits e h = cc
      go False e h =
          let k : false_constraint ≡ c = cc in
          inr (false_stays r.is_lin.fixed fixed (kept_of t c r) (apply s t) e, sym k)

  -- where one row of a term holds at all solutions of the goal, so does another row of it
  row_holds : (t : Tree) (c d : Constraint) → Row t c → Row t d → ((p : Point) → Solves p goal → Holds p d)
      → (p : Point) → Solves p goal → Holds p c
  row_holds t c d rc rd h p k = go (became t c rc) (became t d rd)
    where
      go : Became t c → Became t d → Holds p c
      go a (inr b) = absurd (false_fails p (subst (λ (z : Constraint). Holds p z) b.1 (h p k)))
      go (inr a) (inl b) = let e : False ≡ Is b.0 = sym a.0 ∙ b.1 in cc
      go (inl a) (inl b) =
          let e : Is a.0 ≡ Is b.0 = sym a.1 ∙ b.1 in
          let same : b.0 ≡ a.0 = cc in
          (a.2 p k).1 (subst (λ (z : Constraint). Holds p z) same ((b.2 p k).0 (h p k)))

  -- a term that is told on the way to the goal
  record Told (t : Tree) : Type 0 where
    row : Constraint
    became_row : Row t row
    holds : (p : Point) → Solves p goal → Holds p row

  told_or_waits : {l : List Constraint} {w x : List Tree} → Moves s l w goal x → (t : Tree) → Has t w
      → Told t ⊎ Has t x
  told_or_waits no_move t h = inr h
  told_or_waits (move {l = l} {w = w} k r) t h =
      elim (has_rest t k.term k.before k.after (subst (λ (z : List Tree). Has t z) k.among h)) [
        | inl e ↦
            inl (subst (λ (z : Tree). Told z) (sym e) (record {
              row = k.row;
              became_row = record { list = l; below = moves_below (move k r); result = k.result; is_lin = k.is_lin; row_is = k.row_is };
              holds = λ p g. ((solves_append p l (k.row ∷ [])).0 (subst (λ (z : List Constraint). Solves p z) k.joins (moves_below r p g))).1.0;
            }))
        | inr m ↦ told_or_waits r t (subst (λ (z : List Tree). Has t z) (sym k.leaves) m)
      ]

  -- a move that is possible at the goal
  pub can_move : (t : Tree) (x : List Tree) → Has t x → (w : Lin Constraint) (c : Constraint)
      → lin fixed (apply s t) ≡ w → row_of w ≡ Some c
      → (m : List Constraint) × (y : List Tree) × IsMove s goal x m y
  can_move t x a w c e h =
      let p = has_parts t x a in (
        goal ++ c ∷ [],
        p.0 ++ p.1,
        record {
          before = p.0;
          term = t;
          after = p.1;
          among = p.2;
          solvable = solvable;
          result = w;
          is_lin = record { fixed = fixed; fixes = fixes; is = e };
          row = c;
          row_is = h;
          joins = refl;
          leaves = refl;
        },
      )

  -- moves from a list below the goal stay below it, where each term was told on the way to the goal or waits there
  absorbs : {x : List Tree} → ((m : List Constraint) (y : List Tree) → IsMove s goal x m y → ⊥)
      → {l m : List Constraint} {w y : List Tree} → Moves s l w m y
      → ((t : Tree) → Has t w → Told t ⊎ Has t x) → Below l → Below m
  absorbs closed no_move h below = below
  absorbs {x} closed (move {l = l} k r) h below =
      absorbs closed r (λ t a. h t (subst (λ (z : List Tree). Has t z) (sym k.among) (has_back t k.term k.before k.after (subst (λ (z : List Tree). Has t z) k.leaves a))))
      (λ p g. subst (λ (z : List Constraint). Solves p z) (sym k.joins) ((solves_append p l (k.row ∷ [])).1 (below p g, (holds p g, tt))))
    where
      its_row : Row k.term k.row
      its_row = record { list = l; below = below; result = k.result; is_lin = k.is_lin; row_is = k.row_is }

      -- it can't wait at the goal, since it could move there
      moves_there : Has k.term x → ⊥
      moves_there a =
          elim (became k.term k.row its_row) [
            | inl b ↦ let m = can_move k.term x a (Is b.0) b.0 b.1 refl in closed m.0 m.1 m.2
            | inr b ↦ let m = can_move k.term x a False false_constraint b.0 refl in closed m.0 m.1 m.2
          ]

      holds : (p : Point) → Solves p goal → Holds p k.row
      holds p g =
          elim (h k.term (subst (λ (z : List Tree). Has k.term z) (sym k.among) (has_here k.term k.before k.after))) [
            | inl t ↦ row_holds k.term k.row t.row its_row t.became_row t.holds p g
            | inr a ↦ absurd (moves_there a)
          ]

closure_below : (s : Subst Text) (k l m n : List Constraint) (w x y : List Tree)
    → ((p : Point) → Solves p k → Solves p l) → IsClosure s k w m x → IsClosure s l w n y
    → (fixed : ℕ → Option ℚ) → Fixes m fixed → Solvable m → (p : Point) → Solves p m → Solves p n
closure_below s k l m n w x y begins a b fixed fixes solvable =
    absorbs s m fixed fixes solvable a.closed b.moves (told_or_waits s m fixed fixes solvable a.moves) (λ p g. begins p (moves_below a.moves p g))

-- two solvable ones have the same solutions
pub closures_agree : (s : Subst Text) (k l m n : List Constraint) (w x y : List Tree) → Equivalent k l
    → IsClosure s k w m x → IsClosure s l w n y → (f g : ℕ → Option ℚ) → Fixes m f → Fixes n g
    → Solvable m → Solvable n → Equivalent m n
closures_agree s k l m n w x y e a b f g hf hg sm sn p = (
  closure_below s k l m n w x y (λ q. (e q).0) a b f hf sm p,
  closure_below s l k n m w y x (λ q. (e q).1) b a g hg sn p,
)

pub other_solvable : (s : Subst Text) (k l m n : List Constraint) (w x y : List Tree) → Equivalent k l
    → IsClosure s k w m x → IsClosure s l w n y → (f : ℕ → Option ℚ) → Fixes m f → Solvable m → Solvable n
other_solvable s k l m n w x y e a b f hf sm = (sm.0, closure_below s k l m n w x y (λ q. (e q).0) a b f hf sm sm.0 sm.1)
