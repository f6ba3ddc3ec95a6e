-- The place of a row among others, found by halves.
use Rattle.std.proofs.Common.{◌≡◌, ℕ, zero, suc, ◌+◌, ◌-◌, ◌<◌, ◌≤◌, List, [], ◌∷◌, ◌++◌, length, take, drop, get_or, arith, refl, ap, sym, subst, ◌∙◌}
use Rattle.std.proofs.lemmas.List.{map-append, take-append-drop, get_or_default}
use Rattle.std.specs.declared.cmp.Ordering.{Ordering}
use Rattle.std.specs.declared.cmp.Ordering.TheVariants.{Less, Equal, Greater}
use Rattle.std.specs.Ordering.{MatchOrdering}
use Rattle.spec_linear.specs.Solution.{Has}
use Rattle.spec_projection.proofs.Members.{has_image}
use Rattle.cq_elimination.proofs.Lists.{has_at}
use Rattle.cq_elimination.specs.declared.arrange.PrintedRow.{PrintedRow}
use Rattle.cq_elimination.specs.Lines.{line_of, lines_of}
use Rattle.cq_elimination.specs.Arranging.{LineBefore, IsPlace, LastBefore, BeforeFirst, JoinsAt}

-- the row stands behind those before low, and in front of those from high on
pub record Between (order : List ℕ) (rows : List PrintedRow) (row : PrintedRow) (low high : ℕ) : Type 0 where
  pub ordered : low ≤ high
  pub within : high ≤ length rows
  pub behind : (d : PrintedRow) → 0 < low → LineBefore order (line_of (get_or rows (low - 1) d)) (line_of row)
  pub front : (d : PrintedRow) → high < length rows → LineBefore order (line_of row) (line_of (get_or rows high d))

module _ (order : List ℕ) (row : PrintedRow) where
  last_before : (rows : List PrintedRow) (i : ℕ) → i ≤ length rows → ((d : PrintedRow) → 0 < i → LineBefore order (line_of (get_or rows (i - 1) d)) (line_of row))
      → LastBefore order (lines_of (take i rows)) (line_of row)
  last_before rows zero w h = tt
  last_before [] (suc i) w h = absurd (omega (arith, w))
  last_before (r ∷ rows) (suc zero) w h = h r (omega arith)
  last_before (r ∷ []) (suc (suc i)) w h = absurd (omega (arith, w))
  last_before (r ∷ q ∷ rows) (suc (suc i)) w h =
      let more : suc (suc i) - 1 ≡ suc i = omega arith in
      let one : suc i - 1 ≡ i = omega arith in
      last_before (q ∷ rows) (suc i) (omega (arith, w)) (λ d p.
      subst (λ n. LineBefore order (line_of (get_or (q ∷ rows) n d)) (line_of row)) (sym one)
      (subst (λ n. LineBefore order (line_of (get_or (r ∷ q ∷ rows) n d)) (line_of row)) more (h d (omega arith))))

  before_first : (rows : List PrintedRow) (i : ℕ) → ((d : PrintedRow) → i < length rows → LineBefore order (line_of row) (line_of (get_or rows i d)))
      → BeforeFirst order (line_of row) (lines_of (drop i rows))
  before_first [] zero h = tt
  before_first [] (suc i) h = tt
  before_first (r ∷ rows) zero h = h r (omega arith)
  before_first (r ∷ rows) (suc i) h = before_first rows i (λ d w. h d (omega (arith, w)))

  pub joins : (rows new : List PrintedRow) (i : ℕ) → IsPlace order rows row i → new ≡ take i rows ++ row ∷ drop i rows → JoinsAt order (lines_of rows) (line_of row) (lines_of new)
  joins rows new i p e = record {
    front = lines_of (take i rows);
    back = lines_of (drop i rows);
    old_is = ap lines_of (sym (take-append-drop i rows)) ∙ map-append line_of (take i rows) (drop i rows);
    new_is = ap lines_of e ∙ map-append line_of (take i rows) (row ∷ drop i rows);
    behind_last = last_before rows i p.within p.behind;
    before_first = before_first rows i p.front;
  }

  -- ---- one half less

  abbrev pub Matched : PrintedRow → Ordering → Type 0
  Matched r o = MatchOrdering o (LineBefore order (line_of r) (line_of row)) (line_of r ≡ line_of row) (LineBefore order (line_of row) (line_of r))

  module _ (rows : List PrintedRow) (low high middle : ℕ) (r : PrintedRow) (above : low ≤ middle) (below : middle < high) (at : r ≡ get_or rows middle r)
      (b : Between order rows row low high) where
    inside : middle < length rows
    inside = omega (arith, b.within)

    is_there : (d : PrintedRow) → r ≡ get_or rows middle d
    is_there d = at ∙ get_or_default rows middle r d inside

    pub stands_behind : (o : Ordering) → Matched r o → o ≡ Less → Between order rows row (middle + 1) high
    stands_behind o m e = record {
      ordered = omega arith;
      within = b.within;
      behind = λ d p.
          let same : middle + 1 - 1 ≡ middle = omega arith in
          subst (λ n. LineBefore order (line_of (get_or rows n d)) (line_of row)) (sym same)
          (subst (λ (q : PrintedRow). LineBefore order (line_of q) (line_of row)) (is_there d) (subst (Matched r) e m));
      front = b.front;
    }

    pub stands_in_front : (o : Ordering) → Matched r o → (o ≡ Less → ⊥) → (Has (line_of row) (lines_of rows) → ⊥) → Between order rows row low middle
    stands_in_front o m n new = record {
      ordered = above;
      within = omega (arith, inside);
      behind = b.behind;
      front = λ d w. subst (λ (q : PrintedRow). LineBefore order (line_of row) (line_of q)) (is_there d) (go o m n);
    }
      where
        go : (o : Ordering) → Matched r o → (o ≡ Less → ⊥) → LineBefore order (line_of row) (line_of r)
        go Less m n = absurd (n refl)
        go Equal m n = absurd (new (subst (λ l. Has l (lines_of rows)) m (has_image line_of r rows (has_at rows middle r inside at))))
        go Greater m n = m

  pub placed_between : (rows : List PrintedRow) (low high : ℕ) → Between order rows row low high → high ≡ low → IsPlace order rows row low
  placed_between rows low high b e = record {
    within = omega (arith, e, b.within);
    behind = b.behind;
    front = subst (λ n. (d : PrintedRow) → n < length rows → LineBefore order (line_of row) (line_of (get_or rows n d))) e b.front;
  }
