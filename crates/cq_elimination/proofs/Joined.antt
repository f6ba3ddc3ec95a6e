-- Lines that are rows scaled and sorted, as one more joins them, and the inequalities and disequations that they are.
use Rattle.std.proofs.Common.{◌≡◌, ◌≢◌, ◌⊎◌, inl, inr, ℕ, ◌+◌, ◌<◌, List, [], ◌∷◌, ◌++◌, map, length, take, drop, get_or, arith, refl, ap, ap₂, sym, subst, ◌∙◌}
use Rattle.std.proofs.lemmas.List.{map-append, take-append-drop, drop_more}
use Rattle.std.specs.List.{AllByRecursion}
use Rattle.spec_numbers.specs.Rational.{ℚ, ◌+ℚ◌}
use Rattle.spec_numbers.specs.Sums.{Monomial, sum_at}
use Rattle.spec_linear.specs.declared.Relation.TheVariants.{Ne}
use Rattle.spec_linear.specs.Solution.{Constraint, Has, Meets, HoldsAt, Solvable, Entails, number}
use Rattle.spec_linear.proofs.Points.{solves_same}
use Rattle.spec_linear.proofs.Lists.{member_holds}
use Rattle.spec_linear.proofs.Denominators.{has_left, has_right}
use Rattle.spec_linear.proofs.Far.{member_satisfied}
use Rattle.spec_projection.specs.Elimination.{IsInequality}
use Rattle.spec_projection.specs.Printed.{compared}
use Rattle.spec_projection.specs.Partial.{AreInequalities}
use Rattle.spec_projection.specs.Strict.{IsMultiple, AreScaled, no_row, one_row}
use Rattle.spec_projection.specs.Irredundant.{IsIrredundant}
use Rattle.spec_projection.specs.Arranged.{IsReordered, nothing, behind, exchanged, both, IsArranged, HasNoIdleVariable}
use Rattle.spec_projection.proofs.Arranged.{HasSource, source}
use Rattle.spec_projection.proofs.Reordered.{reordered_refl, reordered_both}
use Rattle.spec_projection.proofs.Strong.{scaled_alike, scaled_both}
use Rattle.spec_projection.proofs.Members.{has_mapped, has_image, has_either}
use Rattle.spec_answers.specs.Rows.{inequality, disequation}
use Rattle.spec_answers.specs.Forms.{IsScaled, rank, IsSorted, InequalityBefore, DisequationBefore}
use Rattle.spec_linear.specs.Echelon.{AreDistinct}
use Rattle.cq_elimination.specs.Scaling.{AreDisequations}
use Rattle.cq_elimination.specs.declared.arrange.Comparison.{Comparison}
use Rattle.cq_elimination.specs.declared.arrange.Comparison.TheVariants.{AtLeast, Above, AtMost, Below, Unequal}
use Rattle.cq_elimination.specs.Lines.{Line, said, said_by, comparison_of, inequality_of, disequation_of, rank_of}
use Rattle.cq_elimination.specs.Arranging.{AreInequalityRows, AreDisequationRows, Prints, IsLine, LineBefore, LastBefore, BeforeFirst, JoinsAt}
use Rattle.cq_elimination.proofs.ArrangeLines.{said_counts, before_tie}

-- the lines are the rows, scaled and sorted
pub record Arranged (order : List ℕ) (rows : List Constraint) (lines : List Line) : Type 0 where
  pub arranged : IsArranged rows (map said lines)
  pub scaled : (l : Line) → Has l lines → IsScaled order l.products
  pub sorted : IsSorted (LineBefore order) lines

pub none_arranged : (order : List ℕ) → Arranged order [] []
none_arranged order = record {
  arranged = record { order = []; reordered = nothing; scaled = no_row; counted = λ c h. absurd h };
  scaled = λ l h. absurd h;
  sorted = tt;
}

pub scaled_line : (order : List ℕ) (l : Line) → IsScaled order l.products → IsLine order l
scaled_line order l s = record { ordered = s.ordered; nonzero = s.nonzero }

-- ---- one line more

to_front : (c : Constraint) (l : List Constraint) → IsReordered (l ++ c ∷ []) (c ∷ l)
to_front c [] = reordered_refl (c ∷ [])
to_front c (d ∷ l) = both (behind (to_front c l)) exchanged

to_middle : (c : Constraint) (k l : List Constraint) → IsReordered ((k ++ l) ++ c ∷ []) (k ++ c ∷ l)
to_middle c [] l = to_front c l
to_middle c (d ∷ k) l = behind (to_middle c k l)

record Parts (k s t : List Constraint) : Type 0 where
  first : List Constraint
  second : List Constraint
  is : k ≡ first ++ second
  first_scaled : AreScaled first s
  second_scaled : AreScaled second t

parts : (k l s t : List Constraint) → l ≡ s ++ t → AreScaled k l → Parts k s t
parts k l [] t e a = record { first = []; second = k; is = refl; first_scaled = no_row; second_scaled = subst (AreScaled k) e a }
parts _ _ (d ∷ s) t e no_row = absurd none
  where
    none : ⊥
    none = cc
parts _ _ (d ∷ s) t e (one_row {c = b} {d = m} {k = k} {l = l} i a) =
    let head : m ≡ d = cc in
    let rest : l ≡ s ++ t = cc in
    let p = parts k l s t rest a in
    record {
      first = b ∷ p.first;
      second = p.second;
      is = ap (λ w. b ∷ w) {y = p.first ++ p.second} p.is;
      first_scaled = one_row (subst (IsMultiple b) head i) p.first_scaled;
      second_scaled = p.second_scaled;
    }

module _ (order : List ℕ) (l : Line) where
  sorted_joined : (front back : List Line) → IsSorted (LineBefore order) (front ++ back) → LastBefore order front l → BeforeFirst order l back → IsSorted (LineBefore order) (front ++ l ∷ back)
  sorted_joined [] [] s h k = tt
  sorted_joined [] (m ∷ back) s h k = (k, s)
  sorted_joined (m ∷ []) [] s h k = (h, tt)
  sorted_joined (m ∷ []) (n ∷ back) s h k = (h, (k, s.1))
  sorted_joined (m ∷ n ∷ front) back s h k = (s.0, sorted_joined (n ∷ front) back s.1 h k)

module _ (order : List ℕ) (distinct : AreDistinct order) (rows : List Constraint) (lines new : List Line) (c : Constraint) (l : Line) (old : Arranged order rows lines)
    (prints : Prints order c l) (j : JoinsAt order lines l new) where
  said_new : map said new ≡ map said j.front ++ said l ∷ map said j.back
  said_new = ap (map said) j.new_is ∙ map-append said j.front (l ∷ j.back)

  split : Parts old.arranged.order (map said j.front) (map said j.back)
  split = parts old.arranged.order (map said lines) (map said j.front) (map said j.back) (ap (map said) j.old_is ∙ map-append said j.front j.back) old.arranged.scaled

  from_old : (m : Line) → Has m new → (m ≡ l) ⊎ Has m lines
  from_old m h = elim (has_either m j.front (l ∷ j.back) (subst (Has m) j.new_is h)) [
    | inl a ↦ inr (subst (Has m) (sym j.old_is) (has_left m j.front j.back a))
    | inr a ↦ elim a [ inl e ↦ inl e | inr b ↦ inr (subst (Has m) (sym j.old_is) (has_right m j.front j.back b)) ]
  ]

  all_scaled : (m : Line) → Has m new → IsScaled order m.products
  all_scaled m h = elim (from_old m h) [
    | inl e ↦ subst (λ (n : Line). IsScaled order n.products) (sym e) prints.scaled
    | inr k ↦ old.scaled m k
  ]

  pub one_more : Arranged order (rows ++ c ∷ []) new
  one_more = record {
    arranged = record {
      order = split.first ++ c ∷ split.second;
      reordered = both
          (reordered_both rows (split.first ++ split.second) (c ∷ []) (c ∷ []) (subst (IsReordered rows) split.is old.arranged.reordered) (reordered_refl (c ∷ [])))
          (to_middle c split.first split.second);
      scaled = subst (AreScaled (split.first ++ c ∷ split.second)) (sym said_new)
          (scaled_both split.first (map said j.front) (c ∷ split.second) (said l ∷ map said j.back) split.first_scaled (one_row prints.multiple split.second_scaled));
      counted = λ d h.
          let m = has_mapped said d new h in
          subst (λ (e : Constraint). HasNoIdleVariable e.form) (sym m.is) (said_counts order m.from distinct (scaled_line order m.from (all_scaled m.from m.member)));
    };
    scaled = all_scaled;
    sorted = subst (IsSorted (LineBefore order)) (sym j.new_is) (sorted_joined order l j.front j.back (subst (IsSorted (LineBefore order)) j.old_is old.sorted) j.behind_last j.before_first);
  }

-- ---- what follows from nothing, or from its twin, stands in no irredundant list

module _ (rows : List Constraint) (i : ℕ) (c : Constraint) (within : i < length rows) (at : c ≡ get_or rows i c) (alone : IsIrredundant rows) where
  stands : rows ≡ take i rows ++ c ∷ drop (i + 1) rows
  stands = sym (take-append-drop i rows) ∙ ap (λ w. take i rows ++ w) (drop_more rows i c within ∙ ap (λ d. d ∷ drop (i + 1) rows) (sym at))

  pub mentions_some : Solvable rows → c.form.products ≢ []
  mentions_some p e = alone (take i rows) (drop (i + 1) rows) c stands (λ q s. ((solves_same q (c ∷ [])).1 (everywhere (number q), tt)).0)
    where
      among : Has c rows
      among = subst (Has c) (sym stands) (has_right c (take i rows) (c ∷ drop (i + 1) rows) (inl refl))

      here : HoldsAt (number p.0) c
      here = member_satisfied (number p.0) rows c among ((solves_same p.0 rows).0 p.1)

      everywhere : (a : ℕ → ℚ) → HoldsAt a c
      everywhere a =
          subst (Meets c.relation) (ap (λ s. c.form.constant +ℚ sum_at (number p.0) s) e ∙ sym (ap (λ s. c.form.constant +ℚ sum_at a s) e)) here

  pub new_line : (order : List ℕ) (lines : List Line) (l : Line) → Arranged order (take i rows) lines → Prints order c l → Has l lines → ⊥
  new_line order lines l old prints h = alone (take i rows) (drop (i + 1) rows) c stands follows
    where
      twin : HasSource (said l) (take i rows)
      twin = source (take i rows) (map said lines) old.arranged (said l) (has_image said l lines h)

      follows : Entails (take i rows ++ drop (i + 1) rows) c
      follows q s =
          let holds = member_holds q (take i rows ++ drop (i + 1) rows) twin.row (has_left twin.row (take i rows) (drop (i + 1) rows) twin.among) s in
          let said_holds = (scaled_alike (twin.row ∷ []) (said l ∷ []) (one_row twin.multiple no_row) q).1 (holds, tt) in
          ((scaled_alike (c ∷ []) (said l ∷ []) (one_row prints.multiple no_row) q).0 said_holds).0

-- ---- inequalities and disequations

sorted_mapped : {A B : Type 0} (f : A → B) (P : A → A → Type 0) (Q : B → B → Type 0) (s : List A) → ((x y : A) → Has x s → Has y s → P x y → Q (f x) (f y)) → IsSorted P s → IsSorted Q (map f s)
sorted_mapped f P Q [] h o = tt
sorted_mapped f P Q (x ∷ []) h o = tt
sorted_mapped f P Q (x ∷ y ∷ s) h o = (h x y (inl refl) (inr (inl refl)) o.0, sorted_mapped f P Q (y ∷ s) (λ u v a b. h u v (inr a) (inr b)) o.1)

all_mapped : {A B : Type 0} (f : A → B) (P : B → Type 0) (s : List A) → ((x : A) → Has x s → P (f x)) → AllByRecursion P (map f s)
all_mapped f P [] h = tt
all_mapped f P (x ∷ s) h = (h x (inl refl), all_mapped f P s (λ y k. h y (inr k)))

map_same : {A B C : Type 0} (f : A → B) (g : B → C) (k : A → C) (s : List A) → ((x : A) → Has x s → g (f x) ≡ k x) → map g (map f s) ≡ map k s
map_same f g k [] h = refl
map_same f g k (x ∷ s) h = ap₂ (λ y t. y ∷ t) (h x (inl refl)) (map_same f g k s (λ y m. h y (inr m)))

said_inequality : (s : List Monomial) (c : Comparison) (q : ℚ) → c ≢ Unequal → compared s (comparison_of c) q ≡ said_by s c q
said_inequality s AtLeast q n = refl
said_inequality s Above q n = refl
said_inequality s AtMost q n = refl
said_inequality s Below q n = refl
said_inequality s Unequal q n = absurd (n refl)

rank_same : (c : Comparison) → c ≢ Unequal → rank_of c ≡ rank (comparison_of c)
rank_same AtLeast n = refl
rank_same Above n = refl
rank_same AtMost n = refl
rank_same Below n = refl
rank_same Unequal n = absurd (n refl)

unequal_relation : (s : List Monomial) (c : Comparison) (q : ℚ) → (said_by s c q).relation ≡ Ne → c ≡ Unequal
unequal_relation s AtLeast q e = absurd (cc)
unequal_relation s Above q e = absurd (cc)
unequal_relation s AtMost q e = absurd (cc)
unequal_relation s Below q e = absurd (cc)
unequal_relation s Unequal q e = refl

module _ (order : List ℕ) (rows : List Constraint) (lines : List Line) (a : Arranged order rows lines) where
  from_row : (l : Line) → Has l lines → HasSource (said l) rows
  from_row l h = source rows (map said lines) a.arranged (said l) (has_image said l lines h)

  module _ (all : AreInequalities rows) where
    no_disequation : (l : Line) → Has l lines → l.comparison ≢ Unequal
    no_disequation l h e =
        let s = from_row l h in
        let ne : s.row.relation ≡ Ne = sym s.multiple.relation ∙ ap (λ c. (said_by l.products c l.bound).relation) e in
        subst IsInequality ne (all s.row s.among)

    inequality_before : (k l : Line) → Has k lines → Has l lines → LineBefore order k l → InequalityBefore order (inequality_of k) (inequality_of l)
    inequality_before k l h i b = before_tie order k.products l.products (λ t. elim t [
      | inl r ↦ inl (subst (λ n. n < rank (comparison_of l.comparison)) (rank_same k.comparison (no_disequation k h)) (subst (λ n. rank_of k.comparison < n) (rank_same l.comparison (no_disequation l i)) r))
      | inr r ↦ inr (ap comparison_of r.0, r.1)
    ]) b

    pub inequality_rows : AreInequalityRows order rows (map inequality_of lines)
    inequality_rows = record {
      arranged = subst (IsArranged rows) (sym (map_same inequality_of inequality said lines (λ l h. said_inequality l.products l.comparison l.bound (no_disequation l h)))) a.arranged;
      scaled = all_mapped inequality_of (λ i. IsScaled order i.products) lines a.scaled;
      sorted = sorted_mapped inequality_of (LineBefore order) (InequalityBefore order) lines inequality_before a.sorted;
    }

  module _ (all : AreDisequations rows) where
    unequal : (l : Line) → Has l lines → l.comparison ≡ Unequal
    unequal l h = let s = from_row l h in unequal_relation l.products l.comparison l.bound (s.multiple.relation ∙ all s.row s.among)

    disequation_before : (k l : Line) → Has k lines → Has l lines → LineBefore order k l → DisequationBefore order (disequation_of k) (disequation_of l)
    disequation_before k l h i b = before_tie order k.products l.products (λ t. elim t [
      | inl r ↦ let e = ap rank_of (unequal k h) in let f = ap rank_of (unequal l i) in absurd (omega (arith, e, f, r))
      | inr r ↦ r.1
    ]) b

    pub disequation_rows : AreDisequationRows order rows (map disequation_of lines)
    disequation_rows = record {
      arranged = subst (IsArranged rows) (sym (map_same disequation_of disequation said lines (λ l h. ap (λ c. said_by l.products c l.bound) (sym (unequal l h))))) a.arranged;
      scaled = all_mapped disequation_of (λ d. IsScaled order d.products) lines a.scaled;
      sorted = sorted_mapped disequation_of (LineBefore order) (DisequationBefore order) lines disequation_before a.sorted;
    }
