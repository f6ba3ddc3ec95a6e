-- The rows of a variable counted, and which variable comes next.
use Rattle.std.proofs.Common.{◌≡◌, ◌⊎◌, inl, inr, ℕ, ◌+◌, ◌*◌, ◌<◌, ◌≤◌, List, [], ◌∷◌, ◌++◌, length, take, get_or, Bool, true, false, cond, Option, None, Some, arith, refl, ap, ap₂, sym, subst, ◌∙◌}
use Rattle.std.specs.Prelude.{filter, MatchOption}
use Rattle.std.proofs.lemmas.List.{take_more, take_all, map-append}
use Rattle.std.proofs.lemmas.List.Filters.{length-filter_more}
use Rattle.spec_numbers.specs.Rational.{neg_ℚ, IsPositive}
use Rattle.spec_numbers.specs.Sums.{Mentions}
use Rattle.spec_numbers.proofs.Sign.{not_pos_zero}
use Rattle.spec_linear.specs.Form.{is_zero}
use Rattle.spec_linear.specs.Solution.{Constraint, Has, SomeMentions, MentionsOnly}
use Rattle.spec_linear.proofs.Denominators.{has_left, has_right}
use Rattle.spec_projection.specs.Elimination.{coefficient, is_positive, lower_rows, upper_rows, other_rows}
use Rattle.spec_projection.specs.Partial.{pairs, ComesBefore, IsNext}
use Rattle.spec_projection.proofs.Eliminated.{is_positive-of}
use Rattle.spec_projection.proofs.Members.{has_either, has_filtered}
use Rattle.spec_projection.proofs.Mentions.{unmentioned_factor, factor_mentioned}
use Rattle.spec_projection.proofs.Nexts.{chained}
use Rattle.cq_frac.specs.declared.VarId.{VarId}
use Rattle.cq_equations.specs.Told.{numbers_of}
use Rattle.cq_equations.proofs.Variables.{has_end}
use Rattle.cq_elimination.specs.declared.fourier.Side.{Side}
use Rattle.cq_elimination.specs.declared.fourier.Side.TheVariants.{Lower, Upper, Other}
use Rattle.cq_elimination.specs.declared.fourier.next.Elimination.{Elimination}
use Rattle.cq_elimination.specs.FourierSides.{IsSide}
use Rattle.cq_elimination.specs.Next.{Counts, IsBefore, IsFirstOf, HasOneMore, IsFirst, NoneStands, AreApart}
use Rattle.cq_elimination.proofs.Bounds.{negative_not_zero, Tests, tests_lower, tests_upper, tests_other}

-- ---- counting

-- so many of the first i rows
pub record Counted (x : ℕ) (l : List Constraint) (i lower upper others : ℕ) : Type 0 where
  pub lower_is : lower ≡ length (lower_rows x (take i l))
  pub upper_is : upper ≡ length (upper_rows x (take i l))
  pub others_are : others ≡ length (other_rows x (take i l))
  pub all : lower + upper + others ≡ i
  pub idle : lower ≡ 0 → upper ≡ 0 → SomeMentions x (take i l) → ⊥

mentioned_either : (x : ℕ) (k : List Constraint) (c : Constraint) → SomeMentions x (k ++ c ∷ []) → SomeMentions x k ⊎ Mentions x c.form.products
mentioned_either x [] c (inl m) = inr m
mentioned_either x [] c (inr z) = absurd z
mentioned_either x (d ∷ k) c (inl m) = inl (inl m)
mentioned_either x (d ∷ k) c (inr h) = elim (mentioned_either x k c h) [ inl m ↦ inl (inr m) | inr m ↦ inr m ]

length_more : {A : Type 0} (test : A → Bool) (l : List A) (i : ℕ) (c : A) (b : Bool) (old new : ℕ) → i < length l → c ≡ get_or l i c → test c ≡ b → old ≡ length (filter test (take i l))
    → new ≡ old + cond b 1 0 → new ≡ length (filter test (take (i + 1) l))
length_more test l i c b old new h e t o n = n ∙ ap₂ (λ m d. m + cond d 1 0) o (sym t ∙ ap test e) ∙ sym (length-filter_more test l i c h)

module _ (x : ℕ) (l : List Constraint) (i : ℕ) (c : Constraint) (within : i < length l) (at : c ≡ get_or l i c) where
  idle_more : (lower upper lower' upper' : ℕ) → lower ≤ lower' → upper ≤ upper' → (lower' ≡ 0 → upper' ≡ 0 → Mentions x c.form.products → ⊥)
      → (lower ≡ 0 → upper ≡ 0 → SomeMentions x (take i l) → ⊥) → lower' ≡ 0 → upper' ≡ 0 → SomeMentions x (take (i + 1) l) → ⊥
  idle_more lower upper lower' upper' f g own rest e h m =
      elim (mentioned_either x (take i l) c (subst (SomeMentions x) (take_more l i c within ∙ ap (λ d. take i l ++ d ∷ []) (sym at)) m)) [
        | inl k ↦ rest (omega (arith, f, e)) (omega (arith, g, h)) k
        | inr k ↦ own e h k
      ]

  step : (a b d : Bool) (lower upper others lower' upper' others' : ℕ) → Tests (coefficient x c) a b d → lower' ≡ lower + cond a 1 0 → upper' ≡ upper + cond b 1 0 → others' ≡ others + cond d 1 0
      → lower' + upper' + others' ≡ i + 1 → lower ≤ lower' → upper ≤ upper' → (lower' ≡ 0 → upper' ≡ 0 → Mentions x c.form.products → ⊥)
      → Counted x l i lower upper others → Counted x l (i + 1) lower' upper' others'
  step a b d lower upper others lower' upper' others' t f g h all u v own k = record {
    lower_is = length_more (λ e. is_positive (coefficient x e)) l i c a lower lower' within at t.lower_is k.lower_is f;
    upper_is = length_more (λ e. is_positive (neg_ℚ (coefficient x e))) l i c b upper upper' within at t.upper_is k.upper_is g;
    others_are = length_more (λ e. is_zero (coefficient x e)) l i c d others others' within at t.other_is k.others_are h;
    all = all;
    idle = idle_more lower upper lower' upper' u v own k.idle;
  }

  -- one more row on its side
  pub counted_more : (side : Side) (e f : Elimination) → IsSide x c side → HasOneMore side e f → Counted x l i e.lower e.upper e.others → Counted x l (i + 1) f.lower f.upper f.others
  counted_more (Lower k) e f s m n =
      let q : Tests (coefficient x c) true false false = tests_lower (coefficient x c) (subst IsPositive s.0 s.1) in
      let lower : f.lower ≡ e.lower + 1 = ap (λ (r : Elimination). r.lower) m in
      let upper : f.upper ≡ e.upper = ap (λ (r : Elimination). r.upper) m in
      let others : f.others ≡ e.others = ap (λ (r : Elimination). r.others) m in
      let all : e.lower + e.upper + e.others ≡ i = n.all in
      step true false false e.lower e.upper e.others f.lower f.upper f.others q (omega (arith, lower)) (omega (arith, upper)) (omega (arith, others)) (omega (arith, all, lower, upper, others))
      (omega (arith, lower)) (omega (arith, upper)) (λ z y w. absurd (omega (arith, z, lower))) n
  counted_more (Upper k) e f s m n =
      let q : Tests (coefficient x c) false true false = tests_upper (coefficient x c) (subst (λ j. IsPositive (neg_ℚ j)) s.0 s.1) in
      let lower : f.lower ≡ e.lower = ap (λ (r : Elimination). r.lower) m in
      let upper : f.upper ≡ e.upper + 1 = ap (λ (r : Elimination). r.upper) m in
      let others : f.others ≡ e.others = ap (λ (r : Elimination). r.others) m in
      let all : e.lower + e.upper + e.others ≡ i = n.all in
      step false true false e.lower e.upper e.others f.lower f.upper f.others q (omega (arith, lower)) (omega (arith, upper)) (omega (arith, others)) (omega (arith, all, lower, upper, others))
      (omega (arith, lower)) (omega (arith, upper)) (λ z y w. absurd (omega (arith, y, upper))) n
  counted_more Other e f s m n =
      let q : Tests (coefficient x c) false false true = tests_other (coefficient x c) (unmentioned_factor x c.form.products s) in
      let lower : f.lower ≡ e.lower = ap (λ (r : Elimination). r.lower) m in
      let upper : f.upper ≡ e.upper = ap (λ (r : Elimination). r.upper) m in
      let others : f.others ≡ e.others + 1 = ap (λ (r : Elimination). r.others) m in
      let all : e.lower + e.upper + e.others ≡ i = n.all in
      step false false true e.lower e.upper e.others f.lower f.upper f.others q (omega (arith, lower)) (omega (arith, upper)) (omega (arith, others)) (omega (arith, all, lower, upper, others))
      (omega (arith, lower)) (omega (arith, upper)) (λ z y w. s w) n

pub variable_stays : (side : Side) (e f : Elimination) → HasOneMore side e f → f.variable ≡ e.variable
variable_stays (Lower k) e f m = ap (λ (r : Elimination). r.variable) m
variable_stays (Upper k) e f m = ap (λ (r : Elimination). r.variable) m
variable_stays Other e f m = ap (λ (r : Elimination). r.variable) m

-- all of them
pub counts_all : (l : List Constraint) (e : Elimination) (i : ℕ) → length l ≤ i → Counted e.variable.0 l i e.lower e.upper e.others → Counts l e
counts_all l e i h n =
    let whole : take i l ≡ l = take_all i l h in
    record {
      lower_is = n.lower_is ∙ ap (λ k. length (lower_rows e.variable.0 k)) whole;
      upper_is = n.upper_is ∙ ap (λ k. length (upper_rows e.variable.0 k)) whole;
      others_are = n.others_are ∙ ap (λ k. length (other_rows e.variable.0 k)) whole;
      idle = λ f g m. n.idle f g (subst (SomeMentions e.variable.0) (sym whole) m);
    }

-- ---- which comes first

some_of_member : (x : ℕ) (c : Constraint) (l : List Constraint) → Has c l → Mentions x c.form.products → SomeMentions x l
some_of_member x c [] h m = absurd h
some_of_member x c (d ∷ l) (inl e) m = inl (subst (λ (b : Constraint). Mentions x b.form.products) e m)
some_of_member x c (d ∷ l) (inr h) m = inr (some_of_member x c l h m)

-- what has a row on some side stands in the list
stands : (l : List Constraint) (e : Elimination) → Counts l e → ((e.lower ≡ 0) × (e.upper ≡ 0) → ⊥) → SomeMentions e.variable.0 l
stands l e k n = go (lower_rows e.variable.0 l) refl (upper_rows e.variable.0 l) refl
  where
    x : ℕ
    x = e.variable.0

    go : (s : List Constraint) → lower_rows x l ≡ s → (t : List Constraint) → upper_rows x l ≡ t → SomeMentions x l
    go (c ∷ s) f t g =
        let h = has_filtered (λ d. is_positive (coefficient x d)) c l (subst (Has c) (sym f) (inl refl)) in
        some_of_member x c l h.0 (factor_mentioned x c.form.products (λ e. not_pos_zero (subst IsPositive e (is_positive-of (coefficient x c) h.1))))
    go [] f (c ∷ t) g =
        let h = has_filtered (λ d. is_positive (neg_ℚ (coefficient x d))) c l (subst (Has c) (sym g) (inl refl)) in
        some_of_member x c l h.0 (factor_mentioned x c.form.products (negative_not_zero (coefficient x c) (is_positive-of (neg_ℚ (coefficient x c)) h.1)))
    go [] f [] g = absurd (n (k.lower_is ∙ ap length f, k.upper_is ∙ ap length g))

pairs_are : (l : List Constraint) (e : Elimination) → Counts l e → e.lower * e.upper ≡ pairs e.variable.0 l
pairs_are l e k = ap₂ (λ p q. p * q) k.lower_is k.upper_is

comes_before : (l : List Constraint) (e f : Elimination) → Counts l e → Counts l f → IsBefore e f → ComesBefore l e.variable.0 f.variable.0
comes_before l e f j k (inl h) = inl (subst (λ p. p < pairs f.variable.0 l) (pairs_are l e j) (subst (λ q. e.lower * e.upper < q) (pairs_are l f k) h))
comes_before l e f j k (inr h) = inr (sym (pairs_are l e j) ∙ h.0 ∙ pairs_are l f k, h.1)

abbrev pub Best : List ℕ → List Constraint → Option Elimination → Type 0
Best xs l found = MatchOption found (NoneStands xs l) (IsFirst xs l)

module _ (xs : List ℕ) (l : List Constraint) (own : Elimination) (counts : Counts l own) where
  abbrev x : ℕ
  x = own.variable.0

  -- one that stands nowhere
  best_skip : (found : Option Elimination) → own.lower ≡ 0 → own.upper ≡ 0 → Best xs l found → Best (xs ++ x ∷ []) l found
  best_skip None e f b = λ y h m. elim (has_end y xs x h) [ inl k ↦ b y k m | inr i ↦ counts.idle e f (subst (λ z. SomeMentions z l) i m) ]
  best_skip (Some first) e f b = record {
    counts = b.counts;
    among = has_left first.variable.0 xs (x ∷ []) b.among;
    mentioned = b.mentioned;
    least = λ y h m. elim (has_end y xs x h) [ inl k ↦ b.least y k m | inr i ↦ absurd (counts.idle e f (subst (λ z. SomeMentions z l) i m)) ];
  }

  self : ComesBefore l x x
  self = inr (refl, omega arith)

  own_first : ((own.lower ≡ 0) × (own.upper ≡ 0) → ⊥) → ((y : ℕ) → Has y xs → SomeMentions y l → ComesBefore l x y) → IsFirst (xs ++ x ∷ []) l own
  own_first n before = record {
    counts = counts;
    among = has_right x xs (x ∷ []) (inl refl);
    mentioned = stands l own counts n;
    least = λ y h m. elim (has_end y xs x h) [ inl k ↦ before y k m | inr i ↦ subst (ComesBefore l x) (sym i) self ];
  }

  -- one that stands somewhere
  best_more : (found : Option Elimination) (new : Elimination) → ((own.lower ≡ 0) × (own.upper ≡ 0) → ⊥) → IsFirstOf found own new → Best xs l found → IsFirst (xs ++ x ∷ []) l new
  best_more None new n i b = subst (IsFirst (xs ++ x ∷ []) l) (sym i) (own_first n (λ y h m. absurd (b y h m)))
  best_more (Some first) new n (inl i) b = subst (IsFirst (xs ++ x ∷ []) l) (sym i.0) (record {
    counts = b.counts;
    among = has_left first.variable.0 xs (x ∷ []) b.among;
    mentioned = b.mentioned;
    least = λ y h m. elim (has_end y xs x h) [
      | inl k ↦ b.least y k m
      | inr j ↦ subst (ComesBefore l first.variable.0) (sym j) (comes_before l first own b.counts counts i.1)
    ];
  })
  best_more (Some first) new n (inr i) b =
      subst (IsFirst (xs ++ x ∷ []) l) (sym i.0)
      (own_first n (λ y h m. chained (pairs x l) (pairs first.variable.0 l) (pairs y l) x first.variable.0 y (comes_before l own first counts b.counts i.1) (b.least y h m)))

-- the numbers of one more variable
numbers_more : (variables : List VarId) (i : ℕ) (v : VarId) → i < length variables → v ≡ get_or variables i v → numbers_of (take (i + 1) variables) ≡ numbers_of (take i variables) ++ v.0 ∷ []
numbers_more variables i v h e =
    ap numbers_of (take_more variables i v h ∙ ap (λ w. take i variables ++ w ∷ []) (sym e)) ∙ map-append (λ (w : VarId). w.0) (take i variables) (v ∷ [])

-- one more of the variables
module _ (variables : List VarId) (i : ℕ) (v : VarId) (within : i < length variables) (at : v ≡ get_or variables i v) (l : List Constraint) (own : Elimination)
    (counts : Counts l own) (variable : own.variable ≡ v) where
  list_is : numbers_of (take i variables) ++ own.variable.0 ∷ [] ≡ numbers_of (take (i + 1) variables)
  list_is = ap (λ (w : VarId). numbers_of (take i variables) ++ w.0 ∷ []) variable ∙ sym (numbers_more variables i v within at)

  pub skip_one : (found : Option Elimination) → (own.lower ≡ 0) × (own.upper ≡ 0) → Best (numbers_of (take i variables)) l found → Best (numbers_of (take (i + 1) variables)) l found
  skip_one found e b = subst (λ xs. Best xs l found) list_is (best_skip (numbers_of (take i variables)) l own counts found e.0 e.1 b)

  pub take_one : (found : Option Elimination) (new : Elimination) → ((own.lower ≡ 0) × (own.upper ≡ 0) → ⊥) → IsFirstOf found own new
      → Best (numbers_of (take i variables)) l found → IsFirst (numbers_of (take (i + 1) variables)) l new
  take_one found new n f b = subst (λ xs. IsFirst xs l new) list_is (best_more (numbers_of (take i variables)) l own counts found new n f b)

-- the first of the variables that are no targets is the next one
pub next_is : (xs targets : List ℕ) (l : List Constraint) (found : Option Elimination) → AreApart xs targets → MentionsOnly (xs ++ targets) l → Best xs l found
    → MatchOption found (MentionsOnly targets l) (λ e. IsNext targets l e.variable.0)
next_is xs targets l None apart all b = λ y m. elim (has_either y xs targets (all y m)) [ inl h ↦ absurd (b y h m) | inr t ↦ t ]
next_is xs targets l (Some e) apart all b = record {
  no_target = apart e.variable.0 b.among;
  mentioned = b.mentioned;
  least = λ y n m. elim (has_either y xs targets (all y m)) [ inl h ↦ b.least y h m | inr t ↦ absurd (n t) ];
}
