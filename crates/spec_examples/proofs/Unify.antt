-- Unification within so many steps, each answer with its proof (Robinson 1965).
use Rattle.std.proofs.Common.{◌≡◌, ◌↔◌, ◌⊎◌, ℕ, zero, suc, ◌<◌, ◌≤◌, ◌==◌, List, [], ◌∷◌, Bool, true, false, inl, inr, arith, refl, sym, ap, ◌∙◌, subst}
use Rattle.std.specs.Ordering.{int_eq}
use Rattle.std.specs.Prelude.{bytes_eq, nat_lt}
use Rattle.std.proofs.lemmas.Bool.{cases_eq}
use Rattle.std.proofs.lemmas.Bool.Decides.{Decides-eqb, Decides-ltb, Decides-int_eq}
use Rattle.std.proofs.lemmas.Slice.Eq.{bytes_eq-Decides}
use Rattle.spec_numbers.specs.Rational.{ℚ}
use Rattle.spec_numbers.proofs.RationalLemmas.{ℚ_same}
use Rattle.spec_numbers.specs.Texts.{Text}
use Rattle.spec_terms.specs.Term.{Terms, Subst, Var, Number, Name, Compound, one, more, apply, apply_all, identity, single, followed_by, Occurs, OccursIn}
use Rattle.spec_terms.specs.Unifier.{Equation, Equates, IsUnifier, HasNoUnifier, read_under}
use Rattle.spec_terms.proofs.Unifiers.{equates_under}
use Rattle.spec_terms.proofs.Substitution.{apply-followed_by, apply-single_absent, apply-single_instance, single_same, single_other, occurs_clash}
use Rattle.spec_syntax.specs.Trees.{Tree}
use Rattle.spec_builtins.specs.Alternatives.{◌≐◌}

-- what unification comes to
pub data Unified (es : List (Equation Text)) : Type 0 where
  unifier : (u : Subst Text) → IsUnifier es u → Unified es
  clash : HasNoUnifier es → Unified es
  -- it needs more steps
  unknown : Unified es

-- ---- pairs that the same substitutions make equal

module _ (es fs : List (Equation Text)) (same : (s : Subst Text) → Equates s es ↔ Equates s fs) where
  abbrev pub by_pairs : Unified fs → Unified es
  by_pairs (unifier u h) = unifier u (record { unifies = (same u).1 h.unifies; general = λ r k v. h.general r ((same r).0 k) v; oldest = h.oldest })
  by_pairs (clash h) = clash (λ s k. h s ((same s).0 k))
  by_pairs unknown = unknown

pub no_pairs : IsUnifier {A = Text} [] identity
no_pairs = record { unifies = tt; general = λ r h v. refl; oldest = same_or_older }
  where
    same_or_older : (v w : ℕ) → ◌≡◌ {A = Tree} (Var v) (Var w) → w ≤ v
    same_or_older v w e = let k : v ≡ w = cc in omega arith

pub equal : (l r : Tree) (es : List (Equation Text)) → l ≡ r → (s : Subst Text) → Equates s ((l ≐ r) ∷ es) ↔ Equates s es
equal l r es e s = (λ h. h.1, λ h. (ap (apply s) e, h))

pub turned : (l r : Tree) (es : List (Equation Text)) (s : Subst Text) → Equates s ((l ≐ r) ∷ es) ↔ Equates s ((r ≐ l) ∷ es)
turned l r es s = (λ h. (sym h.0, h.1), λ h. (sym h.0, h.1))

-- ---- a variable bound to a term in which it does not stand

pub under_equates : (v : ℕ) (t : Tree) (s : Subst Text) (es : List (Equation Text)) → s v ≡ apply s t → Equates s es → Equates s (read_under (single v t) es)
under_equates v t s [] e h = tt
under_equates v t s (p ∷ es) e h =
    (apply-single_instance v t s e p.left ∙ h.0 ∙ sym (apply-single_instance v t s e p.right), under_equates v t s es e h.1)

module _ (v : ℕ) (t : Tree) (es : List (Equation Text)) (absent : Occurs v t → ⊥) (older : (w : ℕ) → t ≡ Var w → w ≤ v) where
  pub instance_of : (u r : Subst Text) → IsUnifier (read_under (single v t) es) u → Equates r ((Var v ≐ t) ∷ es) → (w : ℕ) → apply r (apply u (single v t w)) ≡ r w
  instance_of u r h k w =
      sym (apply-followed_by u r (single v t w))
      ∙ ap (λ (s : Subst Text). apply s (single v t w)) (λ i x. h.general r (under_equates v t r es k.0 k.1) x i)
      ∙ apply-single_instance v t r k.0 (Var w)

  pub kept_older : (u : Subst Text) → IsUnifier (read_under (single v t) es) u → (w x : ℕ) → apply u (single v t w) ≡ Var x → x ≤ w
  kept_older u h w x e = elim (cases_eq v w) [
    | inl same ↦ subst (λ (n : ℕ). x ≤ n) same (of_term t refl (sym (ap (apply u) (single_same v t)) ∙ ap (λ (n : ℕ). apply u (single v t n)) same ∙ e))
    | inr other ↦ h.oldest w x (sym (ap (apply u) (single_other v w t other)) ∙ e)
  ]
    where
      of_term : (s : Tree) → t ≡ s → apply u t ≡ Var x → x ≤ v
      of_term (Var y) is e =
          let k : u y ≡ Var x = sym (ap (apply u) is) ∙ e in
          let below : x ≤ y = h.oldest y x k in
          let up : y ≤ v = older y is in
          omega arith
      of_term (Number q) is e = let k : Number q ≡ Var x = sym (ap (apply u) is) ∙ e in cc
      of_term (Name a) is e = let k : Name a ≡ Var x = sym (ap (apply u) is) ∙ e in cc
      of_term (Compound f ts) is e = let k : Compound f (apply_all u ts) ≡ Var x = sym (ap (apply u) is) ∙ e in cc

  pub bound : (u : Subst Text) → IsUnifier (read_under (single v t) es) u → IsUnifier ((Var v ≐ t) ∷ es) (followed_by (single v t) u)
  bound u h = record {
    unifies = (ap (apply u) (single_same v t) ∙ sym (ap (apply u) (apply-single_absent v t t absent)) ∙ sym (apply-followed_by (single v t) u t), equates_under (single v t) u es h.unifies);
    general = λ r k w. instance_of u r h k w;
    oldest = λ w x e. kept_older u h w x e;
  }

  abbrev pub by_binding : Unified (read_under (single v t) es) → Unified ((Var v ≐ t) ∷ es)
  by_binding (unifier u h) = unifier (followed_by (single v t) u) (bound u h)
  by_binding (clash h) = clash (λ s k. h s (under_equates v t s es k.0 k.1))
  by_binding unknown = unknown

-- ---- decisions

abbrev pub by_test : {P : Type 0} (b c : Bool) → b ≡ c → (b ≡ true → P) → (P → b ≡ true) → P ⊎ (P → ⊥)
by_test b true e forth back = inl (forth e)
by_test b false e forth back = inr (λ h. let k : false ≡ true = sym e ∙ back h in cc)

abbrev pub same_number : (a b : ℕ) → (a ≡ b) ⊎ (a ≡ b → ⊥)
same_number a b = by_test (a == b) (a == b) refl (Decides-eqb a b).0 (Decides-eqb a b).1

abbrev pub same_text : (a b : Text) → (a ≡ b) ⊎ (a ≡ b → ⊥)
same_text a b = by_test (bytes_eq a b) (bytes_eq a b) refl (bytes_eq-Decides a b).0 (bytes_eq-Decides a b).1

abbrev pub same_parts : (p q : ℚ) → (p.numerator ≡ q.numerator) ⊎ (p.numerator ≡ q.numerator → ⊥) → (p.below ≡ q.below) ⊎ (p.below ≡ q.below → ⊥) → (p ≡ q) ⊎ (p ≡ q → ⊥)
same_parts p q (inl e) (inl f) = inl (ℚ_same p q e f)
same_parts p q (inl e) (inr n) = inr (λ h. n (ap (λ (r : ℚ). r.below) h))
same_parts p q (inr n) f = inr (λ h. n (ap (λ (r : ℚ). r.numerator) h))

abbrev pub same_rational : (p q : ℚ) → (p ≡ q) ⊎ (p ≡ q → ⊥)
same_rational p q =
    same_parts p q (by_test (int_eq p.numerator q.numerator) (int_eq p.numerator q.numerator) refl (Decides-int_eq p.numerator q.numerator).0 (Decides-int_eq p.numerator q.numerator).1)
    (same_number p.below q.below)

-- ---- whether a variable stands in a term

abbrev pub either : (v : ℕ) (t : Tree) (ts : Terms Text) → Occurs v t ⊎ (Occurs v t → ⊥) → OccursIn v ts ⊎ (OccursIn v ts → ⊥)
    → OccursIn v (more t ts) ⊎ (OccursIn v (more t ts) → ⊥)
either v t ts (inl h) rest = inl (inl h)
either v t ts (inr n) (inl h) = inl (inr h)
either v t ts (inr n) (inr m) = inr (λ h. elim h [ inl a ↦ n a | inr b ↦ m b ])

abbrev mutual
  pub occurs : (v : ℕ) (t : Tree) → Occurs v t ⊎ (Occurs v t → ⊥)
  occurs v (Var w) = same_number v w
  occurs v (Number q) = inr (λ h. h)
  occurs v (Name a) = inr (λ h. h)
  occurs v (Compound f ts) = occurs_in v ts

  pub occurs_in : (v : ℕ) (ts : Terms Text) → OccursIn v ts ⊎ (OccursIn v ts → ⊥)
  occurs_in v (one t) = occurs v t
  occurs_in v (more t ts) = either v t ts (occurs v t) (occurs_in v ts)

-- ---- arguments

-- the pairs of arguments in front of others, or that they are not as many
pub data Zipped (ts us : Terms Text) (es : List (Equation Text)) : Type 0 where
  zipped : (fs : List (Equation Text)) → ((s : Subst Text) → ((apply_all s ts ≡ apply_all s us) × Equates s es) ↔ Equates s fs) → Zipped ts us es
  differ : ((s : Subst Text) → apply_all s ts ≡ apply_all s us → ⊥) → Zipped ts us es

pub last_pair : (t u : Tree) (es : List (Equation Text)) (s : Subst Text) → ((apply_all s (one t) ≡ apply_all s (one u)) × Equates s es) ↔ Equates s ((t ≐ u) ∷ es)
last_pair t u es s = (λ h. (first h.0, h.1), λ h. (ap (λ x. one x) h.0, h.1))
  where
    first : ◌≡◌ {A = Terms Text} (one (apply s t)) (one (apply s u)) → apply s t ≡ apply s u
    first e = cc

pub first_pair : (t u : Tree) (ts us : Terms Text) (es fs : List (Equation Text)) (s : Subst Text) → ((apply_all s ts ≡ apply_all s us) × Equates s es) ↔ Equates s fs
    → ((apply_all s (more t ts) ≡ apply_all s (more u us)) × Equates s es) ↔ Equates s ((t ≐ u) ∷ fs)
first_pair t u ts us es fs s rest = (λ h. (first h.0, rest.0 (others h.0, h.1)), λ h. (λ i. more (h.0 i) ((rest.1 h.1).0 i), (rest.1 h.1).1))
  where
    first : ◌≡◌ {A = Terms Text} (more (apply s t) (apply_all s ts)) (more (apply s u) (apply_all s us)) → apply s t ≡ apply s u
    first e = cc

    others : ◌≡◌ {A = Terms Text} (more (apply s t) (apply_all s ts)) (more (apply s u) (apply_all s us)) → apply_all s ts ≡ apply_all s us
    others e = cc

pub no_more : (t u : Tree) (us : Terms Text) (s : Subst Text) → apply_all s (one t) ≡ apply_all s (more u us) → ⊥
no_more t u us s e = let k : ◌≡◌ {A = Terms Text} (one (apply s t)) (more (apply s u) (apply_all s us)) = e in cc

pub rest_differ : (t u : Tree) (ts us : Terms Text) (s : Subst Text) → (apply_all s ts ≡ apply_all s us → ⊥) → apply_all s (more t ts) ≡ apply_all s (more u us) → ⊥
rest_differ t u ts us s n e =
    let k : ◌≡◌ {A = Terms Text} (more (apply s t) (apply_all s ts)) (more (apply s u) (apply_all s us)) = e in
    let h : apply_all s ts ≡ apply_all s us = cc in
    n h

abbrev pub before_rest : (t u : Tree) (ts us : Terms Text) (es : List (Equation Text)) → Zipped ts us es → Zipped (more t ts) (more u us) es
before_rest t u ts us es (zipped fs h) = zipped ((t ≐ u) ∷ fs) (λ s. first_pair t u ts us es fs s (h s))
before_rest t u ts us es (differ n) = differ (λ s. rest_differ t u ts us s (n s))

abbrev pub zip : (ts us : Terms Text) (es : List (Equation Text)) → Zipped ts us es
zip (one t) (one u) es = zipped ((t ≐ u) ∷ es) (last_pair t u es)
zip (one t) (more u us) es = differ (no_more t u us)
zip (more t ts) (one u) es = differ (λ s e. no_more u t ts s (sym e))
zip (more t ts) (more u us) es = before_rest t u ts us es (zip ts us es)

pub not_below : (a b : ℕ) → nat_lt a b ≡ false → b ≤ a
not_below a b e = grind arith

-- ---- one pair

module _ (go : (fs : List (Equation Text)) → Unified fs) where
  abbrev pub bind : (v : ℕ) (t : Tree) (es : List (Equation Text)) → ((w : ℕ) → t ≡ Var w → ⊥) → Occurs v t ⊎ (Occurs v t → ⊥) → Unified ((Var v ≐ t) ∷ es)
  bind v t es other (inl h) = clash (λ s k. occurs_clash s v t h (other v) k.0)
  bind v t es other (inr n) = by_binding v t es n (λ w e. absurd (other w e)) (go (read_under (single v t) es))

  -- two variables that differ: the younger is bound to the older
  abbrev pub variables : (v w : ℕ) (es : List (Equation Text)) → (v ≡ w → ⊥) → (b : Bool) → nat_lt w v ≡ b → Unified ((Var v ≐ Var w) ∷ es)
  variables v w es n true e = by_binding v (Var w) es n (λ x h. below x h) (go (read_under (single v (Var w)) es))
    where
      below : (x : ℕ) → ◌≡◌ {A = Tree} (Var w) (Var x) → x ≤ v
      below x h = let k : w ≡ x = cc in let l : w < v = (Decides-ltb w v).0 e in omega arith
  variables v w es n false e =
      by_pairs ((Var v ≐ Var w) ∷ es) ((Var w ≐ Var v) ∷ es) (turned (Var v) (Var w) es)
      (by_binding w (Var v) es (λ h. n (sym h)) (λ x h. below x h) (go (read_under (single w (Var v)) es)))
    where
      below : (x : ℕ) → ◌≡◌ {A = Tree} (Var v) (Var x) → x ≤ w
      below x h =
          let k : v ≡ x = cc in
          let l : v ≤ w = not_below w v e in
          omega arith

  abbrev pub two_variables : (v w : ℕ) (es : List (Equation Text)) → (v ≡ w) ⊎ (v ≡ w → ⊥) → Unified ((Var v ≐ Var w) ∷ es)
  two_variables v w es (inl e) = by_pairs ((Var v ≐ Var w) ∷ es) es (equal (Var v) (Var w) es (ap (λ n. Var n) e)) (go es)
  two_variables v w es (inr n) = variables v w es n (nat_lt w v) refl

  abbrev pub variable : (v : ℕ) (t : Tree) (es : List (Equation Text)) → Unified ((Var v ≐ t) ∷ es)
  variable v (Var w) es = two_variables v w es (same_number v w)
  variable v (Number q) es = bind v (Number q) es (λ w e. cc) (inr (λ h. h))
  variable v (Name a) es = bind v (Name a) es (λ w e. cc) (inr (λ h. h))
  variable v (Compound f ts) es = bind v (Compound f ts) es (λ w e. cc) (occurs v (Compound f ts))

  abbrev pub numbers : (p q : ℚ) (es : List (Equation Text)) → (p ≡ q) ⊎ (p ≡ q → ⊥) → Unified ((Number p ≐ Number q) ∷ es)
  numbers p q es (inl e) = by_pairs ((Number p ≐ Number q) ∷ es) es (equal (Number p) (Number q) es (ap (λ r. Number r) e)) (go es)
  numbers p q es (inr n) = clash (λ s k. n (same k.0))
    where
      same : ◌≡◌ {A = Tree} (Number p) (Number q) → p ≡ q
      same e = cc

  abbrev pub names : (a b : Text) (es : List (Equation Text)) → (a ≡ b) ⊎ (a ≡ b → ⊥) → Unified ((Name a ≐ Name b) ∷ es)
  names a b es (inl e) = by_pairs ((Name a ≐ Name b) ∷ es) es (equal (Name a) (Name b) es (ap (λ f. Name f) e)) (go es)
  names a b es (inr n) = clash (λ s k. n (same k.0))
    where
      same : ◌≡◌ {A = Tree} (Name a) (Name b) → a ≡ b
      same e = cc

  abbrev pub arguments : (f g : Text) (ts us : Terms Text) (es : List (Equation Text)) → f ≡ g → Zipped ts us es → Unified ((Compound f ts ≐ Compound g us) ∷ es)
  arguments f g ts us es e (zipped fs h) = by_pairs ((Compound f ts ≐ Compound g us) ∷ es) fs (λ s. (λ k. (h s).0 (inside s k.0, k.1), λ k. (around s ((h s).1 k).0, ((h s).1 k).1))) (go fs)
    where
      inside : (s : Subst Text) → ◌≡◌ {A = Tree} (Compound f (apply_all s ts)) (Compound g (apply_all s us)) → apply_all s ts ≡ apply_all s us
      inside s k = cc

      around : (s : Subst Text) → apply_all s ts ≡ apply_all s us → ◌≡◌ {A = Tree} (Compound f (apply_all s ts)) (Compound g (apply_all s us))
      around s k = λ i. Compound (e i) (k i)
  arguments f g ts us es e (differ n) = clash (λ s k. n s (inside s k.0))
    where
      inside : (s : Subst Text) → ◌≡◌ {A = Tree} (Compound f (apply_all s ts)) (Compound g (apply_all s us)) → apply_all s ts ≡ apply_all s us
      inside s k = cc

  abbrev pub compounds : (f g : Text) (ts us : Terms Text) (es : List (Equation Text)) → (f ≡ g) ⊎ (f ≡ g → ⊥) → Unified ((Compound f ts ≐ Compound g us) ∷ es)
  compounds f g ts us es (inl e) = arguments f g ts us es e (zip ts us es)
  compounds f g ts us es (inr n) = clash (λ s k. n (same s k.0))
    where
      same : (s : Subst Text) → ◌≡◌ {A = Tree} (Compound f (apply_all s ts)) (Compound g (apply_all s us)) → f ≡ g
      same s e = cc

  abbrev pub pair : (l r : Tree) (es : List (Equation Text)) → Unified ((l ≐ r) ∷ es)
  pair (Var v) r es = variable v r es
  pair (Number p) (Var w) es = by_pairs ((Number p ≐ Var w) ∷ es) ((Var w ≐ Number p) ∷ es) (turned (Number p) (Var w) es) (variable w (Number p) es)
  pair (Number p) (Number q) es = numbers p q es (same_rational p q)
  pair (Number p) (Name a) es = clash (λ s k. let e : ◌≡◌ {A = Tree} (Number p) (Name a) = k.0 in cc)
  pair (Number p) (Compound g us) es = clash (λ s k. let e : ◌≡◌ {A = Tree} (Number p) (Compound g (apply_all s us)) = k.0 in cc)
  pair (Name a) (Var w) es = by_pairs ((Name a ≐ Var w) ∷ es) ((Var w ≐ Name a) ∷ es) (turned (Name a) (Var w) es) (variable w (Name a) es)
  pair (Name a) (Number q) es = clash (λ s k. let e : ◌≡◌ {A = Tree} (Name a) (Number q) = k.0 in cc)
  pair (Name a) (Name b) es = names a b es (same_text a b)
  pair (Name a) (Compound g us) es = clash (λ s k. let e : ◌≡◌ {A = Tree} (Name a) (Compound g (apply_all s us)) = k.0 in cc)
  pair (Compound f ts) (Var w) es = by_pairs ((Compound f ts ≐ Var w) ∷ es) ((Var w ≐ Compound f ts) ∷ es) (turned (Compound f ts) (Var w) es) (variable w (Compound f ts) es)
  pair (Compound f ts) (Number q) es = clash (λ s k. let e : ◌≡◌ {A = Tree} (Compound f (apply_all s ts)) (Number q) = k.0 in cc)
  pair (Compound f ts) (Name b) es = clash (λ s k. let e : ◌≡◌ {A = Tree} (Compound f (apply_all s ts)) (Name b) = k.0 in cc)
  pair (Compound f ts) (Compound g us) es = compounds f g ts us es (same_text f g)

-- ---- all pairs

abbrev pub unify : ℕ → (es : List (Equation Text)) → Unified es
unify zero es = unknown
unify (suc n) [] = unifier identity no_pairs
unify (suc n) (e ∷ es) = pair (unify n) e.left e.right es
