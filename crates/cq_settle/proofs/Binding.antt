-- Values that are bound on the heap, one after another.
use Rattle.std.proofs.Common.{◌≡◌, ◌<◌, ℕ, ◌+◌, List, [], ◌∷◌, ◌++◌, map, length, Bool, true, false, cond, Option, None, Some, refl, sym, ap, ap₂, ◌∙◌, subst, inl, inr, ◌⊎◌, arith, append_assoc}
use Rattle.std.specs.Prelude.{Contains, All, ◌==◌, MatchOption}
use Rattle.std.proofs.lemmas.List.{length-append, length-map}
use Rattle.std.proofs.lemmas.List.Elements.{All-contains, All-weaker, All-map, All-append, All-cons, All-nil, Contains-append_left, Contains-append_right, Contains-push_cases}
use Rattle.spec_numbers.specs.Rational.{ℚ}
use Rattle.spec_linear.specs.Solution.{Constraint, Fixed}
use Rattle.spec_linear.proofs.Lists.{fixed_once}
use Rattle.spec_numbers.proofs.Tests.{nat_eq-same, nat_eq-self}
use Rattle.spec_terms.specs.Term.{Var, Number, Name, Compound, apply, single}
use Rattle.spec_terms.proofs.Substitution.{apply-identity, apply-followed_by, apply_agree}
use Rattle.cq_attr.specs.Attributes.{Attributes, is_numeric}
use Rattle.cq_attr.proofs.Elements.{contains_here, contains_none}
use Rattle.cq_frac.specs.declared.VarId.{VarId}
use Rattle.cq_term.specs.HeapValue.{Terms}
use Rattle.cq_term.specs.Meaning.{HeapTerm, at}
use Rattle.cq_term.specs.Names.{HasNamesBelow}
use Rattle.cq_term.proofs.Known.{names_substituted}
use Rattle.cq_term.proofs.Meanings.{at-append, at-map}
use Rattle.cq_term.specs.Places.{numbers_of}
use Rattle.cq_settle.specs.Steps.{BindsValues, valued, value_or_variable}
use Rattle.cq_settle.proofs.Closed.{nothing_behind}
use Rattle.cq_settle.proofs.Composed.{first_of, together}
use Rattle.cq_settle.proofs.Joined.{numbers_behind}
use Rattle.cq_settle.proofs.Numeric.{found_any, contains_of_has}

abbrev pub none : ℕ → Option ℚ
none v = None

map_itself : (ts : List HeapTerm) → ts ≡ map (apply (valued none)) ts
map_itself [] = refl
map_itself (t ∷ ts) = ap₂ (λ x xs. x ∷ xs) (sym (apply-identity t)) (map_itself ts)

pub binds_nothing : (a : Attributes) (told : List Constraint) (h : Terms) (newly : List VarId) → BindsValues a told h h newly newly none
binds_nothing a told h newly = record {
  sound = λ v q e. cc;
  longer = omega arith;
  terms = λ id l. sym (apply-identity (at h.terms id));
  images = map_itself h.images;
  more = [];
  list = sym (nothing_behind newly);
  newly = λ v q e. cc;
  names = λ n all. all;
}

-- ---- one value

abbrev pub only : ℕ → ℚ → ℕ → Option ℚ
only v q w = cond (v == w) (Some q) None

only_by : (v : ℕ) (q : ℚ) (w : ℕ) (r : ℚ) (b : Bool) → (v == w) ≡ b → cond b (Some q) None ≡ Some r → (v ≡ w) × (q ≡ r)
only_by v q w r true e h = (nat_eq-same v w e, cc)
only_by v q w r false e h = cc

pub only_one : (v : ℕ) (q : ℚ) (w : ℕ) (r : ℚ) → only v q w ≡ Some r → (v ≡ w) × (q ≡ r)
only_one v q w r e = only_by v q w r (v == w) refl e

pub only_itself : (v : ℕ) (q : ℚ) → only v q v ≡ Some q
only_itself v q = ap (λ b. cond b (Some q) None) (nat_eq-self v)

single_by : (w : ℕ) (q : ℚ) (b : Bool) → cond b (Number q) (Var w) ≡ value_or_variable (cond b (Some q) None) w
single_by w q true = refl
single_by w q false = refl

single_valued : (v : ℕ) (q : ℚ) (t : HeapTerm) → apply (single v (Number q)) t ≡ apply (valued (only v q)) t
single_valued v q t = apply_agree (single v (Number q)) (valued (only v q)) t (λ w o. single_by w q (v == w))

map_agree : (f g : HeapTerm → HeapTerm) → ((t : HeapTerm) → f t ≡ g t) → (ts : List HeapTerm) → map f ts ≡ map g ts
map_agree f g h [] = refl
map_agree f g h (t ∷ ts) = ap₂ (λ x xs. x ∷ xs) (h t) (map_agree f g h ts)

at_last : (ts : List HeapTerm) (t : HeapTerm) → at (ts ++ t ∷ []) (length ts) ≡ t
at_last [] t = refl
at_last (x ∷ ts) t = at_last ts t

puts_value : (n : ℕ) (values : ℕ → Option ℚ) (v : ℕ) (o : Option ℚ) → HasNamesBelow n (value_or_variable o v)
puts_value n values v None = tt
puts_value n values v (Some q) = tt

module _ (a : Attributes) (told : List Constraint) (old made new : Terms) (v : VarId) (q : ℚ) (before after : List VarId) (id : ℕ)
    (numeric : is_numeric a v.0 ≡ true) (unbound : at old.images v.0 ≡ Var v.0) (fixed : Fixed told v.0 q) (number : id ≡ length old.terms)
    (made_terms : made.terms ≡ old.terms ++ Number q ∷ []) (made_images : made.images ≡ old.images)
    (new_terms : new.terms ≡ map (apply (single v.0 (at made.terms id))) made.terms)
    (new_images : new.images ≡ map (apply (single v.0 (at made.terms id))) made.images) (told_behind : after ≡ before ++ v ∷ []) where
  the_number : at made.terms id ≡ Number q
  the_number = ap₂ at made_terms number ∙ at_last old.terms (Number q)

  terms_are : new.terms ≡ map (apply (valued (only v.0 q))) (old.terms ++ Number q ∷ [])
  terms_are =
      new_terms ∙ ap (λ t. map (apply (single v.0 t)) made.terms) the_number
      ∙ map_agree (apply (single v.0 (Number q))) (apply (valued (only v.0 q))) (single_valued v.0 q) made.terms
      ∙ ap (map (apply (valued (only v.0 q)))) made_terms

  images_are : new.images ≡ map (apply (valued (only v.0 q))) old.images
  images_are =
      new_images ∙ ap (λ t. map (apply (single v.0 t)) made.images) the_number
      ∙ map_agree (apply (single v.0 (Number q))) (apply (valued (only v.0 q))) (single_valued v.0 q) made.images
      ∙ ap (map (apply (valued (only v.0 q)))) made_images

  longer : length old.terms + 1 ≡ length new.terms
  longer = sym (ap length terms_are ∙ length-map (old.terms ++ Number q ∷ []) (apply (valued (only v.0 q))) ∙ length-append old.terms (Number q ∷ []))

  sound : (w : ℕ) (r : ℚ) → only v.0 q w ≡ Some r → (is_numeric a w ≡ true) × (at old.images w ≡ Var w) × Fixed told w r
  sound w r e =
      let s = only_one v.0 q w r e in (
        subst (λ (x : ℕ). is_numeric a x ≡ true) s.0 numeric,
        subst (λ (x : ℕ). at old.images x ≡ Var x) s.0 unbound,
        subst (λ (x : ℕ). Fixed told x r) s.0 (subst (λ (x : ℚ). Fixed told v.0 x) s.1 fixed),
      )

  pub one_binds : BindsValues a told old new before after (only v.0 q)
  one_binds = record {
    sound = sound;
    longer = omega (arith, longer);
    terms = λ i l.
        ap (λ ts. at ts i) terms_are ∙ at-map (apply (valued (only v.0 q))) (old.terms ++ Number q ∷ []) i (omega (arith, l, length-append old.terms (Number q ∷ [])))
        ∙ ap (apply (valued (only v.0 q))) (at-append old.terms (Number q ∷ []) i l);
    images = images_are;
    more = v ∷ [];
    list = told_behind;
    newly = λ w r e. contains_here v.0 [] w (only_one v.0 q w r e).0;
    names = λ n all. subst (All (HasNamesBelow n)) (sym terms_are)
        (All-map (HasNamesBelow n) (apply (valued (only v.0 q))) (old.terms ++ Number q ∷ [])
        (All-weaker (HasNamesBelow n) (λ t. HasNamesBelow n (apply (valued (only v.0 q)) t))
        (λ t h. names_substituted n (valued (only v.0 q)) t h (λ w o. puts_value n (only v.0 q) w (only v.0 q w)))
        (old.terms ++ Number q ∷ []) (All-append (HasNamesBelow n) old.terms (Number q ∷ []) all (All-cons (HasNamesBelow n) (Number q) [] tt (All-nil (HasNamesBelow n))))));
  }

-- a numeric variable is within
pub numeric_within : (a : Attributes) (n v : ℕ) → All (λ w. w < n) a.numeric → is_numeric a v ≡ true → v < n
numeric_within a n v h e =
    let r = found_any (λ w. w == v) a.numeric e in
    subst (λ (x : ℕ). x < n) (nat_eq-same r.item v r.passes) (All-contains (λ w. w < n) a.numeric r.item h (contains_of_has a.numeric r.item r.among))

-- ---- more values

read_by : (f g : ℕ → Option ℚ) (v : ℕ) (o : Option ℚ) → apply (valued g) (value_or_variable o v) ≡ value_or_variable (first_of o (g v)) v
read_by f g v None = refl
read_by f g v (Some q) = refl

reads_on : (f g : ℕ → Option ℚ) (t : HeapTerm) → apply (valued g) (apply (valued f) t) ≡ apply (valued (together f g)) t
reads_on f g t = sym (apply-followed_by (valued f) (valued g) t) ∙ apply_agree _ (valued (together f g)) t (λ v o. read_by f g v (f v))

map_twice : (f g : ℕ → Option ℚ) (ts : List HeapTerm) → map (apply (valued g)) (map (apply (valued f)) ts) ≡ map (apply (valued (together f g))) ts
map_twice f g [] = refl
map_twice f g (t ∷ ts) = ap₂ (λ x xs. x ∷ xs) (reads_on f g t) (map_twice f g ts)

pub unread : (f : ℕ → Option ℚ) (v : ℕ) (t : HeapTerm) → apply (valued f) t ≡ Var v → t ≡ Var v
unread f v (Var w) e = go (f w) e
  where
    go : (o : Option ℚ) → ◌≡◌ {A = HeapTerm} (value_or_variable o w) (Var v) → ◌≡◌ {A = HeapTerm} (Var w) (Var v)
    go None h = h
    go (Some q) h = cc
unread f v (Number q) e = cc
unread f v (Name n) e = cc
unread f v (Compound n ts) e = cc

module _ (a : Attributes) (told : List Constraint) (old mid new : Terms) (before first after : List VarId) (f g : ℕ → Option ℚ)
    (below : (v : ℕ) → is_numeric a v ≡ true → v < length old.images) (b : BindsValues a told old mid before first f) (d : BindsValues a told mid new first after g) where
  pub image_then : (v : ℕ) → v < length old.images → at mid.images v ≡ apply (valued f) (at old.images v)
  image_then v l = ap (λ ts. at ts v) b.images ∙ at-map (apply (valued f)) old.images v l

  sounds : (v : ℕ) (q : ℚ) (o : Option ℚ) → f v ≡ o → first_of o (g v) ≡ Some q → (is_numeric a v ≡ true) × (at old.images v ≡ Var v) × Fixed told v q
  sounds v q (Some r) e h = b.sound v q (e ∙ h)
  sounds v q None e h =
      let s = d.sound v q h in
      (s.0, unread f v (at old.images v) (sym (image_then v (below v s.0)) ∙ s.1), s.2)

  news : (v : ℕ) (q : ℚ) (o : Option ℚ) → f v ≡ o → first_of o (g v) ≡ Some q → Contains (numbers_of b.more ++ numbers_of d.more) v
  news v q (Some r) e h = Contains-append_left (numbers_of b.more) (numbers_of d.more) v (b.newly v r e)
  news v q None e h = Contains-append_right (numbers_of b.more) (numbers_of d.more) v (d.newly v q h)

  pub both_bind : BindsValues a told old new before after (together f g)
  both_bind = record {
    sound = λ v q e. sounds v q (f v) refl e;
    longer = omega (arith, b.longer, d.longer);
    terms = λ id l. d.terms id (omega (arith, l, b.longer)) ∙ ap (apply (valued g)) (b.terms id l) ∙ reads_on f g (at old.terms id);
    images = d.images ∙ ap (map (apply (valued g))) b.images ∙ map_twice f g old.images;
    more = b.more ++ d.more;
    list = d.list ∙ ap (λ vs. vs ++ d.more) b.list ∙ append_assoc before b.more d.more;
    newly = λ v q e. subst (λ (ns : List ℕ). Contains ns v) (sym (numbers_behind b.more d.more)) (news v q (f v) refl e);
    names = λ n all. d.names n (b.names n all);
  }

  -- what the first values left unbound is bound with the others
  pub both_complete : (v : ℕ) (q : ℚ) → is_numeric a v ≡ true → at old.images v ≡ Var v → Fixed told v q
      → ((at mid.images v ≡ Var v) → g v ≡ Some q) → together f g v ≡ Some q
  both_complete v q n u h k = by_first (f v) refl where
    by_first : (o : Option ℚ) → f v ≡ o → first_of o (g v) ≡ Some q
    by_first (Some r) e = ap (λ (x : ℚ). Some x) (fixed_once told v r q (b.sound v r e).2 h)
    by_first None e = k (image_then v (below v n) ∙ ap (apply (valued f)) u ∙ ap (λ (o : Option ℚ). value_or_variable o v) e)

  -- and what they bound stays so
  pub still_bound : (v : ℕ) (q : ℚ) → f v ≡ Some q → together f g v ≡ Some q
  still_bound v q e = ap (λ (o : Option ℚ). first_of o (g v)) e

  -- of one more variable
  more_complete : (vs : List VarId) (x : VarId) → ((v : ℕ) (q : ℚ) → Contains (numbers_of vs) v → is_numeric a v ≡ true → at old.images v ≡ Var v → Fixed told v q → f v ≡ Some q)
      → ((q : ℚ) → is_numeric a x.0 ≡ true → at mid.images x.0 ≡ Var x.0 → Fixed told x.0 q → g x.0 ≡ Some q)
      → (v : ℕ) (q : ℚ) → Contains (numbers_of (vs ++ x ∷ [])) v → is_numeric a v ≡ true → at old.images v ≡ Var v → Fixed told v q → together f g v ≡ Some q
  more_complete vs x h k v q m n u i = by_case (Contains-push_cases (numbers_of vs) x.0 v (subst (λ (ns : List ℕ). Contains ns v) (numbers_behind vs (x ∷ [])) m)) where
    by_case : Contains (numbers_of vs) v ⊎ (x.0 ≡ v) → together f g v ≡ Some q
    by_case (inl o) = still_bound v q (h v q o n u i)
    by_case (inr e) = both_complete v q n u i (λ s. subst (λ (y : ℕ). g y ≡ Some q) e
        (k q (subst (λ (y : ℕ). is_numeric a y ≡ true) (sym e) n) (subst (λ (y : ℕ). at mid.images y ≡ Var y) (sym e) s) (subst (λ (y : ℕ). Fixed told y q) (sym e) i)))

-- those of the variables that are numeric and unbound are bound
abbrev pub AllBound : Attributes → List Constraint → Terms → Terms → List VarId → List VarId → List VarId → Type 0
AllBound a told old new before after vs = (values : ℕ → Option ℚ)
    × BindsValues a told old new before after values
    × ((v : ℕ) (q : ℚ) → Contains (numbers_of vs) v → is_numeric a v ≡ true → at old.images v ≡ Var v → Fixed told v q → values v ≡ Some q)

abbrev pub OneBound : Attributes → List Constraint → Terms → Terms → List VarId → List VarId → VarId → Type 0
OneBound a told old new before after x = (values : ℕ → Option ℚ)
    × BindsValues a told old new before after values
    × ((q : ℚ) → is_numeric a x.0 ≡ true → at old.images x.0 ≡ Var x.0 → Fixed told x.0 q → values x.0 ≡ Some q)

pub none_bound : (a : Attributes) (told : List Constraint) (h : Terms) (newly : List VarId) → AllBound a told h h newly newly []
none_bound a told h newly = (none, binds_nothing a told h newly, λ v q m n u f. absurd (contains_none v m))

pub one_more_bound : (a b : Attributes) (told said : List Constraint) (old mid new : Terms) (before first after vs : List VarId) (x : VarId)
    → All (λ v. v < length old.images) a.numeric → b ≡ a → said ≡ told → AllBound a told old mid before first vs → OneBound b said mid new first after x
    → AllBound a told old new before after (vs ++ x ∷ [])
one_more_bound a b told said old mid new before first after vs x within e s h k =
    joined (subst (λ (l : List Constraint). OneBound a l mid new first after x) s (subst (λ (y : Attributes). OneBound y said mid new first after x) e k)) where
      below : (v : ℕ) → is_numeric a v ≡ true → v < length old.images
      below v n = numeric_within a (length old.images) v within n

      joined : OneBound a told mid new first after x → AllBound a told old new before after (vs ++ x ∷ [])
      joined j = (
        together h.0 j.0,
        both_bind a told old mid new before first after h.0 j.0 below h.1 j.1,
        more_complete a told old mid new before first after h.0 j.0 below h.1 j.1 vs x h.2 j.2,
      )

-- ---- what a call knows of one variable

pub none_fixed : {X : Type 0} (o : Option ℚ) (P : ℚ → Type 0) → MatchOption o ((q : ℚ) → P q → ⊥) P → ((x : ℚ) → o ≡ Some x → ⊥) → (q : ℚ) → P q → X
none_fixed None P m n q p = absurd (m q p)
none_fixed (Some x) P m n q p = absurd (n x refl)
