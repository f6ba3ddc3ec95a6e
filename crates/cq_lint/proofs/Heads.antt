-- Compounds of one argument, of three and of several, and the goals that they are made of.
use Rattle.std.proofs.Common.{◌≡◌, ◌≢◌, ℕ, suc, ◌+◌, ◌<◌, ◌≤◌, ◌-◌, Bool, true, false, List, [], ◌∷◌, ◌++◌, Some, None, codes, length, refl, ap, sym, ◌∙◌, subst, arith}
use Rattle.std.specs.Prelude.{slice_get, bytes_eq, if◌then◌else◌}
use Rattle.std.proofs.lemmas.Option.{same_Some}
use Rattle.spec_numbers.specs.Texts.{Text}
use Rattle.spec_terms.specs.Term.{Var, Number, Name, Compound, one, more, count, named, named_all, size, Terms}
use Rattle.cq_term.specs.Texts.{text_of}
use Rattle.cq_term.specs.Meaning.{HeapTerm, at}
use Rattle.cq_term.specs.Shown.{view_of, arguments}
use Rattle.cq_term.specs.declared.view.View.TheVariants as view
use Rattle.cq_term.specs.Trees.{tree, KnowsTerms}
use Rattle.cq_built.specs.Sides.{is_binary}
use Rattle.cq_lint.specs.Shapes.{is_unary, is_ternary, is_many, HasOnly, HasThree, HasMany}
use Rattle.cq_lint.specs.declared.shapes.Many.{Many}
use Rattle.cq_lint.specs.declared.shapes.Only.{Only}
use Rattle.cq_lint.specs.declared.shapes.Three.{Three}
use Rattle.spec_syntax.specs.Trees.{Tree, unary, binary}
use Rattle.spec_builtins.specs.Built.{indicator}
use Rattle.spec_builtins.specs.Bodies.{is_control}
use Rattle.cq_built.specs.Sides.{HasSides}
use Rattle.cq_built.specs.declared.sides.Sides.{Sides}
use Rattle.cq_built.proofs.Heads.{tree_of_sides, size_of_sides, count-named}
use Rattle.cq_built.proofs.Trees.{known_at}
use Rattle.cq_term.specs.Names.{HasNamesBelow}
use Rattle.cq_lint.specs.Goals.{AreInner, adds_arguments, called, goals_of, is_wrapper, predicate_of, predicate_with}
use Rattle.cq_lint.specs.declared.goals.Inner.TheVariants as inner

-- ---- how many arguments

some_arguments : (us : Terms ℕ) → 0 < count us
some_arguments (one t) = omega arith
some_arguments (more t us) = omega arith

pub not_unary : (t : HeapTerm) (f n : ℕ) → view_of t ≡ view.Compound f n → n ≢ 1 → is_unary t ≡ false
not_unary (Var v) f n e h = refl
not_unary (Number q) f n e h = refl
not_unary (Name a) f n e h = refl
not_unary (Compound g (one t)) f n e h = let d : ◌≡◌ {A = ℕ} n 1 = cc in absurd (h d)
not_unary (Compound g (more t us)) f n e h = refl

pub not_ternary : (t : HeapTerm) (f n : ℕ) → view_of t ≡ view.Compound f n → n ≢ 3 → is_ternary t ≡ false
not_ternary (Var v) f n e h = refl
not_ternary (Number q) f n e h = refl
not_ternary (Name a) f n e h = refl
not_ternary (Compound g (one t)) f n e h = refl
not_ternary (Compound g (more t (one u))) f n e h = refl
not_ternary (Compound g (more t (more u (one v)))) f n e h = let d : ◌≡◌ {A = ℕ} n 3 = cc in absurd (h d)
not_ternary (Compound g (more t (more u (more v vs)))) f n e h = refl

pub no_unary : (t : HeapTerm) → ((f n : ℕ) → view_of t ≢ view.Compound f n) → is_unary t ≡ false
no_unary (Var v) h = refl
no_unary (Number q) h = refl
no_unary (Name a) h = refl
no_unary (Compound f ts) h = absurd (h f (count ts) refl)

pub no_ternary : (t : HeapTerm) → ((f n : ℕ) → view_of t ≢ view.Compound f n) → is_ternary t ≡ false
no_ternary (Var v) h = refl
no_ternary (Number q) h = refl
no_ternary (Name a) h = refl
no_ternary (Compound f ts) h = absurd (h f (count ts) refl)

pub not_many : (t : HeapTerm) (f n : ℕ) → view_of t ≡ view.Compound f n → n < 2 → is_many t ≡ false
not_many (Var v) f n e h = refl
not_many (Number q) f n e h = refl
not_many (Name a) f n e h = refl
not_many (Compound g (one t)) f n e h = refl
not_many (Compound g (more t us)) f n e h = let d : suc (count us) ≡ n = cc in absurd (omega (arith, d, h, some_arguments us))

pub no_many : (t : HeapTerm) → ((f n : ℕ) → view_of t ≢ view.Compound f n) → is_many t ≡ false
no_many (Var v) h = refl
no_many (Number q) h = refl
no_many (Name a) h = refl
no_many (Compound f ts) h = absurd (h f (count ts) refl)

-- ---- several arguments

record AreMany (t : HeapTerm) (f n : ℕ) : Type 0 where
  first : HeapTerm
  others : Terms ℕ
  are : t ≡ Compound f (more first others)
  counted : suc (count others) ≡ n

all_many : (t : HeapTerm) (f n : ℕ) → view_of t ≡ view.Compound f n → 2 ≤ n → AreMany t f n
all_many (Var v) f n e l = cc
all_many (Number q) f n e l = cc
all_many (Name b) f n e l = cc
all_many (Compound g (one t)) f n e l = let h : ◌≡◌ {A = ℕ} 1 n = cc in absurd (omega (arith, h, l))
all_many (Compound g (more t us)) f n e l = let h : f ≡ g = cc in record { first = t; others = us; are = ap (λ k. Compound k (more t us)) (sym h); counted = cc }

pub has_first : (t : HeapTerm) (f n : ℕ) → view_of t ≡ view.Compound f n → 2 ≤ n → 0 < length (arguments t)
has_first t f n e l = subst (λ u. 0 < length (arguments u)) (sym (all_many t f n e l).are) (omega arith)

pub many_there : (ts : List HeapTerm) (id f n a : ℕ) → view_of (at ts id) ≡ view.Compound f n → 2 ≤ n → slice_get (arguments (at ts id)) 0 ≡ Some (at ts a) → a < length ts
    → HasMany ts id (record { name = f; first = a; more = n - 1 })
many_there ts id f n a e l x live =
    let k = all_many (at ts id) f n e l in
    record {
      live = live;
      others = k.others;
      term = k.are ∙ ap (λ u. Compound f (more u k.others)) (same_Some k.first (at ts a) (subst (λ u. slice_get (arguments u) 0 ≡ Some (at ts a)) k.are x));
      counted = (let c = k.counted in omega (arith, c));
    }

-- ---- three arguments

record AreThree (t : HeapTerm) (f : ℕ) : Type 0 where
  first : HeapTerm
  second : HeapTerm
  third : HeapTerm
  are : t ≡ Compound f (more first (more second (one third)))

all_three : (t : HeapTerm) (f n : ℕ) → view_of t ≡ view.Compound f n → n ≡ 3 → AreThree t f
all_three (Var v) f n e l = cc
all_three (Number q) f n e l = cc
all_three (Name b) f n e l = cc
all_three (Compound g (one t)) f n e l = let h : ◌≡◌ {A = ℕ} 1 n = cc in absurd (omega (arith, h, l))
all_three (Compound g (more t (one u))) f n e l = let h : ◌≡◌ {A = ℕ} 2 n = cc in absurd (omega (arith, h, l))
all_three (Compound g (more t (more u (one v)))) f n e l =
    let h : f ≡ g = cc in record { first = t; second = u; third = v; are = ap (λ k. Compound k (more t (more u (one v)))) (sym h) }
all_three (Compound g (more t (more u (more v vs)))) f n e l = let h : suc (suc (suc (count vs))) ≡ n = cc in absurd (omega (arith, h, l, some_arguments vs))

pub has_three : (t : HeapTerm) (f n : ℕ) → view_of t ≡ view.Compound f n → n ≡ 3 → 2 < length (arguments t)
has_three t f n e l = subst (λ u. 2 < length (arguments u)) (sym (all_three t f n e l).are) (omega arith)

pub three_arguments : (t a b c : HeapTerm) (f n : ℕ) → view_of t ≡ view.Compound f n → n ≡ 3 → slice_get (arguments t) 0 ≡ Some a → slice_get (arguments t) 1 ≡ Some b
    → slice_get (arguments t) 2 ≡ Some c → t ≡ Compound f (more a (more b (one c)))
three_arguments t a b c f n e l x y z =
    let k = all_three t f n e l in
    k.are
    ∙ ap (λ u. Compound f (more u (more k.second (one k.third)))) (same_Some k.first a (subst (λ u. slice_get (arguments u) 0 ≡ Some a) k.are x))
    ∙ ap (λ u. Compound f (more a (more u (one k.third)))) (same_Some k.second b (subst (λ u. slice_get (arguments u) 1 ≡ Some b) k.are y))
    ∙ ap (λ u. Compound f (more a (more b (one u)))) (same_Some k.third c (subst (λ u. slice_get (arguments u) 2 ≡ Some c) k.are z))

-- ---- trees

pub tree_of_only : (texts : List Text) (ts : List HeapTerm) (id : ℕ) (o : Only) → HasOnly ts id o → tree texts ts id ≡ Compound (text_of texts o.name) (one (tree texts ts o.argument))
tree_of_only texts ts id o h = ap (named (text_of texts)) h.term

pub tree_of_three : (texts : List Text) (ts : List HeapTerm) (id : ℕ) (w : Three) → HasThree ts id w
    → tree texts ts id ≡ Compound (text_of texts w.name) (more (tree texts ts w.first) (more (tree texts ts w.second) (one (tree texts ts w.third))))
tree_of_three texts ts id w h = ap (named (text_of texts)) h.term

size_of_only : (ts : List HeapTerm) (id : ℕ) (o : Only) → HasOnly ts id o → size (at ts o.argument) < size (at ts id)
size_of_only ts id o h = let e = ap size h.term in omega (arith, e)

size_of_three : (ts : List HeapTerm) (id : ℕ) (w : Three) → HasThree ts id w → size (at ts w.first) + size (at ts w.second) + size (at ts w.third) < size (at ts id)
size_of_three ts id w h = let e = ap size h.term in omega (arith, e)

-- ---- goals

pub alone : (g : ℕ → Text) (t : HeapTerm) → is_unary t ≡ false → is_binary t ≡ false → is_ternary t ≡ false → goals_of (named g t) ≡ named g t ∷ []
alone g (Var v) a b c = refl
alone g (Number q) a b c = refl
alone g (Name f) a b c = refl
alone g (Compound f (one t)) a b c = cc
alone g (Compound f (more t (one u))) a b c = cc
alone g (Compound f (more t (more u (one v)))) a b c = cc
alone g (Compound f (more t (more u (more v vs)))) a b c = refl

module _ (texts : List Text) (ts : List HeapTerm) (id : ℕ) where
  module _ (o : Only) (h : HasOnly ts id o) where
    pub only_known : KnowsTerms texts ts → id < length ts → o.name < length texts
    only_known known live = (subst (HasNamesBelow (length texts)) h.term (known_at texts ts id known live)).0

    pub wrapped : is_wrapper (text_of texts o.name) ≡ true → AreInner texts ts id (inner.One o.argument)
    wrapped w =
        let a = tree texts ts o.argument in
        (ap goals_of (tree_of_only texts ts id o h) ∙ ap (λ b. if b then goals_of a else unary (text_of texts o.name) a ∷ []) w, h.live, size_of_only ts id o h)

    pub not_wrapped : is_wrapper (text_of texts o.name) ≡ false → AreInner texts ts id inner.Alone
    not_wrapped w =
        let a = tree texts ts o.argument in
        let t = tree_of_only texts ts id o h in
        ap goals_of t ∙ ap (λ b. if b then goals_of a else unary (text_of texts o.name) a ∷ []) w ∙ ap (λ u. u ∷ []) (sym t)

  module _ (s : Sides) (h : HasSides ts id s) where
    abbrev two_if : Bool → Bool → List Tree
    two_if c f =
        if c then goals_of (tree texts ts s.left) ++ goals_of (tree texts ts s.right)
        else if f then goals_of (tree texts ts s.right)
        else binary (text_of texts s.name) (tree texts ts s.left) (tree texts ts s.right) ∷ []

    pub joined : is_control (text_of texts s.name) ≡ true → AreInner texts ts id (inner.Two s.left s.right)
    joined c =
        (ap goals_of (tree_of_sides texts ts id s h) ∙ ap (λ b. two_if b (bytes_eq (text_of texts s.name) (codes "freeze"))) c, h.left, h.right, size_of_sides ts id s h)

    pub frozen : is_control (text_of texts s.name) ≡ false → bytes_eq (text_of texts s.name) (codes "freeze") ≡ true → AreInner texts ts id (inner.One s.right)
    frozen c f = (
      ap goals_of (tree_of_sides texts ts id s h) ∙ (λ i. two_if (c i) (f i)),
      h.right,
      (let z = size_of_sides ts id s h in omega (arith, z)),
    )

    pub not_joined : is_control (text_of texts s.name) ≡ false → bytes_eq (text_of texts s.name) (codes "freeze") ≡ false → AreInner texts ts id inner.Alone
    not_joined c f =
        let t = tree_of_sides texts ts id s h in
        ap goals_of t ∙ (λ i. two_if (c i) (f i)) ∙ ap (λ u. u ∷ []) (sym t)

  module _ (w : Three) (h : HasThree ts id w) where
    pub three_known : KnowsTerms texts ts → id < length ts → w.name < length texts
    three_known known live = (subst (HasNamesBelow (length texts)) h.term (known_at texts ts id known live)).0

    abbrev three_if : Bool → Bool → List Tree
    three_if c f =
        if c then goals_of (tree texts ts w.first) ++ goals_of (tree texts ts w.third)
        else if f then goals_of (tree texts ts w.second)
        else Compound (text_of texts w.name) (more (tree texts ts w.first) (more (tree texts ts w.second) (one (tree texts ts w.third)))) ∷ []

    pub caught : bytes_eq (text_of texts w.name) (codes "catch") ≡ true → AreInner texts ts id (inner.Two w.first w.third)
    caught c = (
      ap goals_of (tree_of_three texts ts id w h) ∙ ap (λ b. three_if b (bytes_eq (text_of texts w.name) (codes "findall"))) c,
      h.first,
      h.third,
      (let z = size_of_three ts id w h in omega (arith, z)),
    )

    pub collected : bytes_eq (text_of texts w.name) (codes "catch") ≡ false → bytes_eq (text_of texts w.name) (codes "findall") ≡ true → AreInner texts ts id (inner.One w.second)
    collected c f = (
      ap goals_of (tree_of_three texts ts id w h) ∙ (λ i. three_if (c i) (f i)),
      h.second,
      (let z = size_of_three ts id w h in omega (arith, z)),
    )

    pub not_caught : bytes_eq (text_of texts w.name) (codes "catch") ≡ false → bytes_eq (text_of texts w.name) (codes "findall") ≡ false → AreInner texts ts id inner.Alone
    not_caught c f =
        let t = tree_of_three texts ts id w h in
        ap goals_of t ∙ (λ i. three_if (c i) (f i)) ∙ ap (λ u. u ∷ []) (sym t)

-- ---- predicates

pub predicate_from_view : (g : ℕ → Text) (t : HeapTerm) (f n : ℕ) → view_of t ≡ view.Compound f n → predicate_of (named g t) ≡ Some (indicator (g f) n)
predicate_from_view g (Var v) f n e = cc
predicate_from_view g (Number q) f n e = cc
predicate_from_view g (Name a) f n e = cc
predicate_from_view g (Compound k us) f n e =
    let a : k ≡ f = cc in
    let c : count us ≡ n = cc in
    let z : count (named_all g us) + 0 ≡ count us = (let m = count-named g us in omega (arith, m)) in
    λ i. Some (indicator (g (a i)) ((z ∙ c) i))

pub predicate_from_name : (g : ℕ → Text) (t : HeapTerm) (a : ℕ) → view_of t ≡ view.Name a → predicate_of (named g t) ≡ Some (indicator (g a) 0)
predicate_from_name g (Var v) a e = cc
predicate_from_name g (Number q) a e = cc
predicate_from_name g (Name b) a e = let h : b ≡ a = cc in ap (λ x. Some (indicator (g x) 0)) h
predicate_from_name g (Compound k us) a e = cc

pub no_predicate : (g : ℕ → Text) (t : HeapTerm) → ((a : ℕ) → view_of t ≢ view.Name a) → ((f n : ℕ) → view_of t ≢ view.Compound f n) → predicate_of (named g t) ≡ None
no_predicate g (Var v) a c = refl
no_predicate g (Number q) a c = refl
no_predicate g (Name b) a c = absurd (a b refl)
no_predicate g (Compound f us) a c = absurd (c f (count us) refl)

pub name_known : (t : HeapTerm) (a n : ℕ) → view_of t ≡ view.Name a → HasNamesBelow n t → a < n
name_known (Var v) a n e h = cc
name_known (Number q) a n e h = cc
name_known (Name b) a n e h = let s : b ≡ a = cc in subst (λ x. x < n) s h
name_known (Compound k us) a n e h = cc

pub compound_known : (t : HeapTerm) (f m n : ℕ) → view_of t ≡ view.Compound f m → HasNamesBelow n t → f < n
compound_known (Var v) f m n e h = cc
compound_known (Number q) f m n e h = cc
compound_known (Name b) f m n e h = cc
compound_known (Compound k us) f m n e h = let s : k ≡ f = cc in subst (λ x. x < n) s h.0

-- ---- what a goal calls

pub called_many : (texts : List Text) (ts : List HeapTerm) (id : ℕ) (m : Many) → HasMany ts id m → adds_arguments (text_of texts m.name) m.more ≡ true
    → called (tree texts ts id) ≡ predicate_with m.more (tree texts ts m.first)
called_many texts ts id m h adds =
    let f = text_of texts m.name in
    let a = tree texts ts m.first in
    let us = named_all (text_of texts) h.others in
    let n : count us ≡ m.more = count-named (text_of texts) h.others ∙ h.counted in
    ap (λ t. called (named (text_of texts) t)) h.term
    ∙ ap (λ b. if b then predicate_with (count us) a else predicate_of (Compound f (more a us))) (ap (adds_arguments f) n ∙ adds)
    ∙ ap (λ k. predicate_with k a) n

pub called_other : (texts : List Text) (ts : List HeapTerm) (id : ℕ) (m : Many) → HasMany ts id m → adds_arguments (text_of texts m.name) m.more ≡ false
    → called (tree texts ts id) ≡ predicate_of (tree texts ts id)
called_other texts ts id m h adds =
    let f = text_of texts m.name in
    let a = tree texts ts m.first in
    let us = named_all (text_of texts) h.others in
    let n : count us ≡ m.more = count-named (text_of texts) h.others ∙ h.counted in
    ap (λ t. called (named (text_of texts) t)) h.term
    ∙ ap (λ b. if b then predicate_with (count us) a else predicate_of (Compound f (more a us))) (ap (adds_arguments f) n ∙ adds)
    ∙ sym (ap (λ t. predicate_of (named (text_of texts) t)) h.term)

pub many_known : (texts : List Text) (ts : List HeapTerm) (id : ℕ) (m : Many) → HasMany ts id m → KnowsTerms texts ts → id < length ts → m.name < length texts
many_known texts ts id m h known live = (subst (HasNamesBelow (length texts)) h.term (known_at texts ts id known live)).0
