-- The equations of variables that were bound, one after another.
use Rattle.std.proofs.Common.{◌≡◌, ℕ, List, [], ◌∷◌, ◌++◌, map, Bool, true, false, cond, refl, sym, ap, ◌∙◌, inl, inr, ◌||◌}
use Rattle.std.specs.Prelude.{Contains, filter}
use Rattle.std.specs.List.{list_any}
use Rattle.std.proofs.lemmas.Bool.{true≢false}
use Rattle.std.proofs.lemmas.List.{map-append}
use Rattle.std.proofs.lemmas.List.Elements.{filter-append}
use Rattle.spec_linear.specs.Solution.{Constraint}
use Rattle.spec_numbers.proofs.Tests.{one_is}
use Rattle.spec_terms.specs.Term.{Var, Number, Name, Compound}
use Rattle.cq_attr.specs.Attributes.{Attributes, is_numeric}
use Rattle.cq_frac.specs.declared.VarId.{VarId}
use Rattle.cq_term.specs.Meaning.{HeapTerm, at}
use Rattle.cq_term.specs.Places.{numbers_of}
use Rattle.cq_settle.specs.Contents.{Contents}
use Rattle.cq_settle.specs.Steps.{HaveJoined, equation_at, equations_of, numeric_ones, is_image_of, is_the_variable}
use Rattle.cq_settle.proofs.Joined.{numbers_behind}
use Rattle.cq_settle.proofs.Closed.{nothing_behind}

-- ---- lists

pub any_append : (test : ℕ → Bool) (xs ys : List ℕ) → list_any test (xs ++ ys) ≡ (list_any test xs || list_any test ys)
any_append test [] ys = refl
any_append test (x ∷ xs) ys = ap (λ (b : Bool). test x || b) (any_append test xs ys) ∙ assoc (test x) (list_any test xs) (list_any test ys) where
  assoc : (a b c : Bool) → (a || (b || c)) ≡ ((a || b) || c)
  assoc true b c = refl
  assoc false b c = refl

pub or_assoc : (a b c : Bool) → ((a || b) || c) ≡ (a || (b || c))
or_assoc true b c = refl
or_assoc false b c = refl

-- those of a longer list
ones_push : (a : Attributes) (vs : List VarId) (v : VarId) → numeric_ones a (vs ++ v ∷ []) ≡ numeric_ones a vs ++ cond (is_numeric a v.0) (v.0 ∷ []) []
ones_push a vs v = ap (filter (is_numeric a)) (numbers_behind vs (v ∷ [])) ∙ filter-append (is_numeric a) (numbers_of vs) (v.0 ∷ [])

pub ones_with : (a : Attributes) (vs : List VarId) (v : VarId) → is_numeric a v.0 ≡ true → numeric_ones a (vs ++ v ∷ []) ≡ numeric_ones a vs ++ v.0 ∷ []
ones_with a vs v e = ones_push a vs v ∙ ap (λ (b : Bool). numeric_ones a vs ++ cond b (v.0 ∷ []) []) e

pub ones_without : (a : Attributes) (vs : List VarId) (v : VarId) → is_numeric a v.0 ≡ false → numeric_ones a (vs ++ v ∷ []) ≡ numeric_ones a vs
ones_without a vs v e = ones_push a vs v ∙ ap (λ (b : Bool). numeric_ones a vs ++ cond b (v.0 ∷ []) []) e ∙ nothing_behind (numeric_ones a vs)

pub equations_with : (c : Contents) (vs : List VarId) (v : VarId) → is_numeric c.attrs v.0 ≡ true → equations_of c (vs ++ v ∷ []) ≡ equations_of c vs ++ equation_at c.heap.images v.0 ∷ []
equations_with c vs v e = ap (map (equation_at c.heap.images)) (ones_with c.attrs vs v e) ∙ map-append (equation_at c.heap.images) (numeric_ones c.attrs vs) (v.0 ∷ [])

pub equations_split : (c : Contents) (vs : List VarId) (v : VarId) (ws : List VarId) → is_numeric c.attrs v.0 ≡ true
    → equations_of c (vs ++ v ∷ ws) ≡ equations_of c vs ++ equation_at c.heap.images v.0 ∷ equations_of c ws
equations_split c vs v ws e =
    ap (λ (ns : List ℕ). map (equation_at c.heap.images) (filter (is_numeric c.attrs) ns)) (numbers_behind vs (v ∷ ws))
    ∙ ap (map (equation_at c.heap.images)) (filter-append (is_numeric c.attrs) (numbers_of vs) (v.0 ∷ numbers_of ws))
    ∙ map-append (equation_at c.heap.images) (numeric_ones c.attrs vs) (filter (is_numeric c.attrs) (v.0 ∷ numbers_of ws))
    ∙ ap (λ (b : Bool). equations_of c vs ++ map (equation_at c.heap.images) (cond b (v.0 ∷ numeric_ones c.attrs ws) (numeric_ones c.attrs ws))) e

-- ---- what is numeric

pub image_push : (images : List HeapTerm) (vs : List ℕ) (v x : ℕ) → is_image_of images (vs ++ v ∷ []) x ≡ (is_image_of images vs x || is_image_of images (v ∷ []) x)
image_push images vs v x = any_append (λ w. is_the_variable x (at images w)) vs (v ∷ [])

-- a bound variable is as numeric as before
pub bound_same : (images : List HeapTerm) (a b : Attributes) (vs : List ℕ) (v : ℕ) → ((x : ℕ) → is_numeric b x ≡ (is_numeric a x || is_image_of images vs x))
    → ((x : ℕ) → is_image_of images vs x ≡ true → at images x ≡ Var x) → (at images v ≡ Var v → ⊥) → is_numeric b v ≡ is_numeric a v
bound_same images a b vs v e free n = e v ∙ by_image (is_numeric a v) (is_image_of images vs v) refl where
  by_image : (x y : Bool) → is_image_of images vs v ≡ y → (x || y) ≡ x
  by_image true y h = refl
  by_image false true h = absurd (n (free v h))
  by_image false false h = refl

pub numeric_push : (images : List HeapTerm) (a b c : Attributes) (vs : List ℕ) (v : ℕ) → ((x : ℕ) → is_numeric b x ≡ (is_numeric a x || is_image_of images vs x))
    → ((x : ℕ) → is_numeric c x ≡ (is_numeric b x || is_image_of images (v ∷ []) x)) → (x : ℕ) → is_numeric c x ≡ (is_numeric a x || is_image_of images (vs ++ v ∷ []) x)
numeric_push images a b c vs v e f x =
    f x ∙ ap (λ (y : Bool). y || is_image_of images (v ∷ []) x) (e x) ∙ or_assoc (is_numeric a x) (is_image_of images vs x) (is_image_of images (v ∷ []) x)
    ∙ ap (λ (y : Bool). is_numeric a x || y) (sym (image_push images vs v x))

-- a fact of each image
pub of_images : (images : List HeapTerm) (P : ℕ → Type 0) (vs : List ℕ) (v : ℕ) → ((x : ℕ) → is_image_of images vs x ≡ true → P x) → ((x : ℕ) → is_image_of images (v ∷ []) x ≡ true → P x)
    → (x : ℕ) → is_image_of images (vs ++ v ∷ []) x ≡ true → P x
of_images images P vs v f g x e = elim (one_is (is_image_of images vs x) (is_image_of images (v ∷ []) x) (sym (image_push images vs v x) ∙ e)) [ inl h ↦ f x h | inr h ↦ g x h ]

variable_of : (x : ℕ) (t : HeapTerm) → (is_the_variable x t || false) ≡ true → t ≡ Var x
variable_of x (Var w) e = elim (one_is (is_the_variable x (Var w)) false e) [ inl h ↦ ap (λ (y : ℕ). Var y) (Rattle.spec_numbers.proofs.Tests.nat_eq-same w x h) | inr h ↦ absurd (true≢false (sym h)) ]
variable_of x (Number q) e = absurd (true≢false (sym e))
variable_of x (Name a) e = absurd (true≢false (sym e))
variable_of x (Compound f ts) e = absurd (true≢false (sym e))

pub one_image : (images : List HeapTerm) (v x : ℕ) → is_image_of images (v ∷ []) x ≡ true → at images v ≡ Var x
one_image images v x e = variable_of x (at images v) e

-- ---- what is told

pub told_more : (old more new : List Constraint) (before after later : List VarId) → ((v : ℕ) → Contains (numbers_of after) v → Contains (numbers_of later) v)
    → HaveJoined old more new before after → HaveJoined old more new before later
told_more old more new before after later f h = record {
  list = h.list;
  solvable = h.solvable;
  still = λ v m. f v (h.still v m);
  told = λ v q g n. f v (h.told v q g n);
}
