-- One more equation of a variable that was bound joins.
use Rattle.std.proofs.Common.{◌≡◌, ◌<◌, ◌+◌, ℕ, List, [], ◌∷◌, ◌++◌, length, take, drop, get_or, Bool, true, false, sym, ap, ◌∙◌, subst, ◌||◌}
use Rattle.std.specs.Prelude.{Contains}
use Rattle.std.proofs.lemmas.List.{take_more, drop_more, take-append-drop}
use Rattle.spec_linear.specs.Solution.{Constraint}
use Rattle.spec_terms.specs.Term.{Var}
use Rattle.cq_attr.specs.Attributes.{Attributes, is_numeric}
use Rattle.cq_frac.specs.declared.VarId.{VarId}
use Rattle.cq_term.specs.HeapValue.{Terms}
use Rattle.cq_term.specs.Meaning.{at}
use Rattle.cq_term.specs.Places.{numbers_of}
use Rattle.cq_settle.specs.Contents.{Contents}
use Rattle.cq_settle.specs.Steps.{AreBoundThere, HaveJoined, StopsAt, equation_at, equations_of, numeric_ones, is_image_of}
use Rattle.cq_settle.proofs.Gather.{bound_same, ones_with, ones_without, equations_with, equations_split, numeric_push, of_images, one_image, told_more}
use Rattle.cq_settle.proofs.Joined.{one_more_joins, stops_at}

module _ (c : Contents) (vs : List VarId) (i : ℕ) (d : VarId) (here : i < length vs) where
  abbrev v : VarId
  v = get_or vs i d

  -- the equations of the variables before this one
  abbrev sooner : List Constraint
  sooner = equations_of c (take i vs)

  taken : take (i + 1) vs ≡ take i vs ++ v ∷ []
  taken = take_more vs i d here

  parts : vs ≡ take i vs ++ v ∷ drop (i + 1) vs
  parts = sym (take-append-drop i vs) ∙ ap (λ (xs : List VarId). take i vs ++ xs) (drop_more vs i d here)

  -- as a bound variable is as numeric as before
  pub numeric_here : (b : Attributes) → ((x : ℕ) → is_numeric b x ≡ (is_numeric c.attrs x || is_image_of c.heap.images (numeric_ones c.attrs (take i vs)) x))
      → ((x : ℕ) → is_image_of c.heap.images (numeric_ones c.attrs (take i vs)) x ≡ true → at c.heap.images x ≡ Var x) → AreBoundThere c.heap.images vs
      → (t : Bool) → t ≡ is_numeric b v.0 → is_numeric c.attrs v.0 ≡ t
  numeric_here b f g h t e = sym (bound_same c.heap.images c.attrs b (numeric_ones c.attrs (take i vs)) v.0 f g (h i d here).1) ∙ sym e

  -- a variable that is not numeric has none
  pub ones_same : is_numeric c.attrs v.0 ≡ false → numeric_ones c.attrs (take i vs) ≡ numeric_ones c.attrs (take (i + 1) vs)
  ones_same e = sym (ap (numeric_ones c.attrs) taken ∙ ones_without c.attrs (take i vs) v e)

  module _ (numeric : is_numeric c.attrs v.0 ≡ true) where
    ones_next : numeric_ones c.attrs (take i vs) ++ v.0 ∷ [] ≡ numeric_ones c.attrs (take (i + 1) vs)
    ones_next = sym (ap (numeric_ones c.attrs) taken ∙ ones_with c.attrs (take i vs) v numeric)

    module _ (mid said : List Constraint) (e : Constraint) (first before : List VarId) (so_far : HaveJoined c.told sooner mid first before) (same_list : said ≡ mid)
        (is : e ≡ equation_at c.heap.images v.0) where
      pub equation_joins : (new : List Constraint) (between after : List VarId) → ((w : ℕ) → Contains (numbers_of before) w → Contains (numbers_of between) w)
          → HaveJoined said (e ∷ []) new between after → HaveJoined c.told (equations_of c (take (i + 1) vs)) new first after
      equation_joins new between after still k =
          subst (λ (es : List Constraint). HaveJoined c.told es new first after)
          (ap (λ (x : Constraint). sooner ++ x ∷ []) is ∙ sym (ap (equations_of c) taken ∙ equations_with c (take i vs) v numeric))
          (one_more_joins c.told mid new sooner e first between after (told_more c.told sooner mid first before between still so_far)
          (subst (λ (l : List Constraint). HaveJoined l (e ∷ []) new between after) same_list k))

      pub equation_stops : (P : List Constraint → Constraint → Type 0) → P said e → StopsAt P c.told (equations_of c vs)
      equation_stops P h =
          stops_at P c.told mid sooner (equations_of c (drop (i + 1) vs)) (equations_of c vs) e first before so_far
          (ap (equations_of c) parts ∙ equations_split c (take i vs) v (drop (i + 1) vs) numeric ∙ ap (λ (x : Constraint). sooner ++ x ∷ equations_of c (drop (i + 1) vs)) (sym is))
          (subst (λ (l : List Constraint). P l e) same_list h)

    module _ (h : Terms) (same : h ≡ c.heap) where
      pub numeric_next : (b e : Attributes) → ((x : ℕ) → is_numeric b x ≡ (is_numeric c.attrs x || is_image_of c.heap.images (numeric_ones c.attrs (take i vs)) x))
          → ((x : ℕ) → is_numeric e x ≡ (is_numeric b x || is_image_of h.images (v.0 ∷ []) x))
          → (x : ℕ) → is_numeric e x ≡ (is_numeric c.attrs x || is_image_of c.heap.images (numeric_ones c.attrs (take (i + 1) vs)) x)
      numeric_next b e f g x =
          numeric_push c.heap.images c.attrs b e (numeric_ones c.attrs (take i vs)) v.0 f (λ y. g y ∙ ap (λ (p : Terms). is_numeric b y || is_image_of p.images (v.0 ∷ []) y) same) x
          ∙ ap (λ (ns : List ℕ). is_numeric c.attrs x || is_image_of c.heap.images ns x) ones_next

      pub images_next : (P : ℕ → Type 0) → ((x : ℕ) → is_image_of c.heap.images (numeric_ones c.attrs (take i vs)) x ≡ true → P x)
          → ((x : ℕ) → is_image_of h.images (v.0 ∷ []) x ≡ true → P x) → (x : ℕ) → is_image_of c.heap.images (numeric_ones c.attrs (take (i + 1) vs)) x ≡ true → P x
      images_next P f g x e =
          of_images c.heap.images P (numeric_ones c.attrs (take i vs)) v.0 f (λ y m. g y (ap (λ (p : Terms). is_image_of p.images (v.0 ∷ []) y) same ∙ m)) x
          (ap (λ (ns : List ℕ). is_image_of c.heap.images ns x) ones_next ∙ e)

      pub unbound_next : ((x : ℕ) → is_image_of c.heap.images (numeric_ones c.attrs (take i vs)) x ≡ true → at c.heap.images x ≡ Var x)
          → ((w : ℕ) → at h.images v.0 ≡ Var w → at h.images w ≡ Var w)
          → (x : ℕ) → is_image_of c.heap.images (numeric_ones c.attrs (take (i + 1) vs)) x ≡ true → at c.heap.images x ≡ Var x
      unbound_next f g = images_next (λ x. at c.heap.images x ≡ Var x) f (λ y m. ap (λ (p : Terms). at p.images y) (sym same) ∙ g y (one_image h.images v.0 y m))
