-- Variables that become numeric, one after another.
use Rattle.std.proofs.Common.{◌≡◌, ℕ, ◌<◌, ◌+◌, List, [], ◌∷◌, ◌++◌, map, length, take, get_or, Bool, true, false, cond, refl, sym, ap, ap₂, ◌∙◌, subst, inl, inr, ◌⊎◌, ◌||◌}
use Rattle.std.specs.Prelude.{Contains, All, ◌==◌, if◌then◌else◌}
use Rattle.std.specs.List.{list_any}
use Rattle.std.proofs.lemmas.List.{take_more}
use Rattle.std.proofs.lemmas.List.Elements.{All-weaker, All-map, All-more, All-contains_itself, Contains-append_left, Contains-append_right}
use Rattle.spec_numbers.proofs.Tests.{nat_eq-same}
use Rattle.spec_terms.specs.Variables.{variables}
use Rattle.cq_attr.specs.Attributes.{Attributes, is_numeric, marked}
use Rattle.cq_frac.specs.declared.VarId.{VarId}
use Rattle.cq_term.specs.Meaning.{HeapTerm, at}
use Rattle.cq_term.specs.Shown.{IsUnbound}
use Rattle.cq_term.specs.Places.{numbers_of}
use Rattle.cq_settle.proofs.Gather.{any_append, or_assoc}
use Rattle.cq_settle.proofs.Joined.{numbers_behind}

or_none : (a b : Bool) → (a || (b || false)) ≡ (a || b)
or_none true b = refl
or_none false true = refl
or_none false false = refl

there_already : (a b : Bool) → (b ≡ true → a ≡ true) → a ≡ (a || b)
there_already true b f = refl
there_already false true f = f refl
there_already false false f = refl

marked_by : (a : Attributes) (x v : ℕ) (b : Bool) → is_numeric a x ≡ b → list_any (λ w. w == v) (if b then a.numeric else a.numeric ++ x ∷ []) ≡ (is_numeric a v || (x == v))
marked_by a x v true e = there_already (is_numeric a v) (x == v) (λ h. ap (is_numeric a) (sym (nat_eq-same x v h)) ∙ e)
marked_by a x v false e = any_append (λ w. w == v) a.numeric (x ∷ []) ∙ or_none (is_numeric a v) (x == v)

pub marked_numeric : (a : Attributes) (x v : ℕ) → is_numeric (marked a x) v ≡ (is_numeric a v || (x == v))
marked_numeric a x v = marked_by a x v (is_numeric a x) refl

-- ---- the variables of a list

module _ (vs : List VarId) (i : ℕ) (d : VarId) (at_place : i < length vs) where
  next : take (i + 1) vs ≡ take i vs ++ get_or vs i d ∷ []
  next = take_more vs i d at_place

  pub each_numeric : (a b c : Attributes) → ((v : ℕ) → is_numeric b v ≡ (is_numeric a v || list_any (λ w. w == v) (numbers_of (take i vs)))) → c ≡ marked b (get_or vs i d).0
      → (v : ℕ) → is_numeric c v ≡ (is_numeric a v || list_any (λ w. w == v) (numbers_of (take (i + 1) vs)))
  each_numeric a b c f e v =
      ap (λ (x : Attributes). is_numeric x v) e ∙ marked_numeric b (get_or vs i d).0 v
      ∙ ap (λ (x : Bool). x || ((get_or vs i d).0 == v)) (f v)
      ∙ or_assoc (is_numeric a v) (list_any (λ w. w == v) (numbers_of (take i vs))) ((get_or vs i d).0 == v)
      ∙ ap (λ (x : Bool). is_numeric a v || x) (sym (or_end (list_any (λ w. w == v) (numbers_of (take i vs))) ((get_or vs i d).0 == v)))
      ∙ ap (λ (x : Bool). is_numeric a v || x) (sym (any_append (λ w. w == v) (numbers_of (take i vs)) ((get_or vs i d).0 ∷ [])))
      ∙ ap (λ (ns : List ℕ). is_numeric a v || list_any (λ w. w == v) ns) (sym (ap numbers_of next ∙ numbers_behind (take i vs) (get_or vs i d ∷ []))) where
        or_end : (x y : Bool) → (x || (y || false)) ≡ (x || y)
        or_end true y = refl
        or_end false true = refl
        or_end false false = refl

  pub each_told : (fixed before after : List VarId) → fixed ≡ before ++ take i vs → after ≡ fixed ++ get_or vs i d ∷ [] → after ≡ before ++ take (i + 1) vs
  each_told fixed before after e f =
      f ∙ ap (λ xs. xs ++ get_or vs i d ∷ []) e ∙ Rattle.std.proofs.Common.append_assoc before (take i vs) (get_or vs i d ∷ []) ∙ ap (λ xs. before ++ xs) (sym next)

-- ---- the variables of terms

module _ (images terms : List HeapTerm) (told : List ℕ) (i d : ℕ) (at_place : i < length told) (vs : List VarId)
    (these : numbers_of vs ≡ variables (at terms (get_or told i d))) where
  abbrev term : ℕ
  term = get_or told i d

  abbrev stands : ℕ → ℕ → Bool
  stands v id = list_any (λ w. w == v) (variables (at terms id))

  pub all_numeric : (a b c : Attributes) → ((v : ℕ) → is_numeric b v ≡ (is_numeric a v || list_any (stands v) (take i told)))
      → ((v : ℕ) → is_numeric c v ≡ (is_numeric b v || list_any (λ w. w == v) (numbers_of vs)))
      → (v : ℕ) → is_numeric c v ≡ (is_numeric a v || list_any (stands v) (take (i + 1) told))
  all_numeric a b c f g v =
      g v ∙ ap₂ (λ (x : Bool) (ns : List ℕ). x || list_any (λ w. w == v) ns) (f v) these
      ∙ or_assoc (is_numeric a v) (list_any (stands v) (take i told)) (stands v term)
      ∙ ap (λ (x : Bool). is_numeric a v || x) (sym (or_none (list_any (stands v) (take i told)) (stands v term)))
      ∙ ap (λ (x : Bool). is_numeric a v || x) (sym (any_append (stands v) (take i told) (term ∷ [])))
      ∙ ap (λ (ids : List ℕ). is_numeric a v || list_any (stands v) ids) (sym (take_more told i d at_place))

  pub all_unbound : All (λ id. All (IsUnbound images) (variables (at terms id))) (take i told) → All (λ (v : VarId). IsUnbound images v.0) vs
      → All (λ id. All (IsUnbound images) (variables (at terms id))) (take (i + 1) told)
  all_unbound h f = All-more (λ id. All (IsUnbound images) (variables (at terms id))) told i d at_place h
      (subst (All (IsUnbound images)) these (All-map (IsUnbound images) (λ (v : VarId). v.0) vs f))

  pub all_told : (fixed after : List VarId) → after ≡ fixed ++ vs → All (λ id. All (Contains (numbers_of fixed)) (variables (at terms id))) (take i told)
      → All (λ id. All (Contains (numbers_of after)) (variables (at terms id))) (take (i + 1) told)
  all_told fixed after e h = All-more (λ id. All (Contains (numbers_of after)) (variables (at terms id))) told i d at_place
      (All-weaker (λ id. All (Contains (numbers_of fixed)) (variables (at terms id))) (λ id. All (Contains (numbers_of after)) (variables (at terms id)))
      (λ id m. All-weaker (Contains (numbers_of fixed)) (Contains (numbers_of after)) still (variables (at terms id)) m) (take i told) h)
      (subst (All (Contains (numbers_of after))) these (All-weaker (Contains (numbers_of vs)) (Contains (numbers_of after)) new (numbers_of vs) (All-contains_itself (numbers_of vs)))) where
        sums : numbers_of after ≡ numbers_of fixed ++ numbers_of vs
        sums = ap numbers_of e ∙ numbers_behind fixed vs

        still : (x : ℕ) → Contains (numbers_of fixed) x → Contains (numbers_of after) x
        still x m = subst (λ (ns : List ℕ). Contains ns x) (sym sums) (Contains-append_left (numbers_of fixed) (numbers_of vs) x m)

        new : (x : ℕ) → Contains (numbers_of vs) x → Contains (numbers_of after) x
        new x m = subst (λ (ns : List ℕ). Contains ns x) (sym sums) (Contains-append_right (numbers_of fixed) (numbers_of vs) x m)
