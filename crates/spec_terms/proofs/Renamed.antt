-- A unifier of terms is one of the terms with other names.
use Rattle.std.proofs.Common.{◌≡◌, ℕ, ◌<◌, List, [], ◌∷◌, refl, sym, ap, ap₂, ◌∙◌}
use Rattle.spec_terms.specs.Term.{Term, Terms, Subst, Var, Number, Name, Compound, one, more, apply, named, named_all}
use Rattle.spec_terms.specs.Unifier.{Equation, Equates, IsUnifier, HasNoUnifier}
use Rattle.spec_terms.proofs.Substitution.{named-apply}
use Rattle.spec_numbers.specs.Texts.{Text}
use Rattle.spec_terms.specs.Names.{EachName, EachNameIn, EachNameInPairs, AreDifferentBelow, named_pairs, named_images}
use Rattle.spec_terms.proofs.Numbering.{number, number_same, number_back}

-- ---- names that lead back

-- different names become different ones
abbrev IsInjective : {A B : Type 0} → (A → B) → Type 0
IsInjective {A} g = (x y : A) → g x ≡ g y → x ≡ y

-- g leads back from what f makes of a name
abbrev LeadsBack : {A B : Type 0} → (A → B) → (B → A) → A → Type 0
LeadsBack f g a = g (f a) ≡ a

-- ---- the same pairs under other names

-- terms that no substitution makes equal under other names, none makes equal
equates_by : {A B : Type 0} (f : A → B) (s : Subst A) (es : List (Equation A)) → Equates s es
    → Equates (named_images f s) (named_pairs f es)
equates_by f s [] h = tt
equates_by f s (e ∷ es) h =
    (sym (named-apply f s e.left) ∙ ap (named f) h.0 ∙ named-apply f s e.right, equates_by f s es h.1)

pub none_unnamed : {A B : Type 0} (f : A → B) (es : List (Equation A)) → HasNoUnifier (named_pairs f es)
    → HasNoUnifier es
none_unnamed f es h s e = h (named_images f s) (equates_by f s es e)

module _ {A B : Type 0} (g : B → A) (injective : IsInjective g) where
  mutual
    -- terms that get the same names are the same
    named_same : (t u : Term B) → named g t ≡ named g u → t ≡ u
    named_same (Var v) (Var w) e = let k : v ≡ w = cc in ap (λ x. Var x) k
    named_same (Number p) (Number q) e = let k : p ≡ q = cc in ap (λ x. Number x) k
    named_same (Name a) (Name b) e = let k : g a ≡ g b = cc in ap (λ x. Name x) (injective a b k)
    named_same (Compound a ts) (Compound b us) e =
        let k : g a ≡ g b = cc in
        let l : named_all g ts ≡ named_all g us = cc in
        ap₂ (λ x y. Compound x y) (injective a b k) (all_named_same ts us l)
    named_same (Var v) (Number q) e = cc
    named_same (Var v) (Name b) e = cc
    named_same (Var v) (Compound b us) e = cc
    named_same (Number p) (Var w) e = cc
    named_same (Number p) (Name b) e = cc
    named_same (Number p) (Compound b us) e = cc
    named_same (Name a) (Var w) e = cc
    named_same (Name a) (Number q) e = cc
    named_same (Name a) (Compound b us) e = cc
    named_same (Compound a ts) (Var w) e = cc
    named_same (Compound a ts) (Number q) e = cc
    named_same (Compound a ts) (Name b) e = cc

    all_named_same : (ts us : Terms B) → named_all g ts ≡ named_all g us → ts ≡ us
    all_named_same (one t) (one u) e = let k : named g t ≡ named g u = cc in ap (λ x. one x) (named_same t u k)
    all_named_same (more t ts) (more u us) e =
        let k : named g t ≡ named g u = cc in
        let l : named_all g ts ≡ named_all g us = cc in
        ap₂ (λ x y. more x y) (named_same t u k) (all_named_same ts us l)
    all_named_same (one t) (more u us) e = cc
    all_named_same (more t ts) (one u) e = cc

  module _ (f : A → B) where
    mutual
      leads_back : (t : Term A) → EachName (LeadsBack f g) t → named g (named f t) ≡ t
      leads_back (Var v) h = refl
      leads_back (Number q) h = refl
      leads_back (Name a) h = ap (λ x. Name x) h
      leads_back (Compound a ts) h = ap₂ (λ x y. Compound x y) h.0 (all_lead_back ts h.1)

      all_lead_back : (ts : Terms A) → EachNameIn (LeadsBack f g) ts → named_all g (named_all f ts) ≡ ts
      all_lead_back (one t) h = ap (λ x. one x) (leads_back t h)
      all_lead_back (more t ts) h = ap₂ (λ x y. more x y) (leads_back t h.0) (all_lead_back ts h.1)

    back : (r : Subst B) (t : Term A) → EachName (LeadsBack f g) t
        → apply (named_images g r) t ≡ named g (apply r (named f t))
    back r t e = ap (apply (named_images g r)) (sym (leads_back t e)) ∙ sym (named-apply g r (named f t))

    equates_back : (r : Subst B) (es : List (Equation A)) → EachNameInPairs (LeadsBack f g) es
        → Equates r (named_pairs f es) → Equates (named_images g r) es
    equates_back r [] k h = tt
    equates_back r (e ∷ es) k h = (back r e.left k.0 ∙ ap (named g) h.0 ∙ sym (back r e.right k.1), equates_back r es k.2 h.1)

    pub unifier_named : (es : List (Equation A)) (s : Subst A) → EachNameInPairs (LeadsBack f g) es
        → ((v : ℕ) → EachName (LeadsBack f g) (s v)) → IsUnifier es s
        → IsUnifier (named_pairs f es) (named_images f s)
    unifier_named es s k l h = record {
      unifies = equates_by f s es h.unifies;
      general = λ r e v. named_same (apply r (named f (s v))) (r v) (sym (back r (s v) (l v)) ∙ h.general (named_images g r) (equates_back r es k e) v);
      oldest = λ v w e. h.oldest v w (sym (leads_back (s v) (l v)) ∙ ap (named g) e);
    }

    pub none_named : (es : List (Equation A)) → EachNameInPairs (LeadsBack f g) es → HasNoUnifier es
        → HasNoUnifier (named_pairs f es)
    none_named es k h r e = h (named_images g r) (equates_back r es k e)

-- ---- the numbers of a table

mutual
  -- a property of names that follows from another
  each_name : {A : Type 0} (P Q : A → Type 0) → ((a : A) → P a → Q a) → (t : Term A) → EachName P t → EachName Q t
  each_name P Q k (Var v) h = tt
  each_name P Q k (Number q) h = tt
  each_name P Q k (Name a) h = k a h
  each_name P Q k (Compound a ts) h = (k a h.0, each_name_in P Q k ts h.1)

  each_name_in : {A : Type 0} (P Q : A → Type 0) → ((a : A) → P a → Q a) → (ts : Terms A) → EachNameIn P ts
      → EachNameIn Q ts
  each_name_in P Q k (one t) h = each_name P Q k t h
  each_name_in P Q k (more t ts) h = (each_name P Q k t h.0, each_name_in P Q k ts h.1)

module _ (f : ℕ → Text) (n : ℕ) (different : AreDifferentBelow n f) where
  abbrev back_to : Text → ℕ
  back_to = number f n different

  each_back : (t : Term ℕ) → EachName (λ a. a < n) t → EachName (LeadsBack f back_to) t
  each_back t h = each_name (λ a. a < n) (LeadsBack f back_to) (number_back f n different) t h

  pairs_back : (es : List (Equation ℕ)) → EachNameInPairs (λ a. a < n) es → EachNameInPairs (LeadsBack f back_to) es
  pairs_back [] h = tt
  pairs_back (e ∷ es) h = (each_back e.left h.0, each_back e.right h.1, pairs_back es h.2)

  pub same_terms : (t u : Term ℕ) → EachName (λ a. a < n) t → EachName (λ a. a < n) u → named f t ≡ named f u
      → t ≡ u
  same_terms t u h k e =
      sym (leads_back back_to (number_same f n different) f t (each_back t h)) ∙ ap (named back_to) e
      ∙ leads_back back_to (number_same f n different) f u (each_back u k)

  pub unifier_by_texts : (es : List (Equation ℕ)) (s : Subst ℕ) → EachNameInPairs (λ a. a < n) es
      → ((v : ℕ) → EachName (λ a. a < n) (s v))
      → IsUnifier es s → IsUnifier (named_pairs f es) (named_images f s)
  unifier_by_texts es s h k u =
      unifier_named back_to (number_same f n different) f es s (pairs_back es h) (λ v. each_back (s v) (k v)) u

  pub none_by_texts : (es : List (Equation ℕ)) → EachNameInPairs (λ a. a < n) es → HasNoUnifier es
      → HasNoUnifier (named_pairs f es)
  none_by_texts es h k = none_named back_to (number_same f n different) f es (pairs_back es h) k
