-- What keeps the names of a term below a count.
use Rattle.std.proofs.Common.{ℕ, ◌<◌, ◌≤◌, ◌∙◌, List, [], ◌∷◌, length, Some, refl, sym, ap, arith, inl, inr}
use Rattle.std.specs.Prelude.{All}
use Rattle.std.proofs.lemmas.List.Elements.{All-head, All-tail}
use Rattle.std.proofs.lemmas.Option.{slice_get-get_or}
use Rattle.spec_numbers.specs.Texts.{Text}
use Rattle.spec_terms.specs.Term.{Terms, Subst, Var, Number, Name, Compound, one, more, OccursIn, apply, apply_all, terms_of, with_arguments}
use Rattle.spec_terms.specs.Names.{EachName, EachNameIn, AreDifferentBelow}
use Rattle.cq_term.specs.Meaning.{HeapTerm}
use Rattle.cq_term.specs.Names.{HasNamesBelow, HaveNamesBelow, PutsNamesBelow}
use Rattle.cq_term.specs.Texts.{AreDifferent, text_of}

module _ (m n : ℕ) (le : m ≤ n) where
  mutual
    pub names_more : (t : HeapTerm) → HasNamesBelow m t → HasNamesBelow n t
    names_more (Var v) h = tt
    names_more (Number q) h = tt
    names_more (Name a) h = omega arith
    names_more (Compound f ts) h = (omega (arith, h.0), all_names_more ts h.1)

    all_names_more : (ts : Terms ℕ) → HaveNamesBelow m ts → HaveNamesBelow n ts
    all_names_more (one t) h = names_more t h
    all_names_more (more t ts) h = (names_more t h.0, all_names_more ts h.1)

module _ (n : ℕ) (s : Subst ℕ) where
  mutual
    pub names_substituted : (t : HeapTerm) → HasNamesBelow n t → PutsNamesBelow n s t → HasNamesBelow n (apply s t)
    names_substituted (Var v) h k = k v refl
    names_substituted (Number q) h k = tt
    names_substituted (Name a) h k = h
    names_substituted (Compound f ts) h k = (h.0, all_names_substituted ts h.1 k)

    all_names_substituted : (ts : Terms ℕ) → HaveNamesBelow n ts → ((v : ℕ) → OccursIn v ts → HasNamesBelow n (s v)) → HaveNamesBelow n (apply_all s ts)
    all_names_substituted (one t) h k = names_substituted t h k
    all_names_substituted (more t ts) h k = (names_substituted t h.0 (λ v o. k v (inl o)), all_names_substituted ts h.1 (λ v o. k v (inr o)))

names_terms_of : (n : ℕ) (t : HeapTerm) (ts : List HeapTerm) → HasNamesBelow n t → All (HasNamesBelow n) ts → HaveNamesBelow n (terms_of t ts)
names_terms_of n t [] h all = h
names_terms_of n t (u ∷ us) h all = (h, names_terms_of n u us (All-head (HasNamesBelow n) u us all) (All-tail (HasNamesBelow n) u us all))

pub names_over : (n f : ℕ) (ts : List HeapTerm) → f < n → All (HasNamesBelow n) ts → HasNamesBelow n (with_arguments f ts)
names_over n f [] lt all = lt
names_over n f (t ∷ ts) lt all = (lt, names_terms_of n t ts (All-head (HasNamesBelow n) t ts all) (All-tail (HasNamesBelow n) t ts all))

-- ---- names with texts

module _ (n : ℕ) where
  mutual
    pub each_below : (t : HeapTerm) → HasNamesBelow n t → EachName (λ a. a < n) t
    each_below (Var v) h = tt
    each_below (Number q) h = tt
    each_below (Name a) h = h
    each_below (Compound f ts) h = (h.0, each_in_below ts h.1)

    each_in_below : (ts : Terms ℕ) → HaveNamesBelow n ts → EachNameIn (λ a. a < n) ts
    each_in_below (one t) h = each_below t h
    each_in_below (more t ts) h = (each_below t h.0, each_in_below ts h.1)

pub different_below : (texts : List Text) → AreDifferent texts → AreDifferentBelow (length texts) (text_of texts)
different_below texts different i j in_i in_j same =
    different i j (text_of texts i) (slice_get-get_or texts i [] in_i) (slice_get-get_or texts j [] in_j ∙ ap (λ t. Some t) (sym same))
