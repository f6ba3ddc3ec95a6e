-- Trees of terms that were there before, and of terms that were built over them.
use Rattle.std.proofs.Common.{◌≡◌, ℕ, ◌<◌, List, [], ◌∷◌, ◌++◌, map, length, Some, refl, ap, sym, ◌∙◌}
use Rattle.std.specs.Prelude.{All, slice_get}
use Rattle.std.proofs.lemmas.Option.{slice_get_within}
use Rattle.std.proofs.lemmas.List.{get_or_push}
use Rattle.std.proofs.lemmas.List.Elements.{All-head, All-tail, All-map, All-weaker, All-get_or}
use Rattle.spec_numbers.specs.Texts.{Text}
use Rattle.spec_numbers.specs.Prefixes.{IsPrefix}
use Rattle.spec_numbers.proofs.Prefixes.{prefix_get_or}
use Rattle.spec_terms.specs.Term.{Terms, Var, Number, Name, Compound, one, more, named, named_all, terms_of, with_arguments}
use Rattle.cq_term.specs.Texts.{text_of}
use Rattle.cq_term.specs.Meaning.{HeapTerm, at, blank}
use Rattle.cq_term.specs.Names.{HasNamesBelow, HaveNamesBelow}
use Rattle.cq_term.specs.HeapValue.{HeapValue}
use Rattle.cq_term.proofs.Known.{names_over}
use Rattle.cq_term.proofs.Named.{text_is}
use Rattle.cq_term.specs.Trees.{tree, trees, KnowsTerms}
use Rattle.cq_term.specs.declared.names.Pred.{Pred}
use Rattle.spec_builtins.specs.Built.{indicator}
use Rattle.cq_built.specs.Growing.{Grows}
use Rattle.cq_built.specs.Errors.{indicator_of}

-- names below a count that two tables read alike
module _ (n : ℕ) (f g : ℕ → Text) (alike : (i : ℕ) → i < n → f i ≡ g i) where
  mutual
    pub named_alike : (t : HeapTerm) → HasNamesBelow n t → named f t ≡ named g t
    named_alike (Var v) h = refl
    named_alike (Number q) h = refl
    named_alike (Name a) h = ap (λ x. Name x) (alike a h)
    named_alike (Compound a ts) h = λ i. Compound (alike a h.0 i) (all_named_alike ts h.1 i)

    all_named_alike : (ts : Terms ℕ) → HaveNamesBelow n ts → named_all f ts ≡ named_all g ts
    all_named_alike (one t) h = ap (λ x. one x) (named_alike t h)
    all_named_alike (more t ts) h = λ i. more (named_alike t h.0 i) (all_named_alike ts h.1 i)

pub known_at : (texts : List Text) (ts : List HeapTerm) (id : ℕ) → KnowsTerms texts ts → id < length ts → HasNamesBelow (length texts) (at ts id)
known_at texts ts id all live = All-get_or (HasNamesBelow (length texts)) ts id blank live all

module _ (texts more : List Text) (ts us : List HeapTerm) (longer : IsPrefix texts more) (terms : IsPrefix ts us) (known : KnowsTerms texts ts) where
  pub tree_kept : (id : ℕ) → id < length ts → tree more us id ≡ tree texts ts id
  tree_kept id live =
      ap (named (text_of more)) (prefix_get_or ts us id blank terms live)
      ∙ named_alike (length texts) (text_of more) (text_of texts) (λ i lt. prefix_get_or texts more i [] longer lt) (at ts id) (known_at texts ts id known live)

  pub trees_kept : (ids : List ℕ) → All (λ id. id < length ts) ids → trees more us ids ≡ trees texts ts ids
  trees_kept [] all = refl
  trees_kept (id ∷ ids) all = λ i. tree_kept id (All-head (λ x. x < length ts) id ids all) i ∷ trees_kept ids (All-tail (λ x. x < length ts) id ids all) i

-- what is read of older terms and names where others were added
module _ (texts more : List Text) (old new : HeapValue) (grows : Grows texts old more new) where
  pub kept : KnowsTerms texts old.now.terms → (id : ℕ) → id < length old.now.terms → tree more new.now.terms id ≡ tree texts old.now.terms id
  kept known id live = tree_kept texts more old.now.terms new.now.terms grows.longer grows.terms known id live

  pub indicator_kept : (p : Pred) → p.name < length texts → indicator_of more p ≡ indicator_of texts p
  indicator_kept p known = ap (λ f. indicator f p.arity) (prefix_get_or texts more p.name [] grows.longer known)

-- the term that came last
pub tree_last : (texts : List Text) (ts us : List HeapTerm) (t : HeapTerm) (id : ℕ) → us ≡ ts ++ t ∷ [] → id ≡ length ts → tree texts us id ≡ named (text_of texts) t
tree_last texts ts us t id longer last = ap (named (text_of texts)) (ap (λ xs. at xs id) longer ∙ get_or_push ts t blank id (sym last))

pub name_known : (texts : List Text) (name : ℕ) (text : Text) → slice_get texts name ≡ Some text → name < length texts
name_known texts name text e = slice_get_within texts name text e

-- ---- a name over terms
named_terms_of : (f : ℕ → Text) (t : HeapTerm) (ts : List HeapTerm) → named_all f (terms_of t ts) ≡ terms_of (named f t) (map (named f) ts)
named_terms_of f t [] = refl
named_terms_of f t (u ∷ us) = ap (λ xs. more (named f t) xs) (named_terms_of f u us)

pub named-with_arguments : (f : ℕ → Text) (a : ℕ) (ts : List HeapTerm) → named f (with_arguments a ts) ≡ with_arguments (f a) (map (named f) ts)
named-with_arguments f a [] = refl
named-with_arguments f a (t ∷ ts) = ap (λ xs. Compound (f a) xs) (named_terms_of f t ts)

pub trees_map : (texts : List Text) (ts : List HeapTerm) (ids : List ℕ) → map (named (text_of texts)) (map (at ts) ids) ≡ trees texts ts ids
trees_map texts ts [] = refl
trees_map texts ts (id ∷ ids) = ap (λ xs. tree texts ts id ∷ xs) (trees_map texts ts ids)

pub tree_over : (texts : List Text) (ts us : List HeapTerm) (name id : ℕ) (text : Text) (ids : List ℕ) → us ≡ ts ++ with_arguments name (map (at ts) ids) ∷ [] → id ≡ length ts → slice_get texts name ≡ Some text →
    tree texts us id ≡ with_arguments text (trees texts ts ids)
tree_over texts ts us name id text ids longer last e =
    tree_last texts ts us (with_arguments name (map (at ts) ids)) id longer last
    ∙ named-with_arguments (text_of texts) name (map (at ts) ids)
    ∙ (λ i. with_arguments (text_is texts name text e i) (trees_map texts ts ids i))

pub over_known : (texts : List Text) (ts : List HeapTerm) (name : ℕ) (ids : List ℕ) → name < length texts → All (λ i. i < length ts) ids → KnowsTerms texts ts → HasNamesBelow (length texts) (with_arguments name (map (at ts) ids))
over_known texts ts name ids lt live all =
    names_over (length texts) name (map (at ts) ids) lt
    (All-map (HasNamesBelow (length texts)) (at ts) ids (All-weaker (λ i. i < length ts) (λ i. HasNamesBelow (length texts) (at ts i)) (λ i h. known_at texts ts i all h) ids live))
