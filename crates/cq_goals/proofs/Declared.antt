-- Predicates that are declared, one after another.
use Rattle.std.proofs.Common.{◌≡◌, ℕ, ◌+◌, ◌<◌, ◌≤◌, Bool, true, false, List, [], ◌∷◌, ◌++◌, length, drop, get_or, Some, None, refl, ap, sym, ◌∙◌, append_assoc, append-nil}
use Rattle.std.specs.Prelude.{map, bytes_eq, codes, if◌then◌else◌}
use Rattle.std.specs.List.{list_any}
use Rattle.std.proofs.lemmas.List.{at_drop_all, map-append}
use Rattle.spec_numbers.specs.Texts.{Text}
use Rattle.spec_syntax.specs.Trees.{Tree, binary}
use Rattle.spec_terms.specs.Term.{Var, Number, Name, Compound, one, more, named}
use Rattle.spec_builtins.specs.Built.{Indicator, is_atom}
use Rattle.spec_builtins.specs.Errors.{instantiation, or_error}
use Rattle.spec_builtins.specs.Clauses.{error_if, error_at_first, declared_terms, declared, declarations, declaration_error, is_joining, is_unbound_indicator, slashed, not_changeable}
use Rattle.cq_term.specs.Meaning.{HeapTerm}
use Rattle.cq_term.specs.Trees.{tree, trees}
use Rattle.cq_term.specs.declared.names.Pred.{Pred}
use Rattle.cq_built.specs.Errors.{indicator_of}
use Rattle.cq_built.specs.Sides.{is_binary}
use Rattle.cq_goals.specs.Declarations.{own_error, built_in_error, indicators_error, IsDeclared}
use Rattle.cq_goals.proofs.DeclarationsErrors.{three_errors}
use Rattle.cq_goals.proofs.Declaring.{from_here}

first_built_in : (built_in : Indicator → Bool) (ts : List Tree) → error_at_first (λ t. built_in (declared t)) (λ t. not_changeable (declared t)) ts ≡ built_in_error built_in (map declared ts)
first_built_in built_in [] = refl
first_built_in built_in (t ∷ ts) = ap (λ e. if built_in (declared t) then Some (not_changeable (declared t)) else e) (first_built_in built_in ts)

pub in_turn : (built_in : Indicator → Bool) (t : Tree) → declaration_error built_in t ≡ or_error (own_error t) (built_in_error built_in (declarations t))
in_turn built_in t =
    three_errors (error_if (list_any is_unbound_indicator (declared_terms t)) instantiation) (indicators_error (declared_terms t))
    (error_at_first (λ u. built_in (declared u)) (λ u. not_changeable (declared u)) (declared_terms t))
    ∙ ap (or_error (own_error t)) (first_built_in built_in (declared_terms t))

module _ (g : ℕ → Text) where
  pub declared_alone : (t : HeapTerm) → is_binary t ≡ false → is_atom "[]" (named g t) ≡ false → declared_terms (named g t) ≡ named g t ∷ []
  declared_alone (Var v) e n = refl
  declared_alone (Number q) e n = refl
  declared_alone (Name a) e n = ap (λ b. if b then [] else Name (g a) ∷ []) n
  declared_alone (Compound f (one t)) e n = refl
  declared_alone (Compound f (more t (one u))) e n = cc
  declared_alone (Compound f (more t (more u us))) e n = refl

  pub no_slash : (t : HeapTerm) → is_binary t ≡ false → slashed (named g t) ≡ None
  no_slash (Var v) e = refl
  no_slash (Number q) e = refl
  no_slash (Name a) e = refl
  no_slash (Compound f (one t)) e = refl
  no_slash (Compound f (more t (one u))) e = cc
  no_slash (Compound f (more t (more u us))) e = refl

pub nil_declares : (t : Tree) → is_atom "[]" t ≡ true → declared_terms t ≡ []
nil_declares (Var v) e = cc
nil_declares (Number q) e = cc
nil_declares (Name a) e = ap (λ b. if b then [] else Name a ∷ []) e
nil_declares (Compound f ts) e = cc

pub joins_nothing : (f : Text) (a b : Tree) → is_joining f ≡ false → declared_terms (binary f a b) ≡ binary f a b ∷ []
joins_nothing f a b j = ap (λ x. if x then declared_terms a ++ declared_terms b else binary f a b ∷ []) j

pub slash_is : (f : Text) (a b : Tree) (x : Bool) → bytes_eq f (codes "/") ≡ x → slashed (binary f a b) ≡ (if x then Some (a, b) else None)
slash_is f a b x e = ap (λ (y : Bool). if y then Some (a, b) else None) e

pub terms_of_joined : (f : Text) (a b : Tree) → is_joining f ≡ true → declared_terms (binary f a b) ≡ declared_terms a ++ declared_terms b
terms_of_joined f a b j = ap (λ x. if x then declared_terms a ++ declared_terms b else binary f a b ∷ []) j

-- ---- what a declaration names
module _ (t : Tree) (ts : List Tree) (e : ts ≡ declared_terms t) where
  pub unbound_declared : list_any is_unbound_indicator ts ≡ true → own_error t ≡ Some instantiation
  unbound_declared u = ap (λ b. or_error (error_if b instantiation) (indicators_error (declared_terms t))) (ap (list_any is_unbound_indicator) (sym e) ∙ u)

  pub own_is : list_any is_unbound_indicator ts ≡ false → own_error t ≡ indicators_error ts
  own_is u =
      ap (λ b. or_error (error_if b instantiation) (indicators_error (declared_terms t))) (ap (list_any is_unbound_indicator) (sym e) ∙ u)
      ∙ ap indicators_error (sym e)

-- ---- the predicates that were found, and the terms that are left
module _ (texts : List Text) (ts : List HeapTerm) (ids : List ℕ) (i : ℕ) where
  pub declared_next : (x : ℕ) → i < length ids → x ≡ get_or ids i x → (found new : List Pred) (p : Pred) → IsDeclared texts (tree texts ts x) p → new ≡ found ++ p ∷ [] →
      map (indicator_of texts) new ++ map declared (trees texts ts (drop (i + 1) ids)) ≡ map (indicator_of texts) found ++ map declared (trees texts ts (drop i ids))
  declared_next x lt is found new p h n =
      let rest = map declared (trees texts ts (drop (i + 1) ids)) in
      ap (λ xs. map (indicator_of texts) xs ++ rest) n
      ∙ ap (λ xs. xs ++ rest) (map-append (indicator_of texts) found (p ∷ []))
      ∙ append_assoc (map (indicator_of texts) found) (indicator_of texts p ∷ []) rest
      ∙ ap (λ y. map (indicator_of texts) found ++ (y ∷ rest)) (sym h.declared)
      ∙ ap (λ xs. map (indicator_of texts) found ++ xs) (sym (ap (λ xs. map declared (trees texts ts xs)) (from_here ids i x lt is)))

  module _ (le : length ids ≤ i) where
    pub declared_over : (found : List Indicator) → found ++ map declared (trees texts ts (drop i ids)) ≡ found
    declared_over found = ap (λ xs. found ++ xs) (at_drop_all (λ xs. map declared (trees texts ts xs)) ids i le) ∙ append-nil found
