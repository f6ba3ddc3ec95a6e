-- What terms show of themselves, as trees.
use Rattle.std.proofs.Common.{◌≡◌, ℕ, zero, suc, ◌-◌, ◌<◌, List, [], ◌∷◌, map, length, Some, None, refl, ap, sym, ◌∙◌, arith}
use Rattle.std.specs.Prelude.{slice_get}
use Rattle.std.specs.Option.{option_map}
use Rattle.std.proofs.lemmas.Option.{slice_get-map}
use Rattle.std.proofs.lemmas.List.{length-map}
use Rattle.spec_numbers.specs.Texts.{Text}
use Rattle.spec_terms.specs.Term.{Terms, Var, Number, Name, Compound, one, more, named, named_all, list_of}
use Rattle.spec_syntax.specs.Trees.{Tree, list_tree}
use Rattle.spec_builtins.specs.Alternatives.{Offers, ◌≐◌, one_way}
use Rattle.spec_builtins.specs.Terms.{univ_row, arguments, argument_at, is_argument}
use Rattle.cq_term.specs.Texts.{text_of}
use Rattle.cq_term.specs.Meaning.{HeapTerm, at}
use Rattle.cq_term.specs.Shown.{view_of}
use Rattle.cq_term.specs.Shown as shown
use Rattle.cq_term.specs.declared.view.View.TheVariants as view
use Rattle.cq_term.specs.Trees.{tree, trees}
use Rattle.cq_built.proofs.Trees.{trees_map}

module _ (g : ℕ → Text) where
  list_of-named : (ts : Terms ℕ) → list_of (named_all g ts) ≡ map (named g) (list_of ts)
  list_of-named (one t) = refl
  list_of-named (more t ts) = ap (λ xs. named g t ∷ xs) (list_of-named ts)

  pub arguments-named : (t : HeapTerm) → arguments (named g t) ≡ map (named g) (shown.arguments t)
  arguments-named (Var v) = refl
  arguments-named (Number q) = refl
  arguments-named (Name a) = refl
  arguments-named (Compound f ts) = list_of-named ts

  pub named-name : (t : HeapTerm) (a : ℕ) → view_of t ≡ view.Name a → named g t ≡ Name (g a)
  named-name (Var v) a e = cc
  named-name (Number q) a e = cc
  named-name (Name b) a e = (let h : b ≡ a = cc in ap (λ x. Name (g x)) h)
  named-name (Compound f ts) a e = cc

  pub univ-compound : (t : HeapTerm) (f n : ℕ) (l : Tree) → view_of t ≡ view.Compound f n → univ_row (named g t) l ≡ one_way ((l ≐ list_tree (Name (g f) ∷ map (named g) (shown.arguments t))) ∷ [])
  univ-compound (Var v) f n l e = cc
  univ-compound (Number q) f n l e = cc
  univ-compound (Name a) f n l e = cc
  univ-compound (Compound k ts) f n l e = (let h : k ≡ f = cc in λ i. one_way ((l ≐ list_tree (Name (g (h i)) ∷ list_of-named ts i)) ∷ []))

-- ---- arguments by their places
module _ (texts : List Text) (ts : List HeapTerm) (term argument : ℕ) (ids : List ℕ) (same : map (at ts) ids ≡ shown.arguments (at ts term)) where
  arguments_are : arguments (tree texts ts term) ≡ trees texts ts ids
  arguments_are = arguments-named (text_of texts) (at ts term) ∙ ap (map (named (text_of texts))) (sym same) ∙ trees_map texts ts ids

  pub argument_found : (number place id : ℕ) → number ≡ suc place → slice_get ids place ≡ Some id → is_argument (argument_at number (arguments (tree texts ts term))) (tree texts ts argument) ≡ one_way ((tree texts ts argument ≐ tree texts ts id) ∷ [])
  argument_found number place id n e =
      (λ i. is_argument (argument_at (n i) (arguments_are i)) (tree texts ts argument))
      ∙ ap (λ o. is_argument o (tree texts ts argument)) (slice_get-map (tree texts ts) ids place ∙ ap (option_map (tree texts ts)) e)

  past : (n : ℕ) (xs : List Tree) → length xs < n → argument_at n xs ≡ None
  past zero xs lt = refl
  past (suc n) [] lt = refl
  past (suc zero) (x ∷ xs) lt = absurd (omega arith)
  past (suc (suc n)) (x ∷ xs) lt = past (suc n) xs (omega arith)

  pub no_argument : (number : ℕ) → length ids < number → is_argument (argument_at number (arguments (tree texts ts term))) (tree texts ts argument) ≡ Offers []
  no_argument number lt =
      ap (λ xs. is_argument (argument_at number xs) (tree texts ts argument)) arguments_are
      ∙ ap (λ o. is_argument o (tree texts ts argument)) (past number (trees texts ts ids) (omega (arith, lt, length-map ids (tree texts ts))))

pub not_zero : (n : ℕ) → (n ≡ 0 → ⊥) → n ≡ suc (n - 1)
not_zero zero h = absurd (h refl)
not_zero (suc n) h = omega arith
