-- The trees of what is built.
use Rattle.std.proofs.Common.{◌≡◌, ℕ, ◌<◌, List, [], ◌∷◌, ◌++◌, map, length, codes, refl, sym, ap, subst, ◌∙◌}
use Rattle.std.specs.Prelude.{All, reverse, Some, slice_get, pos}
use Rattle.std.proofs.lemmas.List.{reverse-append, map-append}
use Rattle.spec_numbers.specs.Rational.{int_ℚ}
use Rattle.spec_terms.specs.Term.{Name, Number, Terms, Compound, one, more, terms_of, with_arguments, named, named_all}
use Rattle.spec_syntax.specs.Trees.{Tree, natural, unary, binary, nil, cell, list_tree}
use Rattle.spec_syntax.specs.Machine.{with_arguments_before, with_elements_before}
use Rattle.spec_numbers.specs.Texts.{Text}
use Rattle.cq_term.specs.Texts.{text_of}
use Rattle.cq_term.specs.Meaning.{HeapTerm, at}
use Rattle.spec_numbers.specs.Prefixes.{IsPrefix}
use Rattle.cq_term.specs.Trees.{tree}
use Rattle.cq_term.proofs.Named.{text_is}
use Rattle.cq_read.specs.Views.{trees}
use Rattle.cq_read.proofs.Kept.{all_front, tree_kept, trees_kept, trees_push}

module _ (texts : List Text) (ts : List HeapTerm) where
  named_terms : (t : HeapTerm) (us : List HeapTerm) → named_all (text_of texts) (terms_of t us) ≡ terms_of (named (text_of texts) t) (map (named (text_of texts)) us)
  named_terms t [] = refl
  named_terms t (u ∷ us) = ap (more (named (text_of texts) t)) (named_terms u us)

  before_push : (before : List Tree) (t : Tree) (us : Terms Text) → with_arguments_before (before ++ t ∷ []) us ≡ more t (with_arguments_before before us)
  before_push [] t us = refl
  before_push (b ∷ before) t us = before_push before t (more b us)

  -- arguments in order
  in_order : List Tree → Tree → Terms Text
  in_order [] a = one a
  in_order (t ∷ trees) a = more t (in_order trees a)

  reversed : (before : List Tree) (a : Tree) → with_arguments_before (reverse before) (one a) ≡ in_order before a
  unfolding in_order
  reversed [] a = refl
  reversed (t ∷ before) a = ap (λ bs. with_arguments_before bs (one a)) (reverse-append (t ∷ []) before) ∙ before_push (reverse before) t (one a) ∙ ap (more t) (reversed before a)

  last_one : (t : Tree) (ids : List ℕ) (id : ℕ) → terms_of t (map (named (text_of texts)) (map (at ts) (ids ++ id ∷ []))) ≡ more t (in_order (map (tree texts ts) ids) (tree texts ts id))
  unfolding in_order
  last_one t [] id = refl
  last_one t (i ∷ ids) id = ap (more t) (last_one (tree texts ts i) ids id)

  ordered : (f : ℕ) (ids : List ℕ) (id : ℕ) → named (text_of texts) (with_arguments f (map (at ts) (ids ++ id ∷ []))) ≡ Compound (text_of texts f) (in_order (map (tree texts ts) ids) (tree texts ts id))
  unfolding in_order
  ordered f [] id = refl
  ordered f (i ∷ ids) id = ap (Compound (text_of texts f)) (named_terms (at ts i) (map (at ts) (ids ++ id ∷ [])) ∙ last_one (tree texts ts i) ids id)

  -- a compound over terms that were read one after another
  pub compound_tree : (f : ℕ) (ids : List ℕ) (id : ℕ) →
      named (text_of texts) (with_arguments f (map (at ts) (ids ++ id ∷ []))) ≡ Compound (text_of texts f) (with_arguments_before (trees texts ts ids) (one (tree texts ts id)))
  compound_tree f ids id = ordered f ids id ∙ ap (Compound (text_of texts f)) (sym (reversed (map (tree texts ts) ids) (tree texts ts id)))

-- ---- what the machine builds

module _ (texts : List Text) (ts us : List HeapTerm) where
  pub argument_closed : (f : ℕ) (before new : List ℕ) (id whole : ℕ) → new ≡ before ++ id ∷ [] → at us whole ≡ with_arguments f (map (at ts) new) →
      tree texts us whole ≡ Compound (text_of texts f) (with_arguments_before (trees texts ts before) (one (tree texts ts id)))
  argument_closed f before new id whole longer built =
      ap (named (text_of texts)) (built ∙ ap (λ xs. with_arguments f (map (at ts) xs)) longer) ∙ compound_tree texts ts f before id

  pub name_tree : (f id : ℕ) (text : Text) → at us id ≡ with_arguments f [] → slice_get texts f ≡ Some text → tree texts us id ≡ Name text
  name_tree f id text built e = ap (named (text_of texts)) built ∙ ap Name (text_is texts f text e)

  pub cell_tree : (dot a b whole : ℕ) → at us whole ≡ with_arguments dot (at ts a ∷ at ts b ∷ []) → slice_get texts dot ≡ Some (codes ".") → tree texts us whole ≡ cell (tree texts ts a) (tree texts ts b)
  cell_tree dot a b whole built e = ap (named (text_of texts)) built ∙ ap (λ f. binary f (tree texts ts a) (tree texts ts b)) (text_is texts dot (codes ".") e)

  module _ (p : IsPrefix ts us) where
    -- one more cell of a list
    pub list_more : (dot e whole new : ℕ) (left rest : List ℕ) (goal : Tree) → left ≡ rest ++ e ∷ [] → All (λ i. i < length ts) left → at us new ≡ with_arguments dot (at ts e ∷ at ts whole ∷ []) →
        slice_get texts dot ≡ Some (codes ".") → with_elements_before (trees texts ts left) (tree texts ts whole) ≡ goal → with_elements_before (trees texts us rest) (tree texts us new) ≡ goal
    list_more dot e whole new left rest goal split live built known same =
        let front = all_front (λ i. i < length ts) rest (e ∷ []) (subst (All (λ i. i < length ts)) split live) in
        (λ i. with_elements_before (trees_kept texts ts us p rest front i) (cell_tree dot e whole new built known i))
        ∙ ap (λ xs. with_elements_before xs (tree texts ts whole)) (sym (ap (trees texts ts) split ∙ trees_push texts ts rest e)) ∙ same

    -- the last element of a list
    pub elements_closed : (vs : List HeapTerm) (before new : List ℕ) (id end whole : ℕ) → new ≡ before ++ id ∷ [] → All (λ i. i < length ts) before → id < length ts →
        tree texts vs whole ≡ with_elements_before (trees texts us new) (tree texts us end) → tree texts us end ≡ nil →
        tree texts vs whole ≡ with_elements_before (trees texts ts before) (cell (tree texts ts id) nil)
    elements_closed vs before new id end whole longer live last built closed =
        built ∙ ap (λ t. with_elements_before (trees texts us new) t) closed
        ∙ ap (λ xs. with_elements_before xs nil) (ap (trees texts us) longer ∙ trees_push texts us before id
        ∙ (λ i. tree_kept texts ts us p id last i ∷ trees_kept texts ts us p before live i))

pub is_known : (texts : List Text) (name : ℕ) (text : Text) → slice_get texts name ≡ Some text → slice_get texts name ≡ Some (text_of texts name)
is_known texts name text e = e ∙ ap Some (sym (text_is texts name text e))

module _ (texts : List Text) (ts us : List HeapTerm) where
  pub binary_tree : (f a b whole : ℕ) → at us whole ≡ with_arguments f (at ts a ∷ at ts b ∷ []) → tree texts us whole ≡ binary (text_of texts f) (tree texts ts a) (tree texts ts b)
  binary_tree f a b whole built = ap (named (text_of texts)) built

  pub unary_tree : (f a whole : ℕ) → at us whole ≡ with_arguments f (at ts a ∷ []) → tree texts us whole ≡ unary (text_of texts f) (tree texts ts a)
  unary_tree f a whole built = ap (named (text_of texts)) built

  pub curly_tree : (f a whole : ℕ) (text : Text) → at us whole ≡ with_arguments f (at ts a ∷ []) → slice_get texts f ≡ Some text → tree texts us whole ≡ unary text (tree texts ts a)
  curly_tree f a whole text built e = unary_tree f a whole built ∙ ap (λ g. unary g (tree texts ts a)) (text_is texts f text e)

-- ---- lists of codes

elements_push : (xs : List Tree) (x t : Tree) → with_elements_before (xs ++ x ∷ []) t ≡ cell x (with_elements_before xs t)
elements_push [] x t = refl
elements_push (y ∷ xs) x t = elements_push xs x (cell y t)

pub listed : (xs : List Tree) → with_elements_before (reverse xs) nil ≡ list_tree xs
listed [] = refl
listed (x ∷ xs) = ap (λ ys. with_elements_before ys nil) (reverse-append (x ∷ []) xs) ∙ elements_push (reverse xs) x nil ∙ ap (cell x) (listed xs)

pub code_more : (texts : List Text) (ts ns us : List HeapTerm) (p : IsPrefix ts ns) (dot element whole new c : ℕ) (left rest : List ℕ) (goal : Tree) → left ≡ rest ++ c ∷ [] → whole < length ts →
    at us new ≡ with_arguments dot (at ns element ∷ at ns whole ∷ []) → slice_get texts dot ≡ Some (codes ".") → at ns element ≡ Number (int_ℚ (pos c)) →
    with_elements_before (reverse (map natural left)) (tree texts ts whole) ≡ goal → with_elements_before (reverse (map natural rest)) (tree texts us new) ≡ goal
code_more texts ts ns us p dot element whole new c left rest goal split live built known number same =
    ap (with_elements_before (reverse (map natural rest)))
    (cell_tree texts ns us dot element whole new built known ∙ (λ i. cell (ap (named (text_of texts)) number i) (tree_kept texts ts ns p whole live i)))
    ∙ ap (λ xs. with_elements_before xs (tree texts ts whole)) (sym (ap (λ l. reverse (map natural l)) split ∙ ap reverse (map-append natural rest (c ∷ [])) ∙ reverse-append (map natural rest) (natural c ∷ [])))
    ∙ same
