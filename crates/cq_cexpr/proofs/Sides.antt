-- The two sides of a relation: what the whole is, and its operations.
use Rattle.std.proofs.Common.{◌≡◌, ◌≢◌, ℕ, true, false, List, [], ◌++◌, Option, Some, None, refl, ap, ap₂, sym, ◌∙◌, subst, append_assoc}
use Rattle.spec_linear.specs.Form.{Linear}
use Rattle.spec_simplex.specs.Overflow.{Operands}
use Rattle.spec_numbers.specs.Texts.{Text}
use Rattle.spec_terms.specs.Term.{Var, Number, Name, Compound, one, more, named}
use Rattle.spec_syntax.specs.Trees.{Tree}
use Rattle.spec_branch.specs.Expressions.{form_of}
use Rattle.spec_branch.specs.Relations.{Lin, Is, Waits, False, RelationName, relation_name, related_forms, lin_expression, lin}
use Rattle.spec_branch.specs.Alike.{no_values}
use Rattle.spec_transcript.specs.Operands.{both, expression_operands, relation_operands}
use Rattle.cq_term.specs.Texts.{text_of}
use Rattle.cq_frac.specs.declared.Operation.TheVariants.{Difference}
use Rattle.cq_frac.specs.declared.Pair.{Pair}
use Rattle.cq_term.specs.Trees.{tree}
use Rattle.cq_term.specs.Meaning.{HeapTerm, at}
use Rattle.cq_term.specs.Shown.{view_of}
use Rattle.cq_term.specs.declared.view.View.TheVariants as view
use Rattle.cq_cexpr.specs.Found.{is_false}
use Rattle.cq_cexpr.specs.Overflows.{Within, ComesFrom}
use Rattle.cq_cexpr.specs.Work.{form_in, read_at}
use Rattle.cq_cexpr.proofs.Overflowing.{within_left, within_right, within_trans, comes_within}
use Rattle.cq_cexpr.proofs.Expressed.{both_sides, relation_is, FormOr, as_defined, is_none, form_or}
use Rattle.cq_cexpr.proofs.Steps.{nothing_within}

-- ---- what the whole is

false_is : (r : Lin Linear) → is_false r ≡ true → r ≡ False
false_is (Is f) e = cc
false_is Waits e = cc
false_is False e = refl

right_is_false : (n : Option RelationName) (l : Lin Linear) → both_sides n l False ≡ False
right_is_false n (Is f) = refl
right_is_false n Waits = refl
right_is_false n False = refl

neither_false : (n : Option RelationName) (l r : Lin Linear) → is_false l ≡ false → is_false r ≡ false → related_forms n (form_in l) (form_in r) ≡ both_sides n l r
neither_false n (Is f) (Is g) d e = refl
neither_false n (Is f) Waits d e = refl
neither_false n (Is f) False d e = cc
neither_false n Waits (Is g) d e = refl
neither_false n Waits Waits d e = refl
neither_false n Waits False d e = cc
neither_false n False r d e = cc

-- ---- operations

both_right : (o : Option Linear) → both Difference o None ≡ []
both_right None = refl
both_right (Some f) = refl

module _ (r : Text) (a b : Tree) where
  abbrev sides : Option Linear → Option Linear → List Operands
  sides o p = both Difference o p ++ both Difference p o

  abbrev front : List Operands
  front = expression_operands no_values a ++ expression_operands no_values b

  abbrev whole : Tree
  whole = Compound r (more a (one b))

  all_sides : relation_operands no_values whole ≡ front ++ sides (form_of no_values a) (form_of no_values b)
  all_sides = append_assoc front (both Difference (form_of no_values a) (form_of no_values b)) (both Difference (form_of no_values b) (form_of no_values a))

  front_within : Within front (relation_operands no_values whole)
  front_within = subst (Within front) (sym all_sides) (within_left front (sides (form_of no_values a) (form_of no_values b)))

  pub left_within : Within (expression_operands no_values a) (relation_operands no_values whole)
  left_within = within_trans _ front _ (within_left (expression_operands no_values a) (expression_operands no_values b)) front_within

  pub right_within : Within (expression_operands no_values b) (relation_operands no_values whole)
  right_within = within_trans _ front _ (within_right (expression_operands no_values a) (expression_operands no_values b)) front_within

  defined_within : Within (sides (form_of no_values a) (form_of no_values b)) (relation_operands no_values whole)
  defined_within = subst (Within (sides (form_of no_values a) (form_of no_values b))) (sym all_sides) (within_right front (sides (form_of no_values a) (form_of no_values b)))

  read_within : FormOr no_values a → FormOr no_values b → Within (sides (form_in (lin_expression no_values a)) (form_in (lin_expression no_values b))) (relation_operands no_values whole)
  read_within (as_defined d) (as_defined e) = subst (λ s. Within s (relation_operands no_values whole)) (sym (ap₂ sides d e)) defined_within
  read_within (is_none d) k =
      nothing_within _ _ (ap (λ o. sides o (form_in (lin_expression no_values b))) d ∙ both_right (form_in (lin_expression no_values b)))
  read_within (as_defined d) (is_none e) =
      nothing_within _ _ (ap (sides (form_in (lin_expression no_values a))) e ∙ ap (λ (s : List Operands). s ++ []) (both_right (form_in (lin_expression no_values a))))

  pub sides_within : Within (sides (form_in (lin_expression no_values a)) (form_in (lin_expression no_values b))) (relation_operands no_values whole)
  sides_within = read_within (form_or no_values a) (form_or no_values b)

-- ---- a term of the heap
module _ (texts : List Text) (ts : List HeapTerm) (id left right f : ℕ) (e : at ts id ≡ Compound f (more (at ts left) (one (at ts right)))) where
  is_relation : lin no_values (tree texts ts id) ≡ both_sides (relation_name (text_of texts f)) (read_at texts ts left) (read_at texts ts right)
  is_relation = ap (λ u. lin no_values (named (text_of texts) u)) e ∙ relation_is no_values (text_of texts f) (tree texts ts left) (tree texts ts right)

  pub left_false : is_false (read_at texts ts left) ≡ true → False ≡ lin no_values (tree texts ts id)
  left_false h =
      sym (is_relation ∙ ap (λ l. both_sides (relation_name (text_of texts f)) l (read_at texts ts right)) (false_is (read_at texts ts left) h))

  pub right_false : is_false (read_at texts ts right) ≡ true → False ≡ lin no_values (tree texts ts id)
  right_false h =
      sym (is_relation ∙ ap (both_sides (relation_name (text_of texts f)) (read_at texts ts left)) (false_is (read_at texts ts right) h)
      ∙ right_is_false (relation_name (text_of texts f)) (read_at texts ts left))

  pub neither : (n : Option RelationName) (o p : Option Linear) → n ≡ relation_name (text_of texts f) → o ≡ form_in (read_at texts ts left) → p ≡ form_in (read_at texts ts right)
      → is_false (read_at texts ts left) ≡ false → is_false (read_at texts ts right) ≡ false → related_forms n o p ≡ lin no_values (tree texts ts id)
  neither n o p d u v h k =
      ap₂ (related_forms n) u v
      ∙ ap (λ m. related_forms m (form_in (read_at texts ts left)) (form_in (read_at texts ts right))) d
      ∙ neither_false (relation_name (text_of texts f)) (read_at texts ts left) (read_at texts ts right) h k ∙ sym is_relation

  same_operands : relation_operands no_values (tree texts ts id) ≡ relation_operands no_values (Compound (text_of texts f) (more (tree texts ts left) (one (tree texts ts right))))
  same_operands = ap (λ u. relation_operands no_values (named (text_of texts) u)) e

  pub left_comes : (pair : Pair) → ComesFrom (expression_operands no_values (tree texts ts left)) pair → ComesFrom (relation_operands no_values (tree texts ts id)) pair
  left_comes pair c =
      subst (λ s. ComesFrom s pair) (sym same_operands)
      (comes_within _ _ pair (left_within (text_of texts f) (tree texts ts left) (tree texts ts right)) c)

  pub right_comes : (pair : Pair) → ComesFrom (expression_operands no_values (tree texts ts right)) pair → ComesFrom (relation_operands no_values (tree texts ts id)) pair
  right_comes pair c =
      subst (λ s. ComesFrom s pair) (sym same_operands)
      (comes_within _ _ pair (right_within (text_of texts f) (tree texts ts left) (tree texts ts right)) c)

  pub sides_come : (o p : Option Linear) (pair : Pair) → o ≡ form_in (read_at texts ts left) → p ≡ form_in (read_at texts ts right)
      → ComesFrom (both Difference o p ++ both Difference p o) pair → ComesFrom (relation_operands no_values (tree texts ts id)) pair
  sides_come o p pair u v c =
      subst (λ s. ComesFrom s pair) (sym same_operands)
      (comes_within _ _ pair (sides_within (text_of texts f) (tree texts ts left) (tree texts ts right))
      (subst (λ s. ComesFrom s pair) (ap₂ (λ q r. both Difference q r ++ both Difference r q) u v) c))

-- ---- terms that are no relation

pub other_terms_wait : (texts : List Text) (t : HeapTerm) (f n : ℕ) → view_of t ≡ view.Compound f n → n ≢ 2 → lin no_values (named (text_of texts) t) ≡ Waits
other_terms_wait texts (Var v) f n e h = cc
other_terms_wait texts (Number q) f n e h = cc
other_terms_wait texts (Name b) f n e h = cc
other_terms_wait texts (Compound g (one t)) f n e h = refl
other_terms_wait texts (Compound g (more t (one u))) f n e h = let d : ◌≡◌ {A = ℕ} n 2 = cc in absurd (h d)
other_terms_wait texts (Compound g (more t (more u us))) f n e h = refl
