-- Several variables that are made at once.
use Rattle.std.proofs.Common.{◌≡◌, ℕ, zero, suc, ◌+◌, List, [], ◌∷◌, ◌++◌, length, refl, sym, ap, ◌∙◌, subst, arith, append_assoc, append-nil, length-append, map}
use Rattle.std.proofs.lemmas.List.{length-map}
use Rattle.spec_terms.specs.Term.{Var}
use Rattle.cq_term.specs.Meaning.{HeapTerm, at}
use Rattle.cq_term.specs.Layout.{Contents, IsMarked, terms_at, meant, homes, with_var, with_vars}
use Rattle.cq_term.specs.Shown.{variables_from}
use Rattle.cq_term.specs.declared.lists.Cell.TheVariants as cell
use Rattle.cq_term.specs.declared.heap.Place.{Place}
use Rattle.cq_term.proofs.Cells.{meant_var, images_with_var}
use Rattle.cq_term.proofs.Notes.{length-homes}
use Rattle.cq_term.proofs.Marks.{same_contents, marked_var, saved_var}

variables_from-more : (n k : ℕ) → variables_from n (suc k) ≡ variables_from n k ++ Var (n + k) ∷ []
variables_from-more n zero = (let e : n ≡ n + 0 = omega arith in ap (λ m. Var m ∷ []) e)
variables_from-more n (suc k) = (let e : suc n + k ≡ n + suc k = omega arith in
    ap (λ us. Var n ∷ us) (variables_from-more (suc n) k ∙ ap (λ m. variables_from (suc n) k ++ Var m ∷ []) e))

-- one more variable behind those that were made
next_variable : (ts us new : List HeapTerm) (n k m : ℕ) → us ≡ ts ++ variables_from n k → m ≡ n + k → new ≡ us ++ Var m ∷ [] → new ≡ ts ++ variables_from n (suc k)
next_variable ts us new n k m before number last =
    last ∙ (λ i. before i ++ Var (number i) ∷ [])
    ∙ append_assoc ts (variables_from n k) (Var (n + k) ∷ [])
    ∙ ap (λ vs. ts ++ vs) (sym (variables_from-more n k))

bound_vars : (x : Contents) (n : ℕ) → length (with_vars n x).vars ≡ length x.vars + n
bound_vars x zero = omega arith
bound_vars x (suc n) = omega (arith, bound_vars x n, length-append (with_vars n x).vars (length (with_vars n x).cells ∷ []))

-- the lists after the pushes of one more variable
pub one_more_var : (x y first : Contents) (k m : ℕ) → x ≡ with_vars k first → y.cells ≡ x.cells ++ cell.Var (length x.vars) ∷ [] → y.wide ≡ x.wide → y.args ≡ x.args →
    y.vars ≡ x.vars ++ length x.cells ∷ [] → y.order ≡ x.order → y.learnt ≡ x.learnt → m ≡ suc k → y ≡ with_vars m first
one_more_var x y first k m before a b c d e f next =
    let step : y ≡ with_var x = same_contents a b c d e f in
    step ∙ ap with_var before ∙ ap (λ n. with_vars n first) (sym next)

module _ (x : Contents) (marks : List Place) (is : IsMarked x marks) where
  marked_vars : (n : ℕ) → IsMarked (with_vars n x) marks
  marked_vars zero = is
  marked_vars (suc n) = marked_var (with_vars n x) marks (marked_vars n)

  saved_vars : (n : ℕ) → map (terms_at (with_vars n x)) marks ≡ map (terms_at x) marks
  saved_vars zero = refl
  saved_vars (suc n) = saved_var (with_vars n x) marks (marked_vars n) ∙ saved_vars n

  meant_vars : (n : ℕ) → meant (with_vars n x) ≡ meant x ++ variables_from (length x.vars) n
  meant_vars zero = sym (append-nil (meant x))
  meant_vars (suc n) = next_variable (meant x) (meant (with_vars n x)) (meant (with_vars (suc n) x)) (length x.vars) n (length (with_vars n x).vars)
      (meant_vars n) (bound_vars x n) (meant_var (with_vars n x) (marked_vars n).now)

  images_vars : (n : ℕ) → map (at (meant (with_vars n x))) (homes (with_vars n x)) ≡ map (at (meant x)) (homes x) ++ variables_from (length x.vars) n
  images_vars zero = sym (append-nil (map (at (meant x)) (homes x)))
  images_vars (suc n) = next_variable (map (at (meant x)) (homes x)) (map (at (meant (with_vars n x))) (homes (with_vars n x))) (map (at (meant (with_vars (suc n) x))) (homes (with_vars (suc n) x)))
      (length x.vars) n (length (with_vars n x).vars) (images_vars n) (bound_vars x n) (images_with_var (with_vars n x) (marked_vars n).now)

  pub known_vars : length x.vars ≡ length (map (at (meant x)) (homes x))
  known_vars = sym (length-homes x is.now) ∙ sym (length-map (homes x) (at (meant x)))

  -- the lists with so many more variables
  module _ (y : Contents) (n : ℕ) (e : y ≡ with_vars n x) where
    pub marked_then : IsMarked y marks
    marked_then = subst (λ (z : Contents). IsMarked z marks) (sym e) (marked_vars n)

    pub saved_then : map (terms_at y) marks ≡ map (terms_at x) marks
    saved_then = ap (λ (z : Contents). map (terms_at z) marks) e ∙ saved_vars n

    pub terms_then : meant y ≡ meant x ++ variables_from (length (map (at (meant x)) (homes x))) n
    terms_then = ap meant e ∙ meant_vars n ∙ ap (λ m. meant x ++ variables_from m n) known_vars

    pub images_then : map (at (meant y)) (homes y) ≡ map (at (meant x)) (homes x) ++ variables_from (length (map (at (meant x)) (homes x))) n
    images_then = ap (λ (z : Contents). map (at (meant z)) (homes z)) e ∙ images_vars n ∙ ap (λ m. map (at (meant x)) (homes x) ++ variables_from m n) known_vars
