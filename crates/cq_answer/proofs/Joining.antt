-- Lines, one after another, and the line of a goal.
use Rattle.std.proofs.Common.{◌≡◌, ℕ, ◌+◌, ◌<◌, List, [], ◌∷◌, ◌++◌, codes, length, take, map, refl, sym, ap, ap₂, ◌∙◌, subst, arith, append_assoc, append-nil, if◌then◌else◌}
use Rattle.std.specs.Prelude.{All, Some, slice_get, Result, Ok, Err, OnOk, is_ok}
use Rattle.std.proofs.lemmas.List.{map-append, get_or_push}
use Rattle.std.proofs.lemmas.List.Elements.{All-get_or}
use Rattle.spec_numbers.specs.Texts.{Text}
use Rattle.spec_terms.specs.Term.{Compound, more, one, with_arguments, named}
use Rattle.spec_syntax.specs.Trees.{Tree}
use Rattle.spec_builtins.specs.Built.{compound2}
use Rattle.spec_answers.specs.Lines.{or_true, lines_text}
use Rattle.cq_term.specs.Texts.{text_of}
use Rattle.cq_attr.specs.declared.susp.Susp.{Susp}
use Rattle.cq_term.specs.HeapValue.{Terms}
use Rattle.cq_term.specs.Meaning.{HeapTerm, at, blank}
use Rattle.cq_term.specs.Names.{HasNamesBelow}
use Rattle.cq_term.specs.Trees.{tree, KnowsTerms}
use Rattle.cq_term.proofs.Named.{text_is}
use Rattle.cq_answer.proofs.PrintingLines.{lines_append}
use Rattle.cq_answer.specs.Shown.{constraint_trees, goal_trees}
use Rattle.cq_answer.proofs.Asleep.{constraints_more, goals_more}

-- a text that a call that succeeds makes longer
pub grown : {T E : Type 0} (r : Result T E) (new longer old : Text) → new ≡ (if is_ok r then longer else old) → OnOk r (new ≡ longer)
grown (Ok x) new longer old e = e
grown (Err f) new longer old e = tt

-- one more line
pub line_step : {A : Type 0} (f : A → Text) (old : Text) (xs : List A) (x : A) (text new : Text) → text ≡ old ++ lines_text (map f xs) → new ≡ text ++ (f x ++ codes "\n") →
    new ≡ old ++ lines_text (map f (xs ++ x ∷ []))
line_step f old xs x text new t e =
    e ∙ ap (λ s. s ++ (f x ++ codes "\n")) t ∙ append_assoc old (lines_text (map f xs)) (f x ++ codes "\n")
    ∙ ap (λ s. old ++ (lines_text (map f xs) ++ s)) (sym (append-nil (f x ++ codes "\n")))
    ∙ ap (λ s. old ++ s) (sym (lines_append (map f xs) (f x ∷ [])) ∙ ap lines_text (sym (map-append f xs (x ∷ []))))

-- ---- what waits, one more at a time

module _ (F : Tree → Text) (old : Text) (texts : List Text) (h : Terms) (ks : List Susp) (i : ℕ) (k : Susp) (l : i < length ks) (e : k ≡ Rattle.std.proofs.Common.get_or ks i k) (j : Susp) (same : k ≡ j) where
  pub constraints_on : old ++ lines_text (map F (constraint_trees texts h (take i ks) ++ constraint_trees texts h (j ∷ []))) ≡ old ++ lines_text (map F (constraint_trees texts h (take (i + 1) ks)))
  constraints_on =
      ap (λ m. old ++ lines_text (map F (constraint_trees texts h (take i ks) ++ constraint_trees texts h (m ∷ [])))) (sym same)
      ∙ ap (λ ts. old ++ lines_text (map F ts)) (constraints_more texts h ks i k l e)

  pub goals_on : old ++ lines_text (map F (goal_trees texts h (take i ks) ++ goal_trees texts h (j ∷ []))) ≡ old ++ lines_text (map F (goal_trees texts h (take (i + 1) ks)))
  goals_on =
      ap (λ m. old ++ lines_text (map F (goal_trees texts h (take i ks) ++ goal_trees texts h (m ∷ [])))) (sym same)
      ∙ ap (λ ts. old ++ lines_text (map F ts)) (goals_more texts h ks i k l e)

-- nothing more
pub none_more : {A : Type 0} (F : A → Text) (old text : Text) (xs : List A) → text ≡ old ++ lines_text (map F xs) → text ≡ old ++ lines_text (map F (xs ++ []))
none_more F old text xs t = t ∙ ap (λ ys. old ++ lines_text (map F ys)) (sym (append-nil xs))

-- ---- the term of a goal

module _ (ts new : List HeapTerm) (f a b id : ℕ) (is : id ≡ length ts) (pushed : new ≡ ts ++ with_arguments f (map (at ts) (a ∷ b ∷ [])) ∷ []) where
  made_is : at new id ≡ Compound f (more (at ts a) (one (at ts b)))
  made_is = ap (λ us. at us id) pushed ∙ get_or_push ts (with_arguments f (map (at ts) (a ∷ b ∷ []))) blank id (sym is)

  pub made_tree : (texts : List Text) → slice_get texts f ≡ Some (codes "freeze") → tree texts new id ≡ compound2 "freeze" (tree texts ts a) (tree texts ts b)
  made_tree texts e =
      ap (named (text_of texts)) made_is
      ∙ ap (λ t. Compound t (more (tree texts ts a) (one (tree texts ts b)))) (text_is texts f (codes "freeze") e)

-- ---- all lines

-- four kinds of lines, one kind behind the other
pub four_kinds : (ks ls ms ns : List Text) (start first second third last : Text) → start ≡ [] → first ≡ start ++ lines_text ks → second ≡ first ++ lines_text ls → third ≡ second ++ lines_text ms →
    last ≡ third ++ lines_text ns → last ≡ lines_text (ks ++ ls ++ ms ++ ns)
four_kinds ks ls ms ns start first second third last s a b c d =
    d
    ∙ ap (λ t. t ++ lines_text ns) (
    c ∙ ap (λ t. t ++ lines_text ms) (b ∙ ap (λ t. t ++ lines_text ls) (a ∙ ap (λ t. t ++ lines_text ks) s) ∙ sym (lines_append ks ls))
    ∙ sym (lines_append (ks ++ ls) ms))
    ∙ sym (lines_append (ks ++ ls ++ ms) ns)

nothing : (l : Text) (rest : Text) → l ++ codes "\n" ++ rest ≡ [] → ⊥
nothing [] rest e = let d : 10 ∷ rest ≡ [] = e in cc
nothing (b ∷ l) rest e = let d : b ∷ (l ++ codes "\n" ++ rest) ≡ [] = e in cc

-- where there is no text there is no line
pub true_alone : (ls : List Text) (text new : Text) → text ≡ lines_text ls → length text ≡ 0 → new ≡ text ++ codes "true\n" → new ≡ lines_text (or_true ls)
true_alone [] text new t z e = e ∙ ap (λ s. s ++ codes "true\n") t
true_alone (l ∷ ls) text new t z e = absurd (nothing l (lines_text ls) (sym t ∙ none text z))
  where
    none : (s : Text) → length s ≡ 0 → s ≡ []
    none [] z = refl
    none (b ∷ s) z = absurd (omega (arith, z))

pub lines_there : (ls : List Text) (text : Text) → text ≡ lines_text ls → (length text ≡ 0 → ⊥) → text ≡ lines_text (or_true ls)
lines_there [] text t n = absurd (n (ap (λ (s : Text). length s) t))
lines_there (l ∷ ls) text t n = t
