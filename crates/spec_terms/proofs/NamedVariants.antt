-- Other names keep variants apart as they keep names apart.
use Rattle.std.proofs.Common.{ℕ, ◌<◌, sym, ap, ◌∙◌}
use Rattle.spec_numbers.specs.Texts.{Text}
use Rattle.spec_terms.specs.Term.{Term, Terms, Subst, Var, Number, Name, Compound, one, more, apply, apply_all, named}
use Rattle.spec_terms.specs.Variables.{variables, numbered_from, renamed_from}
use Rattle.spec_terms.specs.Names.{EachName, EachNameIn, AreDifferentBelow}
use Rattle.spec_terms.proofs.Renamed.{same_terms}
use Rattle.spec_terms.proofs.RenamedVariables.{renamed_named}
use Rattle.spec_terms.specs.Variants.{AreVariants}
use Rattle.spec_terms.proofs.Renamings.{variants_renamed}

-- a substitution whose images have such names keeps a term's names such
mutual
  each_applied : {A : Type 0} (P : A → Type 0) (s : Subst A) → ((v : ℕ) → EachName P (s v)) → (t : Term A)
      → EachName P t → EachName P (apply s t)
  each_applied P s k (Var v) h = k v
  each_applied P s k (Number q) h = tt
  each_applied P s k (Name a) h = h
  each_applied P s k (Compound a ts) h = (h.0, each_applied_in P s k ts h.1)

  each_applied_in : {A : Type 0} (P : A → Type 0) (s : Subst A) → ((v : ℕ) → EachName P (s v)) → (ts : Terms A)
      → EachNameIn P ts → EachNameIn P (apply_all s ts)
  each_applied_in P s k (one t) h = each_applied P s k t h
  each_applied_in P s k (more t ts) h = (each_applied P s k t h.0, each_applied_in P s k ts h.1)

pub named_variants : {A B : Type 0} (f : A → B) (t u : Term A) → AreVariants t u → AreVariants (named f t) (named f u)
named_variants f t u h =
    (variants_renamed (named f t) (named f u)).1
    (sym (renamed_named f 0 t) ∙ ap (named f) ((variants_renamed t u).0 h) ∙ renamed_named f 0 u)

module _ (n : ℕ) (f : ℕ → Text) (different : AreDifferentBelow n f) where
  each_renamed : (t : Term ℕ) → EachName (λ a. a < n) t → EachName (λ a. a < n) (renamed_from 0 t)
  each_renamed t h = each_applied (λ a. a < n) (numbered_from 0 (variables t)) (λ v. tt) t h

  pub variants_unnamed : (t u : Term ℕ) → EachName (λ a. a < n) t → EachName (λ a. a < n) u
      → AreVariants (named f t) (named f u) → AreVariants t u
  variants_unnamed t u h k v =
      (variants_renamed t u).1
      (same_terms f n different (renamed_from 0 t) (renamed_from 0 u) (each_renamed t h) (each_renamed u k)
      (renamed_named f 0 t ∙ (variants_renamed (named f t) (named f u)).0 v ∙ sym (renamed_named f 0 u)))
