-- The heads of a term begin with its own and that of its first argument, and stay under a substitution but for variables.
use Rattle.std.proofs.Common.{◌≡◌, ◌≢◌, ℕ, List, [], ◌∷◌, ◌++◌, Some, refl, ap, sym, ◌∙◌, subst}
use Rattle.std.proofs.lemmas.Option.{same_Some}
use Rattle.spec_terms.specs.Term.{Terms, Subst, Var, Number, Name, Compound, one, more, count, apply}
use Rattle.spec_terms.specs.Unifier.{HasNoUnifier}
use Rattle.cq_term.specs.Meaning.{HeapTerm}
use Rattle.cq_term.specs.Shown.{view_of}
use Rattle.cq_term.specs.declared.view.View.{View}
use Rattle.cq_term.specs.declared.view.View.TheVariants as view
use Rattle.cq_unify.proofs.Heads.{count-apply_all}
use Rattle.cq_resolve.specs.Pattern.{heads, heads_in, term_of, IsPattern}
use Rattle.cq_resolve.specs.FirstArgument.{first_of, first_shown, IsRigid}
use Rattle.cq_resolve.proofs.Reading.{pattern_heads}

pub begins : (t : HeapTerm) → (rest : List View) × (heads t ≡ view_of t ∷ rest)
begins (Var v) = ([], refl)
begins (Number q) = ([], refl)
begins (Name a) = ([], refl)
begins (Compound f ts) = (heads_in ts, refl)

begins_in : (ts : Terms ℕ) → (rest : List View) × (heads_in ts ≡ view_of (first_of ts) ∷ rest)
begins_in (one t) = begins t
begins_in (more t ts) = (let b = begins t in (b.0 ++ heads_in ts, ap (λ hs. hs ++ heads_in ts) b.1))

-- the first head of a pattern, and behind a compound the second
pub head_shown : (count : ℕ) (hs : List View) → IsPattern count hs → (rest : List View) × (hs ≡ view_of (term_of hs) ∷ rest)
head_shown count hs p = (let b = begins (term_of hs) in (b.0, sym (pattern_heads count hs p) ∙ b.1))

pub second_shown : (count : ℕ) (hs : List View) (f n : ℕ) → IsPattern count hs → view_of (term_of hs) ≡ view.Compound f n →
    (rest : List View) × (h : View) × (hs ≡ view.Compound f n ∷ h ∷ rest) × (first_shown (term_of hs) ≡ Some h)
second_shown count hs f n p e = go (term_of hs) (pattern_heads count hs p) e
  where
    go : (t : HeapTerm) → heads t ≡ hs → view_of t ≡ view.Compound f n → (rest : List View) × (h : View) × (hs ≡ view.Compound f n ∷ h ∷ rest) × (first_shown t ≡ Some h)
    go (Var v) d k = cc
    go (Number q) d k = cc
    go (Name a) d k = cc
    go (Compound g ts) d k = (let b = begins_in ts in (b.0, view_of (first_of ts), sym d ∙ (λ i. k i ∷ b.1 i), refl))

-- ---- under a substitution
pub rigid_kept : (s : Subst ℕ) (t : HeapTerm) → IsRigid (view_of t) → view_of (apply s t) ≡ view_of t
rigid_kept s (Var v) r = absurd r
rigid_kept s (Number q) r = refl
rigid_kept s (Name a) r = refl
rigid_kept s (Compound f ts) r = ap (view.Compound f) (count-apply_all s ts)

first_under : (s : Subst ℕ) (t : HeapTerm) (h : View) → first_shown t ≡ Some h → IsRigid h → first_shown (apply s t) ≡ Some h
first_under s (Var v) h e r = cc
first_under s (Number q) h e r = cc
first_under s (Name a) h e r = cc
first_under s (Compound f (one t)) h e r = (let k = same_Some (view_of t) h e in ap Some (rigid_kept s t (subst IsRigid (sym k) r) ∙ k))
first_under s (Compound f (more t ts)) h e r = (let k = same_Some (view_of t) h e in ap Some (rigid_kept s t (subst IsRigid (sym k) r) ∙ k))

pub told_apart : (t u : HeapTerm) (r : Subst ℕ) (g h : View) → first_shown t ≡ Some g → first_shown u ≡ Some h → IsRigid g → IsRigid h → g ≢ h → HasNoUnifier (record { left = t; right = apply r u } ∷ [])
told_apart t u r g h e d rigid_g rigid_h n = λ s k.
    n (same_Some g h (sym (first_under s t g e rigid_g) ∙ ap first_shown k.0 ∙ first_under s (apply r u) h (first_under r u h d rigid_h) rigid_h))
