-- Values that are bound after other values.
use Rattle.std.proofs.Common.{◌≡◌, ℕ, List, Option, None, Some, refl, sym, ap, ◌∙◌}
use Rattle.spec_numbers.specs.Rational.{ℚ}
use Rattle.spec_numbers.specs.Texts.{Text}
use Rattle.spec_terms.specs.Term.{Subst, apply, followed_by, named}
use Rattle.spec_terms.proofs.Substitution.{apply-followed_by, apply_agree, named-apply}
use Rattle.spec_syntax.specs.Trees.{Tree}
use Rattle.spec_branch.specs.Branch.{State}
use Rattle.spec_branch.specs.Settling.{value_or_variable}
use Rattle.cq_term.specs.Texts.{text_of}
use Rattle.cq_term.specs.Meaning.{HeapTerm}
use Rattle.cq_settle.specs.Steps as heap
use Rattle.cq_settle.specs.Underway.{unified, valued, bindings_now}

-- the first, where it is there
abbrev pub first_of : Option ℚ → Option ℚ → Option ℚ
first_of None r = r
first_of (Some q) r = Some q

-- the earlier values, and then the later ones
abbrev pub together : (ℕ → Option ℚ) → (ℕ → Option ℚ) → ℕ → Option ℚ
together f g v = first_of (f v) (g v)

one_together : (g : ℕ → Option ℚ) (v : ℕ) (o : Option ℚ) → apply (valued g) (value_or_variable o v) ≡ value_or_variable (first_of o (g v)) v
one_together g v None = refl
one_together g v (Some q) = refl

-- a term read under both
pub read_together : (f g : ℕ → Option ℚ) (t : Tree) → apply (valued g) (apply (valued f) t) ≡ apply (valued (together f g)) t
read_together f g t = sym (apply-followed_by (valued f) (valued g) t)
    ∙ apply_agree (followed_by (valued f) (valued g)) (valued (together f g)) t (λ v o. one_together g v (f v))

pub now_together : (st : State) (u : Subst Text) (f g : ℕ → Option ℚ) (t : Tree) → apply (valued g) (apply (bindings_now st u f) t) ≡ apply (bindings_now st u (together f g)) t
now_together st u f g t =
    ap (apply (valued g)) (apply-followed_by (unified st u) (valued f) t)
    ∙ read_together f g (apply (unified st u) t)
    ∙ sym (apply-followed_by (unified st u) (valued (together f g)) t)

-- values of the heap as those of the definitions
same_value : (texts : List Text) (v : ℕ) (o : Option ℚ) → named (text_of texts) (heap.value_or_variable o v) ≡ value_or_variable o v
same_value texts v None = refl
same_value texts v (Some q) = refl

pub read_on_heap : (texts : List Text) (g : ℕ → Option ℚ) (t : HeapTerm) → named (text_of texts) (apply (heap.valued g) t) ≡ apply (valued g) (named (text_of texts) t)
read_on_heap texts g t =
    named-apply (text_of texts) (heap.valued g) t
    ∙ apply_agree (λ v. named (text_of texts) (heap.valued g v)) (valued g) (named (text_of texts) t) (λ v o. same_value texts v (g v))
