-- A pattern's variables as the new variables of a heap.
use Rattle.std.proofs.Common.{◌≡◌, ℕ, zero, suc, ◌+◌, ◌<◌, List, [], ◌∷◌, ◌++◌, length, ap, ◌∙◌, refl, arith}
use Rattle.spec_terms.specs.Term.{Var, apply}
use Rattle.spec_terms.proofs.Substitution.{apply_agree}
use Rattle.cq_term.specs.Meaning.{HeapTerm, at}
use Rattle.cq_term.specs.declared.view.View.{View}
use Rattle.cq_unify.specs.Copied.{unbound_from}
use Rattle.cq_unify.proofs.Places.{at-unbound_from}
use Rattle.cq_resolve.specs.Pattern.{IsPattern, term_of}
use Rattle.cq_resolve.specs.Building.{moved_by, image_from}
use Rattle.cq_resolve.proofs.Reading.{pattern_below}

at_past : (xs us : List HeapTerm) (n k : ℕ) → n ≡ length xs + k → at (xs ++ us) n ≡ at us k
at_past [] us n k e = (let q : n ≡ k = omega arith in ap (at us) q)
at_past (x ∷ xs) us zero k e = absurd (omega arith)
at_past (x ∷ xs) us (suc n) k e = at_past xs us n k (omega arith)

pub new_image : (older images : List HeapTerm) (count k : ℕ) → images ≡ older ++ unbound_from (length older) count → k < count → at images (length older + k) ≡ Var (length older + k)
new_image older images count k e lt = ap (λ us. at us (length older + k)) e ∙ at_past older (unbound_from (length older) count) (length older + k) k refl ∙ at-unbound_from (length older) count k lt

pub renamed_image : (older images : List HeapTerm) (first count : ℕ) (hs : List View) → IsPattern count hs → images ≡ older ++ unbound_from (length older) count → (0 < count → first ≡ length older) → apply (image_from images first) (term_of hs) ≡ apply (moved_by (length older)) (term_of hs)
renamed_image older images first count hs p e begins = apply_agree (image_from images first) (moved_by (length older)) (term_of hs) (λ v o.
    let below : v < count = pattern_below count hs p v o in
    let here : first ≡ length older = begins (omega arith) in
    ap (λ n. at images (n + v)) here ∙ new_image older images count v e below)
