-- A part of a pattern as a slice.
use Rattle.std.proofs.Common.{◌≡◌, ℕ, ◌-◌, ◌<◌, List, length, take, drop, ap, ◌∙◌, subst, arith, length-append}
use Rattle.std.proofs.lemmas.List.{take_at, length-drop}
use Rattle.spec_terms.specs.Term.{Occurs}
use Rattle.cq_term.specs.declared.view.View.{View}
use Rattle.cq_resolve.specs.Pattern.{heads, term_of, AreHeads, HaveBelow}
use Rattle.cq_resolve.specs.Parts.{Parts}
use Rattle.cq_resolve.proofs.Reading.{term_of-heads, below_part, have_below, heads_left}

module _ (head : List View) (place end : ℕ) (p : Parts head place end) where
  long : length (heads (term_of (drop place head))) ≡ end - place
  long = omega (
    arith,
    ap length p.term,
    length-append (heads (term_of (drop place head))) (drop end head),
    length-drop place head,
    length-drop end head,
    p.further,
    p.within,
  )

  pub part_is : take (end - place) (drop place head) ≡ heads (term_of (drop place head))
  part_is = ap (take (end - place)) p.term ∙ take_at (heads (term_of (drop place head))) (drop end head) (end - place) long

  pub part_term : term_of (take (end - place) (drop place head)) ≡ term_of (drop place head)
  part_term = ap term_of part_is ∙ term_of-heads (term_of (drop place head))

pub part_below : (n : ℕ) (head : List View) (place end : ℕ) → AreHeads n head → Parts head place end → (v : ℕ) → Occurs v (term_of (drop place head)) → v < n
part_below n head place end fit p = below_part n (term_of (drop place head)) (drop end head) (subst (HaveBelow n) p.term (have_below n (drop place head) (heads_left n place head fit)))
