-- Lists of ids that are put behind others the last one first.
use Rattle.std.proofs.Common.{◌≡◌, ℕ, suc, ◌+◌, ◌<◌, ◌≤◌, List, [], ◌∷◌, ◌++◌, length, drop, reverse, get_or, sym, ap, ◌∙◌, subst, arith, append_assoc, map}
use Rattle.std.specs.Prelude.{All, IsTrue, Bool}
use Rattle.std.proofs.lemmas.List.{drop_more, reverse-append, length-reverse}
use Rattle.std.proofs.lemmas.List.Elements.{All-head, All-tail, All-push, All-same}
use Rattle.spec_terms.specs.Term.{with_arguments}
use Rattle.cq_term.specs.Meaning.{at}
use Rattle.cq_term.specs.Ground.{IsGround}
use Rattle.cq_term.specs.Layout.{Contents, IsMarked, meant}
use Rattle.cq_term.specs.declared.lists.Cell.TheVariants as cell
use Rattle.cq_term.specs.declared.heap.Place.{Place}
use Rattle.cq_term.proofs.Cells.{with_cell}
use Rattle.cq_term.proofs.Marks.{Adds, adds_compound}

pub reversed_more : (ids old list new : List ℕ) (i j x : ℕ) → i ≡ suc j → i ≤ length ids → x ≡ get_or ids j x → list ≡ old ++ reverse (drop i ids) → new ≡ list ++ x ∷ [] → new ≡ old ++ reverse (drop j ids)
reversed_more ids old list new i j x e le is before last =
    let lt : j < length ids = omega arith in
    let next : j + 1 ≡ i = omega arith in
    let whole : drop j ids ≡ x ∷ drop i ids = drop_more ids j x lt ∙ (λ k. sym is k ∷ drop (next k) ids) in
    last
    ∙ ap (λ l. l ++ x ∷ []) before
    ∙ append_assoc old (reverse (drop i ids)) (x ∷ [])
    ∙ ap (λ l. old ++ l) (sym (ap reverse whole ∙ reverse-append (x ∷ []) (drop i ids)))

pub all_reversed : (P : ℕ → Type 0) (xs : List ℕ) → All P xs → All P (reverse xs)
all_reversed P [] h = h
all_reversed P (x ∷ xs) h = All-same P (reverse (x ∷ xs)) (reverse xs ++ x ∷ []) (reverse-append (x ∷ []) xs) (All-push P (reverse xs) x (all_reversed P xs (All-tail P x xs h)) (All-head P x xs h))

-- a compound was added over ids in reverse
pub adds_reversed : (x : Contents) (marks : List Place) → IsMarked x marks → (g : Bool) (f n : ℕ) (ids : List ℕ) → n ≡ length ids → 0 < length ids → All (λ i. i < length (meant x)) ids → (IsTrue g → All (λ i. IsGround (at (meant x) i)) ids) →
    Adds x (with_cell x x.wide (x.args ++ reverse ids) (cell.Compound g n f (length x.args))) marks (with_arguments f (map (at (meant x)) (reverse ids)))
adds_reversed x marks is g f n ids count some live ground =
    let size : length (reverse ids) ≡ n = length-reverse ids ∙ sym count in
    let all_live = all_reversed (λ i. i < length (meant x)) ids live in
    let all_ground : IsTrue g → All (λ i. IsGround (at (meant x) i)) (reverse ids) = λ t. all_reversed (λ i. IsGround (at (meant x) i)) ids (ground t) in
    subst (λ (k : ℕ). Adds x (with_cell x x.wide (x.args ++ reverse ids) (cell.Compound g k f (length x.args))) marks (with_arguments f (map (at (meant x)) (reverse ids)))) size
    (adds_compound x marks is g f (reverse ids) (omega (arith, size, count)) all_live all_ground)
