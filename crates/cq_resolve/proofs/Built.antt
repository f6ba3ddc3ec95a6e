-- Terms that are built at the end of a list, the last one first.
use Rattle.std.proofs.Common.{◌≡◌, ℕ, ◌+◌, ◌<◌, List, [], ◌∷◌, ◌++◌, length, map, take, drop, reverse, ap, sym, ◌∙◌, arith}
use Rattle.std.specs.Prelude.{All}
use Rattle.std.proofs.lemmas.List.{map-append, length-map, reverse-append, length-reverse, length-drop, take_at, drop_at, take-append-drop, get_or_push}
use Rattle.std.proofs.lemmas.List.Elements.{All-head, All-tail, All-push, All-same, All-take}
use Rattle.spec_terms.specs.Term.{with_arguments}
use Rattle.cq_term.specs.Meaning.{HeapTerm, at, blank}
use Rattle.spec_numbers.specs.Prefixes.{IsPrefix}
use Rattle.cq_unify.proofs.Places.{prefix_map}

pub all_reverse : (P : ℕ → Type 0) (xs : List ℕ) → All P xs → All P (reverse xs)
all_reverse P [] h = h
all_reverse P (x ∷ xs) h = All-same P (reverse (x ∷ xs)) (reverse xs ++ x ∷ []) (reverse-append (x ∷ []) xs) (All-push P (reverse xs) x (all_reverse P xs (All-tail P x xs h)) (All-head P x xs h))

pub last_at : (ts us : List HeapTerm) (t : HeapTerm) (id : ℕ) → us ≡ ts ++ t ∷ [] → id ≡ length ts → at us id ≡ t
last_at ts us t id e last = ap (λ xs. at xs id) e ∙ get_or_push ts t blank id (sym last)

pub built_over : (ts us : List HeapTerm) (built new : List ℕ) (id : ℕ) → IsPrefix ts us → All (λ k. k < length ts) built → new ≡ built ++ id ∷ [] → map (at us) (reverse new) ≡ at us id ∷ map (at ts) (reverse built)
built_over ts us built new id p live e =
    ap (λ xs. map (at us) (reverse xs)) e
    ∙ ap (map (at us)) (reverse-append built (id ∷ []))
    ∙ ap (λ xs. at us id ∷ xs) (prefix_map ts us (reverse built) p (all_reverse (λ k. k < length ts) built live))

pub built_push : (ts us : List HeapTerm) (t : HeapTerm) (built new : List ℕ) (id : ℕ) → us ≡ ts ++ t ∷ [] → id ≡ length ts → All (λ k. k < length ts) built → new ≡ built ++ id ∷ [] → map (at us) (reverse new) ≡ t ∷ map (at ts) (reverse built)
built_push ts us t built new id longer last live e =
    built_over ts us built new id (t ∷ [], longer) live e ∙ ap (λ x. x ∷ map (at ts) (reverse built)) (last_at ts us t id longer last)

pub built_compound : (ts us : List HeapTerm) (f n k : ℕ) (old rest args over new : List ℕ) (whole : ℕ) → rest ≡ take k old → args ≡ drop k old → k + n ≡ length old → over ≡ reverse args →
    us ≡ ts ++ with_arguments f (map (at ts) over) ∷ [] → whole ≡ length ts → new ≡ rest ++ whole ∷ [] → All (λ j. j < length ts) old →
    map (at us) (reverse new) ≡ with_arguments f (take n (map (at ts) (reverse old))) ∷ drop n (map (at ts) (reverse old))
built_compound ts us f n k old rest args over new whole r a long o longer last e live =
    let back : reverse old ≡ over ++ reverse rest =
    ap reverse (sym (take-append-drop k old)) ∙ reverse-append (take k old) (drop k old) ∙ (λ i. reverse (sym a i) ++ reverse (sym r i)) ∙ ap (λ xs. xs ++ reverse rest) (sym o) in
    let both : map (at ts) (reverse old) ≡ map (at ts) over ++ map (at ts) (reverse rest) = ap (map (at ts)) back ∙ map-append (at ts) over (reverse rest) in
    let size : length (map (at ts) over) ≡ n = omega (arith, length-map over (at ts), ap length o, length-reverse args, ap length a, length-drop k old) in
    built_push ts us (with_arguments f (map (at ts) over)) rest new whole longer last (All-same (λ j. j < length ts) rest (take k old) r (All-take (λ j. j < length ts) k old live)) e
    ∙ (λ i. with_arguments f (sym (ap (take n) both ∙ take_at (map (at ts) over) (map (at ts) (reverse rest)) n size) i) ∷ sym (ap (drop n) both ∙ drop_at (map (at ts) over) (map (at ts) (reverse rest)) n size) i)
