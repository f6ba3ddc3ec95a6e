-- The names of variables are those of terms.
use Rattle.std.proofs.Common.{ℕ, zero, suc, ◌<◌, List, [], ◌∷◌, map, length, get_or, arith}
use Rattle.std.specs.Prelude.{All}
use Rattle.std.proofs.lemmas.List.Elements.{All-map}
use Rattle.std.proofs.lemmas.Option.{slice_get-get_or}
use Rattle.cq_term.specs.Layout.{Contents, IsWhole, IsMarked, all_built, meant, homes, bindings, terms_of, terms_at, contents_at}
use Rattle.cq_term.specs.Meaning.{HeapTerm, at, blank}
use Rattle.cq_term.specs.Names.{HasNamesBelow, HasNamesOfTerms}
use Rattle.cq_term.specs.Rep.{AllBelow}
use Rattle.cq_term.specs.declared.heap.Place.{Place}
use Rattle.cq_term.proofs.Kept.{homes_in}

-- variables that stand at terms
names_at : (n : ℕ) (ts : List HeapTerm) (is : List ℕ) → AllBelow (length ts) is → All (HasNamesBelow n) ts →
    (k : ℕ) (d : HeapTerm) → k < length (map (at ts) is) → HasNamesBelow n (get_or (map (at ts) is) k d)
names_at n ts [] below all k d lt = absurd (omega arith)
names_at n ts (i ∷ is) below all zero d lt = all i blank below.0
names_at n ts (i ∷ is) below all (suc k) d lt = names_at n ts is below.1 all k d (omega arith)

pub names_of_terms : (x : Contents) → IsWhole x → HasNamesOfTerms (terms_of x)
names_of_terms x whole n all = names_at n (meant x) (homes x) (homes_in (all_built x) (homes x) (bindings x) whole.heap) all

pub names_of_marks : (x : Contents) (marks : List Place) → IsMarked x marks → All HasNamesOfTerms (map (terms_at x) marks)
names_of_marks x marks is = All-map HasNamesOfTerms (terms_at x) marks
    (λ k p lt. names_of_terms (contents_at x (get_or marks k p)) (is.before k (get_or marks k p) (slice_get-get_or marks k p lt)))
