-- In the worlds of choices variables have no names but those of terms.
use Rattle.std.proofs.Common.{ℕ, List, [], ◌∷◌, ◌++◌, map, reverse, sym, subst}
use Rattle.std.specs.Prelude.{All}
use Rattle.std.specs.List.{zip, AllByRecursion}
use Rattle.std.proofs.lemmas.List.{reverse-append}
use Rattle.std.proofs.lemmas.List.Elements.{All-head, All-tail}
use Rattle.spec_linear.specs.Solution.{Constraint}
use Rattle.cq_attr.specs.Attributes.{Attributes}
use Rattle.cq_control.specs.Open.{open_choices}
use Rattle.cq_store.specs.StoreValue.{kept}
use Rattle.cq_term.specs.HeapValue.{Terms}
use Rattle.cq_term.specs.Names.{HasNamesOfTerms}
use Rattle.cq_settle.specs.Contents.{Contents, contents_of}
use Rattle.cq_settle.specs.Worlds.{saved_of}
use Rattle.cq_settle.specs.declared.world.World.{World}
use Rattle.spec_engine.specs.declared.machine.cell.Cell.{Cell}
use Rattle.spec_engine.specs.Cells.{Value}
use Rattle.cq_branch.specs.declared.alternatives.Alternatives.{Alternatives}
use Rattle.cq_branch.specs.Worlds.{saved_values}
use Rattle.cq_choices.specs.Held.{AreNamedByTerms}

abbrev OfContents : List Contents → Type 0
OfContents cs = AllByRecursion (λ (c : Contents). HasNamesOfTerms c.heap) cs

abbrev OfValues : List (Value Contents) → Type 0
OfValues xs = AllByRecursion (λ (x : Value Contents). HasNamesOfTerms x.0.heap) xs

of_contents : (n : ℕ) (hs : List Terms) (bs : List Attributes) (ts : List (List Constraint)) → All HasNamesOfTerms hs → OfContents (map contents_of (zip hs (zip bs (map (kept n) ts))))
of_contents n [] bs ts a = tt
of_contents n (h ∷ hs) [] ts a = tt
of_contents n (h ∷ hs) (b ∷ bs) [] a = tt
of_contents n (h ∷ hs) (b ∷ bs) (t ∷ ts) a = (All-head HasNamesOfTerms h hs a, of_contents n hs bs ts (All-tail HasNamesOfTerms h hs a))

of_values : (cs : List Contents) (ls : List (List (List Cell))) → OfContents cs → OfValues (zip cs ls)
of_values [] ls a = tt
of_values (c ∷ cs) [] a = tt
of_values (c ∷ cs) (l ∷ ls) a = (a.0, of_values cs ls a.1)

of_both : (xs ys : List (Value Contents)) → OfValues xs → OfValues ys → OfValues (xs ++ ys)
of_both [] ys a b = b
of_both (x ∷ xs) ys a b = (a.0, of_both xs ys a.1 b)

of_reversed : (xs : List (Value Contents)) → OfValues xs → OfValues (reverse xs)
of_reversed [] a = tt
of_reversed (x ∷ xs) a = subst OfValues (sym (reverse-append (x ∷ []) xs)) (of_both (reverse xs) (x ∷ []) (of_reversed xs a.1) (a.0, tt))

of_opened : (xs : List (Value Contents)) (cs : List Alternatives) → OfValues xs → AreNamedByTerms (zip xs cs)
of_opened [] cs a = tt
of_opened (x ∷ xs) [] a = tt
of_opened (x ∷ xs) (c ∷ cs) a = (a.0, of_opened xs cs a.1)

pub choices_named : (w : World) (ls : List (List (List Cell))) (choices : List Alternatives) → All HasNamesOfTerms w.heap.saved → AreNamedByTerms (open_choices (saved_values w ls) choices)
choices_named w ls choices a =
    of_opened (reverse (saved_values w ls)) choices
    (of_reversed (saved_values w ls) (of_values (saved_of w) ls (of_contents w.store.pivots w.heap.saved w.attrs.saved w.store.saved a)))
