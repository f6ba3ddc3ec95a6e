-- A world at a mark may make as many exchanges as the world now.
use Rattle.std.proofs.Common.{◌≡◌, ℕ, List, [], ◌∷◌, map, refl, sym, ap, ◌∙◌, arith}
use Rattle.std.specs.Prelude.{All, reverse}
use Rattle.std.specs.List.{zip}
use Rattle.std.proofs.lemmas.List.Elements.{All-cons, All-head, All-tail}
use Rattle.std.proofs.lemmas.List.Sorted.{All-permutation, IsPermutation-reverse}
use Rattle.spec_linear.specs.Solution.{Constraint}
use Rattle.cq_attr.specs.Attributes.{Attributes}
use Rattle.cq_control.specs.Open.{open_choices}
use Rattle.cq_store.specs.StoreValue.{kept}
use Rattle.cq_term.specs.HeapValue.{Terms}
use Rattle.cq_settle.specs.Contents.{Contents, contents_of}
use Rattle.cq_settle.specs.Worlds.{saved_of}
use Rattle.cq_settle.specs.declared.world.World.{World}
use Rattle.spec_engine.specs.declared.machine.cell.Cell.{Cell}
use Rattle.spec_engine.specs.Cells.{Value}
use Rattle.cq_branch.specs.Worlds.{saved_values}
use Rattle.cq_branch.specs.declared.alternatives.Alternatives.{Alternatives}

module _ (n : ℕ) where
  abbrev May : Contents → Type 0
  May c = c.pivots ≡ n

  abbrev MayThen : Value Contents → Type 0
  MayThen w = May w.0

  all_may : (hs : List Terms) (ats : List Attributes) (ss : List (List Constraint)) → All May (map contents_of (zip hs (zip ats (map (kept n) ss))))
  all_may [] ats ss = λ i d l. absurd (omega (arith, l))
  all_may (h ∷ hs) [] ss = λ i d l. absurd (omega (arith, l))
  all_may (h ∷ hs) (a ∷ ats) [] = λ i d l. absurd (omega (arith, l))
  all_may (h ∷ hs) (a ∷ ats) (s ∷ ss) =
      All-cons May (contents_of (h, (a, kept n s))) (map contents_of (zip hs (zip ats (map (kept n) ss)))) refl (all_may hs ats ss)

  all_then : (cs : List Contents) (ls : List (List (List Cell))) → All May cs → All MayThen (zip cs ls)
  all_then [] ls a = λ i d l. absurd (omega (arith, l))
  all_then (c ∷ cs) [] a = λ i d l. absurd (omega (arith, l))
  all_then (c ∷ cs) (l ∷ ls) a = All-cons MayThen (c, l) (zip cs ls) (All-head May c cs a) (all_then cs ls (All-tail May c cs a))

  newest_may : (vs : List (Value Contents)) (xs : List Alternatives) (w : Value Contents) (x : Alternatives) (others : List (Value Contents × Alternatives))
      → zip vs xs ≡ (w, x) ∷ others → All MayThen vs → May w.0
  newest_may [] xs w x others e a = cc
  newest_may (v ∷ vs) [] w x others e a = cc
  newest_may (v ∷ vs) (y ∷ ys) w x others e a =
      let first : (v, y) ≡ (w, x) = cc in
      sym (ap (λ (z : Value Contents × Alternatives). z.0.0.pivots) first) ∙ All-head MayThen v vs a

-- the world that the newest choice goes back to
pub same_budget : (w : World) (saved : List (List (List Cell))) (choices : List Alternatives) (back : Value Contents) (x : Alternatives) (others : List (Value Contents × Alternatives))
    → open_choices (saved_values w saved) choices ≡ (back, x) ∷ others → back.0.pivots ≡ w.store.pivots
same_budget w saved choices back x others e =
    newest_may w.store.pivots (reverse (saved_values w saved)) choices back x others e
    (All-permutation (MayThen w.store.pivots) (saved_values w saved) (reverse (saved_values w saved)) (IsPermutation-reverse (saved_values w saved))
    (all_then w.store.pivots (saved_of w) saved (all_may w.store.pivots w.heap.saved w.attrs.saved w.store.saved)))
