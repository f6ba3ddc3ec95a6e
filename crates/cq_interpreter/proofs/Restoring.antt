-- Goals that are kept and restored, and heaps of unbound variables.
use Rattle.std.proofs.Common.{◌≡◌, ◌⊎◌, inl, inr, ℕ, zero, suc, ◌+◌, ◌-◌, ◌<◌, ◌≤◌, List, ◌∷◌, ◌++◌, length, map, refl, ap, ◌∙◌, subst, arith, length-append}
use Rattle.std.proofs.lemmas.Bool.{cases_lt}
use Rattle.std.proofs.lemmas.List.Elements.{All-map}
use Rattle.spec_numbers.specs.Prefixes.{IsPrefix}
use Rattle.spec_numbers.proofs.Prefixes.{prefix_get_or}
use Rattle.spec_terms.specs.Term.{Var, with_arguments}
use Rattle.spec_terms.specs.Variables.{counted_from}
use Rattle.std.specs.List.{zip}
use Rattle.spec_engine.specs.declared.machine.cell.Cell.{Cell}
use Rattle.cq_store.specs.StoreValue.{kept}
use Rattle.cq_term.specs.HeapValue.{HeapValue, Terms}
use Rattle.cq_settle.specs.Contents.{contents_of}
use Rattle.cq_settle.specs.declared.world.World.{World}
use Rattle.cq_branch.specs.Worlds.{saved_values}
use Rattle.cq_term.specs.Meaning.{HeapTerm, at, blank}
use Rattle.cq_term.specs.Names.{HasNamesBelow}
use Rattle.cq_term.proofs.Known.{names_over}
use Rattle.cq_unify.specs.Copied.{unbound_from}
use Rattle.cq_unify.proofs.Places.{length-unbound_from}
use Rattle.cq_resolve.proofs.Renamed.{new_image}
use Rattle.cq_interpreter.specs.Variables.{AreUnbound}

-- another heap with the same marks
pub marks : (w : World) (heap : HeapValue) (lists : List (List (List Cell))) → heap.saved ≡ w.heap.saved
    → zip (map contents_of (zip heap.saved (zip w.attrs.saved (map (kept w.store.pivots) w.store.saved)))) lists ≡ saved_values w lists
marks w heap lists e = ap (λ (hs : List Terms). zip (map contents_of (zip hs (zip w.attrs.saved (map (kept w.store.pivots) w.store.saved)))) lists) e

module _ (older images : List HeapTerm) (longer : IsPrefix older images) (unbound : AreUnbound older) where
  still_unbound : (v : ℕ) → v < length older → at images v ≡ Var v
  still_unbound v l = prefix_get_or older images v blank longer l ∙ unbound v l

  all_unbound : (m k : ℕ) → m + k ≤ length older → map (at images) (counted_from m k) ≡ map (λ v. Var v) (counted_from m k)
  all_unbound m zero h = refl
  all_unbound m (suc k) h = λ i. still_unbound m (omega arith) i ∷ all_unbound (suc m) k (omega arith) i

  pub the_variables : (k : ℕ) → k ≡ length older → map (at images) (counted_from 0 k) ≡ unbound_from 0 (length older)
  the_variables k e = all_unbound 0 k (omega (arith, e)) ∙ ap (λ n. unbound_from 0 n) e

pub longer_by : (older images : List HeapTerm) (k : ℕ) → images ≡ older ++ unbound_from (length older) k → length images ≡ length older + k
longer_by older images k e = ap length e ∙ length-append older (unbound_from (length older) k) ∙ ap (λ n. length older + n) (length-unbound_from (length older) k)

unbound_by : (older images : List HeapTerm) (k v : ℕ) → AreUnbound older → images ≡ older ++ unbound_from (length older) k → v < length images
    → (v < length older) ⊎ (length older ≤ v) → at images v ≡ Var v
unbound_by older images k v unbound e l (inl early) = still_unbound older images (unbound_from (length older) k, e) unbound v early
unbound_by older images k v unbound e l (inr late) =
    let size = longer_by older images k e in
    let is : length older + (v - length older) ≡ v = omega arith in
    let few : v - length older < k = omega (arith, size, l) in
    subst (λ (u : ℕ). at images u ≡ Var u) is (new_image older images k (v - length older) e few)

-- behind unbound variables there are more of them
pub unbound_more : (older images : List HeapTerm) (k : ℕ) → AreUnbound older → images ≡ older ++ unbound_from (length older) k → AreUnbound images
unbound_more older images k unbound e = λ v l. unbound_by older images k v unbound e l (cases_lt v (length older))

-- a name over variables has no other name
pub names_over_variables : (n f m k : ℕ) → f < n → HasNamesBelow n (with_arguments f (unbound_from m k))
names_over_variables n f m k l = names_over n f (unbound_from m k) l (All-map (HasNamesBelow n) (λ v. Var v) (counted_from m k) (λ i d lt. tt))
