-- Walks through every change.
use Rattle.std.proofs.Common.{◌≡◌, ℕ, suc, ◌<◌, ◌≤◌, Bool, cond, List, [], ◌∷◌, ◌++◌, length, filter, Option, Some, None, refl, ap, ap₂, ◌∙◌, subst, arith}
use Rattle.std.specs.Prelude.{All}
use Rattle.std.proofs.lemmas.List.Elements.{All-nil, All-cons, All-filter}
use Rattle.cq_clauses.specs.declared.key.Key.{Key}
use Rattle.cq_clauses.specs.declared.procedures.Procedure.{Procedure}
use Rattle.cq_clauses.specs.declared.procedures.Place.{Place}
use Rattle.cq_clauses.specs.declared.procedures.Snapshot.{Snapshot}
use Rattle.cq_clauses.specs.declared.walk.Walk.{Walk}
use Rattle.cq_clauses.specs.ClausesValue.{ClausesValue}
use Rattle.cq_clauses.specs.Keys.{may_match}
use Rattle.cq_clauses.specs.Selected.{key_at, matching}
use Rattle.cq_clauses.specs.Snapshots.{IsSnapshot, KeepsSnapshots, seen}
use Rattle.cq_clauses.specs.Stored.{IsStore}
use Rattle.cq_clauses.specs.Walks.{left, left_ahead, IsWalk, KeepsReading}
use Rattle.cq_clauses.proofs.Indexing.{key_before}
use Rattle.cq_clauses.proofs.Removed.{all_known}

module _ {C : Type 0} (key_of : C → Option Key) (old new : ClausesValue C) (kept : KeepsSnapshots old.procedures new.procedures) (more : length old.contents ≤ length new.contents)
    (alike : (s : Snapshot) → IsSnapshot s old.procedures → (key : Option Key)
    → matching (key_at key_of new.contents) key (seen s old.procedures) ≡ matching (key_at key_of old.contents) key (seen s old.procedures)) where
  same_left : (key : Option Key) (ahead : Option (ℕ × Snapshot)) → ((r : ℕ × Snapshot) → ahead ≡ Some r → IsSnapshot r.1 old.procedures)
      → left_ahead (key_at key_of new.contents) key ahead new.procedures ≡ left_ahead (key_at key_of old.contents) key ahead old.procedures
  same_left key None taken = refl
  same_left key (Some r) taken =
      let is = taken r refl in
      ap (λ ns. r.0 ∷ ns) (ap (matching (key_at key_of new.contents) key) (kept.seen r.1 is) ∙ alike r.1 is key)

  pub keeps_reading : KeepsReading key_of old new
  keeps_reading = record {
    snapshots = kept;
    walks = record {
      begun = λ w is. record { taken = λ r at. kept.taken r.1 (is.taken r at); known = λ r at. omega (arith, is.known r at, more) };
      same = λ w is. same_left w.key w.ahead is.taken;
    };
  }

filter_alike : (p q : ℕ → Bool) (count : ℕ) (ns : List ℕ) → All (λ n. n < count) ns → ((n : ℕ) → n < count → p n ≡ q n) → filter p ns ≡ filter q ns
filter_alike p q count [] known same = refl
filter_alike p q count (n ∷ ns) known same =
    ap₂ (λ b rest. cond b (n ∷ rest) rest) (same n (known 0 n (omega arith))) (filter_alike p q count ns (λ k d l. known (suc k) d (omega (arith, l))) same)

-- one more clause leaves what the others match
pub matching_alike : {C : Type 0} (key_of : C → Option Key) (contents contents' : List C) (content : C) (places : List Place) (ps : List Procedure) (s : Snapshot) → contents' ≡ contents ++ content ∷ []
    → length contents ≡ length places → IsStore places ps → IsSnapshot s ps → (key : Option Key) → matching (key_at key_of contents') key (seen s ps) ≡ matching (key_at key_of contents) key (seen s ps)
matching_alike key_of contents contents' content places ps s pushed count store is None = refl
matching_alike key_of contents contents' content places ps s pushed count store is (Some k) =
    filter_alike (λ n. may_match k (key_at key_of contents' n)) (λ n. may_match k (key_at key_of contents n)) (length places) (seen s ps) (all_known places ps s store is)
    (λ n l. ap (λ cs. may_match k (key_at key_of cs n)) pushed ∙ ap (may_match k) (key_before key_of contents content n (omega (arith, l, count))))

-- what a walk has left was added
module _ {C : Type 0} (key_of : C → Option Key) (v : ClausesValue C) (places : List Place) (count : length places ≡ length v.contents) (store : IsStore places v.procedures) where
  abbrev AreKnown : List ℕ → Type 0
  AreKnown ns = All (λ n. n < length v.contents) ns

  matching_known : (key : Option Key) (ns : List ℕ) → AreKnown ns → AreKnown (matching (key_at key_of v.contents) key ns)
  matching_known None ns known = known
  matching_known (Some k) ns known = All-filter (λ n. may_match k (key_at key_of v.contents n)) (λ n. n < length v.contents) ns known

  ahead_known : (key : Option Key) (ahead : Option (ℕ × Snapshot)) → ((r : ℕ × Snapshot) → ahead ≡ Some r → IsSnapshot r.1 v.procedures)
      → ((r : ℕ × Snapshot) → ahead ≡ Some r → r.0 < length v.contents) → AreKnown (left_ahead (key_at key_of v.contents) key ahead v.procedures)
  ahead_known key None taken known = All-nil (λ n. n < length v.contents)
  ahead_known key (Some r) taken known =
      All-cons (λ n. n < length v.contents) r.0 (matching (key_at key_of v.contents) key (seen r.1 v.procedures)) (known r refl)
      (matching_known key (seen r.1 v.procedures) (subst (λ m. All (λ n. n < m) (seen r.1 v.procedures)) count (all_known places v.procedures r.1 store (taken r refl))))

  pub left_known : (w : Walk) → IsWalk w v → AreKnown (left key_of w v)
  left_known w is = ahead_known w.key w.ahead is.taken is.known
