-- The clauses that a call has still to try.
use Rattle.std.specs.Prelude.{ℕ, ◌≡◌, ◌<◌, ◌↔◌, List, [], ◌∷◌, length, Bool, IsTrue, Option, Some, None}
use Rattle.cq_clauses.specs.declared.key.Key.{Key}
use Rattle.cq_clauses.specs.declared.procedures.Procedure.{Procedure}
use Rattle.cq_clauses.specs.declared.procedures.Snapshot.{Snapshot}
use Rattle.cq_clauses.specs.declared.walk.Walk.{Walk}
use Rattle.cq_clauses.specs.ClausesValue.{ClausesValue}
use Rattle.cq_clauses.specs.Selected.{key_at, matching}
use Rattle.cq_clauses.specs.Snapshots.{IsSnapshot, KeepsSnapshots, seen}

-- the clauses that a snapshot has left to read and that may match a call with this key, by number, in order
abbrev pub seen_matching : {C : Type 0} → (C → Option Key) → Option Key → Snapshot → ClausesValue C → List ℕ
seen_matching key_of key s v = matching (key_at key_of v.contents) key (seen s v.procedures)

abbrev pub left_ahead : (ℕ → Option Key) → Option Key → Option (ℕ × Snapshot) → List Procedure → List ℕ
left_ahead key of_call None ps = []
left_ahead key of_call (Some r) ps = r.0 ∷ matching key of_call (seen r.1 ps)

-- the clauses that a walk has left, by number, in order
abbrev pub left : {C : Type 0} → (C → Option Key) → Walk → ClausesValue C → List ℕ
left key_of w v = left_ahead (key_at key_of v.contents) w.key w.ahead v.procedures

-- the walk was begun on these clauses, now or before
pub record IsWalk {C : Type 0} (w : Walk) (v : ClausesValue C) : Type 0 where
  pub taken : (r : ℕ × Snapshot) → w.ahead ≡ Some r → IsSnapshot r.1 v.procedures
  pub known : (r : ℕ × Snapshot) → w.ahead ≡ Some r → r.0 < length v.contents

-- a change of the clauses leaves each walk as it was
pub record KeepsWalks {C : Type 0} (key_of : C → Option Key) (old new : ClausesValue C) : Type 0 where
  pub begun : (w : Walk) → IsWalk w old → IsWalk w new
  pub same : (w : Walk) → IsWalk w old → left key_of w new ≡ left key_of w old

-- a change of the clauses leaves each snapshot and each walk as it was
pub record KeepsReading {C : Type 0} (key_of : C → Option Key) (old new : ClausesValue C) : Type 0 where
  pub snapshots : KeepsSnapshots old.procedures new.procedures
  pub walks : KeepsWalks key_of old new

-- this tells whether a walk has no clause left, whatever the clauses are
pub record HasNoneLeft (tells : Bool) (w : Walk) : Type 0 where
  pub tells_so : (key : ℕ → Option Key) (ps : List Procedure) → IsTrue tells ↔ (left_ahead key w.key w.ahead ps ≡ [])
