-- What a change of a part makes of the attributes.
use Rattle.std.proofs.Common.{◌≡◌, ℕ, suc, ◌<◌, ◌==◌, Bool, true, false, cond, List, [], ◌∷◌, ◌++◌, length, map, set, refl, sym, ap, ap₂, ◌∙◌, zero-add, arith, length-append, length-set}
use Rattle.std.specs.List.{list_any}
use Rattle.std.proofs.lemmas.List.{map-append}
use Rattle.std.proofs.lemmas.List.Elements.{All-append, All-map, All-weaker}
use Rattle.cq_frac.specs.declared.VarId.{VarId}
use Rattle.cq_term.specs.Places.{numbers_of}
use Rattle.cq_attr.specs.declared.susp.Susp.{Susp}
use Rattle.cq_attr.specs.declared.susp.Slot.{Slot}
use Rattle.cq_attr.specs.NotesValue.{noted}
use Rattle.cq_attr.specs.Attributes.{Attributes, Waiting, marked, suspended, watched_more, without}
use Rattle.cq_attr.specs.Layout.{NumericNotes, Watchers, HaveSlots, waiting_from, attributes_of}
use Rattle.cq_attr.proofs.Elements.{any_of_map}
use Rattle.cq_attr.proofs.Slots.{waiting_suspended, waiting_watched, waiting_without}

-- ---- watchers and slots

pub have_noted : (ws : Watchers) (ss : List Slot) (vs : List VarId) (m : ℕ) → HaveSlots ws ss → m < length ss → HaveSlots (ws ++ noted vs m) ss
have_noted ws ss vs m have within =
    let P : ℕ × ℕ → Type 0 = λ w. w.1 < length ss in
    let note : VarId → ℕ × ℕ = λ v. (v.0, m) in
    All-append P ws (noted vs m) have (All-map P note vs (λ k d l. within))

pub have_suspended : (ws : Watchers) (ss : List Slot) (vs : List VarId) (s : Slot) → HaveSlots ws ss → HaveSlots (ws ++ noted vs (length ss)) (ss ++ s ∷ [])
have_suspended ws ss vs s have =
    let P : ℕ × ℕ → Type 0 = λ w. w.1 < length ss in
    let Q : ℕ × ℕ → Type 0 = λ w. w.1 < length (ss ++ s ∷ []) in
    let longer = length-append ss (s ∷ []) in
    have_noted ws (ss ++ s ∷ []) vs (length ss) (All-weaker P Q (λ w h. omega (arith, h, longer)) ws have) (omega (arith, longer))

pub have_taken : (ws : Watchers) (ss : List Slot) (m : ℕ) (s : Slot) → HaveSlots ws ss → HaveSlots ws (set ss m s)
have_taken ws ss m s have =
    let P : ℕ × ℕ → Type 0 = λ w. w.1 < length ss in
    let Q : ℕ × ℕ → Type 0 = λ w. w.1 < length (set ss m s) in
    All-weaker P Q (λ w h. omega (arith, h, length-set ss m s)) ws have

-- ---- attributes

module _ (ns : NumericNotes) (ws : Watchers) (ss : List Slot) where
  pub attributes_numeric : (v : ℕ) → list_any (λ n. n.0 == v) ns ≡ true → attributes_of ns ws ss ≡ marked (attributes_of ns ws ss) v
  attributes_numeric v e =
      let numeric : List ℕ = map (λ n. n.0) ns in
      let made : Bool → Attributes = λ b. record { numeric = cond b numeric (numeric ++ v ∷ []); waiting = waiting_from 0 ss ws; next = length ss } in
      sym (ap made (any_of_map (λ w. w == v) (λ n. n.0) ns ∙ e))

  pub attributes_marked : (v : ℕ) → list_any (λ n. n.0 == v) ns ≡ false → attributes_of (ns ++ (v, tt) ∷ []) ws ss ≡ marked (attributes_of ns ws ss) v
  attributes_marked v e =
      let numeric : List ℕ = map (λ n. n.0) ns in
      let made : Bool → Attributes = λ b. record { numeric = cond b numeric (numeric ++ v ∷ []); waiting = waiting_from 0 ss ws; next = length ss } in
      let f : List ℕ → Attributes = λ vs. record { numeric = vs; waiting = waiting_from 0 ss ws; next = length ss } in
      ap f (map-append (λ n. n.0) ns ((v, tt) ∷ [])) ∙ sym (ap made (any_of_map (λ w. w == v) (λ n. n.0) ns ∙ e))

  pub attributes_watched : (vs : List VarId) (m : ℕ) → attributes_of ns (ws ++ noted vs m) ss ≡ watched_more (attributes_of ns ws ss) m (numbers_of vs)
  attributes_watched vs m =
      let f : List Waiting → Attributes = λ waiting. record { numeric = map (λ n. n.0) ns; waiting = waiting; next = length ss } in
      ap f (waiting_watched 0 ss ws vs m)

  pub attributes_suspended : (vs : List VarId) (susp : Susp) → HaveSlots ws ss
      → attributes_of ns (ws ++ noted vs (length ss)) (ss ++ record { susp = susp; waits = true } ∷ []) ≡ suspended (attributes_of ns ws ss) (numbers_of vs) susp
  attributes_suspended vs susp have =
      let f : List Waiting → ℕ → Attributes = λ waiting next. record { numeric = map (λ n. n.0) ns; waiting = waiting; next = next } in
      let s : Slot = record { susp = susp; waits = true } in
      let longer : length (ss ++ s ∷ []) ≡ suc (length ss) = omega (arith, length-append ss (s ∷ [])) in
      ap₂ f (waiting_suspended ss ws vs susp have) longer

  pub attributes_taken : (m : ℕ) (susp : Susp) → attributes_of ns ws (set ss m (record { susp = susp; waits = false })) ≡ without (attributes_of ns ws ss) m
  attributes_taken m susp =
      let f : List Waiting → ℕ → Attributes = λ waiting next. record { numeric = map (λ n. n.0) ns; waiting = waiting; next = next } in
      let s : Slot = record { susp = susp; waits = false } in
      ap₂ f (waiting_without 0 ss ws m m s refl (sym (zero-add m))) (length-set ss m s)
