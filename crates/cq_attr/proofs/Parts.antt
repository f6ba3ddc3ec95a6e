-- The parts of attributes at their marks.
use Rattle.std.proofs.Common.{◌≡◌, ℕ, List, [], ◌∷◌, ◌++◌, take, Some, inl, inr, subst, sym, arith}
use Rattle.std.specs.Prelude.{slice_get}
use Rattle.std.proofs.lemmas.Option.{none-some}
use Rattle.spec_numbers.proofs.Places.{get_push, get_take}
use Rattle.cq_attr.specs.Layout.{Parts, HaveSlots, AreParts}

-- the same parts
pub slots_same : (new parts : Parts) → new ≡ parts → HaveSlots parts.1.0 parts.1.1 → HaveSlots new.1.0 new.1.1
slots_same new parts e now = subst (λ (p : Parts). HaveSlots p.1.0 p.1.1) (sym e) now

-- nothing is numeric, and nothing waits
pub empty_parts : (parts : Parts) → parts ≡ ([], ([], [])) → (saved : List Parts) → saved ≡ [] → AreParts parts saved
empty_parts parts e saved f = record {
  now = slots_same parts ([], ([], [])) e (λ k d l. absurd (omega (arith, l)));
  marks = λ k p g. absurd (none-some p (subst (λ l. slice_get l k ≡ Some p) f g));
}

module _ (parts : Parts) (saved : List Parts) (are : AreParts parts saved) where
  -- a change under the same marks
  pub parts_changed : (new : Parts) → HaveSlots new.1.0 new.1.1 → (kept : List Parts) → kept ≡ saved → AreParts new kept
  parts_changed new now kept e = record { now = now; marks = λ k p g. are.marks k p (subst (λ l. slice_get l k ≡ Some p) e g) }

  pub parts_same : (new : Parts) → new ≡ parts → (kept : List Parts) → kept ≡ saved → AreParts new kept
  parts_same new e kept f = parts_changed new (slots_same new parts e are.now) kept f

  pub parts_marked : (new : Parts) → new ≡ parts → (all : List Parts) → all ≡ saved ++ parts ∷ [] → AreParts new all
  parts_marked new e all f = record {
    now = slots_same new parts e are.now;
    marks = λ k p g. elim (get_push saved parts k p (subst (λ l. slice_get l k ≡ Some p) f g)) [
      | inl i ↦ are.marks k p i
      | inr i ↦ subst (λ (q : Parts). HaveSlots q.1.0 q.1.1) i.1 are.now
    ];
  }

  -- the mark of this number and later ones end
  pub parts_taken : (m : ℕ) (new : Parts) → HaveSlots new.1.0 new.1.1 → (left : List Parts) → left ≡ take m saved → AreParts new left
  parts_taken m new now left e = record {
    now = now;
    marks = λ k p g. are.marks k p (get_take m k saved p (subst (λ l. slice_get l k ≡ Some p) e g)).0;
  }
