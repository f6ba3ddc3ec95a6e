-- The choices that are left as the newest are taken away.
use Rattle.std.proofs.Common.{◌≡◌, ℕ, ◌+◌, ◌-◌, ◌≤◌, arith, length-append, List, [], ◌∷◌, ◌++◌, length, take, Option, None, Some, refl, sym, ap, ◌∙◌, subst, append_assoc}
use Rattle.std.specs.Prelude.{IfSome, IfNone, reverse}
use Rattle.std.proofs.lemmas.List.{take-append-drop, length-reverse}
use Rattle.std.proofs.lemmas.Slice.Zip.{length-zip}
use Rattle.cq_control.specs.Open.{AreMarked, last, open_choices}
use Rattle.cq_settle.specs.Contents.{Contents}
use Rattle.spec_engine.specs.Cells.{Value}
use Rattle.cq_branch.specs.Choices.{KeepsOlder}
use Rattle.cq_branch.specs.declared.alternatives.Alternatives.{Alternatives}

pub older_all : (saved : List (Value Contents)) (choices : List Alternatives) → KeepsOlder saved choices saved choices
older_all saved choices = record { gone = []; are = refl }

pub older_on : (saved some fewer : List (Value Contents)) (choices between left : List Alternatives) → KeepsOlder saved choices some between → KeepsOlder some between fewer left
    → KeepsOlder saved choices fewer left
older_on saved some fewer choices between left a b =
    record { gone = a.gone ++ b.gone; are = a.are ∙ ap (λ l. a.gone ++ l) b.are ∙ sym (append_assoc a.gone b.gone (open_choices fewer left)) }

pub older_last : (height : ℕ) (saved fewer : List (Value Contents)) (choices left : List Alternatives) → open_choices fewer left ≡ last height (open_choices saved choices)
    → KeepsOlder saved choices fewer left
older_last height saved fewer choices left e =
    let xs = open_choices saved choices in
    let n = length xs - height in
    record { gone = take n xs; are = sym (take-append-drop n xs) ∙ ap (λ l. take n xs ++ l) (sym e) }

pub older_next : (x : Value Contents × Alternatives) (saved fewer : List (Value Contents)) (choices left : List Alternatives)
    → open_choices saved choices ≡ x ∷ open_choices fewer left → KeepsOlder saved choices fewer left
older_next x saved fewer choices left e = record { gone = x ∷ []; are = e }

-- there are no more than before
pub older_fewer : (saved fewer : List (Value Contents)) (choices left : List Alternatives) → AreMarked saved choices → AreMarked fewer left
    → KeepsOlder saved choices fewer left → length left ≤ length choices
older_fewer saved fewer choices left m n k =
    let sum : length (open_choices saved choices) ≡ length k.gone + length (open_choices fewer left) = ap length k.are ∙ length-append k.gone (open_choices fewer left) in
    omega (arith, sum, length-zip (reverse saved) choices, length-reverse saved, m, length-zip (reverse fewer) left, length-reverse fewer, n)

-- ---- the newest is taken off

-- what is said of the choice that a stack gave is so of the newest that it had
pub newest_gone : (r : Option Alternatives) (old new older : List Alternatives) (x : Alternatives) (P : Alternatives → Type 0) → IfNone r ((old ≡ []) × (new ≡ []))
    → IfSome r (λ y. old ≡ y ∷ new) → IfSome r P → old ≡ x ∷ older → P x
newest_gone None old new older x P none some p e = (let h : [] ≡ x ∷ older = sym none.0 ∙ e in cc)
newest_gone (Some y) old new older x P none some p e = (let h : y ≡ x = cc in subst P h p)
