-- Lines of a log as the check reads them.
use Rattle.std.proofs.Common.{◌≡◌, ℕ, zero, suc, ◌+◌, ◌-◌, ◌<◌, ◌≤◌, arith, List, length, Bool, true, false, cond, codes, refl, sym, ap, ◌∙◌}
use Rattle.std.specs.Prelude.{bytes_eq, ◌==◌}
use Rattle.std.specs.List.{AllByRecursion, slice_split, join_with_byte}
use Rattle.std.proofs.lemmas.List.Splits.{join_with_byte-slice_split}
use Rattle.std.proofs.lemmas.Slice.Eq.{bytes_eq-Decides}
use Rattle.spec_numbers.specs.Texts.{Text}
use Rattle.spec_linear.specs.Solution.{Constraint, Unsolvable}
use Rattle.spec_log.specs.declared.Verdict.{Verdict}
use Rattle.spec_log.specs.declared.Verdict.TheVariants.{Accepted, Wrong}
use Rattle.spec_log.specs.Log.{Entry, Run, log_text, IsLog}
use Rattle.spec_log.specs.Verdicts.{Listing, Proved, Found, goes, ends, is_head, begins_a_run, between, is_false_run, listed, member_in, proved_twice, run_in, step, check_from, verdict}
use Rattle.cq_cert.specs.Places.{Leads}
use Rattle.cq_cert.specs.declared.check.Step.{Step}
use Rattle.cq_cert.specs.declared.check.Step.TheVariants.{Goes, Ends}
use Rattle.spec_log.proofs.Words.{head_is}
use Rattle.spec_log.proofs.Follows.{accepted}
use Rattle.spec_log.proofs.Refuted.{all_refuted}

-- the line is the head
pub is_head_line : (line : Text) → bytes_eq (codes "clpq proof 1") line ≡ is_head (slice_split (λ b. b == 32) line)
is_head_line line = go (bytes_eq (codes "clpq proof 1") line) (is_head (slice_split (λ b. b == 32) line)) refl refl
  where
    there : bytes_eq (codes "clpq proof 1") line ≡ true → is_head (slice_split (λ b. b == 32) line) ≡ true
    there e = ap (λ t. is_head (slice_split (λ b. b == 32) t)) (sym ((bytes_eq-Decides (codes "clpq proof 1") line).0 e))

    back : is_head (slice_split (λ b. b == 32) line) ≡ true → bytes_eq (codes "clpq proof 1") line ≡ true
    back e = (bytes_eq-Decides (codes "clpq proof 1") line).1 (ap (join_with_byte 32) (head_is (slice_split (λ b. b == 32) line) e) ∙ join_with_byte-slice_split 32 line)

    go : (x y : Bool) → bytes_eq (codes "clpq proof 1") line ≡ x → is_head (slice_split (λ b. b == 32) line) ≡ y → x ≡ y
    go true true e d = refl
    go false false e d = refl
    go true false e d = let k = there e in cc
    go false true e d = let k = back d in cc

pub member_step : (line k left seen : ℕ) (l : List Constraint) (ws : List Text) → 0 < left
    → step line (Listing k left seen l) ws ≡ listed line k (left - 1) seen l (member_in seen ws)
member_step line k zero seen l ws h = absurd (omega (arith, h))
member_step line k (suc n) seen l ws h = let e : n ≡ suc n - 1 = omega arith in ap (λ m. listed line k m seen l (member_in seen ws)) e

-- one line, and the next
abbrev pub after_line : ℕ → Found → List Text → Verdict
after_line line f ws = elim f [ goes next ↦ check_from (suc line) next ws | ends v ↦ v ]

-- what is accepted has no solvable list
pub accepted_has_none : (text : Text) (v : Verdict) (n : ℕ) → v ≡ verdict text → v ≡ Accepted n
    → (es : List Entry) × (length es ≡ n) × (text ≡ log_text es) × AllByRecursion (λ e. Unsolvable e.list) es
accepted_has_none text v n e d =
    let h : IsLog n text = accepted text n (sym e ∙ d) in
    (h.entries, h.count, h.is_text, all_refuted h.entries h.lawful)

-- a line behind a first run that refutes its list
pub behind_step : (line k : ℕ) (l : List Constraint) (r : Run) (ws : List Text) → begins_a_run ws ≡ false → is_false_run l r ≡ true
    → between line (k + 1) ws ≡ step line (Proved k l r) ws
behind_step line k l r ws other refutes =
    let more : k + 1 ≡ suc k = omega arith in
    ap (λ n. between line n ws) more
    ∙ sym (ap (λ x. cond x (proved_twice line k l r (run_in (length l) ws)) (cond (is_false_run l r) (between line (suc k) ws) (ends (Wrong (line - 1))))) other
    ∙ ap (λ x. cond x (between line (suc k) ws) (ends (Wrong (line - 1)))) refutes)

pub leads_more : (f g : Found) (n m : ℕ) (s : Step) → f ≡ g → n ≤ m → Leads f n s → Leads g m s
leads_more f g n m (Goes p) e h l = (sym e ∙ l.0, l.1, omega (arith, h, l.2))
leads_more f g n m (Ends v) e h l = sym e ∙ l
