-- A dictionary whose rows are looked at one by one.
use Rattle.std.proofs.Common.{◌≡◌, ℕ, ◌+◌, ◌<◌, ◌≤◌, List, length, Bool, true, false, arith, ap, sym, subst, ◌⊎◌, inl, inr}
use Rattle.spec_numbers.specs.Rational.{0ℚ, IsNotNegative}
use Rattle.spec_simplex.specs.Dictionary.{Dictionary, IsFeasible}
use Rattle.cq_dict.specs.declared.table.Role.{Role}
use Rattle.cq_dict.specs.declared.table.Role.TheVariants.{Live, Dropped}
use Rattle.cq_dict.specs.Roles.{IsAt, is_live, row_role, is_row, constant_at, factor_at}
use Rattle.cq_simplex.specs.Checked.{IsRowFeasible}
use Rattle.cq_simplex.specs.Dictionary.{dictionary}
use Rattle.cq_dict.proofs.Roles.{role_is}
use Rattle.cq_simplex.proofs.Roles.{all_below}

column_is_no_row : (roles : List Role) (q : ℕ) → IsAt roles q Live ⊎ IsAt roles q Dropped → is_row roles q ≡ true → ⊥
column_is_no_row roles q (inl a) h = let e = ap row_role (role_is roles q Live a) in cc
column_is_no_row roles q (inr a) h = let e = ap row_role (role_is roles q Dropped a) in cc

pub column_feasible : (roles : List Role) (restricted : ℕ → Bool) (asked q : ℕ) → IsAt roles q Live ⊎ IsAt roles q Dropped → IsRowFeasible restricted (dictionary roles asked) q
column_feasible roles restricted asked q a = record { constant = λ h r. absurd (column_is_no_row roles q a h); no_free_column = λ h r c k f. absurd (column_is_no_row roles q a h) }

not_flagged : (b : Bool) → b ≡ false → b ≡ true → ⊥
not_flagged b h k = cc

pub free_feasible : (roles : List Role) (restricted : ℕ → Bool) (asked q : ℕ) → restricted q ≡ false → IsRowFeasible restricted (dictionary roles asked) q
free_feasible roles restricted asked q e = record { constant = λ h r. absurd (not_flagged (restricted q) e r); no_free_column = λ h r c k f. absurd (not_flagged (restricted q) e r) }

pub restricted_feasible : (roles : List Role) (restricted : ℕ → Bool) (asked q : ℕ) → IsNotNegative (constant_at roles q) → ((c : ℕ) → is_live roles c ≡ true → restricted c ≡ false → factor_at roles q c ≡ 0ℚ) → IsRowFeasible restricted (dictionary roles asked) q
restricted_feasible roles restricted asked q n f = record { constant = λ h r. n; no_free_column = λ h r c k e. f c k e }

last_or_before : (i q : ℕ) → q < i + 1 → (q ≡ i) ⊎ (q < i)
last_or_before i q h = grind arith

pub feasible_more : (restricted : ℕ → Bool) (d : Dictionary) (i : ℕ) → ((q : ℕ) → q < i → IsRowFeasible restricted d q) → IsRowFeasible restricted d i → (q : ℕ) → q < i + 1 → IsRowFeasible restricted d q
feasible_more restricted d i h n q l = elim (last_or_before i q l) [ inl e ↦ subst (IsRowFeasible restricted d) (sym e) n | inr b ↦ h q b ]

pub all_feasible : (roles : List Role) (restricted : ℕ → Bool) (asked i : ℕ) → length roles ≤ i → ((q : ℕ) → q < i → IsRowFeasible restricted (dictionary roles asked) q) → IsFeasible restricted (dictionary roles asked)
all_feasible roles restricted asked i l h = record {
  constants = λ q r f. (h q (all_below roles i q r l)).constant r f;
  no_free_column = λ q c r f k e. (h q (all_below roles i q r l)).no_free_column r f c k e;
}
