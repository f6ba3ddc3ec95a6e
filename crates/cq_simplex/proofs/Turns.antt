-- What is found in one dictionary, put together.
use Rattle.std.proofs.Common.{◌≡◌, ℕ, List, Bool, true, false, [], ◌∷◌, pos, refl, subst, ◌↔◌, IsTrue}
use Rattle.std.specs.Prelude.{MatchBool}
use Rattle.std.specs.Bool.{OnFalse}
use Rattle.spec_numbers.specs.Rational.{ℚ, 0ℚ, neg_ℚ, IsPositive, IsNotNegative, ◌≤ℚ◌}
use Rattle.spec_numbers.proofs.Ring.{var, int, ◌⊕◌, minus}
use Rattle.spec_numbers.proofs.RationalLemmas.{ring}
use Rattle.spec_simplex.specs.Rule.{Raises, Enters, IsOptimal}
use Rattle.cq_frac.specs.declared.Pair.{Pair}
use Rattle.cq_dict.specs.declared.table.Role.{Role}
use Rattle.cq_dict.specs.Roles.{is_live, is_restricted, factor_at}
use Rattle.cq_simplex.specs.Dictionary.{dictionary}
use Rattle.cq_simplex.specs.declared.Aim.{Aim}
use Rattle.cq_simplex.specs.declared.Aim.TheVariants.{Positive}
use Rattle.cq_simplex.specs.Answers.{IsOverflow, IsShort}
use Rattle.cq_simplex.specs.Turns.{IsRefusedRatio}

pub not_above : (v : ℚ) → IsNotNegative (neg_ℚ v) → v ≤ℚ 0ℚ
not_above v h = record { gap = subst IsNotNegative (ring (v ∷ []) (minus (var 0)) (int (pos 0) ⊕ minus (var 0)) refl) h }

pub optimal : (roles : List Role) (flags : List Bool) (asked : ℕ) →
    ((c : ℕ) → is_live roles c ≡ true → is_restricted flags c ≡ false → factor_at roles asked c ≡ 0ℚ) →
    ((c : ℕ) → Raises (is_restricted flags) (dictionary roles asked) c → ⊥) → IsOptimal (is_restricted flags) (dictionary roles asked)
optimal roles flags asked free none = record { restricted_columns = none; other_columns = free }

pub overflows : (roles : List Role) (flags : List Bool) (asked column : ℕ) (pair : Pair) → Enters (is_restricted flags) (dictionary roles asked) column →
    ((row : ℕ) × IsRefusedRatio roles flags asked column row pair) → IsOverflow flags asked roles pair
overflows roles flags asked column pair e r = record {
  column = column;
  row = r.0;
  enters = e;
  limits = r.1.limits;
  made = r.1.made;
  refused = r.1.refused;
}

-- the aim Positive, by the test of the value
pub positive_reached : (b : Bool) (aim : Aim) (v : ℚ) → aim ≡ Positive → (IsTrue b ↔ IsPositive v) → OnFalse b (IsNotNegative (neg_ℚ v)) → MatchBool b ((aim ≡ Positive) × IsPositive v) (IsShort aim v)
positive_reached true aim v e t f = (e, t.0 refl)
positive_reached false aim v e t f = λ _. not_above v f
