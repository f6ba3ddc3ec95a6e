-- Which clauses may match a call, by the kinds of their first arguments.
use Rattle.std.specs.Prelude.{◌+◌, ◌==◌, ◌&&◌, Bool, true, false, nat_abs, Option, Some, None}
use Rattle.std.specs.Ordering.{eq_by_cmp}
use Rattle.std.specs.Hash as hashed
use Rattle.std.specs.Hash.{HashWrites}
use Rattle.spec_numbers.specs.Rational.{denominator}
use Rattle.spec_numbers.specs.Order.{cmp_ℚ}
use Rattle.cq_clauses.specs.declared.key.Key.{Key}
use Rattle.cq_clauses.specs.declared.key.Key.TheVariants.{Number, Name, Compound}

-- the same number, the same name, or the same name with as many arguments
abbrev pub same_key : Key → Key → Bool
same_key (Number p) (Number q) = eq_by_cmp cmp_ℚ p q
same_key (Name a) (Name b) = a == b
same_key (Compound f m) (Compound g n) = (f == g) && (m == n)
same_key _ _ = false

-- a clause has this key
abbrev pub has_key : Key → Option Key → Bool
has_key k None = false
has_key k (Some l) = same_key k l

-- a clause without a key matches any call; one with a key matches the calls with that key
abbrev pub may_match : Key → Option Key → Bool
may_match k None = true
may_match k (Some l) = same_key k l

-- what is hashed of a key: less than all of it
abbrev pub writes_of : Key → HashWrites
writes_of (Number q) = hashed.u128 (nat_abs q.numerator + denominator q)
writes_of (Name a) = hashed.usize a
writes_of (Compound f n) = hashed.usize f
