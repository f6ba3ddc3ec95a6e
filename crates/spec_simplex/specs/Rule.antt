-- Exchanges by the rule of the least numbers (Bland 1977), and chains of them.
use Rattle.std.specs.Prelude.{◌≡◌, ℕ, suc, ◌<◌, ◌≤◌, Bool, true, false}
use Rattle.spec_numbers.specs.Rational.{ℚ, 0ℚ, ◌/ℚ◌, neg_ℚ, IsPositive, ◌≤ℚ◌}
use Rattle.spec_simplex.specs.Dictionary.{Dictionary, IsDictionary, AreEquivalent}

-- a restricted column with a positive coefficient in the asked form
pub record Raises (restricted : ℕ → Bool) (d : Dictionary) (c : ℕ) : Type 0 where
  pub column : d.is_column c ≡ true
  pub flag : restricted c ≡ true
  pub coefficient : IsPositive (d.coefficient c)

-- of these the one of the least number enters
pub record Enters (restricted : ℕ → Bool) (d : Dictionary) (c : ℕ) : Type 0 where
  pub raises : Raises restricted d c
  pub least : (q : ℕ) → Raises restricted d q → c ≤ q

-- a restricted row with a negative entry in the column
pub record Limits (restricted : ℕ → Bool) (d : Dictionary) (c q : ℕ) : Type 0 where
  pub row : d.is_row q ≡ true
  pub flag : restricted q ≡ true
  pub falls : IsPositive (neg_ℚ (d.entry q c))

-- how far the column may rise until the row is zero
abbrev pub ratio : Dictionary → ℕ → ℕ → ℚ
ratio d c q = d.constant q /ℚ neg_ℚ (d.entry q c)

-- of the rows that limit the column one of the least ratio leaves, and of several such that of the least number
pub record Leaves (restricted : ℕ → Bool) (d : Dictionary) (c r : ℕ) : Type 0 where
  pub limits : Limits restricted d c r
  pub least_ratio : (q : ℕ) → Limits restricted d c q → ratio d c r ≤ℚ ratio d c q
  pub least_number : (q : ℕ) → Limits restricted d c q → ratio d c q ≡ ratio d c r → r ≤ q

-- an exchange of the column c and the row r is due
pub record IsDue (restricted : ℕ → Bool) (d : Dictionary) (c r : ℕ) : Type 0 where
  pub enters : Enters restricted d c
  pub leaves : Leaves restricted d c r

-- the column c has become a row, the row r a column, and each other quantity is what it was
pub record Exchanged (d : Dictionary) (c r : ℕ) (e : Dictionary) : Type 0 where
  pub row : e.is_row c ≡ true
  pub column : e.is_column r ≡ true
  pub other_rows : (q : ℕ) → (q ≡ c → ⊥) → (q ≡ r → ⊥) → e.is_row q ≡ d.is_row q
  pub other_columns : (q : ℕ) → (q ≡ c → ⊥) → (q ≡ r → ⊥) → e.is_column q ≡ d.is_column q

-- n exchanges of the rule lead from one dictionary to another; the same values satisfy all stages (those past n too)
pub record Chain (size : ℕ) (restricted : ℕ → Bool) (first : Dictionary) (n : ℕ) (last : Dictionary) : Type 0 where
  pub stage : ℕ → Dictionary
  pub column : ℕ → ℕ
  pub row : ℕ → ℕ
  pub begins : stage 0 ≡ first
  pub ends : stage n ≡ last
  pub is : (k : ℕ) → IsDictionary size (stage k)
  pub alike : (k : ℕ) → AreEquivalent size first (stage k)
  pub due : (k : ℕ) → k < n → IsDue restricted (stage k) (column k) (row k)
  pub exchanged : (k : ℕ) → k < n → Exchanged (stage k) (column k) (row k) (stage (suc k))

-- no column raises the asked form: none that is restricted, and the others do not stand in it
pub record IsOptimal (restricted : ℕ → Bool) (d : Dictionary) : Type 0 where
  pub restricted_columns : (c : ℕ) → Raises restricted d c → ⊥
  pub other_columns : (c : ℕ) → d.is_column c ≡ true → restricted c ≡ false → d.coefficient c ≡ 0ℚ

-- a column that raises the asked form and that no row limits
pub record IsUnlimited (restricted : ℕ → Bool) (d : Dictionary) (c : ℕ) : Type 0 where
  pub raises : Raises restricted d c
  pub no_limit : (q : ℕ) → Limits restricted d c q → ⊥

-- a column of the asked form that may take any value
pub record IsFree (restricted : ℕ → Bool) (d : Dictionary) (c : ℕ) : Type 0 where
  pub column : d.is_column c ≡ true
  pub flag : restricted c ≡ false
  pub coefficient : d.coefficient c ≡ 0ℚ → ⊥
