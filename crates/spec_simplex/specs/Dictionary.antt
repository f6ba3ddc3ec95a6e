-- Dictionaries: some quantities written by others, the columns, and an asked form written by the columns too.
use Rattle.std.specs.Prelude.{◌≡◌, ◌↔◌, ℕ, zero, suc, ◌<◌, Bool, true, false, nat_eq}
use Rattle.spec_numbers.specs.Rational.{ℚ, 0ℚ, ◌+ℚ◌, ◌*ℚ◌, ◌<ℚ◌, ◌≤ℚ◌, IsNotNegative}

-- a quantity that is neither a row nor a column stands nowhere
pub record Dictionary : Type 0 where
  pub is_row : ℕ → Bool
  pub is_column : ℕ → Bool
  -- a row's constant, and its entry in a column
  pub constant : ℕ → ℚ
  pub entry : ℕ → ℕ → ℚ
  -- the asked form's constant, and its coefficient of a column
  pub value : ℚ
  pub coefficient : ℕ → ℚ

-- f at each number below the size, added up
abbrev pub sum_below : ℕ → (ℕ → ℚ) → ℚ
sum_below zero f = 0ℚ
sum_below (suc n) f = f n +ℚ sum_below n f

-- the first of two numbers, or the second
abbrev pub pick : Bool → ℚ → ℚ → ℚ
pick true p q = p
pick false p q = q

-- the quantities where each column is 0: the basic solution
abbrev pub basic_solution : Dictionary → ℕ → ℚ
basic_solution d q = pick (d.is_row q) (d.constant q) 0ℚ

-- the quantities where the column c is y and each other column is 0
abbrev pub ray : Dictionary → ℕ → ℚ → ℕ → ℚ
ray d c y q = pick (nat_eq q c) y (pick (d.is_row q) (d.constant q +ℚ d.entry q c *ℚ y) 0ℚ)

-- quantities below the size, no column a row, and nothing written by a quantity that is no column
pub record IsDictionary (size : ℕ) (d : Dictionary) : Type 0 where
  pub rows_below : (q : ℕ) → d.is_row q ≡ true → q < size
  pub columns_below : (c : ℕ) → d.is_column c ≡ true → c < size
  pub apart : (c : ℕ) → d.is_column c ≡ true → d.is_row c ≡ false
  pub no_other_entry : (q c : ℕ) → d.is_column c ≡ false → d.entry q c ≡ 0ℚ
  pub no_other_coefficient : (c : ℕ) → d.is_column c ≡ false → d.coefficient c ≡ 0ℚ

-- x gives the quantities values that meet each row, and the asked form has the value z there
pub record Satisfies (size : ℕ) (d : Dictionary) (x : ℕ → ℚ) (z : ℚ) : Type 0 where
  pub rows : (q : ℕ) → d.is_row q ≡ true → x q ≡ d.constant q +ℚ sum_below size (λ c. d.entry q c *ℚ x c)
  pub asked : z ≡ d.value +ℚ sum_below size (λ c. d.coefficient c *ℚ x c)

-- the same values satisfy both
abbrev pub AreEquivalent : ℕ → Dictionary → Dictionary → Type 0
AreEquivalent size d e = (x : ℕ → ℚ) (z : ℚ) → Satisfies size d x z ↔ Satisfies size e x z

-- the restricted quantities are not below zero
abbrev pub Obeys : (ℕ → Bool) → (ℕ → ℚ) → Type 0
Obeys restricted x = (q : ℕ) → restricted q ≡ true → IsNotNegative (x q)

-- restricted rows have constants not below zero, and no entry in a column that is not restricted
pub record IsFeasible (restricted : ℕ → Bool) (d : Dictionary) : Type 0 where
  pub constants : (q : ℕ) → d.is_row q ≡ true → restricted q ≡ true → IsNotNegative (d.constant q)
  pub no_free_column : (q c : ℕ) → d.is_row q ≡ true → restricted q ≡ true → d.is_column c ≡ true → restricted c ≡ false → d.entry q c ≡ 0ℚ

-- v is the greatest value of the asked form where the restricted quantities are not below zero, and it is reached
pub record IsGreatest (size : ℕ) (restricted : ℕ → Bool) (d : Dictionary) (v : ℚ) : Type 0 where
  pub bound : (x : ℕ → ℚ) (z : ℚ) → Satisfies size d x z → Obeys restricted x → z ≤ℚ v
  pub at : ℕ → ℚ
  pub satisfies : Satisfies size d at v
  pub obeys : Obeys restricted at

-- the asked form has a value there above each number
pub record Exceeds (size : ℕ) (restricted : ℕ → Bool) (d : Dictionary) (r : ℚ) : Type 0 where
  pub at : ℕ → ℚ
  pub value : ℚ
  pub satisfies : Satisfies size d at value
  pub obeys : Obeys restricted at
  pub above : r <ℚ value

-- the row exceeds every number
abbrev pub IsUnbounded : ℕ → (ℕ → Bool) → Dictionary → Type 0
IsUnbounded size restricted d = (r : ℚ) → Exceeds size restricted d r
