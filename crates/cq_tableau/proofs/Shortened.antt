-- Dictionaries of the simplex method without rows that no exchange moves, and chains of them.
use Rattle.std.proofs.Common.{◌≡◌, ℕ, zero, suc, ◌<◌, ◌≤◌, Bool, true, false, pos, [], ◌∷◌, arith, refl, ap, ap₂, sym, subst, ◌∙◌}
use Rattle.spec_numbers.specs.Rational.{ℚ, 0ℚ, ◌+ℚ◌, ◌*ℚ◌}
use Rattle.spec_numbers.proofs.Ring.{var, int, ◌⊗◌}
use Rattle.spec_numbers.proofs.RationalLemmas.{ring}
use Rattle.spec_simplex.specs.Dictionary.{Dictionary, IsDictionary, Satisfies, AreEquivalent, sum_below, pick}
use Rattle.spec_simplex.specs.Rule.{Raises, Limits, IsDue, Exchanged, Chain}

-- the second, unless the first says to hide it
abbrev pub visible : Bool → Bool → Bool
visible true b = false
visible false b = b

pub visible_is : (a b : Bool) → visible a b ≡ true → b ≡ true
visible_is true b e = cc
visible_is false b e = e

pub not_hidden : (a b : Bool) → visible a b ≡ true → a ≡ false
not_hidden true b e = cc
not_hidden false b e = refl

never : (a : Bool) → visible a false ≡ false
never true = refl
never false = refl

-- without the rows that are hidden
abbrev pub hide : (ℕ → Bool) → Dictionary → Dictionary
hide hidden d = record {
  is_row = λ q. visible (hidden q) (d.is_row q);
  is_column = d.is_column;
  constant = d.constant;
  entry = d.entry;
  value = d.value;
  coefficient = d.coefficient;
}

-- no column is hidden
abbrev pub NoColumn : (ℕ → Bool) → Dictionary → Type 0
NoColumn hidden d = (q : ℕ) → hidden q ≡ true → d.is_column q ≡ false

sums_agree : (n : ℕ) (f g : ℕ → ℚ) → ((c : ℕ) → f c ≡ g c) → sum_below n f ≡ sum_below n g
sums_agree zero f g h = refl
sums_agree (suc n) f g h = ap₂ (λ a b. a +ℚ b) (h n) (sums_agree n f g h)

module _ (size : ℕ) (hidden : ℕ → Bool) where
  hidden_dictionary : (d : Dictionary) → IsDictionary size d → IsDictionary size (hide hidden d)
  hidden_dictionary d i = record {
    rows_below = λ q h. i.rows_below q (visible_is (hidden q) (d.is_row q) h);
    columns_below = i.columns_below;
    apart = λ c h. ap (visible (hidden c)) (i.apart c h) ∙ never (hidden c);
    no_other_entry = i.no_other_entry;
    no_other_coefficient = i.no_other_coefficient;
  }

  -- ---- the hidden rows' numbers are what their rows say
  module _ (d : Dictionary) (x : ℕ → ℚ) where
    abbrev filled : ℕ → ℚ
    filled q = pick (hidden q) (d.constant q +ℚ sum_below size (λ c. d.entry q c *ℚ x c)) (x q)

    filled_shown : (q : ℕ) → hidden q ≡ false → filled q ≡ x q
    filled_shown q e = ap (λ b. pick b (d.constant q +ℚ sum_below size (λ c. d.entry q c *ℚ x c)) (x q)) e

    filled_hidden : (q : ℕ) → hidden q ≡ true → filled q ≡ d.constant q +ℚ sum_below size (λ c. d.entry q c *ℚ x c)
    filled_hidden q e = ap (λ b. pick b (d.constant q +ℚ sum_below size (λ c. d.entry q c *ℚ x c)) (x q)) e

    -- a sum over columns that are not hidden
    same_sum : (f : ℕ → ℚ) (is_column : ℕ → Bool) → ((c : ℕ) → is_column c ≡ false → f c ≡ 0ℚ) → ((c : ℕ) → hidden c ≡ true → is_column c ≡ false)
        → sum_below size (λ c. f c *ℚ filled c) ≡ sum_below size (λ c. f c *ℚ x c)
    same_sum f is_column none apart = sums_agree size (λ c. f c *ℚ filled c) (λ c. f c *ℚ x c) (λ c. go c (hidden c) refl)
      where
        go : (c : ℕ) (b : Bool) → hidden c ≡ b → f c *ℚ filled c ≡ f c *ℚ x c
        go c false e = ap (λ y. f c *ℚ y) (filled_shown c e)
        go c true e =
            ap (λ y. y *ℚ filled c) (none c (apart c e)) ∙ ring (filled c ∷ x c ∷ []) (int (pos 0) ⊗ var 0) (int (pos 0) ⊗ var 1) refl
            ∙ ap (λ y. y *ℚ x c) (sym (none c (apart c e)))

  module _ (d e : Dictionary) (id : IsDictionary size d) (ie : IsDictionary size e) (nd : NoColumn hidden d) (ne : NoColumn hidden e) (same : AreEquivalent size d e) where
    over : (x : ℕ → ℚ) (z : ℚ) → Satisfies size (hide hidden d) x z → Satisfies size (hide hidden e) x z
    over x z s =
        let full : Satisfies size d (filled d x) z = record {
          rows = λ q h. row q h (hidden q) refl;
          asked = s.asked ∙ ap (λ b. d.value +ℚ b) (sym (same_sum d x d.coefficient d.is_column id.no_other_coefficient nd));
        } in
        let there = (same (filled d x) z).0 full in
        record {
          rows = λ q h.
              sym (filled_shown d x q (not_hidden (hidden q) (e.is_row q) h)) ∙ there.rows q (visible_is (hidden q) (e.is_row q) h)
              ∙ ap (λ b. e.constant q +ℚ b) (same_sum d x (e.entry q) e.is_column (ie.no_other_entry q) ne);
          asked = there.asked ∙ ap (λ b. e.value +ℚ b) (same_sum d x e.coefficient e.is_column ie.no_other_coefficient ne);
        }
      where
        row : (q : ℕ) → d.is_row q ≡ true → (b : Bool) → hidden q ≡ b → filled d x q ≡ d.constant q +ℚ sum_below size (λ c. d.entry q c *ℚ filled d x c)
        row q h true f = filled_hidden d x q f ∙ ap (λ b. d.constant q +ℚ b) (sym (same_sum d x (d.entry q) d.is_column (id.no_other_entry q) nd))
        row q h false f =
            filled_shown d x q f ∙ s.rows q (ap (λ b. visible b (d.is_row q)) f ∙ h)
            ∙ ap (λ b. d.constant q +ℚ b) (sym (same_sum d x (d.entry q) d.is_column (id.no_other_entry q) nd))

  equivalent : (d e : Dictionary) → IsDictionary size d → IsDictionary size e → NoColumn hidden d → NoColumn hidden e → AreEquivalent size d e
      → AreEquivalent size (hide hidden d) (hide hidden e)
  equivalent d e id ie nd ne same x z = (over d e id ie nd ne same x z, over e d ie id ne nd (λ y w. ((same y w).1, (same y w).0)) x z)

-- ---- the exchange that is due, without the hidden rows
module _ (hidden restricted : ℕ → Bool) (unrestricted : (q : ℕ) → hidden q ≡ true → restricted q ≡ false) where
  clash : (b : Bool) → b ≡ true → b ≡ false → ⊥
  clash b h k = cc

  shown : (q : ℕ) → restricted q ≡ true → hidden q ≡ false
  shown q r = go (hidden q) refl
    where
      go : (b : Bool) → hidden q ≡ b → hidden q ≡ false
      go false e = e
      go true e = absurd (clash (restricted q) r (unrestricted q e))

  module _ (d : Dictionary) where
    raises_back : (c : ℕ) → Raises restricted (hide hidden d) c → Raises restricted d c
    raises_back c r = record { column = r.column; flag = r.flag; coefficient = r.coefficient }

    limits_back : (c q : ℕ) → Limits restricted (hide hidden d) c q → Limits restricted d c q
    limits_back c q m = record { row = visible_is (hidden q) (d.is_row q) m.row; flag = m.flag; falls = m.falls }

    pub still_due : (c r : ℕ) → IsDue restricted d c r → IsDue restricted (hide hidden d) c r
    still_due c r u = record {
      enters = record {
        raises = record { column = u.enters.raises.column; flag = u.enters.raises.flag; coefficient = u.enters.raises.coefficient };
        least = λ q s. u.enters.least q (raises_back q s);
      };
      leaves = record {
        limits = record {
          row = ap (λ b. visible b (d.is_row r)) (shown r u.leaves.limits.flag) ∙ u.leaves.limits.row;
          flag = u.leaves.limits.flag;
          falls = u.leaves.limits.falls;
        };
        least_ratio = λ q m. u.leaves.least_ratio q (limits_back c q m);
        least_number = λ q m e. u.leaves.least_number q (limits_back c q m) e;
      };
    }

  -- ---- chains
  least : ℕ → ℕ → ℕ
  least zero n = zero
  least (suc k) zero = zero
  least (suc k) (suc n) = suc (least k n)

  least_under : (k n : ℕ) → least k n ≤ n
  unfolding least
  least_under zero n = omega arith
  least_under (suc k) zero = omega arith
  least_under (suc k) (suc n) = let h = least_under k n in omega (arith, h)

  least_is : (k n : ℕ) → k ≤ n → least k n ≡ k
  unfolding least
  least_is zero n h = refl
  least_is (suc k) zero h = absurd (omega (arith, h))
  least_is (suc k) (suc n) h = ap suc (least_is k n (omega (arith, h)))

  module _ (size : ℕ) (first last : Dictionary) (n : ℕ) (ch : Chain size restricted first n last) (none : NoColumn hidden first) where
    still_none : (k : ℕ) → k ≤ n → NoColumn hidden (ch.stage k)
    still_none zero h q e = ap (λ (d : Dictionary). d.is_column q) ch.begins ∙ none q e
    still_none (suc k) h q e =
        let l : k < n = omega (arith, h) in
        (ch.exchanged k l).other_columns q
        (λ i. clash (restricted q) (subst (λ z. restricted z ≡ true) (sym i) (ch.due k l).enters.raises.flag) (unrestricted q e))
        (λ i. clash (restricted q) (subst (λ z. restricted z ≡ true) (sym i) (ch.due k l).leaves.limits.flag) (unrestricted q e))
        ∙ still_none k (omega (arith, h)) q e

    pub hidden_chain : Chain size restricted (hide hidden first) n (hide hidden last)
    unfolding least
    hidden_chain = record {
      stage = λ k. hide hidden (ch.stage (least k n));
      column = ch.column;
      row = ch.row;
      begins = ap (hide hidden) ch.begins;
      ends = ap (λ k. hide hidden (ch.stage k)) (least_is n n (omega arith)) ∙ ap (hide hidden) ch.ends;
      is = λ k. hidden_dictionary size hidden (ch.stage (least k n)) (ch.is (least k n));
      alike = λ k.
          equivalent size hidden first (ch.stage (least k n)) (subst (IsDictionary size) ch.begins (ch.is 0)) (ch.is (least k n)) none
          (still_none (least k n) (least_under k n)) (ch.alike (least k n));
      due = λ k h.
          subst (λ j. IsDue restricted (hide hidden (ch.stage j)) (ch.column k) (ch.row k)) (sym (least_is k n (omega (arith, h))))
          (still_due (ch.stage k) (ch.column k) (ch.row k) (ch.due k h));
      exchanged = λ k h.
          subst (λ j. Exchanged (hide hidden (ch.stage j)) (ch.column k) (ch.row k) (hide hidden (ch.stage (least (suc k) n)))) (sym (least_is k n (omega (arith, h))))
          (subst (λ j. Exchanged (hide hidden (ch.stage k)) (ch.column k) (ch.row k) (hide hidden (ch.stage j))) (sym (least_is (suc k) n (omega (arith, h))))
          (exchange k h));
    }
      where
        exchange : (k : ℕ) → k < n → Exchanged (hide hidden (ch.stage k)) (ch.column k) (ch.row k) (hide hidden (ch.stage (suc k)))
        exchange k h =
            let x = ch.exchanged k h in
            record {
              row = ap (λ b. visible b ((ch.stage (suc k)).is_row (ch.column k))) (shown (ch.column k) (ch.due k h).enters.raises.flag) ∙ x.row;
              column = x.column;
              other_rows = λ q a b. ap (visible (hidden q)) (x.other_rows q a b);
              other_columns = x.other_columns;
            }
