-- What a check of a text as a log finds, line by line: so many entries, or the first line that is wrong, or at which a sum is too wide.
use Rattle.std.specs.Prelude.{ℕ, zero, suc, ◌+◌, ◌-◌, List, [], ◌∷◌, ◌++◌, length, max, codes, bytes_eq, Bool, true, false, if◌then◌else◌, not, ◌&&◌, ◌||◌, ◌==◌, nat_eq, nat_le, nat_lt, nat_abs, pos, ◌+ℤ◌, Option, Some, None}
use Rattle.std.specs.declared.cmp.Ordering.{Ordering}
use Rattle.std.specs.declared.cmp.Ordering.TheVariants.{Less, Equal, Greater}
use Rattle.std.specs.List.{list_all, list_any, slice_split}
use Rattle.std.specs.Fmt.{decimal}
use Rattle.std.specs.Str.Parse.{digits_value}
use Rattle.spec_numbers.specs.Texts.{Text}
use Rattle.spec_numbers.specs.Rational.{ℚ, 0ℚ, ratio, denominator, ◌*ℚ◌, neg_ℚ}
use Rattle.spec_numbers.specs.Order.{cmp_ℚ}
use Rattle.spec_numbers.specs.Sums.{Monomial}
use Rattle.spec_linear.specs.declared.Relation.{Relation}
use Rattle.spec_linear.specs.declared.Relation.TheVariants.{Eq, Gt, Ge, Ne}
use Rattle.spec_linear.specs.Form.{Linear, is_zero, is_empty, sum_form, scaled_form, constant_form}
use Rattle.spec_linear.specs.Solution.{Constraint}
use Rattle.spec_linear.specs.Certificate.{member, form_or_zero}
use Rattle.cq_frac.specs.Fits.{limit, left_term, right_term, common_den}
use Rattle.spec_log.specs.declared.Verdict.{Verdict}
use Rattle.spec_log.specs.declared.Verdict.TheVariants.{Accepted, Wrong, Wide}
use Rattle.spec_log.specs.Log.{Run, seen_after}

-- ---- numbers

-- the number fits into 128 bits
abbrev pub within : ℕ → Bool
within n = nat_lt n limit

-- a whole number that fits; what was read is written again, so that each has one spelling
abbrev pub whole_in : Text → Option ℕ
whole_in w = if bytes_eq (decimal (digits_value 10 w)) w && within (digits_value 10 w) then Some (digits_value 10 w) else None

-- a whole number as a fraction
abbrev pub whole_number : Option ℕ → Option ℚ
whole_number (Some a) = Some (ratio (pos a) 1)
whole_number None = None

-- the fraction has these parts in lowest terms
abbrev pub is_lowest : ℕ → ℕ → Bool
is_lowest a b = nat_eq (nat_abs (ratio (pos a) b).numerator) a && nat_eq (denominator (ratio (pos a) b)) b

-- a fraction that is no whole number, in lowest terms
abbrev pub lowest_in : Option ℕ → Option ℕ → Option ℚ
lowest_in (Some a) (Some b) = if nat_lt 1 b && is_lowest a b then Some (ratio (pos a) b) else None
lowest_in a b = None

-- what stands before and behind `r`, or the one number where no `r` stands
abbrev pub parts_in : List Text → Option ℚ
parts_in (a ∷ []) = whole_number (whole_in a)
parts_in (a ∷ b ∷ []) = lowest_in (whole_in a) (whole_in b)
parts_in ws = None

-- N, or N `r` D
abbrev pub unsigned_in : Text → Option ℚ
unsigned_in w = parts_in (slice_split (λ b. b == 114) w)

-- what is not zero, with the other sign
abbrev pub negated_in : Option ℚ → Option ℚ
negated_in (Some q) = if is_zero q then None else Some (neg_ℚ q)
negated_in None = None

-- a number or a fraction in lowest terms, with `-` in front where it is below zero
abbrev pub fraction_in : Text → Option ℚ
fraction_in [] = None
fraction_in (b ∷ bs) = if b == 45 then negated_in (unsigned_in bs) else unsigned_in (b ∷ bs)

-- both, if both are there
abbrev pub both : {A B : Type 0} → Option A → Option B → Option (A × B)
both (Some a) (Some b) = Some (a, b)
both a b = None

-- what stands before and behind `:`
abbrev pub pair_of : List Text → Option (ℕ × ℚ)
pair_of (v ∷ q ∷ []) = both (whole_in v) (fraction_in q)
pair_of ws = None

-- a number, `:`, and a number or fraction
abbrev pub pair_in : Text → Option (ℕ × ℚ)
pair_in w = pair_of (slice_split (λ b. b == 58) w)

-- one more in front, if it and the others are there
abbrev pub in_front : {A : Type 0} → Option A → Option (List A) → Option (List A)
in_front (Some a) (Some s) = Some (a ∷ s)
in_front a s = None

-- each word as a pair
abbrev pub pairs_in : List Text → Option (List (ℕ × ℚ))
pairs_in [] = Some []
pairs_in (w ∷ ws) = in_front (pair_in w) (pairs_in ws)

-- ---- lines

-- the relation of a word, if it is one
abbrev pub relation_in : Text → Option Relation
relation_in w =
    if bytes_eq (codes "eq") w then Some Eq else if bytes_eq (codes "gt") w then Some Gt
    else if bytes_eq (codes "ge") w then Some Ge else if bytes_eq (codes "ne") w then Some Ne else None

-- variables' numbers in order and by first occurrence, where those up to `seen` have occurred, the last one of them in this member
abbrev pub are_counted : ℕ → ℕ → List (ℕ × ℚ) → Bool
are_counted seen last [] = true
are_counted seen last (p ∷ ps) = nat_lt last p.0 && nat_le p.0 (suc seen) && not (is_zero p.1) && are_counted (max seen p.0) p.0 ps

-- variables with their coefficients as products
abbrev pub products_of : List (ℕ × ℚ) → List Monomial
products_of [] = []
products_of (p ∷ ps) = record { variable = p.0; factor = p.1 } ∷ products_of ps

-- a member of its relation, its constant and its pairs
abbrev pub constraint_of : Relation → ℚ → List (ℕ × ℚ) → Constraint
constraint_of r q ps = record { relation = r; form = record { products = products_of ps; constant = q } }

-- the member, if its parts are there and its variables are numbered as they must be
abbrev pub member_by : ℕ → Option Relation → Option ℚ → Option (List (ℕ × ℚ)) → Option Constraint
member_by seen (Some r) (Some q) (Some ps) = if are_counted seen 0 ps then Some (constraint_of r q ps) else None
member_by seen r q ps = None

-- a relation, a constant, and variables with their coefficients
abbrev pub member_in : ℕ → List Text → Option Constraint
member_in seen (r ∷ q ∷ ws) = member_by seen (relation_in r) (fraction_in q) (pairs_in ws)
member_in seen ws = None

-- the numbers are those of members
abbrev pub are_members : ℕ → Run → Bool
are_members n r = list_all (λ e. nat_lt 0 e.0 && nat_le e.0 n) r

-- the run, if it has an entry and its numbers are those of members
abbrev pub run_by : ℕ → Option Run → Option Run
run_by n None = None
run_by n (Some []) = None
run_by n (Some (e ∷ r)) = if are_members n (e ∷ r) then Some (e ∷ r) else None

-- a run over so many members, of one entry at least
abbrev pub run_in : ℕ → List Text → Option Run
run_in n [] = None
run_in n (w ∷ ws) = if bytes_eq (codes "run") w then run_by n (pairs_in ws) else None

-- the line is meant to be a run
abbrev pub begins_a_run : List Text → Bool
begins_a_run [] = false
begins_a_run (w ∷ ws) = bytes_eq (codes "run") w

-- a word and a number
abbrev pub counted_in : Text → List Text → Option ℕ
counted_in word (w ∷ n ∷ []) = if bytes_eq word w then whole_in n else None
counted_in word ws = None

-- the first line of a log
abbrev pub is_head : List Text → Bool
is_head (a ∷ b ∷ c ∷ []) = bytes_eq (codes "clpq") a && bytes_eq (codes "proof") b && bytes_eq (codes "1") c
is_head ws = false

-- ---- sums

-- the multiplier times the member's form
abbrev pub multiple : List Constraint → ℕ × ℚ → Linear
multiple l e = scaled_form e.1 (form_or_zero (member l e.0))

-- the multiples added to a form, one after the other
abbrev pub added : List Constraint → Linear → Run → Linear
added l sum [] = sum
added l sum (e ∷ r) = added l (sum_form sum (multiple l e)) r

-- the multiples of the members of a run, added up
abbrev pub sum_of : List Constraint → Run → Linear
sum_of l r = added l (constant_form 0ℚ) r

-- the numerator or the denominator does not fit
abbrev pub exceeds : ℚ → Bool
exceeds q = not (within (nat_abs q.numerator) && within (denominator q))

-- one of the four numbers that the sum of two numbers goes through does not fit
abbrev pub sum_exceeds : ℚ → ℚ → Bool
sum_exceeds p q =
    not (within (nat_abs (left_term p q)) && within (nat_abs (right_term p q)) && within (nat_abs (left_term p q +ℤ right_term p q)) && within (common_den p q))

-- the number times a coefficient or the constant does not fit
abbrev pub multiple_exceeds : ℚ → Linear → Bool
multiple_exceeds k f = exceeds (k *ℚ f.constant) || list_any (λ (m : Monomial). exceeds (k *ℚ m.factor)) f.products

-- the coefficient has the variable, and its sum with the product's is refused
abbrev pub meets_exceeding : Monomial → Monomial → Bool
meets_exceeding m o = nat_eq m.variable o.variable && sum_exceeds m.factor o.factor

-- the sum of two coefficients of one variable, or of the constants, is refused
abbrev pub join_exceeds : Linear → Linear → Bool
join_exceeds f g = sum_exceeds f.constant g.constant || list_any (λ (m : Monomial). list_any (meets_exceeding m) g.products) f.products

-- behind what was added up, some member's multiple or its sum with that is refused
abbrev pub is_wide_behind : List Constraint → Linear → Run → Bool
is_wide_behind l sum [] = false
is_wide_behind l sum (e ∷ r) =
    multiple_exceeds e.1 (form_or_zero (member l e.0)) || join_exceeds sum (multiple l e) || is_wide_behind l (sum_form sum (multiple l e)) r

-- some number on the way to the sum of a run does not fit
abbrev pub is_wide : List Constraint → Run → Bool
is_wide l r = is_wide_behind l (constant_form 0ℚ) r

-- ---- certificates

-- the first of the two compared is the lesser
abbrev pub is_less : Ordering → Bool
is_less Less = true
is_less Equal = false
is_less Greater = false

-- the number is less than 0
abbrev pub is_below_zero : ℚ → Bool
is_below_zero q = is_less (cmp_ℚ q 0ℚ)

-- the number is greater than 0
abbrev pub is_above_zero : ℚ → Bool
is_above_zero q = is_less (cmp_ℚ 0ℚ q)

-- what may multiply a constraint: any number an equation, one not below zero an inequality, none a disequation
abbrev pub allows : Relation → ℚ → Bool
allows Eq q = true
allows Gt q = not (is_below_zero q)
allows Ge q = not (is_below_zero q)
allows Ne q = false

-- the member is there, and may be multiplied so
abbrev pub is_allowed_in : Option Constraint → ℚ → Bool
is_allowed_in None q = false
is_allowed_in (Some c) q = allows c.relation q

-- each entry of a run is allowed
abbrev pub are_allowed : List Constraint → Run → Bool
are_allowed l r = list_all (λ e. is_allowed_in (member l e.0) e.1) r

-- the relation is >
abbrev pub is_strict : Relation → Bool
is_strict Eq = false
is_strict Gt = true
is_strict Ge = false
is_strict Ne = false

-- the member is there, and strict
abbrev pub is_strict_in : Option Constraint → Bool
is_strict_in None = false
is_strict_in (Some c) = is_strict c.relation

-- some strict member has a multiplier above zero
abbrev pub some_strict : List Constraint → Run → Bool
some_strict l r = list_any (λ e. is_strict_in (member l e.0) && is_above_zero e.1) r

-- the sum has no variable, and its constant is below zero, or is zero with a strict member's multiple in it
abbrev pub is_false_run : List Constraint → Run → Bool
is_false_run l r =
    are_allowed l r && is_empty (sum_of l r).products
    && (is_below_zero (sum_of l r).constant || (is_zero (sum_of l r).constant && some_strict l r))

-- the same of a run behind an entry whose weighted form is taken to be above zero
abbrev pub is_false_behind : List Constraint → ℕ × ℚ → Run → Bool
is_false_behind l e r = are_allowed l r && is_empty (sum_of l (e ∷ r)).products && not (is_above_zero (sum_of l (e ∷ r)).constant)

-- the relation is =\=
abbrev pub is_disequation : Relation → Bool
is_disequation Eq = false
is_disequation Gt = false
is_disequation Ge = false
is_disequation Ne = true

-- the member is there, and a disequation
abbrev pub is_disequation_in : Option Constraint → Bool
is_disequation_in None = false
is_disequation_in (Some c) = is_disequation c.relation

-- two runs behind entries of one disequation, of which the first has a multiplier above zero and the second one below
abbrev pub are_false_runs : List Constraint → Run → Run → Bool
are_false_runs l (d ∷ r) (e ∷ s) =
    nat_eq d.0 e.0 && is_disequation_in (member l d.0) && is_above_zero d.1 && is_below_zero e.1 && is_false_behind l d r && is_false_behind l e s
are_false_runs l r s = false

-- ---- the check, line by line

-- Where it stands: before the first line; where a list or the end comes; in a list, where so many members are still to come, variables up
-- to a number have occurred, and these members were there; behind the members; behind a first run; at the end. Each knows how many
-- entries there were.
pub data State : Type 0 where
  Start : State
  Between : ℕ → State
  Listing : ℕ → ℕ → ℕ → List Constraint → State
  Proving : ℕ → List Constraint → State
  Proved : ℕ → List Constraint → Run → State
  Ended : ℕ → State

-- behind a line the check goes on, or it ends
pub data Found : Type 0 where
  goes : State → Found
  ends : Verdict → Found

-- what comes where so many members of a list are to come, and those before are these
abbrev pub listing : ℕ → ℕ → ℕ → List Constraint → State
listing k zero seen l = Proving k l
listing k (suc left) seen l = Listing k (suc left) seen l

-- the end, if the number that it gives is that of the entries before it
abbrev pub ended_if : ℕ → ℕ → Option ℕ → Found
ended_if line k None = ends (Wrong line)
ended_if line k (Some n) = if nat_eq n k then goes (Ended k) else ends (Wrong line)

-- a list of so many members where the line begins one, else the end
abbrev pub list_or : ℕ → ℕ → List Text → Option ℕ → Found
list_or line k ws (Some n) = goes (listing k n 0 [])
list_or line k ws None = ended_if line k (counted_in (codes "done") ws)

-- a list or the end
abbrev pub between : ℕ → ℕ → List Text → Found
between line k ws = list_or line k ws (counted_in (codes "list") ws)

-- one member more, if the line is one
abbrev pub listed : ℕ → ℕ → ℕ → ℕ → List Constraint → Option Constraint → Found
listed line k left seen l None = ends (Wrong line)
listed line k left seen l (Some c) = goes (listing k left (seen_after seen c.form.products) (l ++ c ∷ []))

-- a first run, if the line is one and no sum in it is too wide
abbrev pub proved : ℕ → ℕ → List Constraint → Option Run → Found
proved line k l None = ends (Wrong line)
proved line k l (Some r) = if is_wide l r then ends (Wide line) else goes (Proved k l r)

-- a second run, which with the first is to refute the list
abbrev pub proved_twice : ℕ → ℕ → List Constraint → Run → Option Run → Found
proved_twice line k l r None = ends (Wrong line)
proved_twice line k l r (Some s) =
    if is_wide l s then ends (Wide line) else if are_false_runs l r s then goes (Between (suc k)) else ends (Wrong line)

-- a line of this number
abbrev pub step : ℕ → State → List Text → Found
step line Start ws = if is_head ws then goes (Between 0) else ends (Wrong line)
step line (Between k) ws = between line k ws
step line (Listing k zero seen l) ws = ends (Wrong line)
step line (Listing k (suc left) seen l) ws = listed line k left seen l (member_in seen ws)
step line (Proving k l) ws = proved line k l (run_in (length l) ws)
step line (Proved k l r) ws =
    if begins_a_run ws then proved_twice line k l r (run_in (length l) ws)
    else if is_false_run l r then between line (suc k) ws else ends (Wrong (line - 1))
step line (Ended k) ws = ends (Wrong line)

-- what follows the last line feed: nothing, or a line that is not ended
abbrev pub finish : ℕ → State → Text → Verdict
finish line (Ended k) [] = Accepted k
finish line (Proved k l r) w = if begins_a_run (slice_split (λ b. b == 32) w) || is_false_run l r then Wrong line else Wrong (line - 1)
finish line st w = Wrong line

-- lines from this number on, and what follows the last line feed
abbrev pub check_from : ℕ → State → List Text → Verdict
check_from line st [] = Wrong line
check_from line st (w ∷ []) = finish line st w
check_from line st (w ∷ v ∷ ws) = elim (step line st (slice_split (λ b. b == 32) w)) [ goes next ↦ check_from (suc line) next (v ∷ ws) | ends v ↦ v ]

-- what the check of a text finds, from its first line on
abbrev pub verdict : Text → Verdict
verdict text = check_from 1 Start (slice_split (λ b. b == 10) text)
