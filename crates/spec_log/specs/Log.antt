-- A log of lists of linear constraints that have no solution, as text: each list with a certificate that refutes it.
use Rattle.std.specs.Prelude.{◌≡◌, ◌≢◌, ℕ, suc, ◌+◌, ◌<◌, ◌≤◌, List, [], ◌∷◌, ◌++◌, length, map, max, codes, ⊤}
use Rattle.std.specs.List.{AllByRecursion, join_with_byte, concat}
use Rattle.std.specs.Fmt.{decimal}
use Rattle.spec_numbers.specs.Texts.{Text}
use Rattle.spec_numbers.specs.Rational.{ℚ, 0ℚ}
use Rattle.spec_numbers.specs.Sums.{Monomial}
use Rattle.spec_linear.specs.declared.Relation.{Relation}
use Rattle.spec_linear.specs.declared.Relation.TheVariants.{Eq, Gt, Ge, Ne}
use Rattle.spec_linear.specs.Solution.{Constraint}
use Rattle.spec_linear.specs.Certificate.{IsFalseRun, AreFalseRuns}
use Rattle.cq_frac.specs.Fits.{Fits, limit}
use Rattle.cq_frac.specs.Text.{number_text}

-- ---- what stands in a log

-- members of a list by their numbers, from 1, each with its multiplier
abbrev pub Run : Type 0
Run = List (ℕ × ℚ)

-- the runs of a certificate: one, or two that each begin with one disequation
pub data Runs : Type 0 where
  one : Run → Runs
  two : Run → Run → Runs

-- a list whose variables are numbered from 1, and what refutes it
pub record Entry : Type 0 where
  pub list : List Constraint
  pub runs : Runs

-- the certificate that the runs are
abbrev pub certificate : Runs → Run
certificate (one r) = r
certificate (two r s) = r ++ s

-- ---- lines, as the words between their blanks

-- the form stands to zero so: `eq` = 0, `gt` > 0, `ge` >= 0, `ne` =\= 0
abbrev pub relation_word : Relation → Text
relation_word Eq = codes "eq"
relation_word Gt = codes "gt"
relation_word Ge = codes "ge"
relation_word Ne = codes "ne"

-- a number, `:`, and a number or fraction: a variable and its coefficient, or a member and its multiplier
abbrev pub pair_word : ℕ × ℚ → Text
pair_word p = join_with_byte 58 (decimal p.0 ∷ number_text p.1 ∷ [])

-- a variable and its coefficient
abbrev pub product_pair : Monomial → ℕ × ℚ
product_pair m = (m.variable, m.factor)

-- the relation, the constant, and each variable with its coefficient
abbrev pub member_words : Constraint → List Text
member_words c = relation_word c.relation ∷ number_text c.form.constant ∷ map (λ m. pair_word (product_pair m)) c.form.products

-- `run`, and each member with its multiplier
abbrev pub run_words : Run → List Text
run_words r = codes "run" ∷ map pair_word r

-- a line for each run
abbrev pub runs_words : Runs → List (List Text)
runs_words (one r) = run_words r ∷ []
runs_words (two r s) = run_words r ∷ run_words s ∷ []

-- `list`, and how many members follow
abbrev pub list_words : ℕ → List Text
list_words n = codes "list" ∷ decimal n ∷ []

-- how many members, a line for each, and a line for each run
abbrev pub entry_words : Entry → List (List Text)
entry_words e = list_words (length e.list) ∷ map member_words e.list ++ runs_words e.runs

-- the first line of a log
abbrev pub head_words : List Text
head_words = codes "clpq" ∷ codes "proof" ∷ codes "1" ∷ []

-- `done`, and how many entries there are
abbrev pub done_words : ℕ → List Text
done_words n = codes "done" ∷ decimal n ∷ []

-- the lines of one entry after the other
abbrev pub entries_words : List Entry → List (List Text)
entries_words [] = []
entries_words (e ∷ es) = entry_words e ++ entries_words es

-- ---- texts

-- the words with a blank between each two, and a line feed
abbrev pub line_text : List Text → Text
line_text ws = join_with_byte 32 ws ++ 10 ∷ []

-- the lines one behind the other
abbrev pub lines_text : List (List Text) → Text
lines_text ls = concat (map line_text ls)

-- the head, the entries in order, and how many there are
abbrev pub log_text : List Entry → Text
log_text es = lines_text (head_words ∷ entries_words es ++ done_words (length es) ∷ [])

-- ---- which variables' numbers a list has

-- Where the variables up to `seen` have occurred in the list, and those up to `last` in this member: each is greater than the one
-- before it in the member, and at most one more than all before it in the list. No factor is zero.
abbrev pub AreCounted : ℕ → ℕ → List Monomial → Type 0
AreCounted seen last [] = ⊤
AreCounted seen last (m ∷ s) = (last < m.variable) × (m.variable ≤ suc seen) × (m.factor ≢ 0ℚ) × AreCounted (max seen m.variable) m.variable s

-- the greatest number up to there
abbrev pub seen_after : ℕ → List Monomial → ℕ
seen_after seen [] = seen
seen_after seen (m ∷ s) = seen_after (max seen m.variable) s

-- numbers from 1, by first occurrence in the list
abbrev pub IsNumbered : ℕ → List Constraint → Type 0
IsNumbered seen [] = ⊤
IsNumbered seen (c ∷ cs) = AreCounted seen 0 c.form.products × IsNumbered (seen_after seen c.form.products) cs

-- ---- which numbers may stand in a log: those of 128 bits

-- both numbers of the pair are of 128 bits
abbrev pub PairFits : ℕ × ℚ → Type 0
PairFits p = (p.0 < limit) × Fits p.1

-- the member's constant, its variables and their coefficients are
abbrev pub MemberFits : Constraint → Type 0
MemberFits c = Fits c.form.constant × AllByRecursion (λ m. PairFits (product_pair m)) c.form.products

-- those of all runs are
abbrev pub RunsFit : Runs → Type 0
RunsFit (one r) = AllByRecursion PairFits r
RunsFit (two r s) = AllByRecursion PairFits r × AllByRecursion PairFits s

-- ---- what refutes a list

-- The two runs together refute the list by a disequation, and the second begins at the disequation's second entry.
pub record AreCut (l : List Constraint) (r s : Run) : Type 0 where
  pub together : AreFalseRuns l (r ++ s)
  pub cut : r ≡ (together.number, together.up) ∷ together.first

-- one line is a run that no solution of the list allows; two are those of a certificate by a disequation
abbrev pub AreRefuting : List Constraint → Runs → Type 0
AreRefuting l (one r) = IsFalseRun l r
AreRefuting l (two r s) = AreCut l r s

-- ---- a log

-- its variables are numbered by first occurrence, its runs refute its list, and all its numbers fit
pub record IsLawful (e : Entry) : Type 0 where
  pub numbered : IsNumbered 0 e.list
  pub refuted : AreRefuting e.list e.runs
  pub size : length e.list < limit
  pub members : AllByRecursion MemberFits e.list
  pub runs : RunsFit e.runs

-- the text is the log of so many entries, each with a certificate that refutes its list
pub record IsLog (n : ℕ) (text : Text) : Type 0 where
  pub entries : List Entry
  pub count : length entries ≡ n
  pub fits : n < limit
  pub is_text : text ≡ log_text entries
  pub lawful : AllByRecursion IsLawful entries
