-- The standard order of terms.
use Rattle.std.specs.Prelude.{ℕ}
use Rattle.std.specs.declared.cmp.Ordering.{Ordering}
use Rattle.std.specs.declared.cmp.Ordering.TheVariants.{Less, Greater}
use Rattle.std.specs.Ordering.{nat_cmp, ordering_then}
use Rattle.std.specs.Cmp.Lexicographic.{slice_cmp}
use Rattle.spec_numbers.specs.Order.{cmp_ℚ}
use Rattle.spec_terms.specs.Term.{Term, Terms, Var, Number, Name, Compound, one, more, count}
use Rattle.spec_numbers.specs.Texts.{Text}

-- the first byte that differs decides; a text stands before those that go on after it
abbrev pub compare_texts : Text → Text → Ordering
compare_texts a b = slice_cmp nat_cmp a b

-- variables stand before numbers, numbers before atoms, atoms before compounds
abbrev pub rank : Term Text → ℕ
rank (Var v) = 0
rank (Number q) = 1
rank (Name a) = 2
rank (Compound f ts) = 3

-- the standard order of terms, and of lists of arguments
abbrev mutual
  -- variables by age, the older first; numbers by value; atoms by their texts; compounds by how many arguments,
  -- then by name, then by the arguments from left to right
  pub compare_terms : Term Text → Term Text → Ordering
  compare_terms (Var v) (Var w) = nat_cmp v w
  compare_terms (Number p) (Number q) = cmp_ℚ p q
  compare_terms (Name a) (Name b) = compare_texts a b
  compare_terms (Compound f ts) (Compound g us) = ordering_then (nat_cmp (count ts) (count us)) (ordering_then (compare_texts f g) (compare_all ts us))
  compare_terms t u = nat_cmp (rank t) (rank u)

  -- the first arguments that differ decide
  pub compare_all : Terms Text → Terms Text → Ordering
  compare_all (one t) (one u) = compare_terms t u
  compare_all (more t ts) (more u us) = ordering_then (compare_terms t u) (compare_all ts us)
  compare_all (one t) (more u us) = Less
  compare_all (more t ts) (one u) = Greater
