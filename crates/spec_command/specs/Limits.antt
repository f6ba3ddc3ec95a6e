-- The limits of the command, each as a numeral: whoever changes a number of the code changes this definition with it.
use Rattle.std.specs.Prelude.{◌≡◌}
use Rattle.cq_outside.specs.declared.shelf.TheConstants.{SIZE_LIMIT}
use Rattle.cq_words.specs.declared.run.TheConstants.{MOST, STEPS, PIVOTS, ANSWERS, GREATEST}

-- How many goals, exchanges of one maximisation, and answers a query may take where no option says otherwise; the greatest number of
-- an option, and of `gen`; and how many bytes a file or the input may have.
abbrev pub AreLimits : Type 0
AreLimits = (STEPS ≡ 1000000) × (PIVOTS ≡ 10000) × (ANSWERS ≡ 1000) × (MOST ≡ 1000000000) × (GREATEST ≡ 200) × (SIZE_LIMIT ≡ 16777216)
