-- The course of gen's query that isn't stopped, from its beginning to its line.
use Rattle.std.proofs.Common.{◌≡◌, ◌∙◌, ◌<◌, ℕ, suc, [], ◌∷◌, false, pos, refl, ap, arith}
use Rattle.spec_numbers.specs.Texts.{Text}
use Rattle.spec_numbers.specs.Rational.{ℚ, int_ℚ}
use Rattle.spec_linear.specs.Solution.{Solves}
use Rattle.spec_branch.specs.Branch.{State, Branch, Pending}
use Rattle.spec_branch.specs.Settling.{Settles, Kept}
use Rattle.spec_search.specs.Replies.{with_equations}
use Rattle.spec_search.specs.Search.{Search, Selecting, look_at}
use Rattle.spec_search.specs.Turns.{after_removal, after_step, with_branches}
use Rattle.spec_command.specs.Outcome.{GenFrom, GenWrites, gen_budgets, gen_line, value_text}
use Rattle.spec_text.specs.Numbers.{whole_text}
use Rattle.spec_text.specs.Written.{writeq}
use Rattle.spec_command.specs.Query as query
use Rattle.spec_command.specs.Query.{least}
use Rattle.spec_command.proofs.Beginning.{IsFree, begins, free_after, look_after, taken_apart}
use Rattle.spec_command.proofs.Bound.{met_there, there}
use Rattle.spec_command.proofs.Telling as told
use Rattle.spec_command.proofs.Telling.{items, work, telling, tells, solutions}
use Rattle.spec_command.proofs.Knowing.{Knows, knows}
use Rattle.spec_command.proofs.Asking.{answering, asks}
use Rattle.spec_command.proofs.Answering.{not_pruned, pairs, answers_with}
use Rattle.spec_command.proofs.Written.{whole_written}
use Rattle.spec_command.proofs.Courses.{settles, answers, ends}

-- a search whose only branch was kept
abbrev keeping : Pending → Branch → Search → Search
keeping p b s = record s { database = after_removal p.removes s.database; branches = b ∷ [] }

module _ (k : ℕ) (small : k < 200) (line : Text) where
  abbrev From : Search → Type 0
  From s = GenFrom gen_budgets (suc k) line false 0 [] s

  abbrev q : ℚ
  q = int_ℚ (pos (least k))

  module _ (st : State) (free : IsFree (suc k) line st) where
    -- from a branch on that knows the constraints
    module _ (b : Branch) (h : Settles (items k line st free) st (work k line st free) (Kept b)) where
      known : Knows k line b
      known = knows k line st free b h

      solved : Solves there b.state.linear
      solved = ((solutions k line st free b h there).1 (met_there k small)).solves

      abbrev after_asking : Search → Search
      after_asking s = after_step s (answering k small line b known (solutions k line st free b h) s) []

      abbrev unifying : Pending
      unifying = with_equations (pairs (suc k) q)

      answered : (s : Search) (c : Branch) → Settles [] b.state unifying (Kept c) → From (keeping unifying c (after_asking s)) → line ≡ gen_line (suc k) (whole_text (least k)) 1
      answered s c settled from =
          let e = answers_with k line b known q c settled in
          let more = answers gen_budgets (suc k) line 0 [] (keeping unifying c (after_asking s)) c.state [] e.0 (omega arith) from in
          ends gen_budgets (suc k) line 1 (value_text (suc k) s.database.operators c.state) (with_branches [] (keeping unifying c (after_asking s))) refl more
          ∙ ap (λ t. gen_line (suc k) (writeq s.database.operators t) 1) e.1
          ∙ ap (λ v. gen_line (suc k) v 1) (whole_written s.database.operators (least k))

      asked_for : (s : Search) → s.branches ≡ b ∷ [] → From s → line ≡ gen_line (suc k) (whole_text (least k)) 1
      asked_for s is from =
          let (c, settled, more) = settles gen_budgets (suc k) line 0 [] (after_asking s) [] b.state unifying [] refl (not_pruned k line b known q there solved)
          (asks k small line b known (solutions k line st free b h) s is from) in
          answered s c settled more

    told_then : (s : Search) (is : look_at s.branches ≡ Selecting (query.told (suc k)) 0 (items k line st free) st []) → From s → line ≡ gen_line (suc k) (whole_text (least k)) 1
    told_then s is from =
        let (b, settled, more) = settles gen_budgets (suc k) line 0 [] (after_step s (telling k line st free s is) []) (items k line st free) st (work k line st free) [] refl (told.not_pruned k line st free small)
        (tells k line st free s is from) in
        asked_for b settled (keeping (work k line st free) b (after_step s (telling k line st free s is) [])) refl more

  pub whole_line : GenWrites (suc k) line false → line ≡ gen_line (suc k) (whole_text (least k)) 1
  whole_line from =
      let (c, same, more) = begins (suc k) line from in
      told_then c.state (free_after (suc k) line c same) (record (taken_apart (suc k) line) { branches = c ∷ [] }) (look_after (suc k) line c same) more
