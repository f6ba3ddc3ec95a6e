-- The turns of a search, and what they show.
use Rattle.std.specs.Prelude.{◌≡◌, ℕ, suc, List, [], ◌∷◌, ◌++◌, length, Option, Some, None}
use Rattle.cq_frac.specs.declared.Pair.{Pair}
use Rattle.spec_numbers.specs.Texts.{Text}
use Rattle.spec_syntax.specs.Operators.{Ops}
use Rattle.spec_syntax.specs.Trees.{Tree}
use Rattle.spec_branch.specs.Branch.{State, Copied, Item, Branch, Pending, read, IsCopy}
use Rattle.spec_branch.specs.Settling.{Settles, Kept, Pruned, Why}
use Rattle.spec_search.specs.Database.{Database, clause_removed}
use Rattle.spec_search.specs.Replies as reply
use Rattle.spec_search.specs.Replies.{Place, Made}
use Rattle.spec_search.specs.Rows.{reply_of}
use Rattle.spec_search.specs.Steps.{Steps, Ball, Children}
use Rattle.spec_search.specs.Balls.{last, handed}
use Rattle.spec_search.specs.Search.{Search, gather, Over, Settling, Moving, Collecting, Selecting, Answering, look_at}

-- what a turn shows: output, which may be empty; an answer, with the operators of the moment; a ball that nothing
-- catches; or that no branch is left
pub data Event : Type 0 where
  Wrote : Text → Event
  Answered : State → Ops → Event
  Threw : Copied → Event
  Ended : Event

-- ---- the search after a turn

-- the search with these branches
abbrev pub with_branches : List Branch → Search → Search
with_branches bs s = record s { branches = bs }

-- the clause of a kept child is removed
abbrev pub after_removal : Option ℕ → Database → Database
after_removal None db = db
after_removal (Some n) db = clause_removed n db

-- where the front goal of a branch is selected
abbrev pub place_of : Search → State → List Item → ℕ → List Branch → Place
place_of s st rest cut bs = record { database = s.database; state = st; rest = rest; cut = cut; height = length bs }

-- the older branches that are left
abbrev pub older : Option ℕ → List Branch → List Branch
older None bs = bs
older (Some k) bs = last k bs

-- one more goal was selected, and its children stand in place of its branch
abbrev pub after_step : Search → Made → List Branch → Search
after_step s m bs = record { database = m.database; branches = m.children ++ older m.keeps bs; selected = suc s.selected }

-- one more goal was selected, and raised a ball
abbrev pub after_ball : Search → List Branch → Search
after_ball s bs = record s { branches = bs; selected = suc s.selected }

-- ---- turns

-- one turn, by the first branch
pub data Turn (s : Search) : Event → Search → Type 0 where
  keeps : {items : List Item} {st : State} {p : Pending} {bs : List Branch} {b : Branch}
      → look_at s.branches ≡ Settling items st p bs → Settles items st p (Kept b)
      → Turn s (Wrote []) (record s { database = after_removal p.removes s.database; branches = b ∷ bs })
  prunes : {items : List Item} {st : State} {p : Pending} {bs : List Branch} {why : Why}
      → look_at s.branches ≡ Settling items st p bs → Settles items st p (Pruned why) → p.ball ≡ None
      → Turn s (Wrote []) (with_branches bs s)
  -- a catch that doesn't take its ball hands it on to the next one outwards
  hands_on : {items : List Item} {st : State} {p : Pending} {bs next : List Branch} {why : Why} {ball : Copied}
      → look_at s.branches ≡ Settling items st p bs → Settles items st p (Pruned why) → p.ball ≡ Some ball
      → handed ball items bs ≡ Some next → Turn s (Wrote []) (with_branches next s)
  escapes : {items : List Item} {st : State} {p : Pending} {bs : List Branch} {why : Why} {ball : Copied}
      → look_at s.branches ≡ Settling items st p bs → Settles items st p (Pruned why) → p.ball ≡ Some ball
      → handed ball items bs ≡ None → Turn s (Threw ball) (with_branches [] s)
  moves : {bs : List Branch} → look_at s.branches ≡ Moving bs → Turn s (Wrote []) (with_branches bs s)
  collects : {k : ℕ} {t : Tree} {st : State} {bs : List Branch} {c : Copied}
      → look_at s.branches ≡ Collecting k t st bs → IsCopy st t c
      → Turn s (Wrote []) (with_branches (gather k c bs) s)
  steps : {goal : Tree} {cut : ℕ} {items : List Item} {st : State} {bs : List Branch} {m : Made}
      → look_at s.branches ≡ Selecting goal cut items st bs
      → Steps (place_of s st items cut bs) (read st goal) (Children m)
      → Turn s (Wrote m.output) (after_step s m bs)
  -- a goal raises a ball, which a catch is to take
  catches : {goal : Tree} {cut : ℕ} {items : List Item} {st : State} {bs next : List Branch} {ball : Copied}
      → look_at s.branches ≡ Selecting goal cut items st bs
      → Steps (place_of s st items cut bs) (read st goal) (Ball ball) → handed ball items bs ≡ Some next
      → Turn s (Wrote []) (after_ball s next)
  -- a goal raises a ball that nothing catches
  throws : {goal : Tree} {cut : ℕ} {items : List Item} {st : State} {bs : List Branch} {ball : Copied}
      → look_at s.branches ≡ Selecting goal cut items st bs
      → Steps (place_of s st items cut bs) (read st goal) (Ball ball) → handed ball items bs ≡ None
      → Turn s (Threw ball) (after_ball s [])
  answers : {st : State} {bs : List Branch} → look_at s.branches ≡ Answering st bs
      → Turn s (Answered st s.database.operators) (with_branches bs s)
  ends : look_at s.branches ≡ Over → Turn s Ended s

-- the next turn selects a goal whose arithmetic refuses the pair; so it has no turn
pub record Refuses (s : Search) (pair : Pair) : Type 0 where
  pub goal : Tree
  pub cut : ℕ
  pub items : List Item
  pub state : State
  pub behind : List Branch
  pub selects : look_at s.branches ≡ Selecting goal cut items state behind
  pub refused : reply_of (place_of s state items cut behind) (read state goal) ≡ reply.Overflows pair
