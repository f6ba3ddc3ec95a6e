-- Each sound search has a next turn, or the arithmetic of its selected goal refuses two numbers.
use Rattle.std.proofs.Common.{◌≡◌, ◌⊎◌, inl, inr, ℕ, List, [], Option, Some, None, pos, refl}
use Rattle.cq_frac.specs.declared.Pair.{Pair}
use Rattle.spec_linear.specs.Solution.{Solvable}
use Rattle.spec_linear.proofs.Points.{all_at}
use Rattle.spec_syntax.specs.Trees.{Tree}
use Rattle.spec_branch.specs.Branch.{State, Copied, Item, Branch, Pending, read}
use Rattle.spec_branch.specs.Settling.{Settles, Outcome, Kept, Pruned}
use Rattle.spec_search.specs.Database.{Database}
use Rattle.spec_search.specs.Replies as reply
use Rattle.spec_search.specs.Rows.{reply_of}
use Rattle.spec_search.specs.Steps.{Steps, Stepped, Ball, Children}
use Rattle.spec_search.specs.Balls.{handed}
use Rattle.spec_search.specs.Search.{Search, start, empty_state, Look, Over, Settling, Moving, Collecting, Selecting, Answering, look_at}
use Rattle.spec_search.specs.Turns.{Turn, Event, Refuses, keeps, prunes, hands_on, escapes, moves, collects, steps, catches, throws, answers, ends, place_of}
use Rattle.spec_existence.proofs.SettledLemmas.{settles}
use Rattle.spec_existence.specs.Sound.{IsSoundState, AreSound}
use Rattle.spec_existence.proofs.Turning.{IsSoundLook, look_sound}
use Rattle.spec_existence.proofs.Stepping.{step_or_refused}

-- ---- the start

nothing_solved : Solvable []
nothing_solved = (all_at (pos 0), tt)

start_state : (n : ℕ) → IsSoundState (empty_state n)
start_state n = record { bounded = record { bound = 0; below = λ v e. cc }; forms = λ c h. absurd h }

pub start_sound : (db : Database) (query : Tree) (n : ℕ) → AreSound (start db query n).branches
start_sound db query n = (record { items = (tt, tt); state = start_state n; phase = nothing_solved }, tt)

-- ---- turns

abbrev pub GoesOn : Search → Type 0
GoesOn s = ((e : Event) × (t : Search) × Turn s e t) ⊎ ((pair : Pair) × Refuses s pair)

module _ (s : Search) where
  settling : (is : List Item) (st : State) (p : Pending) (bs : List Branch) → look_at s.branches ≡ Settling is st p bs → (o : Outcome) → Settles is st p o
      → (e : Event) × (t : Search) × Turn s e t
  settling is st p bs l (Kept b) h = (_, _, keeps l h)
  settling is st p bs l (Pruned why) h = by p.ball refl
    where
      with_ball : (ball : Copied) → p.ball ≡ Some ball → (r : Option (List Branch)) → handed ball is bs ≡ r → (e : Event) × (t : Search) × Turn s e t
      with_ball ball d (Some next) f = (_, _, hands_on l h d f)
      with_ball ball d None f = (_, _, escapes l h d f)

      by : (r : Option Copied) → p.ball ≡ r → (e : Event) × (t : Search) × Turn s e t
      by None d = (_, _, prunes l h d)
      by (Some ball) d = with_ball ball d (handed ball is bs) refl

  stepping : (goal : Tree) (cut : ℕ) (is : List Item) (st : State) (bs : List Branch) → look_at s.branches ≡ Selecting goal cut is st bs
      → (o : Stepped) → Steps (place_of s st is cut bs) (read st goal) o → (e : Event) × (t : Search) × Turn s e t
  stepping goal cut is st bs l (Children m) h = (_, _, steps l h)
  stepping goal cut is st bs l (Ball ball) h = by (handed ball is bs) refl
    where
      by : (r : Option (List Branch)) → handed ball is bs ≡ r → (e : Event) × (t : Search) × Turn s e t
      by (Some next) f = (_, _, catches l h f)
      by None f = (_, _, throws l h f)

  selecting : (goal : Tree) (cut : ℕ) (is : List Item) (st : State) (bs : List Branch) → look_at s.branches ≡ Selecting goal cut is st bs
      → Solvable st.linear → GoesOn s
  selecting goal cut is st bs l solvable = by (step_or_refused (place_of s st is cut bs) (read st goal) solvable)
    where
      by : ((o : Stepped) × Steps (place_of s st is cut bs) (read st goal) o) ⊎ ((pair : Pair) × (reply_of (place_of s st is cut bs) (read st goal) ≡ reply.Overflows pair)) → GoesOn s
      by (inl h) = inl (stepping goal cut is st bs l h.0 h.1)
      by (inr h) = inr (h.0, record { goal = goal; cut = cut; items = is; state = st; behind = bs; selects = l; refused = h.1 })

  by_look : (x : Look) → look_at s.branches ≡ x → IsSoundLook x → GoesOn s
  by_look Over l h = inl (_, _, ends l)
  by_look (Settling is st p bs) l h = (let o = settles is st p h.1.bounded in inl (settling is st p bs l o.0 o.1))
  by_look (Moving bs) l h = inl (_, _, moves l)
  by_look (Collecting k t st bs) l h = inl (_, _, collects l refl)
  by_look (Selecting goal cut is st bs) l h = selecting goal cut is st bs l h.2
  by_look (Answering st bs) l h = inl (_, _, answers l)

  pub goes_on : AreSound s.branches → GoesOn s
  goes_on sound = by_look (look_at s.branches) refl (look_sound s.branches sound)
