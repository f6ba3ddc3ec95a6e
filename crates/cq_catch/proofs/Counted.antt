-- Turns that select no goal leave no more branches.
use Rattle.std.proofs.Common.{◌≡◌, ◌≤◌, ◌+◌, ◌-◌, inl, inr, ℕ, suc, List, [], ◌∷◌, length, length-append, length-drop, Bool, true, false, Option, None, Some, ap, ◌∙◌, arith, refl}
use Rattle.std.specs.Prelude.{if◌then◌else◌, ◌==◌}
use Rattle.spec_syntax.specs.Trees.{Tree}
use Rattle.spec_branch.specs.Branch.{State, Copied, Item, Goal, CutTo, CutFail, CatchEnd, Collect, Gathered, Branch, Phase, Settled, Unsettled}
use Rattle.spec_search.specs.Balls.{handed}
use Rattle.spec_search.specs.Balls as balls
use Rattle.spec_search.specs.Search.{Search, Look, Over, Settling, Moving, Collecting, Selecting, Answering, look_at, look_at_item, look_at_branch, is_selecting, gather, gathered_items}
use Rattle.spec_search.specs.Turns.{Turn, Event, keeps, prunes, hands_on, escapes, moves, collects, steps, catches, throws, answers, ends}
use Rattle.cq_control.specs.Heights.{total}
use Rattle.spec_engine.specs.Cells.{size}
use Rattle.spec_engine.specs.Coming.{Quietly, at_once, after}
use Rattle.spec_engine.specs.Standing.{Machine, IsStanding, IsCurrent}
use Rattle.spec_engine.specs.Cells.{Stack, Value}
use Rattle.spec_engine.proofs.Kept.{length-waiting}

-- how many branches are left by a turn that keeps the first one, or moves on
abbrev shown : Look → ℕ
shown Over = 0
shown (Settling items st p bs) = suc (length bs)
shown (Moving bs) = length bs
shown (Collecting k t st bs) = suc (length bs)
shown (Selecting t cut items st bs) = suc (length bs)
shown (Answering st bs) = suc (length bs)

shown_item : (i : Item) (items : List Item) (st : State) (bs : List Branch) → shown (look_at_item i items st bs) ≤ suc (length bs)
shown_item (Goal t cut) items st bs = omega arith
shown_item (CutTo k) items st bs = omega (arith, length-drop (length bs - k) bs)
shown_item (CutFail k) items st bs = omega (arith, length-drop (length bs - k) bs)
shown_item (CatchEnd k saved c r) items st bs = omega arith
shown_item (Collect k t) items st bs = omega arith
shown_item (Gathered t cs) items st bs = omega arith

shown_branch : (phase : Phase) (items : List Item) (st : State) (bs : List Branch) → shown (look_at_branch phase items st bs) ≤ suc (length bs)
shown_branch Settled [] st bs = omega arith
shown_branch Settled (i ∷ items) st bs = shown_item i items st bs
shown_branch (Unsettled p) items st bs = omega arith

shown_all : (bs : List Branch) → shown (look_at bs) ≤ length bs
shown_all [] = omega arith
shown_all (b ∷ bs) = shown_branch b.phase b.items b.state bs

handed_count : (ball : Copied) (items : List Item) (bs next : List Branch) → handed ball items bs ≡ Some next → length next ≤ suc (length bs)
handed_count ball [] bs next e = cc
handed_count ball (Goal t cut ∷ items) bs next e = handed_count ball items bs next e
handed_count ball (CutTo k ∷ items) bs next e = handed_count ball items bs next e
handed_count ball (CutFail k ∷ items) bs next e = handed_count ball items bs next e
handed_count ball (CatchEnd k st c r ∷ items) bs next e =
    let same : balls.caught_branch ball st c r items ∷ balls.last k bs ≡ next = cc in
    omega (arith, ap length same, length-drop (length bs - k) bs)
handed_count ball (Collect k t ∷ items) bs next e = handed_count ball items bs next e
handed_count ball (Gathered t cs ∷ items) bs next e = handed_count ball items bs next e

gather_count : (k : ℕ) (c : Copied) (bs : List Branch) → length (gather k c bs) ≡ length bs
gather_count k c [] = refl
gather_count k c (b ∷ bs) =
    elim (length bs == k) as (λ (found : Bool). length (if found then record b { items = gathered_items c b.items } ∷ bs else b ∷ gather k c bs) ≡ suc (length bs))
    [ true ↦ refl | false ↦ ap suc (gather_count k c bs) ]

turn_count : {s t : Search} {e : Event} → Turn s e t → is_selecting (look_at s.branches) ≡ false → length t.branches ≤ length s.branches
turn_count {s} (keeps look settles) idle = omega (arith, ap shown look, shown_all s.branches)
turn_count {s} (prunes look settles none) idle = omega (arith, ap shown look, shown_all s.branches)
turn_count {s} (hands_on {items = items} {bs = bs} {next = next} {ball = ball} look settles some is) idle =
    omega (arith, ap shown look, shown_all s.branches, handed_count ball items bs next is)
turn_count {s} (escapes look settles some none) idle = omega arith
turn_count {s} (moves look) idle = omega (arith, ap shown look, shown_all s.branches)
turn_count {s} (collects {k = k} {bs = bs} {c = c} look copy) idle = omega (arith, ap shown look, shown_all s.branches, gather_count k c bs)
turn_count {s} (steps look step) idle = (let yes = ap is_selecting look in cc)
turn_count {s} (catches look step is) idle = (let yes = ap is_selecting look in cc)
turn_count {s} (throws look step none) idle = omega arith
turn_count {s} (answers look) idle = omega (arith, ap shown look, shown_all s.branches)
turn_count {s} (ends look) idle = omega arith

-- where no goal may be selected
pub quiet_count : {s t : Search} → Quietly 0 s t → length t.branches ≤ length s.branches
quiet_count at_once = omega arith
quiet_count (after {s} {t} {u} (inl idle) turn q) = omega (arith, turn_count turn idle, quiet_count q)
quiet_count (after (inr few) turn q) = absurd (omega (arith, few))

-- the branch in hand
abbrev pub in_hand : Option ℕ → ℕ
in_hand None = 0
in_hand (Some k) = 1

module _ {W : Type 0} (IsState : W → State → Type 0) (term : W → ℕ → Option Tree) where
  current_count : (choices : Stack W) (now : Value W) (current : Option ℕ) (bs : List Branch) → IsCurrent IsState term choices now current bs → length bs ≡ in_hand current
  current_count choices now None bs c = ap length c
  current_count choices now (Some k) bs c = ap length c.2

  pub standing_count : (m : Machine W) (s : Search) → IsStanding IsState term m s → length s.branches ≡ in_hand m.current + total size m.choices
  standing_count m s j =
      omega (arith, ap length j.branches, length-append j.first j.behind, current_count m.choices m.now m.current j.first j.current, length-waiting IsState term m.choices j.behind j.waiting)
