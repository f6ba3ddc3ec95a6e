-- What a turn does for the end of its search: it makes it lighter, selects a goal, shows an answer or a ball, or ends it.
use Rattle.std.proofs.Common.{◌≡◌, ℕ, suc, ◌<◌, List, [], ◌∷◌, Bool, true, cond, refl, ap}
use Rattle.spec_numbers.specs.Texts.{Text}
use Rattle.spec_numbers.proofs.Tests.{nat_eq-self}
use Rattle.spec_syntax.specs.Operators.{Ops}
use Rattle.spec_branch.specs.Branch.{State, Copied, Branch}
use Rattle.spec_search.specs.Search.{Search, Answering, look_at, is_selecting}
use Rattle.spec_search.specs.Turns as turn
use Rattle.spec_search.specs.Turns.{Turn, Event, Wrote, Answered, Threw, Ended}
use Rattle.spec_search.specs.Runs.{marks}
use Rattle.spec_search.specs.Weight.{weight}
use Rattle.spec_search.proofs.Lighter.{lighter}

no_mark : (n : ℕ) → marks n (Wrote []) n ≡ []
no_mark n = ap (λ (b : Bool). cond b [] (record { event = Wrote []; selected = n } ∷ [])) (nat_eq-self n)

pub data Kinds (s : Search) : Event → Search → Type 0 where
  quiet : {t : Search} → t.selected ≡ s.selected → weight t.branches < weight s.branches → Kinds s (Wrote []) t
  selects : {t : Search} {text : Text} → is_selecting (look_at s.branches) ≡ true → t.selected ≡ suc s.selected → Kinds s (Wrote text) t
  answered : {t : Search} {st : State} {bs : List Branch} {ops : Ops} → look_at s.branches ≡ Answering st bs → t.selected ≡ s.selected → Kinds s (Answered st ops) t
  threw : {t : Search} {ball : Copied} → Kinds s (Threw ball) t
  ended : {t : Search} → Kinds s Ended t

pub kind_of : (s t : Search) (e : Event) → Turn s e t → Kinds s e t
kind_of s t e (turn.keeps h k) = quiet refl (lighter s t e (turn.keeps h k) (no_mark s.selected))
kind_of s t e (turn.prunes h k i) = quiet refl (lighter s t e (turn.prunes h k i) (no_mark s.selected))
kind_of s t e (turn.hands_on h k i j) = quiet refl (lighter s t e (turn.hands_on h k i j) (no_mark s.selected))
kind_of s t e (turn.escapes h k i j) = threw
kind_of s t e (turn.moves h) = quiet refl (lighter s t e (turn.moves h) (no_mark s.selected))
kind_of s t e (turn.collects h i) = quiet refl (lighter s t e (turn.collects h i) (no_mark s.selected))
kind_of s t e (turn.steps h k) = selects (ap is_selecting h) refl
kind_of s t e (turn.catches h k i) = selects (ap is_selecting h) refl
kind_of s t e (turn.throws h k i) = threw
kind_of s t e (turn.answers h) = answered h refl
kind_of s t e (turn.ends h) = ended
