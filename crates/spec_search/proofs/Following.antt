-- Where one of two searches that are the same has a turn, so has the other.
use Rattle.std.proofs.Common.{◌≡◌, ℕ, List, [], ◌∷◌, length, Option, Some, None, refl, subst}
use Rattle.spec_numbers.specs.Rational.{ℚ}
use Rattle.spec_builtins.specs.Built.{compound1}
use Rattle.spec_linear.specs.Solution.{Constraint, Equivalent, Fixes}
use Rattle.spec_syntax.specs.Trees.{Tree}
use Rattle.spec_branch.specs.Relations.{lin}
use Rattle.spec_branch.specs.Branch.{State, Item, Branch, Copied, Pending, read}
use Rattle.spec_branch.specs.Alike.{with_linear}
use Rattle.spec_branch.specs.Settling.{Settles, Pruned, Why}
use Rattle.spec_branch.proofs.Waiting.{alike_fixes}
use Rattle.spec_linear.proofs.Lists.{alike_sym}
use Rattle.spec_search.specs.Database.{Database, Clause}
use Rattle.spec_search.specs.Builtins.{Side}
use Rattle.spec_search.specs.Replies as reply
use Rattle.spec_search.specs.Replies.{Place, Made, Reply}
use Rattle.spec_search.specs.Rows.{reply_of}
use Rattle.spec_search.specs.Steps as step
use Rattle.spec_search.specs.Steps.{IsSelection, end, takes, Steps, Stepped, Ball, Children}
use Rattle.spec_search.proofs.OneStep.{Asks, refused, all, broken, Reaches, waiting, false_one, value, no_value, Result, result}
use Rattle.spec_search.specs.Balls.{handed}
use Rattle.spec_search.specs.Search.{Search, Look, Settling, Selecting, look_at}
use Rattle.spec_search.specs.Turns as turn
use Rattle.spec_search.specs.Turns.{Turn, Event, place_of}
use Rattle.spec_search.specs.Runs.{SameState}
use Rattle.spec_search.proofs.Shapes.{Rung, first, second, IsEnd, SameItems, higher, SameBranches}
use Rattle.spec_search.proofs.Heights.{counted}
use Rattle.spec_search.proofs.Replies.{SameReply, both_raise, both_throw, both_copy, both_overflow, both_make, both_call, both_ask, both_reach}
use Rattle.spec_search.proofs.Rows.{call_same, reply_same}
use Rattle.spec_search.proofs.Settlings.{keeps_too, prunes_too}
use Rattle.spec_search.proofs.RunsStepping.{all_back, broken_back, extent_back, none_back}
use Rattle.spec_search.proofs.Turning.{Chooses, made, fell, Decides, kept, pruned, After}
use Rattle.spec_search.proofs.SameTurns.{SameLook, both_over, both_settle, both_move, both_collect, both_select, both_answer, search_of}
use Rattle.spec_search.proofs.SameTurns as turns

-- ---- steps

record HasStep (p : Place) (t : Tree) : Type 0 where
  stepped : Stepped
  steps : Steps p t stepped

all_taken : (p : Place) (t : Tree) (cs : List Clause) → IsSelection p t cs cs
all_taken p t [] = end
all_taken p t (c ∷ cs) = takes (all_taken p t cs)

module _ (p q : Place) (t : Tree) (same : Equivalent p.state.linear q.state.linear) where
  fixed_back : (fixed : ℕ → Option ℚ) → Fixes q.state.linear fixed → Fixes p.state.linear fixed
  fixed_back fixed h = alike_fixes q.state.linear p.state.linear (alike_sym p.state.linear q.state.linear same) fixed h

  asks_too : {ms : List Tree} {b c : Branch} (fixed : ℕ → Option ℚ) {x : Stepped} → reply_of p t ≡ reply.IfEntailed ms b
      → Fixes q.state.linear fixed → Asks q t ms c fixed x → HasStep p t
  asks_too fixed e h (refused f) = record { stepped = _; steps = step.not_linear fixed e (fixed_back fixed h) f }
  asks_too {ms} fixed e h (all f g) =
      record { stepped = _; steps = step.entailed fixed e (fixed_back fixed h) f (all_back p.state.linear q.state.linear same fixed ms g) }
  asks_too fixed e h (broken m f i g) =
      record { stepped = _; steps = step.not_entailed m fixed e (fixed_back fixed h) f i (broken_back p.state.linear q.state.linear same (lin fixed m) g) }

  reaches_too : {side : Side} {e : Tree} {f g : ℚ → Branch} (fixed : ℕ → Option ℚ) {x : Stepped}
      → reply_of p t ≡ reply.WithExtent side e f → Fixes q.state.linear fixed → Reaches q t side e g fixed x → HasStep p t
  reaches_too fixed e h (waiting i) = record { stepped = _; steps = step.expression_waits fixed e (fixed_back fixed h) i }
  reaches_too fixed e h (false_one i) = record { stepped = _; steps = step.expression_false fixed e (fixed_back fixed h) i }
  reaches_too {side} fixed e h (value {form = form} v i j) =
      record { stepped = _; steps = step.extent fixed e (fixed_back fixed h) i (extent_back p.state.linear q.state.linear same side form v j) }
  reaches_too {side} fixed e h (no_value {form = form} i j) =
      record { stepped = _; steps = step.no_extent fixed e (fixed_back fixed h) i (none_back p.state.linear q.state.linear same side form j) }

  step_too : {s : List Rung} {r u : Reply} → SameReply s r u → reply_of p t ≡ r → (x : Stepped) → Result q t u x → HasStep p t
  step_too (both_raise e) i x j = record { stepped = _; steps = step.raises i }
  step_too (both_throw e) i x j = record { stepped = _; steps = step.throws i refl }
  step_too (both_copy n) i x j = record { stepped = _; steps = step.copies i refl }
  step_too (both_overflow pair) i x j = absurd j
  step_too (both_make e) i x j = record { stepped = _; steps = step.makes i }
  step_too (both_call cs) i x j = record { stepped = _; steps = step.calls i (all_taken p t cs) }
  step_too (both_ask e) i x j = asks_too j.0 i j.1 j.2
  step_too (both_reach v) i x j = reaches_too j.0 i j.1 j.2

-- ---- turns

pub record HasTurn (s : Search) : Type 0 where
  pub event : Event
  pub next : Search
  pub turn : Turn s event next

module _ (db : Database) (n : ℕ) (ps qs : List Branch) where
  abbrev here : Search
  here = search_of db n ps

  abbrev there : Search
  there = search_of db n qs

  -- ---- settling

  hands_on : {is : List Item} {st : State} {p : Pending} {bs : List Branch} (why : Why) (ball : Copied) → look_at ps ≡ Settling is st p bs
      → Settles is st p (Pruned why) → p.ball ≡ Some ball → (x : Option (List Branch)) → handed ball is bs ≡ x → HasTurn here
  hands_on why ball h k e (Some next) i = record { event = _; next = _; turn = turn.hands_on h k e i }
  hands_on why ball h k e None i = record { event = _; next = _; turn = turn.escapes h k e i }

  prunes : {is : List Item} {st : State} {p : Pending} {bs : List Branch} (why : Why) → look_at ps ≡ Settling is st p bs
      → Settles is st p (Pruned why) → (x : Option Copied) → p.ball ≡ x → HasTurn here
  prunes why h k None e = record { event = _; next = _; turn = turn.prunes h k e }
  prunes {is} {bs = bs} why h k (Some ball) e = hands_on why ball h k e (handed ball is bs) refl

  settles : {is js : List Item} {st su : State} {bs cs : List Branch} (p : Pending) → look_at ps ≡ Settling is st p bs → SameState st su
      → {f : Event} {v : Search} → Decides there js su p cs f v → HasTurn here
  settles {is} {js} {st} {su} p h state (kept c x) = record { event = _; next = _; turn = turn.keeps h (keeps_too is js st su state p c x).1 }
  settles {is} {js} {st} {su} p h state (pruned why x) =
      let k = prunes_too is js st su state p why x in
      prunes k.0 h k.1 p.ball refl

  -- ---- steps

  falls : {g : Tree} {cut : ℕ} {is : List Item} {st : State} {bs : List Branch} (ball : Copied) → look_at ps ≡ Selecting g cut is st bs
      → Steps (place_of here st is cut bs) (read st g) (Ball ball) → (x : Option (List Branch)) → handed ball is bs ≡ x → HasTurn here
  falls ball h k (Some next) i = record { event = _; next = _; turn = turn.catches h k i }
  falls ball h k None i = record { event = _; next = _; turn = turn.throws h k i }

  chooses : {g : Tree} {cut : ℕ} {is : List Item} {st : State} {bs : List Branch} → look_at ps ≡ Selecting g cut is st bs
      → (x : Stepped) → Steps (place_of here st is cut bs) (read st g) x → HasTurn here
  chooses h (Children m) k = record { event = _; next = _; turn = turn.steps h k }
  chooses {is = is} {bs = bs} h (Ball ball) k = falls ball h k (handed ball is bs) refl

  -- the step of the other search
  other_step : {g : Tree} {cut : ℕ} {js : List Item} {su : State} {cs : List Branch} {f : Event} {v : Search}
      → Chooses there g cut js su cs f v → HasStep (place_of there su js cut cs) (read su g)
  other_step (made m y) = record { stepped = Children m; steps = y }
  other_step (fell ball y) = record { stepped = Ball ball; steps = y }

  -- a goal in states that are the same
  selects : {s r : List Rung} {h k : ℕ} {is js : List Item} (bs cs : List Branch) (g : Tree) (st su : State) → IsEnd r s
      → h ≡ first r → k ≡ second r → SameItems r is js → SameState st su → SameBranches s bs cs
      → HasStep (place_of there su js k cs) (read su g) → HasStep (place_of here st is h bs) (read st g)
  selects {s} {r} {h} {k} {is} {js} bs cs g st su a hh kk i state b x =
      let w = counted s bs cs b in
      let l : List Constraint = su.linear in
      let t : Tree = read st g in
      let y = subst (λ (z : State). Steps (place_of there z js k cs) (read z g) x.stepped) state.state x.steps in
      step_too (place_of here st is h bs) (place_of there (with_linear l st) js k cs) t state.linear
      (reply_same s db st l state.linear is js (higher a i) h k (length bs) (length cs) w.0 w.1 r a hh kk i t) refl x.stepped
      (result (place_of there (with_linear l st) js k cs) t x.stepped y)

  -- a called goal
  calls : {s : List Rung} {is js : List Item} (bs cs : List Branch) (g : Tree) (st su : State) → SameItems s is js
      → SameState st su → SameBranches s bs cs
      → HasStep (place_of there su js 0 cs) (read su (compound1 "call" g)) → HasStep (place_of here st is 0 bs) (read st (compound1 "call" g))
  calls {s} {is} {js} bs cs g st su i state b x =
      let w = counted s bs cs b in
      let l : List Constraint = su.linear in
      let t : Tree = read st (compound1 "call" g) in
      let y = subst (λ (z : State). Steps (place_of there z js 0 cs) (read z (compound1 "call" g)) x.stepped) state.state x.steps in
      step_too (place_of here st is 0 bs) (place_of there (with_linear l st) js 0 cs) t state.linear
      (call_same s db st l state.linear is js i 0 0 (length bs) (length cs) w.0 w.1 (read st g) []) refl x.stepped
      (result (place_of there (with_linear l st) js 0 cs) t x.stepped y)

  -- ---- the first search has a turn

  pub has_turn : {x y : Look} → SameLook x y → look_at ps ≡ x → (f : Event) (v : Search) → After there y f v → HasTurn here
  has_turn both_over e f v j = record { event = _; next = _; turn = turn.ends e }
  has_turn (both_settle p h k b) e f v j = settles p e k j
  has_turn (both_move h) e f v j = record { event = _; next = _; turn = turn.moves e }
  has_turn (both_collect g a hh kk state b) e f v j = record { event = _; next = _; turn = turn.collects e refl }
  has_turn (both_select {st = st} {su = su} {bs = bs} {cs = cs} g a hh kk k state b) e f v j =
      let x = selects bs cs g st su a hh kk k state b (other_step j) in
      chooses e x.stepped x.steps
  has_turn (turns.both_call {st = st} {su = su} {bs = bs} {cs = cs} g k state b) e f v j =
      let x = calls bs cs g st su k state b (other_step j) in
      chooses e x.stepped x.steps
  has_turn (both_answer state h) e f v j = record { event = _; next = _; turn = turn.answers e }
