-- Where a query has no other step than a stop.
use Rattle.std.proofs.Common.{◌≡◌, ℕ, List, true, false, Option, inl, inr, arith, refl, sym, ap, ◌∙◌, subst}
use Rattle.cq_frac.specs.declared.Pair.{Pair}
use Rattle.spec_numbers.specs.Texts.{Text}
use Rattle.spec_syntax.specs.Trees.{Tree}
use Rattle.spec_branch.specs.Branch.{State, Item, Branch, read}
use Rattle.spec_search.specs.Replies as reply
use Rattle.spec_search.specs.Replies.{Place}
use Rattle.spec_search.specs.Rows.{reply_of}
use Rattle.spec_search.specs.Steps as step
use Rattle.spec_search.specs.Steps.{Steps, Stepped}
use Rattle.spec_search.specs.Search as looks
use Rattle.spec_search.specs.Search.{Search, Look, Selecting, look_at, is_selecting}
use Rattle.spec_search.specs.Turns as turn
use Rattle.spec_search.specs.Turns.{Event, Wrote, Answered, Threw, Ended, Turn, Refuses, place_of}
use Rattle.spec_transcript.specs.Causes.{Budgets, Resolutions, stop_text}
use Rattle.spec_transcript.specs.Session as session
use Rattle.spec_transcript.specs.Session.{Asker, Reader, Session, Opening, Reading, Searching, Over, Mark, stop_line, MayGo, Step}

-- ---- answers and ends select nothing

-- an answer, or the end
abbrev IsLast : Event → Type 0
IsLast (Wrote t) = ⊥
IsLast (Answered st ops) = Unit {0}
IsLast (Threw ball) = ⊥
IsLast Ended = Unit {0}

selects_nothing : (s t : Search) (e : Event) → Turn s e t → IsLast e → is_selecting (look_at s.branches) ≡ false
selects_nothing s t e (turn.keeps h k) l = absurd l
selects_nothing s t e (turn.prunes h k g) l = absurd l
selects_nothing s t e (turn.hands_on h k g i) l = absurd l
selects_nothing s t e (turn.escapes h k g i) l = absurd l
selects_nothing s t e (turn.moves h) l = absurd l
selects_nothing s t e (turn.collects h k) l = absurd l
selects_nothing s t e (turn.steps h k) l = absurd l
selects_nothing s t e (turn.catches h k i) l = absurd l
selects_nothing s t e (turn.throws h k i) l = absurd l
selects_nothing s t e (turn.answers h) l = ap is_selecting h
selects_nothing s t e (turn.ends h) l = ap is_selecting h

-- ---- the budget of goals

module _ (budgets : Budgets) (shelf : Text → Option (List ℕ)) (input : List ℕ) (s : Search) (selects : is_selecting (look_at s.branches) ≡ true) where
  no_last : (t : Search) (e : Event) → Turn s e t → IsLast e → ⊥
  no_last t e h l = let k : true ≡ false = sym selects ∙ selects_nothing s t e h l in cc

  spent : s.selected ≡ budgets.steps → MayGo budgets s → ⊥
  spent e (inl k) = let c : true ≡ false = sym selects ∙ k in cc
  spent e (inr below) = omega arith

  abbrev Stops : Text → Mark → Type 0
  Stops out mark = (out ≡ stop_text (Resolutions budgets.steps)) × (mark ≡ stop_line)

  same_search : (t : Search) (who you : Asker) (r q : Reader) → Searching t you q ≡ Searching s who r → t ≡ s
  same_search t who you r q e = cc

  -- a step of another search that is the same
  stops : (a next : Session) (out : Text) (mark : Mark) (who : Asker) (r : Reader) → s.selected ≡ budgets.steps → a ≡ Searching s who r → Step budgets shelf input a out mark next → Stops out mark
  stops a next out mark who r e is (session.opens_file h) = cc
  stops a next out mark who r e is session.opens_input = cc
  stops a next out mark who r e is (session.initializes base h k) = cc
  stops a next out mark who r e is (session.file_ends h k l) = cc
  stops a next out mark who r e is (session.input_ends h k l) = cc
  stops a next out mark who r e is (session.syntax h) = cc
  stops a next out mark who r e is (session.directs base h) = cc
  stops a next out mark who r e is (session.waits h) = cc
  stops a next out mark who r e is (session.asks base h) = cc
  stops a next out mark who r e is (session.adds h k) = cc
  stops a next out mark who r e is (session.refuses h k) = cc
  stops a next out mark who r e is (session.turns {s = t} {who = you} {r = q} m h) = absurd (spent e (subst (MayGo budgets) (same_search t who you r q is) m))
  stops a next out mark who r e is (session.answers {s = t} {t = u} {st = st} {ops = ops} {names = names} {n = n} {r = q} h f) =
      absurd (no_last u (Answered st ops) (subst (λ x. Turn x (Answered st ops) u) (same_search t who _ r q is) h) tt)
  stops a next out mark who r e is (session.answers_last {s = t} {t = u} {st = st} {ops = ops} {names = names} {r = q} h f) =
      absurd (no_last u (Answered st ops) (subst (λ x. Turn x (Answered st ops) u) (same_search t who _ r q is) h) tt)
  stops a next out mark who r e is (session.succeeds {s = t} {t = u} {st = st} {ops = ops} {r = q} h) =
      absurd (no_last u (Answered st ops) (subst (λ x. Turn x (Answered st ops) u) (same_search t who _ r q is) h) tt)
  stops a next out mark who r e is (session.fails {s = t} {t = u} {who = you} {r = q} h) = absurd (no_last u Ended (subst (λ x. Turn x Ended u) (same_search t who you r q is) h) tt)
  stops a next out mark who r e is (session.raises {s = t} {who = you} {r = q} m h) = absurd (spent e (subst (MayGo budgets) (same_search t who you r q is) m))
  stops a next out mark who r e is (session.runs_out h k) = (refl, refl)
  stops a next out mark who r e is (session.overflows {s = t} {who = you} {r = q} pair m h) = absurd (spent e (subst (MayGo budgets) (same_search t who you r q is) m))
  stops a next out mark who r e is (session.stops {s = t} {who = you} {r = q} cause m h) = absurd (spent e (subst (MayGo budgets) (same_search t who you r q is) m))

pub spent_goals : (budgets : Budgets) (shelf : Text → Option (List ℕ)) (input : List ℕ) (s : Search) (who : Asker) (r : Reader) (out : Text) (mark : Mark) (next : Session)
    → is_selecting (look_at s.branches) ≡ true → s.selected ≡ budgets.steps → Step budgets shelf input (Searching s who r) out mark next
    → (out ≡ stop_text (Resolutions budgets.steps)) × (mark ≡ stop_line)
spent_goals budgets shelf input s who r out mark next selects e h = stops budgets shelf input s selects (Searching s who r) next out mark who r e refl h

-- ---- arithmetic that refuses two numbers

no_step : (p : Place) (goal : Tree) (pair : Pair) (o : Stepped) → reply_of p goal ≡ reply.Overflows pair → Steps p goal o → ⊥
no_step p goal pair o h (step.raises k) = let c = sym h ∙ k in cc
no_step p goal pair o h (step.throws k _) = let c = sym h ∙ k in cc
no_step p goal pair o h (step.copies k _) = let c = sym h ∙ k in cc
no_step p goal pair o h (step.makes k) = let c = sym h ∙ k in cc
no_step p goal pair o h (step.calls k _) = let c = sym h ∙ k in cc
no_step p goal pair o h (step.not_linear f k _ _) = let c = sym h ∙ k in cc
no_step p goal pair o h (step.entailed f k _ _ _) = let c = sym h ∙ k in cc
no_step p goal pair o h (step.not_entailed x f k _ _ _ _) = let c = sym h ∙ k in cc
no_step p goal pair o h (step.expression_waits f k _ _) = let c = sym h ∙ k in cc
no_step p goal pair o h (step.expression_false f k _ _) = let c = sym h ∙ k in cc
no_step p goal pair o h (step.extent f k _ _ _) = let c = sym h ∙ k in cc
no_step p goal pair o h (step.no_extent f k _ _ _) = let c = sym h ∙ k in cc

module _ (s : Search) (pair : Pair) (refused : Refuses s pair) where
  -- the goal that is selected is the one that is refused
  here : (goal : Tree) (cut : ℕ) (items : List Item) (st : State) (bs : List Branch) → look_at s.branches ≡ Selecting goal cut items st bs
      → reply_of (place_of s st items cut bs) (read st goal) ≡ reply.Overflows pair
  here goal cut items st bs h = subst Refusing (sym refused.selects ∙ h) refused.refused
    where
      Refusing : Look → Type 0
      Refusing (Selecting g c is x cs) = reply_of (place_of s x is c cs) (read x g) ≡ reply.Overflows pair
      Refusing l = Unit {0}

  other : (l : Look) → look_at s.branches ≡ l → is_selecting l ≡ false → ⊥
  other l h e = let k : true ≡ false = sym (ap is_selecting refused.selects) ∙ ap is_selecting h ∙ e in cc

  no_turn : (e : Event) (t : Search) → Turn s e t → ⊥
  no_turn e t (turn.keeps {items} {st} {p} {bs} h k) = other (looks.Settling items st p bs) h refl
  no_turn e t (turn.prunes {items} {st} {p} {bs} h k g) = other (looks.Settling items st p bs) h refl
  no_turn e t (turn.hands_on {items} {st} {p} {bs} h k g i) = other (looks.Settling items st p bs) h refl
  no_turn e t (turn.escapes {items} {st} {p} {bs} h k g i) = other (looks.Settling items st p bs) h refl
  no_turn e t (turn.moves {bs} h) = other (looks.Moving bs) h refl
  no_turn e t (turn.collects {k = n} {t = term} {st = st} {bs = bs} h k) = other (looks.Collecting n term st bs) h refl
  no_turn e t (turn.steps {goal} {cut} {items} {st} {bs} h k) = no_step (place_of s st items cut bs) (read st goal) pair _ (here goal cut items st bs h) k
  no_turn e t (turn.catches {goal} {cut} {items} {st} {bs} h k i) = no_step (place_of s st items cut bs) (read st goal) pair _ (here goal cut items st bs h) k
  no_turn e t (turn.throws {goal} {cut} {items} {st} {bs} h k i) = no_step (place_of s st items cut bs) (read st goal) pair _ (here goal cut items st bs h) k
  no_turn e t (turn.answers {st} {bs} h) = other (looks.Answering st bs) h refl
  no_turn e t (turn.ends h) = other looks.Over h refl

  module _ (budgets : Budgets) (shelf : Text → Option (List ℕ)) (input : List ℕ) where
    same : (t : Search) (who you : Asker) (r q : Reader) → Searching t you q ≡ Searching s who r → t ≡ s
    same t who you r q e = cc

    stop : (a next : Session) (out : Text) (mark : Mark) (who : Asker) (r : Reader) → a ≡ Searching s who r → Step budgets shelf input a out mark next → mark ≡ stop_line
    stop a next out mark who r is (session.opens_file h) = cc
    stop a next out mark who r is session.opens_input = cc
    stop a next out mark who r is (session.initializes base h k) = cc
    stop a next out mark who r is (session.file_ends h k l) = cc
    stop a next out mark who r is (session.input_ends h k l) = cc
    stop a next out mark who r is (session.syntax h) = cc
    stop a next out mark who r is (session.directs base h) = cc
    stop a next out mark who r is (session.waits h) = cc
    stop a next out mark who r is (session.asks base h) = cc
    stop a next out mark who r is (session.adds h k) = cc
    stop a next out mark who r is (session.refuses h k) = cc
    stop a next out mark who r is (session.turns {s = t} {t = u} {who = you} {r = q} {text = text} m h) = absurd (no_turn (Wrote text) u (subst (λ x. Turn x (Wrote text) u) (same t who you r q is) h))
    stop a next out mark who r is (session.answers {s = t} {t = u} {st = st} {ops = ops} {r = q} h f) = absurd (no_turn (Answered st ops) u (subst (λ x. Turn x (Answered st ops) u) (same t who _ r q is) h))
    stop a next out mark who r is (session.answers_last {s = t} {t = u} {st = st} {ops = ops} {r = q} h f) =
        absurd (no_turn (Answered st ops) u (subst (λ x. Turn x (Answered st ops) u) (same t who _ r q is) h))
    stop a next out mark who r is (session.succeeds {s = t} {t = u} {st = st} {ops = ops} {r = q} h) = absurd (no_turn (Answered st ops) u (subst (λ x. Turn x (Answered st ops) u) (same t who _ r q is) h))
    stop a next out mark who r is (session.fails {s = t} {t = u} {who = you} {r = q} h) = absurd (no_turn Ended u (subst (λ x. Turn x Ended u) (same t who you r q is) h))
    stop a next out mark who r is (session.raises {s = t} {t = u} {who = you} {r = q} {ball = ball} m h) = absurd (no_turn (Threw ball) u (subst (λ x. Turn x (Threw ball) u) (same t who you r q is) h))
    stop a next out mark who r is (session.runs_out h k) = refl
    stop a next out mark who r is (session.overflows pair m h) = refl
    stop a next out mark who r is (session.stops cause m h) = refl

pub refused_stops : (budgets : Budgets) (shelf : Text → Option (List ℕ)) (input : List ℕ) (s : Search) (who : Asker) (r : Reader) (out : Text) (mark : Mark) (next : Session) (pair : Pair)
    → Refuses s pair → Step budgets shelf input (Searching s who r) out mark next → mark ≡ stop_line
refused_stops budgets shelf input s who r out mark next pair h k = stop s pair h budgets shelf input (Searching s who r) next out mark who r refl k
