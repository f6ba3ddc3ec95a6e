-- What an engine tells, and for which search it stands then.
use Rattle.std.proofs.Common.{inl, ◌≡◌, ℕ, [], ◌∷◌, ◌++◌, Option, None, Some, Bool, true, false, refl, sym, ap, ◌∙◌, subst}
use Rattle.std.proofs.lemmas.Bool.{false≢true}
use Rattle.spec_syntax.specs.Trees.{Tree}
use Rattle.spec_branch.specs.Branch.{State}
use Rattle.spec_search.specs.Database.{Database}
use Rattle.spec_search.specs.Search.{Search, settled, look_at, is_selecting, Answering, Over}
use Rattle.spec_search.specs.Turns as turn
use Rattle.spec_search.specs.Turns.{Turn, Event, Wrote, Answered, Threw, Ended, with_branches}
use Rattle.spec_transcript.specs.Causes.{Budgets}
use Rattle.spec_engine.specs.Cells.{Value, Stack}
use Rattle.spec_engine.specs.Coming.{MayGo, Quietly, at_once, after, Told, Tells, Shows, shows}
use Rattle.spec_engine.specs.Coming as coming
use Rattle.spec_engine.specs.Standing.{engine, IsStanding, AreItems}
use Rattle.cq_control.specs.Items.{items_at}

-- ---- behind quiet turns

pub quietly_then : {steps : ℕ} {s r t : Search} → Quietly steps s r → Quietly steps r t → Quietly steps s t
quietly_then at_once q = q
quietly_then (after may turn p) q = after may turn (quietly_then p q)

pub told_then : {budgets : Budgets} {s r t : Search} {told : Told} → Quietly budgets.steps s r → Tells budgets r told t → Tells budgets s told t
told_then q (shows p may turn new) = shows (quietly_then q p) may turn new
told_then q (coming.stops p why) = coming.stops (quietly_then q p) why

-- ---- what is shown at once

pub shows_at_once : (budgets : Budgets) (s t : Search) (e : Event) → MayGo budgets.steps s → Turn s e t → (e ≡ Wrote [] → ⊥) → Tells budgets s (Shows e) t
shows_at_once budgets s t e may turn new = shows at_once may turn new

abbrev is_written : Event → Bool
is_written (Wrote text) = true
is_written (Answered st ops) = false
is_written (Threw ball) = false
is_written Ended = false

not_written : (e : Event) → is_written e ≡ false → e ≡ Wrote [] → ⊥
not_written e f w = (let yes : false ≡ true = sym f ∙ ap is_written w in absurd (false≢true yes))

module _ {W : Type 0} (IsState : W → State → Type 0) (term : W → ℕ → Option Tree) where
  abbrev Stand : Database → ℕ → Stack W → Value W → Option ℕ → Search → Type 0
  Stand db n choices now current s = IsStanding IsState term (engine db n choices now current) s

  -- no branch is left
  pub none_stands : (db : Database) (n : ℕ) (now : Value W) (s : Search) → s.database ≡ db → s.selected ≡ n → s.branches ≡ [] → Stand db n [] now None s
  none_stands db n now s d e b = record { database = d; selected = e; first = []; behind = []; branches = b; current = refl; waiting = refl }

  module _ (budgets : Budgets) (db : Database) (n : ℕ) (now : Value W) (s : Search) where
    pub ends_told : Stand db n [] now None s → Tells budgets s (Shows Ended) s
    ends_told j =
        let none : s.branches ≡ [] = j.branches ∙ ap (λ l. l ++ j.behind) j.current ∙ j.waiting in
        let look : look_at s.branches ≡ Over = ap look_at none in
        shows_at_once budgets s s Ended (inl (ap is_selecting look)) (turn.ends look) (not_written Ended refl)

    module _ (choices : Stack W) (k : ℕ) (j : Stand db n choices now (Some k) s) (done : items_at now.1 k ≡ []) where
      looks : look_at s.branches ≡ Answering j.current.1 j.behind
      looks =
          let left : j.current.0 ≡ [] = subst (λ cs. AreItems IsState term choices now.0 j.current.1 cs j.current.0) done j.current.3.cells in
          ap look_at (j.branches ∙ ap (λ l. l ++ j.behind) j.current.2 ∙ ap (λ items. settled items j.current.1 ∷ j.behind) left)

      pub answer_told : Tells budgets s (Shows (Answered j.current.1 db.operators)) (with_branches j.behind s)
      answer_told =
          subst (λ (d : Database). Tells budgets s (Shows (Answered j.current.1 d.operators)) (with_branches j.behind s)) j.database
          (shows_at_once budgets s (with_branches j.behind s) (Answered j.current.1 s.database.operators) (inl (ap is_selecting looks)) (turn.answers looks)
          (not_written (Answered j.current.1 s.database.operators) refl))

      pub comes_back : Stand db n choices now None (with_branches j.behind s)
      comes_back = record { database = j.database; selected = j.selected; first = []; behind = j.behind; branches = refl; current = refl; waiting = j.waiting }
