-- What a machine keeps and stands for as names are added, and what it comes to behind quiet turns.
use Rattle.std.proofs.Common.{◌≡◌, ℕ, ◌<◌, ◌≤◌, ◌+◌, ◌-◌, length, map, drop, arith, List, [], ◌∷◌, true, Option, None, Some, refl, sym, ap, ◌∙◌, subst}
use Rattle.std.specs.Prelude.{reverse}
use Rattle.std.specs.List.{zip}
use Rattle.spec_numbers.proofs.Prefixes.{prefix_both, prefix_same}
use Rattle.spec_numbers.specs.Texts.{Text}
use Rattle.spec_search.specs.Database.{Database}
use Rattle.spec_search.specs.Search.{Search, look_at, is_selecting}
use Rattle.spec_search.specs.Turns.{with_branches}
use Rattle.spec_transcript.specs.Causes.{Budgets, Resolutions}
use Rattle.cq_control.specs.Items.{items_at}
use Rattle.cq_control.specs.Open.{last}
use Rattle.cq_catch.specs.Gathering.{IsMark}
use Rattle.cq_branch.specs.Marks.{IsFront}
use Rattle.cq_branch.specs.Worlds.{IsBranch, term_in, left_at}
use Rattle.cq_branch.proofs.Selected.{goal_selected, call_selected}
use Rattle.cq_settle.specs.Contents.{Contents}
use Rattle.spec_engine.specs.declared.machine.cell.Cell.{Cell}
use Rattle.spec_engine.specs.declared.machine.cell.Cell.TheVariants.{Goal, Call, CutTo, CutFail, CatchEnd, Collect}
use Rattle.spec_engine.specs.Cells.{Value, Stack, size}
use Rattle.spec_engine.specs.Coming.{Quietly, Tells, Stops}
use Rattle.spec_engine.specs.Coming as coming
use Rattle.spec_engine.specs.Standing.{engine, AreWaiting, IsStanding}
use Rattle.cq_machine.specs.declared.machine.Machine.{Machine}
use Rattle.cq_machine.specs.Machines.{IsSound, database_of, holds, now, saved, terms}
use Rattle.cq_term.specs.Trees.{KnowsTerms}
use Rattle.cq_engine.specs.declared.front.Front.{Front}
use Rattle.cq_engine.specs.declared.front.Front.TheVariants.{Ahead, Answer, Fail, Escapes, Stop}
use Rattle.cq_engine.specs.Fronts.{Answers, Ends, Halts, IsFrontOf, IsGoal, ComesNext, left_on}
use Rattle.cq_engine.specs.declared.front.Next.{Next}
use Rattle.cq_engine.specs.declared.front.Next.TheVariants.{Told, Mark}
use Rattle.cq_catch.proofs.Counted.{in_hand, quiet_count, standing_count}
use Rattle.cq_control.specs.Heights.{total}
use Rattle.cq_engine.specs.Seeking.{IsKept, GainsNames, KeepsNames, StandsFor, ComesTo, IsGoing, GoesTo}
use Rattle.cq_engine.proofs.Told.{quietly_then, told_then, ends_told, answer_told, comes_back}

-- ---- a machine that gains names

pub gains_on : (a b c : Machine) → GainsNames a b → GainsNames b c → GainsNames a c
gains_on a b c f g = record {
  atoms = prefix_both a.atoms b.atoms c.atoms f.atoms g.atoms;
  names = g.names ∙ f.names;
  ops = g.ops ∙ f.ops;
  clauses = g.clauses ∙ f.clauses;
  database = g.database ∙ f.database;
}

pub keeps_on : (a b c : Machine) → KeepsNames a b → GainsNames b c → KeepsNames a c
keeps_on a b c f g = record {
  atoms = prefix_both a.atoms b.atoms c.atoms f.atoms g.atoms;
  names = g.names ∙ f.names;
  ops = g.ops ∙ f.ops;
}

pub keeps_both : (a b c : Machine) → KeepsNames a b → KeepsNames b c → KeepsNames a c
keeps_both a b c f g = record { atoms = prefix_both a.atoms b.atoms c.atoms f.atoms g.atoms; names = g.names ∙ f.names; ops = g.ops ∙ f.ops }

pub keeps_none : (m : Machine) → KeepsNames m m
keeps_none m = record { atoms = prefix_same m.atoms m.atoms refl; names = refl; ops = refl }

-- ---- a machine that goes on

-- the terms of its world are known
pub sound_where : (m : Machine) → IsKept m → KnowsTerms m.atoms (terms m) → IsSound m
sound_where m k names = record {
  known = k.known;
  different = k.different;
  names = names;
  program = k.program;
  operators_named = k.operators_named;
  marked = k.marked;
  untried = k.untried;
}

pub kept_where : (m : Machine) → IsSound m → IsKept m
kept_where m s = record {
  known = s.known;
  different = s.different;
  program = s.program;
  operators_named = s.operators_named;
  marked = s.marked;
  untried = s.untried;
}

pub going_on : (old new : Machine) (start current : Option ℕ) → GoesTo old start new current → IsGoing old start → IsGoing new current
going_on old new start current f w = let c = f 0 w.0 w.1 w.2 in (w.0, c.reached, c.stands)

pub names_known : (m : Machine) (k : ℕ) → IsGoing m (Some k) → KnowsTerms m.atoms (terms m)
names_known m k w = w.2.current.3.state.ready.stands.names

-- without choices it stands for a search that has no branch
pub none_left : (old new : Machine) (n : ℕ) (current : Option ℕ) (s : Search) → GainsNames old new → holds new ≡ [] → StandsFor old n current s
    → StandsFor new n None (with_branches [] s)
none_left old new n current s g none j = record {
  database = j.database ∙ sym g.database;
  selected = j.selected;
  first = [];
  behind = [];
  branches = refl;
  current = refl;
  waiting = subst (λ (rs : Stack Contents). AreWaiting (IsBranch new.atoms) (term_in new.atoms) rs []) (sym none) refl;
}

-- ---- behind quiet turns

pub front_then : (budgets : Budgets) (m : Machine) (n : ℕ) (f : Front) (s r : Search) → Quietly budgets.steps s r → IsFrontOf budgets m n f r → IsFrontOf budgets m n f s
front_then budgets m n (Ahead k) s r q c = record { reached = c.reached; quiet = quietly_then q c.quiet; stands = c.stands }
front_then budgets m n Answer s r q a = record { state = a.state; is_state = a.is_state; next = a.next; tells = told_then q a.tells; stands = a.stands }
front_then budgets m n Fail s r q e = record { next = e.next; tells = told_then q e.tells; stands = e.stands }
front_then budgets m n (Escapes ball) s r q e = record { ball = e.ball; is_stored = e.is_stored; next = e.next; tells = told_then q e.tells; stands = e.stands }
front_then budgets m n (Stop cause) s r q h = record { reached = h.reached; quiet = quietly_then q h.quiet; last = h.last; tells = h.tells; database = h.database; stands = h.stands }

-- ---- a goal in front

module _ (texts : List Text) (db : Database) (n : ℕ) (choices : Stack Contents) (now : Value Contents) (k rest : ℕ) (s : Search)
    (j : IsStanding (IsBranch texts) (term_in texts) (engine db n choices now (Some k)) s) (earlier : rest < k) where
  pub goal_next : (cell : Cell) → items_at now.1 k ≡ cell ∷ items_at now.1 rest → IsGoal cell → is_selecting (look_at s.branches) ≡ true
  goal_next (Goal t height) e g = ap is_selecting (goal_selected (IsBranch texts) (term_in texts) db n choices now k rest s j earlier t height e).0.selects
  goal_next (Call t) e g = ap is_selecting (call_selected (IsBranch texts) (term_in texts) db n choices now k rest s j earlier t e).0.selects
  goal_next (CutTo height) e g = absurd g
  goal_next (CutFail height) e g = absurd g
  goal_next (CatchEnd height c r) e g = absurd g
  goal_next (Collect height t) e g = absurd g

pub mark_next : (cs cells : List Cell) (cell : Cell) → cs ≡ cell ∷ cells → (IsFront (cell ∷ cells) → IsMark (cell ∷ cells)) → IsFront cs → IsMark cs
mark_next cs cells cell e f front = subst IsMark (sym e) (f (subst IsFront e front))

pub stops_out : (budgets : Budgets) (s : Search) → is_selecting (look_at s.branches) ≡ true → s.selected ≡ budgets.steps
    → Tells budgets s (Stops (Resolutions budgets.steps)) (with_branches [] s)
stops_out budgets s next many = coming.stops coming.at_once (coming.runs_out next many)

-- with no choice and nothing to go on with, no branch is left
pub ends_next : (budgets : Budgets) (m : Machine) (n : ℕ) (s : Search) → holds m ≡ [] → StandsFor m n None s → Ends budgets m n s
ends_next budgets m n s none j = record {
  next = s;
  tells = ends_told (IsBranch m.atoms) (term_in m.atoms) budgets (database_of m) n (now m) s
      (subst (λ (rs : Stack Contents). IsStanding (IsBranch m.atoms) (term_in m.atoms) (engine (database_of m) n rs (now m) None) s) none j);
  stands = j;
}

-- with nothing left to do the search answers
pub answers_next : (budgets : Budgets) (m : Machine) (n k : ℕ) (s : Search) → items_at m.world.second.now k ≡ [] → StandsFor m n (Some k) s → Answers budgets m n s
answers_next budgets m n k s done j = record {
  state = j.current.1;
  is_state = j.current.3.state;
  next = with_branches j.behind s;
  tells = answer_told (IsBranch m.atoms) (term_in m.atoms) budgets (database_of m) n (now m) s (holds m) k j done;
  stands = comes_back (IsBranch m.atoms) (term_in m.atoms) budgets (database_of m) n (now m) s (holds m) k j done;
}

-- ---- no choices

drop_all : {A : Type 0} (xs : List A) → drop (length xs) xs ≡ []
drop_all [] = refl
drop_all (x ∷ xs) = drop_all xs

pub last-none : {A : Type 0} (xs : List A) → last 0 xs ≡ []
last-none xs = let e : length xs - 0 ≡ length xs = omega arith in ap (λ (n : ℕ). drop n xs) e ∙ drop_all xs

pub zip_none : {A B : Type 0} (xs : List A) (ys : List B) → ys ≡ [] → zip xs ys ≡ []
zip_none [] ys e = refl
zip_none (x ∷ xs) [] e = refl
zip_none (x ∷ xs) (y ∷ ys) e = absurd (omega (arith, ap length e))

pub holds_none : (m : Machine) → m.choices ≡ [] → holds m ≡ []
holds_none m e = ap (map (left_at m.atoms m.clauses)) (zip_none (reverse (saved m)) m.choices e)

-- ---- what is in front

pub halts_out : (budgets : Budgets) (old new : Machine) (n k rest steps : ℕ) (cell : Cell) (s : Search) → GainsNames old new → holds new ≡ [] → budgets.steps ≡ steps
    → n ≡ steps → rest < k → items_at old.world.second.now k ≡ cell ∷ items_at old.world.second.now rest → IsGoal cell
    → StandsFor old n (Some k) s → Halts budgets (Resolutions steps) new n s
halts_out budgets old new n k rest steps cell s g none e many earlier cells goal j = record {
  reached = s;
  quiet = coming.at_once;
  last = with_branches [] s;
  tells = subst (λ (x : ℕ). Tells budgets s (Stops (Resolutions x)) (with_branches [] s)) e
      (stops_out budgets s (goal_next old.atoms (database_of old) n (holds old) (now old) k rest s j earlier cell cells goal) (j.selected ∙ many ∙ sym e));
  database = refl;
  stands = none_left old new n (Some k) s g none j;
}

-- ---- one thing after another

pub goes_then : (a b c : Machine) (start mid current : Option ℕ) → GoesTo a start b mid → GoesTo b mid c current → GoesTo a start c current
goes_then a b c start mid current f g = λ steps n s j.
    let x = f steps n s j in
    let y = g steps n x.reached x.stands in
    record { reached = y.reached; quiet = quietly_then x.quiet y.quiet; stands = y.stands }

pub look_front : (budgets : Budgets) (old mid new : Machine) (n : ℕ) (start current : Option ℕ) (f : Front) (s : Search) → GoesTo old start mid current
    → ((r : Search) → StandsFor mid n current r → IsFrontOf budgets new n f r) → StandsFor old n start s → IsFrontOf budgets new n f s
look_front budgets old mid new n start current f s g h j =
    let c = g budgets.steps n s j in
    front_then budgets new n f s c.reached c.quiet (h c.reached c.stands)

-- the next thing behind that
pub next_then : (old mid new : Machine) (start current : Option ℕ) (steps n : ℕ) (x : Next) → mid.world.first.store.pivots ≡ old.world.first.store.pivots → GoesTo old start mid current
    → ComesNext mid current steps n new x → ComesNext old start steps n new x
next_then old mid new start current steps n (Told f) e g h =
    (λ budgets a b s j. look_front budgets old mid new n start current f s g (λ r k. h.0 budgets a (b ∙ sym e) r k) j, h.1)
next_then old mid new start current steps n (Mark k) e g h = (goes_then old mid new start current (Some k) g h.0, h.1, h.2)

-- ---- how many branches are left

module _ (m : Machine) (n : ℕ) (current : Option ℕ) (s : Search) (j : StandsFor m n current s) where
  pub left_is : length s.branches ≡ left_on m current
  left_is = standing_count (IsBranch m.atoms) (term_in m.atoms) (engine (database_of m) n (holds m) (now m) current) s j ∙ by_current current
    where
      by_current : (k : Option ℕ) → in_hand k + total size (holds m) ≡ left_on m k
      by_current None = omega arith
      by_current (Some k) = omega arith

-- where no goal is selected none is added
pub left_less : (old new : Machine) (start current : Option ℕ) → GoesTo old start new current → IsGoing old start → left_on new current ≤ left_on old start
left_less old new start current f w =
    let c = f 0 w.0 w.1 w.2 in
    omega (arith, quiet_count c.quiet, left_is old w.0 start w.1 w.2, left_is new w.0 current c.reached c.stands)

pub gains_none : (m : Machine) → GainsNames m m
gains_none m = record { atoms = prefix_same m.atoms m.atoms refl; names = refl; ops = refl; clauses = refl; database = refl }

pub comes_at_once : (m : Machine) (steps n : ℕ) (current : Option ℕ) (s : Search) → StandsFor m n current s → ComesTo steps m n current s
comes_at_once m steps n current s j = record { reached = s; quiet = coming.at_once; stands = j }
