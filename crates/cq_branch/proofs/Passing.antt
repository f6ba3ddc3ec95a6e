-- Marks that are passed and choices that are come back to, over the choices of the code.
use Rattle.std.proofs.Common.{◌≡◌, ℕ, ◌<◌, List, [], ◌∷◌, ◌++◌, length, Option, None, Some, sym, ap, ◌∙◌, subst, map}
use Rattle.spec_numbers.specs.Texts.{Text}
use Rattle.spec_branch.specs.Branch.{Branch}
use Rattle.spec_search.specs.Database.{Database}
use Rattle.spec_search.specs.Search.{Search}
use Rattle.cq_control.specs.Items.{items_at}
use Rattle.cq_control.specs.Open.{last, open_choices}
use Rattle.cq_resolve.specs.Database.{Program}
use Rattle.cq_settle.specs.Contents.{Contents}
use Rattle.spec_engine.specs.declared.machine.cell.Cell.TheVariants.{CutTo, CutFail, CatchEnd}
use Rattle.spec_engine.specs.Cells.{Left, Barrier, Catches, Value, Stack}
use Rattle.spec_engine.specs.Standing.{engine, AreBranches, IsStanding}
use Rattle.spec_engine.specs.Coming.{Comes}
use Rattle.spec_engine.proofs.Passed.{cut_passed, fail_passed, end_passed, one_begun}
use Rattle.cq_branch.specs.declared.alternatives.Alternatives.{Alternatives}
use Rattle.cq_branch.specs.declared.alternatives.Alternatives.TheVariants as alternatives
use Rattle.cq_branch.specs.Worlds.{IsBranch, term_in, Stands, IsWorking, Arrives, stack, left_at}
use Rattle.cq_branch.proofs.Arrived.{comes_on, comes_at_once}
use Rattle.cq_branch.proofs.Branches.{branches_rest}
use Rattle.cq_branch.proofs.Done.{stack_cut}

module _ (steps : ℕ) (texts : List Text) (v : Program) (db : Database) (n : ℕ) (s : Search) where
  abbrev comes : Stack Contents → Value Contents → Option ℕ → Search → Type 0
  comes choices now current t = Comes (IsBranch texts) (term_in texts) steps (engine db n choices now current) t

  pub here : (saved : List (Value Contents)) (choices : List Alternatives) (now : Value Contents) (current : Option ℕ) → Stands texts v db n saved choices now current s
      → Arrives steps texts v db n saved choices now current s
  here saved choices now current j = comes_at_once (IsBranch texts) (term_in texts) steps (engine db n (stack texts v saved choices) now current) s j

  module _ (saved : List (Value Contents)) (choices : List Alternatives) (now : Value Contents) (k rest : ℕ) (earlier : rest < k)
      (a : Arrives steps texts v db n saved choices now (Some k) s) where
    pub cut_on : (fewer : List (Value Contents)) (left : List Alternatives) (height : ℕ) → items_at now.1 k ≡ CutTo height ∷ items_at now.1 rest
        → open_choices fewer left ≡ last height (open_choices saved choices) → Arrives steps texts v db n fewer left now (Some rest) s
    cut_on fewer left height e o = comes_on (IsBranch texts) (term_in texts) steps _ _ s a
        (λ t j. subst (λ st. comes st now (Some rest) t) (sym (stack_cut texts v saved fewer choices left height o))
        (cut_passed (IsBranch texts) (term_in texts) steps db n (stack texts v saved choices) now k rest t j earlier height e))

    pub fail_on : (fewer : List (Value Contents)) (left : List Alternatives) (height : ℕ) → items_at now.1 k ≡ CutFail height ∷ items_at now.1 rest
        → open_choices fewer left ≡ last height (open_choices saved choices) → Arrives steps texts v db n fewer left now None s
    fail_on fewer left height e o = comes_on (IsBranch texts) (term_in texts) steps _ _ s a
        (λ t j. subst (λ st. comes st now None t) (sym (stack_cut texts v saved fewer choices left height o))
        (fail_passed (IsBranch texts) (term_in texts) steps db n (stack texts v saved choices) now k rest t j earlier height e))

    pub end_on : (height c r : ℕ) → items_at now.1 k ≡ CatchEnd height c r ∷ items_at now.1 rest → Arrives steps texts v db n saved choices now (Some rest) s
    end_on height c r e = comes_on (IsBranch texts) (term_in texts) steps _ _ s a
        (λ t j. end_passed (IsBranch texts) (term_in texts) steps db n (stack texts v saved choices) now k rest t j earlier height c r e)

  abbrev Standing : Value Contents → Stack Contents → Search → Type 0
  Standing now st t = IsStanding (IsBranch texts) (term_in texts) (engine db n st now None) t

  pub one_on : (saved fewer : List (Value Contents)) (choices left : List Alternatives) (now back : Value Contents) (k : ℕ)
      → open_choices saved choices ≡ (back, alternatives.One k) ∷ open_choices fewer left
      → Arrives steps texts v db n saved choices now None s → Arrives steps texts v db n fewer left back (Some k) s
  one_on saved fewer choices left now back k e a = comes_on (IsBranch texts) (term_in texts) steps _ _ s a
      (λ t j. one_begun (IsBranch texts) (term_in texts) steps db n (stack texts v fewer left) back now t (branches_rest texts) k
      (subst (λ st. Standing now st t) (ap (map (left_at texts v)) e) j))

  -- a choice that stands for no branch is passed
  passed_over : (older : Stack Contents) (w now : Value Contents) (left : Left) (t : Search) → ((bs : List Branch) → AreBranches (IsBranch texts) (term_in texts) older w left bs → bs ≡ [])
      → IsStanding (IsBranch texts) (term_in texts) (engine db n ((w, left) ∷ older) now None) t → IsStanding (IsBranch texts) (term_in texts) (engine db n older w None) t
  passed_over older w now left t none j = record {
    database = j.database;
    selected = j.selected;
    first = j.first;
    behind = j.waiting.1;
    branches = j.branches ∙ ap (λ l. j.first ++ l) (j.waiting.2 ∙ ap (λ l. l ++ j.waiting.1) (none j.waiting.0 j.waiting.3));
    current = j.current;
    waiting = j.waiting.4;
  }

  pub barrier_on : (saved fewer : List (Value Contents)) (choices left : List Alternatives) (now back : Value Contents)
      → open_choices saved choices ≡ (back, alternatives.Barrier) ∷ open_choices fewer left
      → Arrives steps texts v db n saved choices now None s → Arrives steps texts v db n fewer left back None s
  barrier_on saved fewer choices left now back e a = comes_on (IsBranch texts) (term_in texts) steps _ _ s a
      (λ t j. comes_at_once (IsBranch texts) (term_in texts) steps _ t
      (passed_over (stack texts v fewer left) back now Barrier t (λ bs b. b) (subst (λ st. Standing now st t) (ap (map (left_at texts v)) e) j)))

  pub catch_on : (saved fewer : List (Value Contents)) (choices left : List Alternatives) (now back : Value Contents) (k : ℕ)
      → open_choices saved choices ≡ (back, alternatives.Catches k) ∷ open_choices fewer left
      → Arrives steps texts v db n saved choices now None s → Arrives steps texts v db n fewer left back None s
  catch_on saved fewer choices left now back k e a = comes_on (IsBranch texts) (term_in texts) steps _ _ s a
      (λ t j. comes_at_once (IsBranch texts) (term_in texts) steps _ t
      (passed_over (stack texts v fewer left) back now (Catches k) t (λ bs b. b) (subst (λ st. Standing now st t) (ap (map (left_at texts v)) e) j)))

-- ---- searches for which an engine stands

-- where what the engine stood for comes to what it stands for now, it still stands for some search
pub works_on : (old new : List (Value Contents)) (choices left : List Alternatives) (was now : Value Contents) (before after : Option ℕ) → IsWorking old choices was before
    → ((steps : ℕ) (texts : List Text) (v : Program) (db : Database) (n : ℕ) (s : Search) → Stands texts v db n old choices was before s → Arrives steps texts v db n new left now after s)
    → IsWorking new left now after
works_on old new choices left was now before after w f =
    let a = f 0 w.0 w.1 w.2 w.3 w.4 w.5 in
    (w.0, w.1, w.2, w.3, a.reached, a.stands)

pub current_there : (saved : List (Value Contents)) (choices : List Alternatives) (now : Value Contents) (k : ℕ) → IsWorking saved choices now (Some k) → k < length now.1
current_there saved choices now k w = w.5.current.3.there

pub arrives_on : (mid new : List (Value Contents)) (fewer left : List Alternatives) (between now : Value Contents) (at after : Option ℕ)
    → (steps : ℕ) (texts : List Text) (v : Program) (db : Database) (n : ℕ) (s : Search) → Arrives steps texts v db n mid fewer between at s
    → ((steps : ℕ) (texts : List Text) (v : Program) (db : Database) (n : ℕ) (s : Search) → Stands texts v db n mid fewer between at s → Arrives steps texts v db n new left now after s)
    → Arrives steps texts v db n new left now after s
arrives_on mid new fewer left between now at after steps texts v db n s a f = comes_on (IsBranch texts) (term_in texts) steps _ _ s a (λ t j. f steps texts v db n t j)

-- the same where the world is an equal one
pub arrives_same : (steps : ℕ) (texts : List Text) (v : Program) (db : Database) (n : ℕ) (s : Search) (saved : List (Value Contents)) (choices : List Alternatives) (now later : Value Contents)
    (current : Option ℕ) → later ≡ now → Arrives steps texts v db n saved choices now current s → Arrives steps texts v db n saved choices later current s
arrives_same steps texts v db n s saved choices now later current e a = subst (λ w. Arrives steps texts v db n saved choices w current s) (sym e) a
