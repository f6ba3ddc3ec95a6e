-- The newest choice, which stands for no branch while the branch that it saved is settled.
use Rattle.std.proofs.Common.{◌≡◌, ◌-◌, ℕ, suc, List, [], ◌∷◌, ◌++◌, length, map, drop, None, refl, sym, ap, ◌∙◌, subst, arith, length-append}
use Rattle.cq_control.specs.Open.{AreMarked, last, open_choices}
use Rattle.cq_settle.specs.Contents.{Contents}
use Rattle.spec_engine.specs.Cells.{Value}
use Rattle.spec_engine.specs.Standing.{AreWaiting}
use Rattle.spec_engine.specs.Coming.{at_once}
use Rattle.spec_engine.proofs.Kept.{length-last}
use Rattle.cq_branch.specs.declared.alternatives.Alternatives.{Alternatives}
use Rattle.cq_branch.specs.declared.alternatives.Alternatives.TheVariants.{Barrier}
use Rattle.cq_branch.specs.Worlds.{IsBranch, term_in, left_at}
use Rattle.cq_choices.specs.Held.{Held, open_of}
use Rattle.cq_choices.specs.Newest.{Replaces}
use Rattle.cq_choices.specs.Trying.{ComesOver}
use Rattle.cq_choices.proofs.Newest.{other_newest, older_ones}

-- none is below height 0
pub none_below : {A : Type 0} (xs : List A) → last 0 xs ≡ []
none_below [] = refl
none_below (x ∷ xs) = (let e : length (x ∷ xs) - 0 ≡ suc (length xs - 0) = omega arith in ap (λ (n : ℕ). drop n (x ∷ xs)) e ∙ none_below xs)

-- other contents of the newest
replaced : (old new newer : List Alternatives) (n : ℕ) (x y : Alternatives) → length old ≡ suc n → old ≡ newer ++ x ∷ last n old → new ≡ newer ++ y ∷ last n old
    → Replaces old y new
replaced old new [] n x y long was is = (x, last n old, was, is)
replaced old new (z ∷ newer) n x y long was is =
    absurd (omega (arith, ap length was, length-append newer (x ∷ last n old), length-last old n (omega (arith, long)), long))

-- where it saved its branch at this value
module _ (choices : List Alternatives) (content : Alternatives) (others : List Alternatives) (start : Value Contents) (older : List (Value Contents × Alternatives))
    (is : choices ≡ Barrier ∷ others) (saved : List (Value Contents)) (opened : open_choices saved choices ≡ (start, Barrier) ∷ older) where
  many : length choices ≡ suc (length others)
  many = ap length is

  -- it is taken off
  pub taken_off : (n : ℕ) (fewer : List (Value Contents)) (after : List Alternatives) → n ≡ length choices → AreMarked saved choices
      → open_choices fewer after ≡ last (n - 1) (open_choices saved choices) → open_choices fewer after ≡ older
  taken_off n fewer after e marked cut =
      let one : n - 1 ≡ length others = omega (arith, e, many) in
      cut ∙ ap (λ (m : ℕ). last m (open_choices saved choices)) one ∙ older_ones saved choices (length others) (start, Barrier) older marked many opened

  -- it has its contents again
  pub put_back : (n : ℕ) (newer after : List Alternatives) (x : Alternatives) → n ≡ length choices → choices ≡ newer ++ x ∷ last (n - 1) choices
      → after ≡ newer ++ content ∷ last (n - 1) choices → open_choices saved after ≡ (start, content) ∷ older
  put_back n newer after x e was now =
      let one : length choices ≡ suc (n - 1) = omega (arith, e, many) in
      other_newest saved choices after content (start, Barrier) older (replaced choices after newer (n - 1) x content one was now) opened

-- with the same choices the engine stands for the same searches, whatever the world is now
pub still_there : (old : Held) (saved : List (Value Contents)) (choices : List Alternatives) (now : Value Contents) → open_choices saved choices ≡ open_of old
    → ComesOver old (record { texts = old.texts; saved = saved; choices = choices; now = now }) None
still_there old saved choices now same v o steps db n t j = record {
  reached = t;
  quiet = at_once;
  stands = record {
    database = j.database;
    selected = j.selected;
    first = j.first;
    behind = j.behind;
    branches = j.branches;
    current = j.current;
    waiting = subst (λ (xs : List (Value Contents × Alternatives)). AreWaiting (IsBranch old.texts) (term_in old.texts) (map (left_at old.texts v) xs) j.behind) (sym same) j.waiting;
  };
}

-- the marks are as they were
pub marked_still : (saved more : List (Value Contents)) (choices : List Alternatives) → more ≡ saved → AreMarked saved choices → AreMarked more choices
marked_still saved more choices same marked = subst (λ (xs : List (Value Contents)). AreMarked xs choices) (sym same) marked
