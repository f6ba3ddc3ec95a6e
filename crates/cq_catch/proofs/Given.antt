-- A catch has a ball.
use Rattle.std.proofs.Common.{◌≡◌, ◌<◌, ◌+◌, ℕ, suc, List, [], ◌∷◌, length, map, Some, refl, sym, ap, ◌∙◌, arith}
use Rattle.std.specs.Prelude.{reverse}
use Rattle.std.specs.List.{zip}
use Rattle.std.proofs.lemmas.List.{length-map, length-reverse}
use Rattle.std.proofs.lemmas.Option.{same_Some, none-some}
use Rattle.spec_numbers.specs.Texts.{Text}
use Rattle.cq_control.specs.Open.{AreMarked, last, open_choices}
use Rattle.cq_resolve.specs.Database.{Program}
use Rattle.cq_resolve.specs.StoredValue.{StoredValue}
use Rattle.cq_term.specs.Meaning.{HeapTerm}
use Rattle.cq_settle.specs.Contents.{Contents}
use Rattle.spec_engine.specs.Cells.{as_catch, top_catch, catch_at, Value, Stack}
use Rattle.spec_engine.specs.Cells as left
use Rattle.spec_engine.proofs.Kept.{last-last, last-older, last-all, length-last}
use Rattle.cq_branch.specs.Stored.{stored_tree}
use Rattle.cq_branch.specs.Worlds.{stack, left_at, left_of}
use Rattle.cq_branch.specs.declared.alternatives.Alternatives.{Alternatives}
use Rattle.cq_branch.specs.declared.alternatives.Alternatives.TheVariants as alternatives
use Rattle.cq_branch.proofs.Done.{stack_cut, length-stack}
use Rattle.cq_catch.specs.Balls.{HasCatch}

abbrev pub Opened : Type 0
Opened = List (Value Contents × Alternatives)

-- a catch for the definitions is a catch
catch_is : (texts : List Text) (v : Program) (w : Value Contents) (ts : List HeapTerm) (a : Alternatives) (call : Value Contents × ℕ) → as_catch w (left_of texts v ts a) ≡ Some call
    → (a ≡ alternatives.Catches call.1) × (w ≡ call.0)
catch_is texts v w ts (alternatives.One k) call e = absurd (none-some call e)
catch_is texts v w ts (alternatives.Clauses t walk k) call e = absurd (none-some call e)
catch_is texts v w ts (alternatives.Ways s k) call e = absurd (none-some call e)
catch_is texts v w ts alternatives.Barrier call e = absurd (none-some call e)
catch_is texts v w ts (alternatives.Catches k) call e =
    let same = same_Some (w, k) call e in
    (ap (λ (c : Value Contents × ℕ). alternatives.Catches c.1) same, ap (λ (c : Value Contents × ℕ). c.0) same)
catch_is texts v w ts (alternatives.Caught ball c r k) call e = absurd (none-some call e)
catch_is texts v w ts (alternatives.Gathers l copies j) call e = absurd (none-some call e)
catch_is texts v w ts (alternatives.Matches t walk removes k) call e = absurd (none-some call e)

-- of what is open the newest is of the newest choice
zip_newest : (xs : List (Value Contents)) (a : Alternatives) (others : List Alternatives) → length xs ≡ suc (length others)
    → (x : Value Contents) × (older : Opened) × (zip xs (a ∷ others) ≡ (x, a) ∷ older)
zip_newest [] a others e = absurd (omega (arith, e))
zip_newest (x ∷ xs) a others e = (x, zip xs others, refl)

pub open_newest : (saved : List (Value Contents)) (choices : List Alternatives) (a : Alternatives) (others : List Alternatives) → AreMarked saved choices → choices ≡ a ∷ others
    → (x : Value Contents) × (older : Opened) × (open_choices saved choices ≡ (x, a) ∷ older)
open_newest saved choices a others marked is =
    let z = zip_newest (reverse saved) a others (length-reverse saved ∙ marked ∙ ap length is) in
    (z.0, z.1, ap (open_choices saved) is ∙ z.2)

-- the newest of the choices that are left once the newer ones are cut
module _ (saved fewer : List (Value Contents)) (choices fewest : List Alternatives) (height : ℕ) (x : Value Contents) (a : Alternatives) (older : Opened)
    (cut : open_choices fewer fewest ≡ last (suc height) (open_choices saved choices)) (is : open_choices fewer fewest ≡ (x, a) ∷ older) where
  module _ (texts : List Text) (v : Program) where
    top_is : last (suc height) (stack texts v saved choices) ≡ left_at texts v (x, a) ∷ map (left_at texts v) older
    top_is = sym (stack_cut texts v saved fewer choices fewest (suc height) cut) ∙ ap (map (left_at texts v)) is

    pub newest_is : (call : Value Contents × ℕ) → catch_at (stack texts v saved choices) height ≡ Some call → (a ≡ alternatives.Catches call.1) × (x ≡ call.0)
    newest_is call e = catch_is texts v x x.0.heap.terms a call (sym (ap top_catch top_is) ∙ e)

    older_is : height < length (stack texts v saved choices) → last height (stack texts v saved choices) ≡ map (left_at texts v) older
    older_is l =
        let rs = stack texts v saved choices in
        let long : suc (length older) ≡ suc height = ap suc (sym (length-map older (left_at texts v))) ∙ sym (ap length top_is) ∙ length-last rs (suc height) (omega (arith, l)) in
        let many : length (map (left_at texts v) older) ≡ height = length-map older (left_at texts v) ∙ omega (arith, long) in
        sym (last-last rs height (suc height) (omega arith)) ∙ ap (last height) top_is
        ∙ last-older (left_at texts v (x, a)) (map (left_at texts v) older) height (omega (arith, many)) ∙ last-all (map (left_at texts v) older) height (omega (arith, many))

    -- the choice has the ball
    pub given_is : (call : Value Contents × ℕ) (more : List (Value Contents)) (after : List Alternatives) (ball : StoredValue) (c r k : ℕ)
        → height < length (stack texts v saved choices) → catch_at (stack texts v saved choices) height ≡ Some call → a ≡ alternatives.Catches k
        → open_choices more after ≡ (x, alternatives.Caught ball c r k) ∷ older
        → stack texts v more after ≡ (call.0, left.Caught (stored_tree texts ball) c r call.1) ∷ last height (stack texts v saved choices)
    given_is call more after ball c r k l e was now =
        let n = newest_is call e in
        let same : k ≡ call.1 = behind (sym was ∙ n.0) in
        ap (map (left_at texts v)) now
        ∙ ap (λ (o : Stack Contents). (x, left.Caught (stored_tree texts ball) c r k) ∷ o) (sym (older_is l))
        ∙ ap (λ (w : Value Contents). (w, left.Caught (stored_tree texts ball) c r k) ∷ last height (stack texts v saved choices)) n.1
        ∙ ap (λ (m : ℕ). (call.0, left.Caught (stored_tree texts ball) c r m) ∷ last height (stack texts v saved choices)) same
      where
        behind : {i j : ℕ} → alternatives.Catches i ≡ alternatives.Catches j → i ≡ j
        behind f = cc

-- the height of code as a number of choices
cut_to : (saved fewer : List (Value Contents)) (choices fewest : List Alternatives) (height : ℕ) → open_choices fewer fewest ≡ last (height + 1) (open_choices saved choices)
    → open_choices fewer fewest ≡ last (suc height) (open_choices saved choices)
cut_to saved fewer choices fewest height cut = (let e : height + 1 ≡ suc height = omega arith in cut ∙ ap (λ (n : ℕ). last n (open_choices saved choices)) e)

-- the newest of those that are left is a catch
pub newest_catch : (saved fewer : List (Value Contents)) (choices fewest : List Alternatives) (height : ℕ) (a : Alternatives) (others : List Alternatives)
    → AreMarked fewer fewest → fewest ≡ a ∷ others → open_choices fewer fewest ≡ last (height + 1) (open_choices saved choices) → HasCatch saved choices height
    → (k : ℕ) × (a ≡ alternatives.Catches k)
newest_catch saved fewer choices fewest height a others marked is cut h =
    let o = open_newest fewer fewest a others marked is in
    (h.2.1, (newest_is saved fewer choices fewest height o.0 a o.1 (cut_to saved fewer choices fewest height cut) o.2 h.0 h.1 h.2 h.3).0)

-- it has the ball then
pub catch_given : (saved fewer more : List (Value Contents)) (choices fewest after : List Alternatives) (height : ℕ) (x : Value Contents) (a : Alternatives) (older : Opened)
    (ball : StoredValue) (c r k : ℕ) → AreMarked saved choices → height < length choices → open_choices fewer fewest ≡ last (height + 1) (open_choices saved choices)
    → open_choices fewer fewest ≡ (x, a) ∷ older → open_choices more after ≡ (x, alternatives.Caught ball c r k) ∷ older → a ≡ alternatives.Catches k
    → (texts : List Text) (v : Program) (call : Value Contents × ℕ) → catch_at (stack texts v saved choices) height ≡ Some call
    → stack texts v more after ≡ (call.0, left.Caught (stored_tree texts ball) c r call.1) ∷ last height (stack texts v saved choices)
catch_given saved fewer more choices fewest after height x a older ball c r k marked there cut is now was texts v call e =
    given_is saved fewer choices fewest height x a older (cut_to saved fewer choices fewest height cut) is texts v call more after ball c r k
    (omega (arith, there, length-stack texts v saved choices marked)) e was now
