-- The newest choice, as clauses that it leaves are tried one after another, and what is left of it.
use Rattle.std.proofs.Common.{◌≡◌, ◌⊎◌, inl, inr, ℕ, suc, ◌<◌, List, [], ◌∷◌, length, Some, refl, sym, ap, ap₂, ◌∙◌, subst, arith, true, false}
use Rattle.std.specs.Prelude.{All, reverse, slice_get}
use Rattle.std.specs.List.{AllByRecursion, zip}
use Rattle.std.proofs.lemmas.List.{length-reverse}
use Rattle.std.proofs.lemmas.Option.{get_or_from_slice_get}
use Rattle.std.proofs.lemmas.Slice.Zip.{length-zip}
use Rattle.spec_numbers.specs.Texts.{Text}
use Rattle.cq_clauses.specs.Selected.{key_at}
use Rattle.cq_clauses.specs.Walks.{HasNoneLeft}
use Rattle.cq_clauses.specs.declared.walk.Walk.{Walk}
use Rattle.cq_control.specs.Open.{AreMarked, last, open_choices}
use Rattle.cq_resolve.specs.Database.{Program, as_clause, as_parts}
use Rattle.cq_resolve.specs.Keys.{key_of}
use Rattle.cq_resolve.specs.StoredValue.{ClauseValue}
use Rattle.cq_term.specs.Meaning.{blank}
use Rattle.cq_settle.specs.Contents.{Contents}
use Rattle.cq_settle.specs.Worlds.{saved_of}
use Rattle.cq_settle.specs.declared.world.World.{World}
use Rattle.spec_engine.specs.declared.machine.cell.Cell.{Cell}
use Rattle.spec_engine.specs.Cells.{Value}
use Rattle.spec_engine.proofs.Kept.{last-older, last-all}
use Rattle.cq_branch.specs.Choices.{AreOpen, CanBeTried}
use Rattle.cq_branch.specs.Worlds.{saved_values}
use Rattle.cq_branch.specs.declared.alternatives.Alternatives.{Alternatives}
use Rattle.cq_calls.specs.Calling.{numbers_left}
use Rattle.cq_calls.specs.Trying.{IsGone, KeepsOthers, Leaves, gone, stays}

-- the choices below the newest are those that are older than it
pub older-all : {A : Type 0} (x : A) (xs : List A) → last (length xs) (x ∷ xs) ≡ xs
older-all x xs = last-older x xs (length xs) (omega arith) ∙ last-all xs (length xs) (omega arith)

abbrev pub Opened : Type 0
Opened = List (Value Contents × Alternatives)

-- what a clause holds
pub content_is : (texts : List Text) (v : Program) (n : ℕ) (kept : ClauseValue) → slice_get v.contents n ≡ Some kept → (as_clause texts v.contents n).parts ≡ as_parts texts kept
content_is texts v n kept e = ap (as_parts texts) (get_or_from_slice_get v.contents n kept (record { head = blank; body = blank; variables = 0 }) e)

pub none_left : (v : Program) (walk : Walk) → HasNoneLeft true walk → numbers_left v walk ≡ []
none_left v walk h = (h.tells_so (key_at (λ (c : ClauseValue). key_of c.head) v.contents) v.procedures).0 refl

-- a fact of what each clause holds
pub of_content : (P : ClauseValue → Type 0) (cs : List ClauseValue) (n : ℕ) (kept : ClauseValue) → All P cs → n < length cs → slice_get cs n ≡ Some kept → P kept
of_content P cs n kept a l e = subst P (get_or_from_slice_get cs n kept kept e) (a n kept l)

-- ---- lists with a newest

pub same-first : {A : Type 0} (x y : A) (xs ys : List A) → x ∷ xs ≡ y ∷ ys → x ≡ y
same-first x y xs ys e = cc

pub same-others : {A : Type 0} (x y : A) (xs ys : List A) → x ∷ xs ≡ y ∷ ys → xs ≡ ys
same-others x y xs ys e = cc

-- the newest of the choices of before was changed again, or is gone
pub newest_on : {first old new : List Alternatives} {x y : Alternatives} → (c : Alternatives) × (older : List Alternatives) × (old ≡ c ∷ older) × (new ≡ y ∷ older)
    → (c : Alternatives) × (older : List Alternatives) × (first ≡ c ∷ older) × (old ≡ x ∷ older)
    → (c : Alternatives) × (older : List Alternatives) × (first ≡ c ∷ older) × (new ≡ y ∷ older)
newest_on {x = x} {y = y} a b = (b.0, b.1, b.2, a.3 ∙ ap (λ (l : List Alternatives). y ∷ l) (same-others a.0 x a.1 b.1 (sym a.2 ∙ b.3)))

pub gone_on : {first old new : List Alternatives} {x : Alternatives} → IsGone old new → (c : Alternatives) × (older : List Alternatives) × (first ≡ c ∷ older) × (old ≡ x ∷ older)
    → IsGone first new
gone_on {new = new} {x = x} a b = (b.0, b.2 ∙ ap (λ (l : List Alternatives). b.0 ∷ l) (sym (same-others a.0 x new b.1 (sym a.1 ∙ b.3))))

-- the same where it is not said how the newest was changed
pub others_on : {first old new : List Alternatives} → KeepsOthers old new → KeepsOthers first old → KeepsOthers first new
others_on {new = new} a b = (b.0, a.1, b.2, b.3, a.4 ∙ ap (λ (l : List Alternatives). a.1 ∷ l) (same-others a.0 b.1 a.2 b.2 (sym a.3 ∙ b.4)))

pub gone_past : {first old new : List Alternatives} → IsGone old new → KeepsOthers first old → IsGone first new
gone_past {new = new} a b = (b.0, b.3 ∙ ap (λ (l : List Alternatives). b.0 ∷ l) (sym (same-others a.0 b.1 new b.2 (sym a.1 ∙ b.4))))

-- ---- what is left of the newest choice

-- without any clause it is gone, and else it leaves this to try
abbrev pub AreLeft : Alternatives → Walk → Value Contents → Opened → Opened → Type 0
AreLeft content rest w others new = (HasNoneLeft true rest × (new ≡ others)) ⊎ (new ≡ (w, content) ∷ others)

pub are_left : (content : Alternatives) (rest : Walk) (w : Value Contents) (x : Alternatives) (others old new : Opened) → old ≡ (w, x) ∷ others → Leaves content rest old new
    → AreLeft content rest w others new
are_left content rest w x others old new was (gone {c} none e) = inl (none, same-others c (w, x) new others (sym e ∙ was))
are_left content rest w x others old new was (stays {c} {older = more} some e f) =
    let first : c.0 ≡ w = ap (λ p. p.0) (same-first c (w, x) more others (sym e ∙ was)) in
    let same : more ≡ others = same-others c (w, x) more others (sym e ∙ was) in
    inr (f ∙ ap₂ (λ (z : Value Contents) (l : Opened). (z, content) ∷ l) first same)

-- cut away
pub cut_away : (content : Alternatives) (rest : Walk) (old new : Opened) (height : ℕ) → HasNoneLeft true rest → length old ≡ suc height → new ≡ last height old → Leaves content rest old new
cut_away content rest [] new height none long e = absurd (omega (arith, long))
cut_away content rest (c ∷ others) new height none long e =
    let high : height ≡ length others = omega (arith, long) in
    let same : new ≡ others = e ∙ ap (λ (m : ℕ). last m (c ∷ others)) high ∙ older-all c others in
    gone {c = c} none (ap (λ (l : Opened). c ∷ l) (sym same))

-- put in its place
put_there : (content : Alternatives) (rest : Walk) (vs : List (Value Contents)) (x : Alternatives) (xs : List Alternatives) → HasNoneLeft false rest → length vs ≡ length (x ∷ xs)
    → Leaves content rest (zip vs (x ∷ xs)) (zip vs (content ∷ xs))
put_there content rest [] x xs some long = absurd (omega (arith, long))
put_there content rest (v ∷ vs) x xs some long = stays {c = (v, x)} {older = zip vs xs} some refl refl

-- the contents of the newest choice, where those of the choice with so many older ones were changed
pub put_newest : (content : Alternatives) (rest : Walk) (saved : List (Value Contents)) (old new xs : List Alternatives) (x : Alternatives) → HasNoneLeft false rest → AreMarked saved old
    → old ≡ x ∷ xs
    → new ≡ content ∷ xs → Leaves content rest (open_choices saved old) (open_choices saved new)
put_newest content rest saved old new xs x some marked e f =
    subst (λ (l : List Alternatives). Leaves content rest (open_choices saved l) (open_choices saved new)) (sym e)
    (subst (λ (l : List Alternatives). Leaves content rest (open_choices saved (x ∷ xs)) (open_choices saved l)) (sym f)
    (put_there content rest (reverse saved) x xs some (omega (arith, length-reverse saved, marked, ap length e))))

-- the same over the world that it goes back to
pub replaced : (saved : List (Value Contents)) (old new xs : List Alternatives) (x content : Alternatives) (w : Value Contents) (others : Opened) → old ≡ x ∷ xs → new ≡ content ∷ xs
    → open_choices saved old ≡ (w, x) ∷ others → open_choices saved new ≡ (w, content) ∷ others
replaced saved old new xs x content w others e f was =
    ap (λ (l : List Alternatives). open_choices saved l) f ∙ replaced_in (reverse saved) (sym (ap (λ (l : List Alternatives). open_choices saved l) e) ∙ was)
  where
    replaced_in : (vs : List (Value Contents)) → zip vs (x ∷ xs) ≡ (w, x) ∷ others → zip vs (content ∷ xs) ≡ (w, content) ∷ others
    replaced_in [] h = cc
    replaced_in (v ∷ vs) h =
        let first : v ≡ w = ap (λ p. p.0) (same-first (v, x) (w, x) (zip vs xs) others h) in
        ap₂ (λ (z : Value Contents) (l : Opened). (z, content) ∷ l) first (same-others (v, x) (w, x) (zip vs xs) others h)

pub length-opened : (saved : List (Value Contents)) (choices : List Alternatives) → AreMarked saved choices → length (open_choices saved choices) ≡ length choices
length-opened saved choices m = omega (arith, length-zip (reverse saved) choices, length-reverse saved, m)

-- the newest of the choices that are open, in the world that it goes back to
pub opened_is : (saved : List (Value Contents)) (choices xs : List Alternatives) (x : Alternatives) → AreMarked saved choices → choices ≡ x ∷ xs
    → (w : Value Contents) × (others : Opened) × (open_choices saved choices ≡ (w, x) ∷ others) × (length others ≡ length xs)
opened_is saved choices xs x marked e =
    let first = opened_first (reverse saved) (omega (arith, length-reverse saved, marked, ap length e)) in
    (first.0, first.1, ap (λ (l : List Alternatives). open_choices saved l) e ∙ first.2, first.3)
  where
    opened_first : (vs : List (Value Contents)) → length vs ≡ length (x ∷ xs) → (w : Value Contents) × (others : Opened) × (zip vs (x ∷ xs) ≡ (w, x) ∷ others) × (length others ≡ length xs)
    opened_first [] long = absurd (omega (arith, long))
    opened_first (v ∷ vs) long = (v, zip vs xs, refl, omega (arith, length-zip vs xs, long))

-- over a world with the same marks
pub open_same : (w z : World) (l m : List (List (List Cell))) (choices : List Alternatives) (o : Opened) → saved_of z ≡ saved_of w → m ≡ l
    → open_choices (saved_values w l) choices ≡ o → open_choices (saved_values z m) choices ≡ o
open_same w z l m choices o e f g = ap₂ (λ (x : List Contents) (y : List (List (List Cell))). open_choices (zip x y) choices) e f ∙ g

pub marked_same : (w z : World) (l m : List (List (List Cell))) (choices : List Alternatives) → saved_of z ≡ saved_of w → m ≡ l
    → AreMarked (saved_values w l) choices → AreMarked (saved_values z m) choices
marked_same w z l m choices e f g = ap₂ (λ (x : List Contents) (y : List (List (List Cell))). length (zip x y)) e f ∙ g

pub open_still : (texts : List Text) (v : Program) (saved more : List (Value Contents)) (choices after : List Alternatives) → open_choices more after ≡ open_choices saved choices
    → AreOpen texts v saved choices → AreOpen texts v more after
open_still texts v saved more choices after e a =
    subst (λ (o : Opened). AllByRecursion (λ (c : Value Contents × Alternatives). CanBeTried texts v c.0.0.heap.terms c.1) o) (sym e) a
