-- Lists around the element with so many behind it.
use Rattle.std.proofs.Common.{◌≡◌, ◌<◌, ℕ, List, [], ◌∷◌, ◌++◌, length, length-append, refl, sym, ap, ◌∙◌, arith, inl, inr}
use Rattle.std.specs.Prelude.{Ok, Err, OnOk, OnErr}
use Rattle.std.specs.declared.result.Result.{Result}
use Rattle.std.proofs.lemmas.Bool.{cases_lt}
use Rattle.cq_control.specs.Open.{last}
use Rattle.cq_branch.specs.declared.alternatives.Alternatives.{Alternatives}
use Rattle.cq_branch.specs.declared.alternatives.Alternatives.TheVariants.{Gathers}
use Rattle.spec_engine.proofs.Kept.{last-older, last-all}
use Rattle.spec_engine.proofs.Gathered.{last-under}
use Rattle.cq_resolve.specs.StoredValue.{StoredValue}
use Rattle.cq_catch.specs.Gathering.{GathersThere, GathersMore}

module _ {A : Type 0} where
  -- what is in front of it, and the element
  pub around : (h : ℕ) (xs : List A) → h < length xs → (newer : List A) × (x : A) × (xs ≡ newer ++ x ∷ last h xs) × (length (last h xs) ≡ h)
  around h [] l = absurd (omega (arith, l))
  around h (x ∷ xs) l = elim (cases_lt h (length xs)) [
    | inl further ↦ (let r = around h xs further in let e = last-older x xs h (omega (arith, further)) in
        (x ∷ r.0, r.1, ap (λ ys. x ∷ ys) r.2 ∙ ap (λ ys. x ∷ (r.0 ++ r.1 ∷ ys)) (sym e), ap length e ∙ r.3))
    | inr here ↦ (let n : length xs ≡ h = omega (arith, l, here) in
        let e : last h (x ∷ xs) ≡ xs = last-older x xs h (omega (arith, n)) ∙ last-all xs h (omega (arith, n)) in
        ([], x, ap (λ ys. x ∷ ys) (sym e), ap length e ∙ n))
  ]

  tail_same : (x y : A) (xs ys : List A) → x ∷ xs ≡ y ∷ ys → xs ≡ ys
  tail_same x y xs ys e = cc

  head_same : (x y : A) (xs ys : List A) → x ∷ xs ≡ y ∷ ys → x ≡ y
  head_same x y xs ys e = cc

  -- elements with as many behind them are in the same place
  pub same_front : (xs ys : List A) (a b : A) (s t : List A) → xs ++ a ∷ s ≡ ys ++ b ∷ t → length s ≡ length t → (xs ≡ ys) × (a ≡ b) × (s ≡ t)
  same_front [] [] a b s t e l = (refl, head_same a b s t e, tail_same a b s t e)
  same_front [] (y ∷ ys) a b s t e l =
      let n : length s ≡ length (ys ++ b ∷ t) = ap length (tail_same a y s (ys ++ b ∷ t) e) in
      absurd (omega (arith, n, length-append ys (b ∷ t), l))
  same_front (x ∷ xs) [] a b s t e l =
      let n : length (xs ++ a ∷ s) ≡ length t = ap length (tail_same x b (xs ++ a ∷ s) t e) in
      absurd (omega (arith, n, length-append xs (a ∷ s), l))
  same_front (x ∷ xs) (y ∷ ys) a b s t e l =
      let r = same_front xs ys a b s t (tail_same x y (xs ++ a ∷ s) (ys ++ b ∷ t) e) l in
      let h : x ≡ y = head_same x y (xs ++ a ∷ s) (ys ++ b ∷ t) e in
      (ap (λ z. z ∷ xs) h ∙ ap (λ zs. y ∷ zs) r.0, r.1, r.2)

-- the older ones are those behind it
behind_there : (choices : List Alternatives) (height : ℕ) (g : GathersThere choices height) → last height choices ≡ g.older
behind_there choices height g =
    ap (last height) g.are ∙ ap (λ (n : ℕ). last n (g.newer ++ Gathers g.list g.copies g.rest ∷ g.older)) (sym g.below)
    ∙ last-under g.newer (Gathers g.list g.copies g.rest) g.older

pub as_many : (choices : List Alternatives) (height : ℕ) → GathersThere choices height → length (last height choices) ≡ height
as_many choices height g = ap length (behind_there choices height g) ∙ g.below

-- what is there gathers
pub found_there : (choices : List Alternatives) (height : ℕ) (g : GathersThere choices height) (newer : List Alternatives) (x : Alternatives)
    → choices ≡ newer ++ x ∷ last height choices → x ≡ Gathers g.list g.copies g.rest
found_there choices height g newer x e =
    (same_front newer g.newer x (Gathers g.list g.copies g.rest) (last height choices) g.older (sym e ∙ g.are) (ap length (behind_there choices height g))).1

-- two replacements there: the last of them is left
pub replaced_twice : (old mid new : List Alternatives) (height : ℕ) (first second : List Alternatives) (x y a b : Alternatives)
    → old ≡ first ++ x ∷ last height old → mid ≡ first ++ a ∷ last height old → length (last height old) ≡ height
    → mid ≡ second ++ y ∷ last height mid → new ≡ second ++ b ∷ last height mid → new ≡ first ++ b ∷ last height old
replaced_twice old mid new height first second x y a b was is long then now =
    let behind : last height mid ≡ last height old = ap (last height) is ∙ ap (λ (n : ℕ). last n (first ++ a ∷ last height old)) (sym long)
    ∙ last-under first a (last height old) in
    let same = same_front second first y a (last height mid) (last height old) (sym then ∙ is) (ap length behind) in
    now ∙ ap (λ (xs : List Alternatives). xs ++ b ∷ last height mid) same.0 ∙ ap (λ (xs : List Alternatives). first ++ b ∷ xs) behind

-- ---- what is there is taken out, and put back

module _ (old mid new : List Alternatives) (height : ℕ) (first second : List Alternatives) (x y a b : Alternatives) (there : GathersThere old height)
    (was : old ≡ first ++ x ∷ last height old) (out : mid ≡ first ++ a ∷ last height old)
    (again : mid ≡ second ++ y ∷ last height mid) (is : new ≡ second ++ b ∷ last height mid) where
  put : new ≡ first ++ b ∷ last height old
  put = replaced_twice old mid new height first second x y a b was out (as_many old height there) again is

  -- with one more copy
  pub gathers_more : (list rest : ℕ) (copies more : List StoredValue) (copy : StoredValue) → x ≡ Gathers list copies rest → b ≡ Gathers list more rest
      → more ≡ copies ++ copy ∷ [] → GathersMore old height copy new
  gathers_more list rest copies more copy held holds one = (
    record {
      newer = first;
      older = last height old;
      list = list;
      copies = copies;
      rest = rest;
      are = was ∙ ap (λ (z : Alternatives). first ++ z ∷ last height old) held;
      below = as_many old height there;
    },
    put ∙ ap (λ (z : Alternatives). first ++ z ∷ last height old) (holds ∙ ap (λ (cs : List StoredValue). Gathers list cs rest) one),
  )

  -- as it was
  pub as_before : b ≡ x → new ≡ old
  as_before same = put ∙ ap (λ (z : Alternatives). first ++ z ∷ last height old) same ∙ sym was

-- ---- what holds by what a call returned

pub on_ok : {A E P Q : Type 0} (r : Result A E) → (P → Q) → OnOk r P → OnOk r Q
on_ok (Ok x) f p = f p
on_ok (Err e) f p = p

pub on_both : {A E P Q R : Type 0} (r : Result A E) → (P → R) → (Q → R) → OnOk r P → OnErr r Q → R
on_both (Ok x) f g p q = f p
on_both (Err e) f g p q = g q
