-- What waits in the slots, as slots and watchers change.
use Rattle.std.proofs.Common.{◌≡◌, ℕ, zero, suc, ◌+◌, ◌<◌, ◌≤◌, ◌==◌, Bool, true, false, not, cond, List, [], ◌∷◌, ◌++◌, length, map, filter, set, take, get_or, Some, refl, sym, ap, ap₂, subst, ◌∙◌, inl, inr, zero-add, arith}
use Rattle.std.specs.Prelude.{slice_get}
use Rattle.std.proofs.lemmas.Bool.{cases_eq, eq-eqb, ne_eqb}
use Rattle.std.proofs.lemmas.List.{append-nil, map-append, take_more, length-take-le}
use Rattle.std.proofs.lemmas.Option.{none-some, same_Some}
use Rattle.cq_frac.specs.declared.VarId.{VarId}
use Rattle.cq_term.specs.Places.{numbers_of}
use Rattle.cq_attr.specs.declared.susp.Susp.{Susp}
use Rattle.cq_attr.specs.declared.susp.Slot.{Slot}
use Rattle.cq_attr.specs.NotesValue.{noted}
use Rattle.cq_attr.specs.Attributes.{Waiting, numbers, find, watching_more}
use Rattle.cq_attr.specs.Layout.{Watchers, watched_by, waiting_at, waiting_from, HaveSlots}
use Rattle.cq_attr.proofs.Watched.{watched-append, watched_same, watched_other, watched_none}

-- ---- an element that may stand in front

cond-append : {X : Type 0} (b : Bool) (x : X) (xs ys : List X) → cond b (x ∷ (xs ++ ys)) (xs ++ ys) ≡ cond b (x ∷ xs) xs ++ ys
cond-append true x xs ys = refl
cond-append false x xs ys = refl

cond-map : {X Y : Type 0} (b : Bool) (f : X → Y) (x : X) (xs : List X) → cond b (f x ∷ map f xs) (map f xs) ≡ map f (cond b (x ∷ xs) xs)
cond-map true f x xs = refl
cond-map false f x xs = refl

filter_in : {X : Type 0} (b : Bool) (p : X → Bool) (x : X) (xs : List X) → p x ≡ true → filter p (cond b (x ∷ xs) xs) ≡ cond b (x ∷ filter p xs) (filter p xs)
filter_in true p x xs e = ap (λ t. cond t (x ∷ filter p xs) (filter p xs)) e
filter_in false p x xs e = refl

filter_out : {X : Type 0} (b : Bool) (p : X → Bool) (x : X) (xs : List X) → p x ≡ false → filter p (cond b (x ∷ xs) xs) ≡ filter p xs
filter_out true p x xs e = ap (λ t. cond t (x ∷ filter p xs) (filter p xs)) e
filter_out false p x xs e = refl

-- ---- one more slot

waiting_push : (n : ℕ) (ss : List Slot) (ws : Watchers) (s : Slot) → waiting_from n (ss ++ s ∷ []) ws ≡ waiting_from n ss ws ++ waiting_from (n + length ss) (s ∷ []) ws
waiting_push n [] ws s = let e : n ≡ n + 0 = omega arith in ap (λ m. waiting_from m (s ∷ []) ws) e
waiting_push n (r ∷ ss) ws s =
    let e : suc n + length ss ≡ n + suc (length ss) = omega arith in
    let rest = waiting_push (suc n) ss ws s ∙ ap (λ m. waiting_from (suc n) ss ws ++ waiting_from m (s ∷ []) ws) e in
    ap (λ xs. cond r.waits (waiting_at n r ws ∷ xs) xs) rest ∙ cond-append r.waits (waiting_at n r ws) (waiting_from (suc n) ss ws) (waiting_from (n + suc (length ss)) (s ∷ []) ws)

at_same : (n : ℕ) (s : Slot) (ws us : Watchers) → watched_by n us ≡ [] → waiting_at n s (ws ++ us) ≡ waiting_at n s ws
at_same n s ws us none =
    let f : List ℕ → Waiting = λ vs. record { number = n; watched = vs; susp = s.susp } in
    ap f (watched-append n ws us ∙ ap (λ vs. watched_by n ws ++ vs) none ∙ append-nil (watched_by n ws))

-- watchers of other numbers change nothing
waiting_beside : (n : ℕ) (ss : List Slot) (ws us : Watchers) → ((k : ℕ) → n ≤ k → k < n + length ss → watched_by k us ≡ []) → waiting_from n ss (ws ++ us) ≡ waiting_from n ss ws
waiting_beside n [] ws us none = refl
waiting_beside n (s ∷ ss) ws us none =
    ap₂ (λ x xs. cond s.waits (x ∷ xs) xs) (at_same n s ws us (none n (omega arith) (omega arith)))
    (waiting_beside (suc n) ss ws us (λ k low high. none k (omega (arith, low)) (omega (arith, high))))

pub waiting_suspended : (ss : List Slot) (ws : Watchers) (vs : List VarId) (susp : Susp) → HaveSlots ws ss
    → waiting_from 0 (ss ++ record { susp = susp; waits = true } ∷ []) (ws ++ noted vs (length ss)) ≡ waiting_from 0 ss ws ++ record { number = length ss; watched = numbers_of vs; susp = susp } ∷ []
waiting_suspended ss ws vs susp slots =
    let n = length ss in
    let all : Watchers = ws ++ noted vs n in
    let s : Slot = record { susp = susp; waits = true } in
    let f : List ℕ → List Waiting = λ us. record { number = n; watched = us; susp = susp } ∷ [] in
    let here : watched_by n all ≡ numbers_of vs = watched-append n ws (noted vs n) ∙ ap₂ (λ us ts. us ++ ts) (watched_none n ws slots) (watched_same n vs) in
    waiting_push 0 ss all s
    ∙ ap₂ (λ xs ys. xs ++ ys) (waiting_beside 0 ss ws (noted vs n) (λ k low high. watched_other k n (λ e. omega (arith, e, high)) vs))
    (ap (λ m. waiting_from m (s ∷ []) all) (zero-add n) ∙ ap f here)

-- ---- more watchers

at_more : (n : ℕ) (s : Slot) (ws : Watchers) (vs : List VarId) (m : ℕ) → waiting_at n s (ws ++ noted vs m) ≡ watching_more m (numbers_of vs) (waiting_at n s ws)
at_more n s ws vs m =
    elim (cases_eq n m) [
      | inl e ↦
          let f : List ℕ → Waiting = λ us. record { number = n; watched = us; susp = s.susp } in
          let P : ℕ → Type 0 = λ i. waiting_at n s (ws ++ noted vs i) ≡ watching_more i (numbers_of vs) (waiting_at n s ws) in
          subst P e (ap f (watched-append n ws (noted vs n) ∙ ap (λ us. watched_by n ws ++ us) (watched_same n vs))
          ∙ sym (ap (λ b. cond b (f (watched_by n ws ++ numbers_of vs)) (waiting_at n s ws)) (eq-eqb n n refl)))
      | inr d ↦
          let f : List ℕ → Waiting = λ us. record { number = n; watched = us; susp = s.susp } in
          at_same n s ws (noted vs m) (watched_other n m (λ e. d (sym e)) vs)
          ∙ sym (ap (λ b. cond b (f (watched_by n ws ++ numbers_of vs)) (waiting_at n s ws)) (ne_eqb n m d))
    ]

pub waiting_watched : (n : ℕ) (ss : List Slot) (ws : Watchers) (vs : List VarId) (m : ℕ) → waiting_from n ss (ws ++ noted vs m) ≡ map (watching_more m (numbers_of vs)) (waiting_from n ss ws)
waiting_watched n [] ws vs m = refl
waiting_watched n (s ∷ ss) ws vs m =
    ap₂ (λ x xs. cond s.waits (x ∷ xs) xs) (at_more n s ws vs m) (waiting_watched (suc n) ss ws vs m)
    ∙ cond-map s.waits (watching_more m (numbers_of vs)) (waiting_at n s ws) (waiting_from (suc n) ss ws)

-- ---- a slot that waits no more

waiting_after : (n : ℕ) (ss : List Slot) (ws : Watchers) (m : ℕ) → m < n → filter (λ w. not (w.number == m)) (waiting_from n ss ws) ≡ waiting_from n ss ws
waiting_after n [] ws m lt = refl
waiting_after n (s ∷ ss) ws m lt =
    let p : Waiting → Bool = λ w. not (w.number == m) in
    filter_in s.waits p (waiting_at n s ws) (waiting_from (suc n) ss ws) (ap not (ne_eqb n m (λ e. omega (arith, e, lt))))
    ∙ ap (λ xs. cond s.waits (waiting_at n s ws ∷ xs) xs) (waiting_after (suc n) ss ws m (omega (arith, lt)))

pub waiting_without : (n : ℕ) (ss : List Slot) (ws : Watchers) (k m : ℕ) (s : Slot) → s.waits ≡ false → m ≡ n + k
    → waiting_from n (set ss k s) ws ≡ filter (λ w. not (w.number == m)) (waiting_from n ss ws)
waiting_without n [] ws k m s taken e = refl
waiting_without n (r ∷ ss) ws zero m s taken e =
    let p : Waiting → Bool = λ w. not (w.number == m) in
    let xs = waiting_from (suc n) ss ws in
    ap (λ b. cond b (waiting_at n s ws ∷ xs) xs) taken
    ∙ sym (filter_out r.waits p (waiting_at n r ws) xs (ap not (eq-eqb n m (omega (arith, e)))) ∙ waiting_after (suc n) ss ws m (omega (arith, e)))
waiting_without n (r ∷ ss) ws (suc k) m s taken e =
    let p : Waiting → Bool = λ w. not (w.number == m) in
    ap (λ xs. cond r.waits (waiting_at n r ws ∷ xs) xs) (waiting_without (suc n) ss ws k m s taken (omega (arith, e)))
    ∙ sym (filter_in r.waits p (waiting_at n r ws) (waiting_from (suc n) ss ws) (ap not (ne_eqb n m (λ d. omega (arith, d, e)))))

-- ---- what waits under a number

find_later : (b : Bool) (w : Waiting) (ws : List Waiting) (m : ℕ) → (w.number ≡ m → ⊥) → find (cond b (w ∷ ws) ws) m ≡ find ws m
find_later true w ws m d = ap (λ b. cond b (Some w.susp) (find ws m)) (ne_eqb w.number m d)
find_later false w ws m d = refl

pub find_waiting : (n : ℕ) (ss : List Slot) (ws : Watchers) (k m : ℕ) (s : Slot) → m ≡ n + k → slice_get ss k ≡ Some s → s.waits ≡ true → find (waiting_from n ss ws) m ≡ Some s.susp
find_waiting n [] ws k m s e at waits = absurd (none-some s at)
find_waiting n (r ∷ ss) ws zero m s e at waits =
    let xs = waiting_from (suc n) ss ws in
    let is : r ≡ s = same_Some r s at in
    ap (λ b. find (cond b (waiting_at n r ws ∷ xs) xs) m) (ap (λ t. t.waits) is ∙ waits)
    ∙ ap (λ b. cond b (Some r.susp) (find xs m)) (eq-eqb n m (omega (arith, e)))
    ∙ ap (λ t. Some t.susp) is
find_waiting n (r ∷ ss) ws (suc k) m s e at waits =
    find_later r.waits (waiting_at n r ws) (waiting_from (suc n) ss ws) m (λ d. omega (arith, d, e)) ∙ find_waiting (suc n) ss ws k m s (omega (arith, e)) at waits

-- ---- a walk over the slots

numbers_last : (n : ℕ) (s : Slot) (b : Bool) → s.waits ≡ b → numbers (waiting_from n (s ∷ []) []) ≡ cond b (n ∷ []) []
numbers_last n s b e = ap (λ t. numbers (cond t (waiting_at n s [] ∷ []) [])) e ∙ by_value b where
  by_value : (t : Bool) → numbers (cond t (waiting_at n s [] ∷ []) []) ≡ cond t (n ∷ []) []
  by_value true = refl
  by_value false = refl

waiting_grown : (ss : List Slot) (i : ℕ) (s : Slot) → i < length ss → s ≡ get_or ss i s
    → numbers (waiting_from 0 (take (i + 1) ss) []) ≡ numbers (waiting_from 0 (take i ss) []) ++ numbers (waiting_from i (s ∷ []) [])
waiting_grown ss i s within is =
    let before : length (take i ss) ≡ i = length-take-le i ss (omega (arith, within)) in
    ap (λ xs. numbers (waiting_from 0 xs [])) (take_more ss i s within ∙ ap (λ t. take i ss ++ t ∷ []) (sym is))
    ∙ ap numbers (waiting_push 0 (take i ss) [] s)
    ∙ map-append (λ (w : Waiting). w.number) (waiting_from 0 (take i ss) []) (waiting_from (0 + length (take i ss)) (s ∷ []) [])
    ∙ ap (λ m. numbers (waiting_from 0 (take i ss) []) ++ numbers (waiting_from m (s ∷ []) [])) (zero-add (length (take i ss)) ∙ before)

pub waiting_next : (ss : List Slot) (i : ℕ) (s : Slot) → i < length ss → s ≡ get_or ss i s → s.waits ≡ true
    → numbers (waiting_from 0 (take (i + 1) ss) []) ≡ numbers (waiting_from 0 (take i ss) []) ++ i ∷ []
waiting_next ss i s within is waits = waiting_grown ss i s within is ∙ ap (λ ns. numbers (waiting_from 0 (take i ss) []) ++ ns) (numbers_last i s true waits)

pub waiting_next_not : (ss : List Slot) (i : ℕ) (s : Slot) → i < length ss → s ≡ get_or ss i s → s.waits ≡ false
    → numbers (waiting_from 0 (take (i + 1) ss) []) ≡ numbers (waiting_from 0 (take i ss) [])
waiting_next_not ss i s within is taken =
    waiting_grown ss i s within is ∙ ap (λ ns. numbers (waiting_from 0 (take i ss) []) ++ ns) (numbers_last i s false taken) ∙ append-nil (numbers (waiting_from 0 (take i ss) []))
