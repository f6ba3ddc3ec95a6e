-- Variables that become known one by one, and constraints that are told one by one.
use Rattle.std.proofs.Common.{◌≡◌, ℕ, zero, suc, ◌+◌, ◌-◌, ◌<◌, List, [], ◌∷◌, ◌++◌, length, take, drop, get_or, filter, not, Bool, true, false, cond, nat_eq, ◌||◌, arith, refl, ap, sym, subst, ◌∙◌, inl, inr, append_assoc, append-nil}
use Rattle.std.specs.List.{list_any}
use Rattle.std.proofs.lemmas.List.{take_more, take_all, take-append-drop, length-drop, map-append}
use Rattle.std.proofs.Math.Seq.{drop-append_seam}
use Rattle.spec_numbers.specs.Sums.{Monomial, Mentions}
use Rattle.spec_linear.specs.declared.Relation.TheVariants.{Eq}
use Rattle.spec_linear.specs.Solution.{Constraint, Has, SomeMentions, MentionsOnly, AreEquations, Solves, Solvable, Unsolvable}
use Rattle.spec_linear.specs.Echelon.{AreDistinct, variables}
use Rattle.cq_frac.specs.declared.VarId.{VarId}
use Rattle.cq_equations.specs.Told.{numbers_of}
use Rattle.cq_equations.specs.Rows.{Knows, IsOrdered}
use Rattle.cq_equations.proofs.Known.{distinct_swap}

has_ends : (ps qs : List ℕ) (x : ℕ) → Has x (ps ++ x ∷ qs)
has_ends [] qs x = inl refl
has_ends (p ∷ ps) qs x = inr (has_ends ps qs x)

once_in : (ps qs : List ℕ) (x : ℕ) → AreDistinct (ps ++ x ∷ qs) → Has x ps → ⊥
once_in [] qs x d h = h
once_in (p ∷ ps) qs x d (inl e) = d.0 (subst (λ z. Has z (ps ++ x ∷ qs)) e (has_ends ps qs x))
once_in (p ∷ ps) qs x d (inr h) = once_in ps qs x d.1 h

-- the list about the place i
pub parted : {X : Type 0} (xs : List X) (i : ℕ) (x : X) → i < length xs → x ≡ get_or xs i x → xs ≡ take i xs ++ x ∷ drop (i + 1) xs
parted xs i x l e =
    sym (take-append-drop (i + 1) xs)
    ∙ ap (λ t. t ++ drop (i + 1) xs) (take_more xs i x l ∙ ap (λ y. take i xs ++ y ∷ []) (sym e))
    ∙ append_assoc (take i xs) (x ∷ []) (drop (i + 1) xs)

-- the next variable is not in the order yet
pub not_yet : (order : List ℕ) (xs : List VarId) (i : ℕ) (x : VarId) (now : List ℕ) → AreDistinct (order ++ numbers_of xs) → i < length xs → x ≡ get_or xs i x → now ≡ order ++ numbers_of (take i xs) → Has x.0 now → ⊥
not_yet order xs i x now d l e n h =
    let split : order ++ numbers_of xs ≡ (order ++ numbers_of (take i xs)) ++ x.0 ∷ numbers_of (drop (i + 1) xs) =
    ap (λ t. order ++ numbers_of t) (parted xs i x l e)
    ∙ ap (λ t. order ++ t) (map-append (λ (y : VarId). y.0) (take i xs) (x ∷ drop (i + 1) xs))
    ∙ sym (append_assoc order (numbers_of (take i xs)) (x.0 ∷ numbers_of (drop (i + 1) xs))) in
    once_in (order ++ numbers_of (take i xs)) (numbers_of (drop (i + 1) xs)) x.0 (subst AreDistinct split d) (subst (Has x.0) n h)

-- and is the last of it then
pub one_more : (order : List ℕ) (xs : List VarId) (i : ℕ) (x : VarId) (now new : List ℕ) → i < length xs → x ≡ get_or xs i x → now ≡ order ++ numbers_of (take i xs) → new ≡ now ++ x.0 ∷ [] → new ≡ order ++ numbers_of (take (i + 1) xs)
one_more order xs i x now new l e n m =
    m ∙ ap (λ t. t ++ x.0 ∷ []) n ∙ append_assoc order (numbers_of (take i xs)) (x.0 ∷ [])
    ∙ ap (λ t. order ++ t) (sym (map-append (λ (y : VarId). y.0) (take i xs) (x ∷ [])) ∙ ap numbers_of (sym (take_more xs i x l ∙ ap (λ y. take i xs ++ y ∷ []) (sym e))))

has_swap : (ps qs : List VarId) (x : ℕ) → Has x (numbers_of (ps ++ qs)) → Has x (numbers_of qs ++ numbers_of ps)
has_swap [] qs x h = subst (Has x) (sym (append-nil (numbers_of qs))) h
has_swap (p ∷ ps) qs x (inl e) = subst (λ z. Has z (numbers_of qs ++ numbers_of (p ∷ ps))) (sym e) (has_ends (numbers_of qs) (numbers_of ps) p.0)
has_swap (p ∷ ps) qs x (inr h) = wider (numbers_of qs) (has_swap ps qs x h)
  where
    wider : (rs : List ℕ) → Has x (rs ++ numbers_of ps) → Has x (rs ++ numbers_of (p ∷ ps))
    wider [] k = inr k
    wider (r ∷ rs) (inl k) = inl k
    wider (r ∷ rs) (inr k) = inr (wider rs k)

-- the variables behind the wanted ones, and then these
pub turned : (keep : List VarId) (told : List Constraint) (keys : List VarId) (order : List ℕ) → Knows keep told keys → order ≡ numbers_of (drop (length keep) keys) ++ numbers_of keep → IsOrdered keep told order
turned keep told keys order k e =
    let rest : drop (length keep) keys ≡ k.others = ap (drop (length keep)) k.split ∙ drop-append_seam keep k.others in
    let is : order ≡ numbers_of k.others ++ numbers_of keep = e ∙ ap (λ t. numbers_of t ++ numbers_of keep) rest in
    record {
      others = numbers_of k.others;
      split = is;
      distinct = subst AreDistinct (map-append (λ (y : VarId). y.0) k.others keep ∙ sym is) (distinct_swap keep k.others (subst (λ t. AreDistinct (numbers_of t)) k.split k.distinct));
      all = λ x m. subst (Has x) (sym is) (has_swap keep k.others x (subst (λ t. Has x (numbers_of t)) k.split (k.all x m)));
    }

pub distinct_turned : (keep : List VarId) (told : List Constraint) (keys : List VarId) → Knows keep told keys → AreDistinct (numbers_of (drop (length keep) keys) ++ numbers_of keep)
distinct_turned keep told keys k = (turned keep told keys (numbers_of (drop (length keep) keys) ++ numbers_of keep) k refl).distinct

distinct_front : (ps qs : List ℕ) → AreDistinct (ps ++ qs) → AreDistinct ps
distinct_front [] qs d = tt
distinct_front (p ∷ ps) qs d = ((λ h. d.0 (wider ps h)), distinct_front ps qs d.1)
  where
    wider : (rs : List ℕ) → Has p rs → Has p (rs ++ qs)
    wider [] k = absurd k
    wider (r ∷ rs) (inl k) = inl k
    wider (r ∷ rs) (inr k) = inr (wider rs k)

pub distinct_others : (keep : List VarId) (told : List Constraint) (keys : List VarId) → Knows keep told keys → AreDistinct (numbers_of (drop (length keep) keys))
distinct_others keep told keys k = distinct_front (numbers_of (drop (length keep) keys)) (numbers_of keep) (distinct_turned keep told keys k)

-- the variables behind the wanted ones, as the code takes them
pub behind_is : (keep keys slice : List VarId) (empty new : List ℕ) → slice ≡ keys → empty ≡ [] → new ≡ empty ++ numbers_of (take (length slice - length keep) (drop (length keep) slice)) → new ≡ numbers_of (drop (length keep) keys)
behind_is keep keys slice empty new s e n =
    let all : take (length slice - length keep) (drop (length keep) slice) ≡ drop (length keep) slice = take_all (length slice - length keep) (drop (length keep) slice) (simp length-drop (omega arith)) in
    n ∙ ap (λ t. t ++ numbers_of (take (length slice - length keep) (drop (length keep) slice))) e ∙ ap numbers_of all ∙ ap (λ t. numbers_of (drop (length keep) t)) s

-- ---- telling

pub relation_at : (l : List Constraint) (i : ℕ) (c : Constraint) → AreEquations l → i < length l → c ≡ get_or l i c → c.relation ≡ Eq
relation_at [] i c a h e = absurd (omega arith)
relation_at (d ∷ l) zero c a h e = ap (λ (x : Constraint). x.relation) e ∙ a.0
relation_at (d ∷ l) (suc i) c a h e = relation_at l i c a.1 (omega arith) e

known_any : (order : List ℕ) (x : ℕ) → Has x order → list_any (nat_eq x) order ≡ true
known_any [] x h = absurd h
known_any (y ∷ order) x (inl e) = let t : nat_eq x y ≡ true = grind arith in ap (λ b. b || list_any (nat_eq x) order) t
known_any (y ∷ order) x (inr h) = go (nat_eq x y) (known_any order x h)
  where
    go : (b : Bool) → list_any (nat_eq x) order ≡ true → (b || list_any (nat_eq x) order) ≡ true
    go true k = refl
    go false k = k

-- no variable of products over the order is new
pub none_new : (order : List ℕ) (s : List Monomial) → ((x : ℕ) → Mentions x s → Has x order) → filter (λ x. not (list_any (nat_eq x) order)) (variables s) ≡ []
none_new order [] h = refl
none_new order (m ∷ s) h =
    let known : not (list_any (nat_eq m.variable) order) ≡ false = ap not (known_any order m.variable (h m.variable (inl refl))) in
    ap (λ b. cond b (m.variable ∷ filter (λ x. not (list_any (nat_eq x) order)) (variables s)) (filter (λ x. not (list_any (nat_eq x) order)) (variables s))) known
    ∙ none_new order s (λ x k. h x (inr k))

-- the order stays where a constraint mentions known variables alone
pub order_stays : (told : List Constraint) (i : ℕ) (c : Constraint) (order new : List ℕ) → MentionsOnly order told → i < length told → c ≡ get_or told i c →
    new ≡ order ++ filter (λ x. not (list_any (nat_eq x) order)) (variables c.form.products) → new ≡ order
order_stays told i c order new all l e n =
    n ∙ ap (λ t. order ++ t) (none_new order c.form.products (λ x m. all x (subst (SomeMentions x) (sym (parted told i c l e)) (some_behind (take i told) c (drop (i + 1) told) x m))))
    ∙ append-nil order
  where
    some_behind : (before : List Constraint) (c : Constraint) (after : List Constraint) (x : ℕ) → Mentions x c.form.products → SomeMentions x (before ++ c ∷ after)
    some_behind [] c after x m = inl m
    some_behind (d ∷ before) c after x m = inr (some_behind before c after x m)

-- a list that begins with one that has no solution has none
pub no_solution : (told : List Constraint) (i : ℕ) (c : Constraint) → i < length told → c ≡ get_or told i c → Unsolvable (take i told ++ c ∷ []) → Unsolvable told
no_solution told i c l e u p s =
    let split : told ≡ (take i told ++ c ∷ []) ++ drop (i + 1) told = parted told i c l e ∙ sym (append_assoc (take i told) (c ∷ []) (drop (i + 1) told)) in
    u p (front (take i told ++ c ∷ []) (drop (i + 1) told) (subst (Solves p) split s))
  where
    front : (l m : List Constraint) → Solves p (l ++ m) → Solves p l
    front [] m h = tt
    front (d ∷ l) m h = (h.0, front l m h.1)

-- one more told
pub told_more : (told now new : List Constraint) (i : ℕ) (c : Constraint) → i < length told → c ≡ get_or told i c → now ≡ take i told → new ≡ now ++ c ∷ [] → new ≡ take (i + 1) told
told_more told now new i c l e h n = n ∙ ap (λ t. t ++ c ∷ []) h ∙ sym (take_more told i c l ∙ ap (λ d. take i told ++ d ∷ []) (sym e))
