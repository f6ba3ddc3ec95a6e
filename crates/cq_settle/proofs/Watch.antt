-- What waits for a variable that became another one waits for that one too.
use Rattle.std.proofs.Common.{◌≡◌, ℕ, List, [], ◌∷◌, ◌++◌, map, Bool, true, false, refl, sym, ap, ap₂, ◌∙◌, subst, inl, inr, ◌⊎◌}
use Rattle.std.specs.Prelude.{Contains, All, ◌==◌, if◌then◌else◌}
use Rattle.std.specs.List.{AllZip}
use Rattle.std.proofs.lemmas.List.{map-append}
use Rattle.std.proofs.lemmas.List.Elements.{All-weaker, All-contains_itself, Contains-append_left, Contains-push_cases}
use Rattle.spec_terms.specs.Term.{Var}
use Rattle.spec_numbers.proofs.Tests.{nat_eq-self}
use Rattle.cq_attr.specs.Attributes.{Waiting, Attributes, IsWokenBy, numbers, watching_more, watched_more}
use Rattle.cq_attr.proofs.Elements.{contains_here, contains_cases, contains_none}
use Rattle.cq_term.specs.Meaning.{HeapTerm, at}
use Rattle.cq_settle.specs.Steps.{WaitsOn, Follows, WatchesToo, AllWatch}
use Rattle.cq_settle.proofs.Unique.{number_in}
use Rattle.cq_settle.proofs.Zips.{zip_left}
use Rattle.cq_settle.proofs.Woken.{zip_so}

-- ---- further variables

itself : (x : ℕ) (k : Waiting) → WatchesToo [] x k k
itself x k = record { number = refl; susp = refl; still = λ v h. h; too = λ h. absurd (contains_none k.number h) }

zip_itself : (x : ℕ) (ks : List Waiting) → AllZip (WatchesToo [] x) ks ks
zip_itself x [] = tt
zip_itself x (k ∷ ks) = (itself x k, zip_itself x ks)

pub none_watch : (x : ℕ) (a : Attributes) → AllWatch [] x a a
none_watch x a = record { numeric = refl; next = refl; waiting = zip_itself x a.waiting }

more_by : (n x : ℕ) (k : Waiting) (b : Bool) → (k.number == n) ≡ b → WatchesToo (n ∷ []) x k (if b then record k { watched = k.watched ++ x ∷ [] } else k)
more_by n x k true e = record {
  number = refl;
  susp = refl;
  still = λ v h. Contains-append_left k.watched (x ∷ []) v h;
  too = λ h. Rattle.std.proofs.lemmas.List.Elements.Contains-push k.watched x;
}
more_by n x k false e = record {
  number = refl;
  susp = refl;
  still = λ v h. h;
  too = λ h. absurd (not_it (contains_cases n [] k.number h));
} where
  not_it : (n ≡ k.number) ⊎ Contains [] k.number → ⊥
  not_it (inl i) = Rattle.std.proofs.lemmas.Bool.true≢false (sym (ap (λ (y : ℕ). k.number == y) i ∙ nat_eq-self k.number) ∙ e)
  not_it (inr h) = contains_none k.number h

zip_more : (n x : ℕ) (ks : List Waiting) → AllZip (WatchesToo (n ∷ []) x) ks (map (watching_more n (x ∷ [])) ks)
zip_more n x [] = tt
zip_more n x (k ∷ ks) = (more_by n x k (k.number == n) refl, zip_more n x ks)

pub one_watches : (n x : ℕ) (a b : Attributes) → b ≡ watched_more a n (x ∷ []) → AllWatch (n ∷ []) x a b
one_watches n x a b e = subst (AllWatch (n ∷ []) x a) (sym e) (record { numeric = refl; next = refl; waiting = zip_more n x a.waiting })

-- ---- one after another

zip_then : {A : Type 0} (R S T : A → A → Type 0) → ((x y z : A) → R x y → S y z → T x z) → (xs ys zs : List A) → AllZip R xs ys → AllZip S ys zs → AllZip T xs zs
zip_then R S T f [] [] [] r s = tt
zip_then R S T f [] [] (z ∷ zs) r s = absurd s
zip_then R S T f [] (y ∷ ys) zs r s = absurd r
zip_then R S T f (x ∷ xs) [] zs r s = absurd r
zip_then R S T f (x ∷ xs) (y ∷ ys) [] r s = absurd s
zip_then R S T f (x ∷ xs) (y ∷ ys) (z ∷ zs) r s = (f x y z r.0 s.0, zip_then R S T f xs ys zs r.1 s.1)

pub watch_more : (ns : List ℕ) (n x : ℕ) (a b c : Attributes) → AllWatch ns x a b → AllWatch (n ∷ []) x b c → AllWatch (ns ++ n ∷ []) x a c
watch_more ns n x a b c f g = record {
  numeric = g.numeric ∙ f.numeric;
  next = g.next ∙ f.next;
  waiting = zip_then (WatchesToo ns x) (WatchesToo (n ∷ []) x) (WatchesToo (ns ++ n ∷ []) x) both a.waiting b.waiting c.waiting f.waiting g.waiting;
} where
  by_case : (k l m : Waiting) → WatchesToo ns x k l → WatchesToo (n ∷ []) x l m → Contains ns k.number ⊎ (n ≡ k.number) → Contains m.watched x
  by_case k l m r s (inl h) = s.still x (r.too h)
  by_case k l m r s (inr e) = s.too (contains_here n [] l.number (e ∙ sym r.number))

  both : (k l m : Waiting) → WatchesToo ns x k l → WatchesToo (n ∷ []) x l m → WatchesToo (ns ++ n ∷ []) x k m
  both k l m r s = record {
    number = s.number ∙ r.number;
    susp = s.susp ∙ r.susp;
    still = λ v h. s.still v (r.still v h);
    too = λ h. by_case k l m r s (Contains-push_cases ns n k.number h);
  }

same_numbers : (ns : List ℕ) (x : ℕ) (ks ms : List Waiting) → AllZip (WatchesToo ns x) ks ms → numbers ks ≡ numbers ms
same_numbers ns x [] [] z = refl
same_numbers ns x [] (m ∷ ms) z = absurd z
same_numbers ns x (k ∷ ks) [] z = absurd z
same_numbers ns x (k ∷ ks) (m ∷ ms) z = ap₂ (λ y ys. y ∷ ys) (sym z.0.number) (same_numbers ns x ks ms z.1)

pub still_waits : (ns : List ℕ) (x n : ℕ) (a b : Attributes) → AllWatch ns x a b → Contains (numbers a.waiting) n → Contains (numbers b.waiting) n
still_waits ns x n a b f h = subst (λ (ms : List ℕ). Contains ms n) (same_numbers ns x a.waiting b.waiting f.waiting) h

-- what is woken waits
pub woken_wait : (a : Attributes) (vs ns : List ℕ) → ((n : ℕ) → Contains ns n → IsWokenBy a vs n) → All (λ n. Contains (numbers a.waiting) n) ns
woken_wait a vs ns f = All-weaker (Contains ns) (Contains (numbers a.waiting)) waits ns (All-contains_itself ns) where
  waits : (n : ℕ) → Contains ns n → Contains (numbers a.waiting) n
  waits n h = let w = (f n h).waits_for in subst (λ (m : ℕ). Contains (numbers a.waiting) m) w.number (number_in a.waiting w.waiting w.waits)

-- ---- the variables that were bound

-- among what waits, it waits for the variable too
abbrev Among : List Waiting → List ℕ → ℕ → Waiting → Waiting → Type 0
Among ls ns x l m = Contains ls l × WatchesToo ns x l m

pub follows_none : (images : List HeapTerm) (a : Attributes) → Follows images [] a a
follows_none images a = record { numeric = refl; next = refl; waiting = each a.waiting } where
  each : (ks : List Waiting) → AllZip (WaitsOn images []) ks ks
  each [] = tt
  each (k ∷ ks) = (record { number = refl; susp = refl; still = λ v h. h; image = λ v w h. absurd (contains_none v h) }, each ks)

module _ (images : List HeapTerm) (vs : List ℕ) (v : ℕ) (a b c : Attributes) (f : Follows images vs a b) where
  -- its image is no variable
  pub follows_value : ((w : ℕ) → at images v ≡ Var w → ⊥) → Follows images (vs ++ v ∷ []) a b
  follows_value n = record { numeric = f.numeric; next = f.next; waiting = zip_so (WaitsOn images vs) (WaitsOn images (vs ++ v ∷ [])) on a.waiting b.waiting f.waiting } where
    by_case : (k m : Waiting) (x w : ℕ) → WaitsOn images vs k m → at images x ≡ Var w → Contains k.watched x → Contains vs x ⊎ (v ≡ x) → Contains m.watched w
    by_case k m x w r e h (inl i) = r.image x w i e h
    by_case k m x w r e h (inr i) = absurd (n w (ap (at images) i ∙ e))

    on : (k m : Waiting) → WaitsOn images vs k m → WaitsOn images (vs ++ v ∷ []) k m
    on k m r = record { number = r.number; susp = r.susp; still = r.still; image = λ x w i e h. by_case k m x w r e h (Contains-push_cases vs v x i) }

  pub follows_variable : (x : ℕ) → at images v ≡ Var x → (ns : List ℕ) → ((n : ℕ) → IsWokenBy b (v ∷ []) n → Contains ns n) → AllWatch ns x b c → Follows images (vs ++ v ∷ []) a c
  follows_variable x i ns woken g = record {
    numeric = g.numeric ∙ f.numeric;
    next = g.next ∙ f.next;
    waiting = zip_then (WaitsOn images vs) (Among b.waiting ns x) (WaitsOn images (vs ++ v ∷ [])) on a.waiting b.waiting c.waiting f.waiting
        (zip_left (WatchesToo ns x) (λ l. Contains b.waiting l) b.waiting c.waiting g.waiting (λ l h. h));
  } where
    by_case : (k l m : Waiting) (y w : ℕ) → WaitsOn images vs k l → Among b.waiting ns x l m → at images y ≡ Var w → Contains k.watched y → Contains vs y ⊎ (v ≡ y) → Contains m.watched w
    by_case k l m y w r s e h (inl j) = s.1.still w (r.image y w j e h)
    by_case k l m y w r s e h (inr j) =
        let q : Var x ≡ Var w = sym i ∙ ap (at images) j ∙ e in
        let same : x ≡ w = cc in
        let waits : IsWokenBy b (v ∷ []) l.number = record {
          variable = v;
          is_new = contains_here v [] v refl;
          waits_for = record { waiting = l; waits = s.0; number = refl; watches = subst (λ (z : ℕ). Contains l.watched z) (sym j) (r.still y h) };
        } in
        subst (λ (z : ℕ). Contains m.watched z) same (s.1.too (woken l.number waits))

    on : (k l m : Waiting) → WaitsOn images vs k l → Among b.waiting ns x l m → WaitsOn images (vs ++ v ∷ []) k m
    on k l m r s = record {
      number = s.1.number ∙ r.number;
      susp = s.1.susp ∙ r.susp;
      still = λ y h. s.1.still y (r.still y h);
      image = λ y w j e h. by_case k l m y w r s e h (Contains-push_cases vs v y j);
    }
