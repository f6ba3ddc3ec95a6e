-- The state of a match, as it starts, goes on and ends.
use Rattle.std.proofs.Common.{◌≡◌, ℕ, suc, ◌+◌, ◌-◌, ◌<◌, ◌≤◌, ◌^◌, List, [], ◌∷◌, ◌++◌, length, map, reverse, take, drop, get_or, Some, refl, ap, sym, ◌∙◌, subst, inl, inr, arith, append_assoc, append-nil, length-append}
use Rattle.std.specs.Prelude.{All, ◌↔◌, ◌⊎◌}
use Rattle.std.proofs.lemmas.Bool.{cases_lt}
use Rattle.std.proofs.lemmas.List.{length-map, map-append, reverse-append, reverse-reverse, length-drop, length-take-le, take-append-drop, length-reverse}
use Rattle.std.proofs.lemmas.List.Elements.{All-head, All-tail, All-cons, All-append, All-same, All-pop}
use Rattle.spec_numbers.specs.Rational.{ℚ}
use Rattle.spec_terms.specs.Term.{Terms, Subst, Var, Number, Name, Compound, one, more, count, list_of, terms_of, apply, followed_by, Occurs, OccursIn, with_arguments}
use Rattle.spec_terms.specs.Unifier.{Equates, HasNoUnifier}
use Rattle.spec_terms.proofs.Substitution.{apply-followed_by, apply_agree, occurs_from}
use Rattle.cq_frac.specs.declared.VarId.{VarId}
use Rattle.cq_term.specs.Meaning.{HeapTerm, at, blank}
use Rattle.cq_term.specs.HeapValue.{Terms as HeapTerms}
use Rattle.cq_term.specs.Shown.{view_of, arguments, IsUnbound}
use Rattle.cq_term.proofs.Arguments.{arguments-with_arguments, view_of-with_arguments, length-arguments, apply-with_arguments, count-terms_of}
use Rattle.cq_term.specs.declared.view.View.{View}
use Rattle.cq_term.specs.declared.view.View.TheVariants as view
use Rattle.cq_unify.specs.Unified.{in_turn}
use Rattle.spec_numbers.specs.Prefixes.{IsPrefix}
use Rattle.spec_numbers.proofs.Prefixes.{prefix_get_or, prefix_same}
use Rattle.cq_term.specs.Arguments.{PushesArguments}
use Rattle.cq_term.specs.Pairs.{pairwise}
use Rattle.cq_term.proofs.WalkArguments.{live_push, terms_push}
use Rattle.cq_unify.proofs.Places.{prefix_map}
use Rattle.cq_unify.proofs.Unbound.{at-map}
use Rattle.cq_resolve.specs.Pattern.{put, read, term_of, IsHead}
use Rattle.cq_resolve.specs.Building.{image_from}
use Rattle.cq_resolve.specs.Joined.{Joined, Clash}
use Rattle.cq_resolve.specs.Resolved.{completed}
use Rattle.cq_resolve.specs.Matching.{Call, Begun, Matching, Walked, Solving, IsFresh, image_of, lefts}
use Rattle.cq_resolve.proofs.Built.{all_reverse}
use Rattle.cq_resolve.proofs.Reading.{head_fits}
use Rattle.cq_resolve.proofs.Completed.{completed_at, joined_completed, joined_long}
use Rattle.cq_resolve.proofs.Telling.{in_turn-append, bound_join, unbound_or_not, joined_as, joined_larger}
use Rattle.cq_resolve.proofs.Unifying.{variable_by, fresh_join, solving_join, solving_same, solving_clash, read_under-pairwise, equates_compounds}

-- ---- variables that are unbound now were unbound at the start
module _ (c : Call) (head : List View) (first : ℕ) (begun : Begun c head first) where
  pub back : (images : List HeapTerm) (s : Subst ℕ) (ts : List HeapTerm) → images ≡ map (apply s) c.start.images → ((v : ℕ) → v < c.base → (IsUnbound c.start.images v → ⊥) → IsFresh s ts v) → (v : ℕ) → IsUnbound images v → IsUnbound c.start.images v
  back images s ts e foreign v h =
      let lt : v < length c.start.images = omega (arith, h.0, ap length e, length-map c.start.images (apply s)) in
      elim (unbound_or_not c.start.images v lt) [
        | inl u ↦ u
        | inr n ↦ elim (cases_lt v c.base) [
          | inl below ↦ (
              let f = foreign v below n in
              let from = variable_by s (at c.start.images v) v (sym (ap (λ us. at us v) e ∙ at-map s c.start.images v) ∙ h.1) in
              let same = f.alone from.0 (subst (Occurs v) (sym from.2) refl) in
              absurd (n (lt, from.1 ∙ ap (λ x. Var x) same))
              )
          | inr above ↦ (
              let k : ℕ = v - c.base in
              let is : c.base + k ≡ v = omega arith in
              absurd (n (lt, ap (λ x. at c.start.images x) (sym is) ∙ begun.new k (omega (arith, begun.all)) ∙ ap (λ x. Var x) is))
              )
        ]
      ]

-- what a clause's variable stands for
pub image_now : (c : Call) (head : List View) (first : ℕ) (begun : Begun c head first) (images : List HeapTerm) (s : Subst ℕ) → images ≡ map (apply s) c.start.images → (k : ℕ) → k < c.count → at images (c.base + k) ≡ s (c.base + k)
image_now c head first begun images s e k lt = ap (λ us. at us (c.base + k)) e ∙ at-map s c.start.images (c.base + k) ∙ ap (apply s) (begun.new k lt)

-- and a term over the clause's variables
pub term_now : (c : Call) (head : List View) (first : ℕ) (begun : Begun c head first) (images : List HeapTerm) (s : Subst ℕ) → images ≡ map (apply s) c.start.images → (t : HeapTerm) → ((v : ℕ) → Occurs v t → v < c.count) → apply (image_from images first) t ≡ apply (image_of c.base s) t
term_now c head first begun images s e t below = apply_agree (image_from images first) (image_of c.base s) t (λ v o.
    let lt : v < c.count = below v o in
    ap (λ n. at images (n + v)) begun.begins ∙ image_now c head first begun images s e v lt)

-- ---- lists of terms under one more substitution
map_at : (u : Subst ℕ) (ts : List HeapTerm) (ids : List ℕ) → map (at (map (apply u) ts)) ids ≡ map (apply u) (map (at ts) ids)
map_at u ts [] = refl
map_at u ts (i ∷ ids) = λ k. at-map u ts i k ∷ map_at u ts ids k

map_images : (base : ℕ) (s u t : Subst ℕ) → ((x : ℕ) → t x ≡ apply u (s x)) → (ps : List HeapTerm) → map (apply u) (map (apply (image_of base s)) ps) ≡ map (apply (image_of base t)) ps
map_images base s u t e [] = refl
map_images base s u t e (p ∷ ps) = λ i. (sym (apply-followed_by (image_of base s) u p) ∙ apply_agree (followed_by (image_of base s) u) (image_of base t) p (λ k o. sym (e (base + k)))) i ∷ map_images base s u t e ps i

live_after : (u : Subst ℕ) (ts us : List HeapTerm) → IsPrefix (map (apply u) ts) us → (ids : List ℕ) → All (λ id. id < length ts) ids → All (λ id. id < length us) ids
live_after u ts us p ids live k d lt = omega (arith, live k d lt, ap length p.1, length-append (map (apply u) ts) p.0, length-map ts (apply u))

none_of : (v : ℕ) → All (λ (x : HeapTerm). Occurs v x → ⊥) []
none_of v k d lt = absurd (omega arith)

map-reverse : (f : ℕ → HeapTerm) (xs : List ℕ) → map f (reverse xs) ≡ reverse (map f xs)
map-reverse f [] = refl
map-reverse f (x ∷ xs) = ap (map f) (reverse-append (x ∷ []) xs) ∙ map-append f (reverse xs) (x ∷ []) ∙ ap (λ ys. ys ++ f x ∷ []) (map-reverse f xs) ∙ sym (reverse-append (f x ∷ []) (map f xs))

absent_list : (v : ℕ) (ts : Terms ℕ) → (OccursIn v ts → ⊥) → All (λ (t : HeapTerm). Occurs v t → ⊥) (list_of ts)
absent_list v (one t) n = All-cons (λ (t : HeapTerm). Occurs v t → ⊥) t [] n (none_of v)
absent_list v (more t ts) n = All-cons (λ (t : HeapTerm). Occurs v t → ⊥) t (list_of ts) (λ o. n (inl o)) (absent_list v ts (λ o. n (inr o)))

absent_arguments : (v : ℕ) (t : HeapTerm) → (Occurs v t → ⊥) → All (λ (x : HeapTerm). Occurs v x → ⊥) (arguments t)
absent_arguments v (Var x) n = none_of v
absent_arguments v (Number q) n = none_of v
absent_arguments v (Name a) n = none_of v
absent_arguments v (Compound f ts) n = absent_list v ts n

-- the arguments of two compounds in place of the compounds
equates_shown : (r : Subst ℕ) (t : HeapTerm) (f n : ℕ) (xs ls rs : List HeapTerm) → view_of t ≡ view.Compound f n → length xs ≡ n → 0 < n → Equates r (pairwise (t ∷ ls) (with_arguments f xs ∷ rs)) ↔ Equates r (pairwise (arguments t ++ ls) (xs ++ rs))
equates_shown r t f n [] ls rs e l lt = absurd (omega arith)
equates_shown r (Compound g ts) f n (y ∷ ys) ls rs e l lt =
    let name : g ≡ f = cc in
    let long : count ts ≡ n = cc in
    let k = equates_compounds r g ts (terms_of y ys) ls rs (omega (arith, long, count-terms_of y ys)) in
    let list : list_of (terms_of y ys) ≡ y ∷ ys = arguments-with_arguments g (y ∷ ys) in (
      λ h. subst (λ (zs : List HeapTerm). Equates r (pairwise (list_of ts ++ ls) (zs ++ rs))) list (k.0 (subst (λ (q : ℕ). Equates r (pairwise (Compound g ts ∷ ls) (Compound q (terms_of y ys) ∷ rs))) (sym name) h)),
      λ h. subst (λ (q : ℕ). Equates r (pairwise (Compound g ts ∷ ls) (Compound q (terms_of y ys) ∷ rs))) name (k.1 (subst (λ (zs : List HeapTerm). Equates r (pairwise (list_of ts ++ ls) (zs ++ rs))) (sym list) h)),
    )
equates_shown r (Var x) f n (y ∷ ys) ls rs e l lt = cc
equates_shown r (Number x) f n (y ∷ ys) ls rs e l lt = cc
equates_shown r (Name x) f n (y ∷ ys) ls rs e l lt = cc

-- ---- the next pair of a match
module _ (c : Call) (head : List View) (first : ℕ) (heap : HeapTerms) (after : List VarId) (place met : ℕ) (rest : List ℕ) (g : ℕ) (w : Walked c head first heap after place met (rest ++ g ∷ [])) where
  abbrev s : Subst ℕ
  s = in_turn w.matching.bindings

  -- a heap as if all of the clause's variables were made
  abbrev full : HeapTerms → HeapTerms
  full h = completed (c.base + c.count) h

  lefts_pop : lefts heap (rest ++ g ∷ []) ≡ at heap.terms g ∷ lefts heap rest
  lefts_pop = ap (map (at heap.terms)) (reverse-append rest (g ∷ []))

  live_rest : All (λ id. id < length heap.terms) rest
  live_rest = (All-pop (λ id. id < length heap.terms) (rest ++ g ∷ []) rest (Some g) refl w.matching.live).0

  pub goal_live : g < length heap.terms
  goal_live = (All-pop (λ id. id < length heap.terms) (rest ++ g ∷ []) rest (Some g) refl w.matching.live).1

  some_left : length (read (drop place head)) ≡ suc (length rest)
  some_left = sym w.matching.paired ∙ omega (arith, length-append rest (g ∷ []))

  pub some_at : 0 < length (read (drop place head))
  some_at = omega (arith, some_left)

  pub place_within : place < length head
  place_within = go (drop place head) refl
    where
      go : (us : List View) → drop place head ≡ us → place < length head
      go [] e = absurd (omega (arith, some_left, ap (λ us. length (read us)) e))
      go (u ∷ us) e = omega (arith, ap length e, length-drop place head)

  -- a head that stands at the place
  pub head_there : (h : View) → h ≡ get_or head place h → IsHead c.count h (length (read (drop (suc place) head))) × (drop place head ≡ h ∷ drop (suc place) head)
  head_there h is = head_fits c.count head w.matching.begun.fits (suc place) place h refl (omega (arith, place_within)) is

  fresh_popped : (v : ℕ) → IsFresh (in_turn w.matching.bindings) (lefts heap (rest ++ g ∷ [])) v → IsFresh (in_turn w.matching.bindings) (at heap.terms g ∷ lefts heap rest) v
  fresh_popped v f = record { kept = f.kept; alone = f.alone; absent = All-same (λ (t : HeapTerm). Occurs v t → ⊥) (at heap.terms g ∷ lefts heap rest) (lefts heap (rest ++ g ∷ [])) (sym lefts_pop) f.absent }

  pub absent_unmet : (v : ℕ) → c.base + met ≤ v → Occurs v (at heap.terms g) → ⊥
  absent_unmet v le = All-head (λ (t : HeapTerm). Occurs v t → ⊥) (at heap.terms g) (lefts heap rest) (fresh_popped v (w.matching.unmet v le)).absent

  -- the clause's variables that were met
  pub variable_there : (k : ℕ) → k < met → first + k < length heap.images
  variable_there k lt = omega (arith, w.matching.begun.begins, w.made)

  front_by : (p : HeapTerm) (behind : List HeapTerm) → read (drop place head) ≡ p ∷ behind → Solving c.goal (in_turn w.matching.bindings) (record { left = at heap.terms g; right = apply (image_of c.base (in_turn w.matching.bindings)) p } ∷ pairwise (lefts heap rest) (map (apply (image_of c.base (in_turn w.matching.bindings))) behind))
  front_by p behind parts = subst (Solving c.goal (in_turn w.matching.bindings)) (λ i. pairwise (lefts_pop i) (map (apply (image_of c.base (in_turn w.matching.bindings))) (parts i))) w.matching.solving

  pub matching_clash : (p : HeapTerm) (behind : List HeapTerm) → read (drop place head) ≡ p ∷ behind → Clash (at heap.terms g) (apply (image_of c.base (in_turn w.matching.bindings)) p) → HasNoUnifier c.goal
  matching_clash p behind parts none =
      solving_clash c.goal s (at heap.terms g) (apply (image_of c.base (in_turn w.matching.bindings)) p) (pairwise (lefts heap rest) (map (apply (image_of c.base (in_turn w.matching.bindings))) behind)) (front_by p behind parts) none

  -- a variable, a number or a name stands at the place
  pub leaf_parts : (h : View) (p : HeapTerm) → h ≡ get_or head place h → ((ts : List HeapTerm) → put h ts ≡ p ∷ ts) → (next : ℕ) → next ≡ suc place → read (drop place head) ≡ p ∷ read (drop next head)
  leaf_parts h p is leaf next e = ap read (head_there h is).1 ∙ leaf (read (drop (suc place) head)) ∙ ap (λ n. p ∷ read (drop n head)) (sym e)

  -- the head has a term at the place, and others behind it
  module _ (p : HeapTerm) (next : ℕ) (parts : read (drop place head) ≡ p ∷ read (drop next head)) where
    abbrev right : HeapTerm
    right = apply (image_of c.base (in_turn w.matching.bindings)) p

    abbrev rights : List HeapTerm
    rights = map (apply (image_of c.base (in_turn w.matching.bindings))) (read (drop next head))

    front : Solving c.goal (in_turn w.matching.bindings) (record { left = at heap.terms g; right = apply (image_of c.base (in_turn w.matching.bindings)) p } ∷ pairwise (lefts heap rest) (map (apply (image_of c.base (in_turn w.matching.bindings))) (read (drop next head))))
    front = front_by p (read (drop next head)) parts

    less_left : length rest ≡ length (read (drop next head))
    less_left = omega (arith, some_left, ap length parts)

    module _ (more_met : ℕ) (le : met ≤ more_met) (known : (v : ℕ) → Occurs v p → v < more_met) where
      -- the clause's variables in the part were met by now
      not_inside : (v : ℕ) → IsFresh (in_turn w.matching.bindings) (at heap.terms g ∷ lefts heap rest) v → ((k : ℕ) → k < more_met → c.base + k ≡ v → ⊥) → Occurs v right → ⊥
      not_inside v f n o =
          let from = occurs_from (image_of c.base s) v p o in
          n from.0 (known from.0 from.1) (f.alone (c.base + from.0) from.2)

      absent_right : (v : ℕ) → c.base + more_met ≤ v → Occurs v right → ⊥
      absent_right v b = not_inside v (fresh_popped v (w.matching.unmet v (omega arith))) (λ k l e. absurd (omega arith))

      module _ (new : HeapTerms) (later : List VarId) (told : List VarId) (h : Joined (completed (c.base + c.count) heap) (completed (c.base + c.count) new) (at heap.terms g) (apply (image_of c.base (in_turn w.matching.bindings)) p) told) (listed : later ≡ after ++ told)
          (made : length new.images ≡ c.base + more_met) (some : more_met ≤ c.count) (space : c.base + more_met ≤ 2 ^ 64) where
        abbrev u : Subst ℕ
        u = in_turn h.bindings

        abbrev t : Subst ℕ
        t = in_turn (w.matching.bindings ++ h.bindings)

        lefts_next : lefts new rest ≡ map (apply u) (lefts heap rest)
        lefts_next =
            prefix_map (map (apply u) heap.terms) new.terms (reverse rest) h.terms
            (live_after u heap.terms (map (apply u) heap.terms) ([], sym (append-nil (map (apply u) heap.terms))) (reverse rest) (all_reverse (λ id. id < length heap.terms) rest live_rest))
            ∙ map_at u heap.terms (reverse rest)

        rights_next : map (apply u) rights ≡ map (apply (image_of c.base t)) (read (drop next head))
        rights_next = map_images c.base s u t (in_turn-append w.matching.bindings h.bindings) (read (drop next head))

        fresh_next : (v : ℕ) → IsFresh (in_turn w.matching.bindings) (lefts heap (rest ++ g ∷ [])) v → ((k : ℕ) → k < more_met → c.base + k ≡ v → ⊥) → IsFresh (in_turn (w.matching.bindings ++ h.bindings)) (lefts new rest) v
        fresh_next v f n =
            let popped = fresh_popped v f in
            subst (λ ts. IsFresh (in_turn (w.matching.bindings ++ h.bindings)) ts v) (sym lefts_next)
            (fresh_join s u t (at heap.terms g) right (lefts heap rest) v popped (not_inside v popped n) h.unifier (in_turn-append w.matching.bindings h.bindings))

        foreign_next : (v : ℕ) → v < c.base → (IsUnbound c.start.images v → ⊥) → IsFresh (in_turn (w.matching.bindings ++ h.bindings)) (lefts new rest) v
        foreign_next v lt n = fresh_next v (w.matching.foreign v lt n) (λ k l e. absurd (omega arith))

        images_then : (completed (c.base + c.count) new).images ≡ map (apply t) c.start.images
        images_then = h.images ∙ ap (map (apply u)) w.matching.bound.images ∙ turns c.start.images
          where
            turns : (ts : List HeapTerm) → map (apply u) (map (apply s) ts) ≡ map (apply t) ts
            turns [] = refl
            turns (x ∷ ts) = λ i. (sym (apply-followed_by s u x) ∙ apply_agree (followed_by s u) t x (λ k o. sym (in_turn-append w.matching.bindings h.bindings k))) i ∷ turns ts i

        matching_join : Matching c head first (completed (c.base + c.count) new) later next more_met rest
        matching_join = record {
          begun = w.matching.begun;
          bindings = w.matching.bindings ++ h.bindings;
          told = w.matching.told ++ told;
          listed = listed ∙ ap (λ vs. vs ++ told) w.matching.listed ∙ append_assoc c.before w.matching.told told;
          live = live_after u heap.terms new.terms h.terms rest live_rest;
          paired = less_left;
          bound = bound_join c (full heap) (full new) w.matching.bindings w.matching.told told (at heap.terms g) right w.matching.bound h w.matching.solving.oldest
              (back c head first w.matching.begun (full heap).images s (lefts heap (rest ++ g ∷ [])) w.matching.bound.images w.matching.foreign)
              (back c head first w.matching.begun (full new).images t (lefts new rest) images_then foreign_next);
          solving = subst (Solving c.goal (in_turn (w.matching.bindings ++ h.bindings)))
              (read_under-pairwise u (lefts heap rest) rights ∙ (λ i. pairwise (sym lefts_next i) (rights_next i)))
              (solving_join c.goal s u t (at heap.terms g) right (pairwise (lefts heap rest) rights) front h.unifier (in_turn-append w.matching.bindings h.bindings));
          unmet = λ v b. fresh_next v (w.matching.unmet v (omega arith)) (λ k l e. absurd (omega arith));
          foreign = foreign_next;
        }

        pub walked_join : Walked c head first new later next more_met rest
        walked_join = record { matching = matching_join; made = made; some = some; space = space }

      -- a step on a heap on which the variables are made that were met by now
      module _ (mid : HeapTerms) (larger : IsPrefix heap.terms mid.terms) (images : (completed (c.base + c.count) mid).images ≡ (completed (c.base + c.count) heap).images) (made : length mid.images ≡ c.base + more_met) (some : more_met ≤ c.count) where
        image_mid : (v : ℕ) → v < more_met → at mid.images (first + v) ≡ in_turn w.matching.bindings (c.base + v)
        image_mid v lt =
            ap (λ n. at mid.images (n + v)) w.matching.begun.begins ∙ sym (completed_at (c.base + c.count) mid (c.base + v) (omega arith)) ∙ ap (λ us. at us (c.base + v)) images
            ∙ image_now c head first w.matching.begun (full heap).images s w.matching.bound.images v (omega arith)

        part_mid : apply (image_from mid.images first) p ≡ apply (image_of c.base (in_turn w.matching.bindings)) p
        part_mid = apply_agree (image_from mid.images first) (image_of c.base s) p (λ v o. image_mid v (known v o))

        goal_mid : at mid.terms g ≡ at heap.terms g
        goal_mid = prefix_get_or heap.terms mid.terms g blank larger goal_live

        pub walked_clash : Clash (at mid.terms g) (apply (image_from mid.images first) p) → HasNoUnifier c.goal
        walked_clash none = matching_clash p (read (drop next head)) parts (subst (Clash (at heap.terms g)) part_mid (subst (λ (t : HeapTerm). Clash t (apply (image_from mid.images first) p)) goal_mid none))

        module _ (new : HeapTerms) (later told : List VarId) (h : Joined mid new (at mid.terms g) (apply (image_from mid.images first) p) told) (listed : later ≡ after ++ told) (space : c.base + more_met ≤ 2 ^ 64) where
          here : Joined mid new (at heap.terms g) (apply (image_of c.base (in_turn w.matching.bindings)) p) told
          here = joined_as mid new (at mid.terms g) (apply (image_from mid.images first) p) (at heap.terms g) right told goal_mid part_mid h

          absent : (v : ℕ) → length mid.images ≤ v → (Occurs v (at heap.terms g) → ⊥) × (Occurs v (apply (image_of c.base (in_turn w.matching.bindings)) p) → ⊥)
          absent v b = (absent_unmet v (omega arith), absent_right v (omega arith))

          pub walked_met : Walked c head first new later next more_met rest
          walked_met =
              walked_join new later told
              (joined_larger (full heap) (full mid) (full new) (at heap.terms g) right told larger images (joined_completed (c.base + c.count) mid new (at heap.terms g) right told here absent))
              listed (joined_long (c.base + c.count) mid new (at heap.terms g) right told here absent ∙ made) some space

    -- a step that comes to no variable that wasn't met
    module _ (known : (v : ℕ) → Occurs v p → v < met) where
      pub clash_here : Clash (at heap.terms g) (apply (image_from heap.images first) p) → HasNoUnifier c.goal
      clash_here none = walked_clash met (omega arith) known heap (prefix_same heap.terms heap.terms refl) refl w.made w.some none

      pub join_here : (new : HeapTerms) (later told : List VarId) (more_met : ℕ) → Joined heap new (at heap.terms g) (apply (image_from heap.images first) p) told → later ≡ after ++ told → more_met ≡ met → Walked c head first new later next more_met rest
      join_here new later told more_met h listed e = subst (λ n. Walked c head first new later next n rest) (sym e) (walked_met met (omega arith) known heap (prefix_same heap.terms heap.terms refl) refl w.made w.some new later told h listed w.space)

    -- a variable that wasn't met is made, bound from the start
    module _ (new : HeapTerms) (later told : List VarId) (v more_met passed : ℕ) (is : p ≡ Var v) (unmet : met ≤ v) (below : v < c.count) (next_met : more_met ≡ v + 1) (skipped : passed ≡ v - met)
        (h : Joined (completed (c.base + c.count) heap) (completed (c.base + c.count) new) (at heap.terms g) (Var (length heap.images + passed)) told) (listed : later ≡ after ++ told)
        (made : length new.images ≡ length heap.images + passed + 1) (space : length new.images ≤ 2 ^ 64) where
      itself : Var (length heap.images + passed) ≡ apply (image_of c.base (in_turn w.matching.bindings)) p
      itself =
          let n : length heap.images + passed ≡ c.base + v = omega (arith, w.made) in
          ap (λ x. Var x) n ∙ sym (w.matching.unmet (c.base + v) (omega arith)).kept ∙ ap (apply (image_of c.base s)) (sym is)

      pub walked_new : Walked c head first new later next more_met rest
      walked_new =
          walked_join more_met (omega arith) (λ x o. (let same : x ≡ v = subst (Occurs x) is o in omega arith)) new later told
          (joined_as (full heap) (full new) (at heap.terms g) (Var (length heap.images + passed)) (at heap.terms g) right told refl itself h)
          listed (omega (arith, w.made)) (omega arith) (omega (arith, w.made))

  -- a compound meets a compound
  module _ (f n : ℕ) (is : view.Compound f n ≡ get_or head place (view.Compound f n)) where
    behind : List HeapTerm
    behind = read (drop (suc place) head)

    fits : (0 < n) × (n ≤ length (read (drop (suc place) head)))
    fits = (head_there (view.Compound f n) is).0

    abbrev part : HeapTerm
    part = with_arguments f (take n (read (drop (suc place) head)))

    pub compound_parts : read (drop place head) ≡ with_arguments f (take n (read (drop (suc place) head))) ∷ drop n (read (drop (suc place) head))
    compound_parts = ap read (head_there (view.Compound f n) is).1

    args_long : length (take n (read (drop (suc place) head))) ≡ n
    args_long = length-take-le n (read (drop (suc place) head)) fits.1

    pub shown_part : view_of (apply (image_of c.base (in_turn w.matching.bindings)) (with_arguments f (take n (read (drop (suc place) head))))) ≡ view.Compound f n
    shown_part =
        let xs : List HeapTerm = take n (read (drop (suc place) head)) in
        let long : length (map (apply (image_of c.base s)) xs) ≡ n = length-map xs (apply (image_of c.base s)) ∙ args_long in
        ap view_of (apply-with_arguments (image_of c.base s) f xs) ∙ view_of-with_arguments f (map (apply (image_of c.base s)) xs) (omega (arith, long, fits.0)) ∙ ap (view.Compound f) long

    -- their arguments are the next terms
    module _ (goals : List ℕ) (pushed : PushesArguments heap.terms (at heap.terms g) 0 rest goals) (shown : view_of (at heap.terms g) ≡ view.Compound f n) where
      abbrev xs : List HeapTerm
      xs = map (apply (image_of c.base (in_turn w.matching.bindings))) (take n (read (drop (suc place) head)))

      abbrev ys : List HeapTerm
      ys = map (apply (image_of c.base (in_turn w.matching.bindings))) (drop n (read (drop (suc place) head)))

      lefts_spread : lefts heap goals ≡ arguments (at heap.terms g) ++ lefts heap rest
      lefts_spread =
          map-reverse (at heap.terms) goals ∙ ap reverse (terms_push heap.terms (at heap.terms g) rest goals pushed)
          ∙ reverse-append (map (at heap.terms) rest) (reverse (arguments (at heap.terms g)))
          ∙ (λ i. reverse-reverse (arguments (at heap.terms g)) i ++ sym (map-reverse (at heap.terms) rest) i)

      rights_spread : xs ++ ys ≡ map (apply (image_of c.base (in_turn w.matching.bindings))) (read (drop (suc place) head))
      rights_spread = sym (map-append (apply (image_of c.base s)) (take n (read (drop (suc place) head))) (drop n (read (drop (suc place) head)))) ∙ ap (map (apply (image_of c.base s))) (take-append-drop n (read (drop (suc place) head)))

      xs_long : length xs ≡ n
      xs_long = length-map (take n (read (drop (suc place) head))) (apply (image_of c.base s)) ∙ args_long

      solving_front : Solving c.goal (in_turn w.matching.bindings) (pairwise (at heap.terms g ∷ lefts heap rest) (with_arguments f xs ∷ ys))
      solving_front = subst (λ (t : HeapTerm). Solving c.goal (in_turn w.matching.bindings) (pairwise (at heap.terms g ∷ lefts heap rest) (t ∷ ys))) (apply-with_arguments (image_of c.base s) f (take n (read (drop (suc place) head))))
          (front_by (with_arguments f (take n (read (drop (suc place) head)))) (drop n (read (drop (suc place) head))) compound_parts)

      fresh_spread : (v : ℕ) → IsFresh (in_turn w.matching.bindings) (lefts heap (rest ++ g ∷ [])) v → IsFresh (in_turn w.matching.bindings) (lefts heap goals) v
      fresh_spread v fr =
          let popped = fresh_popped v fr in
          record {
            kept = fr.kept;
            alone = fr.alone;
            absent = All-same (λ (t : HeapTerm). Occurs v t → ⊥) (lefts heap goals) (arguments (at heap.terms g) ++ lefts heap rest) lefts_spread
                (All-append (λ (t : HeapTerm). Occurs v t → ⊥) (arguments (at heap.terms g)) (lefts heap rest)
                (absent_arguments v (at heap.terms g) (All-head (λ (t : HeapTerm). Occurs v t → ⊥) (at heap.terms g) (lefts heap rest) popped.absent))
                (All-tail (λ (t : HeapTerm). Occurs v t → ⊥) (at heap.terms g) (lefts heap rest) popped.absent));
          }

      goals_long : length goals ≡ length rest + n
      goals_long = omega (
        arith,
        ap length pushed.1,
        length-append rest pushed.0,
        length-map pushed.0 (at heap.terms),
        ap length pushed.2.terms,
        length-reverse (arguments (at heap.terms g)),
        length-arguments (at heap.terms g) f n shown,
      )

      matching_spread : Matching c head first (completed (c.base + c.count) heap) after (suc place) met goals
      matching_spread = record {
        begun = w.matching.begun;
        bindings = w.matching.bindings;
        told = w.matching.told;
        listed = w.matching.listed;
        live = live_push heap.terms (at heap.terms g) rest goals live_rest pushed;
        paired = omega (arith, goals_long, some_left, ap length compound_parts, length-drop n (read (drop (suc place) head)), fits.1);
        bound = w.matching.bound;
        solving = subst (Solving c.goal (in_turn w.matching.bindings)) (λ i. pairwise (sym lefts_spread i) (rights_spread i))
            (solving_same c.goal s (pairwise (at heap.terms g ∷ lefts heap rest) (with_arguments f xs ∷ ys)) (pairwise (arguments (at heap.terms g) ++ lefts heap rest) (xs ++ ys)) solving_front
            (λ r. equates_shown r (at heap.terms g) f n xs (lefts heap rest) ys shown xs_long fits.0));
        unmet = λ v le. fresh_spread v (w.matching.unmet v le);
        foreign = λ v lt k. fresh_spread v (w.matching.foreign v lt k);
      }

      pub walked_spread : (next : ℕ) → next ≡ suc place → Walked c head first heap after next met goals
      walked_spread next e = subst (λ k. Walked c head first heap after k met goals) (sym e) (record { matching = matching_spread; made = w.made; some = w.some; space = w.space })

-- ---- the end of a part
pub parts_at : (head : List View) (place next : ℕ) → 0 < length (read (drop place head)) → drop 1 (read (drop place head)) ≡ read (drop next head) → read (drop place head) ≡ term_of (drop place head) ∷ read (drop next head)
parts_at head place next lt e = first_of (read (drop place head)) lt ∙ ap (λ ts. term_of (drop place head) ∷ ts) e
  where
    first_of : (ts : List HeapTerm) → 0 < length ts → ts ≡ at ts 0 ∷ drop 1 ts
    first_of [] lt = absurd (omega arith)
    first_of (t ∷ ts) lt = refl

-- a number or a name meets a compound
pub constant_clash : (t u : HeapTerm) (shown : View) (f n : ℕ) → ((q : ℚ) × (shown ≡ view.Number q)) ⊎ ((a : ℕ) × (shown ≡ view.Name a)) → shown ≡ view_of t → view_of u ≡ view.Compound f n → Clash t u
constant_clash (Number p) (Compound g us) shown f n h e d s k = cc
constant_clash (Name b) (Compound g us) shown f n h e d s k = cc
constant_clash (Var v) u shown f n h e d s k = elim h [ inl q ↦ (let z = q.1 in cc) | inr q ↦ (let z = q.1 in cc) ]
constant_clash (Compound g us) u shown f n h e d s k = elim h [ inl q ↦ (let z = q.1 in cc) | inr q ↦ (let z = q.1 in cc) ]
constant_clash (Number p) (Var v) shown f n h e d s k = cc
constant_clash (Number p) (Number v) shown f n h e d s k = cc
constant_clash (Number p) (Name v) shown f n h e d s k = cc
constant_clash (Name p) (Var v) shown f n h e d s k = cc
constant_clash (Name p) (Number v) shown f n h e d s k = cc
constant_clash (Name p) (Name v) shown f n h e d s k = cc
