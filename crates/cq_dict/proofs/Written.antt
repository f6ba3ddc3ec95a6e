-- Changes that cover all roles, and the roles that are written by them.
use Rattle.std.proofs.Common.{◌≡◌, ℕ, zero, suc, ◌+◌, ◌<◌, ◌≤◌, List, [], ◌∷◌, ◌++◌, length, take, get_or, set, arith, refl, ap, sym, subst, ◌∙◌, ◌⊎◌, inl, inr, append_assoc, append-nil, Result, Ok, Err, IfOk, OnOk}
use Rattle.std.specs.List.{Contains}
use Rattle.std.proofs.lemmas.List.{get_or_default}
use Rattle.spec_numbers.proofs.Places.{take-next}
use Rattle.std.proofs.lemmas.List.Elements.{Contains-push_cases}
use Rattle.cq_dict.specs.declared.table.Change.{Change}
use Rattle.cq_dict.specs.declared.table.Role.{Role}
use Rattle.cq_dict.specs.Roles.{IsAt}
use Rattle.cq_dict.specs.Changes.{Changes, Covers, IsWritten}
use Rattle.cq_dict.proofs.Roles.{at_one, at_exists, at_below}

pub if_ok : {A E : Type 0} (r : Result A E) (P Q : A → Type 0) → ((x : A) → P x → Q x) → IfOk r P → IfOk r Q
if_ok (Ok x) P Q f h = f x h
if_ok (Err e) P Q f h = h

pub changes_left : (c d : Change) (ds : List Change) → Changes c ds → Changes c (ds ++ d ∷ [])
changes_left c d [] h = absurd h
changes_left c d (x ∷ ds) (inl e) = inl e
changes_left c d (x ∷ ds) (inr h) = inr (changes_left c d ds h)

pub changes_last : (d : Change) (ds : List Change) → Changes d (ds ++ d ∷ [])
changes_last d [] = inl refl
changes_last d (x ∷ ds) = inr (changes_last d ds)

pub changes_end : (c d : Change) (ds : List Change) → Changes c (ds ++ d ∷ []) → Changes c ds ⊎ (c ≡ d)
changes_end c d [] (inl e) = inr e
changes_end c d [] (inr h) = absurd h
changes_end c d (x ∷ ds) (inl e) = inl (inl e)
changes_end c d (x ∷ ds) (inr h) = elim (changes_end c d ds h) [ inl k ↦ inl (inr k) | inr e ↦ inr e ]

module _ (R : ℕ → Role → Role → Type 0) (roles : List Role) (i : ℕ) (changes : List Change) (covers : Covers R roles i changes) where
  pub covers_within : (c : Change) → Changes c changes → c.at < length roles
  covers_within c h = let k = covers.changed c h in at_below roles c.at k.0 k.1

  pub covers_each : length roles ≤ i → (j : ℕ) (s : Role) → IsAt roles j s → (t : Role) × R j s t
  covers_each all j s a =
      let l = at_below roles j s a in
      elim (covers.kept j s (omega (arith, l, all)) a) [
        | inl r ↦ (s, r)
        | inr k ↦
            let w = covers.changed k.0 k.1 in
            let e : w.0 ≡ s = at_one roles j w.0 s (subst (λ z. IsAt roles z w.0) k.2 w.1) a in
            (k.0.role, subst (λ z. R j z k.0.role) e (subst (λ z. R z w.0 k.0.role) k.2 w.2))
      ]

  module _ (all : length roles ≤ i) (new : List Role) (written : IsWritten roles changes new) where
    pub related : (j : ℕ) (s t : Role) → IsAt roles j s → IsAt new j t → R j s t
    related j s t a b =
        elim (written.each j t b) [
          | inl h ↦
              let k = covers.changed h.0 h.1 in
              let e : k.0 ≡ s = at_one roles j k.0 s (subst (λ z. IsAt roles z k.0) h.2 k.1) a in
              subst (λ z. R j z t) e (subst (λ z. R j k.0 z) h.3 (subst (λ z. R z k.0 h.0.role) h.2 k.2))
          | inr h ↦
              let e : t ≡ s = at_one roles j t s h.0 a in
              let l = at_below roles j s a in
              elim (covers.kept j s (omega (arith, l, all)) a) [ inl r ↦ subst (λ z. R j s z) (sym e) r | inr k ↦ absurd (h.1 k.0 k.1 k.2) ]
        ]

    pub went : (j : ℕ) (s : Role) → IsAt roles j s → (t : Role) × IsAt new j t × R j s t
    went j s a =
        let l = at_below roles j s a in
        let t = at_exists new j (omega (arith, l, written.size)) in
        (t.0, t.1, related j s t.0 a t.1)

    pub found : (j : ℕ) (t : Role) → IsAt new j t → (s : Role) × IsAt roles j s × R j s t
    found j t b =
        let l = at_below new j t b in
        let s = at_exists roles j (omega (arith, l, written.size)) in
        (s.0, s.1, related j s.0 t s.1 b)

pub on_ok : {A E : Type 0} (r : Result A E) (P Q : Type 0) → (P → Q) → OnOk r P → OnOk r Q
on_ok (Ok x) P Q f h = f h
on_ok (Err e) P Q f h = h

pub if_all_ok : {A E : Type 0} (r : Result A E) (P Q R S U : A → Type 0) → ((x : A) → P x → Q x → R x → S x → U x) → IfOk r P → IfOk r Q → IfOk r R → IfOk r S → IfOk r U
if_all_ok (Ok x) P Q R S U f h k l m = f x h k l m
if_all_ok (Err e) P Q R S U f h k l m = h

-- ---- the same for the roles of some numbers
-- each change stands at a role that R lets become so, and each role of these numbers without a change is one that R lets be
pub record CoversThese (R : ℕ → Role → Role → Type 0) (roles : List Role) (numbers : List ℕ) (changes : List Change) : Type 0 where
  pub changed : (c : Change) → Changes c changes → (s : Role) × IsAt roles c.at s × R c.at s c.role
  pub kept : (j : ℕ) (s : Role) → Contains numbers j → IsAt roles j s → (R j s s) ⊎ ((c : Change) × Changes c changes × (c.at ≡ j))

pub these_start : (R : ℕ → Role → Role → Type 0) (roles : List Role) (changes : List Change) → changes ≡ [] → CoversThese R roles [] changes
these_start R roles changes e = record {
  changed = λ c h. absurd (subst (Changes c) e h);
  kept = λ j s l a. let k = l.1 in absurd (omega (arith, k));
}

module _ (R : ℕ → Role → Role → Type 0) (roles : List Role) (numbers : List ℕ) (i : ℕ) (changes : List Change) (s : Role) (covers : CoversThese R roles numbers changes) (at : IsAt roles i s) where
  pub these_more : (t : Role) (more : List Change) → R i s t → more ≡ changes ++ record { at = i; role = t } ∷ [] → CoversThese R roles (numbers ++ i ∷ []) more
  these_more t more r e = subst (CoversThese R roles (numbers ++ i ∷ [])) (sym e) (record {
    changed = λ c h.
        elim (changes_end c (record { at = i; role = t }) changes h) [
          | inl k ↦ covers.changed c k
          | inr f ↦ subst (λ (z : Change). (u : Role) × IsAt roles z.at u × R z.at u z.role) (sym f) (s, at, r)
        ];
    kept = λ j u l a.
        elim (Contains-push_cases numbers i j l) [
          | inl k ↦ elim (covers.kept j u k a) [ inl q ↦ inl q | inr w ↦ inr (w.0, changes_left w.0 (record { at = i; role = t }) changes w.1, w.2) ]
          | inr f ↦ inr (record { at = i; role = t }, changes_last (record { at = i; role = t }) changes, f)
        ];
  })

  pub these_kept : R i s s → CoversThese R roles (numbers ++ i ∷ []) changes
  these_kept r = record {
    changed = covers.changed;
    kept = λ j u l a.
        elim (Contains-push_cases numbers i j l) [
          | inl k ↦ covers.kept j u k a
          | inr f ↦ let e : s ≡ u = at_one roles i s u at (subst (λ k. IsAt roles k u) (sym f) a) in inl (subst (λ k. R k u u) f (subst (λ z. R i z z) e r))
        ];
  }

pub take_one : (xs : List ℕ) (i d : ℕ) → i < length xs → take (i + 1) xs ≡ take i xs ++ get_or xs i d ∷ []
take_one xs i d l = take-next xs i (get_or xs i d) l (get_or_default xs i d (get_or xs i d) l)

-- ---- one change that is written
pub at_set : (l : List Role) (i : ℕ) (s : Role) (j : ℕ) (t : Role) → i < length l → IsAt (set l i s) j t → ((j ≡ i) × (t ≡ s)) ⊎ ((j ≡ i → ⊥) × IsAt l j t)
at_set [] i s j t h a = absurd (omega arith)
at_set (x ∷ l) zero s zero t h a = inl (refl, a)
at_set (x ∷ l) zero s (suc j) t h a = inr ((λ e. omega (arith, e)), a)
at_set (x ∷ l) (suc i) s zero t h a = inr ((λ e. omega (arith, e)), a)
at_set (x ∷ l) (suc i) s (suc j) t h a = elim (at_set l i s j t (omega arith) a) [ inl k ↦ inl (ap suc k.0, k.1) | inr k ↦ inr ((λ e. k.0 (omega (arith, e))), k.1) ]

length_set : (l : List Role) (i : ℕ) (s : Role) → length (set l i s) ≡ length l
length_set [] i s = refl
length_set (x ∷ l) zero s = refl
length_set (x ∷ l) (suc i) s = ap suc (length_set l i s)

pub no_changes : (l : List Change) → length l ≡ 0 → l ≡ []
no_changes [] e = refl
no_changes (x ∷ l) e = absurd (omega (arith, e))

-- what the loop keeps: the rest of the changes can be written, and the others are
pub record Writing (old : List Role) (changes rest : List Change) (now : List Role) : Type 0 where
  pub done : List Change
  pub all : changes ≡ rest ++ done
  pub written : IsWritten old done now
  pub within : (c : Change) → Changes c rest → c.at < length now

pub writing_start : (old : List Role) (changes : List Change) → ((c : Change) → Changes c changes → c.at < length old) → Writing old changes changes old
writing_start old changes w = record {
  done = [];
  all = sym (append-nil changes);
  written = record { size = refl; each = λ j t a. inr (a, (λ c h e. h)) };
  within = w;
}

module _ (old : List Role) (changes rest : List Change) (now : List Role) (w : Writing old changes rest now) where
  pub next_within : (c : Change) (less : List Change) → rest ≡ less ++ c ∷ [] → c.at < length now
  next_within c less e = w.within c (subst (Changes c) (sym e) (changes_last c less))

  pub writing_more : (c : Change) (less : List Change) (new : List Role) → rest ≡ less ++ c ∷ [] → new ≡ set now c.at c.role → Writing old changes less new
  writing_more c less new e f =
      let l = next_within c less e in
      record {
        done = c ∷ w.done;
        all = w.all ∙ ap (λ s. s ++ w.done) e ∙ append_assoc less (c ∷ []) w.done;
        written = record {
          size = ap length f ∙ length_set now c.at c.role ∙ w.written.size;
          each = λ j t a.
              elim (at_set now c.at c.role j t l (subst (λ s. IsAt s j t) f a)) [
                | inl k ↦ inl (c, inl refl, sym k.0, sym k.1)
                | inr k ↦ elim (w.written.each j t k.1) [
                  | inl h ↦ inl (h.0, inr h.1, h.2, h.3)
                  | inr h ↦ inr (h.0, (λ d g z. elim g [ inl y ↦ k.0 (sym z ∙ ap (λ (u : Change). u.at) y) | inr y ↦ h.1 d y z ]))
                ]
              ];
        };
        within = λ d h. let k = w.within d (subst (Changes d) (sym e) (changes_left d c less h)) in let m = ap length f ∙ length_set now c.at c.role in omega (arith, k, m);
      }
