-- Where a text stands among texts that are all different.
use Rattle.std.proofs.Common.{◌≡◌, ◌↔◌, Option, ℕ, zero, suc, Bool, true, false, cond, ◌||◌, List, [], ◌∷◌, ◌++◌, map, length, Some, None, slice_get, refl, sym, ap, subst, ◌∙◌, ◌⊎◌, inl, inr, arith, true≢false}
use Rattle.std.specs.List.{list_any}
use Rattle.std.specs.Str.{bytes_eq}
use Rattle.std.specs.Cmp.Lexicographic.{bytes_decides}
use Rattle.std.specs.Prelude.{if◌then◌else◌}
use Rattle.std.proofs.lemmas.List.{length-map}
use Rattle.spec_numbers.specs.Texts.{Text}
use Rattle.cq_term.specs.Texts.{AreDifferent, KeepsTexts, IsNumbering, with_text}

pub map-push : {A B : Type 0} (f : A → B) (xs : List A) (x : A) → map f (xs ++ x ∷ []) ≡ map f xs ++ f x ∷ []
map-push f [] x = refl
map-push f (y ∷ xs) x = ap (λ ys. f y ∷ ys) (map-push f xs x)

-- a text of the list with one more is one of the list, or the last
slot : (texts : List Text) (last : Text) (i : ℕ) (text : Text) → slice_get (texts ++ last ∷ []) i ≡ Some text → (slice_get texts i ≡ Some text) ⊎ ((i ≡ length texts) × (text ≡ last))
slot [] last zero text e = inr (refl, cc)
slot [] last (suc i) text e = cc
slot (x ∷ texts) last zero text e = inl e
slot (x ∷ texts) last (suc i) text e = elim (slot texts last i text e) [ inl there ↦ inl there | inr (at, same) ↦ inr (omega arith, same) ]

absent : (texts : List Text) (i : ℕ) (text : Text) → list_any (bytes_eq text) texts ≡ false → slice_get texts i ≡ Some text → ⊥
absent [] i text none e = cc
absent (x ∷ texts) zero text none e = true≢false (sym (ap (λ b. b || list_any (bytes_eq text) texts) ((bytes_decides text x).1 (sym cc))) ∙ none)
absent (x ∷ texts) (suc i) text none e = absent texts i text (rest (bytes_eq text x) none) e
  where
    rest : (b : Bool) → (b || list_any (bytes_eq text) texts) ≡ false → list_any (bytes_eq text) texts ≡ false
    rest true h = cc
    rest false h = h

-- a text that is new may go last
pub different-push : (texts : List Text) (last : Text) → AreDifferent texts → list_any (bytes_eq last) texts ≡ false → AreDifferent (texts ++ last ∷ [])
different-push texts last different none i j text at_i at_j =
    elim (slot texts last i text at_i) [
      | inl i_in ↦ elim (slot texts last j text at_j) [ inl j_in ↦ different i j text i_in j_in | inr (j_last, same) ↦ absurd (absent texts i last none (subst (λ t. slice_get texts i ≡ Some t) same i_in)) ]
      | inr (i_last, is_last) ↦ elim (slot texts last j text at_j) [ inl j_in ↦ absurd (absent texts j last none (subst (λ t. slice_get texts j ≡ Some t) is_last j_in)) | inr (j_last, same) ↦ omega arith ]
    ]

pub with_text-known : (texts : List Text) (text : Text) → list_any (bytes_eq text) texts ≡ true → texts ≡ with_text texts text
with_text-known texts text known = rw known refl

pub with_text-new : (texts : List Text) (text : Text) → list_any (bytes_eq text) texts ≡ false → texts ++ text ∷ [] ≡ with_text texts text
with_text-new texts text new = rw new refl

kept-append : (texts more : List Text) → KeepsTexts texts (texts ++ more)
kept-append [] more i text e = cc
kept-append (x ∷ texts) more zero text e = e
kept-append (x ∷ texts) more (suc i) text e = kept-append texts more i text e

pub kept-with_text : (texts : List Text) (text : Text) → KeepsTexts texts (with_text texts text)
kept-with_text texts text = by (list_any (bytes_eq text) texts)
  where
    by : (known : Bool) → KeepsTexts texts (if known then texts else texts ++ text ∷ [])
    by true i kept e = e
    by false i kept e = kept-append texts (text ∷ []) i kept e

last-known : (texts : List Text) (text : Text) → list_any (bytes_eq text) (texts ++ text ∷ []) ≡ true
last-known [] text = ap (λ b. b || false) ((bytes_decides text text).1 refl)
last-known (x ∷ texts) text = by (bytes_eq text x) (last-known texts text)
  where
    by : (same : Bool) → list_any (bytes_eq text) (texts ++ text ∷ []) ≡ true → (same || list_any (bytes_eq text) (texts ++ text ∷ [])) ≡ true
    by true e = refl
    by false e = e

pub with_text-twice : (texts : List Text) (text : Text) → with_text (with_text texts text) text ≡ with_text texts text
with_text-twice texts text = sym (with_text-known (with_text texts text) text (by (list_any (bytes_eq text) texts) refl))
  where
    by : (known : Bool) → list_any (bytes_eq text) texts ≡ known → list_any (bytes_eq text) (if known then texts else texts ++ text ∷ []) ≡ true
    by true e = e
    by false e = last-known texts text

there : (texts : List Text) (text : Text) → list_any (bytes_eq text) texts ≡ true → (i : ℕ) × (slice_get texts i ≡ Some text)
there [] text h = cc
there (x ∷ texts) text h = by (bytes_eq text x) refl (there texts text) h
  where
    by : (b : Bool) → bytes_eq text x ≡ b → (list_any (bytes_eq text) texts ≡ true → (i : ℕ) × (slice_get texts i ≡ Some text)) → (b || list_any (bytes_eq text) texts) ≡ true
        → (i : ℕ) × (slice_get (x ∷ texts) i ≡ Some text)
    by true same later h = (zero, ap (λ t. Some t) (sym ((bytes_decides text x).0 same)))
    by false other later h = let r = later h in (suc r.0, r.1)

none-some : (i : ℕ) (found : Option ℕ) → None ≡ found → found ≡ Some i → ⊥
none-some i found n f = cc

at-last : (texts : List Text) (text t : Text) (n i : ℕ) → Some n ≡ Some i → slice_get texts n ≡ Some text → text ≡ t → slice_get texts i ≡ Some t
at-last texts text t n i same there is = cc

last_there : (texts : List Text) (last : Text) → slice_get (texts ++ last ∷ []) (length texts) ≡ Some last
last_there [] last = refl
last_there (x ∷ texts) last = last_there texts last

module _ (find : Text → Option ℕ) (texts : List Text) (numbering : IsNumbering find texts) (text : Text) where
  pub number-known : (i : ℕ) → Some i ≡ find text → slice_get texts i ≡ Some text
  number-known i e = (numbering text i).0 (sym e)

  pub texts-known : (i : ℕ) → Some i ≡ find text → texts ≡ with_text texts text
  texts-known i e = by (list_any (bytes_eq text) texts) refl
    where
      by : (b : Bool) → list_any (bytes_eq text) texts ≡ b → texts ≡ with_text texts text
      by true h = with_text-known texts text h
      by false h = absurd (absent texts i text h (number-known i e))

  module _ (new : None ≡ find text) where
    is_new : list_any (bytes_eq text) texts ≡ false
    is_new = by (list_any (bytes_eq text) texts) refl
      where
        by : (b : Bool) → list_any (bytes_eq text) texts ≡ b → b ≡ false
        by true h = let r = there texts text h in absurd (none-some r.0 (find text) new ((numbering text r.0).1 r.1))
        by false h = refl

    pub texts-new : texts ++ text ∷ [] ≡ with_text texts text
    texts-new = with_text-new texts text is_new

    pub different-new : AreDifferent texts → AreDifferent (texts ++ text ∷ [])
    different-new different = different-push texts text different is_new

    -- a search that finds the new text at the end, and any other where it was
    pub numbering-new : (after : Text → Option ℕ) → ((t : Text) → after t ≡ cond (bytes_eq text t) (Some (length texts)) (find t)) → IsNumbering after (texts ++ text ∷ [])
    numbering-new after put t i = by (bytes_eq text t) refl
      where
        by : (b : Bool) → bytes_eq text t ≡ b → (after t ≡ Some i) ↔ (slice_get (texts ++ text ∷ []) i ≡ Some t)
        by true eq =
            let same : text ≡ t = (bytes_decides text t).0 eq in
            let at : after t ≡ Some (length texts) = put t ∙ ap (λ b. cond b (Some (length texts)) (find t)) eq in (
              (λ e. at-last (texts ++ text ∷ []) text t (length texts) i (sym at ∙ e) (last_there texts text) same),
              (λ e. elim (slot texts text i t e) [ inl within ↦ absurd (absent texts i text is_new (subst (λ u. slice_get texts i ≡ Some u) (sym same) within)) | inr (last, is) ↦ at ∙ ap (λ k. Some k) (sym last) ]),
            )
        by false other =
            let at : after t ≡ find t = put t ∙ ap (λ b. cond b (Some (length texts)) (find t)) other in (
              (λ e. kept-append texts (text ∷ []) i t ((numbering t i).0 (sym at ∙ e))),
              (λ e. elim (slot texts text i t e) [ inl within ↦ at ∙ (numbering t i).1 within | inr (last, same) ↦ absurd (true≢false (sym ((bytes_decides text t).1 (sym same)) ∙ other)) ]),
            )

module _ {K : Type 0} (bytes : K → Text) (find : Text → Option ℕ) (keys : List K) (numbering : IsNumbering find (map bytes keys)) (text : Text) (new : None ≡ find text) (copy : K)
    (same : bytes copy ≡ text) where
  push : map bytes (keys ++ copy ∷ []) ≡ map bytes keys ++ text ∷ []
  push = map-push bytes keys copy ∙ ap (λ t. map bytes keys ++ t ∷ []) same

  pub after-texts : map bytes (keys ++ copy ∷ []) ≡ with_text (map bytes keys) text
  after-texts = push ∙ texts-new find (map bytes keys) numbering text new

  pub after-different : AreDifferent (map bytes keys) → AreDifferent (map bytes (keys ++ copy ∷ []))
  after-different different = subst AreDifferent (sym push) (different-new find (map bytes keys) numbering text new different)

  pub after-number : (n : ℕ) → n ≡ length keys → slice_get (map bytes (keys ++ copy ∷ [])) n ≡ Some text
  after-number n e =
      subst (λ texts. slice_get texts n ≡ Some text) (sym push)
      (subst (λ k. slice_get (map bytes keys ++ text ∷ []) k ≡ Some text) (length-map keys bytes ∙ sym e) (last_there (map bytes keys) text))

  pub after-numbering : (after : Text → Option ℕ) (key : Text) (n : ℕ) → key ≡ text → n ≡ length keys → ((t : Text) → after t ≡ cond (bytes_eq key t) (Some n) (find t))
      → IsNumbering after (map bytes (keys ++ copy ∷ []))
  after-numbering after key n k e put = subst (IsNumbering after) (sym push) (numbering-new find (map bytes keys) numbering text new after at)
    where
      at : (t : Text) → after t ≡ cond (bytes_eq text t) (Some (length (map bytes keys))) (find t)
      at t = put t ∙ ap (λ u. cond (bytes_eq u t) (Some n) (find t)) k ∙ ap (λ m. cond (bytes_eq text t) (Some m) (find t)) (e ∙ sym (length-map keys bytes))
