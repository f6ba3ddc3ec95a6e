-- What is left of a text in a loop over its parts.
use Rattle.std.proofs.Common.{◌≡◌, ◌⊎◌, inl, inr, ℕ, suc, ◌+◌, ◌<◌, ◌≤◌, max, arith, List, [], ◌∷◌, ◌++◌, length, true, false, Option, Some, None, sym, ap, subst, ◌∙◌}
use Rattle.std.specs.Prelude.{bytes_eq, IfSome, ◌==◌}
use Rattle.std.specs.Borrow.{Bor}
use Rattle.std.specs.List.{slice_split}
use Rattle.std.specs.Option.{option_map, is_some}
use Rattle.std.proofs.lemmas.List.{map-append}
use Rattle.spec_numbers.specs.Texts.{Text}
use Rattle.spec_numbers.specs.Rational.{ℚ, 0ℚ}
use Rattle.spec_log.specs.Log.{Run}
use Rattle.spec_log.specs.declared.Verdict.{Verdict}
use Rattle.spec_log.specs.Verdicts.{State, goes, ends, check_from, counted_in, finish, pair_in, pairs_in, run_by, step, unsigned_in}
use Rattle.cq_frac.specs.declared.row.Entry.{Entry}
use Rattle.cq_form.specs.Entries.{products_of}
use Rattle.cq_cert.specs.Pieces.{pieces, words_of, size, counted_products}
use Rattle.cq_cert.proofs.Fractions.{some_part, more_parts, too_many}
use Rattle.cq_cert.proofs.LineWords.{counted_more, counted_two}
use Rattle.cq_cert.proofs.Pairs.{InOrder, InRun, next_product, next_entry, no_pair, out_of_order, no_entry, no_member, all_entries, AllRead, all_products}
use Rattle.cq_cert.proofs.Reading.{after_line}

-- what is left, where something is
abbrev pub left : Option (Bor Text) → Option Text
left o = option_map (λ r. r.now) o

-- a cut leaves no more than there was
pub cut_size : (text first : Text) (o : Option (Bor Text)) → length first ≤ length text → IfSome o (λ r. length first + length r.now < length text)
    → length first + size (left o) ≤ length text
cut_size text first None h k = omega (arith, h)
cut_size text first (Some r) h k = omega (arith, h, k)

pub size_some : (o : Option (Bor Text)) (t : Bor Text) → o ≡ Some t → size (left o) ≡ suc (length t.now)
size_some o t e = ap (λ p. size (left p)) e

pub pieces_some : (at : ℕ) (o : Option (Bor Text)) (t : Bor Text) → o ≡ Some t → pieces at (left o) ≡ slice_split (λ b. b == at) t.now
pieces_some at o t e = ap (λ p. pieces at (left p)) e

-- ---- the lines of a log

pub line_ends : (line : ℕ) (st : State) (text : Text) (o : Option (Bor Text)) (next : Bor Text) (v : Verdict) → o ≡ Some next → step line st (words_of text) ≡ ends v
    → check_from line st (text ∷ pieces 10 (left o)) ≡ v
line_ends line st text o next v there is =
    let h = some_part 10 next.now in
    ap (λ ls. check_from line st (text ∷ ls)) (pieces_some 10 o next there ∙ h.is) ∙ ap (λ f. after_line line f (h.head ∷ h.tail)) is

pub line_goes : (line : ℕ) (st other : State) (text head : Text) (o tail : Option (Bor Text)) (next : Bor Text) → o ≡ Some next → step line st (words_of text) ≡ goes other
    → slice_split (λ b. b == 10) next.now ≡ head ∷ pieces 10 (left tail) → check_from line st (text ∷ pieces 10 (left o)) ≡ check_from (line + 1) other (head ∷ pieces 10 (left tail))
line_goes line st other text head o tail next there is parts =
    let more : suc line ≡ line + 1 = omega arith in
    ap (λ ls. check_from line st (text ∷ ls)) (pieces_some 10 o next there ∙ parts)
    ∙ ap (λ f. after_line line f (head ∷ pieces 10 (left tail))) is
    ∙ ap (λ n. check_from n other (head ∷ pieces 10 (left tail))) more

pub last_line : (line : ℕ) (st : State) (text : Text) (o : Option (Bor Text)) → o ≡ None → check_from line st (text ∷ pieces 10 (left o)) ≡ finish line st text
last_line line st text o none = ap (λ p. check_from line st (text ∷ pieces 10 (left p))) none

-- ---- the words of a run

module _ (n : ℕ) (words : List Text) (o more : Option (Bor Text)) (text : Bor Text) (word : Text) (items : Run) (i : InRun n words (pieces 32 (left o)) items) (there : o ≡ Some text) (parts : words_of text.now ≡ word ∷ pieces 32 (left more)) where
  run_here : InRun n words (word ∷ pieces 32 (left more)) items
  run_here = subst (λ s. InRun n words s items) (pieces_some 32 o text there ∙ parts) i

  pub run_no_pair : pair_in word ≡ None → None ≡ run_by n (pairs_in words)
  run_no_pair e = no_entry n words (pieces 32 (left more)) word items run_here e

  pub run_no_member : (p : ℕ × ℚ) → pair_in word ≡ Some p → (p.0 ≡ 0) ⊎ (n < p.0) → None ≡ run_by n (pairs_in words)
  run_no_member p e never = no_member n words (pieces 32 (left more)) word items p run_here e never

  pub run_next : (p : ℕ × ℚ) (longer : Run) → pair_in word ≡ Some p → 0 < p.0 → p.0 ≤ n → longer ≡ items ++ p ∷ [] → InRun n words (pieces 32 (left more)) longer
  run_next p longer e above within is = subst (InRun n words (pieces 32 (left more))) (sym is) (next_entry n words (pieces 32 (left more)) word items p run_here e above within)

pub run_all : (n : ℕ) (first o : Option (Bor Text)) (items : Run) → is_some first ≡ true → InRun n (pieces 32 (left first)) (pieces 32 (left o)) items → o ≡ None
    → Some items ≡ run_by n (pairs_in (pieces 32 (left first)))
run_all n None o items some i none = cc
run_all n (Some t) o items some i none =
    let h = some_part 32 t.now in
    let k = subst (λ s. InRun n (words_of t.now) s items) (ap (λ p. pieces 32 (left p)) none) i in
    all_entries n h.head h.tail items (subst (λ s. InRun n s [] items) h.is k) ∙ ap (λ s. run_by n (pairs_in s)) (sym h.is)

-- ---- the words of a member

module _ (seen : ℕ) (words : List Text) (o more : Option (Bor Text)) (text : Bor Text) (word : Text) (entries : List Entry) (greatest last : ℕ) (i : InOrder seen words (pieces 32 (left o)) (products_of entries) greatest last) (there : o ≡ Some text) (parts : words_of text.now ≡ word ∷ pieces 32 (left more)) where
  member_here : InOrder seen words (word ∷ pieces 32 (left more)) (products_of entries) greatest last
  member_here = subst (λ s. InOrder seen words s (products_of entries) greatest last) (pieces_some 32 o text there ∙ parts) i

  pub member_no_pair : pair_in word ≡ None → None ≡ counted_products seen (pairs_in words)
  member_no_pair e = no_pair seen words (pieces 32 (left more)) word (products_of entries) greatest last member_here e

  pub member_out_of_order : (p : ℕ × ℚ) → pair_in word ≡ Some p → (p.0 < suc last) ⊎ ((suc greatest < p.0) ⊎ (p.1 ≡ 0ℚ)) → None ≡ counted_products seen (pairs_in words)
  member_out_of_order p e never =
      let out : (p.0 ≤ last) ⊎ ((suc greatest < p.0) ⊎ (p.1 ≡ 0ℚ)) = elim never [ inl h ↦ inl (omega (arith, h)) | inr h ↦ inr h ] in
      out_of_order seen words (pieces 32 (left more)) word (products_of entries) greatest last p member_here e out

  pub member_next : (p : ℕ × ℚ) (longer : List Entry) (higher : ℕ) → pair_in word ≡ Some p → last < p.0 → p.0 ≤ suc greatest → (p.1 ≡ 0ℚ → ⊥)
      → longer ≡ entries ++ record { quantity = p.0; factor = p.1 } ∷ [] → higher ≡ max greatest p.0
      → InOrder seen words (pieces 32 (left more)) (products_of longer) higher p.0
  member_next p longer higher e above within some is most =
      let same : products_of longer ≡ products_of entries ++ record { variable = p.0; factor = p.1 } ∷ [] =
      ap products_of is ∙ map-append _ entries (record { quantity = p.0; factor = p.1 } ∷ []) in
      subst (λ s. InOrder seen words (pieces 32 (left more)) s higher p.0) (sym same)
      (subst (λ n. InOrder seen words (pieces 32 (left more)) (products_of entries ++ record { variable = p.0; factor = p.1 } ∷ []) n p.0) (sym most)
      (next_product seen words (pieces 32 (left more)) word (products_of entries) greatest last p member_here e above within some))

pub member_all : (seen : ℕ) (words : List Text) (o : Option (Bor Text)) (entries : List Entry) (greatest last : ℕ) → InOrder seen words (pieces 32 (left o)) (products_of entries) greatest last → o ≡ None
    → AllRead seen words (products_of entries) greatest
member_all seen words o entries greatest last i none =
    all_products seen words (products_of entries) greatest last (subst (λ p. InOrder seen words (pieces 32 (left p)) (products_of entries) greatest last) none i)

-- ---- more parts than there may be

pub unsigned_more : (word over rest under : Text) (o : Option (Bor Text)) → is_some o ≡ true → slice_split (λ b. b == 114) word ≡ over ∷ slice_split (λ b. b == 114) rest
    → slice_split (λ b. b == 114) rest ≡ under ∷ pieces 114 (left o) → None ≡ unsigned_in word
unsigned_more word over rest under None some e f = cc
unsigned_more word over rest under (Some m) some e f = more_parts word over rest under m.now e f

pub pair_more : (word first rest second : Text) (o : Option (Bor Text)) → is_some o ≡ true → slice_split (λ b. b == 58) word ≡ first ∷ slice_split (λ b. b == 58) rest
    → slice_split (λ b. b == 58) rest ≡ second ∷ pieces 58 (left o) → None ≡ pair_in word
pair_more word first rest second None some e f = cc
pair_more word first rest second (Some m) some e f = too_many word first rest second m.now e f

pub counted_refused : (word line first rest number : Text) (o : Option (Bor Text)) → words_of line ≡ first ∷ words_of rest → words_of rest ≡ number ∷ pieces 32 (left o)
    → (is_some o ≡ true) ⊎ (bytes_eq word first ≡ false) → None ≡ counted_in word (words_of line)
counted_refused word line first rest number None e f (inl some) = cc
counted_refused word line first rest number None e f (inr other) = counted_two word line first rest number false e f (sym other)
counted_refused word line first rest number (Some m) e f never = counted_more word line first rest number m.now e f

-- what is pushed, by another name for a number in it
pub pushed_same : {A : Type 0} (old new : List A) (f : ℚ → A) (q r : ℚ) → new ≡ old ++ f q ∷ [] → q ≡ r → new ≡ old ++ f r ∷ []
pushed_same old new f q r is same = is ∙ ap (λ p. old ++ f p ∷ []) same
