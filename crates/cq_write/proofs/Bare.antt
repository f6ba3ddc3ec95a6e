-- Names that need no quotes by their looks.
use Rattle.std.proofs.Common.{◌≡◌, ℕ, zero, suc, ◌+◌, ◌<◌, Bool, true, false, List, [], ◌∷◌, length, nat_lt, Some, Ok, ◌⊎◌, inl, inr, refl, ap, sym, subst, ◌∙◌, arith}
use Rattle.std.specs.Prelude.{not, ◌&&◌, ◌||◌, ◌==◌}
use Rattle.std.specs.Char.{is_ascii_lowercase}
use Rattle.std.specs.List.{prefix_len}
use Rattle.std.specs.Str.{IsAscii, continuation_len, chars}
use Rattle.std.proofs.Math.Bool.{and-false}
use Rattle.std.proofs.lemmas.Bool.Decides.{nat_tests}
use Rattle.std.proofs.lemmas.Str.{chars-IsAscii}
use Rattle.std.proofs.lemmas.Str.Ascii.{IsAscii-nil}
use Rattle.spec_numbers.proofs.Tests.{nat_eq-apart, neither_is}
use Rattle.spec_numbers.specs.Texts.{Text}
use Rattle.spec_syntax.specs.declared.grammar.Kind.TheVariants.{Name}
use Rattle.spec_syntax.specs.declared.grammar.Gap.TheVariants.{Between}
use Rattle.spec_syntax.specs.Characters.{is_layout, is_symbol, first_char, passes, starts_name, starts_variable, continues_name, name_end, begins_with}
use Rattle.spec_syntax.specs.Gaps.{gap}
use Rattle.spec_syntax.specs.GrammarTokens.{token, ends_clause, token_at, next_token}
use Rattle.spec_syntax.specs.Laws.{AllPass}
use Rattle.spec_syntax.proofs.Again.{first_char-ascii, symbol_small, symbol_starts_none}
use Rattle.spec_syntax.specs.Writing.{is_name_to, is_spaced, needs_quotes}
use Rattle.spec_text.specs.Texts.{name_text}
use Rattle.spec_text.proofs.WritingNames.{all_by}
use Rattle.spec_text.specs.declared.writing.Style.{Style}
use Rattle.spec_text.specs.declared.writing.Style.TheVariants.{Plain, Quoted}
use Rattle.cq_term.specs.Texts.{text_of}
use Rattle.cq_write.specs.Spelled.{Spelled}
use Rattle.cq_write.specs.Work.{Setting, infix_word}
use Rattle.cq_write.specs.Looks.{HasLooks, IsBare, IsPlainText, continues_word, is_alone}
use Rattle.cq_write.specs.declared.looks.Looks.{Looks}
use Rattle.cq_write.specs.declared.looks.Looks.TheVariants as looks

more_ascii : (b : ℕ) (bs : List ℕ) → b < 128 → IsAscii bs → IsAscii (b ∷ bs)
more_ascii b bs low h zero = low
more_ascii b bs low h (suc i) = h i

all_ascii : (test : ℕ → Bool) → ((b : ℕ) → test b ≡ true → b < 128) → (bs : List ℕ) → AllPass test bs → IsAscii bs
all_ascii test small [] h = IsAscii-nil
all_ascii test small (b ∷ bs) h = more_ascii b bs (small b h.0) (all_ascii test small bs h.1)

-- the one token from the first byte to the last is a name
named : (f : Text) (end : ℕ) → gap Between f 0 ≡ Ok 0 → token_at f 0 ≡ Ok (token Name 0 end) → end ≡ length f → needs_quotes f ≡ false
unfolding needs_quotes
named f end g t e =
    let same : next_token f 0 ≡ token_at f 0 = rw g refl in
    let whole : (end == length f) ≡ true = grind (arith, nat_tests) in
    ap (λ r. not (is_name_to (length f) r)) (same ∙ t) ∙ ap not whole

-- ---- letters

word_small : (b : ℕ) → continues_word b ≡ true → b < 128
word_small b e = grind (arith, nat_tests)

lower_small : (b : ℕ) → is_ascii_lowercase b ≡ true → b < 128
lower_small b e = grind (arith, nat_tests)

below : (b : ℕ) → b < 128 → nat_lt b 128 ≡ true
below b h = grind (arith, nat_tests)

one_byte : (b : ℕ) → b < 128 → continuation_len b ≡ 0
one_byte b h = let s = below b h in rw s refl

word_goes : (b : ℕ) (bs : List ℕ) → continues_word b ≡ true → passes continues_name (first_char (b ∷ bs)) ≡ true
word_goes b bs e =
    let low = word_small b e in
    let s = below b low in
    ap (passes continues_name) (first_char-ascii b bs low) ∙ rw s e

word_end : (bs : List ℕ) (at : ℕ) → AllPass continues_word bs → name_end 0 bs at ≡ at + length bs
word_end [] at h = omega arith
word_end (b ∷ bs) at h =
    let goes = word_goes b bs h.0 in
    let none = one_byte b (word_small b h.0) in
    let step : name_end 0 (b ∷ bs) at ≡ name_end 0 bs (at + 1) = rw (goes, none) refl in
    step ∙ word_end bs (at + 1) h.1 ∙ omega arith

pub bare_letters : (b : ℕ) (bs : List ℕ) → is_ascii_lowercase b ≡ true → prefix_len continues_word bs ≡ length bs → IsBare (b ∷ bs) true
bare_letters b bs e all =
    let h = all_by continues_word bs all in
    let low = lower_small b e in
    let s = below b low in
    let first = first_char-ascii b bs low in
    let starts : passes starts_name (first_char (b ∷ bs)) ≡ true = ap (passes starts_name) first ∙ rw s e in
    let more : continues_word b ≡ true = grind (arith, nat_tests) in
    let layout : is_layout b ≡ false = grind (arith, nat_tests) in
    let percent : (b == 37) ≡ false = grind (arith, nat_tests) in
    let slash : (b == 47) ≡ false = grind (arith, nat_tests) in
    let none = one_byte b low in
    let between : gap Between (b ∷ bs) 0 ≡ Ok 0 = rw (layout, percent, slash) refl in
    let is : token_at (b ∷ bs) 0 ≡ Ok (token Name 0 (name_end 0 bs 1)) = rw (starts, none) refl in
    record {
      bare = named (b ∷ bs) (name_end 0 bs 1) between is (word_end bs 1 h ∙ omega arith);
      ascii = all_ascii continues_word word_small (b ∷ bs) (more, h);
      begins = word_goes b bs more;
    }

-- ---- symbol characters

symbol_not : (b n : ℕ) → is_symbol b ≡ true → is_symbol n ≡ false → (b == n) ≡ false
symbol_not b n symbol other = nat_eq-apart b n (λ same. true_false (sym symbol ∙ ap is_symbol same ∙ other))
  where
    true_false : true ≡ false → ⊥
    true_false e = cc

no_layout : (b : ℕ) → is_symbol b ≡ true → is_layout b ≡ false
no_layout b e =
    let a = symbol_not b 32 e refl in
    let c = symbol_not b 9 e refl in
    let d = symbol_not b 10 e refl in
    let f = symbol_not b 11 e refl in
    let g = symbol_not b 12 e refl in
    let h = symbol_not b 13 e refl in
    rw (a, c, d, f, g, h) refl

no_stop : (b : ℕ) (bs : List ℕ) → ((b == 46) && (length bs == 0)) ≡ false → ((b == 46) && ((1 + length bs) == 1)) ≡ false
no_stop b [] h = h
no_stop b (c ∷ cs) h = let z : ((1 + length (c ∷ cs)) == 1) ≡ false = nat_eq-apart _ _ (λ e. omega (arith, e)) in rw z (and-false (b == 46))

pub bare_symbols : (b : ℕ) (bs : List ℕ) → is_symbol b ≡ true → prefix_len is_symbol bs ≡ length bs → is_alone b bs ≡ false → IsBare (b ∷ bs) false
bare_symbols b bs e all apart =
    let h = all_by is_symbol bs all in
    let low = symbol_small b e in
    let s = below b low in
    let first = first_char-ascii b bs low in
    let parts = neither_is ((b == 46) && (length bs == 0)) ((b == 47) && begins_with 42 bs) apart in
    let layout = no_layout b e in
    let percent = symbol_not b 37 e refl in
    let comment = parts.1 in
    let between : gap Between (b ∷ bs) 0 ≡ Ok 0 = rw (layout, percent, comment) refl in
    let letter : passes starts_name (first_char (b ∷ bs)) ≡ false = ap (passes starts_name) first ∙ symbol_starts_none b e in
    let variable : starts_variable b ≡ false = grind (arith, nat_tests) in
    let stop = no_stop b bs parts.0 in
    let is : token_at (b ∷ bs) 0 ≡ Ok (token Name 0 (0 + (1 + length bs))) = rw (letter, variable, e, all, stop) refl in
    let word : continues_name b ≡ false = grind (arith, nat_tests) in
    record {
      bare = named (b ∷ bs) (0 + (1 + length bs)) between is (omega arith);
      ascii = all_ascii is_symbol symbol_small (b ∷ bs) (e, h);
      begins = ap (passes continues_name) first ∙ word;
    }

-- ---- how such names are written

name_bare : (style : Style) (f : Text) → needs_quotes f ≡ false → name_text style f ≡ f
unfolding name_text
name_bare Plain f e = refl
name_bare Quoted f e = rw e refl

pub plain_by : (s : Setting) (a : ℕ) (t : Text) (l : Looks) → t ≡ text_of s.texts a → HasLooks t l → (l ≡ looks.Letters) ⊎ (l ≡ looks.Symbols) → IsPlainText s a t
plain_by s a t l e h is = elim is [ inl i ↦ of true (subst (HasLooks t) i h) | inr i ↦ of false (subst (HasLooks t) i h) ]
  where
    of : (b : Bool) → IsBare t b → IsPlainText s a t
    of b w = record { same = ap (name_text s.style) (sym e) ∙ name_bare s.style t w.bare; ascii = w.ascii }

spaced_bare : (f : Text) (b : Bool) → IsBare f b → is_spaced f ≡ b
unfolding is_spaced
spaced_bare f b w = ap (λ x. x || needs_quotes f) w.begins ∙ ap (λ x. b || x) w.bare ∙ nothing b
  where
    nothing : (x : Bool) → (x || false) ≡ x
    nothing true = refl
    nothing false = refl

-- an infix operator that needs no quotes
pub operator_bare : (style : Style) (t f : Text) (b : Bool) → t ≡ f → IsBare t b → ◌≡◌ {A = Spelled} (record { text = t; manner = record { has_blanks = b; is_prefix = false } }) (infix_word style false f)
operator_bare style t f b e w = (λ i. record { text = (sym (name_bare style t w.bare)) i; manner = record { has_blanks = (sym (spaced_bare t b w)) i; is_prefix = false } }) ∙ ap (infix_word style false) e
