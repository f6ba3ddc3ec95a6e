-- Each token that can be written is cut from its text, where what follows does not go on with it.
use Rattle.std.proofs.Common.{◌≡◌, ℕ, suc, ◌+◌, ◌≤◌, ◌<◌, Bool, true, false, List, [], ◌∷◌, ◌++◌, codes, length, length-append, append_assoc, Some, None, Ok, refl, sym, ap, ◌∙◌, arith}
use Rattle.std.specs.Prelude.{◌==◌, if◌then◌else◌, ◌≢◌, bytes_eq, unwrap_or}
use Rattle.std.specs.Cmp.Lexicographic.{bytes_decides}
use Rattle.std.specs.Str.{is_utf8, chars}
use Rattle.std.proofs.lemmas.Bool.Decides.{nat_tests}
use Rattle.spec_numbers.specs.Rational.{ℚ}
use Rattle.spec_numbers.specs.Texts.{Text}
use Rattle.spec_syntax.specs.declared.grammar.Kind.TheVariants as kind
use Rattle.spec_syntax.specs.Characters.{begins_with}
use Rattle.spec_syntax.specs.Quotes.{quoted}
use Rattle.spec_syntax.specs.GrammarTokens.{token, token_at, in_quotes, meant}
use Rattle.spec_syntax.proofs.Again.{opening_again}
use Rattle.spec_syntax.specs.Tokens.{Token, Variable, Numeral, Codes, Named, Functor, Minus, Open, Close, OpenList, CloseList, OpenCurly, CloseCurly, Comma, Bar, End}
use Rattle.spec_syntax.specs.TextTokens.{Variables, known, next_number, with_name, with_variable}
use Rattle.spec_syntax.specs.Writing.{is_negative, needs_quotes}
use Rattle.spec_text.specs.declared.writing.Style.TheVariants.{Quoted}
use Rattle.spec_text.specs.Numbers.{whole_text, number_text}
use Rattle.spec_text.specs.Texts as texts
use Rattle.spec_text.specs.Texts.{all_escaped, name_text, is_quoted, token_text}
use Rattle.spec_text.specs.Written.{counted_name}
use Rattle.spec_text.specs.ReadingBack.{FitsNumber, counted}
use Rattle.spec_text.proofs.Blanks.{drop-before}
use Rattle.spec_text.proofs.Cuts.{gap_none}
use Rattle.spec_text.proofs.Marks.{bytes_there, behind_there, marks_are_cut, named_cut, functor_cut, minus_cut}
use Rattle.spec_text.proofs.Quotes.{quotes_again}
use Rattle.spec_text.proofs.Numerals.{StopsNumeral, number_cut, number_begins, digit_gap}
use Rattle.spec_text.proofs.WritingCounted.{variable_cut, known_number, unknown_number, counted_next}
use Rattle.spec_text.proofs.Stops.{StopsNamed, GoesNoFurther, IsWritableName, IsWritable, IsNextTo, count_after, IsCut}

-- ---- variables

variable_there : (before more : List ℕ) (k v : ℕ) → GoesNoFurther (Variable v) more
    → next_number (counted k) (counted_name v) ≡ v → with_variable (counted k) (counted_name v) ≡ counted (count_after k (Variable v)) → IsCut before more k (Variable v)
variable_there before more k v stops number after = record {
  found = token kind.Variable (length before) (length before + length (counted_name v));
  no_gap = gap_none 95 (whole_text (1 + v) ++ more) (length before) refl refl refl;
  token = variable_cut v more (length before) stops;
  stop = refl;
  seen = rw (bytes_there before (counted_name v) more (length before + length (counted_name v)) refl, number) refl;
  variables = rw (bytes_there before (counted_name v) more (length before + length (counted_name v)) refl) after;
}

known_after : (k : ℕ) (name : Text) (v : ℕ) → known (counted k) name ≡ Some v → (next_number (counted k) name ≡ v) × (with_variable (counted k) name ≡ counted k)
known_after k name v e = (ap (λ o. unwrap_or o k) e, rw (e, with_variable) refl)

new_after : (k : ℕ) (name : Text) → known (counted k) name ≡ None →
    (next_number (counted k) name ≡ k) × (with_variable (counted k) name ≡ record { names = with_name (counted k) name; count = suc k })
new_after k name e = (ap (λ o. unwrap_or o k) e, rw (e, with_variable) refl)

variable_is_cut : (before more : List ℕ) (k v : ℕ) → v ≤ k → GoesNoFurther (Variable v) more → IsCut before more k (Variable v)
variable_is_cut before more k v low stops = by (v == k) refl
  where
    by : (x : Bool) → (v == k) ≡ x → IsCut before more k (Variable v)
    by false e =
        let differs : (v ≡ k → ⊥) = (λ s. grind (arith, nat_tests)) in
        let below : v < k = omega (arith, low, differs) in
        let h = known_after k (counted_name v) v (known_number k v below) in
        variable_there before more k v stops h.0 (h.1 ∙ ap counted (sym (ap (λ x. if x then suc k else k) e)))
    by true e =
        let same : v ≡ k = grind (arith, nat_tests) in
        let h = new_after k (counted_name v) (ap (λ w. known (counted k) (counted_name w)) same ∙ unknown_number k) in
        let names : with_name (counted k) (counted_name v) ≡ (counted (suc k)).names = ap (λ w. with_name (counted k) (counted_name w)) same ∙ counted_next k in
        let all : record { names = with_name (counted k) (counted_name v); count = suc k } ≡ counted (suc k) = ap (λ ns. (let x : Variables = record { names = ns; count = suc k } in x)) names in
        variable_there before more k v stops (h.0 ∙ sym same) (h.1 ∙ all ∙ ap counted (sym (ap (λ x. if x then suc k else k) e)))

-- ---- numerals

numeral_is_cut : (before more : List ℕ) (k : ℕ) (q : ℚ) → FitsNumber q × (is_negative q ≡ false) → StopsNumeral more → IsCut before more k (Numeral q)
numeral_is_cut before more k q fits stops = record {
  found = record { kind = kind.Numeral; span = record { start = length before; end = length before + length (number_text q) }; number = Some q };
  no_gap = digit_gap (number_text q) more (length before) (number_begins q fits.1);
  token = number_cut q more (length before) fits.0 fits.1 stops;
  stop = refl;
  seen = refl;
  variables = refl;
}

-- ---- names in quotes

not_bytes : (f g : Text) → f ≢ g → bytes_eq f g ≡ false
not_bytes f g differs = by (bytes_eq f g) refl
  where
    by : (x : Bool) → bytes_eq f g ≡ x → x ≡ false
    by false e = refl
    by true e = absurd (differs ((bytes_decides f g).0 e))

pub quoted_text_is : (f : Text) → IsWritableName f → needs_quotes f ≡ true → name_text Quoted f ≡ texts.in_quotes 39 f
unfolding name_text
quoted_text_is f w needs = rw (needs, not_bytes f (codes "[]") w.no_list, not_bytes f (codes "{}") w.no_braces) refl

-- the quotes of a name, at a place
module _ (f more : Text) (at : ℕ) (valid : is_utf8 f ≡ true) (apart : begins_with 39 more ≡ false) where
  abbrev inside : Text
  inside = all_escaped 39 (chars f) ++ 39 ∷ []

  quotes_there : quoted 39 0 (inside ++ more) (at + 1) ≡ Ok (record { text = f; stop = at + length (39 ∷ inside) })
  quotes_there =
      let l : length inside ≡ length (all_escaped 39 (chars f)) + 1 = length-append (all_escaped 39 (chars f)) (39 ∷ []) in
      let stop : at + 1 + length (all_escaped 39 (chars f)) + 1 ≡ at + length (39 ∷ inside) = omega (arith, l) in
      ap (λ xs. quoted 39 0 xs (at + 1)) (append_assoc (all_escaped 39 (chars f)) (39 ∷ []) more)
      ∙ quotes_again f more (at + 1) valid apart ∙ ap (λ n. Ok (record { text = f; stop = n })) stop

  quoted_token : token_at ((39 ∷ inside) ++ more) at ≡ Ok (token kind.Quoted at (at + length (39 ∷ inside)))
  quoted_token = (opening_again (inside ++ more) at).0 ∙ ap (in_quotes kind.Quoted at) quotes_there

quoted_is_cut : (before more : List ℕ) (k : ℕ) (tok : Token) (f : Text) → token_text Quoted counted_name tok ≡ texts.in_quotes 39 f → is_utf8 f ≡ true → begins_with 39 more ≡ false →
    (if begins_with 40 more then Functor f else Named f true) ≡ tok → count_after k tok ≡ k → IsCut before more k tok
quoted_is_cut before more k tok f text valid apart is counts = record {
  found = token kind.Quoted (length before) (length before + length (texts.in_quotes 39 f));
  no_gap = rw text (gap_none 39 ((all_escaped 39 (chars f) ++ 39 ∷ []) ++ more) (length before) refl refl refl);
  token = rw text (quoted_token f more (length before) valid apart);
  stop = rw text refl;
  seen = rw (text, drop-before before (texts.in_quotes 39 f ++ more), behind_there before (texts.in_quotes 39 f) more (length before + length (texts.in_quotes 39 f)) refl)
      (ap (λ r. Some (if begins_with 40 more then Functor (meant r) else Named (meant r) true)) (quotes_there f more (length before) valid apart) ∙ ap Some is);
  variables = rw counts refl;
}

-- ---- names

no_quote_opens : (more : Text) → begins_with 40 more ≡ true → begins_with 39 more ≡ false
no_quote_opens [] e = cc
no_quote_opens (b ∷ bs) e = grind (arith, nat_tests)

named_is_cut : (before more : List ℕ) (k : ℕ) (f : Text) (q : Bool) → IsWritableName f → q ≡ needs_quotes f → StopsNamed f more → IsCut before more k (Named f q)
named_is_cut before more k f q w same stops = by q refl
  where
    by : (x : Bool) → q ≡ x → IsCut before more k (Named f x)
    by false e = let bare : needs_quotes f ≡ false = sym same ∙ e in named_cut before more k f bare (stops.goes bare) stops.closed stops.no_digit
    by true e =
        let needs : needs_quotes f ≡ true = sym same ∙ e in
        quoted_is_cut before more k (Named f true) f (quoted_text_is f w needs) w.valid (stops.apart needs) (rw stops.closed refl) refl

functor_is_cut : (before more : List ℕ) (k : ℕ) (f : Text) → IsWritableName f → begins_with 40 more ≡ true → IsCut before more k (Functor f)
functor_is_cut before more k f w opens = by (needs_quotes f) refl
  where
    by : (x : Bool) → needs_quotes f ≡ x → IsCut before more k (Functor f)
    by false e = functor_cut before more k f e opens
    by true e = quoted_is_cut before more k (Functor f) f (quoted_text_is f w e) w.valid (no_quote_opens more opens) (rw opens refl) refl

-- ---- tokens

pub token_is_cut : (before more : List ℕ) (k : ℕ) (tok : Token) → IsWritable tok → IsNextTo k tok → GoesNoFurther tok more → IsCut before more k tok
token_is_cut before more k (Variable v) w n s = variable_is_cut before more k v n s
token_is_cut before more k (Numeral q) w n s = numeral_is_cut before more k q w s
token_is_cut before more k (Codes bytes) w n s = elim w [ ]
token_is_cut before more k (Named f quoted) w n s = named_is_cut before more k f quoted w.0 w.1 s
token_is_cut before more k (Functor f) w n s = functor_is_cut before more k f w s
token_is_cut before more k Minus w n s = minus_cut before more k s
token_is_cut before more k Open w n s = (marks_are_cut before more k).0
token_is_cut before more k Close w n s = (marks_are_cut before more k).1
token_is_cut before more k OpenList w n s = (marks_are_cut before more k).2
token_is_cut before more k CloseList w n s = (marks_are_cut before more k).3
token_is_cut before more k OpenCurly w n s = (marks_are_cut before more k).4
token_is_cut before more k CloseCurly w n s = (marks_are_cut before more k).5
token_is_cut before more k Comma w n s = (marks_are_cut before more k).6
token_is_cut before more k Bar w n s = (marks_are_cut before more k).7
token_is_cut before more k End w n s = elim w [ ]
