-- Punctuation and names without quotes are cut into their tokens.
use Rattle.std.proofs.Common.{◌≡◌, ℕ, ◌+◌, ◌-◌, Bool, true, false, List, [], ◌∷◌, ◌++◌, codes, length, length-append, append_assoc, take, drop, Some, refl, sym, ap, subst, ◌∙◌, arith}
use Rattle.std.specs.Prelude.{◌==◌, ◌&&◌, if◌then◌else◌, bytes_eq}
use Rattle.std.specs.Char.{is_ascii_digit}
use Rattle.std.specs.Cmp.Lexicographic.{bytes_decides}
use Rattle.std.proofs.lemmas.Bool.Decides.{nat_tests}
use Rattle.spec_numbers.specs.Texts.{Text}
use Rattle.spec_syntax.specs.declared.grammar.Kind.TheVariants as kind
use Rattle.spec_syntax.specs.Characters.{is_layout, is_symbol, is_punctuation, begins, begins_with, first_char}
use Rattle.spec_syntax.specs.GrammarTokens.{token, bytes_of}
use Rattle.spec_syntax.proofs.Again.{punctuation_again}
use Rattle.spec_syntax.specs.Tokens.{Token, Named, Functor, Minus, Open, Close, OpenList, CloseList, OpenCurly, CloseCurly, Comma, Bar}
use Rattle.spec_syntax.specs.TextTokens.{mark}
use Rattle.spec_syntax.specs.Writing.{needs_quotes}
use Rattle.spec_text.specs.declared.writing.Style.TheVariants.{Quoted}
use Rattle.spec_text.specs.Texts.{token_text, name_text}
use Rattle.spec_text.specs.Written.{counted_name}
use Rattle.spec_text.proofs.Blanks.{drop-before}
use Rattle.spec_text.proofs.WritingNames.{StopsName, name_cut}
use Rattle.spec_text.proofs.Cuts.{gap_none, name_gap}
use Rattle.spec_text.proofs.Stops.{IsCut, count_after}

take-front : (w more : List ℕ) → take (length w) (w ++ more) ≡ w
take-front [] more = refl
take-front (b ∷ w) more = ap (λ bs. b ∷ bs) (take-front w more)

-- the bytes from a place on, so many
pub bytes_there : (before w more : List ℕ) (stop : ℕ) → stop ≡ length before + length w → bytes_of (before ++ (w ++ more)) (record { start = length before; end = stop }) ≡ w
bytes_there before w more stop e =
    let z : stop - length before ≡ length w = omega (arith, e) in
    rw (drop-before before (w ++ more), z) (take-front w more)

-- what stands behind them
pub behind_there : (before w more : List ℕ) (stop : ℕ) → stop ≡ length before + length w → drop stop (before ++ (w ++ more)) ≡ more
behind_there before w more stop e =
    let l : length (before ++ w) ≡ stop = length-append before w ∙ sym e in
    let z : before ++ (w ++ more) ≡ (before ++ w) ++ more = rw append_assoc refl in
    ap (drop stop) z ∙ subst (λ n. drop n ((before ++ w) ++ more) ≡ more) l (drop-before (before ++ w) more)

-- a token of one punctuation character
mark_cut : (before more : List ℕ) (k b : ℕ) (tok : Token) → token_text Quoted counted_name tok ≡ b ∷ [] → is_punctuation b ≡ true → mark (b ∷ []) ≡ Some tok → count_after k tok ≡ k → IsCut before more k tok
mark_cut before more k b tok text is_mark marks counts = record {
  found = token kind.Punctuation (length before) (length before + 1);
  no_gap = rw text (gap_none b more (length before) (let z : is_layout b ≡ false = grind (arith, nat_tests) in z) (let z : (b == 37) ≡ false = grind (arith, nat_tests) in z) (let z : (b == 47) ≡ false = grind (arith, nat_tests) in rw z refl));
  token = rw text (punctuation_again b more (length before) is_mark);
  stop = rw text refl;
  seen = rw (text, bytes_there before (b ∷ []) more (length before + 1) refl) marks;
  variables = rw counts refl;
}

pub marks_are_cut : (before more : List ℕ) (k : ℕ) →
    IsCut before more k Open × IsCut before more k Close × IsCut before more k OpenList × IsCut before more k CloseList × IsCut before more k OpenCurly × IsCut before more k CloseCurly
    × IsCut before more k Comma × IsCut before more k Bar
marks_are_cut before more k = (
  mark_cut before more k 40 Open refl refl refl refl,
  mark_cut before more k 41 Close refl refl refl refl,
  mark_cut before more k 91 OpenList refl refl refl refl,
  mark_cut before more k 93 CloseList refl refl refl refl,
  mark_cut before more k 123 OpenCurly refl refl refl refl,
  mark_cut before more k 125 CloseCurly refl refl refl refl,
  mark_cut before more k 44 Comma refl refl refl refl,
  mark_cut before more k 124 Bar refl refl refl refl,
)

-- a token that is a name without quotes
bare_cut : (before more : List ℕ) (k : ℕ) (tok : Token) (f : Text) → token_text Quoted counted_name tok ≡ f → needs_quotes f ≡ false → StopsName f more →
    (if begins_with 40 more then Functor f else if bytes_eq f (codes "-") && begins is_ascii_digit more then Minus else Named f false) ≡ tok → count_after k tok ≡ k → IsCut before more k tok
bare_cut before more k tok f text bare stops is counts = record {
  found = token kind.Name (length before) (length before + length f);
  no_gap = rw text (name_gap f more (length before) bare stops);
  token = rw text (name_cut f more (length before) bare stops);
  stop = rw text refl;
  seen = rw (text, bytes_there before f more (length before + length f) refl, behind_there before f more (length before + length f) refl) (ap Some is);
  variables = rw counts refl;
}

pub bare_text : (f : Text) → needs_quotes f ≡ false → name_text Quoted f ≡ f
unfolding name_text
bare_text f bare = rw bare refl

-- a name that no `(` follows
pub named_cut : (before more : List ℕ) (k : ℕ) (f : Text) → needs_quotes f ≡ false → StopsName f more → begins_with 40 more ≡ false → (f ≡ codes "-" → begins is_ascii_digit more ≡ false) →
    IsCut before more k (Named f false)
named_cut before more k f bare stops closed no_digit =
    bare_cut before more k (Named f false) f (bare_text f bare) bare stops (rw closed (by (bytes_eq f (codes "-")) refl)) refl
  where
    by : (x : Bool) → bytes_eq f (codes "-") ≡ x → (if x && begins is_ascii_digit more then Minus else Named f false) ≡ Named f false
    by false e = refl
    by true e = rw (no_digit ((bytes_decides f (codes "-")).0 e)) refl

-- a name that `(` follows
pub functor_cut : (before more : List ℕ) (k : ℕ) (f : Text) → needs_quotes f ≡ false → begins_with 40 more ≡ true → IsCut before more k (Functor f)
unfolding first_char
functor_cut before [] k f bare opens = cc
functor_cut before (b ∷ bs) k f bare opens =
    let same : b ≡ 40 = grind (arith, nat_tests) in
    let stops : StopsName f (b ∷ bs) = subst (λ x. StopsName f (x ∷ bs)) (sym same) (record { symbols = λ s. refl; letters = λ s. refl }) in
    bare_cut before (b ∷ bs) k (Functor f) f (bare_text f bare) bare stops (rw opens refl) refl

-- a `-` that a digit follows
pub minus_cut : (before more : List ℕ) (k : ℕ) → begins is_ascii_digit more ≡ true → IsCut before more k Minus
unfolding first_char needs_quotes
minus_cut before [] k digit = cc
minus_cut before (b ∷ bs) k digit =
    let no_symbol : is_symbol b ≡ false = grind (arith, nat_tests) in
    let closed : (b == 40) ≡ false = grind (arith, nat_tests) in
    bare_cut before (b ∷ bs) k Minus (codes "-") refl refl (record { symbols = λ s. no_symbol; letters = λ s. cc }) (rw (closed, digit) refl) refl
