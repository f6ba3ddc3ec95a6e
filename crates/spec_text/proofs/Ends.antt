-- The end token, and where it stands.
use Rattle.std.proofs.Common.{◌≡◌, ◌≢◌, ℕ, zero, suc, ◌+◌, ◌-◌, ◌++◌, ◌<◌, ◌≤◌, Bool, true, false, List, [], ◌∷◌, drop, length, length-drop, length-append, append_assoc, Option, Some, None, Result, Ok, Err, refl, sym, ap, subst, ◌∙◌, arith}
use Rattle.std.specs.Prelude.{◌==◌, ◌||◌, ◌&&◌, if◌then◌else◌}
use Rattle.std.proofs.lemmas.Bool.Decides.{nat_tests}
use Rattle.std.proofs.lemmas.List.{drop-drop, drop-append-le, drop_at}
use Rattle.std.specs.Char.{is_ascii_digit}
use Rattle.std.specs.List.{prefix_len}
use Rattle.std.specs.Str.{continuation_len}
use Rattle.spec_syntax.specs.declared.grammar.Kind.{Kind}
use Rattle.spec_syntax.specs.declared.grammar.Kind.TheVariants.{Name, Quoted, Codes, Variable, Numeral, Punctuation, End, Eof}
use Rattle.spec_syntax.specs.declared.grammar.Gap.{Gap}
use Rattle.spec_syntax.specs.declared.grammar.Gap.TheVariants.{Between, Line, Opening, Block, Closing}
use Rattle.spec_syntax.specs.declared.grammar.LexFault.{LexFault}
use Rattle.spec_syntax.specs.Characters.{is_layout, is_punctuation, is_symbol, first_char, passes, starts_name, starts_variable, begins_with}
use Rattle.spec_syntax.specs.Gaps.{gap}
use Rattle.spec_syntax.specs.Quotes.{Quoted as InQuotes}
use Rattle.spec_syntax.specs.Numerals.{Spelling, spelling, is_wide, goes_on_as_float}
use Rattle.spec_syntax.specs.GrammarTokens as lexical
use Rattle.spec_syntax.specs.GrammarTokens.{ends_clause, in_quotes, numeral, token, symbols, token_at, token_behind, next_token}
use Rattle.spec_syntax.specs.Laws.{Stands, IsNext}
use Rattle.spec_syntax.proofs.Bounds.{Within, gap_within}
use Rattle.spec_syntax.proofs.Tiles.{BeginsAt, token_begins, stands}

-- an end token is a full stop of one byte that ends a clause
abbrev EndStands : List ℕ → Result lexical.Token LexFault → Type 0
EndStands bs (Err f) = Unit {0}
EndStands bs (Ok t) = t.kind ≡ End → (t.span.end ≡ suc t.span.start) × (begins_with 46 bs ≡ true) × (ends_clause (drop 1 bs) ≡ true)

choice : (bs : List ℕ) (b : Bool) (x y : Result lexical.Token LexFault) → EndStands bs x → EndStands bs y → EndStands bs (if b then x else y)
choice bs true x y h k = h
choice bs false x y h k = k

other : (bs : List ℕ) (at end : ℕ) (kind : Kind) → kind ≢ End → EndStands bs (Ok (token kind at end))
other bs at end kind n e = absurd (n e)

symbols_end : (bs : List ℕ) (at len : ℕ) → EndStands bs (Ok (symbols len bs at))
symbols_end bs at len = by (begins_with 46 bs) (len == 1) (ends_clause (drop len bs)) refl refl refl
  where
    by : (stop one ends : Bool) → begins_with 46 bs ≡ stop → (len == 1) ≡ one → ends_clause (drop len bs) ≡ ends → EndStands bs (Ok (token (if stop && one && ends then End else Name) at (at + len)))
    by true true true e g h k =
        let single : len ≡ 1 = grind (arith, nat_tests) in
        (omega (arith, single), e, ap (λ n. ends_clause (drop n bs)) (sym single) ∙ h)
    by true true false e g h k = absurd (cc)
    by true false ends e g h k = absurd (cc)
    by false one ends e g h k = absurd (cc)

quotes_end : (bs : List ℕ) (at : ℕ) (kind : Kind) (q : Result InQuotes LexFault) → kind ≢ End → EndStands bs (in_quotes kind at q)
quotes_end bs at kind (Ok held) n = other bs at held.stop kind n
quotes_end bs at kind (Err f) n = tt

number_end : (s : Spelling) (bs : List ℕ) (at : ℕ) → EndStands bs (numeral s bs at)
number_end s bs at = choice bs (is_wide s) _ _ tt (choice bs (goes_on_as_float (drop s.size bs)) _ _ tt (λ e. cc))

token_end : (bs : List ℕ) (at : ℕ) → EndStands bs (token_at bs at)
token_end [] at = other [] at at Eof (λ e. cc)
token_end (b ∷ bs) at =
    choice (b ∷ bs) (passes starts_name (first_char (b ∷ bs))) _ _ (other (b ∷ bs) at _ Name (λ e. cc))
    (choice (b ∷ bs) (starts_variable b) _ _ (other (b ∷ bs) at _ Variable (λ e. cc))
    (choice (b ∷ bs) (is_symbol b) _ _ (symbols_end (b ∷ bs) at (prefix_len is_symbol (b ∷ bs)))
    (choice (b ∷ bs) ((b == 33) || (b == 59)) _ _ (other (b ∷ bs) at _ Name (λ e. cc))
    (choice (b ∷ bs) (is_punctuation b) _ _ (other (b ∷ bs) at _ Punctuation (λ e. cc))
    (choice (b ∷ bs) (b == 39) _ _ (quotes_end (b ∷ bs) at Quoted _ (λ e. cc))
    (choice (b ∷ bs) (b == 34) _ _ (quotes_end (b ∷ bs) at Codes _ (λ e. cc))
    (choice (b ∷ bs) (is_ascii_digit b) _ _ (number_end (spelling (b ∷ bs)) (b ∷ bs) at) tt)))))))

drop_none : {xs : List ℕ} → drop 0 xs ≡ xs
drop_none {xs = []} = refl
drop_none {xs = x ∷ xs} = refl

no_gap : {f : LexFault} {start : ℕ} → Err f ≡ Ok start → ⊥
no_gap e = cc

drop_one : (n : ℕ) (xs : List ℕ) → drop 1 (drop n xs) ≡ drop (suc n) xs
drop_one zero [] = refl
drop_one (suc n) [] = refl
drop_one zero (x ∷ xs) = refl
drop_one (suc n) (x ∷ xs) = drop_one n xs

-- an end token stands as a full stop that ends a clause
pub record EndsThere (text : List ℕ) (t : lexical.Token) : Type 0 where
  pub one : t.span.end ≡ suc t.span.start
  pub stop : begins_with 46 (drop t.span.start text) ≡ true
  pub ends : ends_clause (drop t.span.end text) ≡ true

pub end_stands : (text : List ℕ) (at : ℕ) (t : lexical.Token) → next_token text at ≡ Ok t → t.kind ≡ End → EndsThere text t
end_stands text at t e k = by (gap Between (drop at text) at) e
  where
    there : (start : ℕ) (r : Result lexical.Token LexFault) → r ≡ Ok t → BeginsAt (length (drop start text)) start r → EndStands (drop start text) r → EndsThere text t
    there start (Err f) e begins means = absurd (cc)
    there start (Ok u) e begins means =
        let same : u ≡ t = cc in
        let place : start ≡ t.span.start = sym begins.begins ∙ ap (λ (x : lexical.Token). x.span.start) same in
        let found = subst (λ x. EndStands (drop start text) (Ok x)) same means k in
        let stands = subst (λ n. begins_with 46 (drop n text) ≡ true) place found.1 in
        record {
          one = found.0;
          stop = stands;
          ends = ap ends_clause (ap (λ n. drop n text) (found.0 ∙ ap suc (sym place)) ∙ sym (drop_one start text)) ∙ found.2;
        }

    by : (r : Result ℕ LexFault) → token_behind text r ≡ Ok t → EndsThere text t
    by (Err f) e = absurd (cc)
    by (Ok start) e = there start (token_at (drop start text) start) e (token_begins (drop start text) start) (token_end (drop start text) start)

-- ---- a token is found again

-- what stands behind a gap is over at once
IsOver : List ℕ → ℕ → Type 0
IsOver bs start = gap Between bs start ≡ Ok start

over_here : (at start n : ℕ) (bs : List ℕ) → (let r : Result ℕ LexFault = Ok at in r ≡ Ok start) → start ≡ at + n → gap Between bs at ≡ Ok at → IsOver (drop n bs) start
unfolding IsOver
over_here at start zero bs e k over = let same : at ≡ start = omega arith in subst (λ m. gap Between bs m ≡ Ok m) same (rw drop_none over)
over_here at start (suc n) bs e k over = let same : at ≡ start = cc in absurd (omega arith)

over_behind : (mode : Gap) (b : ℕ) (bs : List ℕ) (at start n : ℕ) → gap mode bs (at + 1) ≡ Ok start → start ≡ at + n → ((m : ℕ) → start ≡ at + 1 + m → IsOver (drop m bs) start) → IsOver (drop n (b ∷ bs)) start
over_behind mode b bs at start zero e k later =
    let w : Within (at + 1) (at + 1 + length bs) (Ok start) = subst (Within (at + 1) (at + 1 + length bs)) e (gap_within mode bs (at + 1)) in
    absurd (omega (arith, w.0))
over_behind mode b bs at start (suc n) e k later = later n (omega arith)

-- of a choice, the side that is taken
taken : {A X : Type 0} (P : A → Type 0) (b : Bool) (x y : A) → P (if b then x else y) → (P x → X) → (P y → X) → X
taken P true x y p f g = f p
taken P false x y p f g = g p

over_again : (mode : Gap) (bs : List ℕ) (at start n : ℕ) → gap mode bs at ≡ Ok start → start ≡ at + n → IsOver (drop n bs) start
over_again Between [] at start n e k = over_here at start n [] e k refl
over_again Line [] at start n e k = over_here at start n [] e k refl
over_again Opening [] at start n e k = absurd (no_gap e)
over_again Block [] at start n e k = absurd (no_gap e)
over_again Closing [] at start n e k = over_here at start n [] e k refl
over_again Between (b ∷ bs) at start n e k =
    by (is_layout b) (b == 37) ((b == 47) && begins_with 42 bs) refl refl refl e
    (λ g. over_behind Between b bs at start n g k (λ m h. over_again Between bs (at + 1) start m g h))
    (λ g. over_behind Line b bs at start n g k (λ m h. over_again Line bs (at + 1) start m g h))
    (λ g. over_behind Opening b bs at start n g k (λ m h. over_again Opening bs (at + 1) start m g h))
  where
    by : (layout comment block : Bool) → is_layout b ≡ layout → (b == 37) ≡ comment → ((b == 47) && begins_with 42 bs) ≡ block →
        (if layout then gap Between bs (at + 1) else if comment then gap Line bs (at + 1) else if block then gap Opening bs (at + 1) else Ok at) ≡ Ok start →
        (gap Between bs (at + 1) ≡ Ok start → IsOver (drop n (b ∷ bs)) start) → (gap Line bs (at + 1) ≡ Ok start → IsOver (drop n (b ∷ bs)) start) →
        (gap Opening bs (at + 1) ≡ Ok start → IsOver (drop n (b ∷ bs)) start) → IsOver (drop n (b ∷ bs)) start
    by true comment block p q r e f g h = f e
    by false true block p q r e f g h = g e
    by false false true p q r e f g h = h e
    by false false false p q r e f g h = over_here at start n (b ∷ bs) e k (rw (p, q, r) refl)
over_again Line (b ∷ bs) at start n e k =
    taken (λ r. r ≡ Ok start) (b == 10) _ _ e
    (λ g. over_behind Between b bs at start n g k (λ m h. over_again Between bs (at + 1) start m g h))
    (λ g. over_behind Line b bs at start n g k (λ m h. over_again Line bs (at + 1) start m g h))
over_again Opening (b ∷ bs) at start n e k = over_behind Block b bs at start n e k (λ m g. over_again Block bs (at + 1) start m e g)
over_again Block (b ∷ bs) at start n e k =
    taken (λ r. r ≡ Ok start) ((b == 42) && begins_with 47 bs) _ _ e
    (λ g. over_behind Closing b bs at start n g k (λ m h. over_again Closing bs (at + 1) start m g h))
    (λ g. over_behind Block b bs at start n g k (λ m h. over_again Block bs (at + 1) start m g h))
over_again Closing (b ∷ bs) at start n e k = over_behind Between b bs at start n e k (λ m g. over_again Between bs (at + 1) start m e g)

-- a token is found again from its own place on
pub found_again : (text : List ℕ) (at : ℕ) (t : lexical.Token) → at ≤ length text → next_token text at ≡ Ok t → next_token text t.span.start ≡ Ok t
unfolding IsOver
found_again text at t fits e =
    let n : IsNext text at t = subst (Stands text at) e (stands text at fits) in
    let start = t.span.start in
    let over : gap Between (drop (start - at) (drop at text)) start ≡ Ok start = over_again Between (drop at text) at start (start - at) n.between (omega (arith, n.behind)) in
    let here : drop (start - at) (drop at text) ≡ drop start text = drop-drop (start - at) at text ∙ ap (λ m. drop m text) (let same : at + (start - at) ≡ start = omega (arith, n.behind) in same) in
    ap (token_behind text) (subst (λ bs. gap Between bs start ≡ Ok start) here over) ∙ sym (ap (token_behind text) n.between) ∙ e

-- ---- a line feed and a full stop behind a text

begins_same : (c : ℕ) (bs more : List ℕ) → (10 == c) ≡ false → begins_with c (bs ++ 10 ∷ more) ≡ begins_with c bs
begins_same c [] more e = e
begins_same c (b ∷ bs) more e = refl

all_over : (at end : ℕ) (b : ℕ) (bs : List ℕ) {X : Type 0} → end ≡ at + length (b ∷ bs) → (let r : Result ℕ LexFault = Ok at in r ≡ Ok end) → X
all_over at end b bs k e = let same : at ≡ end = cc in absurd (omega arith)

-- of two choices by one test
both : {end : ℕ} (b : Bool) (x y x' y' z : Result ℕ LexFault) → (if b then x else y) ≡ Ok end → (x ≡ Ok end → x' ≡ z) → (y ≡ Ok end → y' ≡ z) → (if b then x' else y') ≡ z
both true x y x' y' z e f g = f e
both false x y x' y' z e f g = g e

-- a gap up to a text's end goes on behind a line feed
ends_open : (mode : Gap) (bs more : List ℕ) (at end : ℕ) → end ≡ at + length bs → gap mode bs at ≡ Ok end → gap mode (bs ++ 10 ∷ more) at ≡ gap Between more (end + 1)
ends_open Between [] more at end k e = ap (λ n. gap Between more (n + 1)) (let same : at ≡ end = omega arith in same)
ends_open Line [] more at end k e = ap (λ n. gap Between more (n + 1)) (let same : at ≡ end = omega arith in same)
ends_open Opening [] more at end k e = absurd (no_gap e)
ends_open Block [] more at end k e = absurd (no_gap e)
ends_open Closing [] more at end k e = ap (λ n. gap Between more (n + 1)) (let same : at ≡ end = omega arith in same)
ends_open Between (b ∷ bs) more at end k e =
    rw (begins_same 42 bs more refl)
    (by (is_layout b) (b == 37) ((b == 47) && begins_with 42 bs) e (λ g. ends_open Between bs more (at + 1) end (omega arith) g) (λ g. ends_open Line bs more (at + 1) end (omega arith) g)
    (λ g. ends_open Opening bs more (at + 1) end (omega arith) g))
  where
    by : (layout comment block : Bool) → (if layout then gap Between bs (at + 1) else if comment then gap Line bs (at + 1) else if block then gap Opening bs (at + 1) else Ok at) ≡ Ok end →
        (gap Between bs (at + 1) ≡ Ok end → gap Between (bs ++ 10 ∷ more) (at + 1) ≡ gap Between more (end + 1)) →
        (gap Line bs (at + 1) ≡ Ok end → gap Line (bs ++ 10 ∷ more) (at + 1) ≡ gap Between more (end + 1)) →
        (gap Opening bs (at + 1) ≡ Ok end → gap Opening (bs ++ 10 ∷ more) (at + 1) ≡ gap Between more (end + 1)) →
        (if layout then gap Between (bs ++ 10 ∷ more) (at + 1) else if comment then gap Line (bs ++ 10 ∷ more) (at + 1) else if block then gap Opening (bs ++ 10 ∷ more) (at + 1) else Ok at) ≡ gap Between more (end + 1)
    by true comment block e f g h = f e
    by false true block e f g h = g e
    by false false true e f g h = h e
    by false false false e f g h = all_over at end b bs k e
ends_open Line (b ∷ bs) more at end k e =
    both (b == 10) _ _ _ _ _ e (λ g. ends_open Between bs more (at + 1) end (omega arith) g) (λ g. ends_open Line bs more (at + 1) end (omega arith) g)
ends_open Opening (b ∷ bs) more at end k e = ends_open Block bs more (at + 1) end (omega arith) e
ends_open Block (b ∷ bs) more at end k e =
    rw (begins_same 47 bs more refl)
    (both ((b == 42) && begins_with 47 bs) _ _ _ _ _ e (λ g. ends_open Closing bs more (at + 1) end (omega arith) g) (λ g. ends_open Block bs more (at + 1) end (omega arith) g))
ends_open Closing (b ∷ bs) more at end k e = ends_open Between bs more (at + 1) end (omega arith) e

full_stop : (at : ℕ) → token_at (46 ∷ []) at ≡ Ok (token End at (at + 1))
unfolding first_char
full_stop at = refl

-- where a text has only layout and comments left, an end token stands behind it in the text that goes on so
pub stop_behind : (text : List ℕ) (at : ℕ) (t : lexical.Token) → at ≤ length text → next_token text at ≡ Ok t → t.kind ≡ Eof →
    next_token (text ++ 10 ∷ 46 ∷ []) at ≡ Ok (token End (length text + 1) (length text + 1 + 1))
stop_behind text at t fits e k =
    let n : IsNext text at t = subst (Stands text at) e (stands text at fits) in
    let end = length text in
    let over : gap Between (drop at text) at ≡ Ok end = n.between ∙ ap (λ m. Ok m) (n.at_the_end k).0 in
    let behind : gap Between (drop at text ++ 10 ∷ 46 ∷ []) at ≡ Ok (end + 1) = ends_open Between (drop at text) (46 ∷ []) at end (omega (arith, length-drop at text, fits)) over in
    let left : drop (end + 1) (text ++ 10 ∷ 46 ∷ []) ≡ 46 ∷ [] = ap (drop (end + 1)) (sym (append_assoc text (10 ∷ []) (46 ∷ []))) ∙ drop_at (text ++ 10 ∷ []) (46 ∷ []) (end + 1) (length-append text (10 ∷ [])) in
    ap (λ bs. token_behind (text ++ 10 ∷ 46 ∷ []) (gap Between bs at)) (drop-append-le at text (10 ∷ 46 ∷ []) fits)
    ∙ ap (token_behind (text ++ 10 ∷ 46 ∷ [])) behind
    ∙ ap (λ bs. token_at bs (end + 1)) left
    ∙ full_stop (end + 1)
