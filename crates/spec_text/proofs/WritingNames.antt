-- A name that needs no quotes is cut as it is written, where what follows does not go on with it.
use Rattle.std.proofs.Common.{◌≡◌, ℕ, zero, suc, ◌+◌, ◌≤◌, Bool, true, false, not, List, [], ◌∷◌, ◌++◌, length, drop, Option, Some, None, Result, Ok, Err, refl, sym, ap, subst, ◌∙◌, arith}
use Rattle.std.specs.Prelude.{◌==◌, ◌||◌, ◌&&◌}
use Rattle.std.specs.Str.{continuation_len}
use Rattle.std.specs.List.{prefix_len}
use Rattle.std.specs.Char.{is_ascii_digit}
use Rattle.std.proofs.lemmas.Bool.{and_parts}
use Rattle.std.proofs.lemmas.Bool.Decides.{nat_tests}
use Rattle.spec_numbers.proofs.Tests.{nat_eq-same, nat_eq-apart}
use Rattle.spec_numbers.specs.Texts.{Text}
use Rattle.spec_syntax.specs.declared.grammar.Kind.{Kind}
use Rattle.spec_syntax.specs.declared.grammar.Kind.TheVariants as kind
use Rattle.spec_syntax.specs.declared.grammar.Gap.TheVariants.{Between}
use Rattle.spec_syntax.specs.declared.grammar.LexFault.{LexFault}
use Rattle.spec_syntax.specs.declared.grammar.LexFault.TheVariants.{BadByte, WideNumber}
use Rattle.spec_syntax.specs.Characters.{is_symbol, is_punctuation, begins, first_char, passes, starts_name, starts_variable, continues_name, name_end}
use Rattle.spec_syntax.specs.Gaps.{gap}
use Rattle.spec_syntax.specs.Quotes.{quoted, Quoted}
use Rattle.spec_syntax.specs.Numerals.{Spelling, spelling, is_wide, goes_on_as_float, value}
use Rattle.spec_syntax.specs.GrammarTokens.{Token, token, ends_clause, symbols, in_quotes, numeral, other_token, token_at, next_token}
use Rattle.spec_syntax.specs.Laws.{AllPass, Continues, Stands}
use Rattle.spec_syntax.proofs.Characters.{whole_char}
use Rattle.spec_syntax.proofs.Tiles.{stands}
use Rattle.spec_syntax.proofs.Again.{name_again, symbols_again, sign_again}
use Rattle.spec_syntax.specs.Writing.{is_name_to, needs_quotes}

-- ---- what a name is that needs no quotes

-- a token that is a name from 0 to this place
pub record IsNameTo (end : ℕ) (r : Result Token LexFault) : Type 0 where
  pub name : Token
  pub found : r ≡ Ok name
  pub kind : name.kind ≡ kind.Name
  pub start : name.span.start ≡ 0
  pub stop : name.span.end ≡ end

name_to : (end : ℕ) (r : Result Token LexFault) → is_name_to end r ≡ true → IsNameTo end r
name_to end (Err f) e = cc
name_to end (Ok t) e = by t.kind refl e
  where
    by : (k : Kind) → t.kind ≡ k → (elim k [ kind.Name ↦ (t.span.start == 0) && (t.span.end == end) | kind.Quoted ↦ false | kind.Codes ↦ false | kind.Variable ↦ false | kind.Numeral ↦ false | kind.Punctuation ↦ false | kind.End ↦ false | kind.Eof ↦ false ]) ≡ true → IsNameTo end (Ok t)
    by kind.Name k h = let g = and_parts _ _ h in record { name = t; found = refl; kind = k; start = nat_eq-same _ _ g.0; stop = nat_eq-same _ _ g.1 }
    by kind.Quoted k h = cc
    by kind.Codes k h = cc
    by kind.Variable k h = cc
    by kind.Numeral k h = cc
    by kind.Punctuation k h = cc
    by kind.End k h = cc
    by kind.Eof k h = cc

not_false : (a : Bool) → not a ≡ false → a ≡ true
not_false true e = refl
not_false false e = cc

pub bare_is : (f : Text) → needs_quotes f ≡ false → IsNameTo (length f) (next_token f 0)
unfolding needs_quotes
bare_is f e = name_to (length f) (next_token f 0) (not_false _ e)

-- no layout and no comment stands before it
pub bare_gap : (f : Text) → needs_quotes f ≡ false → gap Between f 0 ≡ Ok 0
bare_gap f e =
    let n = bare_is f e in
    let s : Stands f 0 (Ok n.name) = subst (Stands f 0) n.found (stands f 0 (omega arith)) in
    s.between ∙ ap Ok n.start

-- the token that begins with its first byte
pub bare_token : (f : Text) → needs_quotes f ≡ false → IsNameTo (length f) (token_at f 0)
bare_token f e =
    let n = bare_is f e in
    let same : next_token f 0 ≡ token_at f 0 = rw (bare_gap f e) refl in
    record { name = n.name; found = sym same ∙ n.found; kind = n.kind; start = n.start; stop = n.stop }

-- ---- the same token before other bytes

-- the characters are whole where they end with the text
continues_by : (skip : ℕ) (bs : List ℕ) (at : ℕ) → skip ≤ length bs → name_end skip bs at ≡ at + length bs → Continues skip bs
continues_by zero [] at h e = tt
continues_by (suc skip) [] at h e = absurd (omega arith)
continues_by (suc skip) (b ∷ bs) at h e = continues_by skip bs (at + 1) (omega arith) (e ∙ omega arith)
continues_by zero (b ∷ bs) at h e = by (first_char (b ∷ bs)) refl (λ w g. continues_by (continuation_len b) bs (at + 1) w g)
  where
    by : (c : Option ℕ) → first_char (b ∷ bs) ≡ c → (continuation_len b ≤ length bs → name_end (continuation_len b) bs (at + 1) ≡ at + 1 + length bs → Continues (continuation_len b) bs) →
        Continues zero (b ∷ bs)
    by None i rest = absurd (let z : name_end zero (b ∷ bs) at ≡ at = rw i refl in omega (arith, z, e))
    by (Some c) i rest = on (continues_name c) refl
      where
        on : (x : Bool) → continues_name c ≡ x → Continues zero (b ∷ bs)
        on false x = absurd (let z : name_end zero (b ∷ bs) at ≡ at = rw (i, x) refl in omega (arith, z, e))
        on true x =
            let z : name_end zero (b ∷ bs) at ≡ name_end (continuation_len b) bs (at + 1) = rw (i, x) refl in
            let w : continuation_len b ≤ length bs = whole_char b bs c i in
            (ap (passes continues_name) i ∙ x, w, rest w (sym z ∙ e ∙ omega arith))

-- nothing that begins this text goes on with a name
pub stops_there : (more : List ℕ) (at : ℕ) → passes continues_name (first_char more) ≡ false → name_end 0 more at ≡ at
stops_there [] at e = refl
stops_there (b ∷ bs) at e = rw e refl

pub all_by : (test : ℕ → Bool) (bs : List ℕ) → prefix_len test bs ≡ length bs → AllPass test bs
all_by test [] e = tt
all_by test (b ∷ bs) e = by (test b) refl (λ g. all_by test bs g)
  where
    by : (x : Bool) → test b ≡ x → (prefix_len test bs ≡ length bs → AllPass test bs) → AllPass test (b ∷ bs)
    by false x rest = absurd (let z : prefix_len test (b ∷ bs) ≡ 0 = rw x refl in omega (arith, z, e))
    by true x rest = let z : prefix_len test (b ∷ bs) ≡ 1 + prefix_len test bs = rw x refl in (x, rest (omega (arith, z, e)))

none_there : (test : ℕ → Bool) (more : List ℕ) → begins test more ≡ false → prefix_len test more ≡ 0
none_there test [] e = refl
none_there test (b ∷ bs) e = rw e refl

-- what follows does not go on with a name
pub record StopsName (f more : List ℕ) : Type 0 where
  pub symbols : begins is_symbol f ≡ true → begins is_symbol more ≡ false
  pub letters : passes starts_name (first_char f) ≡ true → passes continues_name (first_char more) ≡ false

ok_is : (t u : Token) → ◌≡◌ {A = Result Token LexFault} (Ok t) (Ok u) → t ≡ u
ok_is t u e = cc

-- a full stop alone is no name
lone_stop : (b : ℕ) (bs : List ℕ) {end : ℕ} → (b == 46) ≡ true → (length (b ∷ bs) == 1) ≡ true → IsNameTo end (token_at (b ∷ bs) 0) → ⊥
unfolding first_char
lone_stop b (c ∷ cs) e l n = absurd (let z : length (b ∷ c ∷ cs) ≡ 1 = nat_eq-same _ _ l in omega (arith, z))
lone_stop b [] {end = end} e l n =
    let same : b ≡ 46 = nat_eq-same b 46 e in
    let m : IsNameTo end (token_at (46 ∷ []) 0) = subst (λ x. IsNameTo end (token_at (x ∷ []) 0)) same n in
    let is : token kind.End 0 1 ≡ m.name = ok_is _ _ m.found in
    let k : kind.End ≡ kind.Name = ap (λ t. t.kind) is ∙ m.kind in
    cc

err_ok : (f : LexFault) (t : Token) → ◌≡◌ {A = Result Token LexFault} (Err f) (Ok t) → ⊥
err_ok f t e = cc

other_kind : (k : Kind) (start end stop : ℕ) → (k ≡ kind.Name → ⊥) → IsNameTo end (Ok (token k start stop)) → ⊥
other_kind k start end stop differs n = differs (ap (λ t. t.kind) (ok_is _ _ n.found) ∙ n.kind)

no_fault : (f : LexFault) (end : ℕ) → IsNameTo end (Err f) → ⊥
no_fault f end n = err_ok f n.name n.found

no_quoted : (k : Kind) (r : Result Quoted LexFault) (end : ℕ) → (k ≡ kind.Name → ⊥) → IsNameTo end (in_quotes k 0 r) → ⊥
no_quoted k (Ok q) end differs n = other_kind k 0 end q.stop differs n
no_quoted k (Err f) end differs n = no_fault f end n

no_numeral : (s : Spelling) (bs : List ℕ) (end : ℕ) → IsNameTo end (numeral s bs 0) → ⊥
no_numeral s bs end n = by (is_wide s) (goes_on_as_float (drop s.size bs)) refl refl
  where
    by : (x y : Bool) → is_wide s ≡ x → goes_on_as_float (drop s.size bs) ≡ y → ⊥
    by true y x1 y1 = let found : numeral s bs 0 ≡ Err (WideNumber 0) = rw x1 refl in no_fault (WideNumber 0) end (subst (IsNameTo end) found n)
    by false true x1 y1 = let found : numeral s bs 0 ≡ Err (BadByte (0 + s.size)) = rw (x1, y1) refl in no_fault (BadByte (0 + s.size)) end (subst (IsNameTo end) found n)
    by false false x1 y1 =
        let t : Token = record { kind = kind.Numeral; span = record { start = 0; end = 0 + s.size }; number = Some (value s) } in
        let found : numeral s bs 0 ≡ Ok t = rw (x1, y1) refl in
        let m : IsNameTo end (Ok t) = subst (IsNameTo end) found n in
        let k : kind.Numeral ≡ kind.Name = ap (λ u. u.kind) (ok_is _ _ m.found) ∙ m.kind in
        cc

-- ---- the kinds of names without quotes

-- a name of letters, a name of symbol characters, or a sign that is a name by itself
pub data BareKind (b : ℕ) (bs : List ℕ) : Type 0 where
  Letters : passes starts_name (first_char (b ∷ bs)) ≡ true → continuation_len b ≤ length bs → Continues (continuation_len b) bs → BareKind b bs
  Symbols : AllPass is_symbol (b ∷ bs) → (b ≡ 46 → bs ≡ [] → ⊥) → BareKind b bs
  Sign : ((b == 33) || (b == 59)) ≡ true → bs ≡ [] → BareKind b bs

letters_are : (b : ℕ) (bs : List ℕ) → passes starts_name (first_char (b ∷ bs)) ≡ true → IsNameTo (length (b ∷ bs)) (token_at (b ∷ bs) 0) → BareKind b bs
letters_are b bs starts n = by (first_char (b ∷ bs)) refl
  where
    by : (c : Option ℕ) → first_char (b ∷ bs) ≡ c → BareKind b bs
    by None i = let z : false ≡ true = sym (ap (passes starts_name) i) ∙ starts in cc
    by (Some c) i =
        let w : continuation_len b ≤ length bs = whole_char b bs c i in
        let found : token_at (b ∷ bs) 0 ≡ Ok (token kind.Name 0 (name_end (continuation_len b) bs 1)) = rw starts refl in
        let same : token kind.Name 0 (name_end (continuation_len b) bs 1) ≡ n.name = ok_is _ _ (sym found ∙ n.found) in
        let ends : name_end (continuation_len b) bs 1 ≡ 1 + length bs = (let z : name_end (continuation_len b) bs 1 ≡ length (b ∷ bs) = ap (λ t. t.span.end) same ∙ n.stop in z ∙ omega arith) in
        Letters starts w (continues_by (continuation_len b) bs 1 w ends)

symbols_are : (b : ℕ) (bs : List ℕ) → passes starts_name (first_char (b ∷ bs)) ≡ false → starts_variable b ≡ false → is_symbol b ≡ true → IsNameTo (length (b ∷ bs)) (token_at (b ∷ bs) 0) → BareKind b bs
symbols_are b bs no_start no_variable symbol n =
    let found : token_at (b ∷ bs) 0 ≡ Ok (symbols (prefix_len is_symbol (b ∷ bs)) (b ∷ bs) 0) = rw (no_start, no_variable, symbol) refl in
    let same : symbols (prefix_len is_symbol (b ∷ bs)) (b ∷ bs) 0 ≡ n.name = ok_is _ _ (sym found ∙ n.found) in
    let ends : prefix_len is_symbol (b ∷ bs) ≡ length (b ∷ bs) = (let z : prefix_len is_symbol (b ∷ bs) ≡ 0 + prefix_len is_symbol (b ∷ bs) = omega arith in z ∙ ap (λ t. t.span.end) same ∙ n.stop) in
    Symbols (all_by is_symbol (b ∷ bs) ends) (λ e g. lone_stop b bs (is_self b 46 e) (ap (λ xs. length (b ∷ xs) == 1) g) n)
  where
    is_self : (m n : ℕ) → m ≡ n → (m == n) ≡ true
    is_self m n e = grind (arith, nat_tests)

no_bytes : (bs : List ℕ) → 1 ≡ length (0 ∷ bs) → bs ≡ []
no_bytes [] e = refl
no_bytes (b ∷ bs) e = absurd (omega arith)

other_are : (b : ℕ) (bs : List ℕ) → IsNameTo (length (b ∷ bs)) (other_token b bs 0) → BareKind b bs
other_are b bs n = by ((b == 33) || (b == 59)) (is_punctuation b) (b == 39) (b == 34) (is_ascii_digit b) refl refl refl refl refl
  where
    end : ℕ
    end = length (b ∷ bs)

    by : (v w x y z : Bool) → ((b == 33) || (b == 59)) ≡ v → is_punctuation b ≡ w → (b == 39) ≡ x → (b == 34) ≡ y → is_ascii_digit b ≡ z → BareKind b bs
    by true w x y z v1 w1 x1 y1 z1 =
        let found : other_token b bs 0 ≡ Ok (token kind.Name 0 1) = rw v1 refl in
        let is : token kind.Name 0 1 ≡ n.name = ok_is _ _ (sym found ∙ n.found) in
        Sign v1 (no_bytes bs (ap (λ t. t.span.end) is ∙ n.stop))
    by false true x y z v1 w1 x1 y1 z1 =
        let found : other_token b bs 0 ≡ Ok (token kind.Punctuation 0 1) = rw (v1, w1) refl in
        absurd (other_kind kind.Punctuation 0 end 1 (λ k. cc) (subst (IsNameTo end) found n))
    by false false true y z v1 w1 x1 y1 z1 =
        let found : other_token b bs 0 ≡ in_quotes kind.Quoted 0 (quoted b 0 bs 1) = rw (v1, w1, x1) refl in
        absurd (no_quoted kind.Quoted (quoted b 0 bs 1) end (λ k. cc) (subst (IsNameTo end) found n))
    by false false false true z v1 w1 x1 y1 z1 =
        let found : other_token b bs 0 ≡ in_quotes kind.Codes 0 (quoted b 0 bs 1) = rw (v1, w1, x1, y1) refl in
        absurd (no_quoted kind.Codes (quoted b 0 bs 1) end (λ k. cc) (subst (IsNameTo end) found n))
    by false false false false true v1 w1 x1 y1 z1 =
        let found : other_token b bs 0 ≡ numeral (spelling (b ∷ bs)) (b ∷ bs) 0 = rw (v1, w1, x1, y1, z1) refl in
        absurd (no_numeral (spelling (b ∷ bs)) (b ∷ bs) end (subst (IsNameTo end) found n))
    by false false false false false v1 w1 x1 y1 z1 =
        let found : other_token b bs 0 ≡ Err (BadByte 0) = rw (v1, w1, x1, y1, z1) refl in
        absurd (no_fault (BadByte 0) end (subst (IsNameTo end) found n))

-- the kind of a name that needs no quotes
pub bare_kind : (b : ℕ) (bs : List ℕ) → needs_quotes (b ∷ bs) ≡ false → BareKind b bs
bare_kind b bs e = by (passes starts_name (first_char (b ∷ bs))) (starts_variable b) (is_symbol b) refl refl refl
  where
    n : IsNameTo (length (b ∷ bs)) (token_at (b ∷ bs) 0)
    n = bare_token (b ∷ bs) e

    by : (x y z : Bool) → passes starts_name (first_char (b ∷ bs)) ≡ x → starts_variable b ≡ y → is_symbol b ≡ z → BareKind b bs
    by true y z x y1 z1 = letters_are b bs x n
    by false true z x y1 z1 =
        let found : token_at (b ∷ bs) 0 ≡ Ok (token kind.Variable 0 (name_end 0 bs 1)) = rw (x, y1) refl in
        let is : token kind.Variable 0 (name_end 0 bs 1) ≡ n.name = ok_is _ _ (sym found ∙ n.found) in
        let k : kind.Variable ≡ kind.Name = ap (λ t. t.kind) is ∙ n.kind in
        cc
    by false false true x y1 z1 = symbols_are b bs x y1 z1 n
    by false false false x y1 z1 =
        let found : token_at (b ∷ bs) 0 ≡ other_token b bs 0 = rw (x, y1, z1) refl in
        other_are b bs (subst (IsNameTo (length (b ∷ bs))) found n)

-- no characters need quotes
pub some_bare : needs_quotes [] ≡ false → ⊥
some_bare e = let n = bare_token [] e in let is : token kind.Eof 0 0 ≡ n.name = ok_is _ _ n.found in let k : kind.Eof ≡ kind.Name = ap (λ t. t.kind) is ∙ n.kind in cc

-- ---- before other bytes

-- a name that needs no quotes is cut as it is written
pub name_cut : (f more : List ℕ) (at : ℕ) → needs_quotes f ≡ false → StopsName f more → token_at (f ++ more) at ≡ Ok (token kind.Name at (at + length f))
name_cut [] more at e s = absurd (some_bare e)
name_cut (b ∷ bs) more at e s = by (bare_kind b bs e)
  where
    by : BareKind b bs → token_at (b ∷ (bs ++ more)) at ≡ Ok (token kind.Name at (at + length (b ∷ bs)))
    by (Letters starts size continues) = name_again b bs more at starts size continues (stops_there more _ (s.letters starts))
    by (Symbols all no_stop) = symbols_again b bs more at all (none_there is_symbol more (s.symbols all.0)) (no_end bs refl (b == 46) refl)
      where
        no_end : (cs : List ℕ) → bs ≡ cs → (x : Bool) → (b == 46) ≡ x → (x && (length (b ∷ cs) == 1) && ends_clause (drop (length (b ∷ bs)) (b ∷ (bs ++ more)))) ≡ false
        no_end cs g false i = refl
        no_end [] g true i = absurd (no_stop (nat_eq-same b 46 i) g)
        no_end (c ∷ cs) g true i = let z : (length (b ∷ c ∷ cs) == 1) ≡ false = nat_eq-apart (length (b ∷ c ∷ cs)) 1 (λ h. absurd (omega (arith, h))) in rw z refl
    by (Sign sign alone) = rw alone (sign_again b more at sign)
