-- The text that is written of a term reads as the term.
use Rattle.std.proofs.Common.{◌≡◌, ◌⊎◌, inl, inr, ℕ, ◌+◌, Bool, true, false, append-nil, List, [], ◌∷◌, ◌++◌, codes, length, length-append, append_assoc, refl, sym, ap, subst, ◌∙◌, arith, nat_le, filter}
use Rattle.std.specs.Prelude.{◌==◌, if◌then◌else◌}
use Rattle.std.specs.List.{position_or_len}
use Rattle.std.proofs.lemmas.Bool.Decides.{nat_tests}
use Rattle.spec_numbers.specs.Texts.{Text}
use Rattle.spec_syntax.specs.Operators.{Ops}
use Rattle.spec_terms.specs.Variables.{variables, renamed_from}
use Rattle.spec_syntax.specs.GrammarTokens.{next_token}
use Rattle.spec_syntax.proofs.Again.{end_again}
use Rattle.spec_syntax.specs.Tokens.{Token, End}
use Rattle.spec_syntax.specs.Trees.{Tree}
use Rattle.spec_syntax.specs.TextTokens.{Variables, variables_after}
use Rattle.spec_syntax.specs.Writing.{IsTable, Alone, priority, written}
use Rattle.spec_syntax.proofs.Written.{fits}
use Rattle.spec_syntax.proofs.ReadBack.{round_trip}
use Rattle.spec_text.specs.Readings.{AreTokens, none, next, Clause, Reads, clause}
use Rattle.spec_text.specs.declared.writing.Style.TheVariants.{Quoted}
use Rattle.spec_text.specs.Pieces.{Piece, tokens, pieces, unless}
use Rattle.spec_text.specs.Texts.{text_of, own_blank, is_apart, blank_behind, joined, seen}
use Rattle.spec_text.specs.Written.{counted_name, is_unnamed, shown, text_by, writeq}
use Rattle.spec_text.specs.ReadingBack.{NamesAreBare, CanBeRead, counted, ReadsBack}
use Rattle.spec_text.proofs.Same.{same}
use Rattle.spec_text.proofs.Blanks.{drop-before, drop-next, found_there, found_behind}
use Rattle.spec_text.proofs.WritingSeen.{all_seen}
use Rattle.spec_text.proofs.Shown.{names_shown}
use Rattle.spec_text.proofs.Stops.{GoesNoFurther, IsCut, AllFit, AllStop, count_after, text_behind}
use Rattle.spec_text.proofs.TokenCuts.{token_is_cut}
use Rattle.spec_text.proofs.Numbered.{numbered_fit}
use Rattle.spec_text.proofs.Touching.{stops_at_blank, stops_before}
use Rattle.spec_text.proofs.Chains.{AreChained, named_last, pieces_chained}

-- ---- lists of tokens

on_text : (a b : List ℕ) {at to : ℕ} {v w : Variables} {ts : List Token} → a ≡ b → AreTokens a at v ts to w → AreTokens b at v ts to w
on_text a b {at} {to} {v} {w} {ts} e r = subst (λ text. AreTokens text at v ts to w) e r

from_to : (text : List ℕ) (at at' to to' : ℕ) {v w : Variables} {ts : List Token} → at ≡ at' → to ≡ to' → AreTokens text at v ts to w → AreTokens text at' v ts to' w
from_to text at at' to to' {v} {w} {ts} e g r = subst (λ x. AreTokens text x v ts to' w) e (subst (λ y. AreTokens text at v ts y w) g r)

moved : (text : List ℕ) (at at' : ℕ) {to : ℕ} {v w : Variables} {tok : Token} {ts : List Token} → next_token text at ≡ next_token text at' → AreTokens text at' v (tok ∷ ts) to w → AreTokens text at v (tok ∷ ts) to w
moved text at at' e (next f s r) = next (e ∙ f) s r

-- a blank is passed over
blank_passed : (before more : List ℕ) → next_token (before ++ 32 ∷ more) (length before) ≡ next_token (before ++ 32 ∷ more) (length before + 1)
blank_passed before more = rw (drop-before before (32 ∷ more), drop-next before more 32) refl

-- there, a blank or none
abbrev IsBlank : Text → Type 0
IsBlank blank = (blank ≡ []) ⊎ (blank ≡ codes " ")

blank_by : (x : Bool) → IsBlank (if x then codes " " else [])
blank_by true = inr refl
blank_by false = inl refl

own_is : (p : Piece) → IsBlank (own_blank p)
own_is p = blank_by p.has_blanks

behind_is : (p : Piece) (ps : List Piece) → IsBlank (blank_behind Quoted counted_name p ps)
behind_is p [] = inl refl
behind_is p (q ∷ qs) = blank_by (is_apart Quoted counted_name p q)

over_blank : (b blank m : List ℕ) {to : ℕ} {v w : Variables} {tok : Token} {ts : List Token} → IsBlank blank
    → AreTokens (b ++ (blank ++ m)) (length (b ++ blank)) v (tok ∷ ts) to w → AreTokens (b ++ (blank ++ m)) (length b) v (tok ∷ ts) to w
over_blank b blank m {to} {v} {w} {tok} {ts} is r = elim is [
  | inl e ↦ from_to (b ++ (blank ++ m)) _ _ _ _ (ap (λ x. length (b ++ x)) e ∙ ap length (append-nil b)) refl r
  | inr e ↦ subst (λ x. AreTokens (b ++ (x ++ m)) (length b) v (tok ∷ ts) to w) (sym e) (passed (subst (λ x. AreTokens (b ++ (x ++ m)) (length (b ++ x)) v (tok ∷ ts) to w) e r))
]
  where
    passed : AreTokens (b ++ 32 ∷ m) (length (b ++ 32 ∷ [])) v (tok ∷ ts) to w → AreTokens (b ++ 32 ∷ m) (length b) v (tok ∷ ts) to w
    passed q = moved (b ++ 32 ∷ m) (length b) (length b + 1) (blank_passed b m) (from_to (b ++ 32 ∷ m) _ (length b + 1) _ _ (length-append b (32 ∷ [])) refl q)

-- before others, of which there is one at least
over_more : (b blank m : List ℕ) (us : List Token) (tok : Token) (ts : List Token) {to : ℕ} {v w : Variables} → IsBlank blank
    → AreTokens (b ++ (blank ++ m)) (length (b ++ blank)) v (us ++ tok ∷ ts) to w → AreTokens (b ++ (blank ++ m)) (length b) v (us ++ tok ∷ ts) to w
over_more b blank m [] tok ts is r = over_blank b blank m is r
over_more b blank m (u ∷ us) tok ts is r = over_blank b blank m is r

-- ---- neighbours

-- each token of chained pieces goes no further than its text
all_stop : (ps : List Piece) (k last : ℕ) → AllFit k (tokens ps) last → AreChained ps → AllStop ps (codes " .\n")
all_stop [] k last fit chained = tt
all_stop (p ∷ []) k last fit chained = (by p.has_blanks, tt)
  where
    by : (x : Bool) → GoesNoFurther p.token ((if x then codes " " else []) ++ codes " .\n")
    by true = stops_at_blank p.token (codes " .\n") chained.1
    by false = stops_at_blank p.token (codes ".\n") chained.1
all_stop (p ∷ q ∷ qs) k last fit chained =
    let more : Text = codes " .\n" in
    let rest = own_blank q ++ (blank_behind Quoted counted_name q qs ++ joined Quoted counted_name qs) in
    let whole : joined Quoted counted_name (q ∷ qs) ++ codes " .\n" ≡ own_blank q ++ (text_of Quoted counted_name q ++ (rest ++ codes " .\n")) =
    append_assoc (own_blank q) (text_of Quoted counted_name q ++ rest) (codes " .\n") ∙ ap (λ w. own_blank q ++ w) (append_assoc (text_of Quoted counted_name q) rest (codes " .\n")) in
    let there = stops_before p q (rest ++ codes " .\n") fit.0 fit.2.0 chained.1 (λ e. named_last p.token (chained.0 e)) in (
      subst (λ w. GoesNoFurther p.token (own_blank p ++ ((if is_apart Quoted counted_name p q then codes " " else []) ++ w))) (sym whole) there,
      all_stop (q ∷ qs) (count_after k p.token) last fit.2 chained.2,
    )

-- ---- the tokens of joined pieces

-- where others stand behind the pieces, those of the pieces stand before them
abbrev Cut : List Piece → Text → ℕ → ℕ → Type 0
Cut ps more k last = (before : List ℕ) (to : ℕ) (v : Variables) (tok : Token) (ts : List Token) →
    AreTokens (before ++ (joined Quoted counted_name ps ++ more)) (length (before ++ joined Quoted counted_name ps)) (counted last) (tok ∷ ts) to v →
    AreTokens (before ++ (joined Quoted counted_name ps ++ more)) (length before) (counted k) (tokens ps ++ tok ∷ ts) to v

module _ (a b c d e f : List ℕ) where
  regrouped : a ++ (b ++ (c ++ (d ++ (e ++ f)))) ≡ ((((a ++ b) ++ c) ++ d) ++ e) ++ f
  regrouped = sym (append_assoc (((a ++ b) ++ c) ++ d) e f ∙ append_assoc ((a ++ b) ++ c) d (e ++ f) ∙ append_assoc (a ++ b) c (d ++ (e ++ f)) ∙ append_assoc a b (c ++ (d ++ (e ++ f))))

  opened : (m : List ℕ) → (b ++ (c ++ (d ++ (e ++ f)))) ++ m ≡ b ++ (c ++ (d ++ (e ++ (f ++ m))))
  opened m =
      append_assoc b (c ++ (d ++ (e ++ f))) m
      ∙ ap (λ x. b ++ x) (append_assoc c (d ++ (e ++ f)) m ∙ ap (λ x. c ++ x) (append_assoc d (e ++ f) m ∙ ap (λ x. d ++ x) (append_assoc e f m)))

module _ (p : Piece) (ps : List Piece) (more before : List ℕ) where
  abbrev own : Text
  own = own_blank p

  abbrev text : Text
  text = text_of Quoted counted_name p

  abbrev blank : Text
  blank = blank_behind Quoted counted_name p ps

  abbrev rest : Text
  rest = joined Quoted counted_name ps

  abbrev behind : Text
  behind = text_behind p ps more

  -- where the other pieces begin
  abbrev start : Text
  start = (((before ++ own) ++ text) ++ own) ++ blank

  whole : before ++ (joined Quoted counted_name (p ∷ ps) ++ more) ≡ before ++ (own ++ (text ++ behind))
  whole = ap (λ x. before ++ x) (opened before own text own blank rest more)

  module _ (k to : ℕ) (v w : Variables) (tok : Token) (ts : List Token) where
    moved_on : AreTokens (before ++ (joined Quoted counted_name (p ∷ ps) ++ more)) (length (before ++ joined Quoted counted_name (p ∷ ps))) w (tok ∷ ts) to v
        → AreTokens (start ++ (rest ++ more)) (length (start ++ rest)) w (tok ∷ ts) to v
    moved_on r =
        from_to (start ++ (rest ++ more)) _ _ _ _ (ap length (regrouped before own text own blank rest)) refl
        (on_text _ _ (whole ∙ regrouped before own text own blank (rest ++ more)) r)

    module _ (others : AreTokens (start ++ (rest ++ more)) (length start) (counted (count_after k p.token)) (tokens ps ++ tok ∷ ts) to v) (c : IsCut (before ++ own) behind k p.token) where
      -- the tokens of the other pieces from behind this piece's text
      there : AreTokens (((before ++ own) ++ text) ++ behind) (length ((before ++ own) ++ text)) (counted (count_after k p.token)) (tokens ps ++ tok ∷ ts) to v
      there =
          over_more ((before ++ own) ++ text) own (blank ++ (rest ++ more)) (tokens ps) tok ts (own_is p)
          (on_text _ _ (append_assoc ((before ++ own) ++ text) own (blank ++ (rest ++ more)))
          (over_more (((before ++ own) ++ text) ++ own) blank (rest ++ more) (tokens ps) tok ts (behind_is p ps)
          (on_text _ _ (append_assoc (((before ++ own) ++ text) ++ own) blank (rest ++ more)) others)))

      place : length ((before ++ own) ++ text) ≡ c.found.span.end
      place = length-append (before ++ own) text ∙ sym c.stop

      onward : AreTokens ((before ++ own) ++ (text ++ behind)) c.found.span.end (variables_after ((before ++ own) ++ (text ++ behind)) (counted k) c.found) (tokens ps ++ tok ∷ ts) to v
      onward =
          subst (λ x. AreTokens ((before ++ own) ++ (text ++ behind)) c.found.span.end x (tokens ps ++ tok ∷ ts) to v) (sym c.variables)
          (from_to ((before ++ own) ++ (text ++ behind)) _ _ _ _ place refl (on_text _ _ (append_assoc (before ++ own) text behind) there))

      token : AreTokens ((before ++ own) ++ (text ++ behind)) (length (before ++ own)) (counted k) (p.token ∷ (tokens ps ++ tok ∷ ts)) to v
      token = next (found_there (before ++ own) (text ++ behind) c.no_gap ∙ c.token) c.seen onward

      cut_before : AreTokens (before ++ (joined Quoted counted_name (p ∷ ps) ++ more)) (length before) (counted k) (p.token ∷ (tokens ps ++ tok ∷ ts)) to v
      cut_before = on_text _ _ (sym whole) (over_blank before own (text ++ behind) (own_is p) (on_text _ _ (append_assoc before own (text ++ behind)) token))

joined_cut : (ps : List Piece) (more : List ℕ) (k last : ℕ) → AllFit k (tokens ps) last → AllStop ps more → Cut ps more k last
joined_cut [] more k last fit stops before to v tok ts r =
    from_to (before ++ more) _ _ _ _ (ap length (append-nil before)) refl (subst (λ n. AreTokens (before ++ more) (length (before ++ [])) (counted n) (tok ∷ ts) to v) (sym fit) r)
joined_cut (p ∷ ps) more k last fit stops before to v tok ts r =
    cut_before p ps more before k to v (counted last) tok ts
    (joined_cut ps more (count_after k p.token) last fit.2 stops.1 (start p ps more before) to v tok ts (moved_on p ps more before k to v (counted last) tok ts r))
    (token_is_cut (before ++ own_blank p) (text_behind p ps more) k p.token fit.0 fit.1 stops.0)

-- ---- the law

all_unnamed : (vs : List ℕ) → filter (is_unnamed []) vs ≡ vs
all_unnamed [] = refl
all_unnamed (v ∷ vs) = ap (λ ws. v ∷ ws) (all_unnamed vs)

-- the end of a clause
end_cut : (w : Text) (v : Variables) → AreTokens (w ++ codes " .\n") (length w) v (End ∷ []) (length w + 2) v
end_cut w v = from_to _ _ _ _ _ refl (omega arith) (next (found_behind w (codes ".\n") refl ∙ end_again (codes "\n") (length w + 1) refl) refl none)

-- the text that is written is that of the pieces of the term with its variables numbered
text_is : (ops : Ops) (t : Tree) → IsTable ops → writeq ops t ≡ joined Quoted counted_name (pieces ops (renamed_from 0 t))
text_is ops t are =
    let u : Tree = renamed_from 0 t in
    let low : nat_le (priority ops u) 1200 ≡ true = (let h = (fits ops are u).0 in grind (arith, nat_tests)) in
    let by_name : text_by Quoted ops counted_name 1200 u ≡ text_by Quoted ops (shown [] (variables t)) 1200 t =
    names_shown ops counted_name (shown [] (variables t)) (λ v. 0 + position_or_len (λ w. w == v) (variables t)) 1200 t (λ v. let z : 0 + position_or_len (λ w. w == v) (variables t) ≡ position_or_len (λ w. w == v) (variables t) = omega arith in ap counted_name z) in
    let whole : text_by Quoted ops counted_name 1200 u ≡ joined Quoted counted_name (pieces ops u) =
    ap (λ b. joined Quoted counted_name (seen Quoted counted_name (unless b (pieces ops u)))) low ∙ ap (joined Quoted counted_name) (all_seen (pieces ops u)) in
    ap (λ vs. text_by Quoted ops (shown [] vs) 1200 t) (all_unnamed (variables t)) ∙ sym by_name ∙ whole

pub reads_back : (ops : Ops) (t : Tree) → IsTable ops → NamesAreBare ops → CanBeRead t → ReadsBack ops t
reads_back ops t are bare can =
    let u : Tree = renamed_from 0 t in
    let n = length (variables t) in
    let w = joined Quoted counted_name (pieces ops u) in
    let s : tokens (pieces ops u) ≡ written ops u = same ops Alone u in
    let fit : AllFit 0 (tokens (pieces ops u)) n = subst (λ ts. AllFit 0 ts n) (sym s) (numbered_fit ops t can) in
    let stops : AllStop (pieces ops u) (codes " .\n") = all_stop (pieces ops u) 0 n fit (pieces_chained ops u are bare) in
    let those : AreTokens (w ++ codes " .\n") 0 (counted 0) (tokens (pieces ops u) ++ End ∷ []) (length w + 2) (counted n) =
    joined_cut (pieces ops u) (codes " .\n") 0 n fit stops [] (length w + 2) (counted n) End [] (end_cut w (counted n)) in
    let reads : Reads ops (w ++ codes " .\n") 0 (Clause u (counted n) (length w + 2)) =
    clause (subst (λ ts. AreTokens (w ++ codes " .\n") 0 (counted 0) (ts ++ End ∷ []) (length w + 2) (counted n)) s those) (round_trip ops are u) in
    subst (λ x. Reads ops (x ++ codes " .\n") 0 (Clause u (counted n) (length x + 2))) (sym (text_is ops t are)) reads
