-- The text of pieces whose variables have other numbers, by the names that they have then.
use Rattle.std.proofs.Common.{◌≡◌, ℕ, zero, suc, ◌+◌, ◌≤◌, Bool, true, false, not, ◌&&◌, ◌||◌, ◌==◌, List, [], ◌∷◌, ◌++◌, codes, length, refl, sym, ap, ap₂, ◌∙◌, arith}
use Rattle.std.specs.Prelude.{nat_le, if◌then◌else◌, filter}
use Rattle.std.specs.List.{position_or_len}
use Rattle.std.proofs.lemmas.Bool.{eq-eqb, ne_eqb}
use Rattle.spec_syntax.specs.Operators.{Ops}
use Rattle.spec_numbers.specs.Texts.{Text}
use Rattle.spec_terms.specs.Term.{apply}
use Rattle.spec_terms.specs.Variables.{variables, renamed_from, counted_from}
use Rattle.spec_terms.proofs.Listed.{variables-renamed_from}
use Rattle.spec_syntax.specs.Tokens.{Token, Variable, Numeral, Codes, Named, Functor, Minus, Open, Close, OpenList, CloseList, OpenCurly, CloseCurly, Comma, Bar, End}
use Rattle.spec_syntax.specs.Trees.{Tree}
use Rattle.spec_syntax.specs.Writing.{priority, Alone}
use Rattle.spec_text.specs.declared.writing.Style.{Style}
use Rattle.spec_text.specs.Pieces.{Piece, unless, pieces}
use Rattle.spec_text.specs.Texts.{token_text, text_of, is_apart, run_together, would_bind, own_blank, blank_behind, joined, seen}
use Rattle.spec_text.specs.Written.{is_unnamed, counted_name, shown, pieces_within, text_by, text_within}
use Rattle.spec_text.proofs.Pieces.{other, other_token, other_piece, others, priority_same, pieces_others, unless_others}

module _ (style : Style) (f : ℕ → ℕ) (name : ℕ → Text) where
  abbrev there : ℕ → Text
  there v = name (f v)

  token_same : (t : Token) → token_text style name (other_token f t) ≡ token_text style there t
  token_same (Variable v) = refl
  token_same (Numeral q) = refl
  token_same (Codes bytes) = refl
  token_same (Named g quoted) = refl
  token_same (Functor g) = refl
  token_same Minus = refl
  token_same Open = refl
  token_same Close = refl
  token_same OpenList = refl
  token_same CloseList = refl
  token_same OpenCurly = refl
  token_same CloseCurly = refl
  token_same Comma = refl
  token_same Bar = refl
  token_same End = refl

  apart_same : (p q : Piece) → is_apart style name (other_piece f p) (other_piece f q) ≡ is_apart style there p q
  unfolding is_apart
  apart_same p q =
      ap₂ (λ (a b : Text). not (p.has_blanks || q.has_blanks) && (run_together style name a b || (p.is_prefix && would_bind style name a b))) (token_same p.token) (token_same q.token)

  blank_same : (p : Piece) (ps : List Piece) → blank_behind style name (other_piece f p) (others f ps) ≡ blank_behind style there p ps
  blank_same p [] = refl
  blank_same p (q ∷ qs) = ap (λ (b : Bool). if b then codes " " else []) (apart_same p q)

  joined_same : (ps : List Piece) → joined style name (others f ps) ≡ joined style there ps
  joined_same [] = refl
  joined_same (p ∷ ps) =
      ap₂ (λ (a b : Text). own_blank p ++ (a ++ (own_blank p ++ (b ++ joined style name (others f ps))))) (token_same p.token) (blank_same p ps)
      ∙ ap (λ (r : Text). own_blank p ++ (text_of style there p ++ (own_blank p ++ (blank_behind style there p ps ++ r)))) (joined_same ps)

  seen_same : (ps : List Piece) → seen style name (others f ps) ≡ others f (seen style there ps)
  seen_same [] = refl
  seen_same (p ∷ ps) =
      ap (λ (a : Text). if (length a == 0) && not p.has_blanks then seen style name (others f ps) else other_piece f p ∷ seen style name (others f ps)) (token_same p.token)
      ∙ ap (λ (r : List Piece). if (length (text_of style there p) == 0) && not p.has_blanks then r else other_piece f p ∷ r) (seen_same ps)
      ∙ out ((length (text_of style there p) == 0) && not p.has_blanks)
    where
      out : (b : Bool) → (if b then others f (seen style there ps) else other_piece f p ∷ others f (seen style there ps))
          ≡ others f (if b then seen style there ps else p ∷ seen style there ps)
      out true = refl
      out false = refl

  pub text_same : (ops : Ops) (most : ℕ) (t : Tree) → text_by style ops name most (apply (other f) t) ≡ text_by style ops there most t
  text_same ops most t =
      let within : pieces_within ops most (apply (other f) t) ≡ others f (pieces_within ops most t) =
      ap₂ (λ (n : ℕ) (ps : List Piece). unless (nat_le n most) ps) (priority_same f ops t) (pieces_others f ops Alone t)
      ∙ unless_others f (nat_le (priority ops t) most) (pieces ops t) in
      ap (λ (ps : List Piece). joined style name (seen style name ps)) within
      ∙ ap (joined style name) (seen_same (pieces_within ops most t))
      ∙ joined_same (seen style there (pieces_within ops most t))

-- ---- numbers by first occurrence

-- the place of one of the first numbers among them
place_counted : (n k m : ℕ) → m ≤ k → position_or_len (λ w. w == n + m) (counted_from n k) ≡ m
place_counted n zero zero l = refl
place_counted n zero (suc m) l = absurd (omega (arith, l))
place_counted n (suc k) zero l = rw (eq-eqb n (n + 0) (omega arith)) refl
place_counted n (suc k) (suc m) l =
    let differs : n == n + suc m ≡ false = ne_eqb n (n + suc m) (λ e. omega (arith, e)) in
    let shifted : n + suc m ≡ suc n + m = omega arith in
    let next : 1 + position_or_len (λ w. w == n + suc m) (counted_from (suc n) k) ≡ suc (position_or_len (λ w. w == n + suc m) (counted_from (suc n) k)) = omega arith in
    rw differs (next ∙ ap suc (ap (λ (i : ℕ). position_or_len (λ w. w == i) (counted_from (suc n) k)) shifted ∙ place_counted (suc n) k m (omega (arith, l))))

place_within : (v : ℕ) (vs : List ℕ) → position_or_len (λ w. w == v) vs ≤ length vs
place_within v [] = omega arith
place_within v (x ∷ vs) = go (x == v) refl (place_within v vs)
  where
    go : (b : Bool) → (x == v) ≡ b → position_or_len (λ w. w == v) vs ≤ length vs → position_or_len (λ w. w == v) (x ∷ vs) ≤ suc (length vs)
    go true e l = rw e (omega arith)
    go false e l = rw e (omega (arith, l))

none_named : (vs : List ℕ) → filter (is_unnamed []) vs ≡ vs
none_named [] = refl
none_named (v ∷ vs) = ap (λ (ws : List ℕ). v ∷ ws) (none_named vs)

pub written_same : (style : Style) (ops : Ops) (most : ℕ) (t : Tree) → text_within style ops [] most (renamed_from 0 t) ≡ text_within style ops [] most t
written_same style ops most t =
    let vs = variables t in
    let f : ℕ → ℕ = λ v. 0 + position_or_len (λ w. w == v) vs in
    let counted : filter (is_unnamed []) (variables (renamed_from 0 t)) ≡ counted_from 0 (length vs) = none_named (variables (renamed_from 0 t)) ∙ variables-renamed_from 0 t in
    let names : (v : ℕ) → shown [] (filter (is_unnamed []) (variables (renamed_from 0 t))) (f v) ≡ shown [] (filter (is_unnamed []) vs) v = λ v.
    ap (λ (ws : List ℕ). shown [] ws (f v)) counted
    ∙ ap counted_name (place_counted 0 (length vs) (position_or_len (λ w. w == v) vs) (place_within v vs))
    ∙ ap (λ (ws : List ℕ). shown [] ws v) (sym (none_named vs)) in
    text_same style f (shown [] (filter (is_unnamed []) (variables (renamed_from 0 t)))) ops most t
    ∙ ap (λ (name : ℕ → Text). text_by style ops name most t) (λ i v. names v i)
