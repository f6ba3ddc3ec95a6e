-- The tokens of a term that can be read, with its variables numbered by first occurrence, can be written and count the variables in turn.
use Rattle.std.proofs.Common.{◌≡◌, ℕ, suc, ◌+◌, ◌<◌, ◌≤◌, ℤ, pos, negsuc, Bool, true, false, cond, not, ◌||◌, List, [], ◌∷◌, ◌++◌, codes, length, length-append, append_assoc, append-nil, Option, Some, None, refl, sym, ap, subst, ◌∙◌, arith}
use Rattle.std.specs.Prelude.{◌==◌, ◌/◌, if◌then◌else◌, ◌≢◌, bytes_eq, nat_abs}
use Rattle.std.specs.Cmp.Lexicographic.{bytes_decides}
use Rattle.std.specs.List.{list_any, position_or_len}
use Rattle.std.specs.Str.{is_utf8}
use Rattle.std.proofs.lemmas.Bool.Decides.{nat_tests}
use Rattle.spec_numbers.specs.Gcd.{gcd}
use Rattle.spec_numbers.specs.Rational.{ℚ, neg_ℚ, ratio, denominator}
use Rattle.spec_syntax.specs.declared.operators.OpDef.{OpDef}
use Rattle.spec_syntax.specs.Operators.{Ops, right_most}
use Rattle.spec_numbers.specs.Texts.{Text}
use Rattle.spec_numbers.proofs.Tests.{nat_eq-self, nat_eq-apart}
use Rattle.spec_terms.specs.Term.{Terms, Var, Number, Name, Compound, one, more, apply, apply_all}
use Rattle.spec_terms.specs.Variables.{with_variable, variables_after, variables_in, variables, renamed_from}
use Rattle.spec_syntax.specs.Tokens.{Token, Numeral, Variable, Named, Minus, Open, Close, CloseList, CloseCurly, Comma}
use Rattle.spec_syntax.specs.Trees.{Tree}
use Rattle.spec_syntax.specs.Writing.{Place, Alone, InList, is_negative, is_bare_right, is_bare_left, is_bare_argument, is_spaced, needs_quotes, unless, as_argument, placed, number_tokens, nil_tokens, atom_tokens, name_tokens, functional, is_signed, prefix_tokens, operand_tokens, unary_tokens, infix_token, name_before, infix_tokens, binary_tokens, written, written_at, arguments_written}
use Rattle.spec_text.specs.ReadingBack.{FitsNumber, CanBeRead, AllCanBeRead}
use Rattle.spec_text.proofs.Stops.{IsWritableName, count_after, AllFit}

-- ---- lists of tokens

fit-append : (ts us : List Token) (k m last : ℕ) → AllFit k ts m → AllFit m us last → AllFit k (ts ++ us) last
fit-append [] us k m last h g = subst (λ x. AllFit x us last) (sym h) g
fit-append (tok ∷ ts) us k m last h g = (h.0, h.1, fit-append ts us (count_after k tok) m last h.2 g)

fit_unless : (b : Bool) (ts : List Token) (k m : ℕ) → AllFit k ts m → AllFit k (unless b ts) m
fit_unless true ts k m h = h
fit_unless false ts k m h = (tt, tt, fit-append ts (Close ∷ []) k m m h (tt, tt, refl))

fit_argument : (ops : Ops) (a : Tree) (ts : List Token) (k m : ℕ) → AllFit k ts m → AllFit k (as_argument ops a ts) m
fit_argument ops a ts k m h = fit_unless (is_bare_argument ops a) ts k m h

fit_placed : (ops : Ops) (place : Place) (t : Tree) (ts : List Token) (k m : ℕ) → AllFit k ts m → AllFit k (placed ops place t ts) m
fit_placed ops Alone t ts k m h = h
fit_placed ops InList t ts k m h = (tt, tt, fit-append (as_argument ops t ts) (CloseList ∷ []) k m m (fit_argument ops t ts k m h) (tt, tt, refl))

-- ---- numbers

-- a number below zero without its sign
neg_parts : (q : ℚ) (n : ℕ) → q.numerator ≡ negsuc n → ((neg_ℚ q).numerator ≡ pos (suc n)) × (denominator (neg_ℚ q) ≡ denominator q)
unfolding neg_ℚ ratio
neg_parts q n e =
    let g : gcd (suc n) (suc q.below) ≡ 1 = subst (λ z. gcd (nat_abs z) (suc q.below) ≡ 1) e q.lowest in
    let one : suc n / 1 ≡ suc n = omega arith in
    let same : suc q.below / 1 ≡ suc q.below = omega arith in
    (rw (e, g) (ap pos one), rw (e, g) (whole same))
  where
    whole : suc q.below / 1 ≡ suc q.below → suc (Rattle.std.proofs.Common.pred (suc q.below / 1)) ≡ suc q.below
    whole s = rw s refl

sign_by : (z : ℤ) (n : ℕ) → z ≡ pos n → (elim z [ pos n ↦ false | negsuc n ↦ true ]) ≡ false
sign_by (pos m) n e = refl
sign_by (negsuc m) n e = cc

unsigned_fits : (q : ℚ) (n : ℕ) → q.numerator ≡ negsuc n → FitsNumber q → FitsNumber (neg_ℚ q) × (is_negative (neg_ℚ q) ≡ false)
unsigned_fits q n e fits =
    let p = neg_parts q n e in
    let over : nat_abs (neg_ℚ q).numerator ≡ nat_abs q.numerator = ap nat_abs p.0 ∙ sym (ap nat_abs e) in
    ((rw over fits.0, rw p.1 fits.1), sign_by (neg_ℚ q).numerator (suc n) p.0)

fit_number : (q : ℚ) (k : ℕ) → FitsNumber q → AllFit k (number_tokens (is_negative q) q) k
fit_number q k fits = by q.numerator refl
  where
    by : (z : ℤ) → q.numerator ≡ z → AllFit k (number_tokens (elim z [ pos n ↦ false | negsuc n ↦ true ]) q) k
    by (pos n) e = ((fits, sign_by q.numerator n e), tt, refl)
    by (negsuc n) e = (tt, tt, (unsigned_fits q n e fits, tt, refl))

-- ---- names

fit_nil : (place : Place) (k : ℕ) → AllFit k (nil_tokens place) k
fit_nil Alone k = (tt, tt, (tt, tt, refl))
fit_nil InList k = (tt, tt, refl)

differs_by : (f g : Text) → bytes_eq f g ≡ false → f ≢ g
differs_by f g e same = let h : true ≡ false = sym ((bytes_decides f g).1 same) ∙ e in cc

fit_atom : (b : Bool) (f : Text) (k : ℕ) → bytes_eq f (codes "{}") ≡ b → is_utf8 f ≡ true → f ≢ codes "[]" → AllFit k (atom_tokens b f) k
fit_atom true f k e valid no_list = (tt, tt, (tt, tt, refl))
fit_atom false f k e valid no_list = ((record { valid = valid; no_list = no_list; no_braces = differs_by f (codes "{}") e }, refl), tt, refl)

fit_name : (ops : Ops) (b : Bool) (place : Place) (f : Text) (k : ℕ) → bytes_eq f (codes "[]") ≡ b → is_utf8 f ≡ true → AllFit k (name_tokens ops b place f) k
fit_name ops true place f k e valid = fit_nil place k
fit_name ops false place f k e valid = fit_placed ops place (Name f) _ k k (fit_atom (bytes_eq f (codes "{}")) f k refl valid (differs_by f (codes "[]") e))

-- ---- operators

fit_functional : (f : Text) (args : List Token) (k m : ℕ) → IsWritableName f → AllFit k args m → AllFit k (functional f args) m
fit_functional f args k m w h = (w, tt, (tt, tt, fit-append args (Close ∷ []) k m m h (tt, tt, refl)))

fit_prefix : (ops : Ops) (op : OpDef) (b : Bool) (f : Text) (a : Tree) (ts : List Token) (k m : ℕ) → IsWritableName f → AllFit k ts m → AllFit k (prefix_tokens ops op b f a ts) m
fit_prefix ops op true f a ts k m w h = fit_functional f ts k m w h
fit_prefix ops op false f a ts k m w h = ((w, refl), tt, fit_unless (is_bare_right ops (right_most op) a) ts k m h)

fit_operand : (ops : Ops) (o p : Option OpDef) (f : Text) (a : Tree) (ts : List Token) (k m : ℕ) → IsWritableName f → AllFit k ts m → AllFit k (operand_tokens ops o p f a ts) m
fit_operand ops (Some op) p f a ts k m w h = fit_prefix ops op (is_signed f a) f a ts k m w h
fit_operand ops None (Some op) f a ts k m w h = fit-append (unless (is_bare_left ops op a) ts) _ k m m (fit_unless (is_bare_left ops op a) ts k m h) ((w, refl), tt, refl)
fit_operand ops None None f a ts k m w h = fit_functional f _ k m w (fit_argument ops a ts k m h)

fit_unary : (ops : Ops) (b : Bool) (f : Text) (a : Tree) (ts : List Token) (k m : ℕ) → bytes_eq f (codes "{}") ≡ b → is_utf8 f ≡ true → f ≢ codes "[]" → AllFit k ts m → AllFit k (unary_tokens ops b f a ts) m
fit_unary ops true f a ts k m e valid no_list h = (tt, tt, fit-append ts (CloseCurly ∷ []) k m m h (tt, tt, refl))
fit_unary ops false f a ts k m e valid no_list h =
    fit_operand ops (ops.prefix f) (ops.postfix f) f a ts k m (record { valid = valid; no_list = no_list; no_braces = differs_by f (codes "{}") e }) h

-- an infix operator's own token
fit_infix_token : (f : Text) (right : List Token) (k last : ℕ) (ts : List Token) → IsWritableName f → AllFit k ts last → AllFit k (infix_token f right ∷ ts) last
unfolding infix_token
fit_infix_token f right k last ts w h = by (bytes_eq f (codes ",")) (is_spaced f) right
  where
    named : AllFit k (Named f (needs_quotes f) ∷ ts) last
    named = ((w, refl), tt, h)

    on : (y : Bool) → AllFit k ((if y then Minus else Named f (needs_quotes f)) ∷ ts) last
    on true = (tt, tt, h)
    on false = named

    before : (right : List Token) → AllFit k (name_before f right ∷ ts) last
    before [] = named
    before (Open ∷ us) = (w, tt, h)
    before (Numeral q ∷ us) = on (bytes_eq f (codes "-"))
    before (_ ∷ us) = named

    by : (x y : Bool) (right : List Token) → AllFit k ((if x then Comma else if y then Named f (needs_quotes f) else name_before f right) ∷ ts) last
    by true y right = (tt, tt, h)
    by false true right = named
    by false false right = before right

fit_infix : (ops : Ops) (o : Option OpDef) (f : Text) (a b : Tree) (ts us : List Token) (k m last : ℕ) → IsWritableName f → AllFit k ts m → AllFit m us last → AllFit k (infix_tokens ops o f a b ts us) last
fit_infix ops (Some op) f a b ts us k m last w h g =
    let right = unless (is_bare_right ops (right_most op) b) us in
    fit-append (unless (is_bare_left ops op a) ts) (infix_token f right ∷ right) k m last (fit_unless (is_bare_left ops op a) ts k m h)
    (fit_infix_token f right m last right w (fit_unless (is_bare_right ops (right_most op) b) us m last g))
fit_infix ops None f a b ts us k m last w h g =
    fit_functional f _ k last w (fit-append (as_argument ops a ts) _ k m last (fit_argument ops a ts k m h) (tt, tt, fit_argument ops b us m last g))

fit_binary : (ops : Ops) (d : Bool) (place : Place) (f : Text) (a b : Tree) (ts us rest : List Token) (k m last : ℕ) → IsWritableName f →
    AllFit k ts m → AllFit m us last → AllFit m rest last → AllFit k (binary_tokens ops d place f a b ts us rest) last
fit_binary ops true Alone f a b ts us rest k m last w h g r = (tt, tt, fit-append (as_argument ops a ts) rest k m last (fit_argument ops a ts k m h) r)
fit_binary ops true InList f a b ts us rest k m last w h g r = (tt, tt, fit-append (as_argument ops a ts) rest k m last (fit_argument ops a ts k m h) r)
fit_binary ops false place f a b ts us rest k m last w h g r = fit_placed ops place _ _ k last (fit_infix ops (ops.infixed f) f a b ts us k m last w h g)

fit_more : (ops : Ops) (a : Tree) (ts us : List Token) (k m last : ℕ) → AllFit k ts m → AllFit m us last → AllFit k (as_argument ops a ts ++ Comma ∷ us) last
fit_more ops a ts us k m last h g = fit-append (as_argument ops a ts) (Comma ∷ us) k m last (fit_argument ops a ts k m h) (tt, tt, g)

-- ---- variables

-- the list begins with these
abbrev Begins : List ℕ → List ℕ → Type 0
Begins vs all = (rest : List ℕ) × (vs ++ rest ≡ all)

begins_before : (vs ws all : List ℕ) → Begins vs ws → Begins ws all → Begins vs all
begins_before vs ws all a b = (a.0 ++ b.0, sym (append_assoc vs a.0 b.0) ∙ ap (λ xs. xs ++ b.0) a.1 ∙ b.1)

with_begins : (vs : List ℕ) (v : ℕ) → Begins vs (with_variable vs v)
with_begins vs v = by (list_any (λ w. w == v) vs)
  where
    by : (b : Bool) → Begins vs (cond b vs (vs ++ v ∷ []))
    by true = ([], append-nil vs)
    by false = (v ∷ [], refl)

mutual
  after_begins : (vs : List ℕ) (t : Tree) → Begins vs (variables_after vs t)
  after_begins vs (Var v) = with_begins vs v
  after_begins vs (Number q) = ([], append-nil vs)
  after_begins vs (Name f) = ([], append-nil vs)
  after_begins vs (Compound f ts) = in_begins vs ts

  in_begins : (vs : List ℕ) (ts : Terms Text) → Begins vs (variables_in vs ts)
  in_begins vs (one t) = after_begins vs t
  in_begins vs (more t ts) = begins_before vs (variables_after vs t) (variables_in (variables_after vs t) ts) (after_begins vs t) (in_begins (variables_after vs t) ts)

-- the place of a variable among all
abbrev place_of : ℕ → List ℕ → ℕ
place_of v all = position_or_len (λ w. w == v) all

place_known : (v : ℕ) (vs rest : List ℕ) → list_any (λ w. w == v) vs ≡ true → place_of v (vs ++ rest) < length vs
place_known v [] rest e = cc
place_known v (w ∷ vs) rest e = by (w == v) refl e (λ h. place_known v vs rest h)
  where
    by : (b : Bool) → (w == v) ≡ b → (b || list_any (λ w. w == v) vs) ≡ true → (list_any (λ w. w == v) vs ≡ true → place_of v (vs ++ rest) < length vs) → cond (not b) (1 + place_of v (vs ++ rest)) 0 < length (w ∷ vs)
    by true i h next = omega arith
    by false i h next = let r : place_of v (vs ++ rest) < length vs = next h in omega (arith, r)

place_new : (v : ℕ) (vs rest : List ℕ) → list_any (λ w. w == v) vs ≡ false → place_of v (vs ++ v ∷ rest) ≡ length vs
place_new v [] rest e = let i : (v == v) ≡ true = grind (arith, nat_tests) in rw i refl
place_new v (w ∷ vs) rest e = by (w == v) refl e (λ h. place_new v vs rest h)
  where
    by : (b : Bool) → (w == v) ≡ b → (b || list_any (λ w. w == v) vs) ≡ false → (list_any (λ w. w == v) vs ≡ false → place_of v (vs ++ v ∷ rest) ≡ length vs) → cond (not b) (1 + place_of v (vs ++ v ∷ rest)) 0 ≡ length (w ∷ vs)
    by true i h next = cc
    by false i h next = let r : place_of v (vs ++ v ∷ rest) ≡ length vs = next h in omega (arith, r)

module _ (ops : Ops) (all : List ℕ) where
  abbrev number : ℕ → ℕ
  number v = 0 + place_of v all

  abbrev ren : Tree → Tree
  ren t = apply (λ v. Var (number v)) t

  fit_variable : (vs : List ℕ) (v : ℕ) → Begins (with_variable vs v) all → AllFit (length vs) (Variable (number v) ∷ []) (length (with_variable vs v))
  fit_variable vs v = by (list_any (λ w. w == v) vs) refl
    where
      by : (b : Bool) → list_any (λ w. w == v) vs ≡ b → Begins (cond b vs (vs ++ v ∷ [])) all → AllFit (length vs) (Variable (number v) ∷ []) (length (cond b vs (vs ++ v ∷ [])))
      by true e front =
          let low : place_of v (vs ++ front.0) < length vs = place_known v vs front.0 e in
          let place : number v ≡ place_of v (vs ++ front.0) = ap (λ xs. 0 + place_of v xs) (sym front.1) ∙ omega arith in
          let differs : (number v == length vs) ≡ false = nat_eq-apart (number v) (length vs) (λ e. absurd (omega (arith, place, low, e))) in
          (tt, omega (arith, place, low), rw differs refl)
      by false e front =
          let whole : vs ++ v ∷ front.0 ≡ all = sym (append_assoc vs (v ∷ []) front.0) ∙ front.1 in
          let place : number v ≡ length vs = ap (λ xs. 0 + place_of v xs) (sym whole) ∙ (let z : 0 + place_of v (vs ++ v ∷ front.0) ≡ length vs = omega (arith, place_new v vs front.0 e) in z) in
          let same : (number v == length vs) ≡ true = ap (λ n. n == length vs) place ∙ nat_eq-self (length vs) in
          let l : length (vs ++ v ∷ []) ≡ length vs + 1 = length-append vs (v ∷ []) in
          (tt, omega (arith, place), rw same (omega (arith, l)))

  mutual
    unfolding written_at

    fit : (vs : List ℕ) (place : Place) (t : Tree) → CanBeRead t → Begins (variables_after vs t) all → AllFit (length vs) (written_at ops place (ren t)) (length (variables_after vs t))
    fit vs place (Var v) can front = fit_placed ops place _ _ (length vs) (length (with_variable vs v)) (fit_variable vs v front)
    fit vs place (Number q) can front = fit_placed ops place (Number q) _ (length vs) (length vs) (fit_number q (length vs) can)
    fit vs place (Name f) can front = fit_name ops (bytes_eq f (codes "[]")) place f (length vs) refl can
    fit vs place (Compound f (one a)) can front =
        fit_placed ops place _ _ (length vs) (length (variables_after vs a))
        (fit_unary ops (bytes_eq f (codes "{}")) f (ren a) _ (length vs) (length (variables_after vs a)) refl can.0 can.1 (fit vs Alone a can.2 front))
    fit vs place (Compound f (more a (one b))) can front =
        let ws = variables_after vs a in
        let ahead : Begins (variables_after vs a) all = begins_before (variables_after vs a) (variables_after (variables_after vs a) b) all (after_begins (variables_after vs a) b) front in
        fit_binary ops (bytes_eq f (codes ".")) place f (ren a) (ren b) _ _ _ (length vs) (length (variables_after vs a)) (length (variables_after (variables_after vs a) b))
        (record { valid = can.0; no_list = can.1; no_braces = can.2 }) (fit vs Alone a can.3 ahead) (fit (variables_after vs a) Alone b can.4 front) (fit (variables_after vs a) InList b can.4 front)
    fit vs place (Compound f (more a (more b cs))) can front =
        let ahead : Begins (variables_after vs a) all = begins_before (variables_after vs a) (variables_in (variables_after vs a) (more b cs)) all (in_begins (variables_after vs a) (more b cs)) front in
        fit_placed ops place _ _ (length vs) (length (variables_in (variables_after vs a) (more b cs)))
        (fit_functional f _ (length vs) (length (variables_in (variables_after vs a) (more b cs))) (record { valid = can.0; no_list = can.1; no_braces = can.2 })
        (fit_more ops (ren a) _ _ (length vs) (length (variables_after vs a)) (length (variables_in (variables_after vs a) (more b cs))) (fit vs Alone a can.3 ahead) (fit_all (variables_after vs a) (more b cs) can.4 front)))

    fit_all : (vs : List ℕ) (ts : Terms Text) → AllCanBeRead ts → Begins (variables_in vs ts) all → AllFit (length vs) (arguments_written ops (apply_all (λ v. Var (number v)) ts)) (length (variables_in vs ts))
    fit_all vs (one a) can front = fit_argument ops (ren a) _ (length vs) (length (variables_after vs a)) (fit vs Alone a can front)
    fit_all vs (more a as1) can front =
        let ahead : Begins (variables_after vs a) all = begins_before (variables_after vs a) (variables_in (variables_after vs a) as1) all (in_begins (variables_after vs a) as1) front in
        fit_more ops (ren a) _ _ (length vs) (length (variables_after vs a)) (length (variables_in (variables_after vs a) as1)) (fit vs Alone a can.0 ahead) (fit_all (variables_after vs a) as1 can.1 front)

-- the tokens of a term count its variables from the first on
pub numbered_fit : (ops : Ops) (t : Tree) → CanBeRead t → AllFit 0 (written ops (renamed_from 0 t)) (length (variables t))
numbered_fit ops t can = fit ops (variables t) [] Alone t can ([], append-nil (variables t))
