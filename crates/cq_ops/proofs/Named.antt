-- The table by the texts of the names: look-ups, changes, and more names.
use Rattle.std.proofs.Common.{◌≡◌, ◌≢◌, ℕ, ◌+◌, ◌<◌, Bool, true, false, cond, List, [], ◌∷◌, length, Option, Some, None, slice_get, position, nat_eq, nat_lt, ◌≤◌, get_or, drop, drop-cons, add-one, map, refl, sym, ap, subst, ◌∙◌, arith, true≢false, is_some}
use Rattle.std.specs.Prelude.{if◌then◌else◌, ℤ, codes, not, ◌==◌, ◌&&◌, ◌||◌, Result, Ok, Err, OnOk, OnErr}
use Rattle.std.specs.declared.alloc.AllocError.{AllocError}
use Rattle.std.specs.Option.{option_and_then}
use Rattle.std.specs.Str.{bytes_eq}
use Rattle.std.specs.Cmp.Lexicographic.{bytes_decides}
use Rattle.std.specs.Ordering.{nat_cmp}
use Rattle.std.specs.Cmp.{nat_cmp_total}
use Rattle.std.specs.FinMap.{FinMap, get, get-insert, get-remove, get-empty, empty}
use Rattle.std.proofs.lemmas.Option.{slice_get_within, get_or_from_slice_get, slice_get-get_or}
use Rattle.std.proofs.lemmas.List.Sums.{fails_before_first, passes_at_first}
use Rattle.std.specs.List.{position_or_len}
use Rattle.spec_syntax.specs.declared.operators.OpKind.{OpKind}
use Rattle.std.proofs.lemmas.Bool.Decides.{nat_tests}
use Rattle.cq_term.specs.Texts.{AreDifferent, KeepsTexts}
use Rattle.spec_syntax.specs.declared.operators.OpDef.{OpDef}
use Rattle.spec_numbers.specs.Texts.{Text}
use Rattle.spec_syntax.specs.Operators.{Ops, Position, Prefix, Infix, Postfix, Fits, changed, entry, put, put_at, position_of, in_range, kind_named, is_bracket, is_at_odds, clashes, set, set_checked, Comma, Clash}
use Rattle.cq_ops.specs.Tables.{Tables, AllFit, AllBelow, AreNamed, entry_of, named, change, put_number, put_number_at, is_number_at_odds}
use Rattle.cq_term.specs.Texts.{text_of}
use Rattle.spec_syntax.specs.Standard.{put_names, empty as no_operators}
use Rattle.cq_ops.proofs.Lookups.{same_test}

-- what stands where a test is first passed
pub record StandsAt {A : Type 0} (test : A → Bool) (xs : List A) (i : ℕ) : Type 0 where
  pub item : A
  pub there : slice_get xs i ≡ Some item
  pub passes : test item ≡ true

pub stands_at : {A : Type 0} (test : A → Bool) (xs : List A) (i : ℕ) → position test xs ≡ Some i → StandsAt test xs i
stands_at test [] i e = cc
stands_at test (x ∷ xs) i e = by (nat_lt n (length (x ∷ xs))) refl e
  where
    n : ℕ
    n = position_or_len test (x ∷ xs)

    by : (b : Bool) → nat_lt n (length (x ∷ xs)) ≡ b → cond b (Some n) None ≡ Some i → StandsAt test (x ∷ xs) i
    by true lt s =
        let below : n < length (x ∷ xs) = grind (arith, nat_tests) in
        let same : n ≡ i = cc in
        record {
          item = get_or (x ∷ xs) n x;
          there = subst (λ k. slice_get (x ∷ xs) k ≡ Some (get_or (x ∷ xs) n x)) same (slice_get-get_or (x ∷ xs) n x below);
          passes = passes_at_first test (x ∷ xs) x below;
        }
    by false lt s = cc

-- what stands at the place of a text is that text
text_at : (texts : List Text) (text : Text) (i : ℕ) → position (bytes_eq text) texts ≡ Some i → slice_get texts i ≡ Some text
text_at texts text i e =
    let s = stands_at (bytes_eq text) texts i e in
    s.there ∙ ap (λ t. Some t) (sym ((bytes_decides text s.item).0 s.passes))

-- a text that stands in the list is found
is_found : (texts : List Text) (text : Text) (i : ℕ) → slice_get texts i ≡ Some text → position (bytes_eq text) texts ≡ None → ⊥
is_found texts text i there none = by (nat_lt (position_or_len (bytes_eq text) texts) (length texts)) refl
  where
    by : (b : Bool) → nat_lt (position_or_len (bytes_eq text) texts) (length texts) ≡ b → ⊥
    by true e = absurd (cc (none, ap (λ b. cond b (Some (position_or_len (bytes_eq text) texts)) None) e))
    by false e =
        let within : i < length texts = slice_get_within texts i text there in
        let before : i < position_or_len (bytes_eq text) texts = grind (arith, nat_tests) in
        let same : bytes_eq text (get_or texts i []) ≡ true = (bytes_decides text (get_or texts i [])).1 (sym (get_or_from_slice_get texts i text [] there)) in
        true≢false (sym same ∙ fails_before_first (bytes_eq text) texts i [] before)

-- the place of a text is its number
pub place : (texts : List Text) (text : Text) (i : ℕ) → AreDifferent texts → slice_get texts i ≡ Some text → position (bytes_eq text) texts ≡ Some i
place texts text i different there = by (position (bytes_eq text) texts) refl
  where
    by : (p : Option ℕ) → position (bytes_eq text) texts ≡ p → p ≡ Some i
    by None e = absurd (is_found texts text i there e)
    by (Some j) e = ap (λ n. Some n) (different j i text (text_at texts text j e) there)

-- a name's operator by its text is that by its number
pub entry_of-text : (texts : List Text) (operators : FinMap nat_cmp OpDef) (text : Text) (name : ℕ) → AreDifferent texts → slice_get texts name ≡ Some text → get operators name ≡ entry_of texts operators text
entry_of-text texts operators text name different there = sym (ap (option_and_then (get operators)) (place texts text name different there))

-- an operator set or taken away for a number changes the entry of its text
entry_of-changed : (texts : List Text) (old new : FinMap nat_cmp OpDef) (name : ℕ) (text : Text) (op : Option OpDef) → AreDifferent texts → slice_get texts name ≡ Some text
    → ((q : ℕ) → get new q ≡ cond (nat_eq q name) op (get old q)) → entry_of texts new ≡ changed (entry_of texts old) text op
entry_of-changed texts old new name text op different there updates = λ i other. at other i
  where
    at : (other : Text) → entry_of texts new other ≡ changed (entry_of texts old) text op other
    at other = by (bytes_eq other text) refl (position (bytes_eq other) texts) refl
      where
        by : (same : Bool) → bytes_eq other text ≡ same → (p : Option ℕ) → position (bytes_eq other) texts ≡ p → option_and_then (get new) p ≡ cond same op (option_and_then (get old) p)
        by true e None p = absurd (is_found texts other name (there ∙ ap (λ t. Some t) (sym ((bytes_decides other text).0 e))) p)
        by true e (Some j) p =
            let is : other ≡ text = (bytes_decides other text).0 e in
            let at_name : j ≡ name = different j name text (subst (λ t. slice_get texts j ≡ Some t) is (text_at texts other j p)) there in
            let test : nat_eq j name ≡ true = grind (arith, nat_tests) in
            updates j ∙ ap (λ b. cond b op (get old j)) test
        by false e None p = refl
        by false e (Some j) p =
            let apart : j ≢ name = λ at_name. true≢false (sym ((bytes_decides other text).1 (cc (text_at texts other j p, there, at_name, ap (slice_get texts) at_name))) ∙ e) in
            let test : nat_eq j name ≡ false = grind (arith, nat_tests) in
            updates j ∙ ap (λ b. cond b op (get old j)) test

get-change : (operators : FinMap nat_cmp OpDef) (name : ℕ) (op : Option OpDef) (q : ℕ) → get (change operators name op) q ≡ cond (nat_eq q name) op (get operators q)
get-change operators name None q = get-remove nat_cmp_total operators name q ∙ ap (λ b. cond b None (get operators q)) (same_test q name)
get-change operators name (Some op) q = get-insert nat_cmp_total operators name op q ∙ ap (λ b. cond b (Some op) (get operators q)) (same_test q name)

entry_of-change : (texts : List Text) (operators : FinMap nat_cmp OpDef) (name : ℕ) (text : Text) (op : Option OpDef) → AreDifferent texts → slice_get texts name ≡ Some text
    → entry_of texts (change operators name op) ≡ changed (entry_of texts operators) text op
entry_of-change texts operators name text op different there = entry_of-changed texts operators (change operators name op) name text op different there (get-change operators name op)

module _ (texts : List Text) (tables : Tables) (name : ℕ) (text : Text) (different : AreDifferent texts) (there : slice_get texts name ≡ Some text) where
  -- an operator set for the number of a name is set for its text
  pub named-put_number : (position : Position) (op : Option OpDef) → named texts (put_number_at position tables name op) ≡ put_at position (named texts tables) text op
  named-put_number Prefix op = λ i. record (named texts tables) { prefix = entry_of-change texts tables.prefix name text op different there i }
  named-put_number Infix op = λ i. record (named texts tables) { infixed = entry_of-change texts tables.infixed name text op different there i }
  named-put_number Postfix op = λ i. record (named texts tables) { postfix = entry_of-change texts tables.postfix name text op different there i }

-- what holds of each operator holds after a change, where it holds of the new one
each-change : (P : ℕ → OpDef → Type 0) (operators : FinMap nat_cmp OpDef) (name : ℕ) (new : Option OpDef) → ((q : ℕ) (op : OpDef) → get operators q ≡ Some op → P q op)
    → ((op : OpDef) → new ≡ Some op → P name op) → (q : ℕ) (op : OpDef) → get (change operators name new) q ≡ Some op → P q op
each-change P operators name new each fresh q op e = by (nat_eq q name) refl
  where
    by : (b : Bool) → nat_eq q name ≡ b → P q op
    by true is =
        let same : q ≡ name = grind (arith, nat_tests) in
        subst (λ n. P n op) (sym same) (fresh op (sym (ap (λ b. cond b new (get operators q)) is) ∙ sym (get-change operators name new q) ∙ e))
    by false is = each q op (sym (ap (λ b. cond b new (get operators q)) is) ∙ sym (get-change operators name new q) ∙ e)

-- an operator in range fits its position
pub entry_fits : (priority : ℕ) (kind : OpKind) → priority ≤ 1200 → (op : OpDef) → entry priority kind ≡ Some op → Fits (position_of kind) op
entry_fits priority kind most op e = by (nat_eq priority 0) refl e
  where
    by : (zero : Bool) → nat_eq priority 0 ≡ zero → cond zero None (Some (record { priority = priority; kind = kind })) ≡ Some op → Fits (position_of kind) op
    by true is e = cc
    by false is e =
        let made : OpDef = record { priority = priority; kind = kind } in
        let same : made ≡ op = cc in
        subst (Fits (position_of kind)) same (record { at_least = grind (arith, nat_tests); at_most = most; placed = refl })

fit-change : (position : Position) (operators : FinMap nat_cmp OpDef) (name : ℕ) (new : Option OpDef) → AllFit position operators → ((op : OpDef) → new ≡ Some op → Fits position op) → AllFit position (change operators name new)
fit-change position operators name new fit fresh = record { each = each-change (λ q op. Fits position op) operators name new fit.each fresh }

below-change : (count : ℕ) (operators : FinMap nat_cmp OpDef) (name : ℕ) (new : Option OpDef) → name < count → AllBelow count operators → AllBelow count (change operators name new)
below-change count operators name new lt below = record { each = each-change (λ q op. q < count) operators name new below.each (λ op e. lt) }

pub are_named-put_number : (position : Position) (texts : List Text) (tables : Tables) (name : ℕ) (new : Option OpDef) → name < length texts → AreNamed texts tables → AreNamed texts (put_number_at position tables name new)
are_named-put_number Prefix texts tables name new lt are = record { prefix = below-change (length texts) tables.prefix name new lt are.prefix; infixed = are.infixed; postfix = are.postfix }
are_named-put_number Infix texts tables name new lt are = record { prefix = are.prefix; infixed = below-change (length texts) tables.infixed name new lt are.infixed; postfix = are.postfix }
are_named-put_number Postfix texts tables name new lt are = record { prefix = are.prefix; infixed = are.infixed; postfix = below-change (length texts) tables.postfix name new lt are.postfix }

pub text_there : (texts : List Text) (name : ℕ) → name < length texts → slice_get texts name ≡ Some (text_of texts name)
text_there texts name lt = slice_get-get_or texts name [] lt

-- more names: the operators of the old texts stay, and there are no others
module _ (old new : List Text) (different_old : AreDifferent old) (different_new : AreDifferent new) (kept : KeepsTexts old new) where
  entry_of-kept : (operators : FinMap nat_cmp OpDef) → AllBelow (length old) operators → entry_of new operators ≡ entry_of old operators
  entry_of-kept operators below = λ i text. at text i
    where
      at : (text : Text) → entry_of new operators text ≡ entry_of old operators text
      at text = by (position (bytes_eq text) old) refl (position (bytes_eq text) new) refl
        where
          by : (p : Option ℕ) → position (bytes_eq text) old ≡ p → (q : Option ℕ) → position (bytes_eq text) new ≡ q → option_and_then (get operators) q ≡ option_and_then (get operators) p
          by (Some i) p q e = ap (option_and_then (get operators)) (sym e ∙ place new text i different_new (kept i text (text_at old text i p)))
          by None p None e = refl
          by None p (Some j) e = missing (get operators j) refl
            where
              missing : (o : Option OpDef) → get operators j ≡ o → get operators j ≡ None
              missing None is = is
              missing (Some op) is =
                  let there = text_there old j (below.each j op is) in
                  let same : text_of old j ≡ text = cc (kept j (text_of old j) there, text_at new text j e) in
                  absurd (is_found old text j (there ∙ ap (λ t. Some t) same) p)

  pub named-kept : (tables : Tables) → AreNamed old tables → named new tables ≡ named old tables
  named-kept tables are = λ i. record { prefix = entry_of-kept tables.prefix are.prefix i; infixed = entry_of-kept tables.infixed are.infixed i; postfix = entry_of-kept tables.postfix are.postfix i }

below-kept : (old new : List Text) → KeepsTexts old new → (operators : FinMap nat_cmp OpDef) → AllBelow (length old) operators → AllBelow (length new) operators
below-kept old new kept operators below = record { each = λ name op e. slice_get_within new name (text_of old name) (kept name (text_of old name) (text_there old name (below.each name op e))) }

pub are_named-kept : (old new : List Text) → KeepsTexts old new → (tables : Tables) → AreNamed old tables → AreNamed new tables
are_named-kept old new kept tables are = record { prefix = below-kept old new kept tables.prefix are.prefix; infixed = below-kept old new kept tables.infixed are.infixed; postfix = below-kept old new kept tables.postfix are.postfix }

-- after an operator is set, or not for want of memory, all fit
pub fit-set : (position : Position) (old after : FinMap nat_cmp OpDef) (name : ℕ) (new : Option OpDef) (r : Result (Unit {0}) AllocError) → OnOk r (after ≡ change old name new) → OnErr r (after ≡ old)
    → ((op : OpDef) → new ≡ Some op → Fits position op) → AllFit position old → AllFit position after
fit-set position old after name new (Ok u) ok err fresh fit = subst (AllFit position) (sym ok) (fit-change position old name new fit fresh)
fit-set position old after name new (Err e) ok err fresh fit = subst (AllFit position) (sym err) fit

pub made_fits : (priority : ℕ) (kind : OpKind) (position : Position) → priority ≤ 1200 → position_of kind ≡ position → (made : Option OpDef) → made ≡ entry priority kind → (op : OpDef) → made ≡ Some op → Fits position op
made_fits priority kind position most placed made is op e = subst (λ p. Fits p op) placed (entry_fits priority kind most op (sym is ∙ e))

module _ (texts : List Text) (tables : Tables) (priority : ℤ) (kind_name : Text) (name p : ℕ) (kind : OpKind) (different : AreDifferent texts) (lt : name < length texts)
    (in_priority : Some p ≡ in_range priority) (in_kind : Some kind ≡ kind_named kind_name) (no_comma : bytes_eq (text_of texts name) (codes ",") ≡ false) where
  abbrev pub text : Text
  text = text_of texts name

  at_odds : (position : Position) → is_number_at_odds position tables name ≡ is_at_odds position (named texts tables) text
  at_odds Prefix = refl
  at_odds Infix = ap is_some (entry_of-text texts tables.postfix text name different (text_there texts name lt))
  at_odds Postfix = ap is_some (entry_of-text texts tables.infixed text name different (text_there texts name lt))

  abbrev pub clash : Bool
  clash = is_bracket text || (not (p == 0) && is_number_at_odds (position_of kind) tables name)

  same_clash : clash ≡ clashes (named texts tables) p kind text
  same_clash = ap (λ b. is_bracket text || (not (p == 0) && b)) (at_odds (position_of kind))

  checked : set (named texts tables) priority kind_name text ≡ (if clash then Err Clash else Ok (put (named texts tables) p kind text))
  checked =
      ap (λ o. set_checked (named texts tables) o (kind_named kind_name) text) (sym in_priority)
      ∙ ap (λ o. set_checked (named texts tables) (Some p) o text) (sym in_kind)
      ∙ ap (λ b. if b then Err Comma else (if clashes (named texts tables) p kind text then Err Clash else Ok (put (named texts tables) p kind text))) no_comma
      ∙ ap (λ b. if b then Err Clash else Ok (put (named texts tables) p kind text)) (sym same_clash)

  pub set_clash : clash ≡ true → set (named texts tables) priority kind_name text ≡ Err Clash
  set_clash e = checked ∙ ap (λ b. if b then Err Clash else Ok (put (named texts tables) p kind text)) e

  pub set_ok : clash ≡ false → (after : Tables) → after ≡ put_number tables p kind name → set (named texts tables) priority kind_name text ≡ Ok (named texts after)
  set_ok e after is =
      checked ∙ ap (λ b. if b then Err Clash else Ok (put (named texts tables) p kind text)) e
      ∙ ap (λ t. Ok t) (sym (named-put_number texts tables name text different (text_there texts name lt) (position_of kind) (entry p kind)) ∙ ap (named texts) (sym is))

-- one more name of a list is set
module _ (before texts : List Text) (old new : Tables) (priority : ℕ) (kind : OpKind) (name : ℕ) (text : Text) (different_before : AreDifferent before) (different : AreDifferent texts)
    (kept : KeepsTexts before texts) (known : AreNamed before old) (there : slice_get texts name ≡ Some text) (is : new ≡ put_number old priority kind name) where
  pub named-next : named texts new ≡ put (named before old) priority kind text
  named-next =
      ap (named texts) is ∙ named-put_number texts old name text different there (position_of kind) (entry priority kind)
      ∙ ap (λ ops. put ops priority kind text) (named-kept before texts different_before different kept old known)

  pub known-next : AreNamed texts new
  known-next =
      subst (AreNamed texts) (sym is)
      (are_named-put_number (position_of kind) texts old name (entry priority kind) (slice_get_within texts name text there) (are_named-kept before texts kept old known))

-- one step of a loop over names: after it the rest is still to be set
pub step : {A : Type 0} (text_of_item : A → Text) (ops next : Ops) (priority : ℕ) (kind : OpKind) (items : List A) (i : ℕ) (d : A) → i < length items
    → next ≡ put ops priority kind (text_of_item (get_or items i d)) → put_names next priority kind (map text_of_item (drop (i + 1) items)) ≡ put_names ops priority kind (map text_of_item (drop i items))
step text_of_item ops next priority kind items i d lt e =
    ap (λ o. put_names o priority kind (map text_of_item (drop (i + 1) items))) e
    ∙ ap (λ xs. put_names ops priority kind (map text_of_item xs)) rest
  where
    rest : get_or items i d ∷ drop (i + 1) items ≡ drop i items
    rest = sym (drop-cons items i d lt ∙ ap (λ k. get_or items i d ∷ drop k items) (sym (add-one i)))

none_is_some : {A : Type 0} {x : A} → None ≡ Some x → ⊥
none_is_some e = cc

-- a table with no operators
pub none : (place : Position) → AllFit place empty
none place = record { each = λ name op e. absurd (none_is_some (sym (get-empty {X = OpDef} nat_cmp name) ∙ e)) }

pub none_below : (count : ℕ) → AllBelow count empty
none_below count = record { each = λ name op e. absurd (none_is_some (sym (get-empty {X = OpDef} nat_cmp name) ∙ e)) }

entry_of-empty : (texts : List Text) (text : Text) → entry_of texts empty text ≡ None
entry_of-empty texts text = by (position (bytes_eq text) texts)
  where
    by : (p : Option ℕ) → option_and_then (get {R = nat_cmp} (empty {X = OpDef})) p ≡ None
    by None = refl
    by (Some i) = get-empty nat_cmp i

pub named-empty : (texts : List Text) → named texts (record { prefix = empty; infixed = empty; postfix = empty }) ≡ no_operators
named-empty texts = λ i. record { prefix = λ text. entry_of-empty texts text i; infixed = λ text. entry_of-empty texts text i; postfix = λ text. entry_of-empty texts text i }
