-- Built-in predicates in lists by the numbers of their names.
use Rattle.std.proofs.Common.{◌≡◌, ℕ, zero, suc, ◌<◌, ◌≤◌, arith, List, [], ◌∷◌, ◌++◌, length, Bool, true, false, cond, ◌==◌, Bor, Option, Some, None, find, refl, sym, ap, subst, ◌∙◌, inl, inr, ◌⊎◌, set}
use Rattle.std.specs.Prelude.{All, is_some, slice_get, slice_index_or}
use Rattle.std.specs.Option.{option_map}
use Rattle.std.specs.Cmp.Lexicographic.{bytes_decides}
use Rattle.std.proofs.lemmas.List.{get_or_past, get_or-set_same, get_or-set_other}
use Rattle.std.proofs.lemmas.List.Elements.{recursion_from_All}
use Rattle.std.proofs.lemmas.Option.{slice_get-get_or, none-some, same_Some}
use Rattle.spec_numbers.specs.Texts.{Text}
use Rattle.spec_numbers.proofs.Places.{get_push}
use Rattle.spec_numbers.proofs.Tests.{nat_eq-self, nat_eq-same, nat_eq-other}
use Rattle.cq_term.specs.Texts.{AreDifferent, KeepsTexts, text_of}
use Rattle.spec_builtins.specs.Built.{indicator}
use Rattle.spec_search.specs.Builtins as definition
use Rattle.spec_search.specs.Builtins.{builtin_of, is_built_in}
use Rattle.cq_predicates.specs.Entries.{entry}
use Rattle.cq_predicates.specs.TableNames.{as_builtin}
use Rattle.cq_predicates.specs.Numbered.{HasEntry, IsRight, AreRight, AreWith, AreByArity, AreBuiltins}
use Rattle.cq_predicates.specs.TableRows.{AreRows, is_named}
use Rattle.cq_predicates.specs.declared.table.builtins.Builtin.{Builtin}
use Rattle.cq_predicates.specs.declared.table.listed.Entries.{Entries}
use Rattle.cq_predicates.specs.declared.table.numbered.Builtins.{Builtins}
use Rattle.cq_predicates.proofs.BuiltinsLemmas.{found_passes, never, none_other}

-- ---- places of a list

-- an element that is put within a list
pub put_at : (old mid : List (Option Builtin)) (number : ℕ) (b : Builtin) → number < length mid → ((k : ℕ) → slice_index_or mid k None ≡ slice_index_or old k None)
    → (k : ℕ) → slice_index_or (set mid number (Some b)) k None ≡ cond (k == number) (Some b) (slice_index_or old k None)
put_at old mid number b within same k = go (k == number) refl
  where
    go : (t : Bool) → (k == number) ≡ t → slice_index_or (set mid number (Some b)) k None ≡ cond t (Some b) (slice_index_or old k None)
    go true e =
        subst (λ i. slice_index_or (set mid number (Some b)) i None ≡ Some b) (sym (nat_eq-same k number e))
        (get_or-set_same mid number (Some b) None within)
    go false e = get_or-set_other mid number k (Some b) None (nat_eq-other k number e) ∙ same k

-- nothing that is put at the end
pub pushed_none : (xs : List (Option Builtin)) (k : ℕ) → slice_index_or (xs ++ None ∷ []) k None ≡ slice_index_or xs k None
pushed_none [] zero = refl
pushed_none [] (suc k) = refl
pushed_none (x ∷ xs) zero = refl
pushed_none (x ∷ xs) (suc k) = pushed_none xs k

-- ---- more names

right_kept : (old new : List Text) → KeepsTexts old new → (n : ℕ) (entries : Entries) → AreRight old n entries → AreRight new n entries
right_kept old new keeps n entries right = λ number b e. let r = right number b e in record { name = r.name; named = keeps number r.name r.named; is = r.is }

entry_kept : (old new : List Text) → KeepsTexts old new → (entries : Entries) (name : Text) → HasEntry old entries name → HasEntry new entries name
entry_kept old new keeps entries name h = record { number = h.number; named = keeps h.number name h.named; there = h.there }

with_kept : (old new : List Text) → KeepsTexts old new → (n : ℕ) (entries : Entries) → AreWith old n entries → AreWith new n entries
with_kept old new keeps n entries a = record {
  right = right_kept old new keeps n entries a.right;
  all = λ name h. entry_kept old new keeps entries name (a.all name h);
}

pub builtins_kept : (old new : List Text) → KeepsTexts old new → (table : Builtins) → AreBuiltins old table → AreBuiltins new table
builtins_kept old new keeps table a = record { size = a.size; lists = λ n entries e. with_kept old new keeps n entries (a.lists n entries e) }

-- ---- one more entry

module _ (old new : List Text) (n : ℕ) (before after : Entries) (number : ℕ) (b : Builtin) (keeps : KeepsTexts old new)
    (put : (k : ℕ) → entry after k ≡ cond (k == number) (Some b) (entry before k)) where
  pub right_put : IsRight new n number b → AreRight old n before → AreRight new n after
  right_put is all k c e = go (k == number) refl (sym (put k) ∙ e)
    where
      go : (t : Bool) → (k == number) ≡ t → cond t (Some b) (entry before k) ≡ Some c → IsRight new n k c
      go true f h =
          let same : b ≡ c = same_Some b c h in
          record {
            name = is.name;
            named = ap (slice_get new) (nat_eq-same k number f) ∙ is.named;
            is = is.is ∙ ap (λ x. Some (as_builtin x)) same;
          }
      go false f h = right_kept old new keeps n before all k c h

  more : (t : Bool) (o : Option Builtin) → is_some o ≡ true → is_some (cond t (Some b) o) ≡ true
  more true o h = refl
  more false o h = h

  pub entry_put : (name : Text) → HasEntry old before name → HasEntry new after name
  entry_put name h =
      record { number = h.number; named = keeps h.number name h.named; there = ap is_some (put h.number) ∙ more (h.number == number) (entry before h.number) h.there }

  pub has_put : (name : Text) → slice_get new number ≡ Some name → HasEntry new after name
  has_put name named = record {
    number = number;
    named = named;
    there = ap is_some (put number ∙ ap (λ t. cond t (Some b) (entry before number)) (nat_eq-self number));
  }

-- ---- all of some number of arguments

pub none_right : (texts : List Text) (n : ℕ) (entries : Entries) → entries.builtins.items ≡ [] → AreRight texts n entries
none_right texts n entries none = λ k b e.
    let empty : slice_index_or entries.builtins.items k None ≡ None = ap (λ (xs : List (Option Builtin)). slice_index_or xs k None) none ∙ get_or_past [] k None (omega arith) in
    absurd (none-some b (sym empty ∙ e))

pub has_all : (texts : List Text) (entries : Entries) (n : ℕ) (rows : List (Bor Text × Builtin)) → AreRows n rows → All (λ (row : Bor Text × Builtin). HasEntry texts entries row.0.now) rows
    → (name : Text) → is_built_in (indicator name n) ≡ true → HasEntry texts entries name
has_all texts entries n rows are all name h = by (find (is_named name) rows) refl
  where
    by : (o : Option (Bor Text × Builtin)) → find (is_named name) rows ≡ o → HasEntry texts entries name
    by None e = absurd (never (find (is_named name) rows) e (are.all name h))
    by (Some x) e =
        let f = found_passes (λ (row : Bor Text × Builtin). HasEntry texts entries row.0.now) (is_named name) rows
        (recursion_from_All (λ (row : Bor Text × Builtin). HasEntry texts entries row.0.now) rows all) x e in
        subst (HasEntry texts entries) ((bytes_decides x.0.now name).0 f.1) f.0

pub none_by_arity : (texts : List Text) (by_arity : List Entries) → by_arity ≡ [] → AreByArity texts by_arity
none_by_arity texts by_arity none n found e = absurd (none-some found (subst (λ (xs : List Entries). slice_get xs n ≡ Some found) none e))

-- one number of arguments after the other
pub by_arity_more : (old new : List Text) (by_arity : List Entries) (entries : Entries) → KeepsTexts old new → AreByArity old by_arity → AreWith new (length by_arity) entries
    → AreByArity new (by_arity ++ entries ∷ [])
by_arity_more old new by_arity entries keeps all last n found e = go (get_push by_arity entries n found e)
  where
    go : (slice_get by_arity n ≡ Some found) ⊎ ((n ≡ length by_arity) × (entries ≡ found)) → AreWith new n found
    go (inl h) = with_kept old new keeps n found (all n found h)
    go (inr h) = subst (AreWith new n) h.1 (subst (λ (k : ℕ). AreWith new k entries) (sym h.0) last)

-- ---- what is found

-- whichever is built in, of those that are right and all
module _ (texts : List Text) (different : AreDifferent texts) (n number : ℕ) (known : number < length texts) where
  named : slice_get texts number ≡ Some (text_of texts number)
  named = slice_get-get_or texts number [] known

  pub is_found : (entries : Entries) → AreWith texts n entries → option_map as_builtin (entry entries number) ≡ builtin_of (indicator (text_of texts number) n)
  is_found entries are = by (entry entries number) refl
    where
      none : (o : Option definition.Builtin) → builtin_of (indicator (text_of texts number) n) ≡ o → entry entries number ≡ None → None ≡ o
      none None e h = refl
      none (Some b) e h =
          let k = are.all (text_of texts number) (ap is_some e) in
          let there : is_some (entry entries number) ≡ true = ap (λ a. is_some (entry entries a)) (different number k.number (text_of texts number) named k.named) ∙ k.there in
          absurd (never (entry entries number) h there)

      by : (o : Option Builtin) → entry entries number ≡ o → option_map as_builtin o ≡ builtin_of (indicator (text_of texts number) n)
      by None e = none (builtin_of (indicator (text_of texts number) n)) refl e
      by (Some b) e =
          let r = are.right number b e in
          let same : text_of texts number ≡ r.name = same_Some (text_of texts number) r.name (sym named ∙ r.named) in
          sym (ap (λ t. builtin_of (indicator t n)) same ∙ r.is)

  -- with more arguments there is none
  pub none_found : (by_arity : List Entries) → 9 ≤ length by_arity → length by_arity ≤ n → None ≡ builtin_of (indicator (text_of texts number) n)
  none_found by_arity size more = by (builtin_of (indicator (text_of texts number) n)) refl
    where
      past : 9 ≤ n
      past = omega (arith, more, size)

      by : (o : Option definition.Builtin) → builtin_of (indicator (text_of texts number) n) ≡ o → None ≡ o
      by None f = refl
      by (Some b) f = absurd (none_other (text_of texts number) n past (ap is_some f))
