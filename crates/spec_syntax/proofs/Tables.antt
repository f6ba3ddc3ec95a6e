-- The operators at the start are a table as the law of reading again wants it, and so is what `op/3` makes of one.
use Rattle.std.proofs.Common.{◌≡◌, ℕ, ◌≤◌, ℤ, pos, negsuc, Bool, true, false, not, ◌&&◌, ◌||◌, List, [], ◌∷◌, codes, Option, Some, None, Result, Ok, Err, refl, sym, ◌∙◌, subst, arith, nat_le}
use Rattle.std.specs.Prelude.{if◌then◌else◌, bytes_eq, ◌==◌}
use Rattle.std.specs.Cmp.Lexicographic.{bytes_decides}
use Rattle.std.proofs.lemmas.Bool.Decides.{nat_tests}
use Rattle.spec_syntax.specs.declared.operators.OpDef.{OpDef}
use Rattle.spec_syntax.specs.declared.operators.OpKind.{OpKind}
use Rattle.spec_numbers.specs.Texts.{Text}
use Rattle.spec_syntax.specs.Operators.{Ops, Position, Prefix, Infix, Postfix, Fits, position_of, entry, changed, put_at, put, Refusal, kind_named, is_bracket, is_at_odds, clashes, in_range, set_checked, set}
use Rattle.spec_syntax.specs.Standard.{Row, rows, put_names, put_rows, empty, standard}
use Rattle.spec_syntax.specs.Writing.{IsTable}
use Rattle.spec_numbers.proofs.Tests.{true_le, both_are}
use Rattle.spec_numbers.proofs.Places.{none_is}

-- the operators of each position may stand there
record AreFitting (ops : Ops) : Type 0 where
  prefix : (f : Text) (op : OpDef) → ops.prefix f ≡ Some op → Fits Prefix op
  infixed : (f : Text) (op : OpDef) → ops.infixed f ≡ Some op → Fits Infix op
  postfix : (f : Text) (op : OpDef) → ops.postfix f ≡ Some op → Fits Postfix op

not_zero : (p : ℕ) → (p == 0) ≡ false → 1 ≤ p
not_zero p e = grind (arith, nat_tests)

-- ---- one change

same_operator : (a b : OpDef) → Some a ≡ Some b → a ≡ b
same_operator a b e = cc

entry_fits : (p : ℕ) (kind : OpKind) (position : Position) → position_of kind ≡ position → p ≤ 1200 → (op : OpDef) → entry p kind ≡ Some op → Fits position op
entry_fits p kind position e low op = by _ refl
  where
    by : (b : Bool) → (p == 0) ≡ b → (if b then None else Some (record { priority = p; kind = kind })) ≡ Some op → Fits position op
    by true z h = cc
    by false z h = subst (λ o. Fits position o) (same_operator _ op h) (record { at_least = not_zero p z; at_most = low; placed = e })

changed_fits : (position : Position) (table : Text → Option OpDef) → ((f : Text) (op : OpDef) → table f ≡ Some op → Fits position op) →
    (name : Text) (o : Option OpDef) → ((op : OpDef) → o ≡ Some op → Fits position op) → (f : Text) (op : OpDef) → changed table name o f ≡ Some op → Fits position op
changed_fits position table old name o new f op = by (bytes_eq f name)
  where
    by : (b : Bool) → (if b then o else table f) ≡ Some op → Fits position op
    by true e = new op e
    by false e = old f op e

put_at_fits : (ops : Ops) (p : ℕ) (kind : OpKind) (name : Text) → p ≤ 1200 → AreFitting ops → (position : Position) → position_of kind ≡ position → AreFitting (put_at position ops name (entry p kind))
put_at_fits ops p kind name low fit Prefix e =
    record { prefix = changed_fits Prefix ops.prefix fit.prefix name (entry p kind) (entry_fits p kind Prefix e low); infixed = fit.infixed; postfix = fit.postfix }
put_at_fits ops p kind name low fit Infix e =
    record { prefix = fit.prefix; infixed = changed_fits Infix ops.infixed fit.infixed name (entry p kind) (entry_fits p kind Infix e low); postfix = fit.postfix }
put_at_fits ops p kind name low fit Postfix e =
    record { prefix = fit.prefix; infixed = fit.infixed; postfix = changed_fits Postfix ops.postfix fit.postfix name (entry p kind) (entry_fits p kind Postfix e low) }

put_fits : (ops : Ops) (p : ℕ) (kind : OpKind) (name : Text) → p ≤ 1200 → AreFitting ops → AreFitting (put ops p kind name)
put_fits ops p kind name low fit = put_at_fits ops p kind name low fit (position_of kind) refl

-- ---- the operators at the start

names_fit : (ops : Ops) (p : ℕ) (kind : OpKind) (names : List Text) → p ≤ 1200 → AreFitting ops → AreFitting (put_names ops p kind names)
names_fit ops p kind [] low fit = fit
names_fit ops p kind (name ∷ names) low fit = names_fit (put ops p kind name) p kind names low (put_fits ops p kind name low fit)

abbrev are_low : List Row → Bool
are_low [] = true
are_low (r ∷ rs) = nat_le r.priority 1200 && are_low rs

rows_fit : (ops : Ops) (rs : List Row) → are_low rs ≡ true → AreFitting ops → AreFitting (put_rows ops rs)
rows_fit ops [] low fit = fit
rows_fit ops (r ∷ rs) low fit =
    let h = both_are (nat_le r.priority 1200) _ low in
    rows_fit (put_names ops r.priority r.kind r.names) rs h.1 (names_fit ops r.priority r.kind r.names (true_le r.priority 1200 h.0) fit)

none_fit : AreFitting empty
none_fit = record { prefix = λ f op e. cc; infixed = λ f op e. cc; postfix = λ f op e. cc }

pub standard_table : IsTable standard
standard_table =
    let fit = rows_fit empty rows refl none_fit in
    record { prefix = fit.prefix; infixed = fit.infixed; postfix = fit.postfix; not_both = λ f op e. refl; comma = refl; no_prefix_comma = refl }

-- ---- what `op/3` makes of a table

second_false : (a b : Bool) → (a || b) ≡ false → b ≡ false
second_false true b e = cc
second_false false b e = e

not_and : (b x : Bool) → b ≡ false → (not b && x) ≡ false → x ≡ false
not_and true x e h = cc
not_and false x e h = h

entry_some : (p : ℕ) (kind : OpKind) (op : OpDef) → entry p kind ≡ Some op → (p == 0) ≡ false
entry_some p kind op = by _
  where
    by : (b : Bool) → (if b then None else Some (record { priority = p; kind = kind })) ≡ Some op → b ≡ false
    by true e = cc
    by false e = refl

entry_none : (p : ℕ) (kind : OpKind) → ((p == 0) ≡ false → ⊥) → entry p kind ≡ None
entry_none p kind never = by _ refl
  where
    operator : Option OpDef
    operator = Some (record { priority = p; kind = kind })

    by : (b : Bool) → (p == 0) ≡ b → (if b then None else operator) ≡ None
    by true e = refl
    by false e = absurd (never e)

none_some : (o : Option OpDef) (op : OpDef) → o ≡ None → o ≡ Some op → ⊥
none_some o op e h = let g : None ≡ Some op = sym e ∙ h in cc

module _ (ops : Ops) (p : ℕ) (kind : OpKind) (name : Text) (are : IsTable ops) where
  infix_alone : (not (p == 0) && is_at_odds Infix ops name) ≡ false → (f : Text) (op : OpDef) → changed ops.infixed name (entry p kind) f ≡ Some op → ops.postfix f ≡ None
  infix_alone odd f op = by _ refl
    where
      by : (b : Bool) → bytes_eq f name ≡ b → (if b then entry p kind else ops.infixed f) ≡ Some op → ops.postfix f ≡ None
      by true s e = subst (λ g. ops.postfix g ≡ None) (sym ((bytes_decides f name).0 s)) (none_is _ (not_and (p == 0) _ (entry_some p kind op e) odd))
      by false s e = are.not_both f op e

  postfix_alone : (not (p == 0) && is_at_odds Postfix ops name) ≡ false → (f : Text) (op : OpDef) → ops.infixed f ≡ Some op → changed ops.postfix name (entry p kind) f ≡ None
  postfix_alone odd f op e = by _ refl
    where
      by : (b : Bool) → bytes_eq f name ≡ b → (if b then entry p kind else ops.postfix f) ≡ None
      by true s = entry_none p kind (λ h. none_some (ops.infixed name) op (none_is _ (not_and (p == 0) _ h odd)) (subst (λ g. ops.infixed g ≡ Some op) ((bytes_decides f name).0 s) e))
      by false s = are.not_both f op e

  never_both : (position : Position) → (not (p == 0) && is_at_odds position ops name) ≡ false → (f : Text) (op : OpDef) →
      (put_at position ops name (entry p kind)).infixed f ≡ Some op → (put_at position ops name (entry p kind)).postfix f ≡ None
  never_both Prefix odd f op e = are.not_both f op e
  never_both Infix odd f op e = infix_alone odd f op e
  never_both Postfix odd f op e = postfix_alone odd f op e

  comma_aside : (table : Text → Option OpDef) → bytes_eq name (codes ",") ≡ false → changed table name (entry p kind) (codes ",") ≡ table (codes ",")
  comma_aside table other = by _ refl
    where
      by : (b : Bool) → bytes_eq (codes ",") name ≡ b → (if b then entry p kind else table (codes ",")) ≡ table (codes ",")
      by true s = let h : true ≡ false = sym ((bytes_decides name (codes ",")).1 (sym ((bytes_decides (codes ",") name).0 s))) ∙ other in cc
      by false s = refl

  comma_kept : (position : Position) → bytes_eq name (codes ",") ≡ false → (put_at position ops name (entry p kind)).infixed (codes ",") ≡ ops.infixed (codes ",")
  comma_kept Prefix other = refl
  comma_kept Infix other = comma_aside ops.infixed other
  comma_kept Postfix other = refl

  prefix_kept : (position : Position) → bytes_eq name (codes ",") ≡ false → (put_at position ops name (entry p kind)).prefix (codes ",") ≡ ops.prefix (codes ",")
  prefix_kept Prefix other = comma_aside ops.prefix other
  prefix_kept Infix other = refl
  prefix_kept Postfix other = refl

  put_table : p ≤ 1200 → bytes_eq name (codes ",") ≡ false → clashes ops p kind name ≡ false → IsTable (put ops p kind name)
  put_table low other apart =
      let fit = put_fits ops p kind name low (record { prefix = are.prefix; infixed = are.infixed; postfix = are.postfix }) in
      record {
        prefix = fit.prefix;
        infixed = fit.infixed;
        postfix = fit.postfix;
        not_both = never_both (position_of kind) (second_false (is_bracket name) _ apart);
        comma = comma_kept (position_of kind) other ∙ are.comma;
        no_prefix_comma = prefix_kept (position_of kind) other ∙ are.no_prefix_comma;
      }

same_table : (a b : Ops) (x : Result Ops Refusal) → x ≡ Ok a → x ≡ Ok b → a ≡ b
same_table a b x e h = let g : Ok a ≡ Ok b = sym e ∙ h in cc

checked_table : (ops after : Ops) (p : Option ℕ) (kind : Option OpKind) (name : Text) → IsTable ops → ((q : ℕ) → p ≡ Some q → q ≤ 1200) → set_checked ops p kind name ≡ Ok after → IsTable after
checked_table ops after None kind name are low e = cc
checked_table ops after (Some p) None name are low e = cc
checked_table ops after (Some p) (Some kind) name are low e = by _ _ refl refl e
  where
    by : (b c : Bool) → bytes_eq name (codes ",") ≡ b → clashes ops p kind name ≡ c →
        (if b then Err Rattle.spec_syntax.specs.Operators.Comma else if c then Err Rattle.spec_syntax.specs.Operators.Clash else Ok (put ops p kind name)) ≡ Ok after → IsTable after
    by true c i j e = cc
    by false true i j e = cc
    by false false i j e = subst IsTable (same_table _ after _ refl e) (put_table ops p kind name are (low p refl) i j)

in_range_low : (p : ℤ) (q : ℕ) → in_range p ≡ Some q → q ≤ 1200
in_range_low (negsuc n) q e = cc
in_range_low (pos n) q e = by _ refl e
  where
    by : (b : Bool) → nat_le n 1200 ≡ b → (if b then Some n else None) ≡ Some q → q ≤ 1200
    by true low e = let h : n ≡ q = cc in subst (λ x. x ≤ 1200) h (true_le n 1200 low)
    by false low e = cc

pub set_table : (ops after : Ops) (p : ℤ) (kind name : Text) → IsTable ops → set ops p kind name ≡ Ok after → IsTable after
set_table ops after p kind name are e = checked_table ops after (in_range p) (kind_named kind) name are (in_range_low p) e
