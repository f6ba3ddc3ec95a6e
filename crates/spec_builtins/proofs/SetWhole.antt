-- What op/3 does not refuse it does for each name.
use Rattle.std.proofs.Common.{◌≡◌, ℕ, List, [], ◌∷◌, Bool, true, false, cond, not, ◌||◌, ◌&&◌, ◌==◌, bytes_eq, codes, is_none, Option, Some, None, Ok, Err, refl, sym, ap, ◌∙◌}
use Rattle.std.specs.List.{list_any, list_all, AllByRecursion}
use Rattle.spec_numbers.specs.Texts.{Text}
use Rattle.spec_syntax.specs.declared.operators.OpDef.{OpDef}
use Rattle.spec_syntax.specs.declared.operators.OpKind.{OpKind}
use Rattle.spec_syntax.specs.Operators.{Ops, Comma, Clash, Position, Prefix, Infix, Postfix, position_of, entry, put_at, put, is_bracket, is_at_odds, clashes, set_checked}
use Rattle.spec_syntax.specs.Trees.{Tree}
use Rattle.spec_builtins.specs.Kinds.{is_variable, is_name, is_integer, name_text, is_list, is_partial}
use Rattle.spec_builtins.specs.Errors.{instantiation, type_error, domain_error, permission_error}
use Rattle.spec_builtins.specs.Clauses.{first_error, error_if, error_at_first}
use Rattle.spec_builtins.specs.Operators.{priority_of, kind_of, operator_names, is_comma, is_clash, named_set, operator_error, table_or, operators_after, put_all}

-- ---- no error

first_none : (o : Option Tree) (es : List (Option Tree)) → first_error (o ∷ es) ≡ None → (o ≡ None) × (first_error es ≡ None)
first_none None es e = (refl, e)
first_none (Some x) es e = cc

not_so : (b : Bool) (x : Tree) → error_if b x ≡ None → b ≡ false
not_so true x e = cc
not_so false x e = refl

none_so : (test : Tree → Bool) (x : Tree → Tree) (ts : List Tree) → error_at_first test x ts ≡ None
    → AllByRecursion (λ t. test t ≡ false) ts
none_so test x [] e = tt
none_so test x (t ∷ ts) e = go (test t) refl e (none_so test x ts)
  where
    go : (b : Bool) → test t ≡ b → cond b (Some (x t)) (error_at_first test x ts) ≡ None
        → (error_at_first test x ts ≡ None → AllByRecursion (λ u. test u ≡ false) ts) → AllByRecursion (λ u. test u ≡ false) (t ∷ ts)
    go true d e next = cc
    go false d e next = (d, next e)

there : {A : Type 0} (o : Option A) → is_none o ≡ false → (x : A) × (o ≡ Some x)
there None e = cc
there (Some x) e = (x, refl)

-- ---- one name

record Lawful (ops : Ops) (q : ℕ) (kind : OpKind) (name : Text) : Type 0 where
  no_comma : bytes_eq name (codes ",") ≡ false
  no_clash : clashes ops q kind name ≡ false

lawful : (ops : Ops) (q : ℕ) (kind : OpKind) (name : Text) → is_comma (set_checked ops (Some q) (Some kind) name) ≡ false
    → is_clash (set_checked ops (Some q) (Some kind) name) ≡ false → Lawful ops q kind name
lawful ops q kind name d e = go (bytes_eq name (codes ",")) (clashes ops q kind name) refl refl d e
  where
    go : (b c : Bool) → bytes_eq name (codes ",") ≡ b → clashes ops q kind name ≡ c
        → is_comma (cond b (Err Comma) (cond c (Err Clash) (Ok (put ops q kind name)))) ≡ false
        → is_clash (cond b (Err Comma) (cond c (Err Clash) (Ok (put ops q kind name)))) ≡ false → Lawful ops q kind name
    go true c h k d e = cc
    go false true h k d e = cc
    go false false h k d e = record { no_comma = h; no_clash = k }

-- a change in its own position puts no name at odds
at_odds_same : (at : Position) (ops : Ops) (other name : Text) (op : Option OpDef)
    → is_at_odds at (put_at at ops other op) name ≡ is_at_odds at ops name
at_odds_same Prefix ops other name op = refl
at_odds_same Infix ops other name op = refl
at_odds_same Postfix ops other name op = refl

-- ---- all names

module _ (ops : Ops) (p k : Tree) (q : ℕ) (kind : OpKind) (is_q : priority_of p ≡ Some q) (is_kind : kind_of k ≡ Some kind) where
  set_is : (now : Ops) (n : Tree) → named_set now p k n ≡ set_checked now (Some q) (Some kind) (name_text n)
  set_is now n = λ i. set_checked now (is_q i) (is_kind i) (name_text n)

  abbrev SameOdds : Ops → Type 0
  SameOdds now = (name : Text) → is_at_odds (position_of kind) now name ≡ is_at_odds (position_of kind) ops name

  sets : (now : Ops) (n : Tree) → SameOdds now → Lawful ops q kind (name_text n)
      → table_or now (named_set now p k n) ≡ put now q kind (name_text n)
  sets now n same l =
      let c : clashes now q kind (name_text n) ≡ false = ap (λ (b : Bool). is_bracket (name_text n) || (not (q == 0) && b)) (same (name_text n)) ∙ l.no_clash in
      ap (table_or now) (set_is now n ∙ (λ i. cond (l.no_comma i) (Err Comma) (cond (c i) (Err Clash) (Ok (put now q kind (name_text n))))))

  all_set : (now : Ops) (ns : List Tree) → SameOdds now → AllByRecursion (λ n. is_comma (named_set ops p k n) ≡ false) ns
      → AllByRecursion (λ n. is_clash (named_set ops p k n) ≡ false) ns
      → operators_after now p k ns ≡ put_all now q kind ns
  all_set now [] same d e = refl
  all_set now (n ∷ ns) same d e =
      let l : Lawful ops q kind (name_text n) = lawful ops q kind (name_text n) (ap is_comma (sym (set_is ops n)) ∙ d.0) (ap is_clash (sym (set_is ops n)) ∙ e.0) in
      ap (λ (t : Ops). operators_after t p k ns) (sets now n same l)
      ∙ all_set (put now q kind (name_text n)) ns (λ name. at_odds_same (position_of kind) now (name_text n) name (entry q kind) ∙ same name) d.1 e.1

-- of eight errors none is there; four of them tell what is wanted
record NoErrors (priority kind comma clash : Option Tree) : Type 0 where
  priority_fits : priority ≡ None
  kind_fits : kind ≡ None
  no_comma : comma ≡ None
  no_clash : clash ≡ None

no_errors : (a b c d e f g h : Option Tree) → first_error (a ∷ b ∷ c ∷ d ∷ e ∷ f ∷ g ∷ h ∷ []) ≡ None → NoErrors c e g h
no_errors a b c d e f g h z =
    let e1 = first_none a (b ∷ c ∷ d ∷ e ∷ f ∷ g ∷ h ∷ []) z in
    let e2 = first_none b (c ∷ d ∷ e ∷ f ∷ g ∷ h ∷ []) e1.1 in
    let e3 = first_none c (d ∷ e ∷ f ∷ g ∷ h ∷ []) e2.1 in
    let e4 = first_none d (e ∷ f ∷ g ∷ h ∷ []) e3.1 in
    let e5 = first_none e (f ∷ g ∷ h ∷ []) e4.1 in
    let e6 = first_none f (g ∷ h ∷ []) e5.1 in
    let e7 = first_none g (h ∷ []) e6.1 in
    let e8 = first_none h [] e7.1 in
    record { priority_fits = e3.0; kind_fits = e5.0; no_comma = e7.0; no_clash = e8.0 }

pub set_whole : (ops : Ops) (p k n : Tree) → operator_error ops p k n ≡ None → (q : ℕ) × (kind : OpKind)
    × (priority_of p ≡ Some q) × (kind_of k ≡ Some kind) × (operators_after ops p k (operator_names n) ≡ put_all ops q kind (operator_names n))
set_whole ops p k n h =
    let ns : List Tree = operator_names n in
    let none = no_errors
    (error_if (is_variable p || is_variable k || is_variable n || is_partial n || list_any is_variable ns) instantiation)
    (error_if (not (is_integer p)) (type_error "integer" p))
    (error_if (is_none (priority_of p)) (domain_error "operator_priority" p))
    (error_if (not (is_name k)) (type_error "atom" k))
    (error_if (is_none (kind_of k)) (domain_error "operator_specifier" k))
    (error_if (not (is_name n || (is_list n && list_all is_name ns))) (type_error "list" n))
    (error_at_first (λ a. is_comma (named_set ops p k a)) (λ a. permission_error "modify" "operator" a) ns)
    (error_at_first (λ a. is_clash (named_set ops p k a)) (λ a. permission_error "create" "operator" a) ns) h in
    let q : (q : ℕ) × (priority_of p ≡ Some q) = there (priority_of p) (not_so (is_none (priority_of p)) (domain_error "operator_priority" p) none.priority_fits) in
    let kind : (kind : OpKind) × (kind_of k ≡ Some kind) = there (kind_of k) (not_so (is_none (kind_of k)) (domain_error "operator_specifier" k) none.kind_fits) in
    (q.0, kind.0, q.1, kind.1, all_set ops p k q.0 kind.0 q.1 kind.1 ops ns (λ name. refl) (none_so (λ a. is_comma (named_set ops p k a)) (λ a. permission_error "modify" "operator" a) ns none.no_comma) (none_so (λ a. is_clash (named_set ops p k a)) (λ a. permission_error "create" "operator" a) ns none.no_clash))
