-- Errors of declarations of operators, and names that are set one after another.
use Rattle.std.proofs.Common.{◌≡◌, ◌≢◌, ℕ, ◌+◌, ◌<◌, ◌≤◌, Bool, true, false, ◌&&◌, ◌||◌, List, [], ◌∷◌, length, drop, get_or, Option, Some, None, is_some, refl, ap, sym, ◌∙◌}
use Rattle.std.specs.Prelude.{All, not, if◌then◌else◌, is_none}
use Rattle.std.specs.List.{list_any, list_all}
use Rattle.std.proofs.lemmas.List.{at_drop_more, at_drop_all}
use Rattle.std.proofs.lemmas.List.Elements.{All-nil, All-cons, All-get_or}
use Rattle.spec_numbers.specs.Texts.{Text}
use Rattle.spec_syntax.specs.Operators.{Ops, kind_named}
use Rattle.spec_terms.specs.Term.{Var, Number, Name, Compound}
use Rattle.spec_terms.specs.Term as term
use Rattle.spec_syntax.specs.Trees.{Tree}
use Rattle.spec_builtins.specs.Kinds.{is_name, is_integer, is_list}
use Rattle.spec_builtins.specs.Errors.{instantiation, type_error, domain_error, permission_error, or_error}
use Rattle.spec_builtins.specs.Clauses.{error_if, error_at_first}
use Rattle.spec_builtins.specs.Operators.{priority_of, kind_of, operator_names, operators_after, named_set, table_or}
use Rattle.cq_term.specs.Meaning.{HeapTerm}
use Rattle.cq_term.specs.Shown.{view_of}
use Rattle.cq_term.specs.declared.view.View.TheVariants as view
use Rattle.cq_term.specs.Trees.{tree, trees}
use Rattle.cq_goals.specs.declared.declarations.operators.OperatorGoal.{OperatorGoal}
use Rattle.cq_goals.specs.declared.declarations.operators.Asked.{Asked}
use Rattle.cq_goals.specs.declared.declarations.operators.Refused.TheVariants as refused
use Rattle.cq_goals.specs.Operators.{is_unbound, are_names, unbound_error, priority_error, kind_error, names_error, arguments_error, refusal_error, first_refused, goal_error, IsAsked}
use Rattle.cq_goals.proofs.DeclarationsErrors.{eight_errors, is_none-if}

-- the error of the goal is that of its arguments, or else that of its names
pub in_turn : (texts : List Text) (ts : List HeapTerm) (g : OperatorGoal) (ops : Ops) → goal_error texts ts g ops ≡ or_error (arguments_error texts ts g) (refusal_error texts ts g ops)
in_turn texts ts g ops =
    let p = tree texts ts g.priority in
    let k = tree texts ts g.kind in
    let n = tree texts ts g.names in
    eight_errors (unbound_error p k n) (error_if (not (is_integer p)) (type_error "integer" p)) (error_if (is_none (priority_of p)) (domain_error "operator_priority" p))
    (error_if (not (is_name k)) (type_error "atom" k)) (error_if (is_none (kind_of k)) (domain_error "operator_specifier" k)) (names_error n)
    (first_refused texts ts g ops refused.Comma (λ a. permission_error "modify" "operator" a) (operator_names n))
    (first_refused texts ts g ops refused.Clash (λ a. permission_error "create" "operator" a) (operator_names n))

-- ---- the errors of the arguments
module _ (texts : List Text) (ts : List HeapTerm) (g : OperatorGoal) where
  pub refused_unbound : is_unbound (tree texts ts g.priority) (tree texts ts g.kind) (tree texts ts g.names) ≡ true → arguments_error texts ts g ≡ Some instantiation
  refused_unbound u =
      let p = tree texts ts g.priority in
      let k = tree texts ts g.kind in
      let n = tree texts ts g.names in
      ap (λ b. or_error (error_if b instantiation) (or_error (priority_error p) (or_error (kind_error k) (names_error n)))) u

  module _ (bound : is_unbound (tree texts ts g.priority) (tree texts ts g.kind) (tree texts ts g.names) ≡ false) where
    pub refused_priority : (e : Tree) → priority_error (tree texts ts g.priority) ≡ Some e → arguments_error texts ts g ≡ Some e
    refused_priority e h =
        let k = tree texts ts g.kind in
        let n = tree texts ts g.names in
        λ i. or_error (error_if (bound i) instantiation) (or_error (h i) (or_error (kind_error k) (names_error n)))

    module _ (whole : priority_error (tree texts ts g.priority) ≡ None) where
      pub refused_kind : (e : Tree) → kind_error (tree texts ts g.kind) ≡ Some e → arguments_error texts ts g ≡ Some e
      refused_kind e h =
          let n = tree texts ts g.names in
          λ i. or_error (error_if (bound i) instantiation) (or_error (whole i) (or_error (h i) (names_error n)))

      pub refused_names : kind_error (tree texts ts g.kind) ≡ None → are_names (tree texts ts g.names) ≡ false → arguments_error texts ts g ≡ Some (type_error "list" (tree texts ts g.names))
      refused_names k a =
          let n = tree texts ts g.names in
          λ i. or_error (error_if (bound i) instantiation) (or_error (whole i) (or_error (k i) (error_if (not (a i)) (type_error "list" n))))

      pub none_refused : kind_error (tree texts ts g.kind) ≡ None → are_names (tree texts ts g.names) ≡ true → arguments_error texts ts g ≡ None
      none_refused k a =
          let n = tree texts ts g.names in
          λ i. or_error (error_if (bound i) instantiation) (or_error (whole i) (or_error (k i) (error_if (not (a i)) (type_error "list" n))))

-- ---- what is unbound, and what is a name

and_right : (a b : Bool) → (a && b) ≡ true → b ≡ true
and_right true b e = e
and_right false b e = cc

pub elements_are_names : (n : Tree) → are_names n ≡ true → list_all is_name (operator_names n) ≡ true
elements_are_names (Var v) e = cc
elements_are_names (Number q) e = cc
elements_are_names (Name a) e = refl
elements_are_names (Compound f ts) e = and_right (is_list (Compound f ts)) (list_all is_name (operator_names (Compound f ts))) e

-- ---- the priority and the kind

pub not_whole : (p : Tree) → is_integer p ≡ false → priority_error p ≡ Some (type_error "integer" p)
not_whole p e = ap (λ b. or_error (error_if (not b) (type_error "integer" p)) (error_if (is_none (priority_of p)) (domain_error "operator_priority" p))) e

pub priority_tested : (p : Tree) (b : Bool) → is_integer p ≡ true → is_some (priority_of p) ≡ b → priority_error p ≡ (if b then None else Some (domain_error "operator_priority" p))
priority_tested p b e h =
    ap (λ x. or_error (error_if (not x) (type_error "integer" p)) (error_if (is_none (priority_of p)) (domain_error "operator_priority" p))) e
    ∙ ap (λ x. error_if x (domain_error "operator_priority" p)) (is_none-if (priority_of p) b h) ∙ by b
  where
    by : (b : Bool) → error_if (if b then false else true) (domain_error "operator_priority" p) ≡ (if b then None else Some (domain_error "operator_priority" p))
    by true = refl
    by false = refl

pub no_atom : (k : Tree) → is_name k ≡ false → kind_error k ≡ Some (type_error "atom" k)
no_atom k e = ap (λ b. or_error (error_if (not b) (type_error "atom" k)) (error_if (is_none (kind_of k)) (domain_error "operator_specifier" k))) e

pub kind_tested : (k : Tree) (a : Text) (b : Bool) → k ≡ Name a → is_some (kind_named a) ≡ b → kind_error k ≡ (if b then None else Some (domain_error "operator_specifier" k))
kind_tested k a b e h =
    ap kind_error e
    ∙ ap (λ x. error_if x (domain_error "operator_specifier" (Name a))) (is_none-if (kind_named a) b h) ∙ by b
    ∙ ap (λ t. if b then None else Some (domain_error "operator_specifier" t)) (sym e)
  where
    by : (b : Bool) → error_if (if b then false else true) (domain_error "operator_specifier" (Name a)) ≡ (if b then None else Some (domain_error "operator_specifier" (Name a)))
    by true = refl
    by false = refl

-- ---- terms one after another

-- the terms from a place on
pub from_here : (ids : List ℕ) (i x : ℕ) → i < length ids → x ≡ get_or ids i x → drop i ids ≡ x ∷ drop (i + 1) ids
from_here ids i x lt is = at_drop_more (λ xs. xs) ids i x lt ∙ ap (λ y. y ∷ drop (i + 1) ids) (sym is)

module _ (texts : List Text) (ts : List HeapTerm) (test : Tree → Bool) (ids : List ℕ) (i : ℕ) where
  module _ (x : ℕ) (lt : i < length ids) (is : x ≡ get_or ids i x) where
    any_next : list_any test (trees texts ts (drop i ids)) ≡ (test (tree texts ts x) || list_any test (trees texts ts (drop (i + 1) ids)))
    any_next = ap (λ xs. list_any test (trees texts ts xs)) (from_here ids i x lt is)

    pub any_passes : test (tree texts ts x) ≡ false → list_any test (trees texts ts (drop i ids)) ≡ list_any test (trees texts ts (drop (i + 1) ids))
    any_passes e = any_next ∙ ap (λ b. b || list_any test (trees texts ts (drop (i + 1) ids))) e

    pub any_here : test (tree texts ts x) ≡ true → list_any test (trees texts ts (drop i ids)) ≡ true
    any_here e = any_next ∙ ap (λ b. b || list_any test (trees texts ts (drop (i + 1) ids))) e

    all_next : list_all test (trees texts ts (drop i ids)) ≡ (test (tree texts ts x) && list_all test (trees texts ts (drop (i + 1) ids)))
    all_next = ap (λ xs. list_all test (trees texts ts xs)) (from_here ids i x lt is)

    pub all_pass : test (tree texts ts x) ≡ true → list_all test (trees texts ts (drop i ids)) ≡ list_all test (trees texts ts (drop (i + 1) ids))
    all_pass e = all_next ∙ ap (λ b. b && list_all test (trees texts ts (drop (i + 1) ids))) e

    pub all_fail : test (tree texts ts x) ≡ false → list_all test (trees texts ts (drop i ids)) ≡ false
    all_fail e = all_next ∙ ap (λ b. b && list_all test (trees texts ts (drop (i + 1) ids))) e

    module _ (error : Tree → Tree) where
      first_next : error_at_first test error (trees texts ts (drop i ids)) ≡ (if test (tree texts ts x) then Some (error (tree texts ts x)) else error_at_first test error (trees texts ts (drop (i + 1) ids)))
      first_next = ap (λ xs. error_at_first test error (trees texts ts xs)) (from_here ids i x lt is)

      pub first_passes : test (tree texts ts x) ≡ false → error_at_first test error (trees texts ts (drop i ids)) ≡ error_at_first test error (trees texts ts (drop (i + 1) ids))
      first_passes e = first_next ∙ ap (λ b. if b then Some (error (tree texts ts x)) else error_at_first test error (trees texts ts (drop (i + 1) ids))) e

      pub first_here : test (tree texts ts x) ≡ true → error_at_first test error (trees texts ts (drop i ids)) ≡ Some (error (tree texts ts x))
      first_here e = first_next ∙ ap (λ b. if b then Some (error (tree texts ts x)) else error_at_first test error (trees texts ts (drop (i + 1) ids))) e

  module _ (le : length ids ≤ i) where
    pub any_end : list_any test (trees texts ts (drop i ids)) ≡ false
    any_end = at_drop_all (λ xs. list_any test (trees texts ts xs)) ids i le

    pub all_end : list_all test (trees texts ts (drop i ids)) ≡ true
    all_end = at_drop_all (λ xs. list_all test (trees texts ts xs)) ids i le

    pub first_end : (error : Tree → Tree) → error_at_first test error (trees texts ts (drop i ids)) ≡ None
    first_end error = at_drop_all (λ xs. error_at_first test error (trees texts ts xs)) ids i le

module _ (texts : List Text) (ts : List HeapTerm) where
  pub set_next : (ops : Ops) (p k : Tree) (ids : List ℕ) (i x : ℕ) → i < length ids → x ≡ get_or ids i x →
      operators_after ops p k (trees texts ts (drop i ids)) ≡ operators_after (table_or ops (named_set ops p k (tree texts ts x))) p k (trees texts ts (drop (i + 1) ids))
  set_next ops p k ids i x lt is = ap (λ xs. operators_after ops p k (trees texts ts xs)) (from_here ids i x lt is)

  pub is_name_here : (ids : List ℕ) (i x : ℕ) → i < length ids → x ≡ get_or ids i x → All (λ id. is_name (tree texts ts id) ≡ true) ids → is_name (tree texts ts x) ≡ true
  is_name_here ids i x lt is all = ap (λ y. is_name (tree texts ts y)) is ∙ All-get_or (λ id. is_name (tree texts ts id) ≡ true) ids i x lt all

  pub set_end : (ops : Ops) (p k : Tree) (ids : List ℕ) (i : ℕ) → length ids ≤ i → operators_after ops p k (trees texts ts (drop i ids)) ≡ ops
  set_end ops p k ids i le = at_drop_all (λ xs. operators_after ops p k (trees texts ts xs)) ids i le

  pub each_is_name : (ids : List ℕ) → list_all is_name (trees texts ts ids) ≡ true → All (λ id. is_name (tree texts ts id) ≡ true) ids
  each_is_name [] e = All-nil (λ id. is_name (tree texts ts id) ≡ true)
  each_is_name (id ∷ ids) e =
      All-cons (λ x. is_name (tree texts ts x) ≡ true) id ids (and_left (is_name (tree texts ts id)) (list_all is_name (trees texts ts ids)) e)
      (each_is_name ids (and_right (is_name (tree texts ts id)) (list_all is_name (trees texts ts ids)) e))
    where
      and_left : (a b : Bool) → (a && b) ≡ true → a ≡ true
      and_left true b e = refl
      and_left false b e = cc

-- the error of the names, by those that were listed
module _ (texts : List Text) (ts : List HeapTerm) (a : Asked) (h : IsAsked texts ts a) (ops : Ops) where
  by_names : refusal_error texts ts a.goal ops ≡ or_error (first_refused texts ts a.goal ops refused.Comma (λ n. permission_error "modify" "operator" n) (trees texts ts a.names.items))
      (first_refused texts ts a.goal ops refused.Clash (λ n. permission_error "create" "operator" n) (trees texts ts a.names.items))
  by_names =
      ap (λ ns. or_error (first_refused texts ts a.goal ops refused.Comma (λ n. permission_error "modify" "operator" n) ns) (first_refused texts ts a.goal ops refused.Clash (λ n. permission_error "create" "operator" n) ns)) (sym h.names)

  pub refused_comma : (t : Tree) → first_refused texts ts a.goal ops refused.Comma (λ n. permission_error "modify" "operator" n) (trees texts ts a.names.items) ≡ Some t → refusal_error texts ts a.goal ops ≡ Some t
  refused_comma t e = by_names ∙ ap (λ o. or_error o (first_refused texts ts a.goal ops refused.Clash (λ n. permission_error "create" "operator" n) (trees texts ts a.names.items))) e

  pub refused_clash : (o : Option Tree) → first_refused texts ts a.goal ops refused.Comma (λ n. permission_error "modify" "operator" n) (trees texts ts a.names.items) ≡ None
      → first_refused texts ts a.goal ops refused.Clash (λ n. permission_error "create" "operator" n) (trees texts ts a.names.items) ≡ o → refusal_error texts ts a.goal ops ≡ o
  refused_clash o n e = by_names ∙ (λ i. or_error (n i) (e i))

-- a name that is shown
module _ (g : ℕ → Text) where
  pub name_shown : (t : HeapTerm) (a : ℕ) → view_of t ≡ view.Name a → term.named g t ≡ Name (g a)
  name_shown (Var v) a e = cc
  name_shown (Number q) a e = cc
  name_shown (Name b) a e = (let d : b ≡ a = cc in ap (λ x. Name (g x)) d)
  name_shown (Compound f ts) a e = cc

  pub no_name_shown : (t : HeapTerm) → ((a : ℕ) → view_of t ≢ view.Name a) → is_name (term.named g t) ≡ false
  no_name_shown (Var v) h = refl
  no_name_shown (Number q) h = refl
  no_name_shown (Name a) h = absurd (h a refl)
  no_name_shown (Compound f ts) h = refl
