-- What a table keeps when quantities are added or a column is eliminated: names, numbers and forms.
use Rattle.std.proofs.Common.{◌≡◌, ℕ, zero, suc, ◌+◌, ◌<◌, List, [], ◌∷◌, ◌++◌, length, Option, None, Some, Bool, true, cond, nat_eq, arith, refl, ap, ap₂, sym, subst, ◌∙◌, inl, inr, slice_get, length-append}
use Rattle.std.specs.Option.{option_and_then}
use Rattle.spec_numbers.specs.Rational.{ℚ, ◌+ℚ◌}
use Rattle.spec_linear.specs.Form.{Linear}
use Rattle.spec_linear.specs.Solution.{Has}
use Rattle.spec_linear.specs.Echelon.{AreDistinct}
use Rattle.cq_frac.specs.declared.VarId.{VarId}
use Rattle.cq_frac.specs.declared.row.Entry.{Entry}
use Rattle.cq_frac.specs.Row.{Row}
use Rattle.cq_frac.specs.Rows.{IsRowFrom, sum_at}
use Rattle.cq_dict.specs.declared.table.Role.{Role}
use Rattle.cq_dict.specs.declared.table.Role.TheVariants.{Live, Dropped, Basic}
use Rattle.cq_dict.specs.Roles.{Quantities, IsAt, AreOverColumns, is_live, HasEntry, IsEliminated, Expresses}
use Rattle.cq_dict.specs.Dict.{AddsRow}
use Rattle.indexmap.specs.IndexMap.{insert_entry}
use Rattle.cq_equations.specs.declared.table.Name.{Name}
use Rattle.cq_equations.specs.declared.table.Name.TheVariants.{Variable, Member}
use Rattle.cq_equations.specs.Describes.{placed}
use Rattle.cq_equations.specs.Contents.{Named, AreNamed, IsNamed, variables_of, place_of, place_of_variable, products_of, form_of_role, solved_in, variable_in}
use Rattle.cq_equations.specs.Entering.{AddsMember}
use Rattle.cq_equations.specs.Marked.{AreMarked}
use Rattle.cq_equations.specs.Numbered.{IsNumbered, numbers_from}
use Rattle.cq_equations.proofs.Marks.{marks_more}
use Rattle.cq_dict.proofs.Roles.{role_live, live_at, at_last}
use Rattle.cq_equations.proofs.Roles.{append_back}
use Rattle.cq_equations.proofs.Names.{get_at, place_more, place_last, place_below, has_or_not, named_more, variables_of-append}
use Rattle.cq_frac.proofs.Shifts.{passes}
use Rattle.cq_equations.proofs.Joining.{turned_is, same_or_not}
use Rattle.cq_equations.proofs.Variables.{named_joins, has_end}
use Rattle.cq_equations.proofs.Numbers.{numbers_from-append}
use Rattle.cq_equations.proofs.Places.{named_below, unknown_unsolved, live_unsolved}
use Rattle.spec_numbers.proofs.Tests.{nat_eq-apart}

pub eliminated_named : (t : Named) → AreNamed t → (r c : ℕ) → HasEntry t.roles r c → (new : List Role) → IsEliminated t.roles r c new → AreOverColumns new → AreNamed (record { names = t.names; roles = new })
eliminated_named t a r c h new k table =
    let o = a.table.rows r h.own h.is_row in
    let live = passes (is_live t.roles) 0 h.own.live (record { quantity = c; factor = h.factor }) o.live_row h.in_row in
    let u = turned_is t.roles new r c h.own h.is_row (role_live t.roles c live) k in
    record { table = table; size = a.size ∙ sym k.size; distinct = a.distinct; columns = λ q w. a.columns q (live_at t.roles q Live (u.back_live q (role_live new q w)).1) }

pub member_named : (t : Named) → AreNamed t → (names : List Name) (roles : List Role) (row : Row) → names ≡ t.names ++ Member ∷ [] → roles ≡ t.roles ++ Basic row ∷ [] → AreOverColumns roles → AreNamed (record { names = names; roles = roles })
member_named t a names roles row e f table = record {
  table = table;
  size = ap length e ∙ length-append t.names (Member ∷ []) ∙ ap (λ n. n + 1) a.size ∙ sym (ap length f ∙ length-append t.roles (Basic row ∷ []));
  distinct = subst AreDistinct (sym (ap variables_of e ∙ variables_of-append t.names (Member ∷ []) ∙ nothing_more (variables_of t.names))) a.distinct;
  columns = λ c h.
      elim (append_back t.roles (Basic row) Live c (role_live (t.roles ++ Basic row ∷ []) c (subst (λ z. is_live z c ≡ true) f h))) [
        | inl k ↦ let w = a.columns c (live_at t.roles c Live k) in (w.0, subst (λ n. IsNamed n c w.0) (sym e) (named_more t.names (Member ∷ []) c w.0 w.1))
        | inr k ↦ let w = k.1 in cc
      ];
}
  where
    nothing_more : (s : List ℕ) → s ++ [] ≡ s
    nothing_more [] = refl
    nothing_more (x ∷ s) = ap (λ y. x ∷ y) (nothing_more s)

-- ---- the entries of a new variable

insert_absent : (eq : VarId → VarId → Bool) (x : VarId) (k : ℕ) → ((y : VarId) → eq x y ≡ nat_eq x.0 y.0) → (n : ℕ) (names : List Name) → (Has x.0 (variables_of names) → ⊥) → insert_entry eq (numbers_from n names) x k ≡ numbers_from n names ++ (x, k) ∷ []
insert_absent eq x k says n [] h = refl
insert_absent eq x k says n (Member ∷ names) h = insert_absent eq x k says (n + 1) names h
insert_absent eq x k says n (Variable y ∷ names) h =
    ap (λ b. cond b ((y, k) ∷ numbers_from (n + 1) names) ((y, n) ∷ insert_entry eq (numbers_from (n + 1) names) x k)) (says y ∙ nat_eq-apart x.0 y.0 (λ e. h (inl e)))
    ∙ ap (λ s. (y, n) ∷ s) (insert_absent eq x k says (n + 1) names (λ m. h (inr m)))

pub numbered_joins : (t : Named) → AreNamed t → (v : VarId) → (Has v.0 (variables_of t.names) → ⊥) → (eq : VarId → VarId → Bool) → ((y : VarId) → eq v y ≡ nat_eq v.0 y.0) → (n : ℕ) → n ≡ length t.roles → (entries : List (VarId × ℕ)) → entries ≡ numbers_from 0 t.names →
    (names : List Name) (roles : List Role) (more : List (VarId × ℕ)) → names ≡ t.names ++ Variable v ∷ [] → roles ≡ t.roles ++ Live ∷ [] → more ≡ insert_entry eq entries v n →
    (saved saved' : List Quantities) → AreMarked t.names saved → saved' ≡ saved → IsNumbered (record { names = names; roles = roles }) more saved'
numbered_joins t a v new eq says n size entries is names roles more e f g saved saved' marks k = record {
  named = subst AreNamed (sym (ap₂ (λ x y. record { names = x; roles = y }) e f)) (named_joins t a v new);
  entries_are =
      g ∙ ap (λ s. insert_entry eq s v n) is ∙ insert_absent eq v n says 0 t.names new
      ∙ ap (λ k. numbers_from 0 t.names ++ (v, k) ∷ []) (omega (arith, size, a.size)) ∙ sym (ap (numbers_from 0) e ∙ numbers_from-append 0 t.names (Variable v ∷ []));
  marks = marks_more t.names saved marks (Variable v ∷ []) names saved' e k;
}

pub member_numbered : (t : Named) (entries : List (VarId × ℕ)) (saved : List Quantities) → IsNumbered t entries saved → (names : List Name) (roles : List Role) (row : Row) → names ≡ t.names ++ Member ∷ [] → roles ≡ t.roles ++ Basic row ∷ [] → AreOverColumns roles →
    (saved' : List Quantities) → saved' ≡ saved → IsNumbered (record { names = names; roles = roles }) entries saved'
member_numbered t entries saved a names roles row e f table saved' k = record {
  named = member_named t a.named names roles row e f table;
  entries_are = a.entries_are ∙ sym (ap (numbers_from 0) e ∙ numbers_from-append 0 t.names (Member ∷ []) ∙ nothing_more (numbers_from 0 t.names));
  marks = marks_more t.names saved a.marks (Member ∷ []) names saved' e k;
}
  where
    nothing_more : (s : List (VarId × ℕ)) → s ++ [] ≡ s
    nothing_more [] = refl
    nothing_more (x ∷ s) = ap (λ y. x ∷ y) (nothing_more s)

pub member_added : (t : Named) (f : Linear) (names : List Name) (roles : List Role) (entries : List Entry) (constant : ℚ) → names ≡ t.names ++ Member ∷ [] → entries ≡ placed (place_of t.names) f.products → constant ≡ f.constant → AddsRow t.roles entries constant roles → AddsMember t f (record { names = names; roles = roles })
member_added t f names roles entries constant e g k a = record {
  row = a.row;
  names = e;
  roles = a.last;
  expresses = subst (λ q. Expresses t.roles (λ x. q +ℚ sum_at x (placed (place_of t.names) f.products)) a.row) k (subst (λ s. Expresses t.roles (λ x. constant +ℚ sum_at x s) a.row) g a.expresses);
}

-- ---- the forms of the variables that were known

get_more : {A : Type 0} (l u : List A) (i : ℕ) → i < length l → slice_get (l ++ u) i ≡ slice_get l i
get_more [] u i h = absurd (omega arith)
get_more (x ∷ l) u zero h = refl
get_more (x ∷ l) u (suc i) h = get_more l u i (omega arith)

module _ (t : Named) (a : AreNamed t) (more : List Name) (behind : List Role) where
  products_more : (lo : ℕ) (s : List Entry) → IsRowFrom (is_live t.roles) lo s → products_of (t.names ++ more) s ≡ products_of t.names s
  products_more lo [] r = refl
  products_more lo (m ∷ s) r =
      let w = a.columns m.quantity r.1 in
      ap₂ (λ o p. record { variable = variable_in o; factor = m.factor } ∷ p) (get_more t.names more m.quantity (named_below t.names m.quantity w.0 w.1)) (products_more (m.quantity + 1) s r.3)

  form_more : (i : ℕ) (s : Role) → IsAt t.roles i s → form_of_role (t.names ++ more) s ≡ form_of_role t.names s
  form_more i Live h = refl
  form_more i Dropped h = refl
  form_more i (Basic r) h = ap (λ p. Some (record { products = p; constant = r.constant })) (products_more 0 r.live (a.table.rows i r h).live_row)

  pub solved_more : (x : ℕ) → Has x (variables_of t.names) → solved_in (record { names = t.names ++ more; roles = t.roles ++ behind }) x ≡ solved_in t x
  solved_more x h =
      ap (λ i. option_and_then (form_of_role (t.names ++ more)) (slice_get (t.roles ++ behind) i)) (place_more t.names more x h)
      ∙ ap (option_and_then (form_of_role (t.names ++ more))) (get_more t.roles behind (place_of_variable t.names x) (omega (arith, place_below t.names x h, a.size)))
      ∙ go (slice_get t.roles (place_of_variable t.names x)) refl
    where
      go : (o : Option Role) → slice_get t.roles (place_of_variable t.names x) ≡ o → option_and_then (form_of_role (t.names ++ more)) o ≡ option_and_then (form_of_role t.names) o
      go None e = refl
      go (Some s) e = form_more (place_of_variable t.names x) s (get_at t.roles (place_of_variable t.names x) s e)

-- a new variable is free
pub variable_solved : (t : Named) → AreNamed t → (v : VarId) → (Has v.0 (variables_of t.names) → ⊥) → (x : ℕ) → solved_in (record { names = t.names ++ Variable v ∷ []; roles = t.roles ++ Live ∷ [] }) x ≡ solved_in t x
variable_solved t a v new x =
    elim (has_or_not x (variables_of t.names)) [
      | inl h ↦ solved_more t a (Variable v ∷ []) (Live ∷ []) x h
      | inr n ↦ elim (same_or_not x v.0) [
        | inl e ↦
            live_unsolved (record { names = t.names ++ Variable v ∷ []; roles = t.roles ++ Live ∷ [] }) x
            (subst (λ i. IsAt (t.roles ++ Live ∷ []) i Live) (sym (ap (place_of_variable (t.names ++ Variable v ∷ [])) e ∙ place_last t.names v new ∙ a.size)) (at_last t.roles Live))
            ∙ sym (unknown_unsolved t a x n)
        | inr d ↦
            unknown_unsolved (record { names = t.names ++ Variable v ∷ []; roles = t.roles ++ Live ∷ [] }) (named_joins t a v new) x
            (λ h. elim (has_end x (variables_of t.names) v.0 (subst (Has x) (variables_of-append t.names (Variable v ∷ [])) h)) [ inl k ↦ n k | inr e ↦ d e ])
            ∙ sym (unknown_unsolved t a x n)
      ]
    ]
