-- From the call of a settling to the middle of it.
use Rattle.std.proofs.Common.{◌≡◌, ◌<◌, ℕ, List, [], ◌∷◌, ◌++◌, map, zero, suc, Bool, true, false, cond, Option, refl, sym, ap, ap₂, ◌∙◌, subst, inl, inr, ◌⊎◌, arith, append_assoc}
use Rattle.std.specs.Prelude.{Contains, All, not, ◌&&◌, filter, IsPermutation}
use Rattle.std.proofs.lemmas.List.Elements.{All-contains, All-map, filter_passes}
use Rattle.std.proofs.lemmas.List.Sorted.{IsPermutation-map}
use Rattle.std.proofs.lemmas.Bool.{true≢false}
use Rattle.spec_numbers.specs.Rational.{ℚ}
use Rattle.spec_linear.specs.declared.Relation.TheVariants.{Eq}
use Rattle.spec_linear.specs.Form.{Linear, variable_form, difference_form}
use Rattle.spec_linear.specs.Solution.{Constraint, Has, Fixes}
use Rattle.spec_numbers.specs.Texts.{Text}
use Rattle.spec_numbers.proofs.Tests.{both_are, nat_eq-self}
use Rattle.spec_terms.specs.Term.{Terms, Subst, Var, Number, Name, Compound, one, more, Occurs, OccursIn, apply, named, named_all}
use Rattle.spec_terms.specs.Variables.{variables, variables_after, variables_in, counted_from}
use Rattle.spec_syntax.specs.Trees.{Tree}
use Rattle.spec_branch.specs.Branch.{State, Pending}
use Rattle.spec_branch.specs.Settling.{is_bound, is_the_variable, is_no_number, NoClash, newly_bound, binding_equation, image_form}
use Rattle.spec_branch.specs.Closure.{no_move}
use Rattle.spec_transcript.specs.Settlings.{IsListOf, JoinsIn, of_binding, of_row}
use Rattle.cq_term.specs.Texts.{text_of}
use Rattle.cq_attr.specs.Attributes.{is_numeric}
use Rattle.cq_attr.proofs.Elements.{contains_here, contains_later}
use Rattle.cq_frac.specs.declared.Pair.{Pair}
use Rattle.cq_frac.specs.declared.VarId.{VarId}
use Rattle.cq_term.specs.Meaning.{HeapTerm, at}
use Rattle.cq_term.specs.Trees.{tree}
use Rattle.cq_term.specs.Places.{numbers_of}
use Rattle.cq_settle.specs.Contents.{Contents}
use Rattle.cq_settle.specs.Called.{IsCalled, IsNewlyBound}
use Rattle.cq_settle.specs.Settled.{IsPruned, MayRefuse, MayTake}
use Rattle.cq_settle.specs.Steps.{StopsAt, CannotJoin, Refuses, Takes, ClashesAt, is_neither, equation_at, equations_of, numeric_ones, form_of_image}
use Rattle.cq_settle.specs.Underway.{unified}
use Rattle.cq_settle.proofs.Closed.{nothing_behind}
use Rattle.cq_settle.proofs.Looked.{has_of_contains}
use Rattle.cq_settle.proofs.Numeric.{contains_of_has, has_unfiltered, has_filtered, has_counted, in_counted, variable_bound}
use Rattle.cq_settle.proofs.Permuted.{IsOnce, permuted, once_rest, once_head, once_cons}
use Rattle.cq_settle.proofs.Pruned.{named_neither, stops_joining}
use Rattle.cq_settle.proofs.Refused.{refuses, takes}
use Rattle.cq_settle.proofs.Zips.{contains_filtered, contains_unfiltered}

has_middle_row : (x : Constraint) (before after : List Constraint) → Has x (before ++ x ∷ after)
has_middle_row x [] after = inl refl
has_middle_row x (y ∷ ys) after = inr (has_middle_row x ys after)

-- ---- variables of terms with texts

-- a variable of a term with texts is one of the heap's term
mutual
  pub occurs_named : (f : ℕ → Text) (v : ℕ) (t : HeapTerm) → Occurs v (named f t) → Occurs v t
  occurs_named f v (Var w) o = o
  occurs_named f v (Number q) o = o
  occurs_named f v (Name a) o = o
  occurs_named f v (Compound a ts) o = all_named f v ts o

  all_named : (f : ℕ → Text) (v : ℕ) (ts : Terms ℕ) → OccursIn v (named_all f ts) → OccursIn v ts
  all_named f v (one t) o = occurs_named f v t o
  all_named f v (more t ts) (inl o) = inl (occurs_named f v t o)
  all_named f v (more t ts) (inr o) = inr (all_named f v ts o)

mutual
  pub named_occurs : (f : ℕ → Text) (v : ℕ) (t : HeapTerm) → Occurs v t → Occurs v (named f t)
  named_occurs f v (Var w) o = o
  named_occurs f v (Number q) o = o
  named_occurs f v (Name a) o = o
  named_occurs f v (Compound a ts) o = named_all_occur f v ts o

  named_all_occur : (f : ℕ → Text) (v : ℕ) (ts : Terms ℕ) → OccursIn v ts → OccursIn v (named_all f ts)
  named_all_occur f v (one t) o = named_occurs f v t o
  named_all_occur f v (more t ts) (inl o) = inl (named_occurs f v t o)
  named_all_occur f v (more t ts) (inr o) = inr (named_all_occur f v ts o)

mutual
  variables_named_after : (f : ℕ → Text) (vs : List ℕ) (t : HeapTerm) → variables_after vs (named f t) ≡ variables_after vs t
  variables_named_after f vs (Var v) = refl
  variables_named_after f vs (Number q) = refl
  variables_named_after f vs (Name a) = refl
  variables_named_after f vs (Compound a ts) = all_variables_named f vs ts

  all_variables_named : (f : ℕ → Text) (vs : List ℕ) (ts : Terms ℕ) → variables_in vs (named_all f ts) ≡ variables_in vs ts
  all_variables_named f vs (one t) = variables_named_after f vs t
  all_variables_named f vs (more t ts) =
      ap (λ (ws : List ℕ). variables_in ws (named_all f ts)) (variables_named_after f vs t) ∙ all_variables_named f (variables_after vs t) ts

pub variables_named : (f : ℕ → Text) (t : HeapTerm) → variables (named f t) ≡ variables t
variables_named f t = variables_named_after f [] t

pub unbound_value : (v : ℕ) (t : Tree) → t ≡ Var v → not (is_the_variable v t) ≡ false
unbound_value v t e = ap (λ (x : Tree). not (is_the_variable v x)) e ∙ ap not (nat_eq-self v)

module _ (texts : List Text) (c : Contents) (newly : List VarId) (told : List ℕ) (rows : List Constraint) (st : State) (p : Pending) (u : Subst Text)
    (k : IsCalled texts c newly told rows st p u) where
  abbrev s : Subst Text
  s = unified st u

  -- a variable of an image is unbound in the state
  unbound_in : (v w : ℕ) → Occurs w (st.bindings v) → st.bindings w ≡ Var w
  unbound_in = k.rests.read_through.through

  pub image_is : (v : ℕ) → v < st.fresh → s v ≡ tree texts c.heap.images v
  image_is v l = k.stands.bindings.inside v (subst (λ (n : ℕ). v < n) (sym k.stands.fresh) l)

  -- an unbound variable reads as the unifier's image
  pub unified_unbound : (w : ℕ) → st.bindings w ≡ Var w → s w ≡ u w
  unified_unbound w e = ap (apply u) e

  pub newly_there : (w : ℕ) → w < st.fresh → st.bindings w ≡ Var w → is_bound u w ≡ true → IsNewlyBound st u w
  newly_there w l e b = record { there = l; unbound = unbound_value w (st.bindings w) e; binds = b }

  -- ---- no clash

  module _ (free : All (λ (v : VarId). ClashesAt c v.0 → ⊥) newly) where
    free_at : (w : ℕ) → Contains (numbers_of newly) w → ClashesAt c w → ⊥
    free_at w h = All-contains (λ (x : ℕ). ClashesAt c x → ⊥) (numbers_of newly) w (All-map (λ (x : ℕ). ClashesAt c x → ⊥) (λ (v : VarId). v.0) newly free) h

    at_unbound : (w : ℕ) → st.numeric w ≡ true → st.bindings w ≡ Var w → (b : Bool) → is_bound u w ≡ b → (d : Bool) → is_no_number (u w) ≡ d → d ≡ false
    at_unbound w n e b i false f = refl
    at_unbound w n e false i true f =
        let same : is_no_number (u w) ≡ false = ap is_no_number (variable_bound w (u w) i) in
        let no : true ≡ false = sym f ∙ same in no
    at_unbound w n e true i true f =
        let l : w < st.fresh = k.rests.read_through.numeric w n in
        let neither : true ≡ is_neither (at c.heap.images w) =
        sym f ∙ ap is_no_number (sym (unified_unbound w e) ∙ image_is w l) ∙ named_neither (text_of texts) (at c.heap.images w) in
        absurd (free_at w (k.numeric w n (newly_there w l e i)) (k.stands.numeric w ∙ n, sym neither))

    no_clash_by : (v : ℕ) → st.numeric v ≡ true → (t : Tree) → st.bindings v ≡ t → is_no_number (s v) ≡ false
    no_clash_by v n (Var w) e =
        let i : st.bindings w ≡ Var w = unbound_in v w (subst (λ (t : Tree). Occurs w t) (sym e) refl) in
        ap (λ (t : Tree). is_no_number (apply u t)) e ∙ at_unbound w (k.rests.images v w n e) i (is_bound u w) refl (is_no_number (u w)) refl
    no_clash_by v n (Number q) e = ap (λ (t : Tree). is_no_number (apply u t)) e
    no_clash_by v n (Name a) e = let no : true ≡ false = ap is_no_number (sym e) ∙ k.rests.no_clash v n in absurd (true≢false no)
    no_clash_by v n (Compound f ts) e = let no : true ≡ false = ap is_no_number (sym e) ∙ k.rests.no_clash v n in absurd (true≢false no)

    pub no_clash : NoClash st s
    no_clash v n = no_clash_by v n (st.bindings v) refl

    -- ---- the equations

    pub newly_numeric : (w : ℕ) → Contains (numeric_ones c.attrs newly) w → Has w (newly_bound st u)
    newly_numeric w h =
        let m = contains_unfiltered (is_numeric c.attrs) (numbers_of newly) w h in
        let b = All-contains (IsNewlyBound st u) (numbers_of newly) w k.bound m in
        let n : st.numeric w ≡ true = sym (k.stands.numeric w) ∙ All-contains (λ (x : ℕ). is_numeric c.attrs x ≡ true) (numeric_ones c.attrs newly) w (filter_passes (is_numeric c.attrs) (numbers_of newly)) h in
        has_filtered (λ v. st.numeric v && not (is_bound st.bindings v) && is_bound u v) (counted_from 0 st.fresh) w
        (in_counted 0 st.fresh w (omega arith) (omega (arith, b.there))) (three (st.numeric w) (is_bound st.bindings w) (is_bound u w) n b.unbound b.binds) where
          three : (a b d : Bool) → a ≡ true → b ≡ false → d ≡ true → (a && not b && d) ≡ true
          three true false true e f g = refl
          three true false false e f g = cc
          three true true d e f g = cc
          three false b d e f g = cc

    pub newly_listed : (w : ℕ) → Has w (newly_bound st u) → Contains (numeric_ones c.attrs newly) w
    newly_listed w h =
        let test : ℕ → Bool = λ v. st.numeric v && not (is_bound st.bindings v) && is_bound u v in
        let t : test w ≡ true = All-contains (λ (x : ℕ). test x ≡ true) (newly_bound st u) w (filter_passes test (counted_from 0 st.fresh)) (contains_of_has (newly_bound st u) w h) in
        let l = has_counted 0 st.fresh w (has_unfiltered test (counted_from 0 st.fresh) w h) in
        let a = both_are (st.numeric w && not (is_bound st.bindings w)) (is_bound u w) t in
        let b = both_are (st.numeric w) (not (is_bound st.bindings w)) a.0 in
        let m = k.numeric w b.0 (record { there = omega (arith, l.1); unbound = not_true (is_bound st.bindings w) b.1; binds = a.1 }) in
        contains_filtered (is_numeric c.attrs) (numbers_of newly) w m (k.stands.numeric w ∙ b.0) where
          not_true : (b : Bool) → not b ≡ true → b ≡ false
          not_true true e = cc
          not_true false e = refl

    -- each list without repetitions
    kept_once : (b : Bool) (x : ℕ) (xs : List ℕ) → IsOnce xs → (Contains xs x → ⊥) → IsOnce (cond b (x ∷ xs) xs)
    kept_once true x xs o n = once_cons x xs o n
    kept_once false x xs o n = o

    once_filter : (test : ℕ → Bool) (xs : List ℕ) → IsOnce xs → IsOnce (filter test xs)
    once_filter test [] o = o
    once_filter test (x ∷ xs) o = kept_once (test x) x (filter test xs) (once_filter test xs (once_rest x xs o)) (λ h. once_head x xs o (contains_unfiltered test xs x h))

    once_counted : (n m : ℕ) → IsOnce (counted_from n m)
    once_counted n zero = λ i j d l o. absurd (omega (arith, o))
    once_counted n (suc m) = once_cons n (counted_from (suc n) m) (once_counted (suc n) m)
        (λ h. let r = has_counted (suc n) m n (has_of_contains (counted_from (suc n) m) n h) in omega (arith, r.0))

    pub permuted_newly : IsPermutation (numeric_ones c.attrs newly) (newly_bound st u)
    permuted_newly = permuted (numeric_ones c.attrs newly) (newly_bound st u)
        (once_filter (is_numeric c.attrs) (numbers_of newly) k.once)
        (once_filter (λ v. st.numeric v && not (is_bound st.bindings v) && is_bound u v) (counted_from 0 st.fresh) (once_counted 0 st.fresh))
        (λ v h. contains_of_has (newly_bound st u) v (newly_numeric v h))
        (λ v h. newly_listed v (has_of_contains (newly_bound st u) v h))

    same_form : (t : HeapTerm) → form_of_image t ≡ image_form (named (text_of texts) t)
    same_form (Var w) = refl
    same_form (Number q) = refl
    same_form (Name a) = refl
    same_form (Compound f ts) = refl

    pub same_equation : (w : ℕ) → Contains (numeric_ones c.attrs newly) w → equation_at c.heap.images w ≡ binding_equation s w
    same_equation w h =
        let b = All-contains (IsNewlyBound st u) (numbers_of newly) w k.bound (contains_unfiltered (is_numeric c.attrs) (numbers_of newly) w h) in
        ap (λ (f : Linear). record { relation = Eq; form = difference_form (variable_form w) f })
        (same_form (at c.heap.images w) ∙ ap image_form (sym (image_is w b.there)))

    map_same : (f g : ℕ → Constraint) (xs : List ℕ) → ((x : ℕ) → Contains xs x → f x ≡ g x) → map f xs ≡ map g xs
    map_same f g [] h = refl
    map_same f g (x ∷ xs) h = ap₂ (λ y ys. y ∷ ys) (h x (contains_here x xs x refl)) (map_same f g xs (λ y m. h y (contains_later x xs y m)))

    pub each_newly_bound : IsPermutation (equations_of c newly) (map (binding_equation s) (newly_bound st u))
    each_newly_bound =
        subst (λ (es : List Constraint). IsPermutation es (map (binding_equation s) (newly_bound st u)))
        (sym (map_same (equation_at c.heap.images) (binding_equation s) (numeric_ones c.attrs newly) same_equation))
        (IsPermutation-map (binding_equation s) (numeric_ones c.attrs newly) (newly_bound st u) permuted_newly)

    -- ---- what stops while equations and rows join

    abbrev joining : List Constraint
    joining = equations_of c newly ++ rows

    whole : joining ≡ equations_of c newly ++ p.rows
    whole = ap (λ (rs : List Constraint). equations_of c newly ++ rs) k.rows_are

    pub prunes : StopsAt CannotJoin c.told joining → IsPruned st p u
    prunes h = stops_joining st p u no_clash (equations_of c newly) each_newly_bound
        (subst (λ (xs : List Constraint). StopsAt CannotJoin st.linear xs) whole (subst (λ (l : List Constraint). StopsAt CannotJoin l joining) k.stands.linear h))

    from_map : (f : ℕ → Constraint) (xs : List ℕ) (x : Constraint) → Has x (map f xs) → (y : ℕ) × Contains xs y × (x ≡ f y)
    from_map f [] x h = absurd h
    from_map f (y ∷ ys) x (inl e) = (y, contains_here y ys y refl, e)
    from_map f (y ∷ ys) x (inr h) = let r = from_map f ys x h in (r.0, contains_later y ys r.0 r.1, r.2)

    has_cases : (x : Constraint) (xs ys : List Constraint) → Has x (xs ++ ys) → Has x xs ⊎ Has x ys
    has_cases x [] ys h = inr h
    has_cases x (z ∷ zs) ys (inl e) = inl (inl e)
    has_cases x (z ∷ zs) ys (inr h) = elim (has_cases x zs ys h) [ inl a ↦ inl (inr a) | inr b ↦ inr b ]

    joins_one : (x : Constraint) → Has x (equations_of c newly ++ p.rows) → JoinsIn st p u x
    joins_one x h = elim (has_cases x (equations_of c newly) p.rows h) [
      | inl e ↦ (let r = from_map (equation_at c.heap.images) (numeric_ones c.attrs newly) x e in
          subst (λ (y : Constraint). JoinsIn st p u y) (sym (r.2 ∙ same_equation r.0 r.1)) (of_binding r.0 (newly_numeric r.0 r.1)))
      | inr r ↦ of_row x r
    ]

    list_there : (done later : List Constraint) → equations_of c newly ++ p.rows ≡ done ++ later → IsListOf st p u (st.linear ++ done)
    list_there done later e = record {
      is_unifier = k.unifier;
      equations = equations_of c newly;
      each_newly_bound = each_newly_bound;
      joined = done;
      later = later;
      split = e;
      waiting = st.delayed ++ p.told;
      moves = no_move;
    }

    module _ (fixed : ℕ → Option ℚ) (fixes : Fixes c.told fixed) (done left : List Constraint) (next : Constraint) (e : joining ≡ done ++ next ∷ left) where
      split : equations_of c newly ++ p.rows ≡ done ++ next ∷ left
      split = sym whole ∙ e

      before : IsListOf st p u (st.linear ++ done)
      before = list_there done (next ∷ left) split

      behind : IsListOf st p u ((st.linear ++ done) ++ next ∷ [])
      behind = subst (λ (l : List Constraint). IsListOf st p u l) (sym (append_assoc st.linear done (next ∷ [])))
          (list_there (done ++ next ∷ []) left (split ∙ sym (append_assoc done (next ∷ []) left)))

      joins_next : JoinsIn st p u next
      joins_next = joins_one next (subst (λ (xs : List Constraint). Has next xs) (sym split) (has_middle_row next done left))

      called_list : IsListOf st p u c.told
      called_list = subst (λ (l : List Constraint). IsListOf st p u l) (nothing_behind st.linear ∙ sym k.stands.linear) (list_there [] (equations_of c newly ++ p.rows) refl)

      pub refuses_at : (pair : Pair) → Refuses pair (c.told ++ done) next → MayRefuse st p pair
      refuses_at pair h = refuses st p u (st.linear ++ done) next before behind joins_next c.told called_list fixed fixes pair
          (subst (λ (l : List Constraint). Refuses pair (l ++ done) next) k.stands.linear h)

      pub takes_at : (n : ℕ) → Takes n (c.told ++ done) next → MayTake st p n
      takes_at n h = takes st p u (st.linear ++ done) next before behind joins_next c.told called_list fixed fixes n
          (subst (λ (l : List Constraint). Takes n (l ++ done) next) k.stands.linear h)

    pub refused : (fixed : ℕ → Option ℚ) → Fixes c.told fixed → (pair : Pair) → StopsAt (Refuses pair) c.told joining → MayRefuse st p pair
    refused fixed fixes pair h = refuses_at fixed fixes h.done h.left h.next h.split pair h.here

    pub spent : (fixed : ℕ → Option ℚ) → Fixes c.told fixed → (n : ℕ) → StopsAt (Takes n) c.told joining → MayTake st p n
    spent fixed fixes n h = takes_at fixed fixes h.done h.left h.next h.split n h.here

-- some that stop stop among more
pub stops_more : (P : List Constraint → Constraint → Type 0) (old xs ys : List Constraint) → StopsAt P old xs → StopsAt P old (xs ++ ys)
stops_more P old xs ys h = record {
  done = h.done;
  next = h.next;
  left = h.left ++ ys;
  split = ap (λ (zs : List Constraint). zs ++ ys) h.split ∙ append_assoc h.done (h.next ∷ h.left) ys;
  here = h.here;
}

pub stops_behind : (P : List Constraint → Constraint → Type 0) (old xs ys mid : List Constraint) → mid ≡ old ++ xs → StopsAt P mid ys → StopsAt P old (xs ++ ys)
stops_behind P old xs ys mid e h = record {
  done = xs ++ h.done;
  next = h.next;
  left = h.left;
  split = ap (λ (zs : List Constraint). xs ++ zs) h.split ∙ sym (append_assoc xs h.done (h.next ∷ h.left));
  here = subst (λ (l : List Constraint). P l h.next) (ap (λ (l : List Constraint). l ++ h.done) e ∙ append_assoc old xs h.done) h.here;
}
