-- What is held while forms are asked is a feasible dictionary of the list, so each stop of a call is due in it.
use Rattle.std.proofs.Common.{◌≡◌, ℕ, zero, suc, ◌+◌, ◌<◌, List, [], ◌∷◌, ◌++◌, length, Bool, true, false, ◌||◌, nat_eq, Option, None, Some, ◌⊎◌, inl, inr, pos, arith, refl, ap, ap₂, sym, subst, ◌∙◌}
use Rattle.std.specs.Prelude.{slice_get}
use Rattle.std.proofs.lemmas.Option.{none-some, same_Some, slice_get_within}
use Rattle.spec_numbers.proofs.Tests.{nat_eq-sym, one_is, or_left, or_right}
use Rattle.spec_numbers.specs.Rational.{ℚ, 0ℚ, 1ℚ, neg_ℚ, ◌+ℚ◌, ◌*ℚ◌, IsNotNegative}
use Rattle.spec_numbers.specs.Sums.{Monomial, factor_of, sum_at, when}
use Rattle.spec_numbers.proofs.Ring.{var, int, ◌⊕◌, ◌⊗◌, minus}
use Rattle.spec_numbers.proofs.RationalLemmas.{ring}
use Rattle.spec_numbers.proofs.Sign.{one_not_zero, pos_nonneg}
use Rattle.spec_linear.specs.declared.Relation.{Relation}
use Rattle.spec_linear.specs.declared.Relation.TheVariants.{Eq, Gt, Ge, Ne}
use Rattle.spec_linear.specs.Form.{Linear, IsForm, value_at, variable_form}
use Rattle.spec_linear.specs.Solution.{Constraint, Has, number, Satisfies, SomeMentions}
use Rattle.spec_linear.proofs.Denominators.{has_left, has_right}
use Rattle.spec_linear.proofs.Points.{solves_same}
use Rattle.spec_linear.specs.Certificate as of_list
use Rattle.spec_linear.specs.Weak.{weak, with_weak}
use Rattle.spec_projection.specs.Elimination.{IsInequality}
use Rattle.spec_simplex.specs.Tableau.{AllIn, Within, Chosen, Held, Sound, IsWritten as IsWrittenTableau, numbers}
use Rattle.spec_simplex.proofs.TableauWritten.{within_is, not_in}
use Rattle.spec_simplex.specs.LimitsDictionary.{Quantity, variable, member, member_at, IsQuantity, IsRestricted, SomeFormMentions, Expression, amount, sum_over, expressed, form_of, AllZero, IsWritten, AreOne, IsFeasible, in_front_unless_disequation, without_disequations}
use Rattle.spec_simplex.specs.Overflow.{Makes, IsInUse, beside_feasible}
use Rattle.cq_frac.specs.declared.VarId.{VarId}
use Rattle.cq_frac.specs.declared.Operation.{Operation}
use Rattle.cq_frac.specs.declared.row.Entry.{Entry}
use Rattle.cq_frac.specs.Row.{Row}
use Rattle.cq_frac.specs.Rows.{unit, choose}
use Rattle.cq_dict.specs.declared.table.Role.{Role}
use Rattle.cq_dict.specs.declared.table.Role.TheVariants.{Live, Dropped, Basic}
use Rattle.cq_dict.specs.Roles.{IsAt, IsRow, AreOverColumns, IsMet, FormPair, PivotPair, is_live, is_dropped, is_restricted, role_at}
use Rattle.cq_dict.proofs.Roles.{role_live, role_dropped, at_one, at_below, at_exists, live_at, dropped_at}
use Rattle.cq_dict.proofs.Free.{sum_agrees}
use Rattle.cq_equations.specs.Describes as of_table
use Rattle.cq_equations.specs.Describes.{placed}
use Rattle.cq_equations.proofs.Dictionary as of_quantities
use Rattle.cq_equations.proofs.Dictionary.{sum_same, sum_zero, sum_plus, pick_one, has_either}
use Rattle.cq_equations.proofs.Feasible.{all_zero, zero_of, turned}
use Rattle.cq_equations.proofs.Causes.{at_work, not_both, form_pairs, pivot_pairs}
use Rattle.spec_projection.specs.Interior.{is_equation}
use Rattle.cq_tableau.specs.declared.names.Name.{Name}
use Rattle.cq_tableau.specs.declared.names.Name.TheVariants.{Variable, Member}
use Rattle.cq_tableau.specs.Forms as of_forms
use Rattle.cq_tableau.specs.Forms.{form_at, tableau, Describes}
use Rattle.cq_tableau.specs.Quantities.{name_of, quantity_of, place, picked, stands_apart}
use Rattle.cq_tableau.specs.Stored.{IsKnown, IsMemberForm, IsMemberOf, IsPlaced}
use Rattle.cq_tableau.proofs.Tied.{linked}
use Rattle.spec_simplex.proofs.Linked.{linked_written}
use Rattle.cq_tableau.proofs.Numbering.{IsPicked, in_picked, of_picked, set_picked, set_append, proper, apart, placed_at}

-- what a table holds while forms are asked of a list: each quantity is named for a variable or a member, or it is the row of an asked form
pub record IsAtWork (l : List Constraint) (names : List Name) (asked forms : List Linear) (roles : List Role) (flags : List Bool) : Type 0 where
  pub table : AreOverColumns roles
  pub size : length flags ≡ length roles
  pub describes : Describes roles forms
  pub sound : Sound (tableau roles flags forms) l
  pub below : (n : ℕ) (t : Name) → slice_get names n ≡ Some t → n < length roles
  pub variables : (n : ℕ) (x : VarId) → slice_get names n ≡ Some (Variable x) → form_at forms n ≡ variable_form x.0
  pub members : (n i : ℕ) → slice_get names n ≡ Some (Member i) → IsMemberForm l i (form_at forms n)
  pub placed : (i : ℕ) (c : Constraint) → of_list.member l i ≡ Some c → (n : ℕ) × (slice_get names n ≡ Some (Member i))
  pub once : (m n : ℕ) (t : Name) → slice_get names m ≡ Some t → slice_get names n ≡ Some t → m ≡ n
  pub ascends : (m n i j : ℕ) → slice_get names m ≡ Some (Member i) → slice_get names n ≡ Some (Member j) → i < j → m < n
  pub owned : (n : ℕ) → is_restricted flags n ≡ true → IsMemberOf IsInequality l names n
  pub flagged : (n : ℕ) → IsMemberOf IsInequality l names n → is_restricted flags n ≡ true
  pub behind : (n : ℕ) → n < length roles → slice_get names n ≡ None → IsRow roles n × Has (form_at forms n) asked
  pub known : (x : ℕ) → SomeMentions x l ⊎ SomeFormMentions x asked → IsKnown names x
  pub all_asked : (x : ℕ) → IsKnown names x → SomeFormMentions x asked

-- ---- members by their places
pub there : (l : List Constraint) (i : ℕ) → i < length l → slice_get l i ≡ Some (member_at l i)
there [] i h = absurd (omega (arith, h))
there (c ∷ l) zero h = refl
there (c ∷ l) (suc i) h = there l i (omega (arith, h))

pub member_is : (l : List Constraint) (i : ℕ) (c : Constraint) → slice_get l i ≡ Some c → member_at l i ≡ c
member_is [] i c e = absurd (none-some c e)
member_is (d ∷ l) zero c e = same_Some d c e
member_is (d ∷ l) (suc i) c e = member_is l i c e

has_member : (l : List Constraint) (i : ℕ) → i < length l → Has (member_at l i) l
has_member [] i h = absurd (omega (arith, h))
has_member (c ∷ l) zero h = inl refl
has_member (c ∷ l) (suc i) h = inr (has_member l i (omega (arith, h)))

equation_is : (r : Relation) → is_equation r ≡ true → r ≡ Eq
equation_is Eq e = refl
equation_is Gt e = cc
equation_is Ge e = cc
equation_is Ne e = cc

pub inequality_apart : (r : Relation) → IsInequality r → is_equation r ≡ false
inequality_apart Eq h = absurd h
inequality_apart Gt h = refl
inequality_apart Ge h = refl
inequality_apart Ne h = refl

-- ---- the weak list is the list without disequations, strict members weakly
module _ (v : ℕ → ℚ) where
  weaker : (r : Relation) (f : Linear) (s : List Constraint) (t : List Constraint) → Satisfies v (in_front_unless_disequation r (record { relation = r; form = f }) s)
      → (Satisfies v s → Satisfies v t) → Satisfies v (with_weak r f t)
  weaker Eq f s t h k = (h.0, k h.1)
  weaker Gt f s t h k = (pos_nonneg h.0, k h.1)
  weaker Ge f s t h k = (h.0, k h.1)
  weaker Ne f s t h k = k h

  weakly : (l : List Constraint) → Satisfies v (without_disequations l) → Satisfies v (weak l)
  weakly [] h = tt
  weakly (c ∷ l) h = weaker c.relation c.form (without_disequations l) (weak l) h (weakly l)

pub name_back : (q : Quantity) → quantity_of (name_of q) ≡ q
name_back (variable x) = refl
name_back (member i) = refl

module _ (l : List Constraint) (names : List Name) (asked forms : List Linear) (roles : List Role) (flags : List Bool) (w : IsAtWork l names asked forms roles flags) where
  pub unnumbered : (n : ℕ) → slice_get names n ≡ Some (Member 0) → ⊥
  unnumbered n e = let m = w.members n 0 e in none-some m.constraint m.told_at

  pub same_place : (n : ℕ) (t : Name) → slice_get names n ≡ Some t → place names (quantity_of t) ≡ n
  same_place n t e = placed_at names unnumbered w.once n (quantity_of t) (e ∙ ap Some (sym (proper names unnumbered w.once n t e)))

  pub one_place : (m n : ℕ) (t u : Name) → slice_get names m ≡ Some t → slice_get names n ≡ Some u → quantity_of t ≡ quantity_of u → m ≡ n
  one_place m n t u = apart names unnumbered w.once m n t u

  pub written : IsWrittenTableau (tableau roles flags forms)
  written = linked_written (tableau roles flags forms) (linked roles flags forms w.table w.size w.describes)

  -- ---- quantities and their numbers
  pub record Here (q : Quantity) : Type 0 where
    pub number : ℕ
    pub named : slice_get names number ≡ Some (name_of q)
    pub form_is : form_at forms number ≡ form_of l q

  pub here : (q : Quantity) → IsQuantity l asked q → Here q
  here (variable x) i = let k = w.known x i in record { number = k.0; named = k.1; form_is = w.variables k.0 (record { 0 = x }) k.1 }
  here (member i) h =
      let p = w.placed (suc i) (member_at l i) (there l i h) in
      let m = w.members p.0 (suc i) p.1 in
      record {
        number = p.0;
        named = p.1;
        form_is = sym m.form_is ∙ ap (λ (c : Constraint). c.form) (same_Some m.constraint (member_at l i) (sym m.told_at ∙ there l i h));
      }

  place_here : (q : Quantity) (h : Here q) → place names q ≡ h.number
  place_here q h = placed_at names unnumbered w.once h.number q h.named

  pub here_below : (q : Quantity) (h : Here q) → h.number < length roles
  here_below q h = w.below h.number (name_of q) h.named

  pub quantity_named : (n : ℕ) (t : Name) → slice_get names n ≡ Some t → IsQuantity l asked (quantity_of t)
  quantity_named n (Variable x) e = inr (w.all_asked x.0 (n, e))
  quantity_named n (Member zero) e = absurd (unnumbered n e)
  quantity_named n (Member (suc i)) e = let m = w.members n (suc i) e in slice_get_within l i m.constraint m.told_at

  pub form_named : (n : ℕ) (t : Name) → slice_get names n ≡ Some t → form_at forms n ≡ form_of l (quantity_of t)
  form_named n (Variable x) e = w.variables n x e
  form_named n (Member zero) e = absurd (unnumbered n e)
  form_named n (Member (suc i)) e =
      let m = w.members n (suc i) e in sym m.form_is ∙ ap (λ (c : Constraint). c.form) (sym (member_is l i m.constraint m.told_at))

  -- ---- picked quantities
  pub pick_in : (p : ℕ → Bool) (n : ℕ) (t : Name) → slice_get names n ≡ Some t → p n ≡ true → Has (quantity_of t) (picked p 0 names)
  pick_in p n t e h = let z : n ≡ 0 + n = omega arith in in_picked p 0 names n t e (subst (λ k. p k ≡ true) z h)

  pub picks_here : (p : ℕ → Bool) (q : Quantity) (k : IsPicked p 0 names q) → p k.place ≡ true
  picks_here p q k = let z : 0 + k.place ≡ k.place = omega arith in subst (λ n. p n ≡ true) z k.picks

  pub pick_place : (p : ℕ → Bool) (q : Quantity) (k : IsPicked p 0 names q) → place names q ≡ k.place
  pick_place p q k = ap (place names) k.is ∙ same_place k.place k.name k.there

  pick_quantity : (p : ℕ → Bool) (q : Quantity) → Has q (picked p 0 names) → IsQuantity l asked q
  pick_quantity p q h = let k = of_picked p 0 names q h in subst (IsQuantity l asked) (sym k.is) (quantity_named k.place k.name k.there)

  -- what a named quantity is at an assignment
  amount_named : (v : ℕ → ℚ) (p : ℕ → Bool) (q : Quantity) (k : IsPicked p 0 names q) → amount l v q ≡ value_at v (form_at forms k.place)
  amount_named v p q k = ap (amount l v) k.is ∙ ap (value_at v) (sym (form_named k.place k.name k.there))

  abbrev pub live : List Quantity
  live = picked (is_live roles) 0 names

  abbrev pub gone : List Quantity
  gone = picked (is_dropped roles) 0 names

  abbrev pub is_zero : ℕ → Bool
  is_zero n = is_dropped roles n || stands_apart l (slice_get names n)

  abbrev pub zeros : List Quantity
  zeros = picked (λ n. is_dropped roles n || stands_apart l (slice_get names n)) 0 names

  -- each column has a name
  row_there : (n : ℕ) → IsRow roles n → (IsAt roles n Live ⊎ IsAt roles n Dropped) → ⊥
  row_there n r (inl a) = let e = at_one roles n (Basic r.0) Live r.1 a in cc
  row_there n r (inr a) = let e = at_one roles n (Basic r.0) Dropped r.1 a in cc

  pub column_named : (c : ℕ) → IsAt roles c Live ⊎ IsAt roles c Dropped → (t : Name) × (slice_get names c ≡ Some t)
  column_named c a = go (slice_get names c) refl
    where
      made : IsAt roles c Live ⊎ IsAt roles c Dropped → c < length roles
      made (inl h) = at_below roles c Live h
      made (inr h) = at_below roles c Dropped h

      go : (o : Option Name) → slice_get names c ≡ o → (t : Name) × (slice_get names c ≡ Some t)
      go (Some t) e = (t, e)
      go None e = absurd (row_there c (w.behind c (made a) e).0 a)

  pub live_named : (c : ℕ) → is_live roles c ≡ true → (t : Name) × (slice_get names c ≡ Some t)
  live_named c h = column_named c (inl (role_live roles c h))

  dropped_named : (c : ℕ) → is_dropped roles c ≡ true → (t : Name) × (slice_get names c ≡ Some t)
  dropped_named c h = column_named c (inr (role_dropped roles c h))

  each_live : (c : ℕ) → is_live roles c ≡ true → (q : Quantity) × Has q live × (place names q ≡ c)
  each_live c h = let t = live_named c h in (quantity_of t.0, pick_in (is_live roles) c t.0 t.1 h, same_place c t.0 t.1)

  -- one number is one quantity
  one_quantity : (p r : ℕ → Bool) (a b : Quantity) (x : IsPicked p 0 names a) (y : IsPicked r 0 names b) → place names a ≡ place names b → a ≡ b
  one_quantity p r a b x y e =
      let n : x.place ≡ y.place = sym (pick_place p a x) ∙ e ∙ pick_place r b y in
      x.is ∙ ap quantity_of (same_Some x.name y.name (sym x.there ∙ ap (slice_get names) n ∙ y.there)) ∙ sym y.is

  live_apart : (a b : Quantity) → Has a live → Has b live → place names a ≡ place names b → a ≡ b
  live_apart a b h k = one_quantity (is_live roles) (is_live roles) a b (of_picked (is_live roles) 0 names a h) (of_picked (is_live roles) 0 names b k)

  all_apart : (a b : Quantity) → Has a (live ++ gone) → Has b (live ++ gone) → place names a ≡ place names b → a ≡ b
  all_apart a b h k = one_quantity (λ n. true) (λ n. true) a b (either_picked a h) (either_picked b k)
    where
      any : (p : ℕ → Bool) (q : Quantity) → IsPicked p 0 names q → IsPicked (λ n. true) 0 names q
      any p q k = record { place = k.place; name = k.name; there = k.there; picks = refl; is = k.is }

      either_picked : (q : Quantity) → Has q (live ++ gone) → IsPicked (λ n. true) 0 names q
      either_picked q h = elim (has_either q live gone h) [
        | inl i ↦ any (is_live roles) q (of_picked (is_live roles) 0 names q i)
        | inr i ↦ any (is_dropped roles) q (of_picked (is_dropped roles) 0 names q i)
      ]

  -- two that pick one quantity pick one number
  both_picked : (p r : ℕ → Bool) (q : Quantity) (x : IsPicked p 0 names q) (y : IsPicked r 0 names q) → x.place ≡ y.place
  both_picked p r q x y = sym (pick_place p q x) ∙ pick_place r q y

  never_both : (q : Quantity) → Has q live → Has q gone → ⊥
  never_both q h k =
      let x = of_picked (is_live roles) 0 names q h in
      let y = of_picked (is_dropped roles) 0 names q k in
      not_both roles y.place (subst (λ n. is_live roles n ≡ true) (both_picked (is_live roles) (is_dropped roles) q x y) (picks_here (is_live roles) q x)) (picks_here (is_dropped roles) q y)

  -- ---- the table as one of the list's quantities
  pub agrees : (v x : ℕ → ℚ) → ((n : ℕ) → n < length roles → x n ≡ value_at v (form_at forms n)) → of_table.Agree l asked (place names) v x
  agrees v x e = record {
    same = λ q i.
        let h = here q i in
        ap x (place_here q h) ∙ e h.number (here_below q h) ∙ ap (value_at v) h.form_is;
  }

  pub described : of_table.Describes l asked roles (place names) live gone
  described = record {
    forth = λ v. ((λ n. value_at v (form_at forms n)), w.describes.agrees v, agrees v (λ n. value_at v (form_at forms n)) (λ n h. refl));
    back = λ x m. let o = w.describes.defines x m in (o.0, agrees o.0 x (λ n h. sym (o.1 n h)));
    columns = λ q h. elim (has_either q live gone h) [ inl k ↦ pick_quantity (is_live roles) q k | inr k ↦ pick_quantity (is_dropped roles) q k ];
    once = set_append live gone (set_picked (is_live roles) 0 names one_place) (set_picked (is_dropped roles) 0 names one_place) never_both;
    apart = all_apart;
    live_is = λ q h. let k = of_picked (is_live roles) 0 names q h in
        subst (λ n. is_live roles n ≡ true) (sym (pick_place (is_live roles) q k)) (picks_here (is_live roles) q k);
    gone_is = λ q h. let k = of_picked (is_dropped roles) 0 names q h in
        subst (λ n. is_dropped roles n ≡ true) (sym (pick_place (is_dropped roles) q k)) (picks_here (is_dropped roles) q k);
    each_live = each_live;
    each_gone = λ c h. let t = dropped_named c h in (quantity_of t.0, pick_in (is_dropped roles) c t.0 t.1 h, same_place c t.0 t.1);
    others = λ q i. let h = here q i in let a = at_exists roles h.number (here_below q h) in role_of q h a.0 a.1;
  }
    where
      in_live : (q : Quantity) (h : Here q) → IsAt roles h.number Live → Has q live
      in_live q h a = subst (λ r. Has r live) (name_back q) (pick_in (is_live roles) h.number (name_of q) h.named (live_at roles h.number Live a))

      in_gone : (q : Quantity) (h : Here q) → IsAt roles h.number Dropped → Has q gone
      in_gone q h a = subst (λ r. Has r gone) (name_back q) (pick_in (is_dropped roles) h.number (name_of q) h.named (dropped_at roles h.number Dropped a))

      role_of : (q : Quantity) (h : Here q) (s : Role) → IsAt roles h.number s → Has q (live ++ gone) ⊎ ((r : Row) × IsAt roles (place names q) (Basic r))
      role_of q h Live a = inl (has_left q live gone (in_live q h a))
      role_of q h Dropped a = inl (has_right q live gone (in_gone q h a))
      role_of q h (Basic r) a = inr (r, subst (λ n. IsAt roles n (Basic r)) (sym (place_here q h)) a)

  -- ---- where the zero set is zero
  dropped_in_zeros : (q : Quantity) → Has q gone → Has q zeros
  dropped_in_zeros q h =
      let k = of_picked (is_dropped roles) 0 names q h in
      subst (λ r. Has r zeros) (sym k.is)
      (pick_in is_zero k.place k.name k.there (or_left (is_dropped roles k.place) (stands_apart l (slice_get names k.place)) (picks_here (is_dropped roles) q k)))

  pub within_zeros : (v : ℕ → ℚ) → AllZero l v zeros → Within (tableau roles flags forms) v
  within_zeros v z c h =
      let t = dropped_named c h in
      ap (value_at v) (form_named c t.0 t.1)
      ∙ zero_of l v zeros (quantity_of t.0) z (dropped_in_zeros (quantity_of t.0) (pick_in (is_dropped roles) c t.0 t.1 h))

  -- an equation's quantity is zero within
  apart_zero : (v : ℕ → ℚ) → ((i : ℕ) → i < length l → (member_at l i).relation ≡ Eq → value_at v (member_at l i).form ≡ 0ℚ) → (n : ℕ) (t : Name) → slice_get names n ≡ Some t
      → stands_apart l (Some t) ≡ true → value_at v (form_at forms n) ≡ 0ℚ
  apart_zero v z n (Variable x) e s = cc
  apart_zero v z n (Member zero) e s = absurd (unnumbered n e)
  apart_zero v z n (Member (suc i)) e s =
      let m = w.members n (suc i) e in
      ap (value_at v) (form_named n (Member (suc i)) e)
      ∙ z i (slice_get_within l i m.constraint m.told_at) (equation_is (member_at l i).relation s)

  flat_equation : (v : ℕ → ℚ) → Within (tableau roles flags forms) v → (c : Constraint) → Has c l → c.relation ≡ Eq → value_at v c.form ≡ 0ℚ
  flat_equation v i c m e = subst (λ r. Held (tableau roles flags forms) r c.form) e (w.sound.held c m) v i

  equations_within : (v : ℕ → ℚ) → Within (tableau roles flags forms) v → (i : ℕ) → i < length l → (member_at l i).relation ≡ Eq → value_at v (member_at l i).form ≡ 0ℚ
  equations_within v h i b e = flat_equation v h (member_at l i) (has_member l i b) e

  pub zeros_within : (v : ℕ → ℚ) → Within (tableau roles flags forms) v → AllZero l v zeros
  zeros_within v h = all_zero l v zeros (λ q m.
      let k = of_picked is_zero 0 names q m in
      amount_named v is_zero q k
      ∙ elim (one_is (is_dropped roles k.place) (stands_apart l (slice_get names k.place)) (picks_here is_zero q k)) [
        | inl d ↦ h k.place d
        | inr s ↦ apart_zero v (equations_within v h) k.place k.name k.there (subst (λ o. stands_apart l o ≡ true) k.there s)
      ])

  -- at a solution too
  zero_solved : (v : ℕ → ℚ) → Satisfies v (weak l) → (q : Quantity) → Has q zeros → amount l v q ≡ 0ℚ
  zero_solved v s q m = zero_of l v zeros q (zeros_within v (w.sound.inside v s)) m

  -- ---- quantities as sums over the live columns
  abbrev pub expression : ℕ → Expression
  expression n = record { constant = (of_forms.row_of n (role_at roles n)).constant; entry = λ q. factor_of (place names q) (of_forms.row_of n (role_at roles n)).live }

  by_columns : (x : ℕ → ℚ) (s : List Monomial) → AllIn (is_live roles) s → sum_at x s ≡ sum_over (λ q. factor_of (place names q) s *ℚ x (place names q)) live
  by_columns x [] a = sym (sum_zero (λ q. 0ℚ *ℚ x (place names q)) live (λ q h. ring (x (place names q) ∷ []) (int (pos 0) ⊗ var 0) (int (pos 0)) refl))
  by_columns x (m ∷ s) a =
      let q = each_live m.variable a.0 in
      let one : sum_over (λ b. unit (place names b) m.variable *ℚ (m.factor *ℚ x (place names b))) live ≡ m.factor *ℚ x m.variable =
      pick_one (place names) m.variable (λ b. m.factor *ℚ x (place names b)) live q.0 (set_picked (is_live roles) 0 names one_place) live_apart q.1 q.2 ∙ ap (λ c. m.factor *ℚ x c) q.2 in
      ap₂ (λ u b. u +ℚ b) (sym one) (by_columns x s a.1)
      ∙ sym (sum_plus (λ b. unit (place names b) m.variable *ℚ (m.factor *ℚ x (place names b))) (λ q. factor_of (place names q) s *ℚ x (place names q)) live)
      ∙ sum_same _ (λ q. factor_of (place names q) (m ∷ s) *ℚ x (place names q)) live (λ b k.
      ap (λ u. choose u 1ℚ 0ℚ *ℚ (m.factor *ℚ x (place names b)) +ℚ factor_of (place names b) s *ℚ x (place names b)) (nat_eq-sym m.variable (place names b))
      ∙ go (nat_eq (place names b) m.variable) m.factor (x (place names b)) (factor_of (place names b) s))
    where
      go : (b : Bool) (f y g : ℚ) → choose b 1ℚ 0ℚ *ℚ (f *ℚ y) +ℚ g *ℚ y ≡ (when b f +ℚ g) *ℚ y
      go true f y g = ring (f ∷ y ∷ g ∷ []) (int (pos 1) ⊗ (var 0 ⊗ var 1) ⊕ var 2 ⊗ var 1) ((var 0 ⊕ var 2) ⊗ var 1) refl
      go false f y g = ring (f ∷ y ∷ g ∷ []) (int (pos 0) ⊗ (var 0 ⊗ var 1) ⊕ var 2 ⊗ var 1) ((int (pos 0) ⊕ var 2) ⊗ var 1) refl

  pub written_at : (n : ℕ) → n < length roles → IsWritten l zeros live (form_at forms n) (expression n)
  written_at n h = record {
    same = λ v z.
        within_is (tableau roles flags forms) written n h v (within_zeros v z)
        ∙ ap (λ b. (of_forms.row_of n (role_at roles n)).constant +ℚ b)
        (by_columns (numbers (tableau roles flags forms) v) (of_forms.row_of n (role_at roles n)).live (written.over_live n h)
        ∙ sum_same (λ q. factor_of (place names q) (of_forms.row_of n (role_at roles n)).live *ℚ value_at v (form_at forms (place names q)))
        (λ q. factor_of (place names q) (of_forms.row_of n (role_at roles n)).live *ℚ amount l v q) live
        (λ q k.
        let p = of_picked (is_live roles) 0 names q k in
        ap (λ b. factor_of (place names q) (of_forms.row_of n (role_at roles n)).live *ℚ b)
        (ap (λ c. value_at v (form_at forms c)) (pick_place (is_live roles) q p) ∙ sym (amount_named v (is_live roles) q p))));
  }

  -- ---- in one way
  chosen : (y : ℕ → ℚ) (f : Linear) (e g : Expression) → IsWritten l zeros live f e → IsWritten l zeros live f g
      → e.constant +ℚ sum_over (λ q. e.entry q *ℚ y (place names q)) live ≡ g.constant +ℚ sum_over (λ q. g.entry q *ℚ y (place names q)) live
  chosen y f e g we wg = sym (at e) ∙ sym (we.same v.at (zeros_within v.at v.dropped)) ∙ wg.same v.at (zeros_within v.at v.dropped) ∙ at g
    where
      v : Chosen (tableau roles flags forms) y
      v = written.choose y

      value : (q : Quantity) → Has q live → amount l v.at q ≡ y (place names q)
      value q h =
          let p = of_picked (is_live roles) 0 names q h in
          amount_named v.at (is_live roles) q p ∙ v.live p.place (picks_here (is_live roles) q p) ∙ ap y (sym (pick_place (is_live roles) q p))

      at : (c : Expression) → expressed l v.at live c ≡ c.constant +ℚ sum_over (λ q. c.entry q *ℚ y (place names q)) live
      at c = ap (λ b. c.constant +ℚ b) (sum_same (λ q. c.entry q *ℚ amount l v.at q) (λ q. c.entry q *ℚ y (place names q)) live (λ q h. ap (λ b. c.entry q *ℚ b) (value q h)))

  at_zero : (e : Expression) → e.constant +ℚ sum_over (λ q. e.entry q *ℚ 0ℚ) live ≡ e.constant
  at_zero e =
      ap (λ b. e.constant +ℚ b) (sum_zero (λ q. e.entry q *ℚ 0ℚ) live (λ q h. ring (e.entry q ∷ []) (var 0 ⊗ int (pos 0)) (int (pos 0)) refl))
      ∙ ring (e.constant ∷ []) (var 0 ⊕ int (pos 0)) (var 0) refl

  at_unit : (e : Expression) (q : Quantity) → Has q live → sum_over (λ r. e.entry r *ℚ unit (place names q) (place names r)) live ≡ e.entry q
  at_unit e q h =
      sum_same (λ r. e.entry r *ℚ unit (place names q) (place names r)) (λ r. unit (place names r) (place names q) *ℚ e.entry r) live
      (λ r k. ap (λ b. e.entry r *ℚ b) (turned (place names q) (place names r)) ∙ ring (e.entry r ∷ unit (place names r) (place names q) ∷ []) (var 0 ⊗ var 1) (var 1 ⊗ var 0) refl)
      ∙ pick_one (place names) (place names q) e.entry live q (set_picked (is_live roles) 0 names one_place) live_apart h refl

  pub one_way : (f : Linear) (e g : Expression) → IsWritten l zeros live f e → IsWritten l zeros live f g → AreOne live e g
  one_way f e g we wg =
      let c : e.constant ≡ g.constant = sym (at_zero e) ∙ chosen (λ c. 0ℚ) f e g we wg ∙ at_zero g in
      record {
        constant = c;
        entries = λ q h.
            let n : g.constant +ℚ e.entry q ≡ g.constant +ℚ g.entry q =
            ap₂ (λ a b. a +ℚ b) (sym c) (sym (at_unit e q h)) ∙ chosen (unit (place names q)) f e g we wg ∙ ap (λ b. g.constant +ℚ b) (at_unit g q h) in
            ring (g.constant ∷ e.entry q ∷ []) (var 1) (minus (var 0) ⊕ (var 0 ⊕ var 1)) refl ∙ ap (λ s. neg_ℚ g.constant +ℚ s) n
            ∙ ring (g.constant ∷ g.entry q ∷ []) (minus (var 0) ⊕ (var 0 ⊕ var 1)) (var 1) refl;
      }

  -- ---- feasible
  -- no live column is in the zero set
  pub outside : (q : Quantity) → Has q live → Has q zeros → ⊥
  outside q h k = elim (one_is (is_dropped roles y.place) (stands_apart l (slice_get names y.place)) (picks_here is_zero q y)) [
    | inl d ↦ not_both roles y.place here_live d
    | inr s ↦ one_not_zero (sym (v.live y.place here_live) ∙ apart_zero v.at (equations_within v.at v.dropped) y.place y.name y.there (subst (λ o. stands_apart l o ≡ true) y.there s))
  ]
    where
      x : IsPicked (is_live roles) 0 names q
      x = of_picked (is_live roles) 0 names q h

      y : IsPicked is_zero 0 names q
      y = of_picked is_zero 0 names q k

      here_live : is_live roles y.place ≡ true
      here_live = subst (λ n. is_live roles n ≡ true) (both_picked (is_live roles) is_zero q x y) (picks_here (is_live roles) q x)

      v : Chosen (tableau roles flags forms) (λ c. 1ℚ)
      v = written.choose (λ c. 1ℚ)

  pub restricted_here : (q : Quantity) → IsRestricted l q → Here q
  restricted_here (variable x) r = absurd r
  restricted_here (member i) r = here (member i) r.0

  pub restricted_flag : (q : Quantity) (r : IsRestricted l q) → is_restricted flags (restricted_here q r).number ≡ true
  unfolding restricted_here here
  restricted_flag (variable x) r = absurd r
  restricted_flag (member i) r =
      let h = here (member i) r.0 in
      w.flagged h.number (record { number = suc i; named = h.named; constraint = member_at l i; told_at = there l i r.0; relation_is = r.1 })

  free_variable : (x : ℕ) (n : ℕ) → slice_get names n ≡ Some (Variable (record { 0 = x })) → is_restricted flags n ≡ false
  free_variable x n e = go (is_restricted flags n) refl
    where
      no_member : (i : ℕ) (y : VarId) → Member i ≡ Variable y → ⊥
      no_member i y e = cc

      go : (b : Bool) → is_restricted flags n ≡ b → is_restricted flags n ≡ false
      go false f = f
      go true f = let o = w.owned n f in absurd (no_member o.number (record { 0 = x }) (same_Some (Member o.number) (Variable (record { 0 = x })) (sym o.named ∙ e)))

  pub feasible : IsFeasible l asked zeros live
  feasible = record {
    dictionary = record {
      zeros_are_quantities = λ q h. pick_quantity is_zero q h;
      zero = λ q h p s. zero_solved (number p) (weakly (number p) l ((solves_same p (without_disequations l)).0 s)) q h;
      columns_are_quantities = λ q h. pick_quantity (is_live roles) q h;
      once = set_picked (is_live roles) 0 names one_place;
      outside = outside;
      some_way = λ q i. let h = here q i in (expression h.number, subst (λ f. IsWritten l zeros live f (expression h.number)) h.form_is (written_at h.number (here_below q h)));
      one_way = λ q i e g we wg. one_way (form_of l q) e g we wg;
    };
    equations = λ i b e.
        let h = here (member i) b in
        pick_in is_zero h.number (Member (suc i)) h.named
        (or_right (is_dropped roles h.number) (stands_apart l (slice_get names h.number))
        (subst (λ o. stands_apart l o ≡ true) (sym h.named) (ap is_equation e)));
    constants = λ q r a b e u.
        let h = restricted_here q r in
        subst IsNotNegative (sym (one_way (form_of l q) e (expression h.number) u (same_form q h)).constant)
        (w.sound.feasible.constants h.number (here_below q h) (restricted_flag q r));
    free = λ x m q r e u.
        let h = restricted_here q r in
        let k = of_picked (is_live roles) 0 names (variable x) m in
        let n : slice_get names k.place ≡ Some (Variable (record { 0 = x })) = k.there ∙ ap Some (sym (proper names unnumbered w.once k.place k.name k.there) ∙ ap name_of (sym k.is)) in
        (one_way (form_of l q) e (expression h.number) u (same_form q h)).entries (variable x) m
        ∙ not_in (is_restricted flags) (place names (variable x)) (of_forms.row_of h.number (role_at roles h.number)).live
        (w.sound.feasible.columns h.number (here_below q h) (restricted_flag q r))
        (ap (is_restricted flags) (pick_place (is_live roles) (variable x) k) ∙ free_variable x k.place n);
  }
    where
      same_form : (q : Quantity) (h : Here q) → IsWritten l zeros live (form_of l q) (expression h.number)
      same_form q h = subst (λ f. IsWritten l zeros live f (expression h.number)) h.form_is (written_at h.number (here_below q h))

  -- ---- in use
  pub in_use : IsInUse (at_work l asked) [] (live ++ gone)
  in_use = beside_feasible (record {
    own = of_quantities.dictionary l asked roles (place names) live gone w.table described;
    all_zeros = zeros;
    live = live;
    feasible = feasible;
    part = λ q h. absurd h;
    rest = λ q. (
      (λ h. (has_left q live gone h, (λ k. outside q h k))),
      (λ h. elim (has_either q live gone h.0) [ inl k ↦ k | inr k ↦ absurd (h.1 (dropped_in_zeros q k)) ]),
    );
  })

  -- each row is a quantity's, or that of an asked form
  pub known : of_table.AllKnown l asked roles (place names)
  known i r a = go (slice_get names i) refl
    where
      value : (v x : ℕ → ℚ) → IsMet x roles → of_table.Agree l asked (place names) v x → value_at v (form_at forms i) ≡ x i
      value v x m g =
          (w.describes.agrees v).rows i r a
          ∙ ap₂ (λ p q. r.constant +ℚ (p +ℚ q))
          (sum_agrees (is_live roles) 0 (λ n. value_at v (form_at forms n)) x r.live (w.table.rows i r a).live_row (λ c h. column v x g c (live_named c h)))
          (sum_agrees (is_dropped roles) 0 (λ n. value_at v (form_at forms n)) x r.dropped (w.table.rows i r a).dropped_row (λ c h. column v x g c (dropped_named c h)))
          ∙ sym (m.rows i r a)
        where
          column : (v x : ℕ → ℚ) → of_table.Agree l asked (place names) v x → (c : ℕ) → (t : Name) × (slice_get names c ≡ Some t) → value_at v (form_at forms c) ≡ x c
          column v x g c t =
              ap (value_at v) (form_named c t.0 t.1) ∙ sym (g.same (quantity_of t.0) (quantity_named c t.0 t.1)) ∙ ap x (same_place c t.0 t.1)

      go : (o : Option Name) → slice_get names i ≡ o → of_table.Known l asked roles (place names) i
      go (Some t) e = record {
        form = form_at forms i;
        kind = inl (quantity_of t, quantity_named i t e, same_place i t e, sym (form_named i t e));
        value = value;
      }
      go None e = record { form = form_at forms i; kind = inr (w.behind i (at_below roles i (Basic r) a) e).1; value = value }

  -- the pairs of an exchange
  pub pivot_makes : (r c : ℕ) {o : Operation} {a b : ℚ} → PivotPair roles r c o a b → Makes (at_work l asked) o a b
  pivot_makes r c p = pivot_pairs l asked roles (place names) live gone w.table described in_use known r c p

  -- and those of adding an asked form
  placed_is : (ps : List Monomial) (s : List Entry) → IsPlaced names ps s → s ≡ placed (place names) ps
  placed_is [] [] h = refl
  placed_is [] (m ∷ s) h = absurd h
  placed_is (p ∷ ps) [] h = absurd h
  placed_is (p ∷ ps) (m ∷ s) h =
      ap₂ (λ a b. a ∷ b)
      (ap₂ (λ n f. record { quantity = n; factor = f }) (sym (placed_at names unnumbered w.once m.quantity (variable p.variable) h.0)) h.1) (placed_is ps s h.2)

  pub form_makes : (f : Linear) → Has f asked → IsForm f → (entries : List Entry) → IsPlaced names f.products entries → {o : Operation} {a b : ℚ}
      → FormPair roles entries f.constant o a b → Makes (at_work l asked) o a b
  form_makes f i ordered entries p {o} {a} {b} g =
      form_pairs l asked roles (place names) live gone w.table described in_use f i ordered
      (subst (λ s. FormPair roles s f.constant o a b) (placed_is f.products entries p) g)
