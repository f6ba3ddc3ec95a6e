-- Each stop of a call is due in a moment of it.
use Rattle.std.proofs.Common.{◌≡◌, ℕ, zero, suc, ◌+◌, ◌<◌, ◌≤◌, List, [], ◌∷◌, ◌++◌, length, Bool, true, false, None, Some, ◌⊎◌, inl, inr, arith, length-append, refl, ap, sym, subst, ◌∙◌}
use Rattle.std.specs.Prelude.{slice_get}
use Rattle.std.proofs.lemmas.Option.{slice_get_within}
use Rattle.spec_numbers.specs.Sums.{Mentions}
use Rattle.spec_linear.specs.Form.{Linear, IsForm}
use Rattle.spec_linear.specs.Solution.{Constraint, SomeMentions}
use Rattle.spec_simplex.specs.Asked.{IsAsked, alone, of_joining, of_variable, NoQuestion}
use Rattle.spec_simplex.specs.LimitsDictionary.{SomeFormMentions}
use Rattle.spec_simplex.specs.Overflow.{Makes}
use Rattle.spec_simplex.specs.Chains.{IsBlandChain}
use Rattle.cq_frac.specs.declared.Pair.{Pair}
use Rattle.cq_frac.specs.Refused.{IsRefused}
use Rattle.cq_frac.specs.declared.row.Entry.{Entry}
use Rattle.cq_dict.specs.declared.table.Role.{Role}
use Rattle.cq_dict.specs.Roles.{Quantities, IsRow, is_restricted}
use Rattle.cq_dict.specs.Dict.{RefusesForm, RefusesPivot}
use Rattle.cq_simplex.specs.declared.Aim.{Aim}
use Rattle.cq_simplex.specs.declared.Aim.TheVariants.{Positive}
use Rattle.cq_simplex.specs.Answers.{AreSpent}
use Rattle.cq_equations.proofs.Causes.{at_work}
use Rattle.cq_tableau.specs.declared.names.Name.{Name}
use Rattle.cq_tableau.specs.Asking.{AsksForm, RefusesAsking}
use Rattle.cq_tableau.specs.Forms.{form_at}
use Rattle.cq_tableau.specs.Keeps.{Keeps, Speaks}
use Rattle.cq_tableau.specs.Quantities.{variable_forms}
use Rattle.cq_tableau.specs.Raised.{RefusesRaise, SpendsRaise}
use Rattle.cq_tableau.specs.Stored.{IsKnown, IsMemberForm, IsStored, IsBetween, IsPlaced}
use Rattle.cq_store.specs.StoreValue.{IsCallList, in_force, IsCallMoment, MayRefuse, MayTake, Only}
use Rattle.cq_tableau.proofs.Steps.{form_more, form_last, flag_more}
use Rattle.cq_tableau.proofs.Storing.{placed_known, asked_kept}
use Rattle.cq_tableau.proofs.Numbering.{mentioned, known_of, all_variables}
use Rattle.cq_tableau.proofs.Working.{IsAtWork, pivot_makes, form_makes}
use Rattle.cq_tableau.proofs.Chains.{bland}

nowhere : (names : List Name) (n : ℕ) → slice_get names n ≡ None → length names ≤ n
nowhere [] n e = omega arith
nowhere (t ∷ names) zero e = cc
nowhere (t ∷ names) (suc n) e = let h = nowhere names n e in omega (arith, h)

-- what is kept speaks of the weak list
pub speaks_of : (forms : List Linear) (l : List Constraint) (roles : List Role) (flags : List Bool) → Keeps forms l roles flags → Speaks forms l roles flags
speaks_of forms l roles flags k = record { table = k.table; size = k.size; describes = k.describes; sound = k.invariant.sound; dropped = k.dropped }

unfoldable pub between_of : (l : List Constraint) (names : List Name) (q : Quantities) → IsStored l names q → IsBetween l names q
between_of l names q s = record {
  forms = s.forms;
  keeps = speaks_of s.forms l q.roles q.restricted s.keeps;
  size = s.size;
  variables = s.variables;
  members = s.members;
  placed = s.placed;
  once = s.once;
  ascends = s.ascends;
  owned = s.owned;
  flagged = s.flagged;
  dropped = s.dropped;
  mentioned = s.mentioned;
  known = s.known;
}

-- ---- a form that is asked of the list
module _ (l : List Constraint) (names : List Name) (q : Quantities) (s : IsBetween l names q) (f : Linear) (knows : (x : ℕ) → Mentions x f.products → IsKnown names x) where
  abbrev pub asked : List Linear
  asked = f ∷ variable_forms names

  known : (x : ℕ) → SomeMentions x l ⊎ SomeFormMentions x asked → IsKnown names x
  known x (inl h) = s.known x h
  known x (inr (inl h)) = knows x h
  known x (inr (inr h)) = known_of names x h

  none_behind : (n : ℕ) → n < length q.roles → slice_get names n ≡ None → ⊥
  none_behind n h e = let a = nowhere names n e in let b = s.size in absurd (omega (arith, h, a, b))

  -- without a row of its own
  at_rest : IsAtWork l names asked s.forms q.roles q.restricted
  at_rest = record {
    table = s.keeps.table;
    size = s.keeps.size;
    describes = s.keeps.describes;
    sound = s.keeps.sound;
    below = λ n t e. subst (λ m. n < m) s.size (slice_get_within names n t e);
    variables = s.variables;
    members = s.members;
    placed = s.placed;
    once = s.once;
    ascends = s.ascends;
    owned = s.owned;
    flagged = s.flagged;
    behind = λ n h e. absurd (none_behind n h e);
    known = known;
    all_asked = λ x k. inr (mentioned names k.0 x k.1);
  }

  behind_all : (i j : ℕ) (t : Name) → slice_get names i ≡ Some t → slice_get names j ≡ None → i < j
  behind_all i j t g h = let a = slice_get_within names i t g in let b = nowhere names j h in omega (arith, a, b)

  -- the search for a quantity's row
  rest_chain : (a : ℕ) → IsRow q.roles a → form_at s.forms a ≡ f → (aim : Aim) (n : ℕ) (new : List Role) → AreSpent q.roles q.restricted a aim n new
      → IsBlandChain (at_work l asked) n
  rest_chain a row is aim n new t =
      bland l names asked s.forms q.roles q.restricted at_rest (λ i j x y g h. absurd (none_behind i x g)) behind_all a row (inl is) new n t.reached t.column t.row t.due

  -- while it is a row, behind what has a name
  module _ (roles : List Role) (flags : List Bool) (e : flags ≡ q.restricted ++ false ∷ []) (k : Speaks (s.forms ++ f ∷ []) l roles flags)
      (row : IsRow roles (length q.roles)) where
    one_more : length roles ≡ length names + 1
    one_more = sym k.describes.size ∙ length-append s.forms (f ∷ []) ∙ ap (λ m. m + 1) (s.keeps.describes.size ∙ sym s.size)

    within : (n : ℕ) (t : Name) → slice_get names n ≡ Some t → n < length s.forms
    within n t g = subst (λ m. n < m) (s.size ∙ sym s.keeps.describes.size) (slice_get_within names n t g)

    last_is : (n : ℕ) → n < length roles → slice_get names n ≡ None → n ≡ length q.roles
    last_is n h g = let a = nowhere names n g in let b = one_more in let c = s.size in omega (arith, h, a, b, c)

    last_form : form_at (s.forms ++ f ∷ []) (length q.roles) ≡ f
    last_form = ap (form_at (s.forms ++ f ∷ [])) (sym s.keeps.describes.size) ∙ form_last s.forms f

    at_row : IsAtWork l names asked (s.forms ++ f ∷ []) roles flags
    at_row = record {
      table = k.table;
      size = k.size;
      describes = k.describes;
      sound = k.sound;
      below = λ n t g. let a = slice_get_within names n t g in let b = one_more in omega (arith, a, b);
      variables = λ n x g. form_more s.forms f n (within n _ g) ∙ s.variables n x g;
      members = λ n i g. subst (IsMemberForm l i) (sym (form_more s.forms f n (within n _ g))) (s.members n i g);
      placed = s.placed;
      once = s.once;
      ascends = s.ascends;
      owned = λ n r. s.owned n (sym (flag_more q.restricted n) ∙ subst (λ g. is_restricted g n ≡ true) e r);
      flagged = λ n m. subst (λ g. is_restricted g n ≡ true) (sym e) (flag_more q.restricted n ∙ s.flagged n m);
      behind = λ n h g. let i = last_is n h g in (subst (IsRow roles) (sym i) row, inl (ap (form_at (s.forms ++ f ∷ [])) i ∙ last_form));
      known = known;
      all_asked = λ x m. inr (mentioned names m.0 x m.1);
    }

    row_chain : (aim : Aim) (n : ℕ) (new : List Role) → AreSpent roles flags (length q.roles) aim n new → IsBlandChain (at_work l asked) n
    row_chain aim n new t =
        bland l names asked (s.forms ++ f ∷ []) roles flags at_row (λ i j a b g h. last_is i a g ∙ sym (last_is j b h)) behind_all
        (length q.roles) row (inl last_form) new n t.reached t.column t.row t.due

  -- ---- the moments of a call for a told list
  module _ (told : List Constraint) (Joins Questions : Constraint → Type 0) (is_list : IsCallList told Joins Questions l) (is_asked : IsAsked l Joins Questions f) where
    call_moment : IsCallMoment told Joins Questions (at_work l asked)
    call_moment = record {
      stage = refl;
      list = is_list;
      asked = (is_asked, all_variables (IsAsked l Joins Questions) (λ x. of_variable x) names);
      operations = refl;
      rows = refl;
    }

    refuses : (pair : Pair) → Makes (at_work l asked) pair.operation pair.left pair.right → IsRefused pair → MayRefuse told Joins Questions pair
    refuses pair m r = record { moment = at_work l asked; of_call = call_moment; due = record { made = m; refused = r } }

    takes : (n : ℕ) → IsBlandChain (at_work l asked) n → MayTake told Joins Questions n
    takes n b = record { moment = at_work l asked; of_call = call_moment; chain = b }

    -- adding the form
    pub asked_form_refused : IsForm f → (entries : List Entry) → IsPlaced names f.products entries → (pair : Pair) → RefusesForm q.roles entries f.constant pair
        → MayRefuse told Joins Questions pair
    asked_form_refused ordered entries placed pair r =
        refuses pair (form_makes l names asked s.forms q.roles q.restricted at_rest f (inl refl) ordered entries placed r.0) r.1

    -- exchanges of rows of the list's quantities
    pub exchange_refused : (r c : ℕ) (pair : Pair) → RefusesPivot q.roles r c pair → MayRefuse told Joins Questions pair
    exchange_refused r c pair p = refuses pair (pivot_makes l names asked s.forms q.roles q.restricted at_rest r c p.0) p.1

    pub exchanges_spent : (a : ℕ) → IsRow q.roles a → form_at s.forms a ≡ f → (aim : Aim) (n : ℕ) (new : List Role) → AreSpent q.roles q.restricted a aim n new
        → MayTake told Joins Questions n
    exchanges_spent a row is aim n new t = takes n (rest_chain a row is aim n new t)

    -- and while the form is a row
    module _ (roles : List Role) (flags : List Bool) (e : flags ≡ q.restricted ++ false ∷ []) (k : Speaks (s.forms ++ f ∷ []) l roles flags)
        (row : IsRow roles (length q.roles)) where
      pub asked_refused : (r c : ℕ) (pair : Pair) → RefusesPivot roles r c pair → MayRefuse told Joins Questions pair
      asked_refused r c pair p = refuses pair (pivot_makes l names asked (s.forms ++ f ∷ []) roles flags (at_row roles flags e k row) r c p.0) p.1

      pub asked_spent : (aim : Aim) (n : ℕ) (new : List Role) → AreSpent roles flags (length q.roles) aim n new → MayTake told Joins Questions n
      asked_spent aim n new t = takes n (row_chain roles flags e k row aim n new t)

-- ---- a form that is asked of the told list
module _ (told : List Constraint) (names : List Name) (q : Quantities) (s : IsStored told names q) (f : Linear) (Joins Questions : Constraint → Type 0) (is_asked : IsAsked told Joins Questions f) where
  pub asking_refused : (pair : Pair) → RefusesAsking names q f pair → MayRefuse told Joins Questions pair
  asking_refused pair r =
      asked_form_refused told r.new_names r.before (between_of told r.new_names r.before (r.stays told s)) f (λ x m. placed_known r.new_names f.products r.entries r.placed x m)
      told Joins Questions (in_force alone) is_asked r.ordered r.entries r.placed pair r.refused

  -- its row is there
  module _ (new_names : List Name) (mid : Quantities) (n : ℕ) (a : AsksForm names q f new_names mid n) where
    knows_form : (x : ℕ) → Mentions x f.products → IsKnown new_names x
    knows_form x m = placed_known new_names f.products a.entries a.placed x m

    pub row_refused : (roles : List Role) → Keeps ((a.stays told s).forms ++ f ∷ []) told roles mid.restricted → IsRow roles n → (r c : ℕ) (pair : Pair) → RefusesPivot roles r c pair
        → MayRefuse told Joins Questions pair
    unfolding between_of
    row_refused roles k row r c pair p =
        asked_refused told new_names a.before (between_of told new_names a.before (a.stays told s)) f knows_form told Joins Questions (in_force alone) is_asked
        roles mid.restricted a.flags (speaks_of ((a.stays told s).forms ++ f ∷ []) told roles mid.restricted k) (subst (IsRow roles) a.number row) r c pair p

    pub row_spent : (roles : List Role) → Keeps ((a.stays told s).forms ++ f ∷ []) told roles mid.restricted → IsRow roles n → (aim : Aim) (budget : ℕ) (new : List Role)
        → AreSpent roles mid.restricted n aim budget new → MayTake told Joins Questions budget
    unfolding between_of
    row_spent roles k row aim budget new t =
        asked_spent told new_names a.before (between_of told new_names a.before (a.stays told s)) f knows_form told Joins Questions (in_force alone) is_asked
        roles mid.restricted a.flags (speaks_of ((a.stays told s).forms ++ f ∷ []) told roles mid.restricted k) (subst (IsRow roles) a.number row)
        aim budget new (subst (λ m. AreSpent roles mid.restricted m aim budget new) a.number t)

-- ---- a constraint that joins, of which the form is a row
module _ (told : List Constraint) (names : List Name) (q : Quantities) (s : IsStored told names q) (c : Constraint) (new_names : List Name) (mid : Quantities) (n : ℕ)
    (a : AsksForm names q c.form new_names mid n) where
  pub raise_refused : (pair : Pair) → RefusesRaise n mid.roles mid.restricted pair → MayRefuse told (Only c) NoQuestion pair
  raise_refused pair r =
      row_refused told names q s c.form (Only c) NoQuestion (of_joining c refl) new_names mid n a r.roles
      (r.keeps ((a.stays told s).forms ++ c.form ∷ []) told (asked_kept told names q s c.form new_names mid n a)) r.is_row r.row r.column pair (r.made, r.refused)

  pub raise_spent : (budget : ℕ) → SpendsRaise n mid.roles mid.restricted budget → MayTake told (Only c) NoQuestion budget
  raise_spent budget t =
      row_spent told names q s c.form (Only c) NoQuestion (of_joining c refl) new_names mid n a t.roles
      (t.keeps ((a.stays told s).forms ++ c.form ∷ []) told (asked_kept told names q s c.form new_names mid n a)) t.is_row Positive budget t.last t.spent

-- ---- a form whose row stands behind what is stored, in other roles too
module _ (told : List Constraint) (names : List Name) (q : Quantities) (s : IsStored told names q) (f : Linear) (Joins Questions : Constraint → Type 0) (is_asked : IsAsked told Joins Questions f)
    (knows : (x : ℕ) → Mentions x f.products → IsKnown names x) (roles : List Role) (flags : List Bool) (e : flags ≡ q.restricted ++ false ∷ [])
    (k : Speaks (s.forms ++ f ∷ []) told roles flags) (row : IsRow roles (length q.roles)) where
  pub behind_refused : (r c : ℕ) (pair : Pair) → RefusesPivot roles r c pair → MayRefuse told Joins Questions pair
  unfolding between_of
  behind_refused r c pair p = asked_refused told names q (between_of told names q s) f knows told Joins Questions (in_force alone) is_asked roles flags e k row r c pair p

  pub behind_spent : (aim : Aim) (budget : ℕ) (new : List Role) → AreSpent roles flags (length q.roles) aim budget new → MayTake told Joins Questions budget
  unfolding between_of
  behind_spent aim budget new t = asked_spent told names q (between_of told names q s) f knows told Joins Questions (in_force alone) is_asked roles flags e k row aim budget new t
