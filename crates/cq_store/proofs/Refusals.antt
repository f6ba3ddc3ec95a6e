-- Certificates over restored columns refute, and the stops on the way to them are due.
use Rattle.std.proofs.Common.{◌≡◌, ℕ, suc, ◌+◌, List, [], ◌∷◌, ◌++◌, length, Bool, true, false, Some, inl, inr, pos, add-one, refl, ap, sym, subst, ◌∙◌}
use Rattle.std.proofs.lemmas.Option.{slice_get_within, same_Some}
use Rattle.spec_numbers.specs.Rational.{ℚ, 0ℚ, 1ℚ, neg_ℚ, ◌≤ℚ◌}
use Rattle.spec_numbers.specs.Sums.{Monomial, Mentions, negated_products}
use Rattle.spec_numbers.proofs.Ring.{int, minus}
use Rattle.spec_numbers.proofs.RationalLemmas.{ring}
use Rattle.spec_numbers.proofs.Order.{le_refl}
use Rattle.spec_linear.specs.declared.Relation.TheVariants.{Gt, Ne}
use Rattle.spec_linear.specs.Form.{Linear, value_at, negated_form}
use Rattle.spec_linear.specs.Solution.{Constraint, Satisfies, Unsolvable}
use Rattle.spec_linear.proofs.Values.{value_at-negated_form}
use Rattle.spec_linear.specs.Certificate.{member, Refutes}
use Rattle.spec_linear.specs.Weak.{weak}
use Rattle.spec_projection.specs.Elimination.{IsInequality}
use Rattle.spec_simplex.specs.Asked.{IsAsked, NoQuestion, alone, of_member, of_joining, negated}
use Rattle.spec_simplex.specs.Reach.{IsGreatest}
use Rattle.spec_simplex.proofs.TableauWritten.{basic, basic_solves}
use Rattle.cq_frac.specs.declared.Pair.{Pair}
use Rattle.cq_dict.specs.declared.table.Role.{Role}
use Rattle.cq_frac.specs.declared.row.Entry.{Entry}
use Rattle.cq_frac.specs.Row.{Row}
use Rattle.cq_dict.specs.declared.table.Role.TheVariants.{Basic}
use Rattle.cq_dict.specs.Roles.{Quantities, IsAt, is_dropped}
use Rattle.cq_dict.proofs.Roles.{at_below}
use Rattle.cq_simplex.specs.declared.Aim.TheVariants.{Best}
use Rattle.cq_tableau.specs.declared.names.Name.{Name}
use Rattle.cq_tableau.specs.declared.names.Name.TheVariants.{Member}
use Rattle.cq_tableau.specs.Forms.{form_at, tableau}
use Rattle.cq_tableau.specs.Keeps.{Keeps, Speaks}
use Rattle.cq_tableau.specs.Raised.{IsBest}
use Rattle.cq_tableau.specs.Asking.{AsksForm}
use Rattle.cq_tableau.specs.Refuted.{number_in, IsRowCertificate, IsTooSmall}
use Rattle.cq_tableau.specs.Restored.{HasGreatest, RefusesRaised, SpendsRaised, AsksGreatest, RefusesFormEntries, making, raising, SpendsFormEntries, IsRestoredCertificate, IsFormCertificate, IsApartCertificate, RefusesEither, SpendsEither}
use Rattle.cq_tableau.specs.Stored.{IsKnown, IsStored, IsBetween}
use Rattle.cq_tableau.proofs.Certified.{inequality_refuted}
use Rattle.cq_tableau.proofs.Restores.{made_speaks}
use Rattle.cq_tableau.proofs.Steps.{dropped_more}
use Rattle.cq_tableau.proofs.Storing.{told_more, last_told, asked_row, asked_kept, form_here, placed_known}
use Rattle.cq_tableau.proofs.Tied.{maximum}
use Rattle.cq_tableau.proofs.Weights.{weighs, form_weighs, inequality_falls, disequation_falls}
use Rattle.cq_store.specs.StoreValue.{IsCallList, in_force, joined, MayRefuse, MayTake, Only}
use Rattle.cq_store.proofs.Moments.{between_of, speaks_of, asked_form_refused, asked_refused, asked_spent}
use Rattle.cq_store.proofs.Possible.{too_small_never}
use Rattle.cq_store.proofs.Stops.{has_member}

-- ---- what is asked
mentioned_negated : (x : ℕ) (s : List Monomial) → Mentions x (negated_products s) → Mentions x s
mentioned_negated x [] h = absurd h
mentioned_negated x (m ∷ s) (inl e) = inl e
mentioned_negated x (m ∷ s) (inr h) = inr (mentioned_negated x s h)

-- a member's variables are known
pub member_known : (l : List Constraint) (names : List Name) (q : Quantities) → IsBetween l names q → (i : ℕ) (c : Constraint) → member l i ≡ Some c
    → (x : ℕ) → Mentions x c.form.products → IsKnown names x
member_known l names q s i c e x k =
    let p = s.placed i c e in
    let m = s.members p.0 i p.1 in
    s.mentioned p.0 (slice_get_within names p.0 (Member i) p.1) x
    (subst (λ (t : Linear). Mentions x t.products) (ap (λ (y : Constraint). y.form) (same_Some c m.constraint (sym e ∙ m.told_at)) ∙ m.form_is) k)

-- a form that is zero at the weak solutions, of which there are some
module _ (forms : List Linear) (l : List Constraint) (roles : List Role) (flags : List Bool) (k : Speaks forms l roles flags) (f : Linear)
    (z : (v : ℕ → ℚ) → Satisfies v (weak l) → value_at v f ≡ 0ℚ) where
  pub flat_greatest : IsGreatest l f 0ℚ
  flat_greatest =
      let d = tableau roles flags forms in
      record {
        bound = λ v w. subst (λ x. x ≤ℚ 0ℚ) (sym (z v w)) (le_refl 0ℚ);
        at = (basic d k.sound.written).at;
        solves = basic_solves d l k.sound;
        value = z (basic d k.sound.written).at (basic_solves d l k.sound);
      }

pub flat_opposite : (l : List Constraint) (f : Linear) → ((v : ℕ → ℚ) → Satisfies v (weak l) → value_at v f ≡ 0ℚ)
    → (v : ℕ → ℚ) → Satisfies v (weak l) → value_at v (negated_form f) ≡ 0ℚ
flat_opposite l f z v w = value_at-negated_form v f ∙ ap neg_ℚ (z v w) ∙ ring [] (minus (int (pos 0))) (int (pos 0)) refl

module _ (l : List Constraint) (names : List Name) (q : Quantities) (s : IsBetween l names q) (f : Linear) (knows : (x : ℕ) → Mentions x f.products → IsKnown names x)
    (z : (v : ℕ → ℚ) → Satisfies v (weak l) → value_at v f ≡ 0ℚ) where
  pub asks_zero : AsksGreatest names q f
  asks_zero = record { list = l; between = s; known = knows; value = 0ℚ; greatest = flat_greatest s.forms l q.roles q.restricted s.keeps f z }

  pub asks_opposite : AsksGreatest names q (negated_form f)
  asks_opposite = record {
    list = l;
    between = s;
    known = λ x h. knows x (mentioned_negated x f.products h);
    value = 0ℚ;
    greatest = flat_greatest s.forms l q.roles q.restricted s.keeps (negated_form f) (flat_opposite l f z);
  }

-- ---- stops
module _ (l : List Constraint) (names : List Name) (q : Quantities) (s : IsBetween l names q) (f : Linear) (knows : (x : ℕ) → Mentions x f.products → IsKnown names x)
    (told : List Constraint) (Joins Questions : Constraint → Type 0) (is_list : IsCallList told Joins Questions l) (is_asked : IsAsked l Joins Questions f) where
  -- of a row behind the quantities that have names
  module _ (old : List Role) (flags : List Bool) (e : flags ≡ q.restricted ++ false ∷ []) (k : Speaks (s.forms ++ f ∷ []) l old flags) where
    pub raised_refused : (pair : Pair) → RefusesRaised (length q.roles) old flags pair → MayRefuse told Joins Questions pair
    raised_refused pair r =
        asked_refused l names q s f knows told Joins Questions is_list is_asked r.roles flags e (r.speaks (s.forms ++ f ∷ []) l k) r.is_row r.row r.column pair (r.made, r.refused)

    pub raised_spent : (n : ℕ) → SpendsRaised (length q.roles) old flags n → MayTake told Joins Questions n
    raised_spent n r =
        asked_spent l names q s f knows told Joins Questions is_list is_asked r.roles flags e (r.speaks (s.forms ++ f ∷ []) l k) r.is_row Best n r.last r.spent

  pub form_entries_refused : (pair : Pair) → RefusesFormEntries names q f pair → MayRefuse told Joins Questions pair
  form_entries_refused pair (making entries placed ordered r) =
      asked_form_refused l names q s f knows told Joins Questions is_list is_asked ordered entries placed pair r
  form_entries_refused pair (raising mid h r) =
      raised_refused mid.roles mid.restricted h.flags (made_speaks l names q s f mid h) pair r

  pub form_entries_spent : (n : ℕ) → SpendsFormEntries names q f n → MayTake told Joins Questions n
  form_entries_spent n r = raised_spent r.mid.roles r.mid.restricted r.has_row.flags (made_speaks l names q s f r.mid r.has_row) n r.spends

-- ---- certificates
-- the row of a constraint behind the told list
pub row_certified : (told : List Constraint) (names : List Name) (q : Quantities) (s : IsBetween told names q) (c : Constraint) → IsInequality c.relation
    → (old : List Role) (flags : List Bool) → flags ≡ q.restricted ++ false ∷ [] → Speaks (s.forms ++ c.form ∷ []) told old flags
    → ((z : ℕ) → is_dropped old z ≡ true → is_dropped q.roles z ≡ true) → (v : ℚ) → IsGreatest told c.form v → IsTooSmall c.relation v
    → (number : ℕ) → number ≡ length told + 1 → (cert : List (ℕ × ℚ)) → IsRestoredCertificate names (length q.roles) old flags number cert
    → Refutes cert (told ++ c ∷ [])
row_certified told names q s c i old flags e k was v g small number num cert x =
    subst (λ y. Refutes y (told ++ c ∷ [])) (ap (λ j. (j, 1ℚ) ∷ x.found) (sym (num ∙ add-one (length told))) ∙ sym x.is)
    (inequality_falls (told ++ c ∷ []) (number_in names) c (suc (length told)) (last_told told c) i v x.found
    (weighs told (told ++ c ∷ []) (told_more told c) names q s c.form old flags e k was x.found x.highest v g) small)

module _ (l : List Constraint) (names : List Name) (q : Quantities) (s : IsBetween l names q) (c : Constraint) (number : ℕ) (at : member l number ≡ Some c)
    (z : (v : ℕ → ℚ) → Satisfies v (weak l) → value_at v c.form ≡ 0ℚ) where
  -- a strict member
  pub strict_certified : c.relation ≡ Gt → (cert : List (ℕ × ℚ)) → IsFormCertificate names q c.form number cert → Refutes cert l
  strict_certified r cert x =
      subst (λ y. Refutes y l) (sym x.is)
      (inequality_falls l (number_in names) c number at (subst IsInequality (sym r) tt) 0ℚ x.found
      (form_weighs l l (λ i k e. e) names q s c.form x.found x.entries 0ℚ (flat_greatest s.forms l q.roles q.restricted s.keeps c.form z)) (inr (refl, r)))

  -- a disequation
  pub apart_certified : c.relation ≡ Ne → (cert : List (ℕ × ℚ)) → IsApartCertificate names q c.form number cert → Refutes cert l
  apart_certified r cert x =
      subst (λ y. Refutes y l) (sym x.is)
      (disequation_falls l (number_in names) c number at r x.up x.down
      (form_weighs l l (λ i k e. e) names q s c.form x.up x.rises 0ℚ (flat_greatest s.forms l q.roles q.restricted s.keeps c.form z))
      (form_weighs l l (λ i k e. e) names q s (negated_form c.form) x.down x.falls 0ℚ
      (flat_greatest s.forms l q.roles q.restricted s.keeps (negated_form c.form) (flat_opposite l c.form z))))

-- ---- a row whose greatest value is too small
module _ (told : List Constraint) (names : List Name) (q : Quantities) (s : IsStored told names q) (c : Constraint) (new_names : List Name) (mid : Quantities) (n : ℕ)
    (a : AsksForm names q c.form new_names mid n) (new : List Role) (new_flags : List Bool) (v : ℚ) (multipliers : List Entry)
    (b : IsBest n mid.roles mid.restricted new new_flags v multipliers) where
  abbrev there : IsStored told new_names a.before
  there = a.stays told s

  before : Keeps (there.forms ++ c.form ∷ []) told mid.roles mid.restricted
  before = asked_kept told names q s c.form new_names mid n a

  speaks : Speaks (there.forms ++ c.form ∷ []) told new new_flags
  speaks =
      speaks_of (there.forms ++ c.form ∷ []) told new new_flags
      (subst (λ g. Keeps (there.forms ++ c.form ∷ []) told new g) (sym b.same_flags) (b.keeps (there.forms ++ c.form ∷ []) told before))

  was : (z : ℕ) → is_dropped new z ≡ true → is_dropped a.before.roles z ≡ true
  was z d = sym (dropped_more a.before.roles (Basic a.row.row) refl z) ∙ ap (λ m. is_dropped m z) (sym a.row.last) ∙ sym (b.dropped z) ∙ d

  best : IsGreatest told (form_at (there.forms ++ c.form ∷ []) n) v
  best =
      let r = asked_row told names q s c.form new_names mid n a in
      maximum mid.roles mid.restricted (there.forms ++ c.form ∷ []) told before.describes before.invariant.sound n (at_below mid.roles n (Basic r.0) r.1) new v b.maximum

  pub best_greatest : HasGreatest new new_flags n
  best_greatest = record { forms = there.forms ++ c.form ∷ []; list = told; speaks = speaks; value = v; greatest = best }

  pub best_refuted : IsInequality c.relation → IsTooSmall c.relation v → (cert : List (ℕ × ℚ))
      → ((own : Row) → IsAt new n (Basic own) → IsRowCertificate told new_names (length told + 1) own cert) → Refutes cert (told ++ c ∷ [])
  best_refuted i small cert x =
      inequality_refuted told new_names a.before there c i a.entries a.placed mid.roles a.row a.defines a.table mid.restricted a.flags n a.number new new_flags v multipliers b small
      (length told + 1) refl cert x

  pub best_certified : IsInequality c.relation → IsTooSmall c.relation v → (cert : List (ℕ × ℚ)) → IsRestoredCertificate new_names n new new_flags (length told + 1) cert
      → Refutes cert (told ++ c ∷ [])
  unfolding between_of
  best_certified i small cert x =
      row_certified told new_names a.before (between_of told new_names a.before there) c i new new_flags (b.same_flags ∙ a.flags) speaks was v
      (subst (λ f. IsGreatest told f v)
      (form_here told new_names a.before there c a.entries a.placed mid.roles a.row a.defines a.table mid.restricted a.flags n a.number) best) small (length told + 1) refl cert
      (subst (λ y. IsRestoredCertificate new_names y new new_flags (length told + 1) cert) a.number x)

  -- it can't join
  pub best_never : IsInequality c.relation → IsTooSmall c.relation v → Unsolvable (told ++ c ∷ [])
  best_never i small =
      too_small_never told c i v
      (subst (λ f. IsGreatest told f v)
      (form_here told new_names a.before there c a.entries a.placed mid.roles a.row a.defines a.table mid.restricted a.flags n a.number) best) small

  form_knows : (x : ℕ) → Mentions x c.form.products → IsKnown new_names x
  form_knows x m = placed_known new_names c.form.products a.entries a.placed x m

  pub best_refused : (pair : Pair) → RefusesRaised n new new_flags pair → MayRefuse told (Only c) NoQuestion pair
  unfolding between_of
  best_refused pair r =
      raised_refused told new_names a.before (between_of told new_names a.before there) c.form form_knows told (Only c) NoQuestion (in_force alone) (of_joining c refl)
      new new_flags (b.same_flags ∙ a.flags) speaks pair (subst (λ y. RefusesRaised y new new_flags pair) a.number r)

  pub best_spent : (k : ℕ) → SpendsRaised n new new_flags k → MayTake told (Only c) NoQuestion k
  unfolding between_of
  best_spent k r =
      raised_spent told new_names a.before (between_of told new_names a.before there) c.form form_knows told (Only c) NoQuestion (in_force alone) (of_joining c refl)
      new new_flags (b.same_flags ∙ a.flags) speaks k (subst (λ y. SpendsRaised y new new_flags k) a.number r)

-- ---- a member of the list with the constraint, whose form is zero
module _ (told : List Constraint) (c : Constraint) (names : List Name) (q : Quantities) (s : IsBetween (told ++ c ∷ []) names q) (k : Constraint) (number : ℕ)
    (at : member (told ++ c ∷ []) number ≡ Some k) (flat : (v : ℕ → ℚ) → Satisfies v (weak (told ++ c ∷ [])) → value_at v k.form ≡ 0ℚ) where
  knows : (x : ℕ) → Mentions x k.form.products → IsKnown names x
  knows = member_known (told ++ c ∷ []) names q s number k at

  asked : IsAsked (told ++ c ∷ []) (Only c) NoQuestion k.form
  asked = of_member k (has_member (told ++ c ∷ []) number k at)

  knows_opposite : (x : ℕ) → Mentions x (negated_form k.form).products → IsKnown names x
  knows_opposite x h = knows x (mentioned_negated x k.form.products h)

  pub member_asks : AsksGreatest names q k.form
  member_asks = asks_zero (told ++ c ∷ []) names q s k.form knows flat

  pub member_asks_opposite : AsksGreatest names q (negated_form k.form)
  member_asks_opposite = asks_opposite (told ++ c ∷ []) names q s k.form knows flat

  pub member_refused : (pair : Pair) → RefusesFormEntries names q k.form pair → MayRefuse told (Only c) NoQuestion pair
  member_refused pair r = form_entries_refused (told ++ c ∷ []) names q s k.form knows told (Only c) NoQuestion (joined c refl) asked pair r

  pub member_spent : (n : ℕ) → SpendsFormEntries names q k.form n → MayTake told (Only c) NoQuestion n
  member_spent n r = form_entries_spent (told ++ c ∷ []) names q s k.form knows told (Only c) NoQuestion (joined c refl) asked n r

  pub either_refused : (pair : Pair) → RefusesEither names q k.form pair → MayRefuse told (Only c) NoQuestion pair
  either_refused pair (inl r) = member_refused pair r
  either_refused pair (inr r) =
      form_entries_refused (told ++ c ∷ []) names q s (negated_form k.form) knows_opposite told (Only c) NoQuestion (joined c refl) (negated k.form asked) pair r

  pub either_spent : (n : ℕ) → SpendsEither names q k.form n → MayTake told (Only c) NoQuestion n
  either_spent n (inl r) = member_spent n r
  either_spent n (inr r) =
      form_entries_spent (told ++ c ∷ []) names q s (negated_form k.form) knows_opposite told (Only c) NoQuestion (joined c refl) (negated k.form asked) n r
