-- Arguments that show different heads, and what they say of a goal and a head.
use Rattle.std.proofs.Common.{◌≡◌, ◌≢◌, ℕ, suc, zero, ◌+◌, ◌<◌, ◌≤◌, List, [], ◌∷◌, ◌++◌, map, length, drop, get_or, Some, refl, sym, ap, ◌∙◌, subst, arith, append-nil, drop-cons}
use Rattle.std.specs.Prelude.{slice_get}
use Rattle.std.specs.Option.{option_map}
use Rattle.std.proofs.lemmas.List.{length-map}
use Rattle.std.proofs.lemmas.Option.{same_Some, slice_get-map}
use Rattle.spec_terms.specs.Term.{Terms, Subst, Var, Number, Name, Compound, one, more, apply, apply_all, count, list_of}
use Rattle.cq_term.specs.Meaning.{HeapTerm, at}
use Rattle.cq_term.specs.Shown.{arguments, view_of}
use Rattle.cq_term.proofs.Arguments.{shown_variable}
use Rattle.cq_term.proofs.Kept.{arg_is}
use Rattle.cq_term.specs.declared.view.View.{View}
use Rattle.cq_term.specs.declared.view.View.TheVariants as view
use Rattle.cq_resolve.specs.FirstArgument.{IsRigid}
use Rattle.cq_resolve.specs.Marks.{shown, size_of, AreMarked}
use Rattle.cq_resolve.specs.Parts.{Parts}
use Rattle.cq_resolve.specs.Pattern.{heads, heads_in, read, term_of, IsPattern}
use Rattle.cq_resolve.specs.declared.stored.part.Part.{Part}
use Rattle.cq_resolve.proofs.FirstArguments.{begins, rigid_kept}
use Rattle.cq_resolve.proofs.Marks.{part_ends, sized_left, some_read_at, shown_at}
use Rattle.cq_resolve.proofs.Matched.{parts_at}
use Rattle.cq_resolve.proofs.Reading.{pattern_heads, read-heads_in}
use Rattle.cq_calls.specs.Matching.{AreApart, AreArguments, ArgumentsBegin}

-- ---- under a substitution

list_under : (s : Subst ℕ) (ts : Terms ℕ) → list_of (apply_all s ts) ≡ map (apply s) (list_of ts)
list_under s (one t) = refl
list_under s (more t ts) = ap (λ us. apply s t ∷ us) (list_under s ts)

nothing_there : {A : Type 0} (i : ℕ) (x : A) → slice_get [] i ≡ Some x → ⊥
nothing_there zero x e = cc
nothing_there (suc i) x e = cc

argument_under : (s : Subst ℕ) (t x : HeapTerm) (i : ℕ) → slice_get (arguments t) i ≡ Some x → slice_get (arguments (apply s t)) i ≡ Some (apply s x)
argument_under s (Var v) x i e = absurd (nothing_there i x e)
argument_under s (Number q) x i e = absurd (nothing_there i x e)
argument_under s (Name a) x i e = absurd (nothing_there i x e)
argument_under s (Compound f ts) x i e = ap (λ us. slice_get us i) (list_under s ts) ∙ slice_get-map (apply s) (list_of ts) i ∙ ap (option_map (apply s)) e

same_argument : (s : Subst ℕ) (t u x y : HeapTerm) (i : ℕ) → apply s t ≡ apply s u → slice_get (arguments t) i ≡ Some x → slice_get (arguments u) i ≡ Some y → apply s x ≡ apply s y
same_argument s t u x y i same e d =
    same_Some (apply s x) (apply s y) (sym (argument_under s t x i e) ∙ ap (λ v. slice_get (arguments v) i) same ∙ argument_under s u y i d)

-- ---- a goal and a head

-- they show different heads as an argument
pub apart : (goal head x y : HeapTerm) (i : ℕ) → slice_get (arguments goal) i ≡ Some x → slice_get (arguments head) i ≡ Some y → IsRigid (view_of x) → IsRigid (view_of y)
    → view_of x ≢ view_of y → AreApart goal head
apart goal head x y i e d rigid_x rigid_y differ = λ r s k.
    let still : view_of (apply r y) ≡ view_of y = rigid_kept r y rigid_y in
    differ
    (sym (rigid_kept s x rigid_x) ∙ ap view_of (same_argument s goal (apply r head) x (apply r y) i k.0 e (argument_under r head y i d))
    ∙ rigid_kept s (apply r y) (subst IsRigid (sym still) rigid_y) ∙ still)

-- two arguments of the goal that show different heads are one variable in the head
pub apart_again : (goal head x y : HeapTerm) (i j v : ℕ) → slice_get (arguments goal) i ≡ Some x → slice_get (arguments goal) j ≡ Some y
    → slice_get (arguments head) i ≡ Some (Var v) → slice_get (arguments head) j ≡ Some (Var v) → IsRigid (view_of x) → IsRigid (view_of y)
    → view_of x ≢ view_of y → AreApart goal head
apart_again goal head x y i j v e f d g rigid_x rigid_y differ = λ r s k.
    let left = same_argument s goal (apply r head) x (r v) i k.0 e (argument_under r head (Var v) i d) in
    let right = same_argument s goal (apply r head) y (r v) j k.0 f (argument_under r head (Var v) j g) in
    differ (sym (rigid_kept s x rigid_x) ∙ ap view_of (left ∙ sym right) ∙ rigid_kept s y rigid_y)

-- ---- the parts of the head

pub begin_first : (count : ℕ) (hs : List View) → IsPattern count hs → ArgumentsBegin hs 1 0
begin_first count hs p = ap (λ us. read (drop 1 us)) (sym (pattern_heads count hs p)) ∙ behind (term_of hs)
  where
    behind : (t : HeapTerm) → read (drop 1 (heads t)) ≡ arguments t
    behind (Var v) = refl
    behind (Number q) = refl
    behind (Name a) = refl
    behind (Compound f ts) = ap read (sym (append-nil (heads_in ts))) ∙ read-heads_in ts [] ∙ append-nil (list_of ts)

first_dropped : {A : Type 0} (xs ys : List A) (i : ℕ) (x : A) → drop i xs ≡ x ∷ ys → slice_get xs i ≡ Some x
first_dropped [] ys zero x e = cc
first_dropped [] ys (suc i) x e = cc
first_dropped (z ∷ xs) ys zero x e = cc
first_dropped (z ∷ xs) ys (suc i) x e = first_dropped xs ys i x e

others_dropped : {A : Type 0} (xs ys : List A) (i : ℕ) (x : A) → drop i xs ≡ x ∷ ys → drop (suc i) xs ≡ ys
others_dropped [] ys zero x e = cc
others_dropped [] ys (suc i) x e = cc
others_dropped (z ∷ xs) ys zero x e = cc
others_dropped (z ∷ xs) ys (suc i) x e = others_dropped xs ys i x e

same_front : {A : Type 0} (x y : A) (xs ys : List A) → x ∷ xs ≡ y ∷ ys → x ≡ y
same_front x y xs ys e = cc

module _ (head : List Part) (count : ℕ) (pattern : IsPattern count (map shown head)) (marks : AreMarked head) (place i : ℕ) (begin : ArgumentsBegin (map shown head) place i)
    (within : place < length head) (p : Part) (is : p ≡ get_or head place p) where
  abbrev hs : List View
  hs = map shown head

  abbrev argument : HeapTerm
  argument = term_of (drop place hs)

  part : (next : ℕ) → next ≡ place + size_of p → Parts hs place next
  part next e = part_ends head place count pattern.fits (some_read_at head place within) p is within (sized_left place head marks.sized) next e

  from_here : (next : ℕ) → next ≡ place + size_of p → drop i (arguments (term_of hs)) ≡ argument ∷ read (drop next hs)
  from_here next e = sym begin ∙ parts_at hs place next (some_read_at head place within) (part next e).rest

  -- the argument that begins there
  pub argument_there : slice_get (arguments (term_of hs)) i ≡ Some argument
  argument_there = first_dropped (arguments (term_of hs)) (read (drop (place + size_of p) hs)) i argument (from_here (place + size_of p) refl)

  -- the part shows its head
  pub argument_shows : view_of argument ≡ shown p
  argument_shows =
      let front = begins argument in
      let here : shown p ≡ get_or hs place (shown p) = shown_at head place p (shown p) within is refl in
      same_front (view_of argument) (shown p) (front.0 ++ drop (place + size_of p) hs) (drop (suc place) hs)
      (ap (λ us. us ++ drop (place + size_of p) hs) (sym front.1) ∙ sym (part (place + size_of p) refl).term
      ∙ drop-cons hs place (shown p) (omega (arith, within, length-map head shown)) ∙ ap (λ h. h ∷ drop (suc place) hs) (sym here))

  -- a variable of the head
  pub variable_there : (v : ℕ) → shown p ≡ view.Var (record { 0 = v }) → slice_get (arguments (term_of hs)) i ≡ Some (Var v)
  variable_there v e = argument_there ∙ ap (λ t. Some t) (shown_variable argument (record { 0 = v }) (argument_shows ∙ e))

  -- the next one begins behind it
  pub begin_next : (next later : ℕ) → next ≡ place + size_of p → later ≡ suc i → ArgumentsBegin hs next later
  begin_next next later e l =
      subst (λ n. ArgumentsBegin hs next n) (sym l) (sym (others_dropped (arguments (term_of hs)) (read (drop next hs)) i argument (from_here next e)))

  pub ends_within : (size : ℕ) → size ≡ size_of p → place + size ≤ length head
  ends_within size e = omega (arith, e, (part (place + size_of p) refl).within, length-map head shown)

  -- ---- the goal's argument

  module _ (ts : List HeapTerm) (ids : List ℕ) (id : ℕ) (there : i < length ids) (stands : id ≡ get_or ids i id) (goal : HeapTerm) (args : AreArguments ts goal ids) where
    asked : slice_get (arguments goal) i ≡ Some (at ts id)
    asked = arg_is ts (arguments goal) ids i id (sym args) there stands

    -- it shows another head than the part
    pub other_head : (left right : View) → left ≡ view_of (at ts id) → right ≡ shown p → IsRigid left × IsRigid right × (left ≢ right) → AreApart goal (term_of hs)
    other_head left right l r d =
        apart goal (term_of hs) (at ts id) argument i asked argument_there (subst IsRigid l d.0) (subst IsRigid (r ∙ sym argument_shows) d.1)
        (λ e. d.2 (l ∙ e ∙ argument_shows ∙ sym r))

    -- and than another argument, where the head has one variable as both
    pub other_again : (k later v : ℕ) → k < length ids → later ≡ get_or ids k later → shown p ≡ view.Var (record { 0 = v }) → slice_get (arguments (term_of hs)) k ≡ Some (Var v)
        → (left right : View) → left ≡ view_of (at ts id) → right ≡ view_of (at ts later) → IsRigid left × IsRigid right × (left ≢ right) → AreApart goal (term_of hs)
    other_again k later v within is_later e again left right l r d =
        apart_again goal (term_of hs) (at ts id) (at ts later) i k v asked (arg_is ts (arguments goal) ids k later (sym args) within is_later) (variable_there v e) again
        (subst IsRigid l d.0) (subst IsRigid r d.1) (λ e. d.2 (l ∙ e ∙ sym r))
