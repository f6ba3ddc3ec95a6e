-- Marks that are right say where a part of a pattern ends and which variables stand in it.
use Rattle.std.proofs.Common.{◌≡◌, ℕ, zero, suc, ◌+◌, ◌-◌, ◌<◌, ◌≤◌, List, [], ◌∷◌, ◌++◌, length, map, take, drop, get_or, Bool, true, false, cond, not, refl, ap, sym, ◌∙◌, subst, inl, inr, arith, append_assoc, append-nil, length-append}
use Rattle.std.specs.Prelude.{max, slice_set, ◌||◌}
use Rattle.std.specs.List.{list_any, position_or_len}
use Rattle.std.proofs.lemmas.Bool.{false≢true}
use Rattle.std.proofs.Common.{ℤ, of_z, to_z}
use Rattle.std.proofs.lemmas.Int.{to_z-of_z}
use mir.Val.{SFits}
use mir.Syntax.{w64}
use Rattle.spec_numbers.specs.Rational.{ℚ, int_ℚ}
use Rattle.std.proofs.lemmas.List.{drop-map, drop-drop, take-map, get_or-map, length-map, length-drop, drop_at, take_more, length-take-le, map-append}
use Rattle.std.proofs.Math.Seq.{drop-cons}
use Rattle.spec_terms.specs.Term.{Terms, Var, Number, Name, Compound, one, more, terms_of, Occurs, OccursIn, with_arguments}
use Rattle.cq_term.specs.Meaning.{HeapTerm, at, blank}
use Rattle.cq_term.specs.Shown.{view_of}
use Rattle.cq_term.specs.declared.view.View.{View}
use Rattle.cq_term.specs.declared.view.View.TheVariants as view
use Rattle.cq_resolve.specs.declared.stored.part.Part.{Part}
use Rattle.cq_resolve.specs.declared.stored.part.Part.TheVariants as part
use Rattle.cq_resolve.specs.Pattern.{heads, heads_in, put, read, term_of, AreHeads, IsHead, IsBelow}
use Rattle.cq_resolve.specs.Parts.{Parts}
use Rattle.cq_resolve.specs.Marks.{shown, top, top_in, tops, widths, met_by, IsMet, AreMet, size_of, top_of, IsLeaf, IsSized, AreSized, met_over, Written}
use Rattle.cq_resolve.proofs.Reading.{all_heads, all_heads-read, heads-with_arguments, read-heads, read_some, heads_left, head_fits}
use Rattle.cq_resolve.proofs.FirstArguments.{begins}
use Rattle.cq_resolve.proofs.PartTerms.{part_is}

-- ---- the greatest variable of a term
mutual
  pub below_top : (v : ℕ) (t : HeapTerm) → Occurs v t → v < top t
  below_top v (Var w) o = (let e : v ≡ w = o in omega arith)
  below_top v (Number q) o = absurd o
  below_top v (Name a) o = absurd o
  below_top v (Compound f ts) o = below_top_in v ts o

  below_top_in : (v : ℕ) (ts : Terms ℕ) → OccursIn v ts → v < top_in ts
  below_top_in v (one t) o = below_top v t o
  below_top_in v (more t ts) o = elim o [ inl p ↦ (let h = below_top v t p in omega arith) | inr p ↦ (let h = below_top_in v ts p in omega arith) ]

mutual
  pub top_least : (n : ℕ) (t : HeapTerm) → ((v : ℕ) → Occurs v t → v < n) → top t ≤ n
  top_least n (Var w) h = (let k : w < n = h w refl in omega arith)
  top_least n (Number q) h = omega arith
  top_least n (Name a) h = omega arith
  top_least n (Compound f ts) h = top_least_in n ts h

  top_least_in : (n : ℕ) (ts : Terms ℕ) → ((v : ℕ) → OccursIn v ts → v < n) → top_in ts ≤ n
  top_least_in n (one t) h = top_least n t h
  top_least_in n (more t ts) h =
      let a = top_least n t (λ v o. h v (inl o)) in
      let b = top_least_in n ts (λ v o. h v (inr o)) in
      omega arith

-- ---- terms in a row
top_in-terms_of : (t : HeapTerm) (us : List HeapTerm) → top_in (terms_of t us) ≡ tops (t ∷ us)
top_in-terms_of t [] = omega arith
top_in-terms_of t (u ∷ us) = ap (λ n. max (top t) n) (top_in-terms_of u us)

top-with_arguments : (f : ℕ) (us : List HeapTerm) → 0 < length us → top (with_arguments f us) ≡ tops us
top-with_arguments f [] lt = absurd (omega arith)
top-with_arguments f (t ∷ us) lt = top_in-terms_of t us

tops-push : (ts : List HeapTerm) (t : HeapTerm) → tops (ts ++ t ∷ []) ≡ max (tops ts) (top t)
tops-push [] t = omega arith
tops-push (u ∷ ts) t = (let h = tops-push ts t in omega arith)

widths-push : (ts : List HeapTerm) (t : HeapTerm) → widths (ts ++ t ∷ []) ≡ widths ts + length (heads t)
widths-push [] t = omega arith
widths-push (u ∷ ts) t = (let h = widths-push ts t in omega arith)

length-all_heads : (ts : List HeapTerm) → length (all_heads ts) ≡ widths ts
length-all_heads [] = refl
length-all_heads (t ∷ ts) = (let h = length-all_heads ts in omega (arith, length-append (heads t) (all_heads ts)))

width-with_arguments : (f : ℕ) (us : List HeapTerm) → 0 < length us → length (heads (with_arguments f us)) ≡ suc (widths us)
width-with_arguments f us lt = ap length (heads-with_arguments f us lt) ∙ ap suc (length-all_heads us)

pub read-all_heads : (ts : List HeapTerm) → read (all_heads ts) ≡ ts
read-all_heads [] = refl
read-all_heads (t ∷ ts) = read-heads t (all_heads ts) ∙ ap (λ us. t ∷ us) (read-all_heads ts)

-- ---- the first part of a term
front_shown : (p : Part) (us vs : List View) (t : HeapTerm) → ◌≡◌ {A = List View} (shown p ∷ us) (heads t ++ vs) → shown p ≡ view_of t
front_shown p us vs t e =
    let b = begins t in
    ap (λ (hs : List View). get_or hs 0 (shown p)) (e ∙ ap (λ (hs : List View). hs ++ vs) b.1)

number_in : View → ℕ
number_in (view.Var v) = v.0
number_in (view.Number q) = 0
number_in (view.Name a) = 0
number_in (view.Compound f n) = 0

sized_part : (p : Part) (t : HeapTerm) → shown p ≡ view_of t → IsSized p t → (size_of p ≡ length (heads t)) × (top_of p ≡ top t)
unfolding number_in
sized_part (part.New v) (Var w) e h = (refl, ap (λ x. number_in x + 1) e)
sized_part (part.Again v) (Var w) e h = (refl, ap (λ x. number_in x + 1) e)
sized_part (part.Whole n) (Number q) e h = (refl, refl)
sized_part (part.Wide n) (Number q) e h = (refl, refl)
sized_part (part.Name a) (Name b) e h = (refl, refl)
sized_part (part.Compound n size above f) t e h = h
sized_part (part.New v) (Number q) e h = cc
sized_part (part.New v) (Name a) e h = cc
sized_part (part.New v) (Compound f ts) e h = cc
sized_part (part.Again v) (Number q) e h = cc
sized_part (part.Again v) (Name a) e h = cc
sized_part (part.Again v) (Compound f ts) e h = cc
sized_part (part.Whole n) (Var w) e h = cc
sized_part (part.Whole n) (Name a) e h = cc
sized_part (part.Whole n) (Compound f ts) e h = cc
sized_part (part.Wide n) (Var w) e h = cc
sized_part (part.Wide n) (Name a) e h = cc
sized_part (part.Wide n) (Compound f ts) e h = cc
sized_part (part.Name a) (Var w) e h = cc
sized_part (part.Name a) (Number q) e h = cc
sized_part (part.Name a) (Compound f ts) e h = cc

pub sized_left : (k : ℕ) (ps : List Part) → AreSized ps → AreSized (drop k ps)
sized_left zero ps h = h
sized_left (suc k) [] h = h
sized_left (suc k) (p ∷ ps) h = sized_left k ps h.1

-- ---- so many of the terms that begin at a place are gone through, up to an end
pub record Through (parts : List Part) (place count end above : ℕ) : Type 0 where
  pub rest : drop end (map shown parts) ≡ all_heads (drop count (read (drop place (map shown parts))))
  pub at_end : end ≡ place + widths (take count (read (drop place (map shown parts))))
  pub at_top : above ≡ tops (take count (read (drop place (map shown parts))))
  pub within : end ≤ length parts
  pub sized : AreSized (drop end parts)

module _ (parts : List Part) (place n : ℕ) (fit : AreHeads n (map shown parts)) (within : place ≤ length parts) (sized : AreSized (drop place parts)) where
  abbrev hs : List View
  hs = map shown parts

  abbrev ts : List HeapTerm
  ts = read (drop place (map shown parts))

  pub through_start : Through parts place 0 place 0
  through_start = record {
    rest = sym (all_heads-read n (drop place hs) (heads_left n place hs fit));
    at_end = omega arith;
    at_top = refl;
    within = within;
    sized = sized;
  }

  module _ (count end above : ℕ) (w : Through parts place count end above) (lt : count < length (read (drop place (map shown parts)))) where
    abbrev t : HeapTerm
    t = at (read (drop place (map shown parts))) count

    abbrev behind : List View
    behind = all_heads (drop (suc count) (read (drop place (map shown parts))))

    whole : drop end (map shown parts) ≡ heads t ++ behind
    whole = w.rest ∙ ap all_heads (drop-cons ts count blank lt)

    pub end_within : end < length parts
    end_within =
        let b = begins t in
        omega (arith, ap length whole, length-append (heads t) behind, ap length b.1, length-drop end hs, length-map parts shown)

    module _ (p : Part) (is : p ≡ get_or parts end p) where
      here : drop end parts ≡ p ∷ drop (suc end) parts
      here = drop-cons parts end p end_within ∙ (λ i. sym is i ∷ drop (suc end) parts)

      shows : ◌≡◌ {A = List View} (shown p ∷ map shown (drop (suc end) parts)) (heads t ++ behind)
      shows = ap (map shown) (sym here) ∙ sym (drop-map shown end parts) ∙ whole

      term_here : term_of (map shown (p ∷ drop (suc end) parts)) ≡ t
      term_here = ap term_of shows ∙ ap (λ (us : List HeapTerm). at us 0) (read-heads t behind)

      is_sized : IsSized p t
      is_sized = subst (IsSized p) term_here (subst AreSized here w.sized).0

      pub is_below : IsHead n (shown p) (length (read (drop (suc end) (map shown parts))))
      is_below =
          let e : drop end hs ≡ shown p ∷ drop (suc end) hs = drop-map shown end parts ∙ ap (map shown) here ∙ ap (λ (us : List View). shown p ∷ us) (sym (drop-map shown (suc end) parts)) in
          (subst (AreHeads n) e (heads_left n end hs fit)).0

      pub through_more : (next : ℕ) → next ≡ suc count → (far high : ℕ) → far ≡ end + size_of p → high ≡ max (top_of p) above → Through parts place next far high
      through_more next e far high f m =
          let marks = sized_part p t (front_shown p (map shown (drop (suc end) parts)) behind t shows) is_sized in
          let one_more : take next ts ≡ take count ts ++ t ∷ [] = (let k : next ≡ count + 1 = omega arith in ap (λ j. take j ts) k ∙ take_more ts count blank lt) in
          let far_is : end + size_of p ≡ far = sym f in
          let past : drop far hs ≡ behind =
          ap (λ j. drop j hs) f ∙ sym (drop-drop (size_of p) end hs) ∙ ap (drop (size_of p)) whole ∙ drop_at (heads t) behind (size_of p) (sym marks.0) in
          record {
            rest = past ∙ ap (λ j. all_heads (drop j ts)) (sym e);
            at_end = omega (arith, w.at_end, marks.0, ap widths one_more, widths-push (take count ts) t);
            at_top = omega (arith, w.at_top, marks.1, ap tops one_more, tops-push (take count ts) t);
            within = omega (arith, f, marks.0, ap length whole, length-append (heads t) behind, length-drop end hs, length-map parts shown, end_within);
            sized = subst (λ (ps : List Part). AreSized ps) (drop-drop (size_of p) end parts ∙ ap (λ j. drop j parts) far_is) (sized_left (size_of p) (drop end parts) w.sized);
          }

-- ---- a compound is marked
pub sized_compound : (parts : List Part) (place f arity end above size : ℕ) → 0 < arity → arity ≤ length (read (drop (place + 1) (map shown parts))) → end ≡ place + 1 + widths (take arity (read (drop (place + 1) (map shown parts)))) → above ≡ tops (take arity (read (drop (place + 1) (map shown parts)))) → size ≡ end - place
    → AreSized (drop (place + 1) parts) → AreSized (part.Compound arity size above f ∷ drop (place + 1) parts)
sized_compound parts place f arity end above size some enough ends high is sized =
    let ts : List HeapTerm = read (drop (place + 1) (map shown parts)) in
    let us : List HeapTerm = take arity ts in
    let long : length us ≡ arity = length-take-le arity ts enough in
    let same : term_of (map shown (part.Compound arity size above f ∷ drop (place + 1) parts)) ≡ with_arguments f us =
    ap (λ (hs : List View). with_arguments f (take arity (read hs))) (sym (drop-map shown (place + 1) parts)) in (
      subst (λ (t : HeapTerm). (size ≡ length (heads t)) × (above ≡ top t)) (sym same) (
        omega (arith, is, ends, width-with_arguments f us (omega (arith, long))),
        high ∙ sym (top-with_arguments f us (omega (arith, long))),
      ),
      sized,
    )

-- what a marked part replaces shows the same
pub shown_set : (parts : List Part) (i : ℕ) (x : Part) → i < length parts → ((p : Part) → shown (get_or parts i p) ≡ shown x) → map shown (slice_set parts i x) ≡ map shown parts
shown_set [] i x lt e = absurd (omega arith)
shown_set (p ∷ parts) zero x lt e = ap (λ (h : View). h ∷ map shown parts) (sym (e p))
shown_set (p ∷ parts) (suc i) x lt e = ap (λ (hs : List View). shown p ∷ hs) (shown_set parts i x (omega arith) e)

pub drop_set : (parts : List Part) (i : ℕ) (x : Part) → i < length parts → drop i (slice_set parts i x) ≡ x ∷ drop (suc i) parts
drop_set [] i x lt = absurd (omega arith)
drop_set (p ∷ parts) zero x lt = refl
drop_set (p ∷ parts) (suc i) x lt = drop_set parts i x (omega arith)

pub met_set : (m : ℕ) (parts : List Part) (i n size above f : ℕ) → i < length parts → ((p : Part) → shown (get_or parts i p) ≡ view.Compound f n) → AreMet m parts → AreMet m (slice_set parts i (part.Compound n size above f))
met_set m [] i n size above f lt e h = absurd (omega arith)
met_set m (p ∷ parts) zero n size above f lt e h = (tt, subst (λ (v : View). AreMet (met_by v m) parts) (e p) h.1)
met_set m (p ∷ parts) (suc i) n size above f lt e h = (h.0, met_set (met_by (shown p) m) parts i n size above f (omega arith) e h.1)

leaf_sized : (p : Part) (t : HeapTerm) → IsLeaf p → IsSized p t
leaf_sized (part.New v) t h = tt
leaf_sized (part.Again v) t h = tt
leaf_sized (part.Whole n) t h = tt
leaf_sized (part.Wide q) t h = tt
leaf_sized (part.Name a) t h = tt
leaf_sized (part.Compound n size above f) t h = absurd h

-- a leaf needs no mark
pub sized_leaf : (parts : List Part) (i next : ℕ) (p : Part) → next ≡ suc i → next ≤ length parts → p ≡ get_or parts i p → IsLeaf p → AreSized (drop next parts) → AreSized (drop i parts)
sized_leaf parts i next p e le is leaf h =
    subst AreSized (sym (drop-cons parts i p (omega arith) ∙ (λ k. sym is k ∷ drop (sym e k) parts))) (leaf_sized p (term_of (map shown (p ∷ drop next parts))) leaf, h)

-- ---- a marked pattern is walked
module _ (parts : List Part) (place n : ℕ) (fit : AreHeads n (map shown parts)) (some : 0 < length (read (drop place (map shown parts)))) (p : Part) (is : p ≡ get_or parts place p) (lt : place < length parts) (sized : AreSized (drop place parts)) where
  abbrev all : List View
  all = map shown parts

  abbrev first : HeapTerm
  first = term_of (drop place (map shown parts))

  abbrev others : List HeapTerm
  others = drop 1 (read (drop place (map shown parts)))

  front : drop place (map shown parts) ≡ heads first ++ all_heads others
  front = sym (all_heads-read n (drop place all) (heads_left n place all fit)) ∙ ap all_heads (read_some (drop place all) some)

  stands : drop place parts ≡ p ∷ drop (suc place) parts
  stands = drop-cons parts place p lt ∙ (λ i. sym is i ∷ drop (suc place) parts)

  marks : (size_of p ≡ length (heads first)) × (top_of p ≡ top first)
  marks =
      let e : ◌≡◌ {A = List View} (shown p ∷ map shown (drop (suc place) parts)) (heads first ++ all_heads others) = ap (map shown) (sym stands) ∙ sym (drop-map shown place parts) ∙ front in
      let same : term_of (map shown (p ∷ drop (suc place) parts)) ≡ first = ap (λ (ps : List Part). term_of (map shown ps)) (sym stands) ∙ ap term_of (sym (drop-map shown place parts)) in
      sized_part p first (front_shown p (map shown (drop (suc place) parts)) (all_heads others) first e) (subst (IsSized p) same (subst AreSized stands sized).0)

  pub part_top : top_of p ≡ top (term_of (drop place (map shown parts)))
  part_top = marks.1

  pub part_ends : (end : ℕ) → end ≡ place + size_of p → Parts (map shown parts) place end
  part_ends end e =
      let past : drop end all ≡ all_heads others = ap (λ j. drop j all) e ∙ sym (drop-drop (size_of p) place all) ∙ ap (drop (size_of p)) front ∙ drop_at (heads first) (all_heads others) (size_of p) (sym marks.0) in
      let b = begins first in
      record {
        further = omega (arith, e, marks.0, ap length b.1);
        within = omega (arith, e, marks.0, ap length front, length-append (heads first) (all_heads others), length-drop place all, length-map parts shown, lt);
        term = front ∙ ap (λ (hs : List View). heads first ++ hs) (sym past);
        rest = sym (ap read past ∙ read-all_heads others);
      }

-- ---- the variables that were met behind a term
max_over : (m a b : ℕ) → max (max m a) b ≡ max m (max a b)
max_over m a b = omega arith

mutual
  met_heads : (m : ℕ) (t : HeapTerm) (hs : List View) → met_over m (heads t ++ hs) ≡ met_over (max m (top t)) hs
  met_heads m (Var v) hs = refl
  met_heads m (Number q) hs = (let e : m ≡ max m 0 = omega arith in ap (λ k. met_over k hs) e)
  met_heads m (Name a) hs = (let e : m ≡ max m 0 = omega arith in ap (λ k. met_over k hs) e)
  met_heads m (Compound f ts) hs = met_heads_in m ts hs

  met_heads_in : (m : ℕ) (ts : Terms ℕ) (hs : List View) → met_over m (heads_in ts ++ hs) ≡ met_over (max m (top_in ts)) hs
  met_heads_in m (one t) hs = met_heads m t hs
  met_heads_in m (more t ts) hs =
      ap (met_over m) (append_assoc (heads t) (heads_in ts) hs) ∙ met_heads m t (heads_in ts ++ hs) ∙ met_heads_in (max m (top t)) ts hs
      ∙ ap (λ k. met_over k hs) (max_over m (top t) (top_in ts))

met_left : (m k : ℕ) (ps : List Part) → AreMet m ps → AreMet (met_over m (take k (map shown ps))) (drop k ps)
met_left m zero ps h = h
met_left m (suc k) [] h = h
met_left m (suc k) (p ∷ ps) h = met_left (met_by (shown p) m) k ps h.1

pub met_behind : (parts : List Part) (place end met : ℕ) → Parts (map shown parts) place end → AreMet met (drop place parts) → AreMet (max met (top (term_of (drop place (map shown parts))))) (drop end parts)
met_behind parts place end met p h =
    let k : ℕ = end - place in
    let back : place + k ≡ end = omega (arith, p.further) in
    let t : HeapTerm = term_of (drop place (map shown parts)) in
    let over : met_over met (take k (map shown (drop place parts))) ≡ max met (top t) =
    ap (λ (hs : List View). met_over met (take k hs)) (sym (drop-map shown place parts)) ∙ ap (met_over met) (part_is (map shown parts) place end p ∙ sym (append-nil (heads t))) ∙ met_heads met t [] in
    subst (λ (ps : List Part). AreMet (max met (top t)) ps) (drop-drop k place parts ∙ ap (λ j. drop j parts) back)
    (subst (λ (m : ℕ). AreMet m (drop k (drop place parts))) over (met_left met k (drop place parts) h))

-- behind one part
pub met_next : (parts : List Part) (place next met : ℕ) (p : Part) → place < length parts → p ≡ get_or parts place p → next ≡ suc place → AreMet met (drop place parts) → IsMet p met × AreMet (met_by (shown p) met) (drop next parts)
met_next parts place next met p lt is e h = subst (AreMet met) (drop-cons parts place p lt ∙ (λ k. sym is k ∷ drop (sym e k) parts)) h

pub shown_at : (parts : List Part) (place : ℕ) (p : Part) (h : View) → place < length parts → p ≡ get_or parts place p → shown p ≡ h → h ≡ get_or (map shown parts) place h
shown_at parts place p h lt is e = sym e ∙ ap shown is ∙ sym (get_or-map shown parts place p h lt)

-- one more part is written
met_over-push : (m : ℕ) (hs : List View) (h : View) → met_over m (hs ++ h ∷ []) ≡ met_by h (met_over m hs)
met_over-push m [] h = refl
met_over-push m (x ∷ hs) h = met_over-push (met_by x m) hs h

are_met_push : (m : ℕ) (ps : List Part) (p : Part) → AreMet m ps → IsMet p (met_over m (map shown ps)) → AreMet m (ps ++ p ∷ [])
are_met_push m [] p h k = (k, tt)
are_met_push m (x ∷ ps) p h k = (h.0, are_met_push (met_by (shown x) m) ps p h.1 k)

pub written_more : (met : ℕ) (old new : List Part) (p : Part) (now next : ℕ) → Written met old now → new ≡ old ++ p ∷ [] → IsMet p now → next ≡ met_by (shown p) now → Written met new next
written_more met old new p now next w e is n = record {
  are = subst (AreMet met) (sym e) (are_met_push met old p w.are (subst (IsMet p) (sym w.over) is));
  over = ap (λ (ps : List Part). met_over met (map shown ps)) e ∙ ap (met_over met) (map-append shown old (p ∷ [])) ∙ met_over-push met (map shown old) (shown p) ∙ ap (met_by (shown p)) w.over ∙ sym n;
}

-- the list of what is shown grows with the parts
pub shown_pushed : (old new : List Part) (p : Part) (h : View) → new ≡ old ++ p ∷ [] → shown p ≡ h → map shown new ≡ map shown old ++ h ∷ []
shown_pushed old new p h e is = ap (map shown) e ∙ map-append shown old (p ∷ []) ∙ ap (λ (x : View). map shown old ++ x ∷ []) is

-- a variable is written that stands there first, or again
pub variable_written : (met : ℕ) (old new : List Part) (p : Part) (place now next : ℕ) (is_new : Bool) → Written met old now → new ≡ old ++ p ∷ [] → (is_new ≡ true → p ≡ part.New place) → (is_new ≡ false → p ≡ part.Again place)
    → (is_new ≡ true → (place ≡ now) × (next ≡ now + 1)) → (is_new ≡ false → (place < now) × (next ≡ now)) → Written met new next
variable_written met old new p place now next true w e is_first again a b =
    let k = a refl in
    written_more met old new p now next w e (subst (λ (x : Part). IsMet x now) (sym (is_first refl)) k.0)
    (k.1 ∙ (let h : now + 1 ≡ max now (place + 1) = omega (arith, k.0) in h) ∙ ap (λ (x : Part). met_by (shown x) now) (sym (is_first refl)))
variable_written met old new p place now next false w e is_first again a b =
    let k = b refl in
    written_more met old new p now next w e (subst (λ (x : Part). IsMet x now) (sym (again refl)) k.0)
    (k.1 ∙ (let h : now ≡ max now (place + 1) = omega (arith, k.0) in h) ∙ ap (λ (x : Part). met_by (shown x) now) (sym (again refl)))

-- and its kind, where it is that of a variable
pub variable_shown : (p : Part) (place : ℕ) (is_new : Bool) → (is_new ≡ true → p ≡ part.New place) → (is_new ≡ false → p ≡ part.Again place) → shown p ≡ view.Var (record { 0 = place })
variable_shown p place true is_first again = ap shown (is_first refl)
variable_shown p place false is_first again = ap shown (again refl)

-- nothing is met in what shows no variable
pub constant_written : (met : ℕ) (old new : List Part) (p : Part) (now : ℕ) → Written met old now → new ≡ old ++ p ∷ [] → IsMet p now → met_by (shown p) now ≡ now → Written met new now
constant_written met old new p now w e is same = written_more met old new p now now w e is (sym same)

-- a number that is a part was met by no variable
pub number_met : (p : Part) (q : ℚ) (now : ℕ) → shown p ≡ view.Number q → IsMet p now
number_met (part.New v) q now e = cc
number_met (part.Again v) q now e = cc
number_met (part.Whole n) q now e = tt
number_met (part.Wide n) q now e = tt
number_met (part.Name a) q now e = tt
number_met (part.Compound n size above f) q now e = tt

-- the place of what is not on a list is its end
pub absent_place : {A : Type 0} (p : A → Bool) (xs : List A) → list_any p xs ≡ false → position_or_len p xs ≡ length xs
absent_place p [] e = refl
absent_place {A} p (x ∷ xs) e = go (p x) refl (λ h. absent_place p xs h)
  where
    place_past : (b : Bool) → p x ≡ b → position_or_len p (x ∷ xs) ≡ cond (not b) (1 + position_or_len p xs) 0
    place_past b q = ap (λ (c : Bool). cond (not c) (1 + position_or_len p xs) 0) q

    go : (b : Bool) → p x ≡ b → (list_any p xs ≡ false → position_or_len p xs ≡ length xs) → position_or_len p (x ∷ xs) ≡ suc (length xs)
    go true q rest = absurd (false≢true (sym e ∙ ap (λ (c : Bool). c || list_any p xs) q))
    go false q rest = place_past false q ∙ omega (arith, rest (sym (ap (λ (c : Bool). c || list_any p xs) q) ∙ e))

-- a slice shows what the slice of what is shown does
pub sliced : (parts : List Part) (place k : ℕ) → map shown (take k (drop place parts)) ≡ take k (drop place (map shown parts))
sliced parts place k = sym (take-map shown k (drop place parts)) ∙ ap (take k) (sym (drop-map shown place parts))

-- a part stands at each place
positive : (h : View) (ts : List HeapTerm) → 0 < length (put h ts)
positive (view.Var v) ts = omega arith
positive (view.Number v) ts = omega arith
positive (view.Name v) ts = omega arith
positive (view.Compound f n) ts = omega arith

pub some_read_at : (parts : List Part) (place : ℕ) → place < length parts → 0 < length (read (drop place (map shown parts)))
some_read_at parts place lt =
    let hs : List View = map shown parts in
    let within : place < length hs = omega (arith, length-map parts shown) in
    subst (λ (us : List View). 0 < length (read us)) (sym (drop-cons hs place (view.Name 0) within)) (positive (get_or hs place (view.Name 0)) (read (drop (suc place) hs)))

head_below : (n : ℕ) (h : View) (left : ℕ) → IsHead n h left → IsBelow n h
head_below n (view.Var v) left i = i
head_below n (view.Number q) left i = tt
head_below n (view.Name a) left i = tt
head_below n (view.Compound f m) left i = tt

pub below_here : (n : ℕ) (parts : List Part) (place : ℕ) (p : Part) → AreHeads n (map shown parts) → place < length parts → p ≡ get_or parts place p → IsBelow n (shown p)
below_here n parts place p fit lt is =
    let here = head_fits n (map shown parts) fit (suc place) place (shown p) refl (omega (arith, length-map parts shown)) (shown_at parts place p (shown p) lt is refl) in
    head_below n (shown p) (length (read (drop (suc place) (map shown parts)))) here.0

pub get_or_twice : (parts : List Part) (place : ℕ) (p : Part) → place < length parts → get_or parts place p ≡ get_or parts place (get_or parts place p)
get_or_twice [] place p lt = absurd (omega arith)
get_or_twice (x ∷ parts) zero p lt = refl
get_or_twice (x ∷ parts) (suc place) p lt = get_or_twice parts place p (omega arith)

pub same_shown : (parts : List Part) (place : ℕ) (p q : Part) → place < length parts → p ≡ get_or parts place p → shown (get_or parts place q) ≡ shown p
same_shown parts place p q lt is = ap shown (within parts place lt ∙ sym is)
  where
    within : (ps : List Part) (i : ℕ) → i < length ps → get_or ps i q ≡ get_or ps i p
    within [] i l = absurd (omega arith)
    within (x ∷ ps) zero l = refl
    within (x ∷ ps) (suc i) l = within ps i (omega arith)

-- parts that show the same are as many
pub same_length : (old new : List Part) → map shown old ≡ map shown new → length old ≡ length new
same_length old new e = sym (length-map old shown) ∙ ap length e ∙ length-map new shown

-- a word that is read as a number is the number
pub whole_from : (n : ℤ) (q : ℚ) → SFits w64 n → q ≡ int_ℚ (to_z w64 (of_z w64 n)) → q ≡ int_ℚ n
whole_from n q fits e = e ∙ ap int_ℚ (to_z-of_z w64 n fits)
