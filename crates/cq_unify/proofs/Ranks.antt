-- How the pairs of terms that are left stand in the standard order, the first that differs.
use Rattle.std.proofs.Common.{◌≡◌, ◌≢◌, ℕ, List, [], ◌∷◌, ◌++◌, length, refl, ap, sym, ◌∙◌, subst, arith}
use Rattle.std.specs.Prelude.{All, ⊤}
use Rattle.std.specs.declared.cmp.Ordering.{Ordering}
use Rattle.std.specs.declared.cmp.Ordering.TheVariants.{Less, Equal, Greater}
use Rattle.std.specs.Ordering.{nat_cmp, ordering_then}
use Rattle.std.proofs.lemmas.Cmp.{nat_cmp_total, tied_itself}
use Rattle.spec_terms.specs.Term.{Terms, Var, Number, Name, Compound, one, more, count, list_of, named, named_all}
use Rattle.spec_numbers.specs.Texts.{Text}
use Rattle.spec_terms.specs.Order.{compare_texts, compare_all}
use Rattle.spec_terms.proofs.Orders.{first_equal, second_equal, nat_cmp-equal, compare_terms-itself}
use Rattle.cq_term.specs.Texts.{text_of}
use Rattle.cq_term.specs.Meaning.{HeapTerm, at}
use Rattle.cq_term.specs.Shown.{view_of, arguments}
use Rattle.cq_term.specs.declared.view.View.TheVariants as view
use Rattle.cq_term.specs.Names.{HasNamesBelow, HaveNamesBelow}
use Rattle.cq_unify.specs.Standing.{order_of, AreAlikeCompounds, Stands, TellsCompounds}
use Rattle.spec_terms.specs.Unifier.{Equation}
use Rattle.cq_term.specs.Pairs.{IsLive, pairwise, PushesPairs}
use Rattle.cq_unify.specs.declared.order.order.Standing.{Standing}
use Rattle.cq_unify.specs.declared.order.order.Standing.TheVariants as standing
use Rattle.cq_term.specs.declared.walk.pairs.Pair.{Pair}
use Rattle.cq_term.proofs.SideBySide.{live_pop, live_push}
use Rattle.cq_unify.proofs.Ahead.{ahead, ahead_pop, ahead_push}

-- ---- one comparison after another
then-assoc : (o p q : Ordering) → ordering_then (ordering_then o p) q ≡ ordering_then o (ordering_then p q)
then-assoc Less p q = refl
then-assoc Equal p q = refl
then-assoc Greater p q = refl

then-equal : (o p : Ordering) → o ≡ Equal → ordering_then o p ≡ p
then-equal o p e = ap (λ x. ordering_then x p) e

then-apart : (o p : Ordering) → o ≢ Equal → ordering_then o p ≡ o
then-apart Less p n = refl
then-apart Equal p n = absurd (n refl)
then-apart Greater p n = refl

-- ---- two compounds by their heads
count-named_all : (f : ℕ → Text) (ts : Terms ℕ) → count (named_all f ts) ≡ count ts
count-named_all f (one t) = refl
count-named_all f (more t ts) = omega (arith, count-named_all f ts)

module _ (texts : List Text) where
  -- the order of two compounds is that of their heads, and then that of their arguments
  order_of-compounds : (f g n m : ℕ) (ts us : Terms ℕ) → count ts ≡ n → count us ≡ m →
      order_of texts (Compound f ts) (Compound g us) ≡
      ordering_then (ordering_then (nat_cmp n m) (compare_texts (text_of texts f) (text_of texts g))) (compare_all (named_all (text_of texts) ts) (named_all (text_of texts) us))
  order_of-compounds f g n m ts us p q =
      let rest : Ordering = compare_all (named_all (text_of texts) ts) (named_all (text_of texts) us) in
      (λ i. ordering_then (nat_cmp ((count-named_all (text_of texts) ts ∙ p) i) ((count-named_all (text_of texts) us ∙ q) i)) (ordering_then (compare_texts (text_of texts f) (text_of texts g)) rest))
      ∙ sym (then-assoc (nat_cmp n m) (compare_texts (text_of texts f) (text_of texts g)) rest)

  apart_compounds : (t u : HeapTerm) (f n g m : ℕ) (o : Ordering) → view_of t ≡ view.Compound f n → view_of u ≡ view.Compound g m →
      ordering_then (nat_cmp n m) (compare_texts (text_of texts f) (text_of texts g)) ≡ o → o ≢ Equal → order_of texts t u ≡ o
  apart_compounds (Compound h ts) (Compound k us) f n g m o p q e apart =
      let rest : Ordering = compare_all (named_all (text_of texts) ts) (named_all (text_of texts) us) in
      let left : h ≡ f = cc in
      let right : k ≡ g = cc in
      order_of-compounds h k n m ts us (cc) (cc)
      ∙ ap (λ x. ordering_then x rest) ((λ i. ordering_then (nat_cmp n m) (compare_texts (text_of texts (left i)) (text_of texts (right i)))) ∙ e)
      ∙ then-apart o rest apart
  apart_compounds (Compound h ts) (Var x) f n g m o p q e apart = cc
  apart_compounds (Compound h ts) (Number x) f n g m o p q e apart = cc
  apart_compounds (Compound h ts) (Name x) f n g m o p q e apart = cc
  apart_compounds (Var x) u f n g m o p q e apart = cc
  apart_compounds (Number x) u f n g m o p q e apart = cc
  apart_compounds (Name x) u f n g m o p q e apart = cc

  pub stands_compounds : (t u : HeapTerm) (f n g m : ℕ) (s : Standing) → view_of t ≡ view.Compound f n → view_of u ≡ view.Compound g m →
      TellsCompounds (ordering_then (nat_cmp n m) (compare_texts (text_of texts f) (text_of texts g))) n s → Stands texts t u s
  stands_compounds t u f n g m standing.Same p q h = absurd h
  stands_compounds t u f n g m (standing.Apart o) p q h = (apart_compounds t u f n g m o p q h.0 h.1, h.1)
  stands_compounds t u f n g m (standing.Arguments k) p q h =
      let names : compare_texts (text_of texts f) (text_of texts g) ≡ Equal = second_equal (nat_cmp n m) (compare_texts (text_of texts f) (text_of texts g)) h.0 in
      let counts : n ≡ m = nat_cmp-equal n m (first_equal (nat_cmp n m) (compare_texts (text_of texts f) (text_of texts g)) h.0) in
      record {
        left_name = f;
        right_name = g;
        left = p ∙ ap (view.Compound f) (sym h.1);
        right = q ∙ ap (view.Compound g) (sym (h.1 ∙ counts));
        names = names;
      }

  pub stands_same : (ts : List HeapTerm) (a b : ℕ) → a ≡ b → order_of texts (at ts a) (at ts b) ≡ Equal
  stands_same ts a b e = compare_terms-itself (named (text_of texts) (at ts a)) (named (text_of texts) (at ts b)) (ap (λ i. named (text_of texts) (at ts i)) e)

  -- ---- the pairs that are left
  abbrev pub order_ahead : List (Equation ℕ) → Ordering
  order_ahead [] = Equal
  order_ahead (b ∷ bs) = ordering_then (order_of texts b.left b.right) (order_ahead bs)

  abbrev pub HaveTexts : List (Equation ℕ) → Type 0
  HaveTexts [] = ⊤
  HaveTexts (b ∷ bs) = (HasNamesBelow (length texts) b.left × HasNamesBelow (length texts) b.right) × HaveTexts bs

  texts_lists : (ts us : Terms ℕ) (bs : List (Equation ℕ)) → HaveNamesBelow (length texts) ts → HaveNamesBelow (length texts) us → HaveTexts bs → HaveTexts (pairwise (list_of ts) (list_of us) ++ bs)
  texts_lists (one t) (one u) bs h k rest = ((h, k), rest)
  texts_lists (one t) (more u us) bs h k rest = ((h, k.0), rest)
  texts_lists (more t ts) (one u) bs h k rest = ((h.0, k), texts_short (list_of ts) bs rest)
    where
      texts_short : (xs : List HeapTerm) (cs : List (Equation ℕ)) → HaveTexts cs → HaveTexts (pairwise xs [] ++ cs)
      texts_short [] cs r = r
      texts_short (x ∷ xs) cs r = r
  texts_lists (more t ts) (more u us) bs h k rest = ((h.0, k.0), texts_lists ts us bs h.1 k.1 rest)

  order_lists : (ts us : Terms ℕ) (bs : List (Equation ℕ)) → count ts ≡ count us → order_ahead (pairwise (list_of ts) (list_of us) ++ bs) ≡ ordering_then (compare_all (named_all (text_of texts) ts) (named_all (text_of texts) us)) (order_ahead bs)
  order_lists (one t) (one u) bs n = refl
  order_lists (one t) (more u (one w)) bs n = absurd (omega arith)
  order_lists (one t) (more u (more w us)) bs n = absurd (omega arith)
  order_lists (more t (one w)) (one u) bs n = absurd (omega arith)
  order_lists (more t (more w ts)) (one u) bs n = absurd (omega arith)
  order_lists (more t ts) (more u us) bs n =
      ap (ordering_then (order_of texts t u)) (order_lists ts us bs (omega arith))
      ∙ sym (then-assoc (order_of texts t u) (compare_all (named_all (text_of texts) ts) (named_all (text_of texts) us)) (order_ahead bs))

  -- the arguments of two compounds in place of the compounds
  order_arguments : (t u : HeapTerm) (n : ℕ) (bs : List (Equation ℕ)) → AreAlikeCompounds texts t u n → order_ahead (pairwise (arguments t) (arguments u) ++ bs) ≡ ordering_then (order_of texts t u) (order_ahead bs)
  order_arguments (Compound f ts) (Compound g us) n bs h =
      let p = h.left in
      let q = h.right in
      let e = h.names in
      let left : f ≡ h.left_name = cc in
      let right : g ≡ h.right_name = cc in
      let c : count ts ≡ n = cc in
      let d : count us ≡ n = cc in
      let rest : Ordering = compare_all (named_all (text_of texts) ts) (named_all (text_of texts) us) in
      let level : nat_cmp n n ≡ Equal = tied_itself nat_cmp_total n in
      let names : compare_texts (text_of texts f) (text_of texts g) ≡ Equal = (λ i. compare_texts (text_of texts (left i)) (text_of texts (right i))) ∙ e in
      order_lists ts us bs (c ∙ sym d)
      ∙ ap (λ o. ordering_then o (order_ahead bs))
      (sym (order_of-compounds f g n n ts us c d ∙ ap (λ o. ordering_then o rest) (then-equal (nat_cmp n n) (compare_texts (text_of texts f) (text_of texts g)) level ∙ names)))
  order_arguments (Compound f ts) (Var x) n bs h = (let q = h.right in cc)
  order_arguments (Compound f ts) (Number x) n bs h = (let q = h.right in cc)
  order_arguments (Compound f ts) (Name x) n bs h = (let q = h.right in cc)
  order_arguments (Var x) u n bs h = (let q = h.left in cc)
  order_arguments (Number x) u n bs h = (let q = h.left in cc)
  order_arguments (Name x) u n bs h = (let q = h.left in cc)

  texts_arguments : (t u : HeapTerm) (n : ℕ) (bs : List (Equation ℕ)) → AreAlikeCompounds texts t u n → HasNamesBelow (length texts) t → HasNamesBelow (length texts) u → HaveTexts bs → HaveTexts (pairwise (arguments t) (arguments u) ++ bs)
  texts_arguments (Compound f ts) (Compound g us) n bs h k l rest = texts_lists ts us bs k.1 l.1 rest
  texts_arguments (Compound f ts) (Var x) n bs h k l rest = (let q = h.right in cc)
  texts_arguments (Compound f ts) (Number x) n bs h k l rest = (let q = h.right in cc)
  texts_arguments (Compound f ts) (Name x) n bs h k l rest = (let q = h.right in cc)
  texts_arguments (Var x) u n bs h k l rest = (let q = h.left in cc)
  texts_arguments (Number x) u n bs h k l rest = (let q = h.left in cc)
  texts_arguments (Name x) u n bs h k l rest = (let q = h.left in cc)

  -- the pairs that are left tell the order
  pub record TellOrder (ts : List HeapTerm) (order : Ordering) (work : List Pair) : Type 0 where
    pub live : All (IsLive ts) work
    pub known : HaveTexts (ahead ts work)
    pub tells : order ≡ order_ahead (ahead ts work)

  module _ (ts : List HeapTerm) (order : Ordering) (old work : List Pair) (p : Pair) (is : old ≡ work ++ p ∷ []) (tell : TellOrder ts order old) where
    pub known_pop : (HasNamesBelow (length texts) (at ts p.left) × HasNamesBelow (length texts) (at ts p.right)) × HaveTexts (ahead ts work)
    known_pop = subst HaveTexts (ahead_pop ts old work p is) tell.known

    next_tells : order ≡ ordering_then (order_of texts (at ts p.left) (at ts p.right)) (order_ahead (ahead ts work))
    next_tells = tell.tells ∙ ap order_ahead (ahead_pop ts old work p is)

    pub tell_past : order_of texts (at ts p.left) (at ts p.right) ≡ Equal → TellOrder ts order work
    tell_past e = record {
      live = (live_pop ts old work p is tell.live).0;
      known = known_pop.1;
      tells = next_tells ∙ then-equal (order_of texts (at ts p.left) (at ts p.right)) (order_ahead (ahead ts work)) e;
    }

    pub tell_spread : (n : ℕ) (new : List Pair) → AreAlikeCompounds texts (at ts p.left) (at ts p.right) n → PushesPairs ts p.left p.right 0 work new → TellOrder ts order new
    tell_spread n new alike pushes =
        let on = ahead_push ts old work p is new pushes in record {
          live = live_push ts old work p is new pushes (live_pop ts old work p is tell.live).0;
          known = subst HaveTexts (sym on) (texts_arguments (at ts p.left) (at ts p.right) n (ahead ts work) alike known_pop.0.0 known_pop.0.1 known_pop.1);
          tells = next_tells ∙ sym (order_arguments (at ts p.left) (at ts p.right) n (ahead ts work) alike) ∙ sym (ap order_ahead on);
        }
