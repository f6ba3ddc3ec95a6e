-- Halves while they are looked for.
use Rattle.std.proofs.Common.{◌≡◌, ◌≢◌, ℕ, ◌+◌, ◌<◌, ◌≤◌, List, [], ◌∷◌, ◌++◌, length, map, true, codes, Option, Some, None, refl, ap, sym, ◌∙◌, subst, arith}
use Rattle.std.specs.Prelude.{All}
use Rattle.std.specs.Cmp.Lexicographic.{bytes_decides}
use Rattle.std.proofs.lemmas.List.Elements.{All-cons, All-push, All-same, All-pop}
use Rattle.spec_numbers.specs.Texts.{Text}
use Rattle.spec_numbers.proofs.Prefixes.{prefix_length, prefix_same}
use Rattle.spec_terms.specs.Term.{size, with_arguments}
use Rattle.spec_syntax.specs.Trees.{binary}
use Rattle.spec_builtins.specs.Built.{compound2}
use Rattle.spec_branch.specs.Checks.{Halves, halves, in_conjunction, is_conjunction}
use Rattle.cq_term.specs.Texts.{text_of}
use Rattle.cq_term.specs.Meaning.{HeapTerm, at}
use Rattle.cq_term.specs.HeapValue.{HeapValue}
use Rattle.cq_term.specs.Trees.{tree, KnowsTerms}
use Rattle.cq_built.specs.Growing.{Grows}
use Rattle.cq_built.proofs.Growing.{grows_both, grows_names}
use Rattle.cq_built.proofs.Trees.{kept, tree_last}
use Rattle.cq_built.specs.Sides.{HasSides}
use Rattle.cq_built.specs.declared.sides.Sides.{Sides}
use Rattle.cq_built.proofs.Heads.{size_of_sides}
use Rattle.cq_goals.specs.declared.halves.Frame.{Frame}
use Rattle.cq_goals.specs.declared.halves.Frame.TheVariants as frame
use Rattle.cq_goals.specs.declared.halves.HalfTerms.{HalfTerms}
use Rattle.cq_goals.specs.declared.halves.Occurrence.{Occurrence}
use Rattle.cq_goals.specs.Splitting.{resumed, all_resumed, IsLiveFrame, frame_sides, frame_work, all_work, Searches, IsNext, next_work, halves_at, AreHalvesLive, IsOccurrence, IsJoining}

-- ---- the search for a disjunction
module _ (texts : List Text) (ts : List HeapTerm) where
  pub resumed_last : (fs : List Frame) (f : Frame) (h : Option Halves) → all_resumed texts ts (fs ++ f ∷ []) h ≡ all_resumed texts ts fs (resumed texts ts f h)
  resumed_last [] f h = refl
  resumed_last (g ∷ fs) f h = ap (resumed texts ts g) (resumed_last fs f h)

  pub work_last : (fs : List Frame) (f : Frame) → all_work ts (fs ++ f ∷ []) ≡ all_work ts fs + frame_work ts f
  work_last [] f = omega arith
  work_last (g ∷ fs) f = let h = work_last fs f in omega (arith, h)

  module _ (id : ℕ) (fs new : List Frame) (whole : Option Halves) (s : Sides) (k : Searches texts ts id fs whole) (h : HasSides ts id s) (n : new ≡ fs ++ frame.Left s ∷ []) where
    pub left_next : s.name < length texts → is_conjunction (text_of texts s.name) ≡ true → halves (tree texts ts id) ≡ in_conjunction (tree texts ts s.left) (tree texts ts s.right) (halves (tree texts ts s.left)) (halves (tree texts ts s.right)) → Searches texts ts s.left new whole
    left_next known comma e = record {
      id_live = h.left;
      live = All-same (IsLiveFrame texts ts) new (fs ++ frame.Left s ∷ []) n (All-push (IsLiveFrame texts ts) fs (frame.Left s) k.live (record { left = h.left; right = h.right; known = known; conjunction = comma }));
      leads = ap (λ gs. all_resumed texts ts gs (halves (tree texts ts s.left))) n ∙ resumed_last fs (frame.Left s) (halves (tree texts ts s.left)) ∙ ap (all_resumed texts ts fs) (sym e) ∙ k.leads;
    }

    pub left_less : all_work ts new + size (at ts s.left) < all_work ts fs + size (at ts id)
    left_less = let e = ap (all_work ts) n in let w = work_last fs (frame.Left s) in let z = size_of_sides ts id s h in omega (arith, e, w, z)

  -- the right side of the frame that was taken off
  module _ (old path : List Frame) (s : Sides) where
    pub right_next : (new : List Frame) (whole : Option Halves) → path ≡ old ++ frame.Left s ∷ [] → new ≡ old ++ frame.Right s ∷ [] → All (IsLiveFrame texts ts) path → all_resumed texts ts path None ≡ whole → Searches texts ts s.right new whole
    right_next new whole n m live leads =
        let l = All-pop (IsLiveFrame texts ts) path old (Some (frame.Left s)) n live in
        record {
          id_live = l.1.right;
          live = All-same (IsLiveFrame texts ts) new (old ++ frame.Right s ∷ []) m (All-push (IsLiveFrame texts ts) old (frame.Right s) l.0 (record { left = l.1.left; right = l.1.right; known = l.1.known; conjunction = l.1.conjunction }));
          leads =
              ap (λ gs. all_resumed texts ts gs (halves (tree texts ts s.right))) m ∙ resumed_last old (frame.Right s) (halves (tree texts ts s.right))
              ∙ sym (resumed_last old (frame.Left s) None) ∙ ap (λ gs. all_resumed texts ts gs None) (sym n) ∙ leads;
        }

    pub right_work : (new : List Frame) → path ≡ old ++ frame.Left s ∷ [] → new ≡ old ++ frame.Right s ∷ [] → all_work ts new + size (at ts s.right) ≤ all_work ts path
    right_work new n m = let e = ap (all_work ts) n in let f = ap (all_work ts) m in let a = work_last old (frame.Left s) in let b = work_last old (frame.Right s) in omega (arith, e, f, a, b)

    pub right_over : (whole : Option Halves) → path ≡ old ++ frame.Right s ∷ [] → all_resumed texts ts path None ≡ whole → all_resumed texts ts old None ≡ whole
    right_over whole n leads = sym (resumed_last old (frame.Right s) None) ∙ ap (λ gs. all_resumed texts ts gs None) (sym n) ∙ leads

    pub right_over_work : path ≡ old ++ frame.Right s ∷ [] → all_work ts old ≤ all_work ts path
    right_over_work n = let e = ap (all_work ts) n in let a = work_last old (frame.Right s) in omega (arith, e, a)

-- ---- halves that are built
module _ (texts : List Text) (old new : HeapValue) (grows : Grows texts old texts new) (known : KnowsTerms texts old.now.terms) where
  pub longer_live : (id : ℕ) → id < length old.now.terms → id < length new.now.terms
  longer_live id lt = let p = prefix_length old.now.terms new.now.terms grows.terms in omega (arith, p, lt)

  pub frame_longer : (f : Frame) → IsLiveFrame texts old.now.terms f → IsLiveFrame texts new.now.terms f
  frame_longer f l = record {
    left = longer_live (frame_sides f).left l.left;
    right = longer_live (frame_sides f).right l.right;
    known = l.known;
    conjunction = l.conjunction;
  }

  pub resumed_kept : (f : Frame) (h : Option Halves) → IsLiveFrame texts old.now.terms f → resumed texts new.now.terms f h ≡ resumed texts old.now.terms f h
  resumed_kept (frame.Left s) h l =
      λ i. in_conjunction (kept texts texts old new grows known s.left l.left i) (kept texts texts old new grows known s.right l.right i) h (halves (kept texts texts old new grows known s.right l.right i))
  resumed_kept (frame.Right s) h l =
      λ i. in_conjunction (kept texts texts old new grows known s.left l.left i) (kept texts texts old new grows known s.right l.right i) None h

-- the conjunction that was put on a heap last
pub conjunction_built : (texts : List Text) (ts us : List HeapTerm) (name left right id : ℕ) → is_conjunction (text_of texts name) ≡ true
    → us ≡ ts ++ with_arguments name (map (at ts) (left ∷ right ∷ [])) ∷ [] → id ≡ length ts → tree texts us id ≡ compound2 "," (tree texts ts left) (tree texts ts right)
conjunction_built texts ts us name left right id comma longer last =
    tree_last texts ts us (with_arguments name (map (at ts) (left ∷ right ∷ []))) id longer last
    ∙ ap (λ (f : Text). binary f (tree texts ts left) (tree texts ts right)) ((bytes_decides (text_of texts name) (codes ",")).0 comma)

-- two terms that are there
pub both_live : (ts : List HeapTerm) (left right : ℕ) → left < length ts → right < length ts → All (λ id. id < length ts) (left ∷ right ∷ [])
both_live ts left right l r = All-cons (λ id. id < length ts) left (right ∷ []) l (All-cons (λ id. id < length ts) right [] r (λ i d m. absurd (omega (arith, m))))

-- two conjunctions, one built after the other
pub both_built : (texts : List Text) (a b c : HeapValue) → Grows texts a texts b → Grows texts b texts c → KnowsTerms texts a.now.terms → (p q r s left right : ℕ)
    → r < length a.now.terms → s < length a.now.terms → left < length b.now.terms
    → tree texts b.now.terms left ≡ compound2 "," (tree texts a.now.terms p) (tree texts a.now.terms q)
    → tree texts c.now.terms right ≡ compound2 "," (tree texts b.now.terms r) (tree texts b.now.terms s)
    → (h : HalfTerms) → h.left ≡ left → h.right ≡ right
    → record { left = compound2 "," (tree texts a.now.terms p) (tree texts a.now.terms q); right = compound2 "," (tree texts a.now.terms r) (tree texts a.now.terms s) } ≡ halves_at texts c.now.terms h
both_built texts a b c g k known p q r s left right lr ls ll e f h hl hr =
    let first : compound2 "," (tree texts a.now.terms p) (tree texts a.now.terms q) ≡ tree texts c.now.terms h.left =
    sym e ∙ sym (kept texts texts b c k (g.names known) left ll) ∙ ap (tree texts c.now.terms) (sym hl) in
    let second : compound2 "," (tree texts a.now.terms r) (tree texts a.now.terms s) ≡ tree texts c.now.terms h.right =
    (λ i. compound2 "," (sym (kept texts texts a b g known r lr) i) (sym (kept texts texts a b g known s ls) i)) ∙ sym f ∙ ap (tree texts c.now.terms) (sym hr) in
    λ i. record { left = first i; right = second i }

-- ---- the conjunctions round the halves, one after another
module _ (texts : List Text) (a b c : HeapValue) (known : KnowsTerms texts a.now.terms) (whole : Option Halves) (path old : List Frame) (f : Frame) (h k : HalfTerms)
    (j : IsJoining texts a whole b path h) (n : path ≡ old ++ f ∷ []) where
  frame_popped : All (IsLiveFrame texts a.now.terms) old × IsLiveFrame texts a.now.terms f
  frame_popped = All-pop (IsLiveFrame texts a.now.terms) path old (Some f) n j.live

  pub frame_live : IsLiveFrame texts b.now.terms f
  frame_live = frame_longer texts a b j.grows known f frame_popped.1

  pub joining : Grows texts b texts c → resumed texts b.now.terms f (Some (halves_at texts b.now.terms h)) ≡ Some (halves_at texts c.now.terms k) → AreHalvesLive c.now.terms k → IsJoining texts a whole c old k
  joining g e live = record {
    grows = grows_both texts texts texts a b c j.grows g;
    halves_live = live;
    live = frame_popped.0;
    leads =
        ap (all_resumed texts a.now.terms old) (sym e ∙ resumed_kept texts a b j.grows known f (Some (halves_at texts b.now.terms h)) frame_popped.1)
        ∙ sym (resumed_last texts a.now.terms old f (Some (halves_at texts b.now.terms h)))
        ∙ ap (λ gs. all_resumed texts a.now.terms gs (Some (halves_at texts b.now.terms h))) (sym n) ∙ j.leads;
  }

-- ---- the search, a term after another
module _ (texts : List Text) (ts : List HeapTerm) where
  module _ (whole : Option Halves) (next : Option ℕ) (fs : List Frame) (h : IsNext texts ts whole next fs) where
    pub searched : (id : ℕ) → next ≡ Some id → Searches texts ts id fs whole
    searched id e = subst (λ n. IsNext texts ts whole n fs) e h

    pub search_over : next ≡ None → whole ≡ None
    search_over e = subst (λ n. IsNext texts ts whole n fs) e h

    pub work_now : (id : ℕ) → next ≡ Some id → next_work ts next fs ≡ all_work ts fs + size (at ts id)
    work_now id e = ap (λ n. next_work ts n fs) e

  module _ (id : ℕ) (fs : List Frame) (whole : Option Halves) (k : Searches texts ts id fs whole) where
    leads_on : (h : Option Halves) → halves (tree texts ts id) ≡ h → all_resumed texts ts fs h ≡ whole
    leads_on h e = ap (all_resumed texts ts fs) (sym e) ∙ k.leads

    -- the term has no disjunction
    pub side_over : halves (tree texts ts id) ≡ None → (next : Option ℕ) (new : List Frame) → IsNext texts ts (all_resumed texts ts fs None) next new → IsNext texts ts whole next new
    side_over e next new n = subst (λ w. IsNext texts ts w next new) (leads_on None e) n

    pub occurs : (s : Sides) → HasSides ts id s → halves (tree texts ts id) ≡ Some (record { left = tree texts ts s.left; right = tree texts ts s.right })
        → (p : Occurrence) → p.halves ≡ record { left = s.left; right = s.right } → p.path.items ≡ fs → IsOccurrence texts ts whole p
    occurs s h e p ph pf = record {
      halves_live = (subst (λ x. x.left < length ts) (sym ph) h.left, subst (λ x. x.right < length ts) (sym ph) h.right);
      live = All-same (IsLiveFrame texts ts) p.path.items fs pf k.live;
      leads = (λ i. all_resumed texts ts (pf i) (Some (halves_at texts ts (ph i)))) ∙ leads_on (Some (record { left = tree texts ts s.left; right = tree texts ts s.right })) e;
    }

-- ---- the halves, a conjunction round them after another
pub joining_starts : (texts : List Text) (a : HeapValue) (path : List Frame) (h : HalfTerms) → AreHalvesLive a.now.terms h → All (IsLiveFrame texts a.now.terms) path
    → IsJoining texts a (all_resumed texts a.now.terms path (Some (halves_at texts a.now.terms h))) a path h
joining_starts texts a path h halves_live live = record {
  grows = grows_names texts texts a a (prefix_same texts texts refl) refl refl (omega arith);
  halves_live = halves_live;
  live = live;
  leads = refl;
}

pub joined_ends : (texts : List Text) (a b : HeapValue) (whole : Option Halves) (path : List Frame) (h : HalfTerms) → IsJoining texts a whole b path h → length path ≡ 0 → whole ≡ Some (halves_at texts b.now.terms h)
joined_ends texts a b whole [] h j n = sym j.leads
joined_ends texts a b whole (f ∷ fs) h j n = absurd (omega (arith, n))

-- ---- a conjunction of which both sides are searched
module _ (old path : List Frame) where
  pub frame_over : (f : Frame) → ((s : Sides) → f ≢ frame.Left s) → path ≡ old ++ f ∷ [] → (texts : List Text) (ts : List HeapTerm) → all_resumed texts ts old None ≡ all_resumed texts ts path None
  frame_over (frame.Left s) other n texts ts = absurd (other s refl)
  frame_over (frame.Right s) other n texts ts = sym (resumed_last texts ts old (frame.Right s) None) ∙ ap (λ gs. all_resumed texts ts gs None) (sym n)

  pub frame_over_live : (f : Frame) → path ≡ old ++ f ∷ [] → (texts : List Text) (ts : List HeapTerm) → All (IsLiveFrame texts ts) path → All (IsLiveFrame texts ts) old
  frame_over_live f n texts ts all = (All-pop (IsLiveFrame texts ts) path old (Some f) n all).0

  pub frame_over_work : (f : Frame) → path ≡ old ++ f ∷ [] → (ts : List HeapTerm) → all_work ts old ≤ all_work ts path
  frame_over_work f n ts = let e = ap (all_work ts) n in let a = work_last [] ts old f in omega (arith, e, a)
