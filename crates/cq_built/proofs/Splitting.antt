-- Parts that are looked for, one after another.
use Rattle.std.proofs.Common.{◌≡◌, ℕ, ◌+◌, ◌<◌, List, [], ◌∷◌, ◌++◌, length, Some, ap, sym, ◌∙◌, arith, append_assoc, append-nil}
use Rattle.std.proofs.lemmas.List.Elements.{All-nil, All-push, All-same, All-pop}
use Rattle.spec_numbers.specs.Texts.{Text}
use Rattle.spec_terms.specs.Term.{size}
use Rattle.spec_syntax.specs.Trees.{Tree}
use Rattle.cq_term.specs.Meaning.{HeapTerm, at}
use Rattle.cq_term.specs.Trees.{tree, trees}
use Rattle.cq_built.proofs.Listed.{trees_push}
use Rattle.cq_built.specs.Sides.{HasSides}
use Rattle.cq_built.specs.declared.sides.Sides.{Sides}
use Rattle.cq_built.specs.Splitting.{AreLive, waiting_parts, waiting_size, TakesApart, IsTakenApart}
use Rattle.cq_built.proofs.Heads.{size_of_sides, size_positive}

-- the size with one more behind them
pub size_last : (ts : List HeapTerm) (ids : List ℕ) (id : ℕ) → waiting_size ts (ids ++ id ∷ []) ≡ waiting_size ts ids + size (at ts id)
size_last ts [] id = omega arith
size_last ts (w ∷ ids) id = let h = size_last ts ids id in omega (arith, h)

module _ (parts : Tree → List Tree) (texts : List Text) (ts : List HeapTerm) where
  waits_last : (ids : List ℕ) (id : ℕ) → waiting_parts parts texts ts (ids ++ id ∷ []) ≡ parts (tree texts ts id) ++ waiting_parts parts texts ts ids
  waits_last [] id = sym (append-nil (parts (tree texts ts id)))
  waits_last (w ∷ ids) id =
      ap (λ us. us ++ parts (tree texts ts w)) (waits_last ids id)
      ∙ append_assoc (parts (tree texts ts id)) (waiting_parts parts texts ts ids) (parts (tree texts ts w))

  pub sides_wait : (found waiting found' waiting' : List ℕ) (id : ℕ) (s : Sides) → HasSides ts id s → parts (tree texts ts id) ≡ parts (tree texts ts s.left) ++ parts (tree texts ts s.right)
      → found' ≡ found → waiting' ≡ (waiting ++ s.right ∷ []) ++ s.left ∷ [] → TakesApart parts texts ts found waiting id found' waiting'
  sides_wait found waiting found' waiting' id s h m f w =
      let l = parts (tree texts ts s.left) in
      let r = parts (tree texts ts s.right) in
      record {
        same =
            (λ i. trees texts ts (f i) ++ waiting_parts parts texts ts (w i))
            ∙ ap (λ us. trees texts ts found ++ us)
            (waits_last (waiting ++ s.right ∷ []) s.left ∙ ap (λ us. l ++ us) (waits_last waiting s.right)
            ∙ sym (append_assoc l r (waiting_parts parts texts ts waiting)) ∙ ap (λ us. us ++ waiting_parts parts texts ts waiting) (sym m));
        found_live = λ all. All-same (λ x. x < length ts) found' found f all;
        waiting_live = λ all.
            All-same (λ x. x < length ts) waiting' ((waiting ++ s.right ∷ []) ++ s.left ∷ []) w
            (All-push (λ x. x < length ts) (waiting ++ s.right ∷ []) s.left (All-push (λ x. x < length ts) waiting s.right all h.right) h.left);
        less = (let e = ap (waiting_size ts) w in let a = size_last ts (waiting ++ s.right ∷ []) s.left in let b = size_last ts waiting s.right in let z = size_of_sides ts id s h in omega (arith, e, a, b, z));
      }

  pub part_found : (found waiting found' waiting' : List ℕ) (id : ℕ) → id < length ts → parts (tree texts ts id) ≡ tree texts ts id ∷ [] → found' ≡ found ++ id ∷ [] → waiting' ≡ waiting
      → TakesApart parts texts ts found waiting id found' waiting'
  part_found found waiting found' waiting' id live m f w = record {
    same =
        (λ i. trees texts ts found' ++ waiting_parts parts texts ts (w i))
        ∙ ap (λ us. us ++ waiting_parts parts texts ts waiting) (trees_push texts ts found found' id f)
        ∙ append_assoc (trees texts ts found) (tree texts ts id ∷ []) (waiting_parts parts texts ts waiting)
        ∙ ap (λ us. trees texts ts found ++ (us ++ waiting_parts parts texts ts waiting)) (sym m);
    found_live = λ all. All-same (λ x. x < length ts) found' (found ++ id ∷ []) f (All-push (λ x. x < length ts) found id all live);
    waiting_live = λ all. All-same (λ x. x < length ts) waiting' waiting w all;
    less = (let e = ap (waiting_size ts) w in let z = size_positive (at ts id) in omega (arith, e, z));
  }

  pub nothing_found : (found waiting found' waiting' : List ℕ) (id : ℕ) → parts (tree texts ts id) ≡ [] → found' ≡ found → waiting' ≡ waiting
      → TakesApart parts texts ts found waiting id found' waiting'
  nothing_found found waiting found' waiting' id m f w = record {
    same = (λ i. trees texts ts (f i) ++ waiting_parts parts texts ts (w i)) ∙ ap (λ us. trees texts ts found ++ (us ++ waiting_parts parts texts ts waiting)) (sym m);
    found_live = λ all. All-same (λ x. x < length ts) found' found f all;
    waiting_live = λ all. All-same (λ x. x < length ts) waiting' waiting w all;
    less = (let e = ap (waiting_size ts) w in let z = size_positive (at ts id) in omega (arith, e, z));
  }

  module _ (whole : List Tree) (found ws old : List ℕ) (id : ℕ) (h : IsTakenApart parts texts ts whole found ws) (n : ws ≡ old ++ id ∷ []) where
    popped : AreLive ts old × (id < length ts)
    popped = All-pop (λ x. x < length ts) ws old (Some id) n h.waiting_live

    pub part_live : id < length ts
    part_live = popped.1

    module _ (found' new : List ℕ) (t : TakesApart parts texts ts found old id found' new) where
      pub takes : IsTakenApart parts texts ts whole found' new
      takes = record {
        found_live = t.found_live h.found_live;
        waiting_live = t.waiting_live popped.0;
        same = t.same ∙ ap (λ us. trees texts ts found ++ us) (sym (waits_last old id) ∙ ap (waiting_parts parts texts ts) (sym n)) ∙ h.same;
      }

      pub takes_less : waiting_size ts new < waiting_size ts ws
      takes_less = let e = ap (waiting_size ts) n in let s = size_last ts old id in let l = t.less in omega (arith, e, s, l)

  pub taken_apart_starts : (found ws : List ℕ) (id : ℕ) → id < length ts → found ≡ [] → ws ≡ id ∷ [] → IsTakenApart parts texts ts (parts (tree texts ts id)) found ws
  taken_apart_starts found ws id live f w = record {
    found_live = All-same (λ x. x < length ts) found [] f (All-nil (λ x. x < length ts));
    waiting_live = All-same (λ x. x < length ts) ws (id ∷ []) w (All-push (λ x. x < length ts) [] id (All-nil (λ x. x < length ts)) live);
    same = λ i. trees texts ts (f i) ++ waiting_parts parts texts ts (w i);
  }

  pub all_found : (whole : List Tree) (found ws : List ℕ) → IsTakenApart parts texts ts whole found ws → length ws ≡ 0 → trees texts ts found ≡ whole
  all_found whole found [] h n = sym (append-nil (trees texts ts found)) ∙ h.same
  all_found whole found (w ∷ ws) h n = absurd (omega (arith, n))
