-- Parts that wait, one or two in place of a goal.
use Rattle.std.proofs.Common.{◌≡◌, ℕ, ◌+◌, ◌<◌, List, [], ◌∷◌, ◌++◌, length, ap, sym, ◌∙◌, arith, append_assoc, append-nil}
use Rattle.std.proofs.lemmas.List.Elements.{All-push, All-same}
use Rattle.spec_numbers.specs.Texts.{Text}
use Rattle.spec_terms.specs.Term.{size}
use Rattle.spec_syntax.specs.Trees.{Tree}
use Rattle.cq_term.specs.Meaning.{HeapTerm, at}
use Rattle.cq_term.specs.Trees.{tree, trees}
use Rattle.cq_built.specs.Splitting.{waiting_parts, waiting_size, TakesApart}
use Rattle.cq_built.proofs.Splitting.{size_last}

module _ (parts : Tree → List Tree) (texts : List Text) (ts : List HeapTerm) where
  waits_last : (ids : List ℕ) (id : ℕ) → waiting_parts parts texts ts (ids ++ id ∷ []) ≡ parts (tree texts ts id) ++ waiting_parts parts texts ts ids
  waits_last [] id = sym (append-nil (parts (tree texts ts id)))
  waits_last (w ∷ ids) id =
      ap (λ us. us ++ parts (tree texts ts w)) (waits_last ids id)
      ∙ append_assoc (parts (tree texts ts id)) (waiting_parts parts texts ts ids) (parts (tree texts ts w))

  pub one_waits : (found waiting waiting' : List ℕ) (id part : ℕ) → parts (tree texts ts id) ≡ parts (tree texts ts part) → part < length ts → size (at ts part) < size (at ts id)
      → waiting' ≡ waiting ++ part ∷ [] → TakesApart parts texts ts found waiting id found waiting'
  one_waits found waiting waiting' id part m live less w = record {
    same =
        (λ i. trees texts ts found ++ waiting_parts parts texts ts (w i))
        ∙ ap (λ us. trees texts ts found ++ us) (waits_last waiting part ∙ ap (λ us. us ++ waiting_parts parts texts ts waiting) (sym m));
    found_live = λ all. all;
    waiting_live = λ all. All-same (λ x. x < length ts) waiting' (waiting ++ part ∷ []) w (All-push (λ x. x < length ts) waiting part all live);
    less = (let e = ap (waiting_size ts) w in let a = size_last ts waiting part in omega (arith, e, a, less));
  }

  pub two_wait : (found waiting waiting' : List ℕ) (id left right : ℕ) → parts (tree texts ts id) ≡ parts (tree texts ts left) ++ parts (tree texts ts right)
      → left < length ts → right < length ts → size (at ts left) + size (at ts right) < size (at ts id)
      → waiting' ≡ (waiting ++ right ∷ []) ++ left ∷ [] → TakesApart parts texts ts found waiting id found waiting'
  two_wait found waiting waiting' id left right m left_live right_live less w =
      let l = parts (tree texts ts left) in
      let r = parts (tree texts ts right) in
      record {
        same =
            (λ i. trees texts ts found ++ waiting_parts parts texts ts (w i))
            ∙ ap (λ us. trees texts ts found ++ us)
            (waits_last (waiting ++ right ∷ []) left ∙ ap (λ us. l ++ us) (waits_last waiting right)
            ∙ sym (append_assoc l r (waiting_parts parts texts ts waiting)) ∙ ap (λ us. us ++ waiting_parts parts texts ts waiting) (sym m));
        found_live = λ all. all;
        waiting_live = λ all.
            All-same (λ x. x < length ts) waiting' ((waiting ++ right ∷ []) ++ left ∷ []) w
            (All-push (λ x. x < length ts) (waiting ++ right ∷ []) left (All-push (λ x. x < length ts) waiting right all right_live) left_live);
        less = (let e = ap (waiting_size ts) w in let a = size_last ts (waiting ++ right ∷ []) left in let b = size_last ts waiting right in omega (arith, e, a, b, less));
      }
