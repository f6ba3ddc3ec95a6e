-- What is found in sentences, one behind another.
use Rattle.std.proofs.Common.{◌≡◌, ℕ, ◌+◌, ◌<◌, ◌≤◌, List, ◌∷◌, ◌++◌, length, get_or, drop, sym, ap, ◌∙◌, append_assoc, append-nil}
use Rattle.std.proofs.lemmas.List.{at_drop_more, at_drop_all}
use Rattle.cq_lint.specs.Findings.{findings_in, findings_behind, passed_by}
use Rattle.cq_lint.specs.Knowledge.{Knowledge, Heads}
use Rattle.cq_lint.specs.declared.findings.Finding.{Finding}
use Rattle.cq_lint.specs.declared.sentences.Sentence.{Sentence}

module _ (k : Knowledge) where
  -- what is found in the next sentence stands behind what is found before it
  pub findings_step : (p p' : Heads) (ss : List Sentence) (i : ℕ) (s : Sentence) (found found' whole : List Finding) → i < length ss → s ≡ get_or ss i s
      → found' ≡ found ++ findings_in k p s → p' ≡ passed_by p s → found ++ findings_behind k p (drop i ss) ≡ whole
      → found' ++ findings_behind k p' (drop (i + 1) ss) ≡ whole
  findings_step p p' ss i s found found' whole h at f q w =
      let rest = drop (i + 1) ss in
      (λ j. f j ++ findings_behind k (q j) rest)
      ∙ append_assoc found (findings_in k p s) (findings_behind k (passed_by p s) rest)
      ∙ ap (λ x. found ++ findings_behind k p (x ∷ rest)) at
      ∙ sym (at_drop_more (λ xs. found ++ findings_behind k p xs) ss i s h)
      ∙ w

  -- behind the last sentence, what is found is all
  pub findings_end : (p : Heads) (ss : List Sentence) (i : ℕ) (found whole : List Finding) → length ss ≤ i → found ++ findings_behind k p (drop i ss) ≡ whole → found ≡ whole
  findings_end p ss i found whole h w = sym (append-nil found) ∙ sym (at_drop_all (λ xs. found ++ findings_behind k p xs) ss i h) ∙ w
