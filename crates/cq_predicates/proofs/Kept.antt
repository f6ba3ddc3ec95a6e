-- Alternatives that are still to come stay the same while names and terms are added.
use Rattle.std.proofs.Common.{◌≡◌, ℕ, ◌-◌, List, [], ◌∷◌, map, length, take, drop, ap, ◌∙◌}
use Rattle.spec_numbers.specs.Texts.{Text}
use Rattle.spec_builtins.specs.Alternatives.{◌≐◌, without_new}
use Rattle.spec_builtins.specs.Texts.{name_of, split_at, part_at}
use Rattle.spec_syntax.specs.Trees.{natural}
use Rattle.cq_term.specs.HeapValue.{HeapValue}
use Rattle.cq_term.specs.Trees.{tree, KnowsTerms}
use Rattle.cq_built.specs.Growing.{Grows}
use Rattle.cq_built.specs.Offered.{equation_of, alternative_of}
use Rattle.cq_built.specs.declared.alternatives.Alternative.{Alternative}
use Rattle.cq_built.proofs.Trees.{tree_kept}
use Rattle.cq_term.specs.declared.walk.pairs.Pair.{Pair}
use Rattle.cq_predicates.specs.Ways.{HasSplitArgs, HasPartArgs, split_way, part_way}
use Rattle.cq_predicates.specs.declared.text.sought.Place.{Place}
use Rattle.cq_predicates.specs.declared.text.ways.SplitArgs.{SplitArgs}
use Rattle.cq_predicates.specs.declared.text.ways.PartArgs.{PartArgs}

module _ (texts more : List Text) (old new : HeapValue) (grown : Grows texts old more new) (known : KnowsTerms texts old.now.terms) where
  pub split_kept : (a : SplitArgs) → HasSplitArgs old.now.terms a → (cs : List ℕ) (n : ℕ) → split_way more new.now.terms a cs n ≡ split_way texts old.now.terms a cs n
  split_kept a h cs n =
      let first = tree_kept texts more old.now.terms new.now.terms grown.longer grown.terms known a.first h.first in
      let last = tree_kept texts more old.now.terms new.now.terms grown.longer grown.terms known a.last h.last in
      λ i. without_new (split_at (first i) (last i) cs n)

  pub part_kept : (a : PartArgs) → HasPartArgs old.now.terms a → (cs : List ℕ) (p : Place) → part_way more new.now.terms a cs p ≡ part_way texts old.now.terms a cs p
  part_kept a h cs p =
      let before = tree_kept texts more old.now.terms new.now.terms grown.longer grown.terms known a.before h.before in
      let len = tree_kept texts more old.now.terms new.now.terms grown.longer grown.terms known a.len h.len in
      let after = tree_kept texts more old.now.terms new.now.terms grown.longer grown.terms known a.after h.after in
      let part = tree_kept texts more old.now.terms new.now.terms grown.longer grown.terms known a.part h.part in
      λ i. without_new (part_at (before i) (len i) (after i) (part i) cs p.before p.len)

  -- ---- alternatives that were made

  pub split_made : (a : SplitArgs) → HasSplitArgs old.now.terms a → (cs : List ℕ) (n : ℕ) (way : Alternative) (p q : Pair) → way.pairs.items ≡ p ∷ q ∷ []
      → p.left ≡ a.first → tree more new.now.terms p.right ≡ name_of (take n cs) → q.left ≡ a.last → tree more new.now.terms q.right ≡ name_of (drop n cs)
      → alternative_of more new.now.terms 0 way ≡ split_way texts old.now.terms a cs n
  split_made a h cs n way p q e p_left p_right q_left q_right =
      let same = tree more new.now.terms in
      let first = ap same p_left ∙ tree_kept texts more old.now.terms new.now.terms grown.longer grown.terms known a.first h.first in
      let last = ap same q_left ∙ tree_kept texts more old.now.terms new.now.terms grown.longer grown.terms known a.last h.last in
      ap (λ ps. without_new (map (equation_of more new.now.terms) ps)) e
      ∙ (λ i. without_new ((first i ≐ p_right i) ∷ (last i ≐ q_right i) ∷ []))

  pub part_made : (a : PartArgs) → HasPartArgs old.now.terms a → (cs : List ℕ) (at : Place) (way : Alternative) (p q r s : Pair) → way.pairs.items ≡ p ∷ q ∷ r ∷ s ∷ []
      → p.left ≡ a.before → tree more new.now.terms p.right ≡ natural at.before → q.left ≡ a.len → tree more new.now.terms q.right ≡ natural at.len
      → r.left ≡ a.after → tree more new.now.terms r.right ≡ natural (length cs - at.before - at.len) → s.left ≡ a.part → tree more new.now.terms s.right ≡ name_of (take at.len (drop at.before cs))
      → alternative_of more new.now.terms 0 way ≡ part_way texts old.now.terms a cs at
  part_made a h cs at way p q r s e p_left p_right q_left q_right r_left r_right s_left s_right =
      let same = tree more new.now.terms in
      let before = ap same p_left ∙ tree_kept texts more old.now.terms new.now.terms grown.longer grown.terms known a.before h.before in
      let len = ap same q_left ∙ tree_kept texts more old.now.terms new.now.terms grown.longer grown.terms known a.len h.len in
      let after = ap same r_left ∙ tree_kept texts more old.now.terms new.now.terms grown.longer grown.terms known a.after h.after in
      let part = ap same s_left ∙ tree_kept texts more old.now.terms new.now.terms grown.longer grown.terms known a.part h.part in
      ap (λ ps. without_new (map (equation_of more new.now.terms) ps)) e
      ∙ (λ i. without_new ((before i ≐ p_right i) ∷ (len i ≐ q_right i) ∷ (after i ≐ r_right i) ∷ (part i ≐ s_right i) ∷ []))

pub map_kept : {A B : Type 0} (f g : A → B) → ((x : A) → g x ≡ f x) → (xs : List A) → map g xs ≡ map f xs
map_kept f g e [] = λ _. []
map_kept f g e (x ∷ xs) = λ i. e x i ∷ map_kept f g e xs i
