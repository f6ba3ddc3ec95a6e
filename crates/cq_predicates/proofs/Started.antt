-- What is still to come at first is all that a predicate offers.
use Rattle.std.proofs.Common.{◌≡◌, ℕ, ◌+◌, ◌-◌, List, [], ◌∷◌, map, length, take, drop, filter, ◌&&◌, ◌||◌, if◌then◌else◌, ◌++◌, sym, ap, ◌∙◌, arith}
use Rattle.std.specs.List.{list_all}
use mathlib.Core.List.{map-map}
use Rattle.spec_numbers.specs.Texts.{Text}
use Rattle.spec_terms.specs.Term.{Name, named}
use Rattle.spec_terms.specs.Unifier.{Equation}
use Rattle.spec_terms.specs.Variables.{counted_from}
use Rattle.spec_syntax.specs.Trees.{Tree}
use Rattle.spec_builtins.specs.Kinds.{is_variable}
use Rattle.spec_builtins.specs.Errors.{instantiation}
use Rattle.spec_builtins.specs.Alternatives.{Solutions, Offers, ◌≐◌, without_new, one_way, faults_if}
use Rattle.spec_builtins.specs.Texts.{characters, matching, may_match, name_of, parts_at, split_at}
use Rattle.cq_term.specs.Texts.{text_of}
use Rattle.cq_term.specs.Meaning.{HeapTerm, at}
use Rattle.cq_term.specs.Trees.{tree}
use Rattle.cq_predicates.specs.declared.text.ways.PartArgs.{PartArgs}
use Rattle.cq_predicates.specs.declared.text.ways.PartWays.{PartWays}
use Rattle.cq_predicates.specs.declared.text.ways.SplitArgs.{SplitArgs}
use Rattle.cq_predicates.specs.declared.text.ways.SplitWays.{SplitWays}
use Rattle.cq_predicates.specs.Places.{fits, places_from, splits_so}
use Rattle.cq_predicates.specs.Ways.{part_way, part_ways, split_way, split_ways}
use Rattle.cq_predicates.specs.Arguments.{AreLetPass, part_tests, three_atom_tests}
use Rattle.cq_predicates.specs.TextRows.{parts_row, StartsParts, concat_row, StartsSplits}
use Rattle.cq_predicates.proofs.Offers.{offered_parts, kept_of, and_true}

pub parts_started : (texts : List Text) (ts : List HeapTerm) (text name : ℕ) (a : PartArgs) (w : PartWays) → at ts text ≡ Name name → AreLetPass (part_tests ts text a) → StartsParts texts ts name a w
    → parts_row texts ts text a ≡ Offers (part_ways texts ts w)
parts_started texts ts text name a w e pass h =
    let b = tree texts ts a.before in
    let l = tree texts ts a.len in
    let r = tree texts ts a.after in
    let s = tree texts ts a.part in
    let cs = w.parts.characters.items in
    pass texts (matching (parts_at b l r s (characters (tree texts ts text))))
    ∙ ap (λ ds. matching (parts_at b l r s ds)) (ap (λ t. characters (named (text_of texts) t)) e ∙ sym h.characters)
    ∙ ap Offers (offered_parts b l r s cs w.parts.sought h.few h.asked.before h.asked.len h.asked.after h.asked.part)
    ∙ (λ i. Offers (map (part_way texts ts (sym h.args i) cs) (filter (fits w.parts.sought cs) (places_from cs (sym h.next i).before (sym h.next i).len))))

-- ---- splits

module _ (texts : List Text) (ts : List HeapTerm) (a : SplitArgs) (w : SplitWays) (name : ℕ) (h : StartsSplits texts ts name a w) where
  abbrev cs : List ℕ
  cs = w.splits.characters.items

  abbrev made : ℕ → List (Equation Text)
  made n = split_at (tree texts ts a.first) (tree texts ts a.last) cs n

  tested : (n : ℕ) → list_all may_match (made n) ≡ splits_so w.splits n
  tested n = λ i. h.first.same (take n cs) i && (and_true (may_match (tree texts ts a.last ≐ name_of (drop n cs))) ∙ h.last.same (drop n cs)) i

  offered_splits : matching (map made (counted_from 0 (length cs + 1))) ≡ Offers (split_ways texts ts w)
  offered_splits =
      let all : length cs + 1 ≡ length cs + 1 - 0 = omega arith in
      ap (λ ess. Offers (map without_new ess)) (kept_of (λ es. list_all may_match es) (splits_so w.splits) made (counted_from 0 (length cs + 1)) (λ i d lt. tested _))
      ∙ ap Offers (map-map without_new made (filter (splits_so w.splits) (counted_from 0 (length cs + 1))))
      ∙ (λ i. Offers (map (split_way texts ts (sym h.args i) cs) (filter (splits_so w.splits) (counted_from 0 (all i)))))
      ∙ (λ i. Offers (map (split_way texts ts w.args cs) (filter (splits_so w.splits) (counted_from (sym h.next i) (length cs + 1 - sym h.next i)))))

  abbrev after_tests : Tree → Solutions
  after_tests c =
      faults_if (is_variable c && (is_variable (tree texts ts a.first) || is_variable (tree texts ts a.last))) instantiation (
      if is_variable c then one_way ((c ≐ name_of (characters (tree texts ts a.first) ++ characters (tree texts ts a.last))) ∷ [])
      else matching (map (split_at (tree texts ts a.first) (tree texts ts a.last) (characters c)) (counted_from 0 (length (characters c) + 1))))

  pub splits_started : (whole : ℕ) → at ts whole ≡ Name name → AreLetPass (three_atom_tests ts a whole) → concat_row texts ts a whole ≡ Offers (split_ways texts ts w)
  splits_started whole e pass =
      let first = tree texts ts a.first in
      let last = tree texts ts a.last in
      pass texts (after_tests (tree texts ts whole)) ∙ ap (λ t. after_tests (named (text_of texts) t)) e
      ∙ ap (λ ds. matching (map (split_at first last ds) (counted_from 0 (length ds + 1)))) (sym h.characters) ∙ offered_splits
