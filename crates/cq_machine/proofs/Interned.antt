-- Names that are given numbers one after the other.
use Rattle.std.proofs.Common.{◌≡◌, ℕ, zero, suc, List, [], ◌∷◌, ◌++◌, Some, sym, subst}
use Rattle.std.specs.Prelude.{slice_get}
use Rattle.std.proofs.lemmas.Option.{none-some}
use Rattle.spec_numbers.specs.Prefixes.{IsPrefix}
use Rattle.spec_numbers.specs.Texts.{Text}
use Rattle.cq_term.specs.Texts.{AreDifferent, KeepsTexts, with_text}
use Rattle.cq_ops.specs.Tables.{GainsNames}
use Rattle.cq_predicates.proofs.Entries.{builtins_kept}
use Rattle.cq_machine.specs.Machines.{AreNames}
use Rattle.cq_machine.specs.declared.names.Names.{Names}

pub gains_then : (old mid new : List Text) → GainsNames old mid → GainsNames mid new → GainsNames old new
gains_then old mid new g h = record { before = g.before; after = h.after; kept = λ i text e. h.kept i text (g.kept i text e) }

-- one more name, or one that is known
pub gains_one : (old new : List Text) (text : Text) → AreDifferent old → AreDifferent new → new ≡ with_text old text → KeepsTexts old (with_text old text) → GainsNames old new
gains_one old new text d e is kept = record { before = d; after = e; kept = subst (KeepsTexts old) (sym is) kept }

pub gains_none : (old new : List Text) → AreDifferent old → new ≡ old → GainsNames old new
gains_none old new d is = subst (GainsNames old) (sym is) (record { before = d; after = d; kept = λ i text e. e })

-- ---- names that are added behind others

kept_before : (old rest : List Text) (i : ℕ) (t : Text) → slice_get old i ≡ Some t → slice_get (old ++ rest) i ≡ Some t
kept_before [] rest i t e = absurd (none-some t e)
kept_before (x ∷ old) rest zero t e = e
kept_before (x ∷ old) rest (suc i) t e = kept_before old rest i t e

pub texts_kept : (old new : List Text) → IsPrefix old new → KeepsTexts old new
texts_kept old new longer i t e = subst (λ (xs : List Text). slice_get xs i ≡ Some t) (sym longer.1) (kept_before old longer.0 i t e)

pub names_kept : (old new : List Text) → KeepsTexts old new → (names : Names) → AreNames old names → AreNames new names
names_kept old new keeps names a = record {
  truth = keeps names.truth _ a.truth;
  not = keeps names.not _ a.not;
  equal = keeps names.equal _ a.equal;
  once = keeps names.once _ a.once;
  curly = keeps names.curly _ a.curly;
  rule = keeps names.rule _ a.rule;
  builtins = builtins_kept old new keeps names.builtins a.builtins;
}
