-- Names stay known as more names get numbers.
use Rattle.std.proofs.Common.{◌≡◌, ◌<◌, ◌≤◌, List, [], ◌∷◌, length, get_or, arith, sym, subst}
use Rattle.std.specs.Prelude.{All, Result, Ok, Err, OnOk}
use Rattle.std.proofs.lemmas.List.Elements.{All-weaker, All-nil}
use Rattle.std.proofs.lemmas.Option.{slice_get_within, slice_get-get_or}
use Rattle.spec_numbers.specs.Texts.{Text}
use Rattle.cq_term.specs.Texts.{KeepsTexts}
use Rattle.cq_term.specs.Meaning.{HeapTerm}
use Rattle.cq_term.specs.Names.{HasNamesBelow}
use Rattle.cq_term.proofs.Known.{names_more}
use Rattle.cq_read.specs.declared.parse.frames.Frame.{Frame}
use Rattle.cq_term.specs.Trees.{KnowsTerms}
use Rattle.cq_read.specs.Known.{KnowsFrame, KnowsNames}

kept_length : (old new : List Text) → KeepsTexts old new → length old ≤ length new
kept_length [] new kept = omega arith
kept_length (text ∷ texts) new kept =
    let old = text ∷ texts in
    let last : length texts < length old = omega arith in
    let there : length texts < length new = slice_get_within new (length texts) (get_or old (length texts) text) (kept (length texts) (get_or old (length texts) text) (slice_get-get_or old (length texts) text last)) in
    omega arith

-- on terms that stay the same
pub terms_known : (old new : List Text) (ts us : List HeapTerm) → KeepsTexts old new → us ≡ ts → KnowsTerms old ts → KnowsTerms new us
terms_known old new ts us kept same known =
    subst (KnowsTerms new) (sym same) (All-weaker (HasNamesBelow (length old)) (HasNamesBelow (length new)) (names_more (length old) (length new) (kept_length old new kept)) ts known)

-- before the first token no frame has a name
pub names_at_start : (old new : List Text) (ts : List HeapTerm) (frames : List Frame) → KeepsTexts old new → frames ≡ [] → KnowsTerms old ts → KnowsNames new ts frames
names_at_start old new ts frames kept none known =
    record { terms = terms_known old new ts ts kept (λ i. ts) known; frames = subst (All (KnowsFrame new)) (sym none) (All-nil (KnowsFrame new)) }

pub on_ok : {A E : Type 0} (P : Type 0) (r : Result A E) → P → OnOk r P
on_ok P (Ok x) h = h
on_ok P (Err e) h = tt
