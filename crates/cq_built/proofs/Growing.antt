-- What grows and goes on growing, and the names and terms that are added one at a time.
use Rattle.std.proofs.Common.{◌≡◌, ℕ, ◌+◌, ◌-◌, ◌≤◌, List, Some, take, length-append, [], ◌∷◌, ◌++◌, Bool, true, false, length, ap, sym, ◌∙◌, arith}
use Rattle.std.specs.Prelude.{bytes_eq, slice_get, if◌then◌else◌}
use Rattle.std.proofs.lemmas.List.{take_at}
use Rattle.std.proofs.lemmas.Option.{same_Some}
use Rattle.std.specs.List.{list_any}
use Rattle.std.proofs.lemmas.List.Elements.{All-push, All-same, All-weaker}
use Rattle.spec_numbers.specs.Texts.{Text}
use Rattle.spec_numbers.specs.Prefixes.{IsPrefix}
use Rattle.spec_numbers.proofs.Prefixes.{prefix_same, prefix_both, prefix_length}
use Rattle.cq_term.specs.Texts.{with_text}
use Rattle.cq_term.specs.Meaning.{HeapTerm}
use Rattle.cq_term.specs.Names.{HasNamesBelow}
use Rattle.cq_term.specs.HeapValue.{HeapValue}
use Rattle.cq_term.proofs.Known.{names_more}
use Rattle.cq_term.proofs.Kept.{get_last}
use Rattle.cq_term.specs.Trees.{KnowsTerms}
use Rattle.cq_built.specs.Growing.{Grows}

pub longer_by_text : (texts more : List Text) (text : Text) → more ≡ with_text texts text → IsPrefix texts more
longer_by_text texts more text e = by (list_any (bytes_eq text) texts) e
  where
    by : (known : Bool) → more ≡ (if known then texts else texts ++ text ∷ []) → IsPrefix texts more
    by true e = prefix_same texts more e
    by false e = (text ∷ [], e)

pub known_longer : (texts more : List Text) (ts : List HeapTerm) → IsPrefix texts more → KnowsTerms texts ts → KnowsTerms more ts
known_longer texts more ts p all =
    All-weaker (HasNamesBelow (length texts)) (HasNamesBelow (length more)) (λ t h. names_more (length texts) (length more) (prefix_length texts more p) t h) ts all

pub grows_both : (a b c : List Text) (g h k : HeapValue) → Grows a g b h → Grows b h c k → Grows a g c k
grows_both a b c g h k p q = record {
  longer = prefix_both a b c p.longer q.longer;
  terms = prefix_both g.now.terms h.now.terms k.now.terms p.terms q.terms;
  images = q.images ∙ p.images;
  names = λ all. q.names (p.names all);
  saved = q.saved ∙ p.saved;
  room = omega (arith, p.room, q.room);
}

-- by names alone
pub grows_names : (texts more : List Text) (old new : HeapValue) → IsPrefix texts more → new.now ≡ old.now → new.saved ≡ old.saved → old.room ≤ new.room → Grows texts old more new
grows_names texts more old new p e saved room = record {
  longer = p;
  terms = prefix_same old.now.terms new.now.terms (ap (λ t. t.terms) e);
  images = ap (λ t. t.images) e;
  names = λ all. All-same (HasNamesBelow (length more)) new.now.terms old.now.terms (ap (λ t. t.terms) e) (known_longer texts more old.now.terms p all);
  saved = saved;
  room = room;
}

-- by names and a term
pub grows_term : (texts more : List Text) (old new : HeapValue) (t : HeapTerm) → IsPrefix texts more → new.now.terms ≡ old.now.terms ++ t ∷ [] → new.now.images ≡ old.now.images → (KnowsTerms more old.now.terms → HasNamesBelow (length more) t) →
    new.saved ≡ old.saved → old.room ≤ new.room → Grows texts old more new
grows_term texts more old new t p longer images named saved room = record {
  longer = p;
  terms = (t ∷ [], longer);
  images = images;
  names = λ all. (let known = known_longer texts more old.now.terms p all in
      All-same (HasNamesBelow (length more)) new.now.terms (old.now.terms ++ t ∷ []) longer (All-push (HasNamesBelow (length more)) old.now.terms t known (named known)));
  saved = saved;
  room = room;
}

-- ---- what was undone to a mark
module _ (texts more : List Text) (old marked grown undone : HeapValue) (m : ℕ) (number : m ≡ length old.saved) (saved : marked.saved ≡ old.saved ++ old.now ∷ [])
    (room : old.room ≤ marked.room + 1) (grows : Grows texts marked more grown) (back : slice_get grown.saved m ≡ Some undone.now)
    (rest : undone.saved ≡ take m grown.saved) (room_back : grown.room + (length grown.saved - m) ≤ undone.room) where
  pub undone_now : undone.now ≡ old.now
  undone_now =
      same_Some undone.now old.now
      (sym back ∙ ap (λ l. slice_get l m) (grows.saved ∙ saved) ∙ ap (slice_get (old.saved ++ old.now ∷ [])) number ∙ get_last old.saved old.now)

  pub undone_grows : Grows texts old more undone
  undone_grows =
      grows_names texts more old undone grows.longer undone_now
      (rest ∙ ap (take m) (grows.saved ∙ saved) ∙ take_at old.saved (old.now ∷ []) m (sym number))
      (omega (arith, room, grows.room, room_back, number, ap length (grows.saved ∙ saved), length-append old.saved (old.now ∷ [])))
