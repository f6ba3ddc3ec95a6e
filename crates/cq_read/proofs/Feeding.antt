-- What a feed knows of its bytes.
use Rattle.std.proofs.Common.{◌≡◌, ◌≢◌, ℕ, suc, ◌+◌, ◌-◌, ◌<◌, ◌≤◌, nat_lt, Bool, true, false, List, [], ◌∷◌, ◌++◌, take, drop, length, length-take, get_or, Some, Result, Ok, Err, ◌⊎◌, inl, inr, refl, sym, ap, subst, ◌∙◌, arith}
use Rattle.std.specs.Prelude.{◌||◌, ◌&&◌, ◌==◌}
use Rattle.std.specs.declared.alloc.AllocError.{AllocError}
use Rattle.std.proofs.Math.Seq.{drop-cons}
use Rattle.std.proofs.lemmas.Bool.Decides.{nat_tests}
use Rattle.std.proofs.lemmas.List.{append-nil, take-append-drop, take_all}
use Rattle.spec_numbers.specs.Texts.{Text}
use Rattle.spec_syntax.specs.Operators.{Ops}
use Rattle.spec_syntax.specs.Characters.{is_layout, begins_with}
use Rattle.spec_syntax.specs.GrammarTokens.{ends_clause}
use Rattle.spec_text.specs.Readings as readings
use Rattle.spec_text.specs.Readings.{Clause, Ended, Syntax, Reads}
use Rattle.spec_text.specs.Laws.{MovesOn}
use Rattle.spec_text.specs.Later.{read_later}
use Rattle.spec_text.specs.Decided.{Decided, IsClosed, IsFullStop}
use Rattle.spec_text.proofs.Onward.{moves_on}
use Rattle.spec_text.proofs.Decides.{final, closed_final, final_closed, decided_when_closed, stop_there}
use Rattle.spec_text.proofs.Anywhere.{read_earlier}
use Rattle.cq_term.specs.HeapValue.{HeapValue, Terms}
use Rattle.cq_read.specs.declared.reading.Read.{Read}
use Rattle.cq_read.specs.declared.reading.Read.TheVariants as read
use Rattle.cq_read.specs.Inputs.{IsTried}
use Rattle.cq_read.specs.Shown.{read_of, IsReadOf, IsForward, Leaves}
use Rattle.cq_read.specs.Feeds.{place_after, goes_on_before}

-- ---- full stops

pub full_stop_ends : (text : List ℕ) (at : ℕ) → IsFullStop text at → (is_layout (get_or text (at + 1) 0) || (get_or text (at + 1) 0 == 37)) ≡ true
full_stop_ends text at is =
    let one : at + 1 ≡ suc at = omega arith in
    let second : (is_layout (get_or text (suc at) 0) || (get_or text (suc at) 0 == 37)) ≡ true = subst (λ bs. ends_clause bs ≡ true) (drop-cons text (suc at) 0 is.inside) is.ends in
    subst (λ n. (is_layout (get_or text n 0) || (get_or text n 0 == 37)) ≡ true) (sym one) second

-- ---- bytes that decide nothing

pub tried_at_place : (bytes : List ℕ) (place : ℕ) → place ≤ length bytes → IsTried bytes place place
tried_at_place bytes place fits = record { fits = fits; within = fits; undecided = λ le ops r reads closed. by ops r (moves_on ops (take place bytes) place r (omega (arith, length-take place bytes, fits)) reads) closed }
  where
    by : (ops : Ops) (r : readings.Read) → MovesOn (take place bytes) place r → IsClosed r place → ⊥
    by ops (Clause tree variables next) moved closed = omega (arith, moved.0, closed)
    by ops Ended moved closed = closed
    by ops (Syntax error resume) moved closed = omega (arith, moved.2, closed)

-- no full stop stands behind the bytes that were tried
pub undecided : (bytes : List ℕ) (place tried from : ℕ) → IsTried bytes place tried → (from ≤ place) ⊎ (from + 1 ≤ tried) → ((stop : ℕ) → from ≤ stop → IsFullStop bytes stop → ⊥) →
    (ops : Ops) (r : readings.Read) → Reads ops bytes place r → IsClosed r (length bytes) → ⊥
undecided bytes place tried from is near none ops r reads closed = by (stop_there ops bytes place r is.fits reads closed) near
  where
    shorter : List ℕ
    shorter = take tried bytes

    size : length shorter ≡ tried
    size = omega (arith, length-take tried bytes, is.within)

    earlier : place ≤ tried → final r < tried → ⊥
    earlier le lt =
        let inside : IsClosed r tried = final_closed r tried (closed_final r (length bytes) closed).1 lt in
        is.undecided le ops r
        (read_earlier ops shorter (drop tried bytes) place r (omega (arith, size, le)) (subst (λ x. Reads ops x place r) (sym (take-append-drop tried bytes)) reads)
        (subst (λ n. IsClosed r n) (sym size) inside)) inside

    by : (stop : ℕ) × (place ≤ stop) × (final r ≡ suc stop) × IsFullStop bytes stop → (from ≤ place) ⊎ (from + 1 ≤ tried) → ⊥
    by (stop, behind, next, stands) (inl le) = none stop (omega (arith, le, behind)) stands
    by (stop, behind, next, stands) (inr le) = cases (nat_lt stop from) refl
      where
        cases : (b : Bool) → nat_lt stop from ≡ b → ⊥
        cases true e = let lt : stop < from = grind (arith, nat_tests) in earlier (omega (arith, lt, le, behind)) (omega (arith, lt, le, next))
        cases false e = let ge : from ≤ stop = grind (arith, nat_tests) in none stop ge stands

-- bytes that were all tried
pub tried_all : (bytes : List ℕ) (place : ℕ) → place ≤ length bytes → ((ops : Ops) (r : readings.Read) → Reads ops bytes place r → IsClosed r (length bytes) → ⊥) → IsTried bytes place (length bytes)
tried_all bytes place fits none = record {
  fits = fits;
  within = omega arith;
  undecided = λ le ops r reads closed. none ops r (subst (λ x. Reads ops x place r) (take_all (length bytes) bytes (omega arith)) reads) closed;
}

-- a place up to which all was tried lies within the bytes
pub near_within : (place tried from len : ℕ) → (from ≤ place) ⊎ (from + 1 ≤ tried) → place ≤ len → tried ≤ len → from ≤ len
near_within place tried from len (inl le) h k = omega arith
near_within place tried from len (inr le) h k = omega arith

-- ---- what is read

module _ (texts : List Text) (heap : Terms) (n : ℕ) where
  pub closed_by : (r : Read) (q : readings.Read) (len : ℕ) → read_of texts heap r ≡ read_later n q → goes_on_before r len ≡ true → IsClosed q len
  closed_by (read.Clause term names next) (Clause tree variables place) len e g = let same : next ≡ place = cc in let lt : next < len = grind (arith, nat_tests) in omega (arith, same, lt)
  closed_by (read.Syntax at resume) (Syntax error on) len e g = let same : resume ≡ on = cc in let lt : resume < len = grind (arith, nat_tests) in omega (arith, same, lt)
  closed_by read.End q len e g = cc
  closed_by (read.Clause term names next) Ended len e g = cc
  closed_by (read.Clause term names next) (Syntax error on) len e g = cc
  closed_by (read.Syntax at resume) Ended len e g = cc
  closed_by (read.Syntax at resume) (Clause tree variables place) len e g = cc

  pub open_by : (r : Read) (q : readings.Read) (len : ℕ) → read_of texts heap r ≡ read_later n q → goes_on_before r len ≡ false → IsClosed q len → ⊥
  open_by (read.Clause term names next) (Clause tree variables place) len e g c = let same : next ≡ place = cc in let ge : len ≤ next = grind (arith, nat_tests) in omega (arith, same, ge, c)
  open_by (read.Syntax at resume) (Syntax error on) len e g c = let same : resume ≡ on = cc in let ge : len ≤ resume = grind (arith, nat_tests) in omega (arith, same, ge, c)
  open_by read.End Ended len e g c = c
  open_by read.End (Clause tree variables place) len e g c = let no : (let x : readings.Read = Ended in x ≡ read_later n (Clause tree variables place)) = e in cc
  open_by read.End (Syntax error on) len e g c = let no : (let x : readings.Read = Ended in x ≡ read_later n (Syntax error on)) = e in cc
  open_by (read.Clause term names next) Ended len e g c = c
  open_by (read.Clause term names next) (Syntax error on) len e g c = absurd (apart e)
    where
      apart : {t : _} {v : _} → Clause t v next ≡ Syntax error on → ⊥
      apart e = cc
  open_by (read.Syntax at resume) Ended len e g c = c
  open_by (read.Syntax at resume) (Clause tree variables place) len e g c = absurd (apart e)
    where
      apart : {t : _} {v : _} → Syntax at resume ≡ Clause t v place → ⊥
      apart e = cc

  pub goes_forward : (r : Read) (q : readings.Read) (text : List ℕ) (at : ℕ) → read_of texts heap r ≡ read_later n q → MovesOn text at q → IsForward (length text) at r
  goes_forward (read.Clause term names next) (Clause tree variables place) text at e moved = let same : next ≡ place = cc in (omega (arith, same, moved.0), omega (arith, same, moved.1))
  goes_forward (read.Syntax error resume) (Syntax other on) text at e moved =
      let same : error ≡ other = cc in
      let goes : resume ≡ on = cc in
      (omega (arith, same, moved.0), omega (arith, same, goes, moved.1), omega (arith, goes, moved.2), omega (arith, goes, moved.3))
  goes_forward read.End q text at e moved = tt
  goes_forward (read.Clause term names next) Ended text at e moved = cc
  goes_forward (read.Clause term names next) (Syntax error on) text at e moved = cc
  goes_forward (read.Syntax error resume) Ended text at e moved = cc
  goes_forward (read.Syntax error resume) (Clause tree variables place) text at e moved = cc

  -- reading goes on within the text
  pub place_within : (r : Read) (q : readings.Read) (text : List ℕ) (at : ℕ) → at ≤ length text → read_of texts heap r ≡ read_later n q → MovesOn text at q → place_after at r ≤ length text
  place_within (read.Clause term names next) (Clause tree variables place) text at fits e moved = let same : next ≡ place = cc in omega (arith, same, moved.1)
  place_within (read.Syntax error resume) (Syntax other on) text at fits e moved = let same : resume ≡ on = cc in omega (arith, same, moved.3)
  place_within read.End q text at fits e moved = fits
  place_within (read.Clause term names next) Ended text at fits e moved = cc
  place_within (read.Clause term names next) (Syntax error on) text at fits e moved = cc
  place_within (read.Syntax error resume) Ended text at fits e moved = cc
  place_within (read.Syntax error resume) (Clause tree variables place) text at fits e moved = cc

module _ (ops : Ops) (bytes : List ℕ) (place n : ℕ) (fits : place ≤ length bytes) (texts : List Text) (heap : Terms) (r : Read) (is : IsReadOf ops bytes place n (read_of texts heap r)) where
  pub fits_behind : place_after place r ≤ length bytes
  fits_behind = place_within texts heap n r is.0 bytes place fits is.2 (moves_on ops bytes place is.0 fits is.1)

  pub forward : IsForward (length bytes) place r
  forward = goes_forward texts heap n r is.0 bytes place is.2 (moves_on ops bytes place is.0 fits is.1)

  pub is_settled : (finished : Bool) → (finished || goes_on_before r (length bytes)) ≡ true → (finished ≡ true) ⊎ Decided ops bytes place
  is_settled true e = inl refl
  is_settled false e = inr ((decided_when_closed ops bytes place is.0 fits is.1).1 (closed_by texts heap n r is.0 (length bytes) is.2 e))

  pub is_unsettled : (finished : Bool) → (finished || goes_on_before r (length bytes)) ≡ false → (finished ≡ false) × (Decided ops bytes place → ⊥)
  is_unsettled true e = cc
  is_unsettled false e = (refl, λ decided. open_by texts heap n r is.0 (length bytes) is.2 e ((decided_when_closed ops bytes place is.0 fits is.1).0 decided))

-- with other numbers of variables, on a heap that stands as before
pub moved_read : (ops : Ops) (text : List ℕ) (at n m : ℕ) (q p : readings.Read) → n ≡ m → q ≡ p → IsReadOf ops text at n q → IsReadOf ops text at m p
moved_read ops text at n m q p same is h = subst (λ x. IsReadOf ops text at m x) is (subst (λ x. IsReadOf ops text at x q) same h)

-- marks are kept in each case
pub leaves_saved : (old new : HeapValue) (r : Result Read AllocError) → Leaves old new r → (new.saved ≡ old.saved) × (old.room ≤ new.room)
leaves_saved old new (Ok (read.Clause term names next)) h = (h.saved, h.room)
leaves_saved old new (Ok read.End) h = (h.saved, h.room)
leaves_saved old new (Ok (read.Syntax at resume)) h = (h.saved, h.room)
leaves_saved old new (Err e) h = (h.saved, h.room)

-- more bytes are needed where those so far decide nothing
pub undecided_needs : (ops : Ops) (bytes : List ℕ) (place : ℕ) → place ≤ length bytes → (finished : Bool) → finished ≡ false →
    ((ops : Ops) (r : readings.Read) → Reads ops bytes place r → IsClosed r (length bytes) → ⊥) → (finished ≡ false) × (Decided ops bytes place → ⊥)
undecided_needs ops bytes place fits finished e none = (
  e,
  λ (r, all).
      let reads = subst (λ x. Reads ops x place r) (append-nil bytes) (all []) in
      none ops r reads ((decided_when_closed ops bytes place r fits reads).0 (r, all)),
)
