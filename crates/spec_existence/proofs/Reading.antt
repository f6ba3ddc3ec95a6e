-- Each text of a session is read to its end, and so are all files and the input.
use Rattle.std.proofs.Common.{◌≡◌, ℕ, suc, zero, ◌+◌, ◌-◌, ◌<◌, ◌≤◌, length, List, [], ◌∷◌, Option, arith, refl, ap, subst}
use Rattle.spec_numbers.specs.Texts.{Text}
use Rattle.spec_text.specs.Readings.{Read, Clause, Ended, Syntax, Reads}
use Rattle.spec_text.specs.Laws.{MovesOn}
use Rattle.spec_text.proofs.Onward.{some_reading, moves_on}
use Rattle.spec_search.specs.Database.{Database}
use Rattle.spec_transcript.specs.Causes.{Budgets}
use Rattle.spec_transcript.specs.declared.Source.{Source}
use Rattle.spec_transcript.specs.declared.Source.TheVariants.{File, Input}
use Rattle.spec_transcript.specs.Purposes.{once}
use Rattle.spec_transcript.specs.Session as session
use Rattle.spec_transcript.specs.Session.{Asked, Reader, beginning, ADirective, Session, Opening, Reading, Searching, Over, begun}
use Rattle.spec_existence.specs.Existing.{AreThere, AnswersHaveForms}
use Rattle.spec_existence.proofs.Searching.{onward}
use Rattle.spec_existence.proofs.Clauses.{Comes, IsLater, searched, clause_read, error_read}

module _ (budgets : Budgets) (shelf : Text → Option (List ℕ)) (input : List ℕ) (first : Session) (forms : AnswersHaveForms) (some_answer : 0 < budgets.answers) where
  -- where a text ends: before the files behind it, or at the end of all
  abbrev pub behind : Source → List Text → Database → Session
  behind File names db = Opening db names
  behind Input names db = Over db

  abbrev Here : Session → Type 0
  Here b = Comes budgets shelf input first forms some_answer b

  abbrev pub IsRead : Source → List Text → Type 0
  IsRead source names = (db : Database) × Here (behind source names db)

  -- what is left to read, and to run behind the text
  abbrev pub left_of : Reader → ℕ
  left_of r = (length r.bytes - r.at) + (length r.bytes - r.at) + length r.later

  -- ---- the next of a text

  module _ (n : ℕ) (rest : (db : Database) (r : Reader) → r.at ≤ length r.bytes → left_of r < n → Here (Reading db r) → IsRead r.source r.files) where
    module _ (db : Database) (r : Reader) (inside : r.at ≤ length r.bytes) (left : left_of r < suc n) (here : Here (Reading db r)) where
      -- behind a clause or an error
      goes_on : (to : ℕ) → r.at < to → to ≤ length r.bytes → (d : Database) (q : Reader) → IsLater r to q → Here (Reading d q) → IsRead r.source r.files
      goes_on to a b d q i c =
          let e : length q.bytes ≡ length r.bytes = ap length i.bytes in
          let p : q.at ≡ to = i.place in
          let l : length q.later ≤ suc (length r.later) = i.later in
          subst (λ x. IsRead r.source x) i.files (subst (λ x. IsRead x q.files) i.source (rest d q (omega (arith, e, p, b)) (omega (arith, e, p, l, a, b, left, inside)) c))

      -- ---- the end of the text

      ends_text : Reads db.operators r.bytes r.at Ended → IsRead r.source r.files
      ends_text h = by r.later refl
        where
          close : (x : Source) → r.source ≡ x → r.later ≡ [] → IsRead x r.files
          close File e d = (db, onward budgets shelf input first forms (Reading db r) (Opening db r.files) _ _ here (session.file_ends h e d))
          close Input e d = (db, onward budgets shelf input first forms (Reading db r) (Over db) _ _ here (session.input_ends h e d))

          by : (goals : List Asked) → r.later ≡ goals → IsRead r.source r.files
          by [] d = close r.source refl d
          by (a ∷ more) d =
              let t = searched budgets shelf input first forms some_answer db (once a.goal) a.variables ADirective (record r { later = more }) tt
              (onward budgets shelf input first forms (Reading db r) (Searching (begun db (once a.goal) 0 a.variables) ADirective (record r { later = more })) _ _ here
              (session.initializes 0 h d)) in
              rest t.0 (record r { later = more }) inside (let c : length r.later ≡ suc (length more) = ap length d in omega (arith, c, left)) t.1

      by_reading : (x : Read) → Reads db.operators r.bytes r.at x → MovesOn r.bytes r.at x → IsRead r.source r.files
      by_reading (Clause term vs to) h m =
          clause_read budgets shelf input first forms some_answer (IsRead r.source r.files) db r to here (goes_on to m.0 m.1) term vs h
      by_reading Ended h m = ends_text h
      by_reading (Syntax at to) h m = error_read budgets shelf input first forms some_answer (IsRead r.source r.files) db r to here (goes_on to m.2 m.3) at h

      next_of_text : IsRead r.source r.files
      next_of_text =
          let x = some_reading db.operators r.bytes r.at inside in
          by_reading x.0 x.1 (moves_on db.operators r.bytes r.at x.0 inside x.1)

  pub text_read : (n : ℕ) (db : Database) (r : Reader) → r.at ≤ length r.bytes → left_of r < n → Here (Reading db r) → IsRead r.source r.files
  text_read zero db r i l h = absurd (omega (arith, l))
  text_read (suc n) db r i l h = next_of_text n (λ d q j k x. text_read n d q j k x) db r i l h

  -- ---- all files, and the input

  begin : (source : Source) (bytes : List ℕ) (names : List Text) (db : Database) → Here (Reading db (beginning source bytes names)) → IsRead source names
  begin source bytes names db h = text_read (suc (left_of (beginning source bytes names))) db (beginning source bytes names) (omega arith) (omega arith) h

  pub all_read : (names : List Text) → AreThere shelf names → (db : Database) → Here (Opening db names) → (last : Database) × Here (Over last)
  all_read [] there db h =
      begin Input input [] db (onward budgets shelf input first forms (Opening db []) (Reading db (beginning Input input [])) _ _ h session.opens_input)
  all_read (name ∷ names) there db h =
      let bytes : List ℕ = there.0.0 in
      let r = begin File bytes names db (onward budgets shelf input first forms (Opening db (name ∷ names)) (Reading db (beginning File bytes names)) _ _ h (session.opens_file there.0.1)) in
      all_read names there.1 r.0 r.1
