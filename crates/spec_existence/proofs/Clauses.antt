-- What a session does with a clause of a text, or with an error of syntax, until it reads on.
use Rattle.std.proofs.Common.{◌≡◌, ℕ, suc, ◌+◌, ◌<◌, ◌≤◌, length, List, [], ◌∷◌, ◌++◌, Option, Some, None, arith, refl}
use Rattle.std.proofs.lemmas.List.{length-append}
use Rattle.spec_numbers.specs.Texts.{Text}
use Rattle.spec_syntax.specs.Trees.{Tree}
use Rattle.spec_syntax.specs.TextTokens.{Variables}
use Rattle.spec_text.specs.Readings.{Clause, Syntax, Reads}
use Rattle.spec_text.specs.Later.{tree_later}
use Rattle.spec_search.specs.Database.{Database}
use Rattle.spec_search.specs.Changes.{consult_error, consulted}
use Rattle.spec_transcript.specs.Causes.{Budgets}
use Rattle.spec_transcript.specs.Purposes.{Purpose, Directive, Initialization, Query, Fact, purpose, once}
use Rattle.spec_transcript.specs.Session as session
use Rattle.spec_transcript.specs.Session.{Asked, Reader, Asker, ADirective, AQuery, Session, Reading, Searching, Stands, begun, names_from}
use Rattle.spec_existence.proofs.ProgressLemmas.{start_sound}
use Rattle.spec_existence.specs.Existing.{AnswersHaveForms, IsAsking}
use Rattle.spec_existence.proofs.Numbered.{clause_numbered}
use Rattle.spec_existence.proofs.Searching.{Reached, onward, search_ends}

-- the same text at another place, with one more goal behind it at most
pub record IsLater (r : Reader) (to : ℕ) (q : Reader) : Type 0 where
  pub source : q.source ≡ r.source
  pub files : q.files ≡ r.files
  pub bytes : q.bytes ≡ r.bytes
  pub place : q.at ≡ to
  pub later : length q.later ≤ suc (length r.later)

module _ (budgets : Budgets) (shelf : Text → Option (List ℕ)) (input : List ℕ) (first : Session) (forms : AnswersHaveForms) (some_answer : 0 < budgets.answers) where
  abbrev pub Comes : Session → Type 0
  Comes b = Reached budgets shelf input first forms b

  -- the search of a goal comes to an end
  pub searched : (d : Database) (g : Tree) (vs : Variables) (who : Asker) (q : Reader) → IsAsking who → Comes (Searching (begun d g 0 vs) who q)
      → (last : Database) × Comes (Reading last q)
  searched d g vs who q asking c =
      search_ends budgets shelf input first forms q (begun d g 0 vs) who
      (record { sound = start_sound d (tree_later 0 g) (0 + vs.count); within = omega arith; asking = asking }) c

  module _ (Result : Type 0) (db : Database) (r : Reader) (to : ℕ) (here : Comes (Reading db r)) (rest : (d : Database) (q : Reader) → IsLater r to q → Comes (Reading d q) → Result) where
    abbrev there : Reader
    there = record r { at = to }

    is_there : IsLater r to (record r { at = to })
    is_there = record { source = refl; files = refl; bytes = refl; place = refl; later = omega arith }

    pub error_read : (at : ℕ) → Reads db.operators r.bytes r.at (Syntax at to) → Result
    error_read at h = rest db there is_there (onward budgets shelf input first forms (Reading db r) (Reading db there) _ _ here (session.syntax h))

    module _ (term : Tree) (vs : Variables) (reads : Reads db.operators r.bytes r.at (Clause term vs to)) where
      stands : (what : Purpose) → purpose r.source term ≡ what → Stands db r what vs to
      stands what e = record { term = term; reads = reads; purpose_is = e }

      -- the search, and then the rest
      then_on : (g : Tree) (who : Asker) → IsAsking who → Comes (Searching (begun db g 0 vs) who there) → Result
      then_on g who asking c = let t = searched db g vs who there asking c in rest t.0 there is_there t.1

      waits : (g : Tree) → purpose r.source term ≡ Initialization g → Result
      waits g e =
          let a : Asked = record { goal = g; variables = vs } in
          rest db (record r { at = to; later = r.later ++ a ∷ [] })
          (record { source = refl; files = refl; bytes = refl; place = refl; later = omega (arith, length-append r.later (a ∷ [])) })
          (onward budgets shelf input first forms (Reading db r) (Reading db (record r { at = to; later = r.later ++ a ∷ [] })) _ _ here (session.waits (stands (Initialization g) e)))

      adds : (t : Tree) → purpose r.source term ≡ Fact t → Result
      adds t e = by (consult_error t) refl
        where
          by : (o : Option Tree) → consult_error t ≡ o → Result
          by None d =
              rest (consulted t db) there is_there
              (onward budgets shelf input first forms (Reading db r) (Reading (consulted t db) there) _ _ here (session.adds (stands (Fact t) e) d))
          by (Some x) d =
              rest db there is_there (onward budgets shelf input first forms (Reading db r) (Reading db there) _ _ here (session.refuses (stands (Fact t) e) d))

      by_purpose : (what : Purpose) → purpose r.source term ≡ what → Result
      by_purpose (Directive g) e =
          then_on (once g) ADirective tt
          (onward budgets shelf input first forms (Reading db r) (Searching (begun db (once g) 0 vs) ADirective there) _ _ here (session.directs 0 (stands (Directive g) e)))
      by_purpose (Initialization g) e = waits g e
      by_purpose (Query g) e =
          then_on g (AQuery (names_from 0 vs) budgets.answers) (some_answer, clause_numbered db.operators r.bytes r.at 0 term vs to reads)
          (onward budgets shelf input first forms (Reading db r) (Searching (begun db g 0 vs) (AQuery (names_from 0 vs) budgets.answers) there) _ _ here
          (session.asks 0 (stands (Query g) e)))
      by_purpose (Fact t) e = adds t e

      pub clause_read : Result
      clause_read = by_purpose (purpose r.source term) refl
