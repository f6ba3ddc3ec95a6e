-- An input is read as far as its first bytes decide it.
use Rattle.std.proofs.Common.{◌≡◌, ◌⊎◌, inl, inr, ℕ, suc, zero, ◌-◌, ◌<◌, ◌≤◌, length, List, [], ◌++◌, Bool, true, false, Option, ◌↔◌, append-nil, arith, refl, sym, subst, ◌∙◌}
use Rattle.std.specs.Prelude.{nat_lt}
use Rattle.std.proofs.lemmas.Bool.Decides.{nat_tests}
use Rattle.spec_numbers.specs.Texts.{Text}
use Rattle.spec_syntax.specs.Operators.{Ops}
use Rattle.spec_text.specs.Readings.{Read, Clause, Ended, Syntax, Reads}
use Rattle.spec_text.specs.Decided.{Decided, IsClosed}
use Rattle.spec_text.specs.Laws.{MovesOn}
use Rattle.spec_text.proofs.ByMachine.{read_once}
use Rattle.spec_text.proofs.Onward.{some_reading, moves_on}
use Rattle.spec_text.proofs.Decides.{decided_when_closed}
use Rattle.spec_search.specs.Database.{Database}
use Rattle.spec_transcript.specs.Causes.{Budgets}
use Rattle.spec_transcript.specs.declared.Source.TheVariants.{Input}
use Rattle.spec_transcript.specs.Session.{Reader, Session, Reading}
use Rattle.spec_existence.specs.Existing.{AnswersHaveForms}
use Rattle.spec_existence.proofs.Clauses.{Comes, IsLater, clause_read, error_read}

-- ---- what is decided

closed_or_not : (r : Read) (n : ℕ) → IsClosed r n ⊎ (IsClosed r n → ⊥)
closed_or_not (Clause tree vs to) n = go (nat_lt to n) refl
  where
    go : (b : Bool) → nat_lt to n ≡ b → (to < n) ⊎ (to < n → ⊥)
    go true e = inl (grind (arith, nat_tests))
    go false e = inr (λ h. grind (arith, nat_tests))
closed_or_not Ended n = inr (λ h. h)
closed_or_not (Syntax at to) n = go (nat_lt to n) refl
  where
    go : (b : Bool) → nat_lt to n ≡ b → (to < n) ⊎ (to < n → ⊥)
    go true e = inl (grind (arith, nat_tests))
    go false e = inr (λ h. grind (arith, nat_tests))

-- what is decided stands there whatever follows
reads_on : (ops : Ops) (bytes more : List ℕ) (at : ℕ) (r : Read) → Reads ops bytes at r → Decided ops bytes at → Reads ops (bytes ++ more) at r
reads_on ops bytes more at r h d =
    let here : Reads ops bytes at d.0 = subst (λ x. Reads ops x at d.0) (append-nil bytes) (d.1 []) in
    subst (λ q. Reads ops (bytes ++ more) at q) (read_once ops bytes at d.0 r here h) (d.1 more)

module _ (budgets : Budgets) (shelf : Text → Option (List ℕ)) (input : List ℕ) (first : Session) (forms : AnswersHaveForms) (some_answer : 0 < budgets.answers) (bytes more : List ℕ) where
  abbrev Here : Session → Type 0
  Here b = Comes budgets shelf input first forms some_answer b

  -- reading goes on at the beginning of the bytes or before their end
  abbrev pub StopsShort : Reader → Type 0
  StopsShort r = (r.at ≡ 0) ⊎ (r.at < length bytes)

  -- the place in the input from which the bytes decide no more
  pub record ReadSoFar : Type 0 where
    pub database : Database
    pub reader : Reader
    pub is_input : reader.source ≡ Input
    pub short : StopsShort reader
    pub undecided : Decided database.operators bytes reader.at → ⊥
    pub comes : Here (Reading database reader)

  module _ (n : ℕ) (rest : (db : Database) (r : Reader) → r.source ≡ Input → r.bytes ≡ bytes ++ more → StopsShort r → length bytes - r.at < n → Here (Reading db r) → ReadSoFar) where
    module _ (db : Database) (r : Reader) (is_input : r.source ≡ Input) (whole : r.bytes ≡ bytes ++ more) (short : StopsShort r) (left : length bytes - r.at < suc n) (here : Here (Reading db r)) where
      inside : r.at ≤ length bytes
      inside = elim short [ inl first_place ↦ omega (arith, first_place) | inr before ↦ omega (arith, before) ]

      goes_on : (to : ℕ) → r.at < to → to < length bytes → (d : Database) (q : Reader) → IsLater r to q → Here (Reading d q) → ReadSoFar
      goes_on to a b d q i c =
          let p : q.at ≡ to = i.place in
          rest d q (i.source ∙ is_input) (i.bytes ∙ whole) (inr (omega (arith, p, b))) (omega (arith, p, a, b, left, inside)) c

      -- what is decided stands in the whole input
      by_reading : (x : Read) → IsClosed x (length bytes) → Reads db.operators r.bytes r.at x → MovesOn bytes r.at x → ReadSoFar
      by_reading (Clause term vs to) c h m = clause_read budgets shelf input first forms some_answer ReadSoFar db r to here (goes_on to m.0 c) term vs h
      by_reading Ended c h m = absurd c
      by_reading (Syntax at to) c h m = error_read budgets shelf input first forms some_answer ReadSoFar db r to here (goes_on to m.2 c) at h

      next_so_far : ReadSoFar
      next_so_far =
          let x = some_reading db.operators bytes r.at inside in
          let decides = decided_when_closed db.operators bytes r.at x.0 inside x.1 in
          by x.0 x.1 decides (closed_or_not x.0 (length bytes))
        where
          by : (x : Read) → Reads db.operators bytes r.at x → Decided db.operators bytes r.at ↔ IsClosed x (length bytes) → IsClosed x (length bytes) ⊎ (IsClosed x (length bytes) → ⊥) → ReadSoFar
          by x h d (inl c) =
              by_reading x c (subst (λ b. Reads db.operators b r.at x) (sym whole) (reads_on db.operators bytes more r.at x h (d.1 c))) (moves_on db.operators bytes r.at x inside h)
          by x h d (inr k) = record { database = db; reader = r; is_input = is_input; short = short; undecided = λ e. k (d.0 e); comes = here }

  read_within : (n : ℕ) (db : Database) (r : Reader) → r.source ≡ Input → r.bytes ≡ bytes ++ more → StopsShort r → length bytes - r.at < n → Here (Reading db r) → ReadSoFar
  read_within zero db r e f s l h = absurd (omega (arith, l))
  read_within (suc n) db r e f s l h = next_so_far n (λ d q a b j k x. read_within n d q a b j k x) db r e f s l h

  pub read_so_far : (db : Database) (r : Reader) → r.source ≡ Input → r.bytes ≡ bytes ++ more → StopsShort r → Here (Reading db r) → ReadSoFar
  read_so_far db r e f s h = read_within (suc (length bytes - r.at)) db r e f s (omega arith) h
