-- Choices leave the same to try where names are added.
use Rattle.std.proofs.Common.{◌≡◌, ◌<◌, ◌≤◌, inl, inr, ℕ, List, [], ◌∷◌, length, map, Option, None, Some, refl, sym, ap, ap₂, subst, arith}
use Rattle.std.specs.Prelude.{All}
use Rattle.std.specs.List.{AllByRecursion}
use Rattle.std.proofs.lemmas.Bool.{cases_lt}
use Rattle.std.proofs.lemmas.List.{get_or_past}
use Rattle.std.proofs.lemmas.List.Elements.{All-weaker, All-head, All-tail}
use Rattle.spec_numbers.specs.Prefixes.{IsPrefix}
use Rattle.spec_numbers.proofs.Prefixes.{prefix_get_or, prefix_same, prefix_length}
use Rattle.spec_numbers.specs.Texts.{Text}
use Rattle.spec_terms.specs.Term.{Name}
use Rattle.spec_syntax.specs.Operators.{Ops}
use Rattle.spec_builtins.specs.Built.{indicator}
use Rattle.spec_branch.specs.Branch.{Branch}
use Rattle.spec_search.specs.Database.{Database}
use Rattle.spec_search.specs.Replies.{Place}
use Rattle.spec_search.specs.Search.{Search}
use Rattle.cq_term.specs.Texts.{text_of}
use Rattle.cq_built.proofs.Trees.{named_alike}
use Rattle.cq_clauses.specs.Database.{ProcedureNow, database, now_of}
use Rattle.cq_clauses.specs.Selected.{key_at, matching}
use Rattle.cq_clauses.specs.Snapshots.{seen, seen_part}
use Rattle.cq_clauses.specs.Walks.{left, left_ahead, IsWalk}
use Rattle.cq_clauses.specs.declared.key.Key.{Key}
use Rattle.cq_clauses.specs.declared.procedures.Part.{Part}
use Rattle.cq_clauses.specs.declared.procedures.Procedure.{Procedure}
use Rattle.cq_clauses.specs.declared.procedures.Snapshot.{Snapshot}
use Rattle.cq_clauses.specs.declared.walk.Walk.{Walk}
use Rattle.cq_predicates.specs.Given.{CanGoOn, over, ways_left}
use Rattle.cq_predicates.specs.declared.solutions.Solutions.{Solutions}
use Rattle.cq_predicates.proofs.Staying.{ways_kept}
use Rattle.cq_resolve.specs.Database.{Program, IsProgram, IsCounted, IsKnown, as_clause, as_parts, as_procedure, as_kind, as_database, content_at}
use Rattle.cq_resolve.specs.Keys.{key_of}
use Rattle.cq_resolve.specs.StoredValue.{ClauseValue, StoredValue}
use Rattle.cq_term.specs.HeapValue.{HeapValue, Terms}
use Rattle.cq_term.specs.Meaning.{blank}
use Rattle.cq_term.specs.Names.{HasNamesOfTerms}
use Rattle.cq_term.specs.Trees.{KnowsTerms}
use Rattle.cq_term.proofs.Known.{names_more}
use Rattle.cq_settle.specs.Contents.{Contents}
use Rattle.spec_engine.specs.Cells.{Left, Clauses, Ways, Caught, Gathers, Matches, Value, Stack}
use Rattle.spec_engine.specs.Standing.{engine, AreBranches, AreWaiting, IsPlace, IsStanding}
use Rattle.cq_branch.specs.declared.alternatives.Alternatives.{Alternatives}
use Rattle.cq_branch.specs.declared.alternatives.Alternatives.TheVariants as alternatives
use Rattle.cq_branch.specs.Choices.{CanBeTried}
use Rattle.cq_branch.specs.Worlds.{IsBranch, term_in, left_of, left_at, stack, Stands}
use Rattle.cq_choices.specs.Held.{Held, IsOver, AreNamedByTerms, open_of}
use Rattle.cq_choices.proofs.Named.{branch_named, term_named, known_more}
use Rattle.cq_branch.proofs.Counted.{open_more}
use Rattle.cq_branch.specs.Stored.{IsCountedTerm, stored_tree, stored_trees}
use Rattle.cq_choices.proofs.Reread.{waiting_known, place_known, current_known}

abbrev IsNamed : Contents → Type 0
IsNamed c = HasNamesOfTerms c.heap

module _ (texts more : List Text) (longer : IsPrefix texts more) where
  text_kept : (a : ℕ) → a < length texts → text_of more a ≡ text_of texts a
  text_kept a l = prefix_get_or texts more a [] longer l

  -- ---- the alternatives of a predicate

  abbrev heap_of : Terms → HeapValue
  heap_of h = record { now = h; saved = []; room = 0 }

  pub ways_named : (h : Terms) → KnowsTerms texts h.terms → (s : Solutions) → CanGoOn h.terms s → ways_left more h.terms s ≡ ways_left texts h.terms s
  ways_named h known s can =
      ways_kept texts more (heap_of h) (heap_of h)
      (record {
        longer = longer;
        terms = prefix_same h.terms h.terms refl;
        images = prefix_same h.images h.images refl;
        names = λ k. known_more texts more longer h.terms k;
        saved = refl;
        room = omega arith;
      }) known s can

  -- ---- the clauses of a call

  module _ (v : Program) (whole : IsProgram texts v) where
    abbrev none : ClauseValue
    none = record { head = blank; body = blank; variables = 0 }

    abbrev SameParts : ClauseValue → Type 0
    SameParts c = as_parts more c ≡ as_parts texts c

    counted_same : (c : ClauseValue) → IsCounted (length texts) c → SameParts c
    counted_same c k = λ i. record {
      head = named_alike (length texts) (text_of more) (text_of texts) text_kept c.head k.below.head i;
      body = named_alike (length texts) (text_of more) (text_of texts) text_kept c.body k.below.body i;
    }

    blank_same : 0 < length texts → SameParts none
    blank_same l = λ i. record { head = Name (text_kept 0 l i); body = Name (text_kept 0 l i) }

    clause_there : (n : ℕ) → n < length v.contents → as_clause more v.contents n ≡ as_clause texts v.contents n
    clause_there n l = ap (λ parts. record { number = n; parts = parts }) (counted_same (content_at v.contents n) (whole.contents n none l))

    clause_past : 0 < length texts → (n : ℕ) → length v.contents ≤ n → as_clause more v.contents n ≡ as_clause texts v.contents n
    clause_past some n l =
        ap (λ parts. record { number = n; parts = parts })
        (subst SameParts (sym (get_or_past v.contents n none l)) (blank_same some))

    clause_any : 0 < length texts → (n : ℕ) → as_clause more v.contents n ≡ as_clause texts v.contents n
    clause_any some n = elim (cases_lt n (length v.contents)) [ inl early ↦ clause_there n early | inr late ↦ clause_past some n late ]

    abbrev SameClauses : List ℕ → Type 0
    SameClauses ns = map (as_clause more v.contents) ns ≡ map (as_clause texts v.contents) ns

    clauses_any : 0 < length texts → (ns : List ℕ) → SameClauses ns
    clauses_any some [] = refl
    clauses_any some (n ∷ ns) = ap₂ (λ c cs. c ∷ cs) (clause_any some n) (clauses_any some ns)

    -- ---- the database that the clauses make

    clauses_there : (ns : List ℕ) → All (λ n. n < length v.contents) ns → SameClauses ns
    clauses_there [] known = refl
    clauses_there (n ∷ ns) known =
        ap₂ (λ c cs. c ∷ cs) (clause_there n (All-head (λ m. m < length v.contents) n ns known)) (clauses_there ns (All-tail (λ m. m < length v.contents) n ns known))

    procedure_same : (p : ProcedureNow) → IsKnown (length texts) (length v.contents) p → as_procedure more v.contents p ≡ as_procedure texts v.contents p
    procedure_same p k = λ i. record {
      indicator = indicator (text_kept p.pred.name k.name i) p.pred.arity;
      kind = as_kind p.kind;
      clauses = clauses_there p.clauses k.numbers i;
    }

    abbrev AreKnown : List ProcedureNow → Type 0
    AreKnown ps = All (IsKnown (length texts) (length v.contents)) ps

    procedures_same : (ps : List ProcedureNow) → AreKnown ps → map (as_procedure more v.contents) ps ≡ map (as_procedure texts v.contents) ps
    procedures_same [] known = refl
    procedures_same (p ∷ ps) known =
        let each = IsKnown (length texts) (length v.contents) in
        ap₂ (λ x xs. x ∷ xs) (procedure_same p (All-head each p ps known)) (procedures_same ps (All-tail each p ps known))

    pub database_same : (ops : Ops) → as_database more ops v ≡ as_database texts ops v
    database_same ops =
        ap (λ ps. record { procedures = ps; operators = ops; next_clause = length v.contents }) (procedures_same (database v.procedures) whole.procedures)

    -- ---- what choices leave

    -- without names there are no procedures
    no_procedures : length texts ≤ 0 → (ps : List Procedure) → All (IsKnown (length texts) (length v.contents)) (database ps) → ps ≡ []
    no_procedures none [] known = refl
    no_procedures none (p ∷ ps) known =
        let k : IsKnown (length texts) (length v.contents) (now_of p) = known 0 (now_of p) (omega arith) in absurd (omega (arith, none, k.name))

    nothing_seen : (p : Option Part) → seen_part p [] ≡ []
    nothing_seen None = refl
    nothing_seen (Some x) = refl

    nothing_matches : (key : ℕ → Option Key) (k : Option Key) (ns : List ℕ) → ns ≡ [] → matching key k ns ≡ []
    nothing_matches key None ns e = e
    nothing_matches key (Some k) ns e = ap (matching key (Some k)) e

    abbrev key : ℕ → Option Key
    key = key_at (λ (c : ClauseValue). key_of c.head) v.contents

    few_left : (k : Option Key) (ahead : Option (ℕ × Snapshot)) → ((r : ℕ × Snapshot) → ahead ≡ Some r → r.0 < length v.contents)
        → SameClauses (left_ahead key k ahead [])
    few_left k None known = refl
    few_left k (Some r) known =
        let none_behind = nothing_matches key k (seen r.1 []) (nothing_seen r.1.part) in
        subst (λ ns. SameClauses (r.0 ∷ ns)) (sym none_behind) (ap (λ c. c ∷ []) (clause_there r.0 (known r refl)))

    without_names : length texts ≤ 0 → (w : Walk) → IsWalk w v → SameClauses (left (λ (c : ClauseValue). key_of c.head) w v)
    without_names no_name w is =
        subst (λ ps. SameClauses (left_ahead key w.key w.ahead ps)) (sym (no_procedures no_name v.procedures whole.procedures)) (few_left w.key w.ahead is.known)

    clauses_same : (w : Walk) → IsWalk w v → SameClauses (left (λ (c : ClauseValue). key_of c.head) w v)
    clauses_same w is = elim (cases_lt 0 (length texts)) [ inl some ↦ clauses_any some (left (λ (c : ClauseValue). key_of c.head) w v) | inr no_name ↦ without_names no_name w is ]

    -- ---- terms that are stored

    stored_named : (s : StoredValue) → IsCountedTerm (length texts) s → stored_tree more s ≡ stored_tree texts s
    stored_named s k = named_alike (length texts) (text_of more) (text_of texts) text_kept s.term k.below

    all_stored_named : (copies : List StoredValue) → All (IsCountedTerm (length texts)) copies → stored_trees more copies ≡ stored_trees texts copies
    all_stored_named [] k = refl
    all_stored_named (s ∷ copies) k =
        ap₂ (λ t ts. t ∷ ts) (stored_named s (All-head (IsCountedTerm (length texts)) s copies k))
        (all_stored_named copies (All-tail (IsCountedTerm (length texts)) s copies k))

    -- ---- all of them

    left_same : (older : Stack Contents) (w : Value Contents) (a : Alternatives) (bs : List Branch) → CanBeTried texts v w.0.heap.terms a
        → AreBranches (IsBranch texts) (term_in texts) older w (left_of texts v w.0.heap.terms a) bs
        → left_of more v w.0.heap.terms a ≡ left_of texts v w.0.heap.terms a
    left_same older w (alternatives.One k) bs can are = refl
    left_same older w (alternatives.Clauses t walk k) bs can are = ap (λ cs. Clauses t cs k) (clauses_same walk can)
    left_same older w (alternatives.Ways s k) bs can are =
        ap (λ ws. Ways (map (over 0) ws) k) (ways_named w.0.heap are.2.continuation.state.ready.stands.names s can)
    left_same older w alternatives.Barrier bs can are = refl
    left_same older w (alternatives.Catches k) bs can are = refl
    left_same older w (alternatives.Caught ball c r k) bs can are = ap (λ t. Caught t c r k) (stored_named ball can)
    left_same older w (alternatives.Gathers t copies k) bs can are = ap (λ ts. Gathers t ts k) (all_stored_named copies can)
    left_same older w (alternatives.Matches t walk removes k) bs can are = ap (λ cs. Matches t removes cs k) (clauses_same walk can)

    abbrev Open : List (Value Contents × Alternatives) → Type 0
    Open xs = AllByRecursion (λ (c : Value Contents × Alternatives). CanBeTried texts v c.0.0.heap.terms c.1) xs

    pub same_choices : (xs : List (Value Contents × Alternatives)) → Open xs → (bs : List Branch)
        → AreWaiting (IsBranch texts) (term_in texts) (map (left_at texts v) xs) bs → map (left_at more v) xs ≡ map (left_at texts v) xs
    same_choices [] can bs waiting = refl
    same_choices (x ∷ xs) can bs waiting =
        let first = left_same (map (left_at texts v) xs) x.0 x.1 waiting.0 can.0 waiting.3 in
        let older = same_choices xs can.1 waiting.1 waiting.4 in
        λ i. (x.0, first i) ∷ older i

    -- the worlds of the choices as the definitions see them
    pub stack_known : (xs : List (Value Contents × Alternatives)) → AreNamedByTerms xs
        → AllByRecursion (λ (c : Value Contents × Left). IsNamed c.0.0) (map (left_at texts v) xs)
    stack_known [] k = k
    stack_known (x ∷ xs) k = (k.0, stack_known xs k.1)

    -- the same branches wait over them
    pub waits_still : (xs : List (Value Contents × Alternatives)) → AreNamedByTerms xs → (bs : List Branch)
        → AreWaiting (IsBranch texts) (term_in texts) (map (left_at texts v) xs) bs → AreWaiting (IsBranch more) (term_in more) (map (left_at texts v) xs) bs
    waits_still xs known bs waiting =
        waiting_known (IsBranch texts) (IsBranch more) (term_in texts) (term_in more) IsNamed (branch_named texts more longer) (term_named texts more longer)
        (map (left_at texts v) xs) (stack_known xs known) bs waiting

    pub waits_more : (xs : List (Value Contents × Alternatives)) → Open xs → AreNamedByTerms xs → (bs : List Branch)
        → AreWaiting (IsBranch texts) (term_in texts) (map (left_at texts v) xs) bs → AreWaiting (IsBranch more) (term_in more) (map (left_at more v) xs) bs
    waits_more xs can known bs waiting =
        subst (λ (x : Stack Contents). AreWaiting (IsBranch more) (term_in more) x bs) (sym (same_choices xs can bs waiting)) (waits_still xs known bs waiting)

    pub place_more : (xs : List (Value Contents × Alternatives)) → Open xs → AreNamedByTerms xs → (bs : List Branch)
        → AreWaiting (IsBranch texts) (term_in texts) (map (left_at texts v) xs) bs → (w : Value Contents) → IsNamed w.0 → (k : ℕ) (p : Place)
        → IsPlace (IsBranch texts) (term_in texts) (map (left_at texts v) xs) w k p → IsPlace (IsBranch more) (term_in more) (map (left_at more v) xs) w k p
    place_more xs can known bs waiting w images k p i =
        subst (λ (x : Stack Contents). IsPlace (IsBranch more) (term_in more) x w k p) (sym (same_choices xs can bs waiting))
        (place_known (IsBranch texts) (IsBranch more) (term_in texts) (term_in more) IsNamed (branch_named texts more longer) (term_named texts more longer)
        (map (left_at texts v) xs) (stack_known xs known) w images k p i)

-- ---- an engine

module _ (more : List Text) (v : Program) (h : Held) (longer : IsPrefix h.texts more) (o : IsOver v h) where
  as_many : length h.texts ≤ length more
  as_many = prefix_length h.texts more longer

  pub program_more : IsProgram more v
  program_more = record {
    contents = All-weaker (IsCounted (length h.texts)) (IsCounted (length more))
        (λ c k. record {
          below = record { head = names_more (length h.texts) (length more) as_many c.head k.below.head; body = names_more (length h.texts) (length more) as_many c.body k.below.body };
          numbered = k.numbered;
        }) v.contents o.program.contents;
    procedures = All-weaker (IsKnown (length h.texts) (length v.contents)) (IsKnown (length more) (length v.contents))
        (λ p k. record { name = omega (arith, as_many, k.name); numbers = k.numbers }) (database v.procedures) o.program.procedures;
  }

  pub over_more : IsOver v (record h { texts = more })
  over_more = record { program = program_more; choices = open_more h.texts more longer v (open_of h) o.choices }

  pub same_stack : (behind : List Branch) → AreWaiting (IsBranch h.texts) (term_in h.texts) (stack h.texts v h.saved h.choices) behind
      → stack more v h.saved h.choices ≡ stack h.texts v h.saved h.choices
  same_stack behind waiting = same_choices h.texts more longer v o.program (open_of h) o.choices behind waiting

  pub back_more : AreNamedByTerms (open_of h) → (db : Database) (n : ℕ) (s : Search) → Stands h.texts v db n h.saved h.choices h.now None s → Stands more v db n h.saved h.choices h.now None s
  back_more known db n s j = record {
    database = j.database;
    selected = j.selected;
    first = j.first;
    behind = j.behind;
    branches = j.branches;
    current = j.current;
    waiting = waits_more h.texts more longer v o.program (open_of h) o.choices known j.behind j.waiting;
  }

  pub stands_more : AreNamedByTerms (open_of h) → IsNamed h.now.0 → (db : Database) (n : ℕ) (current : Option ℕ) (s : Search) → Stands h.texts v db n h.saved h.choices h.now current s
      → Stands more v db n h.saved h.choices h.now current s
  stands_more known known_now db n current s j =
      subst (λ (x : Stack Contents). IsStanding (IsBranch more) (term_in more) (engine db n x h.now current) s) (sym (same_stack j.behind j.waiting))
      (record {
        database = j.database;
        selected = j.selected;
        first = j.first;
        behind = j.behind;
        branches = j.branches;
        current = current_known (IsBranch h.texts) (IsBranch more) (term_in h.texts) (term_in more) IsNamed (branch_named h.texts more longer)
            (term_named h.texts more longer) (stack h.texts v h.saved h.choices) (stack_known h.texts more longer v o.program (open_of h) known) h.now known_now
            current j.first j.current;
        waiting = waits_still h.texts more longer v o.program (open_of h) known j.behind j.waiting;
      })
