-- One more copy at a choice that gathers.
use Rattle.std.proofs.Common.{◌≡◌, ◌<◌, ◌-◌, ℕ, suc, List, [], ◌∷◌, ◌++◌, length, length-append, map, drop, None, Some, refl, sym, ap, ◌∙◌, subst, arith}
use Rattle.std.proofs.lemmas.List.{drop_at, length-map, map-append}
use Rattle.spec_numbers.specs.Texts.{Text}
use Rattle.spec_terms.specs.Variables.{renamed_from}
use Rattle.spec_terms.proofs.RenamedVariables.{renamed_named}
use Rattle.spec_syntax.specs.Trees.{Tree}
use Rattle.spec_search.specs.Database.{Database}
use Rattle.spec_search.specs.Search.{Search}
use Rattle.cq_term.specs.Texts.{text_of}
use Rattle.cq_control.specs.Items.{items_at}
use Rattle.cq_control.specs.Open.{last, open_choices}
use Rattle.cq_resolve.specs.Database.{Program}
use Rattle.cq_resolve.specs.StoredValue.{StoredValue}
use Rattle.cq_term.specs.Meaning.{HeapTerm, at}
use Rattle.cq_term.specs.Trees.{tree}
use Rattle.cq_settle.specs.Contents.{Contents}
use Rattle.spec_engine.specs.declared.machine.cell.Cell.TheVariants.{Collect}
use Rattle.spec_engine.specs.Cells.{IsGathering, TopGathers, GathersAt, Value, Stack}
use Rattle.spec_engine.specs.Cells as left
use Rattle.spec_engine.specs.Standing.{engine, IsStanding}
use Rattle.spec_engine.specs.Coming.{Comes}
use Rattle.spec_engine.proofs.Gathered.{collects_there, copy_gathered}
use Rattle.cq_branch.specs.declared.alternatives.Alternatives.{Alternatives}
use Rattle.cq_branch.specs.declared.alternatives.Alternatives.TheVariants as alternatives
use Rattle.cq_branch.specs.Stored.{stored_tree, stored_trees}
use Rattle.cq_branch.specs.Worlds.{IsBranch, term_in, stack, left_at, left_of, Stands, Arrives}
use Rattle.cq_branch.proofs.Disjunctions.{term_there}

abbrev pub Opened : Type 0
Opened = List (Value Contents × Alternatives)

-- a choice that gathers for the definitions gathers
pub gathers_is : (texts : List Text) (v : Program) (ts : List HeapTerm) (a : Alternatives) → IsGathering (left_of texts v ts a)
    → (l : ℕ) × (copies : List StoredValue) × (j : ℕ) × (a ≡ alternatives.Gathers l copies j)
gathers_is texts v ts (alternatives.One k) g = absurd g
gathers_is texts v ts (alternatives.Clauses t walk k) g = absurd g
gathers_is texts v ts (alternatives.Ways s k) g = absurd g
gathers_is texts v ts alternatives.Barrier g = absurd g
gathers_is texts v ts (alternatives.Catches k) g = absurd g
gathers_is texts v ts (alternatives.Caught ball c r k) g = absurd g
gathers_is texts v ts (alternatives.Gathers l copies j) g = (l, copies, j, refl)
gathers_is texts v ts (alternatives.Matches t walk removes k) g = absurd g

-- the stack of choices of which one has so many older ones
module _ (texts : List Text) (v : Program) where
  stack_parts : (front : Opened) (value : Value Contents) (a : Alternatives) (below : Opened)
      → map (left_at texts v) (front ++ (value, a) ∷ below) ≡ map (left_at texts v) front ++ left_at texts v (value, a) ∷ map (left_at texts v) below
  stack_parts front value a below = map-append (left_at texts v) front ((value, a) ∷ below)

  module _ (saved : List (Value Contents)) (choices newer older : List Alternatives) (x : Alternatives) (is : choices ≡ newer ++ x ∷ older)
      (front below : Opened) (value : Value Contents) (long : length below ≡ length older)
      (opened : (other : Alternatives) → open_choices saved (newer ++ other ∷ older) ≡ front ++ (value, other) ∷ below) where
    stack_is : stack texts v saved choices ≡ map (left_at texts v) front ++ left_at texts v (value, x) ∷ map (left_at texts v) below
    stack_is = ap (λ (cs : List Alternatives). map (left_at texts v) (open_choices saved cs)) is ∙ ap (map (left_at texts v)) (opened x) ∙ stack_parts front value x below

    long_below : length (map (left_at texts v) below) ≡ length older
    long_below = length-map below (left_at texts v) ∙ long

    -- what gathers there is that choice
    pub gathers_there : GathersAt (stack texts v saved choices) (length older)
        → (l : ℕ) × (copies : List StoredValue) × (j : ℕ) × (x ≡ alternatives.Gathers l copies j)
    gathers_there g =
        let newest : Stack Contents = left_at texts v (value, x) ∷ map (left_at texts v) below in
        let here : last (suc (length older)) (stack texts v saved choices) ≡ newest =
        ap (last (suc (length older))) stack_is ∙ ap (λ (n : ℕ). last (suc n) (map (left_at texts v) front ++ newest)) (sym long_below)
        ∙ last-whole (map (left_at texts v) front) newest in
        gathers_is texts v value.0.heap.terms x (subst TopGathers here g)
      where
        last-whole : (xs ys : Stack Contents) → last (length ys) (xs ++ ys) ≡ ys
        last-whole xs ys =
            let e : length (xs ++ ys) - length ys ≡ length xs = omega (arith, length-append xs ys) in
            ap (λ (m : ℕ). drop m (xs ++ ys)) e ∙ drop_at xs ys (length xs) refl

    -- one more copy is gathered there
    pub gathered_there : (steps : ℕ) (db : Database) (n : ℕ) (now : Value Contents) (k rest t l j : ℕ) (copies : List StoredValue) (copy : StoredValue)
        (after : List Alternatives) (s : Search) → x ≡ alternatives.Gathers l copies j → after ≡ newer ++ alternatives.Gathers l (copies ++ copy ∷ []) j ∷ older
        → items_at now.1 k ≡ Collect (length older) t ∷ items_at now.1 rest → t < length now.0.heap.terms → copy.term ≡ renamed_from 0 (at now.0.heap.terms t)
        → Stands texts v db n saved choices now (Some k) s → Arrives steps texts v db n saved after now None s
    gathered_there steps db n now k rest t l j copies copy after s gathers becomes cells live renamed stands =
        let newer_stack = map (left_at texts v) front in
        let older_stack = map (left_at texts v) below in
        let was : stack texts v saved choices ≡ newer_stack ++ (value, left.Gathers l (stored_trees texts copies) j) ∷ older_stack =
        stack_is ∙ ap (λ (a : Alternatives). newer_stack ++ left_at texts v (value, a) ∷ older_stack) gathers in
        let tree_stored : stored_tree texts copy ≡ renamed_from 0 (tree texts now.0.heap.terms t) =
        ap (λ (u : HeapTerm). named_by u) renamed ∙ renamed_named (text_of texts) 0 (at now.0.heap.terms t) in
        let all_stored : stored_trees texts (copies ++ copy ∷ []) ≡ stored_trees texts copies ++ renamed_from 0 (tree texts now.0.heap.terms t) ∷ [] =
        map-append (stored_tree texts) copies (copy ∷ []) ∙ ap (λ (u : Tree). stored_trees texts copies ++ u ∷ []) tree_stored in
        let is_now : stack texts v saved after ≡ newer_stack ++ (value, left.Gathers l (stored_trees texts copies ++ renamed_from 0 (tree texts now.0.heap.terms t) ∷ []) j) ∷ older_stack =
        ap (λ (cs : List Alternatives). map (left_at texts v) (open_choices saved cs)) becomes
        ∙ ap (map (left_at texts v)) (opened (alternatives.Gathers l (copies ++ copy ∷ []) j))
        ∙ stack_parts front value (alternatives.Gathers l (copies ++ copy ∷ []) j) below
        ∙ ap (λ (us : List Tree). newer_stack ++ (value, left.Gathers l us j) ∷ older_stack) all_stored in
        subst (λ (st : Stack Contents). Comes (IsBranch texts) (term_in texts) steps (engine db n st now None) s) (sym is_now)
        (copy_gathered (IsBranch texts) (term_in texts) steps db n newer_stack older_stack value now k rest s l j (stored_trees texts copies)
        (subst (λ (st : Stack Contents). IsStanding (IsBranch texts) (term_in texts) (engine db n st now (Some k)) s) was stands)
        t (cells ∙ ap (λ (m : ℕ). Collect m t ∷ items_at now.1 rest) (sym long_below)) (tree texts now.0.heap.terms t) (term_there texts now.0.heap.terms t live))
      where
        named_by : HeapTerm → Tree
        named_by u = stored_tree texts (record { term = u; variables = 0 })

-- what is known where the mark of a findall is in front
pub mark_there : (texts : List Text) (v : Program) (db : Database) (n : ℕ) (saved : List (Value Contents)) (choices : List Alternatives) (now : Value Contents) (k rest height t : ℕ) (s : Search)
    → Stands texts v db n saved choices now (Some k) s → items_at now.1 k ≡ Collect height t ∷ items_at now.1 rest
    → (height < length (stack texts v saved choices)) × GathersAt (stack texts v saved choices) height × ((x : Tree) × (term_in texts now.0 t ≡ Some x))
mark_there texts v db n saved choices now k rest height t s j e =
    collects_there (IsBranch texts) (term_in texts) db n (stack texts v saved choices) now k rest s j height t e
