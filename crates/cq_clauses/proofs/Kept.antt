-- What each change of the procedures keeps.
use Rattle.std.proofs.Common.{◌≡◌, ℕ, zero, suc, ◌+◌, ◌-◌, ◌<◌, Bool, false, List, [], ◌∷◌, ◌++◌, length, map, set, get_or, position, Option, Some, None, refl, sym, ap, ap₂, subst, ◌∙◌, inl, inr, arith}
use Rattle.std.specs.Prelude.{slice_get}
use Rattle.std.specs.List.{list_any}
use Rattle.std.specs.Option.{option_map, option_map_or}
use Rattle.std.proofs.lemmas.Option.{same_Some, slice_get_read, slice_get_within}
use Rattle.cq_term.specs.declared.names.Pred.{Pred}
use Rattle.cq_clauses.specs.declared.list.End.{End}
use Rattle.cq_clauses.specs.declared.list.End.TheVariants.{First, Last}
use Rattle.cq_clauses.specs.declared.list.Window.{Window}
use Rattle.cq_clauses.specs.declared.procedures.Kind.{Kind}
use Rattle.cq_clauses.specs.declared.procedures.Kind.TheVariants.{Dynamic}
use Rattle.cq_clauses.specs.declared.procedures.Procedure.{Procedure}
use Rattle.cq_clauses.specs.declared.procedures.Place.{Place}
use Rattle.cq_clauses.specs.declared.procedures.Part.{Part}
use Rattle.cq_clauses.specs.declared.procedures.Snapshot.{Snapshot}
use Rattle.cq_clauses.specs.Lists.{Entry, ListValue, present}
use Rattle.cq_clauses.specs.Changes.{there, no_clauses, list_with, list_without}
use Rattle.cq_clauses.specs.Windows.{IsWindow, seen_in}
use Rattle.cq_clauses.specs.Database.{ProcedureNow, now_of, database, same_pred, first_changed, kind_of, clauses_of, procedure_of}
use Rattle.cq_clauses.specs.Procedures.{pred_of, is_of, clause_added_to, with_clause, made_dynamic, with_dynamic, with_all_dynamic, StandsAt, IsAt, IsPlace, clause_taken}
use Rattle.cq_clauses.specs.Snapshots.{seen, seen_part, seen_through, IsPart, IsSnapshot, KeepsSnapshots}
use Rattle.cq_clauses.proofs.Listed.{seen_front, window_front, seen_back, window_back, seen_removed, window_removed}
use Rattle.cq_clauses.proofs.Writes.{got_here, got_still, got_last}
use Rattle.cq_clauses.proofs.Found.{changed_still, changed_at, changed_none, find_at, find_none, find-map}

-- ---- the numbers by predicate

pub keys_set : (ps : List Procedure) (i : ℕ) (p q : Procedure) → slice_get ps i ≡ Some p → q.pred ≡ p.pred → map pred_of ps ≡ map pred_of (set ps i q)
keys_set [] i p q got same = refl
keys_set (x ∷ ps) zero p q got same = ap (λ k. k ∷ map pred_of ps) (ap pred_of (same_Some x p got) ∙ sym same)
keys_set (x ∷ ps) (suc i) p q got same = ap (λ ks. x.pred ∷ ks) (keys_set ps i p q got same)

-- ---- the procedure of a predicate

module _ (pred : Pred) (ps : List Procedure) where
  pub procedure_found : (i : ℕ) (p : Procedure) → Some i ≡ position (is_of pred) ps → slice_get ps i ≡ Some p → procedure_of pred (database ps) ≡ Some (now_of p)
  procedure_found i p at got =
      find-map now_of (λ (q : ProcedureNow). same_pred pred q.pred) ps ∙ ap (option_map now_of) (find_at (is_of pred) ps i p (sym at) got)

  pub procedure_none : false ≡ list_any (is_of pred) ps → procedure_of pred (database ps) ≡ None
  procedure_none none = find-map now_of (λ (q : ProcedureNow). same_pred pred q.pred) ps ∙ ap (option_map now_of) (find_none (is_of pred) ps (sym none))

  pub kind_found : (i : ℕ) (p : Procedure) → Some i ≡ position (is_of pred) ps → slice_get ps i ≡ Some p → Some p.kind ≡ kind_of pred (database ps)
  kind_found i p at got = sym (ap (option_map (λ (q : ProcedureNow). q.kind)) (procedure_found i p at got))

  pub kind_none : false ≡ list_any (is_of pred) ps → None ≡ kind_of pred (database ps)
  kind_none none = sym (ap (option_map (λ (q : ProcedureNow). q.kind)) (procedure_none none))

  pub clauses_found : (i : ℕ) (p : Procedure) → Some i ≡ position (is_of pred) ps → slice_get ps i ≡ Some p → present p.clauses ≡ clauses_of pred (database ps)
  clauses_found i p at got = sym (ap (λ o. option_map_or (λ (q : ProcedureNow). q.clauses) o []) (procedure_found i p at got))

  pub clauses_none : false ≡ list_any (is_of pred) ps → [] ≡ clauses_of pred (database ps)
  clauses_none none = sym (ap (λ o. option_map_or (λ (q : ProcedureNow). q.clauses) o []) (procedure_none none))

-- ---- snapshots

-- each window of the one list is a window of the other, and shows the same
pub record Follows (old new : ListValue) : Type 0 where
  pub window : (w : Window) → IsWindow w old → IsWindow w new
  pub seen : (w : Window) → IsWindow w old → seen_in w new ≡ seen_in w old

pub follows_same : (l : ListValue) → Follows l l
follows_same l = record { window = λ w is. is; seen = λ w is. refl }

pub follows_with : (end : End) (n : ℕ) (l : ListValue) → Follows l (list_with end n l)
follows_with First n l = record {
  window = λ w is. window_front w l.entries l.fronts l.removals (there n) is;
  seen = λ w is. seen_front w l.entries l.fronts l.removals (there n) is;
}
follows_with Last n l = record {
  window = λ w is. window_back w l.entries l.fronts l.removals (there n) is;
  seen = λ w is. seen_back w l.entries l.fronts l.removals (there n) is;
}

pub follows_without : (l : ListValue) (place clause : ℕ) (gone : Option ℕ) → slice_get l.entries place ≡ Some (record { clause = clause; gone = gone }) → Follows l (list_without l place clause gone)
follows_without l place clause (Some at) got = follows_same l
follows_without l place clause None got = record {
  window = λ w is. window_removed w l.entries l.fronts l.removals place clause is;
  seen = λ w is. seen_removed w.removals w.count (w.start + (l.fronts - w.fronts)) l.entries place clause l.removals got is.removals;
}

-- what became of a procedure
pub record BecameOf (p : Procedure) (new : List Procedure) (i : ℕ) : Type 0 where
  pub after : Procedure
  pub stands : slice_get new i ≡ Some after
  pub follows : Follows p.clauses after.clauses

pub keeps : (old new : List Procedure) → ((i : ℕ) (p : Procedure) → slice_get old i ≡ Some p → BecameOf p new i) → KeepsSnapshots old new
keeps old new became = record {
  taken = λ s is. record {
    taken = λ x at.
        let was = is.taken x at in
        let now = became x.procedure was.procedure was.stands in
        record { procedure = now.after; stands = now.stands; opened = now.follows.window x.window was.opened };
  };
  seen = λ s is. by s.part is.taken;
}
  where
    by : (o : Option Part) → ((x : Part) → o ≡ Some x → IsPart x old) → seen_part o new ≡ seen_part o old
    by None taken = refl
    by (Some x) taken =
        let was = taken x refl in
        let now = became x.procedure was.procedure was.stands in
        ap (seen_through x.window) now.stands ∙ now.follows.seen x.window was.opened ∙ sym (ap (seen_through x.window) was.stands)

module _ (test : Procedure → Bool) (change : Procedure → Procedure) (other : Procedure) (follows : (p : Procedure) → Follows p.clauses (change p).clauses) where
  became_changed : (ps : List Procedure) (i : ℕ) (p : Procedure) → slice_get ps i ≡ Some p → BecameOf p (first_changed test change other ps) i
  became_changed ps i p got = elim (changed_still test change other ps i p got) [
    | inl same ↦ record { after = p; stands = same; follows = follows_same p.clauses }
    | inr changed ↦ record { after = change p; stands = changed; follows = follows p }
  ]

  pub keeps_changed : (ps : List Procedure) → KeepsSnapshots ps (first_changed test change other ps)
  keeps_changed ps = keeps ps (first_changed test change other ps) (became_changed ps)

pub keeps_with_clause : (end : End) (kind : Kind) (pred : Pred) (n : ℕ) (ps : List Procedure) → KeepsSnapshots ps (with_clause end kind pred n ps)
keeps_with_clause end kind pred n ps = keeps_changed (is_of pred) (clause_added_to end n) _ (λ p. follows_with end n p.clauses) ps

pub keeps_with_dynamic : (pred : Pred) (ps : List Procedure) → KeepsSnapshots ps (with_dynamic pred ps)
keeps_with_dynamic pred ps = keeps_changed (is_of pred) made_dynamic _ (λ p. follows_same p.clauses) ps

became_set : (ps : List Procedure) (at : ℕ) (p q : Procedure) → slice_get ps at ≡ Some p → Follows p.clauses q.clauses → (i : ℕ) (x : Procedure) → slice_get ps i ≡ Some x → BecameOf x (set ps at q) i
became_set ps at p q stood follows i x got = elim (got_still ps at p q i x stood got) [
  | inl same ↦ record { after = x; stands = same; follows = follows_same x.clauses }
  | inr here ↦ record { after = q; stands = here.0; follows = subst (λ (z : Procedure). Follows z.clauses q.clauses) here.1 follows }
]

pub keeps_all_dynamic : (preds : List Pred) (ps : List Procedure) → KeepsSnapshots ps (with_all_dynamic preds ps)
keeps_all_dynamic [] ps = record { taken = λ s is. is; seen = λ s is. refl }
keeps_all_dynamic (pred ∷ preds) ps =
    let first = keeps_with_dynamic pred ps in
    let others = keeps_all_dynamic preds (with_dynamic pred ps) in
    record { taken = λ s is. others.taken s (first.taken s is); seen = λ s is. others.seen s (first.taken s is) ∙ first.seen s is }

pub keeps_set : (ps : List Procedure) (at : ℕ) (p q : Procedure) → slice_get ps at ≡ Some p → Follows p.clauses q.clauses → KeepsSnapshots ps (set ps at q)
keeps_set ps at p q stood follows = keeps ps (set ps at q) (became_set ps at p q stood follows)

-- ---- reads

pub procedure_read : (items ps : List Procedure) (i : ℕ) (p : Procedure) → items ≡ ps → i < length ps → p ≡ get_or items i p → slice_get ps i ≡ Some p
procedure_read items ps i p view l read =
    let l' : i < length items = subst (λ (xs : List Procedure). i < length xs) (sym view) l in
    subst (λ (xs : List Procedure). slice_get xs i ≡ Some p) view (slice_get_read items (length items) i p refl l' read)

pub item_read : (items ps : List Procedure) (i : ℕ) (p : Procedure) → items ≡ ps → i < length ps → p ≡ get_or items i p → slice_get items i ≡ Some p
item_read items ps i p view l read = subst (λ (xs : List Procedure). slice_get xs i ≡ Some p) (sym view) (procedure_read items ps i p view l read)

-- ---- a clause added

pub stands_new : (ps : List Procedure) (p : Procedure) (i index fronts n : ℕ) → slice_get ps i ≡ Some p → fronts ≡ p.clauses.fronts → slice_get p.clauses.entries index ≡ Some (there n)
    → IsAt ps (record { procedure = i; index = index; fronts = fronts }) (there n)
stands_new ps p i index fronts n got same entry = (
  p,
  record {
    procedure = got;
    fronts = omega (arith, same);
    entry = let at : index + (p.clauses.fronts - fronts) ≡ index = omega (arith, same) in ap (slice_get p.clauses.entries) at ∙ entry;
  },
)

module _ (items ps : List Procedure) (i : ℕ) (p : Procedure) (view : items ≡ ps) (got : slice_get ps i ≡ Some p) where
  pub with_clause_at : (after : ListValue) (end : End) (kind : Kind) (pred : Pred) (n : ℕ) → Some i ≡ position (is_of pred) ps → after ≡ list_with end n p.clauses
      → set items i (record { pred = p.pred; kind = p.kind; clauses = after }) ≡ with_clause end kind pred n ps
  with_clause_at after end kind pred n at added =
      ap₂ (λ (xs : List Procedure) (l : ListValue). set xs i (record { pred = p.pred; kind = p.kind; clauses = l })) view added
      ∙ sym (changed_at (is_of pred) (clause_added_to end n) _ ps i p (sym at) got)

  pub with_dynamic_at : (pred : Pred) → Some i ≡ position (is_of pred) ps → set items i (made_dynamic p) ≡ with_dynamic pred ps
  with_dynamic_at pred at = ap (λ (xs : List Procedure). set xs i (made_dynamic p)) view ∙ sym (changed_at (is_of pred) made_dynamic _ ps i p (sym at) got)

  pub stands_changed : (q : Procedure) (index fronts n : ℕ) → fronts ≡ q.clauses.fronts → slice_get q.clauses.entries index ≡ Some (there n)
      → IsAt (set items i q) (record { procedure = i; index = index; fronts = fronts }) (there n)
  stands_changed q index fronts n same entry =
      stands_new (set items i q) q i index fronts n (got_here items i p q (subst (λ (xs : List Procedure). slice_get xs i ≡ Some p) (sym view) got)) same entry

module _ (ps after : List Procedure) (pred : Pred) (kind : Kind) (clauses : ListValue) (none : false ≡ list_any (is_of pred) ps)
    (made : after ≡ ps ++ record { pred = pred; kind = kind; clauses = clauses } ∷ []) where
  pub with_clause_new : (end : End) (n : ℕ) → clauses ≡ list_with end n no_clauses → after ≡ with_clause end kind pred n ps
  with_clause_new end n is =
      made ∙ ap (λ (l : ListValue). ps ++ record { pred = pred; kind = kind; clauses = l } ∷ []) is
      ∙ sym (changed_none (is_of pred) (clause_added_to end n) _ ps (sym none))

  pub stands_made : (i index fronts n : ℕ) → i ≡ length ps → fronts ≡ clauses.fronts → slice_get clauses.entries index ≡ Some (there n)
      → IsAt after (record { procedure = i; index = index; fronts = fronts }) (there n)
  stands_made i index fronts n at same entry =
      let new : Procedure = record { pred = pred; kind = kind; clauses = clauses } in
      let got : slice_get after i ≡ Some new = ap₂ (λ (xs : List Procedure) k. slice_get xs k) made at ∙ got_last ps new in
      stands_new after new i index fronts n got same entry

pub with_dynamic_new : (ps after : List Procedure) (pred : Pred) (clauses : ListValue) → false ≡ list_any (is_of pred) ps
    → after ≡ ps ++ record { pred = pred; kind = Dynamic; clauses = clauses } ∷ [] → clauses ≡ no_clauses → after ≡ with_dynamic pred ps
with_dynamic_new ps after pred clauses none made is =
    made ∙ ap (λ (l : ListValue). ps ++ record { pred = pred; kind = Dynamic; clauses = l } ∷ []) is
    ∙ sym (changed_none (is_of pred) made_dynamic _ ps (sym none))

-- ---- a clause taken away

module _ (items ps : List Procedure) (x : Place) (read : Procedure) (view : items ≡ ps) (is : IsPlace ps x) (value : read ≡ get_or items x.procedure read) where
  pub place_in : x.procedure < length items
  place_in = subst (λ (xs : List Procedure). x.procedure < length xs) (sym view) (slice_get_within ps x.procedure is.0 is.1.1.procedure)

  pub place_read : slice_get ps x.procedure ≡ Some read
  place_read = subst (λ (xs : List Procedure). slice_get xs x.procedure ≡ Some read) view (slice_get_read items (length items) x.procedure read refl place_in value)

  same_read : is.0 ≡ read
  same_read = same_Some is.0 read (sym is.1.1.procedure ∙ place_read)

  pub entry_in : x.index + (read.clauses.fronts - x.fronts) < length read.clauses.entries
  entry_in = subst (λ (p : Procedure). x.index + (p.clauses.fronts - x.fronts) < length p.clauses.entries) same_read (slice_get_within is.0.clauses.entries _ is.1.0 is.1.1.entry)

  pub keys_taken : (keys : List Pred) (after : ListValue) → keys ≡ map pred_of items → keys ≡ map pred_of (set items x.procedure (record { pred = read.pred; kind = read.kind; clauses = after }))
  keys_taken keys after known =
      known ∙ keys_set items x.procedure read (record { pred = read.pred; kind = read.kind; clauses = after })
      (subst (λ (xs : List Procedure). slice_get xs x.procedure ≡ Some read) (sym view) place_read) refl

  pub taken_is : (after : ListValue) (place : ℕ) → place ≡ x.index + (read.clauses.fronts - x.fronts)
      → ((e : Entry) → slice_get read.clauses.entries place ≡ Some e → after ≡ list_without read.clauses place e.clause e.gone)
      → (p : Procedure) (e : Entry) → StandsAt ps x p e
      → set items x.procedure (record { pred = read.pred; kind = read.kind; clauses = after }) ≡ set ps x.procedure (clause_taken x e p)
  taken_is after place at without p e stands =
      let same : read ≡ p = same_Some read p (sym place_read ∙ stands.procedure) in
      let got : slice_get read.clauses.entries place ≡ Some e =
      subst (λ (q : Procedure). slice_get q.clauses.entries place ≡ Some e) (sym same)
      (ap (slice_get p.clauses.entries) (at ∙ ap (λ (q : Procedure). x.index + (q.clauses.fronts - x.fronts)) same) ∙ stands.entry) in
      ap₂ (λ (xs : List Procedure) (l : ListValue). set xs x.procedure (record { pred = read.pred; kind = read.kind; clauses = l })) view
      (without e got ∙ ap (λ k. list_without read.clauses k e.clause e.gone) at)
      ∙ ap (λ (q : Procedure). set ps x.procedure (clause_taken x e q)) same

-- ---- the next of a snapshot

module _ (items ps : List Procedure) (s : Snapshot) (x : Part) (view : items ≡ ps) (is : IsSnapshot s ps) (at : s.part ≡ Some x) where
  pub part_in : x.procedure < length items
  part_in = let was = is.taken x at in subst (λ (xs : List Procedure). x.procedure < length xs) (sym view) (slice_get_within ps x.procedure was.procedure was.stands)

  module _ (read : Procedure) (value : read ≡ get_or items x.procedure read) where
    pub part_read : slice_get ps x.procedure ≡ Some read
    part_read = subst (λ (xs : List Procedure). slice_get xs x.procedure ≡ Some read) view (slice_get_read items (length items) x.procedure read refl part_in value)

    pub part_opened : IsWindow x.window read.clauses
    part_opened =
        let was = is.taken x at in
        subst (λ (p : Procedure). IsWindow x.window p.clauses) (same_Some was.procedure read (sym was.stands ∙ part_read)) was.opened

    pub part_seen : seen s ps ≡ seen_in x.window read.clauses
    part_seen = ap (λ o. seen_part o ps) at ∙ ap (seen_through x.window) part_read

    pub part_rest : (w : Window) → IsWindow w read.clauses → IsSnapshot (record { part = Some (record { procedure = x.procedure; window = w }) }) ps
    part_rest w opened = record { taken = λ y e. subst (λ (z : Part). IsPart z ps) (same_Some (record { procedure = x.procedure; window = w }) y e) (record { procedure = read; stands = part_read; opened = opened }) }

    pub part_some : (w : Window) (n : ℕ) → seen_in x.window read.clauses ≡ n ∷ seen_in w read.clauses → seen s ps ≡ n ∷ seen_through w (slice_get ps x.procedure)
    part_some w n next = part_seen ∙ next ∙ ap (λ o. n ∷ seen_through w o) (sym part_read)

    pub part_none : seen_in x.window read.clauses ≡ [] → seen s ps ≡ []
    part_none none = part_seen ∙ none
