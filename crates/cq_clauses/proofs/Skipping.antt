-- Places that are passed over, since no clause there matches.
use Rattle.std.proofs.Common.{◌≡◌, ℕ, suc, ◌+◌, ◌-◌, ◌≤◌, Bool, true, false, cond, List, [], ◌∷◌, ◌++◌, length, map, filter, take, drop, min, Option, Some, refl, sym, ap, ◌∙◌, arith, length-append}
use Rattle.std.specs.Prelude.{slice_get}
use Rattle.std.specs.Option.{option_map}
use Rattle.std.proofs.Math.Seq.{take-add}
use Rattle.std.proofs.lemmas.List.{map-append, drop-drop}
use Rattle.std.proofs.lemmas.List.Elements.{filter-append}
use Rattle.std.proofs.lemmas.Option.{slice_get-map}
use Rattle.spec_numbers.proofs.Places.{get_take, get-drop}
use Rattle.cq_clauses.specs.declared.key.Key.{Key}
use Rattle.cq_clauses.specs.declared.list.Window.{Window}
use Rattle.cq_clauses.specs.declared.procedures.Procedure.{Procedure}
use Rattle.cq_clauses.specs.declared.procedures.Snapshot.{Snapshot}
use Rattle.cq_clauses.specs.Indexes.{NoneMatches}
use Rattle.cq_clauses.specs.Keys.{may_match}
use Rattle.cq_clauses.specs.Lists.{Entry, ListValue, clause_of}
use Rattle.cq_clauses.specs.Selected.{keys_in, matching}
use Rattle.cq_clauses.specs.Snapshots.{StartsAt, behind, seen, seen_part, seen_through, part_behind}
use Rattle.cq_clauses.specs.Windows.{was_there, in_window, seen_in, skipped}

abbrev look : Window → ℕ → ListValue → List Entry
look w g l = take g (drop (w.start + (l.fronts - w.fronts)) l.entries)

-- what a window shows is what its first places show, and what those behind them show
seen_split : (w : Window) (g : ℕ) (l : ListValue) → g ≤ w.count → seen_in w l ≡ map clause_of (filter (was_there w.removals) (look w g l)) ++ seen_in (skipped g w) l
seen_split w g l within =
    let k = w.start + (l.fronts - w.fronts) in
    let count : w.count ≡ g + (w.count - g) = omega (arith, within) in
    let start : k + g ≡ w.start + g + (l.fronts - w.fronts) = omega arith in
    let rest = in_window (skipped g w) l in
    ap (λ es. map clause_of (filter (was_there w.removals) es))
    (ap (λ n. take n (drop k l.entries)) count ∙ take-add g (w.count - g) (drop k l.entries)
    ∙ ap (λ es. look w g l ++ take (w.count - g) es) (drop-drop g k l.entries ∙ ap (λ n. drop n l.entries) start))
    ∙ ap (map clause_of) (filter-append (was_there w.removals) (look w g l) rest)
    ∙ map-append clause_of (filter (was_there w.removals) (look w g l)) (filter (was_there w.removals) rest)

all_fail : (test : ℕ → Bool) (shown : Entry → Bool) (es : List Entry) → ((i : ℕ) (e : Entry) → slice_get es i ≡ Some e → test e.clause ≡ false) → filter test (map clause_of (filter shown es)) ≡ []
all_fail test shown [] fails = refl
all_fail test shown (x ∷ es) fails = by (shown x) (fails 0 x refl) (all_fail test shown es (λ i e got. fails (suc i) e got))
  where
    by : (b : Bool) → test x.clause ≡ false → filter test (map clause_of (filter shown es)) ≡ [] → filter test (map clause_of (cond b (x ∷ filter shown es) (filter shown es))) ≡ []
    by true first rest = ap (λ b. cond b (x.clause ∷ filter test (map clause_of (filter shown es))) (filter test (map clause_of (filter shown es)))) first ∙ rest
    by false first rest = rest

module _ (key : ℕ → Option Key) (k : Key) (s : Snapshot) (ps : List Procedure) (q place next : ℕ) (at : StartsAt s ps q place) (none : NoneMatches k (keys_in key at.procedure.clauses) place next) where
  abbrev w : Window
  w = at.part.window

  abbrev l : ListValue
  l = at.procedure.clauses

  abbrev g : ℕ
  g = min (next - place) w.count

  abbrev passed : List ℕ
  passed = map clause_of (filter (was_there w.removals) (look w g l))

  split : seen s ps ≡ passed ++ seen (behind (next - place) s) ps
  split =
      let stands : slice_get ps at.part.procedure ≡ Some at.procedure = ap (slice_get ps) at.number ∙ at.stands in
      ap (λ o. seen_part o ps) at.is ∙ ap (seen_through w) stands ∙ seen_split w g l (omega arith)
      ∙ sym (ap (λ ns. passed ++ ns) (ap (λ o. seen_part (part_behind (next - place) o) ps) at.is ∙ ap (seen_through (skipped g w)) stands))

  fails : (i : ℕ) (e : Entry) → slice_get (look w g l) i ≡ Some e → may_match k (key e.clause) ≡ false
  fails i e got =
      let from = w.start + (l.fronts - w.fronts) in
      let both = get_take g i (drop from l.entries) e got in
      let stood : slice_get l.entries (from + i) ≡ Some e = sym (get-drop from l.entries i) ∙ both.0 in
      let keyed : slice_get (keys_in key l) (from + i) ≡ Some (key e.clause) = slice_get-map (λ (d : Entry). key d.clause) l.entries (from + i) ∙ ap (option_map (λ (d : Entry). key d.clause)) stood in
      none.fails (from + i) (key e.clause) (omega (arith, at.start)) (omega (arith, both.1, at.start)) keyed

  pub matching_behind : matching key (Some k) (seen (behind (next - place) s) ps) ≡ matching key (Some k) (seen s ps)
  matching_behind =
      let test : ℕ → Bool = λ n. may_match k (key n) in
      sym (ap (filter test) split ∙ filter-append test passed (seen (behind (next - place) s) ps)
      ∙ ap (λ ns. ns ++ filter test (seen (behind (next - place) s) ps)) (all_fail test (was_there w.removals) (look w g l) fails))

  pub fewer_behind : length (seen (behind (next - place) s) ps) ≤ length (seen s ps)
  fewer_behind = omega (arith, ap length split, length-append passed (seen (behind (next - place) s) ps))
