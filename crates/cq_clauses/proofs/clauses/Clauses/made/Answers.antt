use Rattle.std.proofs.Common.{◌≡◌, ℕ, ◌+◌, ◌<◌, [], ◌∷◌, ◌++◌, length, map, take, Option, Some, None, refl, sym, ap, subst, ◌∙◌, arith}
use Rattle.std.specs.Prelude.{slice_get}
use Rattle.std.specs.Option.{option_map, option_map_or}
use Rattle.std.proofs.lemmas.List.{length-map}
use Rattle.std.proofs.lemmas.Option.{slice_get-map, get_or_from_slice_get}
use Rattle.spec_numbers.proofs.Places.{take-next}
use Rattle.cq_clauses.specs.declared.clauses.Stored.{Stored}
use Rattle.cq_clauses.specs.declared.key.Key.{Key}
use Rattle.cq_clauses.specs.ClausesValue.{ClausesValue}
use Rattle.cq_clauses.specs.Indexes.{IsIndex}
use Rattle.cq_clauses.specs.Lists.{Entry}
use Rattle.cq_clauses.specs.Selected.{key_at, keys_in}
use Rattle.cq_clauses.proofs.Indexing.{entry_at}
use Rattle.cq_clauses.proofs.Places.{item_stored}
use Rattle.cq_clauses.proofs.clauses.Clauses.made.Goals as goal

pub index-requires : goal.index-requires
index-requires g c =
    let place_of = λ (x : Stored g.row.C.Denot). x.place in
    let items = c.self.inside.stored.items in
    let l : c.loop-place.place < length c.clauses-clauses.result.now.entries = omega (arith, c.loop-place-test.true, c.len-place-end.ensures) in
    let at = entry_at (map place_of items) c.self.inside.procedures c.args.procedure c.clauses-clauses.result.now c.loop-place.place c.self.invariant.store (rw (← c.self.view_is) at c.requires) c.clauses-clauses.ensures l in
    omega (arith, at.2, c.clause-clause.ensures at.0 at.1, length-map items place_of, c.self.inside.stored.ok.0)

pub loop-place-preserved : goal.loop-place-preserved
loop-place-preserved g c =
    let place_of = λ (x : Stored g.row.C.Denot). x.place in
    let content_of = λ (x : Stored g.row.C.Denot). x.content in
    let items = c.self.inside.stored.items in
    let contents = c.args.self.now.contents in
    let key : ℕ → Option Key = key_at g.C.Keyed.key_of contents in
    let list = c.clauses-clauses.result.now in
    let i = c.loop-place.place in
    let l : i < length list.entries = omega (arith, c.loop-place-test.true, c.len-place-end.ensures) in
    let at = entry_at (map place_of items) c.self.inside.procedures c.args.procedure list i c.self.invariant.store (rw (← c.self.view_is) at c.requires) c.clauses-clauses.ensures l in
    let inside : at.0.clause < length items = omega (arith, at.2, length-map items place_of) in
    let stored : slice_get (map content_of items) at.0.clause ≡ Some c.index.result.now.content =
    item_stored content_of items c.clause-clause.result at.0.clause (length items) c.index.result.now (c.clause-clause.ensures at.0 at.1) inside refl c.index.ensures in
    let content : slice_get contents at.0.clause ≡ Some c.index.result.now.content = ap (λ (v : ClausesValue g.row.C.Denot). slice_get v.contents at.0.clause) (sym c.self.view_is) ∙ stored in
    let is_key : c.key.result ≡ key at.0.clause = c.key.ensures ∙ sym (ap (λ o. option_map_or g.C.Keyed.key_of o None) content) in
    let keyed : slice_get (keys_in key list) i ≡ Some (key at.0.clause) = slice_get-map (λ (e : Entry). key e.clause) list.entries i ∙ ap (option_map (λ (e : Entry). key e.clause)) at.1 in
    let within : i < length (keys_in key list) = omega (arith, l, length-map list.entries (λ (e : Entry). key e.clause)) in
    let more : take i (keys_in key list) ++ c.key.result ∷ [] ≡ take (i + 1) (keys_in key list) =
    ap (λ k. take i (keys_in key list) ++ k ∷ []) is_key ∙ sym (take-next (keys_in key list) i (key at.0.clause) within (sym (get_or_from_slice_get (keys_in key list) i (key at.0.clause) (key at.0.clause) keyed))) in
    subst (IsIndex c.add.new.self) more (c.in_ok-add.ensures (take i (keys_in key list)) c.loop-place.invariant)
