use Rattle.std.proofs.Common.{◌≡◌, [], ◌∷◌, ◌++◌, Some, length, slice_get, ap, map, ◌∙◌, subst, sym, arith}
use Rattle.std.specs.String.{string_bytes}
use Rattle.std.specs.HashMap.{get_by_text}
use Rattle.std.proofs.lemmas.Map.Text.{hash_map_updates_text}
use Rattle.cq_term.specs.Texts.{AreDifferent, IsNumbering, with_text}
use Rattle.cq_term.proofs.AtomsPlaces.{number-known, texts-known, after-texts, after-different, after-number, after-numbering}
use Rattle.cq_term.proofs.atoms.Atoms.intern.Goals as goal

pub returns-in-Some-clause-number : goal.returns-in-Some-clause-number
returns-in-Some-clause-number c =
    subst (λ texts. slice_get texts c.in-Some.number.now ≡ Some c.args.text.now) c.self.view_is
    (number-known (get_by_text c.self.inside.numbers) (map string_bytes c.self.inside.texts.items) c.self.invariant.1 c.args.text.now c.in-Some.number.now c.in-Some.ensures.value)

pub returns-in-Some-clause-texts : goal.returns-in-Some-clause-texts
returns-in-Some-clause-texts c =
    subst (λ texts. texts ≡ with_text texts c.args.text.now) c.self.view_is
    (texts-known (get_by_text c.self.inside.numbers) (map string_bytes c.self.inside.texts.items) c.self.invariant.1 c.args.text.now c.in-Some.number.now c.in-Some.ensures.value)

pub invariant_of-self-2 : goal.invariant_of-self-2
invariant_of-self-2 c =
    let old = c.self.inside.texts.items in
    let new = c.in_default.ensures.value in
    let same = c.in_ok-copy.ensures.ok in
    let items : c.push_reserved.new.self.items ≡ c.self.inside.texts.items ++ c.in_ok-copy.copy ∷ [] = c.push_reserved.ensures.items ∙ ap (λ xs. xs ++ c.in_ok-copy.copy ∷ []) c.in_ok-reserve.ensures.items in
    let len : c.len-number.result ≡ length c.self.inside.texts.items = omega (arith, c.len-number.ensures, c.in_ok-reserve.ensures.len, c.self.inside.texts.ok.0) in
    subst (λ xs. AreDifferent (map string_bytes xs) × IsNumbering (get_by_text c.insert.new.self) (map string_bytes xs)) (sym items) (
      after-different string_bytes (get_by_text c.self.inside.numbers) old c.self.invariant.1 c.args.text.now new c.in_ok-copy.copy same c.self.invariant.0,
      after-numbering string_bytes (get_by_text c.self.inside.numbers) old c.self.invariant.1 c.args.text.now new c.in_ok-copy.copy same (get_by_text c.insert.new.self) (string_bytes c.in_ok-key.key) c.len-number.result c.in_ok-key.ensures.ok len
          (hash_map_updates_text (string_bytes c.in_ok-key.key) c.self.inside.numbers c.insert.new.self (Some c.len-number.result) c.in_ok-insert.ensures.updates),
    )

pub returns-clause-number : goal.returns-clause-number
returns-clause-number c =
    let old = c.self.inside.texts.items in
    let new = c.in_default.ensures.value in
    let same = c.in_ok-copy.ensures.ok in
    let items : c.push_reserved.new.self.items ≡ c.self.inside.texts.items ++ c.in_ok-copy.copy ∷ [] = c.push_reserved.ensures.items ∙ ap (λ xs. xs ++ c.in_ok-copy.copy ∷ []) c.in_ok-reserve.ensures.items in
    let len : c.len-number.result ≡ length c.self.inside.texts.items = omega (arith, c.len-number.ensures, c.in_ok-reserve.ensures.len, c.self.inside.texts.ok.0) in
    subst (λ xs. slice_get (map string_bytes xs) c.len-number.result ≡ Some c.args.text.now) (sym items) (after-number string_bytes (get_by_text c.self.inside.numbers) old c.self.invariant.1 c.args.text.now new c.in_ok-copy.copy same c.len-number.result len)

pub returns-clause-texts : goal.returns-clause-texts
returns-clause-texts c =
    let old = c.self.inside.texts.items in
    let new = c.in_default.ensures.value in
    let same = c.in_ok-copy.ensures.ok in
    let items : c.push_reserved.new.self.items ≡ c.self.inside.texts.items ++ c.in_ok-copy.copy ∷ [] = c.push_reserved.ensures.items ∙ ap (λ xs. xs ++ c.in_ok-copy.copy ∷ []) c.in_ok-reserve.ensures.items in
    ap (λ xs. map string_bytes xs) items ∙ after-texts string_bytes (get_by_text c.self.inside.numbers) old c.self.invariant.1 c.args.text.now new c.in_ok-copy.copy same ∙ ap (λ texts. with_text texts c.args.text.now) c.self.view_is

pub returns-clause-different : goal.returns-clause-different
returns-clause-different c = (invariant_of-self-2 c).0
