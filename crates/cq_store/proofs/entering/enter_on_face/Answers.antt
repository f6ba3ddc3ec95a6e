use Rattle.std.proofs.Common.{◌≡◌, ◌∙◌, ◌+◌, List, [], ◌∷◌, ◌++◌, length, Some, ap, sym, subst}
use Rattle.std.specs.Prelude.{slice_get}
use Rattle.cq_frac.specs.declared.VarId.{VarId}
use Rattle.cq_dict.specs.DictValue.{quantities_of}
use Rattle.cq_tableau.specs.declared.names.Name.TheVariants.{Variable, Member}
use Rattle.cq_tableau.specs.Faced.{IsFaced}
use Rattle.cq_tableau.specs.declared.names.Name.{Name}
use Rattle.cq_tableau.specs.Stored.{IsBetween}
use Rattle.cq_store.specs.Fallen.{FallsAt}
use Rattle.cq_store.proofs.Falls.{fallen_falls}
use Rattle.cq_tableau.specs.Fixing.{AreFixedNow}
use Rattle.std.proofs.Common.{Err, add-one}
use Rattle.cq_store.proofs.Passed.{search_refused, spent}
use Rattle.cq_store.proofs.Stops.{face_refused, face_spent}
use Rattle.cq_tableau.proofs.Storing.{numbered_member}
use Rattle.cq_store.proofs.Stays.{face_stored, face_between, covers_all, newly_fixed, named_before}
use Rattle.cq_store.proofs.entering.enter_on_face.Goals as goal

pub fixed_now-requires-clause-numbered : goal.fixed_now-requires-clause-numbered
fixed_now-requires-clause-numbered c =
    let e : c.push.new.self.now ≡ c.reserve_places.new.self.now ++ Member (length c.args.told.now + 1) ∷ [] = rw c.unwrap.ensures at c.push.ensures.ok in
    numbered_member c.args.names.now.now c.args.numbers.now.entries c.requires.numbered (length c.args.told.now + 1) c.push.new.self.now
    (e ∙ ap (λ t. t ++ Member (length c.args.told.now + 1) ∷ []) c.in_ok-reserve_places.ensures.now)

pub returns-in_err-fixed-clause-numbered : goal.returns-in_err-fixed-clause-numbered
returns-in_err-fixed-clause-numbered c =
    let e : c.push.new.self.now ≡ c.reserve_places.new.self.now ++ Member (length c.args.told.now + 1) ∷ [] = rw c.unwrap.ensures at c.push.ensures.ok in
    numbered_member c.args.names.now.now c.args.numbers.now.entries c.requires.numbered (length c.args.told.now + 1) c.push.new.self.now
    (e ∙ ap (λ t. t ++ Member (length c.args.told.now + 1) ∷ []) c.in_ok-reserve_places.ensures.now)

pub returns-clause-numbered : goal.returns-clause-numbered
returns-clause-numbered c =
    let e : c.push.new.self.now ≡ c.reserve_places.new.self.now ++ Member (length c.args.told.now + 1) ∷ [] = rw c.unwrap.ensures at c.push.ensures.ok in
    numbered_member c.args.names.now.now c.args.numbers.now.entries c.requires.numbered (length c.args.told.now + 1) c.push.new.self.now
    (e ∙ ap (λ t. t ++ Member (length c.args.told.now + 1) ∷ []) c.in_ok-reserve_places.ensures.now)

pub returns-clause-joined : goal.returns-clause-joined
returns-clause-joined c =
    let told = c.args.told.now in
    let names = c.args.names.now.now in
    let f = c.requires.on_face in
    let old = c.args.dict.now in
    let new = quantities_of c.face.new.dict in
    let number = length told + 1 in
    let e : c.push.new.self.now ≡ c.reserve_places.new.self.now ++ Member (length c.args.told.now + 1) ∷ [] = rw c.unwrap.ensures at c.push.ensures.ok in
    let names_are = e ∙ ap (λ t. t ++ Member (length c.args.told.now + 1) ∷ []) c.in_ok-reserve_places.ensures.now in
    let all = subst (IsFaced told names c.args.q old.roles old.restricted c.face.new.dict.roles c.face.new.dict.restricted) c.in_default.is c.in_ok-fallen.ensures.faced in
    let stored = face_stored told names f.before f.stored c.args.c.now f.weak f.knows old.roles old.restricted f.flags_are f.keeps f.dropped c.args.q f.last new
    c.in_ok-fallen.ensures.holds all number (λ i. number) c.push.new.self.now names_are in
    record {
      stored = stored;
      newly = newly_fixed told names f.before f.stored c.args.c.now old.roles old.restricted f.keeps c.in_ok-before.before.items c.in_ok-fixed.fixed.items
          c.push.new.self.now new (covers_all names old.roles new.roles c.in_ok-before.before.items c.in_ok-before.ensures) (subst (λ (s : List VarId). AreFixedNow c.push.new.self.now new s c.in_ok-fixed.fixed.items) c.deref.ensures.value c.in_ok-fixed.ensures)
          stored (λ n x h. named_before names number n x (subst (λ l. slice_get l n ≡ Some (Variable (record { 0 = x }))) names_are h));
    }

pub returns-in_err-fallen-clause-overflow : goal.returns-in_err-fallen-clause-overflow
returns-in_err-fallen-clause-overflow c = λ pair e.
    let f = search_refused c.from_residual-in_err-fallen.result c.in_err-fallen.field-0.0 pair c.from_residual-in_err-fallen.ensures.1 e in
    face_refused c.args.told.now c.args.names.now.now c.args.c.now c.args.dict.now.roles c.args.dict.now.restricted c.args.q c.args.columns.now c.requires.on_face pair
    (c.in_err-fallen.ensures.overflow pair (ap Err f))

pub returns-in_err-fallen-clause-pivots : goal.returns-in_err-fallen-clause-pivots
returns-in_err-fallen-clause-pivots c = λ n e.
    let f = spent c.from_residual-in_err-fallen.result c.in_err-fallen.field-0.0 n c.from_residual-in_err-fallen.ensures.1 e in
    let o = c.in_err-fallen.ensures.pivots n (ap Err f) in (
      o.0,
      face_spent c.args.told.now c.args.names.now.now c.args.c.now c.args.dict.now.roles c.args.dict.now.restricted c.args.q c.args.columns.now c.requires.on_face n o.1,
    )

pub fallen_certificate-requires-clause-numbered : goal.fallen_certificate-requires-clause-numbered
fallen_certificate-requires-clause-numbered c =
    let e : c.push.new.self.now ≡ c.reserve_places.new.self.now ++ Member (length c.args.told.now + 1) ∷ [] = rw c.unwrap.ensures at c.push.ensures.ok in
    numbered_member c.args.names.now.now c.args.numbers.now.entries c.requires.numbered (length c.args.told.now + 1) c.push.new.self.now
    (e ∙ ap (λ t. t ++ Member (length c.args.told.now + 1) ∷ []) c.in_ok-reserve_places.ensures.now)

pub fallen_certificate-requires-clause-between : goal.fallen_certificate-requires-clause-between
fallen_certificate-requires-clause-between c =
    let f = c.requires.on_face in
    let old = c.args.dict.now in
    let told = c.args.told.now in
    let e : c.push.new.self.now ≡ c.reserve_places.new.self.now ++ Member (length c.args.told.now + 1) ∷ [] = rw c.unwrap.ensures at c.push.ensures.ok in
    let names_are = e ∙ ap (λ t. t ++ Member (length c.args.told.now + 1) ∷ []) c.in_ok-reserve_places.ensures.now in
    subst (λ (l : List Name). IsBetween (told ++ c.args.c.now ∷ []) l (quantities_of c.face.new.dict))
    (sym (names_are ∙ ap (λ m. c.args.names.now.now ++ Member m ∷ []) (add-one (length told))))
    (face_between told c.args.names.now.now f.before f.stored c.args.c.now f.weak f.knows old.roles old.restricted f.flags_are f.keeps f.dropped c.args.q f.last
    (quantities_of c.face.new.dict) c.in_ok-fallen.ensures.holds)

pub fallen_certificate-requires-clause-falls : goal.fallen_certificate-requires-clause-falls
fallen_certificate-requires-clause-falls c =
    let f = c.requires.on_face in
    let old = c.args.dict.now in
    let told = c.args.told.now in
    let names = c.args.names.now.now in
    let e : c.push.new.self.now ≡ c.reserve_places.new.self.now ++ Member (length c.args.told.now + 1) ∷ [] = rw c.unwrap.ensures at c.push.ensures.ok in
    let names_are = e ∙ ap (λ t. t ++ Member (length c.args.told.now + 1) ∷ []) c.in_ok-reserve_places.ensures.now in
    subst (λ (l : List Name). FallsAt told (told ++ c.args.c.now ∷ []) l c.in-Some.z) (sym names_are)
    (fallen_falls told names c.args.c.now old.roles old.restricted c.args.q c.args.columns.now f (quantities_of c.face.new.dict) c.in_ok-fallen.ensures.holds c.in-Some.z
    (subst (IsFaced told names c.args.q old.roles old.restricted c.face.new.dict.roles c.face.new.dict.restricted) c.in-Some.is c.in_ok-fallen.ensures.faced) (length told + 1))

pub returns-in_err-cert-clause-overflow : goal.returns-in_err-cert-clause-overflow
returns-in_err-cert-clause-overflow c = λ pair e.
    c.in_err-cert.ensures.overflow pair (ap Err (search_refused c.from_residual-in_err-cert.result c.in_err-cert.field-0.0 pair c.from_residual-in_err-cert.ensures.1 e))

pub returns-in_err-cert-clause-pivots : goal.returns-in_err-cert-clause-pivots
returns-in_err-cert-clause-pivots c = λ n e.
    c.in_err-cert.ensures.pivots n (ap Err (spent c.from_residual-in_err-cert.result c.in_err-cert.field-0.0 n c.from_residual-in_err-cert.ensures.1 e))
