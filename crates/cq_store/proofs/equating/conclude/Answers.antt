use Rattle.std.proofs.Common.{◌≡◌, ◌∙◌, ◌+◌, List, [], ◌∷◌, ◌++◌, length, Err, refl, ap, sym, subst}
use Rattle.cq_dict.specs.DictValue.{quantities_of}
use Rattle.cq_tableau.specs.declared.names.Name.{Name}
use Rattle.cq_tableau.specs.declared.names.Name.TheVariants.{Member}
use Rattle.cq_tableau.specs.Stored.{IsBetween}
use Rattle.cq_tableau.proofs.Storing.{numbered_member}
use Rattle.cq_store.specs.Fallen.{FallsAt}
use Rattle.cq_store.proofs.Passed.{search_refused, spent}
use Rattle.cq_store.proofs.equating.conclude.Goals as goal

pub fixed_now-requires-clause-numbered : goal.fixed_now-requires-clause-numbered
fixed_now-requires-clause-numbered c =
    let e : c.push.new.self.now ≡ c.reserve_places.new.self.now ++ Member (length c.args.told.now + 1) ∷ [] = rw c.unwrap.ensures at c.push.ensures.ok in
    numbered_member c.args.names.now.now c.args.numbers.now.entries c.requires.numbered (length c.args.told.now + 1) c.push.new.self.now
    (e ∙ ap (λ t. t ++ Member (length c.args.told.now + 1) ∷ []) c.in_ok-reserve_places.ensures.now)

pub fixed_now-requires-clause-size : goal.fixed_now-requires-clause-size
fixed_now-requires-clause-size c =
    let e : c.push.new.self.now ≡ c.reserve_places.new.self.now ++ Member (length c.args.told.now + 1) ∷ [] = rw c.unwrap.ensures at c.push.ensures.ok in
    ap length (e ∙ ap (λ t. t ++ Member (length c.args.told.now + 1) ∷ []) c.in_ok-reserve_places.ensures.now) ∙ c.requires.between.size

pub returns-in_err-fixed-clause-numbered : goal.returns-in_err-fixed-clause-numbered
returns-in_err-fixed-clause-numbered c =
    let e : c.push.new.self.now ≡ c.reserve_places.new.self.now ++ Member (length c.args.told.now + 1) ∷ [] = rw c.unwrap.ensures at c.push.ensures.ok in
    numbered_member c.args.names.now.now c.args.numbers.now.entries c.requires.numbered (length c.args.told.now + 1) c.push.new.self.now
    (e ∙ ap (λ t. t ++ Member (length c.args.told.now + 1) ∷ []) c.in_ok-reserve_places.ensures.now)

pub returns-clause-numbered : goal.returns-clause-numbered
returns-clause-numbered c =
    let e : c.push.new.self.now ≡ c.reserve_places.new.self.now ++ Member (length c.args.told.now + 1) ∷ [] = rw c.unwrap.ensures at c.push.ensures.ok in
    numbered_member c.args.names.now.now c.args.numbers.now.entries c.requires.numbered (length c.args.told.now + 1) c.push.new.self.now
    (e ∙ ap (λ t. t ++ Member (length c.args.told.now + 1) ∷ []) c.in_ok-reserve_places.ensures.now)

pub returns-clause-joined : goal.returns-clause-joined
returns-clause-joined c =
    let e : c.push.new.self.now ≡ c.reserve_places.new.self.now ++ Member (length c.args.told.now + 1) ∷ [] = rw c.unwrap.ensures at c.push.ensures.ok in
    record {
      none = c.in_default.is;
      named = e ∙ ap (λ t. t ++ Member (length c.args.told.now + 1) ∷ []) c.in_ok-reserve_places.ensures.now;
      same = refl;
      fixed_now = c.in_ok-fixed.ensures;
    }

pub fallen_certificate-requires-clause-numbered : goal.fallen_certificate-requires-clause-numbered
fallen_certificate-requires-clause-numbered c =
    let e : c.push.new.self.now ≡ c.reserve_places.new.self.now ++ Member (length c.args.told.now + 1) ∷ [] = rw c.unwrap.ensures at c.push.ensures.ok in
    numbered_member c.args.names.now.now c.args.numbers.now.entries c.requires.numbered (length c.args.told.now + 1) c.push.new.self.now
    (e ∙ ap (λ t. t ++ Member (length c.args.told.now + 1) ∷ []) c.in_ok-reserve_places.ensures.now)

pub fallen_certificate-requires-clause-between : goal.fallen_certificate-requires-clause-between
fallen_certificate-requires-clause-between c =
    let told = c.args.told.now in
    let e : c.push.new.self.now ≡ c.reserve_places.new.self.now ++ Member (length c.args.told.now + 1) ∷ [] = rw c.unwrap.ensures at c.push.ensures.ok in
    let names_are = e ∙ ap (λ t. t ++ Member (length c.args.told.now + 1) ∷ []) c.in_ok-reserve_places.ensures.now in
    subst (λ (l : List Name). IsBetween (told ++ c.args.c.now ∷ []) l (quantities_of c.args.dict.now)) (sym names_are) c.requires.between

pub fallen_certificate-requires-clause-falls : goal.fallen_certificate-requires-clause-falls
fallen_certificate-requires-clause-falls c =
    let told = c.args.told.now in
    let e : c.push.new.self.now ≡ c.reserve_places.new.self.now ++ Member (length c.args.told.now + 1) ∷ [] = rw c.unwrap.ensures at c.push.ensures.ok in
    let names_are = e ∙ ap (λ t. t ++ Member (length c.args.told.now + 1) ∷ []) c.in_ok-reserve_places.ensures.now in
    let f : FallsAt told (told ++ c.args.c.now ∷ []) (c.args.names.now.now ++ Member (length told + 1) ∷ []) c.in-Some.z = rw c.in-Some.is at c.requires.falls in
    subst (λ (l : List Name). FallsAt told (told ++ c.args.c.now ∷ []) l c.in-Some.z) (sym names_are) f

pub returns-in_err-cert-clause-overflow : goal.returns-in_err-cert-clause-overflow
returns-in_err-cert-clause-overflow c = λ pair e.
    c.in_err-cert.ensures.overflow pair (ap Err (search_refused c.from_residual-in_err-cert.result c.in_err-cert.field-0.0 pair c.from_residual-in_err-cert.ensures.1 e))

pub returns-in_err-cert-clause-pivots : goal.returns-in_err-cert-clause-pivots
returns-in_err-cert-clause-pivots c = λ n e.
    c.in_err-cert.ensures.pivots n (ap Err (spent c.from_residual-in_err-cert.result c.in_err-cert.field-0.0 n c.from_residual-in_err-cert.ensures.1 e))
