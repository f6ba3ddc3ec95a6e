use Rattle.std.proofs.Common.{◌≡◌, ◌++◌, ◌∷◌, [], false, Some, ◌∙◌, ap, sym, subst, string_bytes, rules}
use Rattle.std.specs.Fmt.{AppendsText, digits, digits_output, ◌++?◌}
use Rattle.cq_write.proofs.Decimals.{hex_is}
use Rattle.cq_write.proofs.names.push_numbered.Goals as goal

pub returns : goal.returns
returns c =
    let old = string_bytes c.args.out.now in
    let new = string_bytes c.write.new.self in
    let same : digits_output c.in_radix.result ≡ Some (digits 16 false c.args.c) = search rules in
    let out : new ≡ old ++ 92 ∷ 120 ∷ (digits 16 false c.args.c ++ 92 ∷ []) =
    subst (λ o. AppendsText old new (Some (92 ∷ 120 ∷ []) ++? (o ++? Some (92 ∷ [])))) same c.in_ok-write.ensures.bytes in
    out ∙ ap (λ t. old ++ 92 ∷ 120 ∷ (t ++ 92 ∷ [])) (sym (hex_is c.args.c c.requires))
