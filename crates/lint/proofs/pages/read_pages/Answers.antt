use Rattle.std.proofs.Common.{◌<◌, ◌∙◌, arith, length, map, string_bytes, subst, take}
use Rattle.std.proofs.lemmas.List.{take_all}
use Rattle.std.proofs.lemmas.Result.{err_from_is_err_and}
use Rattle.spec_syntax.specs.Standard.{standard}
use Rattle.cq_ops.specs.Tables.{named}
use Rattle.lint.specs.Endings.{IsMissing}
use Rattle.lint.specs.Pages.{AreRead, IsPage}
use Rattle.lint.proofs.Readings.{all_read, next_missing, next_read}
use Rattle.lint.proofs.pages.read_pages.Goals as goal

pub returns-in_err-page-clause-missing : goal.returns-in_err-page-clause-missing
returns-in_err-page-clause-missing g c =
    let p = err_from_is_err_and c.from_residual-in_err-page.result c.from_residual-in_err-page.ensures.1 in
    let halt = c.in_err-page.field-0.0 in
    let files = g.F.Shelf.files c.args.shelf.now in
    let names = c.args.names.now in
    let within : c.loop-name.name-index < length names = omega (arith, c.loop-name-test.true) in
    rw (p.1, p.2)
    (next_missing string_bytes names c.loop-name.name-index c.name-item.result within c.name-item.is files halt
    (subst (λ n. IsMissing files n halt) c.as_str.ensures.value (subst (λ fs. IsMissing fs c.as_str.result.now halt) c.loop-name.invariant.told c.in_err-page.ensures.missing)))

pub loop-name-preserved : goal.loop-name-preserved
loop-name-preserved g c =
    let i = c.loop-name.invariant in
    let e = c.in_ok-page.ensures in
    let files = g.F.Shelf.files c.args.shelf.now in
    let names = c.args.names.now in
    let ops = named c.loop-name.atoms c.loop-name.ops in
    let last = named c.read_page.new.atoms c.read_page.new.ops in
    let page = c.in_ok-page.page in
    let within : c.loop-name.name-index < length names = omega (arith, c.loop-name-test.true) in
    let is_page : IsPage files ops (string_bytes c.name-item.result) last page =
    subst (λ n. IsPage files ops n last page) c.as_str.ensures.value (subst (λ fs. IsPage fs ops c.as_str.result.now last page) i.told e.page) in
    record {
      known = e.named;
      read =
          next_read string_bytes names c.loop-name.name-index c.name-item.result within c.name-item.is files ops last c.loop-name.pages.items c.push.new.self.items page i.read is_page
          c.in-Ok.ensures.items;
      told = e.same ∙ i.told;
      faults = e.cause.0 ∙ i.faults;
      refused = e.cause.1 ∙ i.refused;
    }

pub returns-clause-pages : goal.returns-clause-pages
returns-clause-pages g c =
    let files = g.F.Shelf.files c.args.shelf.now in
    let names = c.args.names.now in
    let ops = named c.loop-name.atoms c.loop-name.ops in
    subst (λ ns. AreRead files standard (map string_bytes ns) c.loop-name.pages.items) (take_all c.loop-name.name-index names (omega (arith, c.loop-name-test.false)))
    (all_read files ops (map string_bytes (take c.loop-name.name-index names)) c.loop-name.pages.items c.loop-name.invariant.read)
