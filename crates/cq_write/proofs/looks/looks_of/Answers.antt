use Rattle.std.proofs.Common.{◌≡◌, ◌∷◌, true, false, length, rules, subst, sym}
use Rattle.std.specs.Char.{is_ascii_lowercase}
use Rattle.std.specs.List.{prefix_len}
use Rattle.spec_syntax.specs.Characters.{is_symbol}
use Rattle.cq_write.specs.Looks.{IsBare, continues_word, is_alone}
use Rattle.cq_write.proofs.Bare.{bare_letters, bare_symbols}
use Rattle.cq_write.proofs.looks.looks_of.Goals as goal

pub returns-then-word_len-rest : goal.returns-then-word_len-rest
returns-then-word_len-rest c =
    let whole : c.args.name.now ≡ c.in-Some.first ∷ c.in-Some.rest.now = search rules in
    let starts : is_ascii_lowercase c.in-Some.first ≡ true = search rules in
    let all : prefix_len continues_word c.in-Some.rest.now ≡ length c.in-Some.rest.now = search rules in
    subst (λ f. IsBare f true) (sym whole) (bare_letters c.in-Some.first c.in-Some.rest.now starts all)

pub returns-then-not-is_alone : goal.returns-then-not-is_alone
returns-then-not-is_alone c =
    let whole : c.args.name.now ≡ c.in-Some.first ∷ c.in-Some.rest.now = search rules in
    let starts : is_symbol c.in-Some.first ≡ true = search rules in
    let all : prefix_len is_symbol c.in-Some.rest.now ≡ length c.in-Some.rest.now = search rules in
    let apart : is_alone c.in-Some.first c.in-Some.rest.now ≡ false = search rules in
    subst (λ f. IsBare f false) (sym whole) (bare_symbols c.in-Some.first c.in-Some.rest.now starts all apart)
