use Rattle.std.proofs.Common.{◌∙◌, [], List, ℕ, ap, map, codes, unwrap_or, Bor, Option}
use Rattle.clap.specs.Words.{found_of}
use Rattle.clap.proofs.WalkLemmas.{raw_values-rows}
use Rattle.cq_words.proofs.words.names.Goals as goal

abbrev texts : List (Bor (List ℕ)) → List (List ℕ)
texts = map (λ s. s.now)

pub returns-in_default : goal.returns-in_default
returns-in_default c =
    ap texts c.new.ensures.items ∙ ap (λ (o : Option (List (List ℕ))). unwrap_or o []) (c.in_default.ensures ∙ raw_values-rows (found_of c.args.matches.now) (codes "FILE"))

pub returns : goal.returns
returns c =
    ap texts (c.in_ok-names.ensures.items_if_clones_equal (λ x y h. h))
    ∙ ap (λ (o : Option (List (List ℕ))). unwrap_or o []) (c.in-Some.ensures ∙ raw_values-rows (found_of c.args.matches.now) (codes "FILE"))
