-- Layout and comments before a token.
use Rattle.std.specs.Prelude.{ℕ, ◌+◌, ◌&&◌, ◌==◌, if◌then◌else◌, List, [], ◌∷◌, Result, Ok, Err}
use Rattle.spec_syntax.specs.declared.grammar.Gap.{Gap}
use Rattle.spec_syntax.specs.declared.grammar.Gap.TheVariants.{Between, Line, Opening, Block, Closing}
use Rattle.spec_syntax.specs.declared.grammar.LexFault.{LexFault}
use Rattle.spec_syntax.specs.declared.grammar.LexFault.TheVariants.{BadByte, OpenQuote, OpenComment, WideNumber}
use Rattle.spec_syntax.specs.Characters.{is_layout, begins_with}

-- the place of a fault
abbrev pub place : LexFault → ℕ
place (BadByte at) = at
place (OpenQuote at) = at
place (OpenComment at) = at
place (WideNumber at) = at

-- where the token begins behind layout and comments, of a text that stands at this place
abbrev pub gap : Gap → List ℕ → ℕ → Result ℕ LexFault
gap Between [] at = Ok at
gap Between (b ∷ bs) at =
    if is_layout b then gap Between bs (at + 1)
    else if b == 37 then gap Line bs (at + 1)
    else if (b == 47) && begins_with 42 bs then gap Opening bs (at + 1)
    else Ok at
gap Line [] at = Ok at
gap Line (b ∷ bs) at = if b == 10 then gap Between bs (at + 1) else gap Line bs (at + 1)
gap Opening [] at = Err (OpenComment at)
gap Opening (b ∷ bs) at = gap Block bs (at + 1)
gap Block [] at = Err (OpenComment at)
gap Block (b ∷ bs) at = if (b == 42) && begins_with 47 bs then gap Closing bs (at + 1) else gap Block bs (at + 1)
gap Closing [] at = Ok at
gap Closing (b ∷ bs) at = gap Between bs (at + 1)
