-- What a reader of quotes does at a character.
use Rattle.std.specs.Prelude.{◌≡◌, ℕ, ◌+◌, List, [], ◌∷◌, ◌++◌, Result, Ok, Err}
use Rattle.cq_read.specs.declared.lex.quotes.Turn.{Turn}
use Rattle.cq_read.specs.declared.lex.quotes.Turn.TheVariants.{Go, Stop}
use Rattle.spec_syntax.specs.declared.grammar.LexFault.{LexFault}
use Rattle.spec_syntax.specs.Quotes.{Quoted, quoted, in_front}

-- quotes that hold nothing more and end here, or their fault
abbrev pub closed : Result ℕ LexFault → Result Quoted LexFault
closed (Ok stop) = Ok (record { text = []; stop = stop })
closed (Err f) = Err f

-- the text that was read in front of the rest
abbrev pub behind : List ℕ → Result Quoted LexFault → Result Quoted LexFault
behind out (Ok q) = Ok (record { text = out ++ q.text; stop = q.stop })
behind out (Err f) = Err f

-- the turn leads to what the quotes hold from here on
abbrev pub Follows : Turn → ℕ → List ℕ → ℕ → Type 0
Follows (Go skip character) q [] at = Unit {0} → quoted q 0 [] at ≡ in_front character (quoted q skip [] (at + 1))
Follows (Go skip character) q (b ∷ bs) at = quoted q 0 (b ∷ bs) at ≡ in_front character (quoted q skip bs (at + 1))
Follows (Stop end) q bs at = quoted q 0 bs at ≡ closed end
