-- The program's tokens as those of the definition.
use Rattle.std.specs.Prelude.{Result, Ok, Err}
use Rattle.cq_read.specs.declared.lex.Token.{Token}
use Rattle.spec_syntax.specs.declared.grammar.LexFault.{LexFault}
use Rattle.spec_syntax.specs.GrammarTokens.{Token as Tok}

abbrev pub shown : Token → Tok
shown t = record { kind = t.kind; span = t.span; number = t.number }

abbrev pub told : Result Token LexFault → Result Tok LexFault
told (Ok t) = Ok (shown t)
told (Err f) = Err f
