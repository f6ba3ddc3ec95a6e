use Rattle.std.proofs.Common.{◌≡◌, drop, map, string_bytes}
use Rattle.std.specs.List.{list_any}
use Rattle.lint.specs.Language.{is_option}
use Rattle.lint.proofs.command.has_option.Given as goal

-- the words so far decide nothing
abbrev pub invariant-loop-word : goal.invariant-loop-word
invariant-loop-word l = list_any is_option (map string_bytes (drop l.word-index l.words)) ≡ list_any is_option (map string_bytes l.words)
