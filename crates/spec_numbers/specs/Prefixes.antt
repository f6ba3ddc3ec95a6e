-- Lists that go on from others.
use Rattle.std.specs.Prelude.{◌≡◌, List, ◌++◌}

-- what stands in the old list stands in the new one at the same places
abbrev pub IsPrefix : {X : Type 0} → List X → List X → Type 0
IsPrefix {X} old new = (more : List X) × (new ≡ old ++ more)
