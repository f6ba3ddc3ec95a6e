-- Parts of a pattern.
use Rattle.std.specs.Prelude.{◌≡◌, ℕ, ◌<◌, ◌≤◌, List, ◌++◌, drop, length}
use Rattle.cq_term.specs.declared.view.View.{View}
use Rattle.cq_resolve.specs.Pattern.{heads, read, term_of}

-- a part of a pattern, from a place to an end: one term, behind which the other terms begin
pub record Parts (hs : List View) (place end : ℕ) : Type 0 where
  pub further : place < end
  pub within : end ≤ length hs
  pub term : drop place hs ≡ heads (term_of (drop place hs)) ++ drop end hs
  pub rest : drop 1 (read (drop place hs)) ≡ read (drop end hs)
