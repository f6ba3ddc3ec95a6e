-- Terms with other variables: they can be read as before, and are written as before but for the names of the variables.
use Rattle.std.proofs.Common.{ℕ}
use Rattle.spec_numbers.specs.Texts.{Text}
use Rattle.spec_terms.specs.Term.{Terms, Var, Number, Name, Compound, one, more, apply, apply_all}
use Rattle.spec_syntax.specs.Trees.{Tree}
use Rattle.spec_text.specs.ReadingBack.{CanBeRead, AllCanBeRead}

mutual
  pub readable : (f : ℕ → ℕ) (t : Tree) → CanBeRead t → CanBeRead (apply (λ v. Var (f v)) t)
  readable f (Var v) h = tt
  readable f (Number q) h = h
  readable f (Name a) h = h
  readable f (Compound a (one t)) h = (h.0, h.1, readable f t h.2)
  readable f (Compound a (more t ts)) h = (h.0, h.1, h.2, readable f t h.3, all_readable f ts h.4)

  all_readable : (f : ℕ → ℕ) (ts : Terms Text) → AllCanBeRead ts → AllCanBeRead (apply_all (λ v. Var (f v)) ts)
  all_readable f (one t) h = readable f t h
  all_readable f (more t ts) h = (readable f t h.0, all_readable f ts h.1)
