-- What a term that is to be thrown comes to.
use Rattle.std.proofs.Common.{◌≡◌, true, false, refl, sym, ◌∙◌}
use Rattle.std.proofs.lemmas.Bool.{false≢true}
use Rattle.spec_terms.specs.Term.{Var, Number, Name, Compound}
use Rattle.spec_syntax.specs.Trees.{Tree}
use Rattle.spec_builtins.specs.Errors.{instantiation}
use Rattle.spec_builtins.specs.Kinds.{is_variable}
use Rattle.spec_search.specs.Control.{throw_row}
use Rattle.spec_search.specs.Replies.{Place, Raises, Throws}

pub throws_variable : (p : Place) (t : Tree) → is_variable t ≡ true → throw_row p t ≡ Raises instantiation
throws_variable p (Var v) e = refl
throws_variable p (Number q) e = absurd (false≢true e)
throws_variable p (Name a) e = absurd (false≢true e)
throws_variable p (Compound f ts) e = absurd (false≢true e)

pub throws_other : (p : Place) (t : Tree) → is_variable t ≡ false → throw_row p t ≡ Throws t
throws_other p (Var v) e = absurd (false≢true (sym e))
throws_other p (Number q) e = refl
throws_other p (Name a) e = refl
throws_other p (Compound f ts) e = refl
