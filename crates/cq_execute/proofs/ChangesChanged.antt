-- The rows of goals that change clauses, by the database of the machine.
use Rattle.std.proofs.Common.{◌≡◌, List, Option, None, Some, sym, ap, ap₂, ◌∙◌}
use Rattle.spec_syntax.specs.Trees.{Tree}
use Rattle.spec_builtins.specs.Built.{Indicator}
use Rattle.spec_builtins.specs.Clauses.{HeadBody, head_body, declarations, declaration_error}
use Rattle.spec_search.specs.Builtins.{is_built_in}
use Rattle.spec_search.specs.Changes.{change_error, assert_row, dynamic_row}
use Rattle.spec_search.specs.Database.{Database, Dynamic, End, all_declared, clause_added}
use Rattle.spec_search.specs.Replies.{Place, Raises, changes, unless_error}

module _ (p : Place) (db : Database) (d : p.database ≡ db) (t : Tree) where
  -- ---- a clause that is added

  module _ (end : End) where
    by_database : assert_row p end t ≡ unless_error (change_error db t) (changes p (clause_added end Dynamic (head_body t) db))
    by_database = ap (λ (x : Database). unless_error (change_error x t) (changes p (clause_added end Dynamic (head_body t) x))) d

    pub assert_adds : (c : HeadBody) (new : Database) → change_error db t ≡ None → head_body t ≡ c → new ≡ clause_added end Dynamic c db → assert_row p end t ≡ changes p new
    assert_adds c new lawful are is =
        by_database ∙ ap (λ (o : Option Tree). unless_error o (changes p (clause_added end Dynamic (head_body t) db))) lawful
        ∙ ap (λ (x : HeadBody). changes p (clause_added end Dynamic x db)) are ∙ ap (changes p) (sym is)

    pub assert_raises : (e : Tree) → change_error db t ≡ Some e → assert_row p end t ≡ Raises e
    assert_raises e found = by_database ∙ ap (λ (o : Option Tree). unless_error o (changes p (clause_added end Dynamic (head_body t) db))) found

  -- ---- procedures that are made dynamic

  pub dynamic_declares : (is : List Indicator) (new : Database) → declaration_error is_built_in t ≡ None → is ≡ declarations t → new ≡ all_declared is db
      → dynamic_row p t ≡ changes p new
  dynamic_declares is new lawful are done =
      ap (λ (o : Option Tree). unless_error o (changes p (all_declared (declarations t) p.database))) lawful
      ∙ ap₂ (λ (l : List Indicator) (x : Database). changes p (all_declared l x)) (sym are) d ∙ ap (changes p) (sym done)

  pub dynamic_raises : (e : Tree) → declaration_error is_built_in t ≡ Some e → dynamic_row p t ≡ Raises e
  dynamic_raises e found = ap (λ (o : Option Tree). unless_error o (changes p (all_declared (declarations t) p.database))) found
