-- A goal that asks for clauses, on a machine that builds the clause's term.
use Rattle.std.proofs.Common.{◌≡◌, ◌<◌, ℕ, List, length, map, true, false, Option, None, Some, refl, sym, ap, ap₂, ◌∙◌, subst, arith}
use Rattle.spec_numbers.specs.Texts.{Text}
use Rattle.spec_syntax.specs.Trees.{Tree}
use Rattle.spec_builtins.specs.Clauses.{HeadBody, head_body}
use Rattle.spec_search.specs.Changes.{change_error, retract_row, clause_row, clause_match, clauses_for}
use Rattle.spec_search.specs.Database.{Database}
use Rattle.spec_search.specs.Replies.{Place, Raises, makes, unless_error}
use Rattle.spec_engine.specs.Cells.{Value}
use Rattle.spec_engine.specs.Standing.{removed_by}
use Rattle.cq_catch.specs.Asking.{answers}
use Rattle.cq_catch.specs.Permissions.{reading_error}
use Rattle.cq_branch.specs.Worlds.{Grown}
use Rattle.cq_branch.proofs.Added.{tree_is}
use Rattle.cq_branch.proofs.Reading.{read_live, tree_read}
use Rattle.cq_term.specs.Trees.{tree}
use Rattle.cq_settle.specs.Contents.{Contents}
use Rattle.cq_machine.specs.declared.machine.Machine.{Machine}
use Rattle.cq_machine.specs.Machines.{terms, now, saved, HasBuilt}
use Rattle.cq_machine.proofs.Built.{lists_same}

-- ---- what is built

pub built_none : (m : Machine) → HasBuilt m m
built_none m = record {
  program = record { atoms = refl; names = refl; ops = refl; clauses = refl; budget = refl };
  lists = refl;
  choices = refl;
  saved = refl;
  grown = record { state = λ st i. i; terms = λ id t r. r; lists = lists_same (now m).1 };
}

pub built_then : (old mid new : Machine) → HasBuilt old mid → HasBuilt mid new → HasBuilt old new
built_then old mid new f g =
    let next : Grown old.atoms (now mid) (now new) = subst (λ (a : List Text). Grown a (now mid) (now new)) f.program.atoms g.grown in
    record {
      program = record {
        atoms = g.program.atoms ∙ f.program.atoms;
        names = g.program.names ∙ f.program.names;
        ops = g.program.ops ∙ f.program.ops;
        clauses = g.program.clauses ∙ f.program.clauses;
        budget = g.program.budget ∙ f.program.budget;
      };
      lists = g.lists ∙ f.lists;
      choices = g.choices ∙ f.choices;
      saved = g.saved ∙ f.saved;
      grown = record {
        state = λ st i. next.state st (f.grown.state st i);
        terms = λ id t r. next.terms id t (f.grown.terms id t r);
        lists = record {
          more = let a = f.grown.lists.more in let b = g.grown.lists.more in omega (arith, a, b);
          same = λ k l. let a = f.grown.lists.more in g.grown.lists.same k (omega (arith, a, l)) ∙ f.grown.lists.same k l;
        };
      };
    }

-- a term that was there is there, and reads as before
module _ (old new : Machine) (g : HasBuilt old new) (id : ℕ) (l : id < length (terms old)) where
  pub live_on : id < length (terms new)
  live_on =
      let t = tree old.atoms (terms old) id in
      read_live old.atoms (terms new) id t (g.grown.terms id t (tree_read old.atoms (terms old) id t l refl))

  pub tree_on : tree new.atoms (terms new) id ≡ tree old.atoms (terms old) id
  tree_on =
      let t = tree old.atoms (terms old) id in
      ap (λ (a : List Text). tree a (terms new) id) g.program.atoms ∙ tree_is old.atoms (terms new) id t (g.grown.terms id t (tree_read old.atoms (terms old) id t l refl))

-- ---- rows, by the database of the machine

module _ (p : Place) (db : Database) (d : p.database ≡ db) where
  pub retract_asks : (t : Tree) (c : HeadBody) → change_error db t ≡ None → head_body t ≡ c → answers p true c ≡ retract_row p t
  retract_asks t c lawful are =
      sym (ap (λ (x : Database). unless_error (change_error x t) (makes p (map (clause_match p (λ e. Some e.number) (head_body t)) (clauses_for p (head_body t).head)))) d
      ∙ ap (λ (o : Option Tree). unless_error o (makes p (map (clause_match p (λ e. Some e.number) (head_body t)) (clauses_for p (head_body t).head)))) lawful
      ∙ ap (λ (x : HeadBody). answers p true x) are)

  pub retract_raises : (t e : Tree) → change_error db t ≡ Some e → retract_row p t ≡ Raises e
  retract_raises t e found =
      ap (λ (o : Option Tree). unless_error o (makes p (map (clause_match p (λ x. Some x.number) (head_body t)) (clauses_for p (head_body t).head))))
      (ap (λ (x : Database). change_error x t) d ∙ found)

  pub clause_asks : (h b : Tree) → reading_error db h b ≡ None → answers p false (record { head = h; body = b }) ≡ clause_row p h b
  clause_asks h b lawful =
      sym (ap (λ (o : Option Tree). unless_error o (answers p false (record { head = h; body = b }))) (ap (λ (x : Database). reading_error x h b) d ∙ lawful))

  pub clause_raises : (h b e : Tree) → reading_error db h b ≡ Some e → clause_row p h b ≡ Raises e
  clause_raises h b e found =
      ap (λ (o : Option Tree). unless_error o (answers p false (record { head = h; body = b }))) (ap (λ (x : Database). reading_error x h b) d ∙ found)
