-- The pages of files, and the report on them.
use Rattle.std.specs.Prelude.{◌≡◌, ℕ, List, [], ◌∷◌, Option, Some, IfSome, fold, flat_map}
use Rattle.spec_numbers.specs.Texts.{Text}
use Rattle.spec_syntax.specs.Operators.{Ops}
use Rattle.spec_syntax.specs.Standard.{standard}
use Rattle.cq_outside.specs.Files.{Files}
use Rattle.cq_lint.specs.Sentences.{Stand}
use Rattle.cq_lint.specs.Knowledge.{Knowledge, nothing_known}
use Rattle.cq_lint.specs.Findings.{known_with_all, findings_of}
use Rattle.cq_lint.specs.Lines.{lines_of}
use Rattle.lint.specs.declared.pages.Page.{Page}

-- the file of this name is there and has this text
abbrev pub IsLoaded : Option Files → Text → List ℕ → Type 0
IsLoaded files name text = IfSome files (λ there. there name ≡ Some text)

-- The page is of the file of this name, read with some operators first and with others at its end.
pub record IsPage (files : Option Files) (ops : Ops) (file : Text) (last : Ops) (p : Page) : Type 0 where
  pub name : p.name.now ≡ file
  pub text : IsLoaded files file p.text.items
  pub stand : Stand p.text.items ops 0 p.sentences.items last

module _ (files : Option Files) where
  -- the pages of the files of these names, each read with the operators that those before it leave
  pub data AreRead : Ops → List Text → List Page → Type 0 where
    none : {ops : Ops} → AreRead ops [] []
    next : {ops behind : Ops} {name : Text} {names : List Text} {p : Page} {ps : List Page} → IsPage files ops name behind p
        → AreRead behind names ps → AreRead ops (name ∷ names) (p ∷ ps)

-- what all pages define and declare
abbrev pub known_with_page : Knowledge → Page → Knowledge
known_with_page k p = known_with_all k p.sentences.items

abbrev pub known_of : List Page → Knowledge
known_of ps = fold known_with_page nothing_known ps

abbrev pub page_report : Knowledge → Page → Text
page_report k p = lines_of p.name.now p.text.items (findings_of k p.sentences.items)

-- the lines of what is found in all pages, in their order
abbrev pub report_of : List Page → Text
report_of ps = flat_map (page_report (known_of ps)) ps

-- the text is the report on the files of these names
pub record Reports (files : Option Files) (names : List Text) (text : Text) : Type 0 where
  pub pages : List Page
  pub read : AreRead files standard names pages
  pub report : text ≡ report_of pages
