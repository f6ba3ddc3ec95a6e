use Rattle.cq_choices.proofs.Named.{branch_named, term_named}
use Rattle.cq_choices.proofs.Stacked.{database_same, same_choices, stands_more, back_more, over_more}
use Rattle.cq_control.specs.Open.{open_choices}
use Rattle.cq_choices.proofs.laws.names_may_be_added.Goals as goal

pub returns : goal.returns
returns c = record {
  database = λ texts more longer v whole ops. database_same texts more longer v whole ops;
  branch = λ texts more longer w st known b. branch_named texts more longer w st known b;
  term = λ texts more longer w st b id t e. term_named texts more longer w st b id t e;
  choices = λ texts more longer v whole saved choices can behind waiting. same_choices texts more longer v whole (open_choices saved choices) can behind waiting;
  stands = λ more v h longer o known known_now db n current s j. stands_more more v h longer o known known_now db n current s j;
  back = λ more v h longer o known db n s j. back_more more v h longer o known db n s j;
  over = λ more v h longer o. over_more more v h longer o;
}
