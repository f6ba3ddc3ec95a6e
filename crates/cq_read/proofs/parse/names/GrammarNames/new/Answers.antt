use Rattle.cq_read.proofs.parse.names.GrammarNames.new.Goals as goal

pub returns-clause-names : goal.returns-clause-names
returns-clause-names c = record {
  minus = c.in_ok-dot.ensures.kept _ _ (c.in_ok-curly.ensures.kept _ _ (c.in_ok-nil.ensures.kept _ _ (c.in_ok-comma.ensures.kept _ _ c.in_ok-minus.ensures.number)));
  comma = c.in_ok-dot.ensures.kept _ _ (c.in_ok-curly.ensures.kept _ _ (c.in_ok-nil.ensures.kept _ _ c.in_ok-comma.ensures.number));
  nil = c.in_ok-dot.ensures.kept _ _ (c.in_ok-curly.ensures.kept _ _ c.in_ok-nil.ensures.number);
  curly = c.in_ok-dot.ensures.kept _ _ c.in_ok-curly.ensures.number;
  dot = c.in_ok-dot.ensures.number;
}

pub returns-clause-kept : goal.returns-clause-kept
returns-clause-kept c i text e = c.in_ok-dot.ensures.kept _ _ (c.in_ok-curly.ensures.kept _ _ (c.in_ok-nil.ensures.kept _ _ (c.in_ok-comma.ensures.kept _ _ (c.in_ok-minus.ensures.kept _ _ e))))
