-- What ?- {X=M+1}. writes, where M is the greatest number: its settling stops.
use Rattle.std.proofs.Common.{[], ◌∷◌, inl, codes, refl}
use Rattle.std.specs.Prelude.{Some}
use Rattle.std.specs.Char.{encode_utf8}
use Rattle.std.specs.Str.{chars, is_utf8}
use Rattle.spec_numbers.specs.Gcd.{gcd}
use Rattle.spec_numbers.specs.Rational.{ratio, int_ℚ, neg_ℚ, inv_ℚ, ◌+ℚ◌, ◌*ℚ◌}
use Rattle.spec_simplex.specs.Overflow.{Moment, settling}
use Rattle.spec_simplex.proofs.PastGreatest.{greatest, past_greatest, past_greatest_due}
use Rattle.spec_simplex.specs.Asked.{alone}
use Rattle.spec_syntax.specs.Characters.{first_char}
use Rattle.spec_syntax.specs.Grammar.{use_of, begins_term}
use Rattle.spec_syntax.specs.Trees.{Tree}
use Rattle.spec_terms.specs.Term.{Var, identity}
use Rattle.spec_builtins.specs.Built.{natural, compound2}
use Rattle.spec_branch.specs.Closure.{no_move}
use Rattle.spec_branch.specs.Alike.{no_values}
use Rattle.spec_branch.proofs.Idle.{fixes_nothing}
use Rattle.spec_search.specs.Database.{initial}
use Rattle.spec_search.specs.Search.{Search, empty_state}
use Rattle.spec_transcript.specs.Causes.{Overflow, stop_text}
use Rattle.spec_transcript.specs.Operands.{relation_operands}
use Rattle.spec_transcript.specs.Settlings.{IsListOf, IsSettlingMoment}
use Rattle.spec_transcript.specs.Due.{Due, overflow, settles}
use Rattle.spec_transcript.specs.declared.Source.TheVariants.{Input}
use Rattle.spec_transcript.specs.Session as session
use Rattle.spec_transcript.specs.Session.{Reader, AQuery, Opening, Reading, stop_line}
use Rattle.spec_numbers.specs.Texts.{Text}
use Rattle.spec_examples.specs.Rows.{some_goals, no_files, WritesStop}
use Rattle.spec_examples.proofs.Unify.{no_pairs}
use Rattle.spec_examples.proofs.Told.{x_alone, telling, unsettled, search_of}
use Rattle.spec_examples.proofs.Walk.{walk, further, onward, finished}

abbrev text : Text
text = codes "?- {X=170141183460469231731687303715884105727+1}."

abbrev past : Tree
past = compound2 "=" (Var 0) (compound2 "+" (natural greatest) (natural 1))

abbrev moment : Moment
moment = record { stage = settling; list = []; asked = []; operations = relation_operands no_values past; rows = [] }

is_list : IsListOf (empty_state 1) (telling past) identity []
is_list = record {
  is_unifier = no_pairs;
  equations = [];
  each_newly_bound = record { moves = []; below = tt; is = refl };
  joined = [];
  later = [];
  split = refl;
  waiting = past ∷ [];
  moves = no_move;
}

is_moment : IsSettlingMoment (empty_state 1) (telling past) moment
is_moment = record {
  stage = refl;
  unifier = identity;
  list = [];
  is_list = is_list;
  in_force = alone;
  asked = tt;
  valued = [];
  is_valued = is_list;
  fixed = no_values;
  fixes = fixes_nothing;
  operations = refl;
  rows = refl;
}

abbrev told : Search
told = search_of (unsettled [] (telling past) 1) 1

is_due : Due some_goals (Some x_alone) told (Overflow past_greatest)
is_due = overflow {m = moment} {pair = past_greatest} (settles refl is_moment) (past_greatest_due moment (inl refl))

abbrev here : Reader
here = record { source = Input; bytes = text; at = 49; later = []; files = [] }

pub overflow_row : WritesStop text (codes "stop: overflow\n")
unfolding encode_utf8 chars is_utf8 first_char use_of begins_term ratio int_ℚ neg_ℚ inv_ℚ gcd ◌+ℚ◌ ◌*ℚ◌
overflow_row =
    finished some_goals no_files text []
    (onward some_goals no_files text (Opening initial [])
    (further some_goals no_files text (Opening initial []) (walk some_goals no_files text []) (stop_text (Overflow past_greatest)) stop_line (Reading initial here)
    (session.stops {s = told} {who = AQuery x_alone 10} {r = here} (Overflow past_greatest) (inl refl) is_due)))
    refl refl
