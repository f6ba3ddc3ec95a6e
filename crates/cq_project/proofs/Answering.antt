-- What a call of a store refuses or spends on a list from which an answer goes out, it refuses or spends in a moment of the answer.
use Rattle.std.proofs.Common.{◌≡◌, ℕ, List, [], ◌∷◌, ◌++◌, refl, sym, subst}
use Rattle.std.specs.List.{AllByRecursion}
use Rattle.spec_linear.specs.declared.Relation.TheVariants.{Eq, Ne}
use Rattle.spec_linear.specs.Form.{Linear}
use Rattle.spec_linear.specs.Solution.{Constraint}
use Rattle.spec_simplex.specs.Asked.{IsAsked, of_member, of_joining, of_question, of_variable, negated, IsInForce, alone, while_joining, while_asked, while_asked_unequal}
use Rattle.spec_simplex.specs.Overflow.{Moment, answering}
use Rattle.spec_simplex.specs.Later.{in_place_of, HasAll}
use Rattle.spec_simplex.specs.Answers.{IsAnswerList, IsAnswerMember, AsksMember, IsAnswerMoment, IsAnswerRow}
use Rattle.spec_simplex.proofs.Later.{overflow_stays, chain_stays}
use Rattle.cq_frac.specs.declared.Pair.{Pair}
use Rattle.cq_store.specs.StoreValue.{IsCallList, in_force, joined, IsCallMoment, MayRefuse, MayTake}
use Rattle.cq_project.specs.Answering.{IsRefusedAnswering, IsSpentAnswering}

module _ (targets : List ℕ) (l list : List Constraint) (Joins Questions : Constraint → Type 0)
    (joins : (c : Constraint) → Joins c → IsAnswerMember targets l c) (asks : (c : Constraint) → Questions c → AsksMember targets l c) where
  asked_so : (m : List Constraint) (f : Linear) → IsAsked m Joins Questions f → IsAsked m (IsAnswerMember targets l) (AsksMember targets l) f
  asked_so m _ (of_member c h) = of_member c h
  asked_so m _ (of_joining c h) = of_joining c (joins c h)
  asked_so m _ (of_question c h) = of_question c (asks c h)
  asked_so m _ (of_variable x) = of_variable x
  asked_so m _ (negated f h) = negated f (asked_so m f h)

  all_asked : (m : List Constraint) (fs : List Linear) → AllByRecursion (IsAsked m Joins Questions) fs → AllByRecursion (IsAsked m (IsAnswerMember targets l) (AsksMember targets l)) fs
  all_asked m [] h = tt
  all_asked m (f ∷ fs) h = (asked_so m f h.0, all_asked m fs h.1)

  in_force_so : (m : List Constraint) → IsInForce list Joins Questions m → IsInForce list (IsAnswerMember targets l) (AsksMember targets l) m
  in_force_so _ alone = alone
  in_force_so _ (while_joining f g h e) = while_joining f g (joins (record { relation = Eq; form = f }) h) e
  in_force_so _ (while_asked c h) = while_asked c (asks c h)
  in_force_so _ (while_asked_unequal f g h e) = while_asked_unequal f g (asks (record { relation = Ne; form = f }) h) e

  module _ (own : IsAnswerList targets l list) (longer : (c : Constraint) → Joins c → IsAnswerList targets l (list ++ c ∷ [])) where
    module _ (m : Moment) (c : IsCallMoment list Joins Questions m) where
      abbrev later : Moment
      later = in_place_of m answering m.operations m.rows

      by : (k : List Constraint) → m.list ≡ k → IsCallList list Joins Questions k → IsAnswerMoment targets l later
      by _ e (in_force {m = k} f) = record {
        stage = refl;
        list = list;
        is_list = own;
        in_force = subst (IsInForce list (IsAnswerMember targets l) (AsksMember targets l)) (sym e) (in_force_so k f);
        asked = all_asked m.list m.asked c.asked;
        rows = subst (AllByRecursion (IsAnswerRow targets l)) (sym c.rows) tt;
        operations = c.operations;
      }
      by _ e (joined d h) = record {
        stage = refl;
        list = list ++ d ∷ [];
        is_list = longer d h;
        in_force = subst (IsInForce (list ++ d ∷ []) (IsAnswerMember targets l) (AsksMember targets l)) (sym e) alone;
        asked = all_asked m.list m.asked c.asked;
        rows = subst (AllByRecursion (IsAnswerRow targets l)) (sym c.rows) tt;
        operations = c.operations;
      }

      moment_so : IsAnswerMoment targets l later
      moment_so = by m.list refl c.list

      all_there : HasAll m answering m.operations m.rows
      all_there = record { answers = λ e. refl; each_operation = λ o h. h; each_row = λ f h. h }

    pub refused_so : (pair : Pair) → MayRefuse list Joins Questions pair → IsRefusedAnswering targets l pair
    refused_so pair r = record {
      moment = later r.moment r.of_call;
      of_answer = moment_so r.moment r.of_call;
      due = overflow_stays r.moment answering r.moment.operations r.moment.rows (all_there r.moment r.of_call) pair r.due;
    }

    pub spent_so : (n : ℕ) → MayTake list Joins Questions n → IsSpentAnswering targets l n
    spent_so n r = record {
      moment = later r.moment r.of_call;
      of_answer = moment_so r.moment r.of_call;
      chain = chain_stays r.moment answering r.moment.operations r.moment.rows n r.chain;
    }
