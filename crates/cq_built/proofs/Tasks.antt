-- Tasks that are done one after another, the last first.
use Rattle.std.proofs.Common.{◌≡◌, ◌∙◌, ℕ, ◌+◌, ◌<◌, Bool, true, false, List, [], ◌∷◌, ◌++◌, reverse, length, All, Option, Some, None, refl, sym, ap, ap₂, arith}
use Rattle.std.specs.Prelude.{nat_lt}
use Rattle.std.proofs.lemmas.Bool.{ltb-true, ltb-false}
use Rattle.std.proofs.lemmas.List.{map-append, reverse-append, length-reverse, length-map}
use Rattle.std.proofs.lemmas.List.Elements.{All-push, All-same, All-pop, All-head, All-tail, All-weaker}
use Rattle.spec_numbers.specs.Texts.{Text}
use Rattle.spec_numbers.specs.Prefixes.{IsPrefix}
use Rattle.spec_numbers.proofs.Prefixes.{prefix_length, prefix_same}
use Rattle.spec_terms.specs.Term.{Var, Number, Name, Compound, size}
use Rattle.spec_syntax.specs.Trees.{Tree, binary}
use Rattle.spec_builtins.specs.Bodies.{converted_body}
use Rattle.cq_term.specs.Texts.{text_of}
use Rattle.cq_term.specs.Meaning.{HeapTerm}
use Rattle.cq_term.specs.Trees.{tree, trees, KnowsTerms}
use Rattle.cq_built.proofs.Trees.{tree_kept, trees_kept}
use Rattle.cq_built.proofs.Listed.{trees_push}
use Rattle.cq_built.specs.declared.sides.Sides.{Sides}
use Rattle.cq_built.proofs.Heads.{tree_of_sides}
use Rattle.cq_built.specs.Bodies.{IsConstruct, Work, Part, Join, work_of, works, joined, after, after_all, done_trees, weight, weights, IsLiveTask, IsUnderWay, CanJoin, Turns}
use Rattle.cq_built.specs.declared.bodies.Task.{Task}
use Rattle.cq_built.specs.declared.bodies.Task.TheVariants as task
use Rattle.cq_built.proofs.Plain.{construct_is}

-- ---- one more behind others

pub after_last : (ws : List Work) (w : Work) (before : Option (List Tree)) → after_all (ws ++ w ∷ []) before ≡ after_all ws (after w before)
after_last [] w before = refl
after_last (v ∷ ws) w before = ap (after v) (after_last ws w before)

nothing_after : (ws : List Work) → after_all ws None ≡ None
nothing_after [] = refl
nothing_after (w ∷ ws) = ap (after w) (nothing_after ws)

pub weights_last : (ws : List Work) (w : Work) → weights (ws ++ w ∷ []) ≡ weights ws + weight w
weights_last [] w = omega arith
weights_last (v ∷ ws) w = let h = weights_last ws w in omega (arith, h)

tree_weighs : (t : Tree) → 0 < size t
tree_weighs (Var v) = omega arith
tree_weighs (Number q) = omega arith
tree_weighs (Name a) = omega arith
tree_weighs (Compound f ts) = omega arith

pub part_weighs : (t : Tree) → 0 < weight (Part t)
part_weighs t = let h = tree_weighs t in omega (arith, h)

size_of_binary : (f : Text) (a b : Tree) → size (binary f a b) ≡ 1 + (size a + size b)
size_of_binary f a b = omega arith

module _ (texts : List Text) (ts : List HeapTerm) where
  pub done_last : (ids new : List ℕ) (id : ℕ) → new ≡ ids ++ id ∷ [] → done_trees texts ts new ≡ tree texts ts id ∷ done_trees texts ts ids
  done_last ids new id e = ap reverse (trees_push texts ts ids new id e) ∙ reverse-append (trees texts ts ids) (tree texts ts id ∷ [])

  pub works_last : (tasks new : List Task) (t : Task) → new ≡ tasks ++ t ∷ [] → works texts ts new ≡ works texts ts tasks ++ work_of texts ts t ∷ []
  works_last tasks new t e = ap (works texts ts) e ∙ map-append (work_of texts ts) tasks (t ∷ [])

-- ---- the same on a heap with more terms

module _ (texts : List Text) (ts us : List HeapTerm) (terms : IsPrefix ts us) (known : KnowsTerms texts ts) where
  pub work_kept : (t : Task) → IsLiveTask texts ts t → work_of texts us t ≡ work_of texts ts t
  work_kept (task.Part id) live = ap Part (tree_kept texts texts ts us (prefix_same texts texts refl) terms known id live)
  work_kept (task.Join name) live = refl

  pub works_kept : (tasks : List Task) → All (IsLiveTask texts ts) tasks → works texts us tasks ≡ works texts ts tasks
  works_kept [] all = refl
  works_kept (t ∷ tasks) all = ap₂ (λ x xs. x ∷ xs) (work_kept t (All-head (IsLiveTask texts ts) t tasks all)) (works_kept tasks (All-tail (IsLiveTask texts ts) t tasks all))

  pub done_kept : (ids : List ℕ) → All (λ id. id < length ts) ids → done_trees texts us ids ≡ done_trees texts ts ids
  done_kept ids all = ap reverse (trees_kept texts texts ts us (prefix_same texts texts refl) terms known ids all)

  longer : length ts < 1 + length us
  longer = let h = prefix_length ts us terms in omega (arith, h)

  pub still_live : (t : Task) → IsLiveTask texts ts t → IsLiveTask texts us t
  still_live (task.Part id) live = let h = longer in omega (arith, h, live)
  still_live (task.Join name) live = live

  pub all_live : (tasks : List Task) → All (IsLiveTask texts ts) tasks → All (IsLiveTask texts us) tasks
  all_live tasks all = All-weaker (IsLiveTask texts ts) (IsLiveTask texts us) still_live tasks all

  pub all_done_live : (ids : List ℕ) → All (λ id. id < length ts) ids → All (λ id. id < length us) ids
  all_done_live ids all = All-weaker (λ id. id < length ts) (λ id. id < length us) (λ id live. let h = longer in omega (arith, h, live)) ids all

  -- a task is done: its tree comes last
  pub one_done : (t : Task) (tasks : List Task) (done old new : List ℕ) (id : ℕ) → All (IsLiveTask texts ts) tasks → All (λ x. x < length ts) old → id < length us
      → new ≡ old ++ id ∷ [] → after (work_of texts ts t) (Some (done_trees texts ts done)) ≡ Some (tree texts us id ∷ done_trees texts ts old)
      → 0 < weight (work_of texts ts t) → Turns texts ts t tasks done us tasks new
  one_done t tasks done old new id tasks_live old_live live e is some = record {
    tasks_live = all_live tasks tasks_live;
    done_live = All-same (λ x. x < length us) new (old ++ id ∷ []) e (All-push (λ x. x < length us) old id (all_done_live old old_live) live);
    same =
        ap₂ after_all (works_kept tasks tasks_live) (ap Some (done_last texts us old new id e ∙ ap (λ xs. tree texts us id ∷ xs) (done_kept old old_live)))
        ∙ ap (after_all (works texts ts tasks)) (sym is);
    less = (let h = ap weights (works_kept tasks tasks_live) in omega (arith, h, some));
  }

-- ---- the parts of a construct wait

module _ (texts : List Text) (ts : List HeapTerm) (tasks new : List Task) (done : List ℕ) (id : ℕ) (s : Sides) (h : IsConstruct texts ts id s)
    (tasks_live : All (IsLiveTask texts ts) tasks) (done_live : All (λ x. x < length ts) done)
    (e : new ≡ ((tasks ++ task.Join s.name ∷ []) ++ task.Part s.right ∷ []) ++ task.Part s.left ∷ []) where
  two : List Task
  two = tasks ++ task.Join s.name ∷ []

  three : List Task
  three = two ++ task.Part s.right ∷ []

  works_are : works texts ts new ≡ ((works texts ts tasks ++ Join (text_of texts s.name) ∷ []) ++ Part (tree texts ts s.right) ∷ []) ++ Part (tree texts ts s.left) ∷ []
  unfolding three two
  works_are =
      works_last texts ts three new (task.Part s.left) e
      ∙ ap (λ xs. xs ++ Part (tree texts ts s.left) ∷ []) (works_last texts ts two three (task.Part s.right) refl
      ∙ ap (λ xs. xs ++ Part (tree texts ts s.right) ∷ []) (works_last texts ts tasks two (task.Join s.name) refl))

  tree_is : tree texts ts id ≡ binary (text_of texts s.name) (tree texts ts s.left) (tree texts ts s.right)
  tree_is = tree_of_sides texts ts id s h.sides

  pub sides_wait : Turns texts ts (task.Part id) tasks done ts new done
  unfolding three two
  sides_wait =
      let ws = works texts ts tasks in
      let f = text_of texts s.name in
      let l = tree texts ts s.left in
      let r = tree texts ts s.right in
      let all = done_trees texts ts done in
      record {
        tasks_live = All-same (IsLiveTask texts ts) new (three ++ task.Part s.left ∷ []) e
            (All-push (IsLiveTask texts ts) three (task.Part s.left)
            (All-push (IsLiveTask texts ts) two (task.Part s.right) (All-push (IsLiveTask texts ts) tasks (task.Join s.name) tasks_live h.known) h.sides.right) h.sides.left);
        done_live = done_live;
        same =
            ap (λ xs. after_all xs (Some all)) works_are
            ∙ after_last ((ws ++ Join f ∷ []) ++ Part r ∷ []) (Part l) (Some all)
            ∙ after_last (ws ++ Join f ∷ []) (Part r) (Some (converted_body l ∷ all))
            ∙ after_last ws (Join f) (Some (converted_body r ∷ converted_body l ∷ all))
            ∙ ap (λ t. after_all ws (Some (t ∷ all))) (sym (ap converted_body tree_is ∙ construct_is f l r h.control));
        less = (let a = ap weights works_are in
            let b = weights_last ((ws ++ Join f ∷ []) ++ Part r ∷ []) (Part l) in
            let c = weights_last (ws ++ Join f ∷ []) (Part r) in
            let d = weights_last ws (Join f) in
            let z = ap size tree_is ∙ size_of_binary f l r in
            omega (arith, a, b, c, d, z));
      }

-- ---- the loop

module _ (texts : List Text) (ts : List HeapTerm) (whole : Tree) where
  module _ (tasks old : List Task) (done : List ℕ) (t : Task) (h : IsUnderWay texts ts whole tasks done) (n : tasks ≡ old ++ t ∷ []) where
    popped : All (IsLiveTask texts ts) old × IsLiveTask texts ts t
    popped = All-pop (IsLiveTask texts ts) tasks old (Some t) n h.tasks_live

    pub old_live : All (IsLiveTask texts ts) old
    old_live = popped.0

    leads : after_all (works texts ts old) (after (work_of texts ts t) (Some (done_trees texts ts done))) ≡ Some (whole ∷ [])
    leads =
        sym (ap (λ ws. after_all ws (Some (done_trees texts ts done))) (works_last texts ts old tasks t n)
        ∙ after_last (works texts ts old) (work_of texts ts t) (Some (done_trees texts ts done)))
        ∙ h.leads

    pub goes_on : (us : List HeapTerm) (tasks' : List Task) (done' : List ℕ) → Turns texts ts t old done us tasks' done' → IsUnderWay texts us whole tasks' done'
    goes_on us tasks' done' k = record { leads = k.same ∙ leads; tasks_live = k.tasks_live; done_live = k.done_live }

    pub goes_less : (us : List HeapTerm) (tasks' : List Task) (done' : List ℕ) → Turns texts ts t old done us tasks' done'
        → weights (works texts us tasks') < weights (works texts ts tasks)
    goes_less us tasks' done' k =
        let a = ap weights (works_last texts ts old tasks t n) in
        let b = weights_last (works texts ts old) (work_of texts ts t) in
        omega (arith, a, b, k.less)

  -- two are done where two are to be joined
  short : (f : Text) (ds : List Tree) → (length ds < 2) → joined f ds ≡ None
  short f [] lt = refl
  short f (d ∷ []) lt = refl
  short f (d ∷ e ∷ ds) lt = absurd (omega (arith, lt))

  pub can_join : (tasks old : List Task) (done : List ℕ) (t : Task) → IsUnderWay texts ts whole tasks done → tasks ≡ old ++ t ∷ [] → CanJoin t done
  can_join tasks old done (task.Part id) h n = tt
  can_join tasks old done (task.Join name) h n = go (nat_lt 1 (length done)) refl
    where
      f : Text
      f = text_of texts name

      ds : List Tree
      ds = done_trees texts ts done

      lengths : length ds ≡ length done
      lengths = length-reverse (trees texts ts done) ∙ length-map done (tree texts ts)

      go : (b : Bool) → nat_lt 1 (length done) ≡ b → 1 < length done
      go true e = ltb-true _ _ e
      go false e =
          let few = ltb-false _ _ e in
          let none = short f ds (omega (arith, few, lengths)) in
          let stuck : None ≡ Some (whole ∷ []) =
          sym (nothing_after (works texts ts old)) ∙ ap (after_all (works texts ts old)) (sym none) ∙ leads tasks old done (task.Join name) h n in
          cc
