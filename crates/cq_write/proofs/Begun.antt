-- Jobs that are begun: what is written of them, and what is left.
use Rattle.std.proofs.Common.{◌≡◌, ℕ, ◌+◌, ◌<◌, ◌≤◌, List, [], ◌∷◌, ◌++◌, reverse, refl, ap, sym, ◌∙◌, subst, arith, append_assoc, append-nil}
use Rattle.std.proofs.lemmas.List.{reverse-append}
use Rattle.cq_write.specs.Spelled.{Spelled, Written, put, put_all}
use Rattle.cq_write.specs.Work.{Setting, spelled_all, spelled_word, part_pieces, job_pieces, all_pieces, AreReady, jobs_weight, IsBegun, Begins, Expands}
use Rattle.cq_write.specs.declared.jobs.Word.{Word}
use Rattle.cq_write.specs.declared.jobs.Word.TheVariants as word
use Rattle.cq_write.specs.declared.jobs.Part.TheVariants as part
use Rattle.cq_write.specs.declared.jobs.Job.{Job}
use Rattle.cq_write.specs.declared.jobs.Job.TheVariants as job

pub put_all-append : (line : Written) (ws qs : List Spelled) → put_all line (ws ++ qs) ≡ put_all (put_all line ws) qs
put_all-append line [] qs = refl
put_all-append line (w ∷ ws) qs = put_all-append (put line w) ws qs

module _ (s : Setting) where
  pub all_pieces-append : (js ks : List Job) → all_pieces s (js ++ ks) ≡ all_pieces s js ++ all_pieces s ks
  all_pieces-append [] ks = refl
  all_pieces-append (j ∷ js) ks = ap (λ ps. job_pieces s j ++ ps) (all_pieces-append js ks) ∙ sym (append_assoc (job_pieces s j) (all_pieces s js) (all_pieces s ks))

  pub ready_append : (js ks : List Job) → AreReady s js → AreReady s ks → AreReady s (js ++ ks)
  ready_append [] ks h g = g
  ready_append (j ∷ js) ks h g = (h.0, ready_append js ks h.1 g)

  ready_split : (js ks : List Job) → AreReady s (js ++ ks) → AreReady s js × AreReady s ks
  ready_split [] ks h = (tt, h)
  ready_split (j ∷ js) ks h = let g = ready_split js ks h.1 in ((h.0, g.0), g.1)

  pub jobs_weight-append : (js ks : List Job) → jobs_weight s (js ++ ks) ≡ jobs_weight s js + jobs_weight s ks
  jobs_weight-append [] ks = omega arith
  jobs_weight-append (j ∷ js) ks = omega (arith, jobs_weight-append js ks)

  module _ (b a : Written) (old new : List Job) where
    -- nothing is written
    pub begun_nothing : (ks : List Job) → new ≡ old ++ reverse ks → a ≡ b → Begins s ks b a old new
    begun_nothing ks g e = ([], ks, e, g, record { pieces = refl; ready = λ h. h; light = omega arith })

    -- nothing is left
    pub begun_all : new ≡ old → a ≡ b → Begins s [] b a old new
    begun_all g e = begun_nothing [] (g ∙ sym (append-nil old)) e

    -- the first word is written
    pub begun_word : (w : Word) (ks : List Job) (m : Written) → m ≡ put b (spelled_word s w) → Begins s ks m a old new → Begins s (job.Word w ∷ ks) b a old new
    begun_word w ks m e (ws, js, said, grown, rest) =
        let light = rest.light in (
          spelled_word s w ∷ ws,
          js,
          said ∙ ap (λ l. put_all l ws) e,
          grown,
          record { pieces = ap (λ ps. spelled_word s w ∷ ps) rest.pieces; ready = λ h. rest.ready h.1; light = omega (arith, light) },
        )

    -- the only word is written
    pub begun_one : (w : Word) → new ≡ old → a ≡ put b (spelled_word s w) → Begins s (job.Word w ∷ []) b a old new
    begun_one w g e = (
      spelled_word s w ∷ [],
      [],
      e,
      g ∙ sym (append-nil old),
      record { pieces = refl; ready = λ h. tt; light = omega arith },
    )

    -- others lie below them
    pub begun_above : (ks later : List Job) → Begins s ks b a (old ++ reverse later) new → Begins s (ks ++ later) b a old new
    begun_above ks later (ws, js, said, grown, rest) =
        let light = rest.light in
        let more = jobs_weight-append js later in
        let most = jobs_weight-append ks later in (
          ws,
          js ++ later,
          said,
          grown ∙ append_assoc old (reverse later) (reverse js) ∙ ap (λ t. old ++ t) (sym (reverse-append js later)),
          record {
            pieces =
                ap (λ ps. ws ++ ps) (all_pieces-append js later) ∙ sym (append_assoc ws (all_pieces s js) (all_pieces s later))
                ∙ ap (λ ps. ps ++ all_pieces s later) rest.pieces ∙ sym (all_pieces-append ks later);
            ready = λ h. let g = ready_split ks later h in ready_append js later (rest.ready g.0) g.1;
            light = omega (arith, light, more, most);
          },
        )

    -- the same of a stack to which they came
    pub begun_below : (ks later mid : List Job) → mid ≡ old ++ reverse later → Begins s ks b a mid new → Begins s (ks ++ later) b a old new
    begun_below ks later mid e x = begun_above ks later (subst (λ m. Begins s ks b a m new) e x)

    -- those of a term are begun
    pub begun_term : (id : ℕ) → Expands s (part.Term id) b a old new → Begins s (job.Part (part.Term id) ∷ []) b a old new
    begun_term id (ks, made, (ws, js, said, grown, rest)) =
        let light = rest.light in
        let lighter = made.lighter in (
          ws,
          js,
          said,
          grown,
          record {
            pieces = rest.pieces ∙ made.pieces ∙ sym (append-nil (spelled_all s (part_pieces s (part.Term id))));
            ready = λ h. rest.ready made.ready;
            light = omega (arith, light, lighter);
          },
        )
