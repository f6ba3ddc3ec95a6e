-- The stack of jobs while it is worked off.
use Rattle.std.proofs.Common.{◌≡◌, ℕ, ◌+◌, ◌<◌, List, [], ◌∷◌, ◌++◌, reverse, refl, ap, sym, ◌∙◌, subst, arith, append_assoc, append-nil, Bool}
use Rattle.std.specs.Prelude.{nat_le}
use Rattle.std.proofs.lemmas.List.{reverse-append, reverse-reverse}
use Rattle.spec_syntax.specs.Writing.{priority}
use Rattle.spec_text.specs.Pieces.{pieces, unless}
use Rattle.spec_text.specs.Written.{text_by, pieces_within}
use Rattle.cq_write.specs.Spelled.{Written, put_all, blank_line}
use Rattle.cq_write.specs.Work.{Setting, tree, spelled_all, job_pieces, all_pieces, IsReady, AreReady, jobs_weight, part_weight, Expands, IsOperand}
use Rattle.cq_write.specs.declared.jobs.Part.{Part}
use Rattle.cq_write.specs.declared.jobs.Job.{Job}
use Rattle.cq_write.specs.declared.jobs.Job.TheVariants as job
use Rattle.cq_write.proofs.Texts.{whole_text}
use Rattle.cq_write.proofs.Begun.{put_all-append, all_pieces-append, ready_append, jobs_weight-append}

pub reverse_pop : (old rest : List Job) (j : Job) → old ≡ rest ++ j ∷ [] → reverse old ≡ j ∷ reverse rest
reverse_pop old rest j e = ap reverse e ∙ reverse-append rest (j ∷ [])

reverse_grow : (old js : List Job) → reverse (old ++ reverse js) ≡ js ++ reverse old
reverse_grow old js = reverse-append old (reverse js) ∙ ap (λ ks. ks ++ reverse old) (reverse-reverse js)

module _ (s : Setting) where
  -- the top of the stack is taken off
  pub ready_pop : (old rest : List Job) (j : Job) → old ≡ rest ++ j ∷ [] → AreReady s (reverse old) → IsReady s j × AreReady s (reverse rest)
  ready_pop old rest j e h = subst (AreReady s) (reverse_pop old rest j e) h

  -- and the jobs of a part are begun
  module _ (before after : Written) (old rest new : List Job) (p : Part) (e : old ≡ rest ++ job.Part p ∷ []) (x : Expands s p before after rest new) where
    abbrev left : List Job
    left = x.2.1

    grown : reverse new ≡ left ++ reverse rest
    grown = ap reverse x.2.3 ∙ reverse_grow rest left

    -- the pieces that are written and those that are left are the ones of before
    whole : x.2.0 ++ all_pieces s (reverse new) ≡ all_pieces s (reverse old)
    whole =
        ap (λ ks. x.2.0 ++ all_pieces s ks) grown ∙ ap (λ ps. x.2.0 ++ ps) (all_pieces-append s left (reverse rest)) ∙ sym (append_assoc x.2.0 (all_pieces s left) (all_pieces s (reverse rest)))
        ∙ ap (λ ps. ps ++ all_pieces s (reverse rest)) (x.2.4.pieces ∙ x.1.pieces) ∙ sym (ap (all_pieces s) (reverse_pop old rest (job.Part p) e))

    pub part_text : put_all after (all_pieces s (reverse new)) ≡ put_all before (all_pieces s (reverse old))
    part_text = ap (λ l. put_all l (all_pieces s (reverse new))) x.2.2 ∙ sym (put_all-append before x.2.0 (all_pieces s (reverse new))) ∙ ap (put_all before) whole

    pub part_ready : AreReady s (reverse rest) → AreReady s (reverse new)
    part_ready h = subst (AreReady s) (sym grown) (ready_append s left (reverse rest) (x.2.4.ready x.1.ready) h)

    pub part_lighter : jobs_weight s (reverse new) < jobs_weight s (reverse old)
    part_lighter =
        let d : jobs_weight s (reverse old) ≡ part_weight s p + jobs_weight s (reverse rest) = ap (jobs_weight s) (reverse_pop old rest (job.Part p) e) in
        let f : jobs_weight s (reverse new) ≡ jobs_weight s left + jobs_weight s (reverse rest) = ap (jobs_weight s) grown ∙ jobs_weight-append s left (reverse rest) in
        let g = x.1.lighter in
        let k = x.2.4.light in
        omega (arith, d, f, g, k)

  -- the first job
  pub begins : (id m : ℕ) (bare : Bool) (j : Job) (js : List Job) → js ≡ j ∷ [] → bare ≡ nat_le (priority s.ops (tree s id)) m → IsOperand s bare id j →
      AreReady s (reverse js) × ((put_all blank_line (all_pieces s (reverse js))).text ≡ text_by s.style s.ops s.name m (tree s id))
  begins id m bare j js e b h = (
    subst (λ ks. AreReady s (reverse ks)) (sym e) (h.ready, tt),
    ap (λ ks. (put_all blank_line (all_pieces s (reverse ks))).text) e ∙ ap (λ ps. (put_all blank_line ps).text) (append-nil (job_pieces s j) ∙ h.pieces ∙ ap (λ d. spelled_all s (unless d (pieces s.ops (tree s id)))) b)
        ∙ whole_text s.style s.name (pieces_within s.ops m (tree s id)),
  )

pub nothing_left : (s : Setting) (line : Written) (js : List Job) → js ≡ [] → (put_all line (all_pieces s (reverse js))).text ≡ line.text
nothing_left s line js e = ap (λ ks. (put_all line (all_pieces s (reverse ks))).text) e
