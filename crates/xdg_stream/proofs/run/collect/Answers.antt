use Rattle.std.proofs.Common.{◌++◌, ◌∷◌, [], arith, length, refl, ap, sym, ◌∙◌, subst, length-append}
use Rattle.xdg_facts.specs.Endings.{IsBelow}
use Rattle.xdg_facts.proofs.Fitting.{fits_length}
use Rattle.xdg_stream.specs.Progress.{Progress}
use Rattle.xdg_stream.specs.Vectors.{vectors}
use Rattle.xdg_stream.proofs.Progressing.{progress_found, progress_end, progress_spent}
use Rattle.xdg_stream.proofs.Wanted.{vectors_length, vectors_push}
use Rattle.xdg_stream.proofs.run.collect.Goals as goal
use Rattle.xdg_facts.proofs.Wanted.{wanted_go_on, wanted_more}

pub draw-preserved : goal.draw-preserved
draw-preserved g c =
    let i = c.draw.invariant in
    let a = c.in-Found.ensures.found refl in
    let items = c.in_ok-push-in-Found.ensures.items in
    let n = c.len.ensures in
    record {
      lawful = c.advance.ensures.lawful;
      open_still = a.1;
      budget = c.advance.ensures.budget ∙ i.budget;
      wanted = wanted_more _ _ _ (wanted_go_on _ (length c.draw.answers.items) _ (omega arith) i.wanted (sym c.if-eq.ensures)) (ap length items ∙ length-append _ _);
      progress = subst (λ z. Progress (g.F.Front.shape c.args.front) (g.F.Front.counted c.args.front) c.args.after.now (g.F.Front.shape c.advance.new.self.front) (g.F.Front.counted c.advance.new.self.front) (g.F.Front.numbers c.advance.new.self.front) c.advance.new.self.value c.advance.new.self.done c.advance.new.self.charged z)
          (sym (ap vectors items ∙ vectors_push c.draw.answers.items c.in_ok-numbers_of-in-Found.field-0 ∙ ap (λ z. vectors c.draw.answers.items ++ z ∷ []) (c.in_ok-numbers_of-in-Found.ensures ∙ ap g.F.Front.numbers c.front.ensures)))
          (progress_found _ _ _ _ _ _ _ _ _ _ _ _ _ _ _ _ i.progress i.open_still c.advance.ensures.charged c.advance.ensures.same a.2 (c.in-Found.ensures.finds refl));
    }

pub returns-in-End : goal.returns-in-End
returns-in-End g c =
    let i = c.draw.invariant in
    let n = vectors_length c.draw.answers.items in
    let b = c.advance.ensures.budget in
    let w = c.advance.ensures.lawful.within in
    let k = i.budget in
    progress_end _ _ _ _ _ _ _ _ _ c.advance.new.self.charged _ _ _ i.progress i.open_still c.advance.ensures.charged (omega (arith, b, w, k)) (subst (λ m. IsBelow m c.args.wanted) (sym n) (wanted_go_on _ (length c.draw.answers.items) _ (omega arith) i.wanted (sym c.if-eq.ensures))) (λ from next. (c.in-End.ensures.end refl i.open_still from next).0)

pub returns-in-Spent : goal.returns-in-Spent
returns-in-Spent g c =
    let i = c.draw.invariant in
    let n = vectors_length c.draw.answers.items in
    let s = c.in-Spent.ensures.spent refl i.open_still in
    progress_spent _ _ _ _ _ _ _ _ _ c.advance.new.self.charged _ _ _ i.progress i.open_still c.advance.ensures.charged (s.0 ∙ i.budget) (subst (λ m. IsBelow m c.args.wanted) (sym n) (wanted_go_on _ (length c.draw.answers.items) _ (omega arith) i.wanted (sym c.if-eq.ensures))) (λ from next. (s.1 from next).0)

pub with_room-requires : goal.with_room-requires
with_room-requires g c =
    let k = fits_length (g.F.Front.shape c.args.front) c.args.after.now c.requires.fits in
    let n = c.decisions.ensures in
    omega (arith, k, n)
