use Rattle.std.proofs.Common.{◌≡◌, ◌-◌, length, None}
use Rattle.std.specs.Vec.{vec_capacity}
use Rattle.xdg_facts.specs.Endings.{IsUpTo}
use Rattle.xdg_stream.specs.Lawful.{IsLawful}
use Rattle.xdg_stream.specs.Progress.{Progress}
use Rattle.xdg_stream.specs.Vectors.{vectors}
use Rattle.xdg_stream.proofs.run.collect.Given as goal

abbrev pub invariant-draw : goal.invariant-draw
invariant-draw g l =
    let shape = g.F.Front.shape l.search.front in
    let counted = g.F.Front.counted l.search.front in
    let numbers = g.F.Front.numbers l.search.front in
    record {
      lawful : IsLawful shape counted numbers l.search.reached.items (vec_capacity l.search.reached) l.search.done l.search.charged l.search.budget;
      open_still : l.search.done ≡ None;
      budget : l.search.budget ≡ l.budget;
      wanted : IsUpTo (length l.answers.items) l.wanted;
      progress : Progress (g.F.Front.shape l.fn.front) (g.F.Front.counted l.fn.front) l.after shape counted numbers l.search.value l.search.done l.search.charged (vectors l.answers.items);
    }

abbrev pub decreases-draw : goal.decreases-draw
decreases-draw g l = l.search.budget - l.search.charged
