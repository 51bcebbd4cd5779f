use Rattle.std.proofs.Common.{◌≡◌, take}
use Rattle.xdg_facts.specs.Fits.{Fits}
use Rattle.xdg_stream.specs.Problem.{SameProblem}
use Rattle.xdg_stream.specs.Place.{Stands}
use Rattle.xdg_stream.proofs.search.descend.Given as goal

abbrev pub invariant-loop-number : goal.invariant-loop-number
invariant-loop-number g l =
    let shape = g.F.Front.shape l.fn.front in
    let counted = g.F.Front.counted l.fn.front in
    record {
      problem : g.F.Front.problem l.front ≡ g.F.Front.problem l.fn.front;
      same : SameProblem shape counted (g.F.Front.shape l.front) (g.F.Front.counted l.front);
      fits : Fits shape l.after;
      numbers : g.F.Front.numbers l.front ≡ take l.number-index l.after;
      stands : Stands shape counted (g.F.Front.numbers l.front);
    }
