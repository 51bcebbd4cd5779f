use Rattle.std.proofs.Common.{◌≡◌}
use Rattle.xdg_arrange.specs.Lists.{Listed}
use Rattle.xdg_arrange.proofs.Going.{Goes}
use Rattle.xdg_build.specs.Stocks.{IsStock}
use Rattle.xdg_inputs.specs.Answers.{grammar_in}
use Rattle.xdg_arrange.proofs.printing.print_arrangements.Given as goal

abbrev pub invariant-next : goal.invariant-next
invariant-next g l = record {
  goes : (let listed : Listed = record { grammar = grammar_in l.expanded; words = l.words } in Goes l.budget listed l.arrangements l.printed l._turn (g.K.Sink.held l.initial.out) (g.K.Sink.held l.out));
  stock : IsStock (grammar_in l.expanded) l.stock;
  quiet : g.K.Sink.faults l.out ≡ g.K.Sink.faults l.initial.out;
}
