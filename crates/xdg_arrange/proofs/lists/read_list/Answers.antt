use Rattle.std.proofs.Common.{sym, subst}
use Rattle.xdg_inputs.specs.Answers.{meaning_of}
use Rattle.xdg_io.specs.Left.{TakesAll}
use Rattle.xdg_inputs.proofs.Taking.{input_quiet, input_read, input_stops, input_taken}
use Rattle.xdg_arrange.specs.Lists.{HasList, IsBadList}
use Rattle.xdg_arrange.proofs.Listing.{input_found, long_stops}
use Rattle.xdg_arrange.proofs.lists.read_list.Goals as goal

pub returns-in-Err-TooLong-clause-refused : goal.returns-in-Err-TooLong-clause-refused
returns-in-Err-TooLong-clause-refused g c =
    long_stops c.args.expanded.now c.requires.lexicon c.args.segment (g.S.Source.left c.args.source.now) (g.S.Source.left c.read_all.new.source) (g.S.Source.faults c.args.source.now) (g.S.Source.faults c.read_all.new.source) c.in-Err-TooLong.field-0
    c.in-Err-TooLong.reached c.too_long.result c.in-Err-TooLong.ensures.reached c.in-Err-TooLong.field-0-is (rw c.in-Err-TooLong.field-0-is at c.too_long.ensures)

pub returns-clause-found : goal.returns-clause-found
returns-clause-found g c =
    input_found c.args.expanded.now c.args.segment (g.S.Source.left c.args.source.now) (g.S.Source.left c.read_all.new.source) c.deref.result.now c.list_in.result
    (subst (TakesAll (g.S.Source.left c.args.source.now) (g.S.Source.left c.read_all.new.source)) (sym c.deref.ensures.value) c.in-Ok.ensures.all) c.list_in.ensures.found

pub returns-clause-refused : goal.returns-clause-refused
returns-clause-refused g c =
    input_stops (IsBadList (meaning_of c.args.expanded.now) c.args.segment) (HasList (meaning_of c.args.expanded.now) c.args.segment) (g.S.Source.left c.args.source.now) (g.S.Source.left c.read_all.new.source) c.deref.result.now (g.S.Source.faults c.args.source.now) (g.S.Source.faults c.read_all.new.source) c.list_in.result
    (subst (TakesAll (g.S.Source.left c.args.source.now) (g.S.Source.left c.read_all.new.source)) (sym c.deref.ensures.value) c.in-Ok.ensures.all) c.list_in.ensures.refused

pub returns-clause-failed : goal.returns-clause-failed
returns-clause-failed g c =
    input_read (IsBadList (meaning_of c.args.expanded.now) c.args.segment) (HasList (meaning_of c.args.expanded.now) c.args.segment) (g.S.Source.left c.args.source.now) (g.S.Source.left c.read_all.new.source) c.deref.result.now (g.S.Source.faults c.args.source.now) (g.S.Source.faults c.read_all.new.source) c.list_in.result c.list_in.ensures.refused

pub returns-clause-all : goal.returns-clause-all
returns-clause-all g c = input_taken (g.S.Source.left c.args.source.now) (g.S.Source.left c.read_all.new.source) c.in-Ok.input.items c.list_in.result c.in-Ok.ensures.all

pub returns-clause-quiet : goal.returns-clause-quiet
returns-clause-quiet g c = input_quiet c.list_in.result (g.S.Source.faults c.args.source.now) (g.S.Source.faults c.read_all.new.source) c.in-Ok.ensures.quiet
