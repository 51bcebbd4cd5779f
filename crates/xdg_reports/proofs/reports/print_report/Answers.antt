use Rattle.xdg_inputs.specs.GrammarFiles.{HasBadText, HasTree, ReadText}
use Rattle.xdg_inputs.specs.declared.status.Status.TheVariants as statuses
use Rattle.xdg_inputs.proofs.Leaving.{accepted_leaves, stopped_leaves}
use Rattle.xdg_inputs.proofs.Writing.{refused_quiet, refused_wrote}
use Rattle.xdg_reports.specs.Outcomes.{ReportThen}
use Rattle.xdg_reports.specs.Runs.{EndsOf}
use Rattle.xdg_reports.specs.declared.reports.Report.{Report}
use Rattle.xdg_reports.specs.declared.reports.Report.TheVariants as reports
use Rattle.xdg_reports.proofs.reports.print_report.Goals as goal

-- whichever report it is, the file may not be there, or no text of a grammar
ends_read : (report : Report) → EndsOf report statuses.BadText × EndsOf report statuses.ReadFault × EndsOf report statuses.OutOfMemory × EndsOf report statuses.WriteFault
ends_read reports.Check = (tt, tt, tt, tt)
ends_read reports.Lexicon = (tt, tt, tt, tt)
ends_read reports.Print = (tt, tt, tt, tt)

pub returns-in-Err-clause-leaves : goal.returns-in-Err-clause-leaves
returns-in-Err-clause-leaves g c files told =
    stopped_leaves ReadText statuses.BadText (HasBadText files c.args.name.now) (HasTree files c.args.name.now) (ReportThen c.args.report) _ _ _ c.refuse.result c.in-Err.refusal _ _ told (λ e. e) (c.in-Err.ensures.refused files) c.refuse.ensures.written

pub returns-in-Err-clause-wrote : goal.returns-in-Err-clause-wrote
returns-in-Err-clause-wrote g c =
    let ends = ends_read c.args.report in
    refused_wrote (EndsOf c.args.report) statuses.BadText c.refuse.result c.in-Err.refusal _ _ _ _ tt ends.0 ends.1 ends.2 ends.3 c.refuse.ensures.written c.refuse.ensures.quiet

pub returns-in-Err-clause-shelf_quiet : goal.returns-in-Err-clause-shelf_quiet
returns-in-Err-clause-shelf_quiet g c other differs =
    refused_quiet statuses.BadText c.refuse.result c.in-Err.refusal _ _ (g.H.Shelf.faults c.args.shelf.now other) (g.H.Shelf.faults c.load_tree.new.shelf other) c.refuse.ensures.written (c.in-Err.ensures.quiet other) differs

pub returns-in-Check-clause-leaves : goal.returns-in-Check-clause-leaves
returns-in-Check-clause-leaves g c files told =
    rw c.in-Check.is (accepted_leaves ReadText statuses.BadText (HasBadText files c.args.name.now) (HasTree files c.args.name.now) (ReportThen reports.Check) _ c.check_loaded.result _ _ (c.in-Ok.ensures.found files told) c.check_loaded.ensures.leaves)

pub returns-in-Check-clause-wrote : goal.returns-in-Check-clause-wrote
returns-in-Check-clause-wrote g c = rw c.in-Check.is c.check_loaded.ensures.wrote

pub returns-in-Lexicon-clause-leaves : goal.returns-in-Lexicon-clause-leaves
returns-in-Lexicon-clause-leaves g c files told =
    rw c.in-Lexicon.is (accepted_leaves ReadText statuses.BadText (HasBadText files c.args.name.now) (HasTree files c.args.name.now) (ReportThen reports.Lexicon) _ c.list_loaded.result _ _ (c.in-Ok.ensures.found files told) c.list_loaded.ensures.leaves)

pub returns-in-Lexicon-clause-wrote : goal.returns-in-Lexicon-clause-wrote
returns-in-Lexicon-clause-wrote g c = rw c.in-Lexicon.is c.list_loaded.ensures.wrote

pub returns-in-Print-clause-leaves : goal.returns-in-Print-clause-leaves
returns-in-Print-clause-leaves g c files told =
    rw c.in-Print.is (accepted_leaves ReadText statuses.BadText (HasBadText files c.args.name.now) (HasTree files c.args.name.now) (ReportThen reports.Print) _ c.print_loaded.result _ _ (c.in-Ok.ensures.found files told) c.print_loaded.ensures.leaves)

pub returns-in-Print-clause-wrote : goal.returns-in-Print-clause-wrote
returns-in-Print-clause-wrote g c = rw c.in-Print.is c.print_loaded.ensures.wrote
