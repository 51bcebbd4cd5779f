use Rattle.std.proofs.Common.{inl, inr, refl, subst, rules}
use Rattle.xdg_arrange.specs.Outcomes.{ArrangeEnds}
use Rattle.xdg_best.specs.Runs.{BestEnds}
use Rattle.xdg_corpus.specs.Outcomes.{CorpusEnds}
use Rattle.xdg_io.specs.Rose.{Rose}
use Rattle.xdg_top.specs.Outcomes.{WantsSome}
use Rattle.xdg_searches.specs.Runs.{DrillEnds, ParseEnds}
use Rattle.xdg_top.specs.Runs.{ReadsInput, of_input}
use Rattle.xdg_top.proofs.Commanded.{all_failed, corpus_done, early_wrote, file_failed, front_part, reads_failed, refused_file, ruled_failed, said_leaves, said_reads, said_wrote}
use Rattle.xdg_top.proofs.running.run_command.Goals as goal

pub parse_sentence-requires : goal.parse_sentence-requires
parse_sentence-requires g c = (search rules, subst WantsSome c.in-Parse.is c.requires)

pub resume_analysis-requires : goal.resume_analysis-requires
resume_analysis-requires g c = subst WantsSome c.in-Resume.is c.requires

pub best_sentence-requires : goal.best_sentence-requires
best_sentence-requires g c = subst WantsSome c.in-Best.is c.requires

pub corpus-requires : goal.corpus-requires
corpus-requires g c = (search rules, subst WantsSome c.in-Corpus.is c.requires)

pub returns-in-Parse-clause-leaves : goal.returns-in-Parse-clause-leaves
returns-in-Parse-clause-leaves g c files content told given = said_leaves _ _ _ _ _ _ _ c.in-Parse.is (c.parse_sentence.ensures.leaves files content told (given (said_reads _ _ c.in-Parse.is tt)))

pub returns-in-Parse-clause-wrote : goal.returns-in-Parse-clause-wrote
returns-in-Parse-clause-wrote g c = said_wrote _ _ _ _ _ _ _ c.in-Parse.is (λ u. u) c.parse_sentence.ensures.wrote

pub returns-in-Parse-clause-read_fault : goal.returns-in-Parse-clause-read_fault
returns-in-Parse-clause-read_fault g c failed =
    ruled_failed _ _ c.in-Parse.options.grammar c.in-Parse.options.rules (Rose (g.S.Source.faults c.args.input.now) (g.S.Source.faults c.parse_sentence.new.input)) _ _ _ _ c.in-Parse.is (inl refl)
    (λ name given. inr given) (λ rose. of_input (said_reads _ _ c.in-Parse.is tt) rose) (c.parse_sentence.ensures.read_fault failed)

pub returns-in-Parse-clause-unread : goal.returns-in-Parse-clause-unread
returns-in-Parse-clause-unread g c bad =
    refused_file ParseEnds c.parse_sentence.result _ c.parse_sentence.ensures.wrote.ends (λ can is. c.parse_sentence.ensures.unread (inr (inr is))) (λ can is. absurd can)
    (λ text. c.parse_sentence.ensures.unread (elim text [ inl is ↦ inl is | inr is ↦ inr (inl is) ])) bad

pub returns-in-Parse-clause-files_alone : goal.returns-in-Parse-clause-files_alone
returns-in-Parse-clause-files_alone g c none = absurd (none (said_reads _ _ c.in-Parse.is tt))

pub returns-in-Resume-clause-leaves : goal.returns-in-Resume-clause-leaves
returns-in-Resume-clause-leaves g c files content told given = said_leaves _ _ _ _ _ _ _ c.in-Resume.is (c.resume_analysis.ensures.leaves files told)

pub returns-in-Resume-clause-wrote : goal.returns-in-Resume-clause-wrote
returns-in-Resume-clause-wrote g c = said_wrote _ _ _ _ _ _ _ c.in-Resume.is (λ u. u) c.resume_analysis.ensures.wrote

pub returns-in-Resume-clause-read_fault : goal.returns-in-Resume-clause-read_fault
returns-in-Resume-clause-read_fault g c failed =
    let o = c.in-Resume.options in
    ruled_failed _ _ o.grammar o.rules (Rose (g.H.Shelf.faults c.args.shelf.now o.analysis) (g.H.Shelf.faults c.resume_analysis.new.shelf o.analysis)) _ _ _ _ c.in-Resume.is (inl refl) (λ name given. inr (inl given))
    (λ rose. file_failed _ _ o.analysis _ _ _ _ c.in-Resume.is (inr (inr refl)) rose) (c.resume_analysis.ensures.read_fault failed)

pub returns-in-Resume-clause-all_read : goal.returns-in-Resume-clause-all_read
returns-in-Resume-clause-all_read g c content reads done told = absurd (subst ReadsInput c.in-Resume.is reads)

pub returns-in-Explain-clause-leaves : goal.returns-in-Explain-clause-leaves
returns-in-Explain-clause-leaves g c files content told given = said_leaves _ _ _ _ _ _ _ c.in-Explain.is (c.explain_analysis.ensures.leaves files told)

pub returns-in-Explain-clause-wrote : goal.returns-in-Explain-clause-wrote
returns-in-Explain-clause-wrote g c = said_wrote _ _ _ _ _ _ _ c.in-Explain.is (λ u. u) c.explain_analysis.ensures.wrote

pub returns-in-Explain-clause-read_fault : goal.returns-in-Explain-clause-read_fault
returns-in-Explain-clause-read_fault g c failed =
    let o = c.in-Explain.options in
    ruled_failed _ _ o.grammar o.rules (Rose (g.H.Shelf.faults c.args.shelf.now o.analysis) (g.H.Shelf.faults c.explain_analysis.new.shelf o.analysis)) _ _ _ _ c.in-Explain.is (inl refl) (λ name given. inr (inl given))
    (λ rose. file_failed _ _ o.analysis _ _ _ _ c.in-Explain.is (inr (inr refl)) rose) (c.explain_analysis.ensures.read_fault failed)

pub returns-in-Explain-clause-all_read : goal.returns-in-Explain-clause-all_read
returns-in-Explain-clause-all_read g c content reads done told = absurd (subst ReadsInput c.in-Explain.is reads)

pub returns-in-Check-clause-leaves : goal.returns-in-Check-clause-leaves
returns-in-Check-clause-leaves g c files content told given = said_leaves _ _ _ _ _ _ _ c.in-Check.is (rw c.as_str.ensures at (c.print_report.ensures.leaves files told))

pub returns-in-Check-clause-wrote : goal.returns-in-Check-clause-wrote
returns-in-Check-clause-wrote g c = said_wrote _ _ _ _ _ _ _ c.in-Check.is (λ u. u) c.print_report.ensures.wrote

pub returns-in-Check-clause-read_fault : goal.returns-in-Check-clause-read_fault
returns-in-Check-clause-read_fault g c failed = file_failed _ _ c.as_str.result.now _ _ _ _ c.in-Check.is c.as_str.ensures (c.print_report.ensures.read_fault failed)

pub returns-in-Check-clause-all_read : goal.returns-in-Check-clause-all_read
returns-in-Check-clause-all_read g c content reads done told = absurd (subst ReadsInput c.in-Check.is reads)

pub returns-in-Lexicon-clause-leaves : goal.returns-in-Lexicon-clause-leaves
returns-in-Lexicon-clause-leaves g c files content told given = said_leaves _ _ _ _ _ _ _ c.in-Lexicon.is (rw c.as_str-in-Lexicon.ensures at (c.print_report-in-Lexicon.ensures.leaves files told))

pub returns-in-Lexicon-clause-wrote : goal.returns-in-Lexicon-clause-wrote
returns-in-Lexicon-clause-wrote g c = said_wrote _ _ _ _ _ _ _ c.in-Lexicon.is (λ u. u) c.print_report-in-Lexicon.ensures.wrote

pub returns-in-Lexicon-clause-read_fault : goal.returns-in-Lexicon-clause-read_fault
returns-in-Lexicon-clause-read_fault g c failed = file_failed _ _ c.as_str-in-Lexicon.result.now _ _ _ _ c.in-Lexicon.is c.as_str-in-Lexicon.ensures (c.print_report-in-Lexicon.ensures.read_fault failed)

pub returns-in-Lexicon-clause-all_read : goal.returns-in-Lexicon-clause-all_read
returns-in-Lexicon-clause-all_read g c content reads done told = absurd (subst ReadsInput c.in-Lexicon.is reads)

pub returns-in-Print-clause-leaves : goal.returns-in-Print-clause-leaves
returns-in-Print-clause-leaves g c files content told given = said_leaves _ _ _ _ _ _ _ c.in-Print.is (rw c.as_str-in-Print.ensures at (c.print_report-in-Print.ensures.leaves files told))

pub returns-in-Print-clause-wrote : goal.returns-in-Print-clause-wrote
returns-in-Print-clause-wrote g c = said_wrote _ _ _ _ _ _ _ c.in-Print.is (λ u. u) c.print_report-in-Print.ensures.wrote

pub returns-in-Print-clause-read_fault : goal.returns-in-Print-clause-read_fault
returns-in-Print-clause-read_fault g c failed = file_failed _ _ c.as_str-in-Print.result.now _ _ _ _ c.in-Print.is c.as_str-in-Print.ensures (c.print_report-in-Print.ensures.read_fault failed)

pub returns-in-Print-clause-all_read : goal.returns-in-Print-clause-all_read
returns-in-Print-clause-all_read g c content reads done told = absurd (subst ReadsInput c.in-Print.is reads)

pub returns-in-Drill-clause-leaves : goal.returns-in-Drill-clause-leaves
returns-in-Drill-clause-leaves g c files content told given = said_leaves _ _ _ _ _ _ _ c.in-Drill.is c.drill.ensures.leaves

pub returns-in-Drill-clause-wrote : goal.returns-in-Drill-clause-wrote
returns-in-Drill-clause-wrote g c = said_wrote _ _ _ _ _ _ _ c.in-Drill.is (λ u. u) c.drill.ensures.wrote

pub returns-in-Drill-clause-read_fault : goal.returns-in-Drill-clause-read_fault
returns-in-Drill-clause-read_fault g c failed = absurd (subst DrillEnds failed c.drill.ensures.wrote.ends)

pub returns-in-Drill-clause-all_read : goal.returns-in-Drill-clause-all_read
returns-in-Drill-clause-all_read g c content reads done told = absurd (subst ReadsInput c.in-Drill.is reads)

pub returns-in-Corpus-clause-leaves : goal.returns-in-Corpus-clause-leaves
returns-in-Corpus-clause-leaves g c files content told given = said_leaves _ _ _ _ _ _ _ c.in-Corpus.is (c.corpus.ensures.leaves files content told (given (said_reads _ _ c.in-Corpus.is tt)))

pub returns-in-Corpus-clause-wrote : goal.returns-in-Corpus-clause-wrote
returns-in-Corpus-clause-wrote g c = early_wrote _ _ _ _ _ _ _ c.in-Corpus.is c.corpus.ensures.ends c.corpus.ensures.unwritten c.corpus.ensures.out_quiet

pub returns-in-Corpus-clause-read_fault : goal.returns-in-Corpus-clause-read_fault
returns-in-Corpus-clause-read_fault g c failed = reads_failed _ _ c.in-Corpus.options.grammar _ _ _ _ c.in-Corpus.is refl tt (c.corpus.ensures.read_fault failed)

pub returns-in-Corpus-clause-unread : goal.returns-in-Corpus-clause-unread
returns-in-Corpus-clause-unread g c bad = refused_file CorpusEnds c.corpus.result _ c.corpus.ensures.ends (λ can is. absurd can) (λ can is. absurd can) c.corpus.ensures.unread bad

pub returns-in-Corpus-clause-files_alone : goal.returns-in-Corpus-clause-files_alone
returns-in-Corpus-clause-files_alone g c none = absurd (none (said_reads _ _ c.in-Corpus.is tt))

pub returns-in-Corpus-clause-all_read : goal.returns-in-Corpus-clause-all_read
returns-in-Corpus-clause-all_read g c content reads ended told = c.corpus.ensures.all_read content (corpus_done c.corpus.result c.corpus.ensures.ends ended) told

pub returns-in-Arrange-clause-leaves : goal.returns-in-Arrange-clause-leaves
returns-in-Arrange-clause-leaves g c files content told given =
    said_leaves _ _ _ _ _ _ _ c.in-Arrange.is
    (front_part _ _ _ _
    (c.arrange.ensures.leaves files content told (given (said_reads _ _ c.in-Arrange.is tt))))

pub returns-in-Arrange-clause-wrote : goal.returns-in-Arrange-clause-wrote
returns-in-Arrange-clause-wrote g c = early_wrote _ _ _ _ _ _ _ c.in-Arrange.is c.arrange.ensures.ends c.arrange.ensures.unwritten c.arrange.ensures.out_quiet

pub returns-in-Arrange-clause-read_fault : goal.returns-in-Arrange-clause-read_fault
returns-in-Arrange-clause-read_fault g c failed = reads_failed _ _ c.in-Arrange.options.grammar _ _ _ _ c.in-Arrange.is refl tt (c.arrange.ensures.read_fault failed)

pub returns-in-Arrange-clause-unread : goal.returns-in-Arrange-clause-unread
returns-in-Arrange-clause-unread g c bad = refused_file ArrangeEnds c.arrange.result _ c.arrange.ensures.ends (λ can is. absurd can) (λ can is. absurd can) c.arrange.ensures.unread bad

pub returns-in-Arrange-clause-files_alone : goal.returns-in-Arrange-clause-files_alone
returns-in-Arrange-clause-files_alone g c none = absurd (none (said_reads _ _ c.in-Arrange.is tt))

pub returns-in-Best-clause-leaves : goal.returns-in-Best-clause-leaves
returns-in-Best-clause-leaves g c files content told given = said_leaves _ _ _ _ _ _ _ c.in-Best.is (c.best_sentence.ensures.leaves files content told (given (said_reads _ _ c.in-Best.is tt)))

pub returns-in-Best-clause-wrote : goal.returns-in-Best-clause-wrote
returns-in-Best-clause-wrote g c = said_wrote _ _ _ _ _ _ _ c.in-Best.is (λ u. u) c.best_sentence.ensures.wrote

pub returns-in-Best-clause-read_fault : goal.returns-in-Best-clause-read_fault
returns-in-Best-clause-read_fault g c failed =
    all_failed _ _ c.in-Best.options.grammar c.in-Best.options.costs _ _ _ _ c.in-Best.is
    (inl refl) (inr refl) tt (c.best_sentence.ensures.read_fault failed)

pub returns-in-Best-clause-unread : goal.returns-in-Best-clause-unread
returns-in-Best-clause-unread g c bad =
    refused_file BestEnds c.best_sentence.result _ c.best_sentence.ensures.wrote.ends (λ can is. absurd can) (λ can is. c.best_sentence.ensures.unread (inr (inr is)))
    (λ text. c.best_sentence.ensures.unread (elim text [ inl is ↦ inl is | inr is ↦ inr (inl is) ])) bad

pub returns-in-Best-clause-files_alone : goal.returns-in-Best-clause-files_alone
returns-in-Best-clause-files_alone g c none = absurd (none (said_reads _ _ c.in-Best.is tt))
