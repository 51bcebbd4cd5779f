use Rattle.std.proofs.Common.{◌≡◌, ◌<◌, ◌⊎◌, inl, inr, map, sym, subst, rules}
use Rattle.std.specs.String.{string_bytes}
use Rattle.xdg_text.specs.Lines.{usage_line}
use Rattle.xdg_top.specs.Outcomes.{CommandOf, IsUsage, OutcomeOf}
use Rattle.xdg_top.specs.Runs.{EndsWith, IsRefusedFile, ReadsInput}
use Rattle.xdg_inputs.specs.declared.status.Status.TheVariants as statuses
use Rattle.xdg_top.proofs.Commanded.{asked_leaves, memory_ends, memory_leaves, memory_left, not_usage, nothing_added, only_usage, read_won, the_command, the_none, usage_alone, usage_leaves, wants_some, words_leave}
use Rattle.xdg_inputs.proofs.Leaving.{ends_of, front_of}
use Rattle.xdg_top.proofs.running.run.Goals as goal

-- ---- the usage line

pub returns-in-Ok-clause-leaves : goal.returns-in-Ok-clause-leaves
returns-in-Ok-clause-leaves g c files content told given =
    usage_leaves (map string_bytes c.args.words.now) (OutcomeOf (map string_bytes c.args.words.now) files content) statuses.Usage _ _
    (ends_of (OutcomeOf (map string_bytes c.args.words.now) files content) statuses.Usage usage_line _ _ (only_usage (map string_bytes c.args.words.now) files content (the_none (map string_bytes c.args.words.now) c.in-Ok-None.field-0 c.in-Ok-None.field-0-is c.in-Ok-None.ensures.exact)) c.in-Ok.ensures.all)

pub returns-in-Ok-clause-usage_text : goal.returns-in-Ok-clause-usage_text
returns-in-Ok-clause-usage_text g c other = ends_of IsUsage statuses.Usage usage_line _ _ usage_alone c.in-Ok.ensures.all

pub returns-in-Ok-clause-reports : goal.returns-in-Ok-clause-reports
returns-in-Ok-clause-reports g c files content given told is given_told = absurd ((the_none (map string_bytes c.args.words.now) c.in-Ok-None.field-0 c.in-Ok-None.field-0-is c.in-Ok-None.ensures.exact) given is)

pub returns-in-Ok-clause-of_command : goal.returns-in-Ok-clause-of_command
returns-in-Ok-clause-of_command g c given is = absurd ((the_none (map string_bytes c.args.words.now) c.in-Ok-None.field-0 c.in-Ok-None.field-0-is c.in-Ok-None.ensures.exact) given is)

pub returns-in-Err-write_usage-clause-leaves : goal.returns-in-Err-write_usage-clause-leaves
returns-in-Err-write_usage-clause-leaves g c files content told given =
    usage_leaves (map string_bytes c.args.words.now) (OutcomeOf (map string_bytes c.args.words.now) files content) statuses.WriteFault _ _
    (front_of (OutcomeOf (map string_bytes c.args.words.now) files content) statuses.Usage usage_line _ _ (only_usage (map string_bytes c.args.words.now) files content (the_none (map string_bytes c.args.words.now) c.in-Ok-None.field-0 c.in-Ok-None.field-0-is c.in-Ok-None.ensures.exact)) c.in-Err-write_usage.ensures.front)

pub returns-in-Err-write_usage-clause-usage_text : goal.returns-in-Err-write_usage-clause-usage_text
returns-in-Err-write_usage-clause-usage_text g c other = front_of IsUsage statuses.Usage usage_line _ _ usage_alone c.in-Err-write_usage.ensures.front

pub returns-in-Err-write_usage-clause-reports : goal.returns-in-Err-write_usage-clause-reports
returns-in-Err-write_usage-clause-reports g c files content given told is given_told = absurd ((the_none (map string_bytes c.args.words.now) c.in-Ok-None.field-0 c.in-Ok-None.field-0-is c.in-Ok-None.ensures.exact) given is)

pub returns-in-Err-write_usage-clause-of_command : goal.returns-in-Err-write_usage-clause-of_command
returns-in-Err-write_usage-clause-of_command g c given is = absurd ((the_none (map string_bytes c.args.words.now) c.in-Ok-None.field-0 c.in-Ok-None.field-0-is c.in-Ok-None.ensures.exact) given is)

-- ---- want of memory

pub returns-in-Err-clause-leaves : goal.returns-in-Err-clause-leaves
returns-in-Err-clause-leaves g c files content told given = memory_leaves (map string_bytes c.args.words.now) (OutcomeOf (map string_bytes c.args.words.now) files content) _

pub returns-in-Err-clause-reports : goal.returns-in-Err-clause-reports
returns-in-Err-clause-reports g c files content given told is given_told = memory_left given (CommandOf given files content) _

pub returns-in-Err-clause-of_command : goal.returns-in-Err-clause-of_command
returns-in-Err-clause-of_command g c given is = memory_ends given

-- ---- a command

pub run_command-requires : goal.run_command-requires
run_command-requires g c = (search rules, wants_some (map string_bytes c.args.words.now) c.in-Ok-Some.command (the_command (map string_bytes c.args.words.now) c.in-Ok-Some.field-0 c.in-Ok-Some.command c.in-Ok-Some.field-0-is c.in-Ok-Some.ensures.exact).0)

pub returns-clause-leaves : goal.returns-clause-leaves
returns-clause-leaves g c files content told given =
    words_leave (map string_bytes c.args.words.now) files content c.in-Ok-Some.command c.run_command.result (g.K.Sink.held c.args.out.now) (g.K.Sink.held c.run_command.new.out) (the_command (map string_bytes c.args.words.now) c.in-Ok-Some.field-0 c.in-Ok-Some.command c.in-Ok-Some.field-0-is c.in-Ok-Some.ensures.exact).0 (the_command (map string_bytes c.args.words.now) c.in-Ok-Some.field-0 c.in-Ok-Some.command c.in-Ok-Some.field-0-is c.in-Ok-Some.ensures.exact).1
    (c.run_command.ensures.leaves files content told (λ reads. given))

pub returns-clause-reports : goal.returns-clause-reports
returns-clause-reports g c files content given told is given_told =
    asked_leaves (map string_bytes c.args.words.now) files content c.in-Ok-Some.command given c.run_command.result (g.K.Sink.held c.args.out.now) (g.K.Sink.held c.run_command.new.out) (the_command (map string_bytes c.args.words.now) c.in-Ok-Some.field-0 c.in-Ok-Some.command c.in-Ok-Some.field-0-is c.in-Ok-Some.ensures.exact) is
    (c.run_command.ensures.leaves files content told (λ reads. given_told (subst ReadsInput (sym ((the_command (map string_bytes c.args.words.now) c.in-Ok-Some.field-0 c.in-Ok-Some.command c.in-Ok-Some.field-0-is c.in-Ok-Some.ensures.exact).1 given is)) reads)))

pub returns-clause-usage_text : goal.returns-clause-usage_text
returns-clause-usage_text g c other = absurd (other c.in-Ok-Some.command (the_command (map string_bytes c.args.words.now) c.in-Ok-Some.field-0 c.in-Ok-Some.command c.in-Ok-Some.field-0-is c.in-Ok-Some.ensures.exact).0)

pub returns-clause-nothing_written : goal.returns-clause-nothing_written
returns-clause-nothing_written g c stopped =
    nothing_added (map string_bytes c.args.words.now) c.in-Ok-Some.command c.run_command.result _ _ (the_command (map string_bytes c.args.words.now) c.in-Ok-Some.field-0 c.in-Ok-Some.command c.in-Ok-Some.field-0-is c.in-Ok-Some.ensures.exact).0 c.run_command.ensures.wrote.unwritten stopped

pub returns-clause-usage : goal.returns-clause-usage
returns-clause-usage g c is = absurd (not_usage c.in-Ok-Some.command c.run_command.result c.run_command.ensures.wrote.ends is)

pub returns-clause-no_command : goal.returns-clause-no_command
returns-clause-no_command g c other = absurd (other c.in-Ok-Some.command (the_command (map string_bytes c.args.words.now) c.in-Ok-Some.field-0 c.in-Ok-Some.command c.in-Ok-Some.field-0-is c.in-Ok-Some.ensures.exact).0)

pub returns-clause-of_command : goal.returns-clause-of_command
returns-clause-of_command g c given is = subst (λ z. EndsWith z c.run_command.result) (sym ((the_command (map string_bytes c.args.words.now) c.in-Ok-Some.field-0 c.in-Ok-Some.command c.in-Ok-Some.field-0-is c.in-Ok-Some.ensures.exact).1 given is)) c.run_command.ensures.wrote.ends

pub returns-clause-read_fault : goal.returns-clause-read_fault
returns-clause-read_fault g c failed = record { command = c.in-Ok-Some.command; is = (the_command (map string_bytes c.args.words.now) c.in-Ok-Some.field-0 c.in-Ok-Some.command c.in-Ok-Some.field-0-is c.in-Ok-Some.ensures.exact).0; failed = c.run_command.ensures.read_fault failed }

pub returns-clause-read_wins : goal.returns-clause-read_wins
returns-clause-read_wins g c name rose = wins rose
  where
    wins : (g.H.Shelf.faults c.args.shelf.now name < g.H.Shelf.faults c.run_command.new.shelf name) ⊎ (g.S.Source.faults c.args.input.now < g.S.Source.faults c.run_command.new.input) → c.run_command.result ≡ statuses.ReadFault
    wins (inl rose) = read_won c.run_command.result _ _ (c.run_command.ensures.shelf_quiet name) rose
    wins (inr rose) = read_won c.run_command.result _ _ c.run_command.ensures.input_quiet rose

pub returns-clause-out_quiet : goal.returns-clause-out_quiet
returns-clause-out_quiet g c differs = c.run_command.ensures.wrote.quiet differs

pub returns-clause-unread : goal.returns-clause-unread
returns-clause-unread g c ended = same ended
  where
    same : (c.run_command.result ≡ statuses.Usage) ⊎ IsRefusedFile c.run_command.result → g.S.Source.left c.run_command.new.input ≡ g.S.Source.left c.args.input.now
    same (inl is) = absurd (not_usage c.in-Ok-Some.command c.run_command.result c.run_command.ensures.wrote.ends is)
    same (inr bad) = c.run_command.ensures.unread bad

pub returns-clause-files_alone : goal.returns-clause-files_alone
returns-clause-files_alone g c none = c.run_command.ensures.files_alone (none c.in-Ok-Some.command (the_command (map string_bytes c.args.words.now) c.in-Ok-Some.field-0 c.in-Ok-Some.command c.in-Ok-Some.field-0-is c.in-Ok-Some.ensures.exact).0)

pub returns-clause-all_read : goal.returns-clause-all_read
returns-clause-all_read g c given content is reads done told = c.run_command.ensures.all_read content (subst ReadsInput ((the_command (map string_bytes c.args.words.now) c.in-Ok-Some.field-0 c.in-Ok-Some.command c.in-Ok-Some.field-0-is c.in-Ok-Some.ensures.exact).1 given is) reads) done told
