-- What a drill leaves, from what its steps left.
use Rattle.std.proofs.Common.{◌≡◌, ◌∙◌, ◌≤◌, inl, inr, ℕ, List, [], length, refl, sym, ap, subst, Ok, Err, Some}
use Rattle.std.specs.Prelude.{◌≢◌, Option}
use Rattle.xdg_ast.specs.declared.grammar.Grammar.{Grammar}
use Rattle.xdg_ast.specs.Derives.{Reads}
use Rattle.xdg_base.specs.declared.faults.Fault.{Fault}
use Rattle.xdg_base.specs.declared.faults.Stop.{Stop}
use Rattle.xdg_base.specs.declared.faults.Stop.TheVariants as stops
use Rattle.xdg_searches.specs.Counted.{AreCounts, IsOneCount}
use Rattle.xdg_searches.specs.declared.counting.Counts.{Counts}
use Rattle.xdg_searches.specs.Generated.{grammar_text}
use Rattle.xdg_inputs.specs.Meanings.{Meaning}
use Rattle.xdg_inputs.specs.GrammarTexts.{TellsTree}
use Rattle.xdg_io.specs.Held.{Appends, AppendsFront}
use Rattle.xdg_io.proofs.Counts.{still}
use Rattle.xdg_problem.specs.declared.parts.Parts.{Parts}
use Rattle.xdg_inputs.specs.Outcomes.{MeaningThen}
use Rattle.xdg_searches.specs.Outcomes.{DrillOf, DrillSentence, Drilled, drill_line, generated, status_of}
use Rattle.xdg_inputs.specs.Refusals.{Refuses, Stops, refusal_of}
use Rattle.xdg_inputs.specs.Runs.{Leaves, Wrote}
use Rattle.xdg_command.specs.Commands.{default_budget}
use Rattle.xdg_searches.proofs.SearchLeaves.{ended_leaves}
use Rattle.xdg_searches.specs.Runs.{DrillEnds}
use Rattle.xdg_inputs.specs.GrammarFiles.{HasBadText, HasTree, ReadText, grammar_limit}
use Rattle.xdg_inputs.specs.declared.refusals.Refusal.{Refusal}
use Rattle.xdg_inputs.specs.declared.refusals.Refusal.TheVariants as refusals
use Rattle.xdg_inputs.specs.declared.status.Status.{Status}
use Rattle.xdg_inputs.specs.declared.status.Status.TheVariants as statuses
use Rattle.xdg_inputs.proofs.Leaving.{accepted_leaves, stopped_leaves}
use Rattle.xdg_inputs.proofs.Trees.{Only, tree_accepted, tree_stops}
use Rattle.xdg_inputs.proofs.Writing.{IsBad, refused_wrote}

-- ---- counts that are written

module _ (number : ℕ) (m : Meaning) (parts : Parts) (words entries : ℕ) (counts : Counts) (words_are : words ≡ length parts.words) (entries_are : entries ≡ length m.entries)
    (are : AreCounts default_budget parts counts) (one : IsOneCount default_budget parts) where
  line_is : drill_line number words entries counts ≡ drill_line number (length parts.words) (length m.entries) counts
  line_is = ap (λ w. drill_line number w entries counts) words_are ∙ ap (λ e. drill_line number (length parts.words) e counts) entries_are

  same_line : (status : Status) (text : List ℕ) → Drilled number m parts status text → (status_of counts.ending ≡ status) × (drill_line number words entries counts ≡ text)
  same_line status text d =
      let same : counts ≡ d.counts = one counts d.counts are d.are in
      (ap (λ c. status_of c.ending) same ∙ sym d.status_is, line_is ∙ ap (drill_line number (length parts.words) (length m.entries)) same ∙ sym d.text_is)

  pub drilled_ends : (status : Status) (old new : Option (List ℕ)) → status ≡ status_of counts.ending → Appends old new (drill_line number words entries counts) → Leaves (Drilled number m parts) status old new
  drilled_ends status old new is added =
      ended_leaves (Drilled number m parts) counts.ending status old new is (record {
        text = drill_line number words entries counts;
        outcome = record { counts = counts; are = are; status_is = refl; text_is = line_is };
        only = λ other more d. same_line other more d;
        appends = added;
      })

  pub drilled_front : (old new : Option (List ℕ)) → AppendsFront old new (drill_line number words entries counts) → (status : Status) (text : List ℕ) → Drilled number m parts status text → AppendsFront old new text
  drilled_front old new front status text d = subst (AppendsFront old new) (same_line status text d).1 front

-- ---- the generated grammar text

module _ (number : ℕ) (text : List ℕ) (is : text ≡ grammar_text number) (within : length text ≤ grammar_limit) where
  file : generated number [] ≡ Some text
  file = ap Some (sym is)

  -- it is read, and leaves what comes behind it
  pub drill_read : (tree : Grammar) (result : Status) (old new : Option (List ℕ)) → Reads text tree → Only text (Ok tree) → Leaves (MeaningThen (record { text = text; tree = tree }) (DrillSentence number)) result old new → Leaves (DrillOf number) result old new
  drill_read tree result old new reads only leaves =
      accepted_leaves ReadText statuses.BadText (HasBadText (generated number) []) (HasTree (generated number) []) (λ read. MeaningThen read (DrillSentence number)) (record { text = text; tree = tree }) result old new
      (tree_accepted (generated number) [] text tree file within reads only) leaves

  -- it isn't
  pub drill_unread : (stop : Stop) (refusal : Refusal) (result : Status) (old new : Option (List ℕ)) → TellsTree text (Err stop) → Only text (Err stop) → refusal ≡ refusal_of text stop → Refuses result statuses.BadText refusal old new → Leaves (DrillOf number) result old new
  drill_unread stop refusal result old new tells only r written =
      stopped_leaves ReadText statuses.BadText (HasBadText (generated number) []) (HasTree (generated number) []) (λ read. MeaningThen read (DrillSentence number)) (Unit {0}) 0 0 result refusal old new tt (λ e. e)
      (subst (Stops (Unit {0}) 0 0 ReadText (HasBadText (generated number) []) (HasTree (generated number) [])) (sym r) (tree_stops (Unit {0}) 0 0 (generated number) [] text stop (λ told. file) within tells only)) written

-- ---- what is refused reads no device

unread_stop : (A : Type 0) (Refused : List ℕ → Fault → Type 0) (Has : A → Type 0) (refusal : Refusal) → Stops (Unit {0}) 0 0 A Refused Has refusal → refusal ≡ refusals.Read → ⊥
unread_stop A Refused Has refusal s e = still (subst (Stops (Unit {0}) 0 0 A Refused Has) e s)

unread_fault : (text : List ℕ) (stop : Stop) → refusals.Read ≡ refusal_of text stop → ⊥
unread_fault text (stops.Fault f) wrong = cc
unread_fault text stops.OutOfMemory wrong = cc

no_read : (bad result : Status) (refusal : Refusal) (old new : Option (List ℕ)) → IsBad bad → Refuses result bad refusal old new → (refusal ≡ refusals.Read → ⊥) → result ≡ statuses.ReadFault → ⊥
no_read bad result refusals.Read old new is r unread e = unread refl
no_read bad result refusals.Memory old new is r unread e = let wrong : statuses.OutOfMemory ≡ statuses.ReadFault = sym r.0 ∙ e in cc
no_read bad result (refusals.Text f p) old new is (inl r) unread e = subst IsBad (sym r.0 ∙ e) is
no_read bad result (refusals.Text f p) old new is (inr r) unread e = let wrong : statuses.WriteFault ≡ statuses.ReadFault = sym r.0 ∙ e in cc

-- a drill ends so, or by a failed read
abbrev pub EndsOrReads : Status → Type 0
EndsOrReads statuses.ReadFault = Unit {0}
EndsOrReads status = DrillEnds status

-- and where no read failed, as a drill
without_read : (status : Status) → EndsOrReads status → (status ≡ statuses.ReadFault → ⊥) → DrillEnds status
without_read statuses.ReadFault ends unread = unread refl
without_read status ends unread = ends

refused_drill : (bad result : Status) (refusal : Refusal) (count_old count_new : ℕ) (old new : Option (List ℕ)) → IsBad bad → EndsOrReads bad → (refusal ≡ refusals.Read → ⊥) → Refuses result bad refusal old new
    → (result ≢ statuses.WriteFault → count_new ≡ count_old) → Wrote DrillEnds result count_old count_new old new
refused_drill bad result refusal count_old count_new old new is can unread written quiet =
    let wrote = refused_wrote EndsOrReads bad result refusal count_old count_new old new is can tt tt tt written quiet in
    record { ends = without_read result wrote.ends (no_read bad result refusal old new is written unread); unwritten = wrote.unwritten; quiet = wrote.quiet }

-- a text is refused
pub stopped_wrote : (bad result : Status) (text : List ℕ) (stop : Stop) (refusal : Refusal) (count_old count_new : ℕ) (old new : Option (List ℕ)) → IsBad bad → EndsOrReads bad → refusal ≡ refusal_of text stop → Refuses result bad refusal old new
    → (result ≢ statuses.WriteFault → count_new ≡ count_old) → Wrote DrillEnds result count_old count_new old new
stopped_wrote bad result text stop refusal count_old count_new old new is can r written quiet = refused_drill bad result refusal count_old count_new old new is can (λ e. unread_fault text stop (sym e ∙ r)) written quiet

-- a step refuses without a device
pub step_wrote : (A : Type 0) (Refused : List ℕ → Fault → Type 0) (Has : A → Type 0) (bad result : Status) (refusal : Refusal) (count_old count_new : ℕ) (old new : Option (List ℕ)) → IsBad bad → EndsOrReads bad → Stops (Unit {0}) 0 0 A Refused Has refusal
    → Refuses result bad refusal old new → (result ≢ statuses.WriteFault → count_new ≡ count_old) → Wrote DrillEnds result count_old count_new old new
step_wrote A Refused Has bad result refusal count_old count_new old new is can stopped written quiet = refused_drill bad result refusal count_old count_new old new is can (unread_stop A Refused Has refusal stopped) written quiet
