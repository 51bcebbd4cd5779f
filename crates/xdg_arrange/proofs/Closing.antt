-- How a run of arrangements ends: behind the last one, at one whose budget is spent, and where a device or memory fails.
use Rattle.std.proofs.Common.{◌≡◌, ◌∙◌, ℕ, ◌+◌, ◌==◌, false, List, [], ◌∷◌, sym, subst}
use Rattle.std.specs.Prelude.{◌≢◌, Option, cond}
use Rattle.xdg_arrange.specs.Found.{Adds, Finds, IsOneFind, arrangement_line, led_blocks}
use Rattle.xdg_arrange.specs.Lists.{Listed}
use Rattle.xdg_arrange.specs.Texts.{AreArranged, Arranges, with_printed}
use Rattle.xdg_arrange.proofs.Going.{Goes, Reaches, goes_no_more, printed_is}
use Rattle.xdg_arrange.specs.declared.searching.Searched.TheVariants as searched
use Rattle.xdg_arrange.proofs.Passing.{Passed, found_failed, last_failed, last_written, passed_found, passed_front}
use Rattle.xdg_build.specs.Compiled.{compiled}
use Rattle.xdg_build.specs.Solutions.{KeepsSolutions}
use Rattle.xdg_io.specs.Held.{Appends, AppendsFront}
use Rattle.xdg_linear.specs.Arranged.{Advances, Arranged}
use Rattle.xdg_linear.specs.Ranks.{words_at}
use Rattle.xdg_facts.specs.declared.Ending.{Ending}
use Rattle.xdg_facts.specs.declared.Ending.TheVariants as endings
use Rattle.xdg_inputs.specs.Runs.{LeavesFront}
use Rattle.xdg_inputs.specs.declared.status.Status.{Status}
use Rattle.xdg_inputs.specs.declared.status.Status.TheVariants as statuses
use Rattle.xdg_problem.specs.declared.analysis.Analysis.{Analysis}
use Rattle.xdg_problem.specs.declared.parts.Parts.{Parts}
use Rattle.xdg_problem.specs.declared.parts.SentenceWord.{SentenceWord}
use Rattle.xdg_text.specs.Lines.{complete_line, spent_line}

-- ---- a search that ended neither wanted memory nor failed

pub whole_searched : (count : ℕ) → (searched.Whole count ≢ searched.OutOfMemory) × (searched.Whole count ≢ searched.Failed)
whole_searched count = ((λ e. (let bad : searched.Whole count ≡ searched.OutOfMemory = e in cc)), (λ e. (let bad : searched.Whole count ≡ searched.Failed = e in cc)))

pub spent_searched : (count : ℕ) → (searched.Spent count ≢ searched.OutOfMemory) × (searched.Spent count ≢ searched.Failed)
spent_searched count = ((λ e. (let bad : searched.Spent count ≡ searched.OutOfMemory = e in cc)), (λ e. (let bad : searched.Spent count ≡ searched.Failed = e in cc)))

-- ---- no arrangement is left

module _ (budget : ℕ) (listed : Listed) (s t : Arranged) (printed turn : ℕ) (old now new : Option (List ℕ)) (g : Goes budget listed s printed turn old now) (step : Advances s false t) where
  all_passed : Passed (AreArranged budget listed) (Arranges budget listed printed []) old now
  all_passed = goes_no_more budget listed s t printed turn old now g step

  pub leaves_done : Appends now new (complete_line printed) → LeavesFront (AreArranged budget listed) statuses.Done old new
  leaves_done added = last_written (AreArranged budget listed) statuses.Done (complete_line printed) old now new all_passed added

  pub fails_done : AppendsFront now new (complete_line printed) → LeavesFront (AreArranged budget listed) statuses.WriteFault old new
  fails_done failed = last_failed (AreArranged budget listed) statuses.Done (complete_line printed) old now new all_passed failed

-- ---- memory is wanting

-- before an arrangement is looked for
pub leaves_going : (budget : ℕ) (listed : Listed) (s : Arranged) (printed turn : ℕ) (old now : Option (List ℕ)) → Goes budget listed s printed turn old now → LeavesFront (AreArranged budget listed) statuses.OutOfMemory old now
leaves_going budget listed s printed turn old now g = passed_front (AreArranged budget listed) budget listed printed g.rest old now g.going.written

-- ---- an arrangement is present

module _ (budget : ℕ) (listed : Listed) (s : Arranged) (printed turn : ℕ) (ranks : List ℕ) (old now : Option (List ℕ)) (r : Reaches budget listed s printed turn ranks old now) where
  abbrev Words : List SentenceWord
  Words = words_at listed.words ranks

  abbrev Problem : Parts
  Problem = compiled listed.grammar Words

  -- memory is wanting while it is searched
  pub leaves_reached : (new : Option (List ℕ)) → new ≡ now → LeavesFront (AreArranged budget listed) statuses.OutOfMemory old new
  leaves_reached new same = subst (λ z. LeavesFront (AreArranged budget listed) statuses.OutOfMemory old z) (sym same) (passed_front (AreArranged budget listed) budget listed printed (ranks ∷ r.rest) old now r.written)

  -- the sink fails while it is printed
  pub leaves_failed : (new : Option (List ℕ)) → ((ending : Ending) (analyses : List Analysis) → Finds ending budget Problem analyses → AppendsFront now new (led_blocks (arrangement_line (printed + 1) Words) Problem analyses))
      → LeavesFront (AreArranged budget listed) statuses.WriteFault old new
  leaves_failed new failed = found_failed (AreArranged budget listed) budget listed.grammar Words printed (λ n. Arranges budget listed n r.rest) old now r.written new failed

  -- its search is spent
  module _ (count next : ℕ) (mid new : Option (List ℕ)) (keeps : KeepsSolutions listed.grammar Words Problem) (one : IsOneFind budget Problem) (is : next ≡ printed + cond (count == 0) 0 1)
      (added : Adds endings.Spent budget Problem (arrangement_line (printed + 1) Words) count now mid) where
    abbrev Last : Status → List ℕ → Type 0
    Last = λ status later. (status ≡ statuses.Spent) × (later ≡ spent_line (with_printed printed added.analyses))

    spent_passed : Passed (AreArranged budget listed) Last old mid
    spent_passed = passed_found (AreArranged budget listed) budget listed.grammar Words printed (λ n. Arranges budget listed n r.rest) old now r.written endings.Spent count mid keeps one added

    number_is : next ≡ with_printed printed added.analyses
    number_is = is ∙ printed_is printed added.analyses count added.count_is

    pub leaves_spent : Appends mid new (spent_line next) → LeavesFront (AreArranged budget listed) statuses.Spent old new
    leaves_spent line = last_written (AreArranged budget listed) statuses.Spent (spent_line (with_printed printed added.analyses)) old mid new spent_passed (subst (λ n. Appends mid new (spent_line n)) number_is line)

    pub fails_spent : AppendsFront mid new (spent_line next) → LeavesFront (AreArranged budget listed) statuses.WriteFault old new
    fails_spent line = last_failed (AreArranged budget listed) statuses.Spent (spent_line (with_printed printed added.analyses)) old mid new spent_passed (subst (λ n. AppendsFront mid new (spent_line n)) number_is line)
