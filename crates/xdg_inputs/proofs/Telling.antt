-- The rules of a text: said, or refused.
use Rattle.std.proofs.Common.{◌≡◌, ◌∙◌, ℕ, List, Ok, Err, refl, ap, subst}
use Rattle.std.specs.Prelude.{Result}
use Rattle.xdg_base.specs.declared.faults.Fault.{Fault}
use Rattle.xdg_base.specs.declared.faults.Stop.{Stop}
use Rattle.xdg_base.specs.declared.faults.Stop.TheVariants as stops
use Rattle.xdg_base.specs.Told.{Gives}
use Rattle.xdg_formula.specs.Answers as checked
use Rattle.xdg_formula.specs.declared.tree.Rules.{Rules}
use Rattle.xdg_formula.specs.Texts as texts
use Rattle.xdg_types.specs.Table.{Table}
use Rattle.xdg_inputs.specs.RulesTexts.{IsAnswer, Tells, unreadable, wrong}

-- what the reader says of its answer
abbrev pub OnlyRead : List ℕ → Result Rules Stop → Type 0
OnlyRead text result = (answer : Result Rules Fault) → texts.IsAnswer text answer → Gives answer result

-- and the check
abbrev pub OnlyChecked : Table → Rules → Result (Unit {0}) Stop → Type 0
OnlyChecked table rules result = (answer : Result (Unit {0}) Fault) → checked.IsAnswer table rules.rules answer → Gives answer result

module _ (table : Table) (text : List ℕ) where
  -- an answer by what is read, and by what the check says of that
  abbrev ByCheck : Rules → Result (Unit {0}) Fault → Result Rules Fault
  ByCheck rules (Ok right) = Ok rules
  ByCheck rules (Err f) = Err f

  abbrev ByText : Result Rules Fault → Result Rules Fault → Type 0
  ByText (Ok rules) answer = (told : Result (Unit {0}) Fault) × checked.IsAnswer table rules.rules told × (answer ≡ ByCheck rules told)
  ByText (Err f) answer = answer ≡ Err f

  by_text : (read : Result Rules Fault) → ((r : Result Rules Fault) → texts.IsAnswer text r → r ≡ read) → (answer : Result Rules Fault) → IsAnswer table text answer → ByText read answer
  by_text read one (Ok rules) says = subst (λ r. ByText r (Ok rules)) (one (Ok rules) says.reads) (Ok tt, says.right, refl)
  by_text read one (Err f) (unreadable u) = subst (λ r. ByText r (Err f)) (one (Err f) u) refl
  by_text read one (Err f) (wrong rules reads a) = subst (λ r. ByText r (Err f)) (one (Ok rules) reads) (Err f, a, refl)

  -- ---- a text that isn't read

  pub unread_tells : (stop : Stop) → texts.Tells text (Err stop) → Tells table text (Err stop)
  unread_tells (stops.Fault f) u = unreadable u
  unread_tells stops.OutOfMemory u = tt

  pub unread_only : (stop : Stop) → OnlyRead text (Err stop) → (answer : Result Rules Fault) → IsAnswer table text answer → Gives answer (Err stop)
  unread_only (stops.Fault f) only answer is = by_text (Err f) only answer is
  unread_only stops.OutOfMemory only answer is = tt

  -- ---- a text that is read

  module _ (rules : Rules) (reads : texts.Tells text (Ok rules)) (one : OnlyRead text (Ok rules)) where
    -- with rules with which something is wrong

    pub wrong_tells : (stop : Stop) → checked.Tells table rules.rules (Err stop) → Tells table text (Err stop)
    wrong_tells (stops.Fault f) t = wrong rules reads t
    wrong_tells stops.OutOfMemory t = tt

    pub wrong_only : (stop : Stop) → OnlyChecked table rules (Err stop) → (answer : Result Rules Fault) → IsAnswer table text answer → Gives answer (Err stop)
    wrong_only (stops.Fault f) only answer is = (let told = by_text (Ok rules) one answer is in told.2 ∙ ap (ByCheck rules) (only told.0 told.1))
    wrong_only stops.OutOfMemory only answer is = tt

    -- with rules with which nothing is

    pub right_tells : checked.Tells table rules.rules (Ok tt) → Tells table text (Ok rules)
    right_tells right = record { reads = reads; right = right }

    only_right : checked.IsAnswer table rules.rules (Ok tt) → (told : Result (Unit {0}) Fault) → checked.IsAnswer table rules.rules told → ByCheck rules told ≡ Ok rules
    only_right right (Ok u) is = refl
    only_right right (Err g) is = absurd (right g is.0)

    pub right_only : checked.IsAnswer table rules.rules (Ok tt) → (answer : Result Rules Fault) → IsAnswer table text answer → Gives answer (Ok rules)
    right_only right answer is = (let told = by_text (Ok rules) one answer is in told.2 ∙ only_right right told.0 told.1)
