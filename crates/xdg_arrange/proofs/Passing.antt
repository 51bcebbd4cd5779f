-- What was written of arrangements, whichever outcome they have.
use Rattle.std.proofs.Common.{◌≡◌, ◌∙◌, ℕ, ◌<◌, ◌+◌, List, [], ◌∷◌, ◌++◌, length, refl, sym, ap, subst, arith, append_assoc, length-append}
use Rattle.std.specs.Prelude.{Option, codes}
use Rattle.xdg_arrange.specs.Found.{Adds, Finds, IsOneFind, arrangement_line, led_blocks}
use Rattle.xdg_arrange.specs.Lists.{Listed}
use Rattle.xdg_arrange.specs.Texts.{AreArranged, Arranges, FirstArranged, Follows, with_printed}
use Rattle.xdg_arrange.proofs.Fronting.{IsSaid}
use Rattle.xdg_build.specs.Compiled.{compiled}
use Rattle.xdg_build.specs.Solutions.{KeepsSolutions}
use Rattle.xdg_build.specs.Grammars.{Grammar}
use Rattle.xdg_io.specs.Held.{Appends, AppendsFront}
use Rattle.xdg_io.proofs.Written.{appends_both, front_of_first, front_of_second}
use Rattle.xdg_linear.specs.Ranks.{words_at}
use Rattle.xdg_facts.specs.declared.Ending.{Ending}
use Rattle.xdg_facts.specs.declared.Ending.TheVariants as endings
use Rattle.xdg_inputs.specs.Runs.{Ends}
use Rattle.xdg_inputs.specs.declared.status.Status.{Status}
use Rattle.xdg_problem.specs.declared.analysis.Analysis.{Analysis}
use Rattle.xdg_problem.specs.declared.parts.SentenceWord.{SentenceWord}
use Rattle.xdg_facts.proofs.Fronts.{front_said}

-- What was added is the front of each outcome's text, and what is left of it is an outcome of the second kind.
pub record Passed (Whole Left : Status → List ℕ → Type 0) (old now : Option (List ℕ)) : Type 0 where
  pub done : List ℕ
  pub appends : Appends old now done
  pub whole : (status : Status) (later : List ℕ) → Left status later → Whole status (done ++ later)
  pub left : (status : Status) (text : List ℕ) → Whole status text → (later : List ℕ) × Left status later × (text ≡ done ++ later)

-- ---- no text is empty

later_said : (listed : Listed) (budget : ℕ) (more : List (List ℕ)) (status : Status) → ((n : ℕ) (text : List ℕ) → Arranges budget listed n more status text → 0 < length text) → (ending : Ending) (n : ℕ) (later : List ℕ) → Follows ending n (Arranges budget listed n more) status later → 0 < length later
later_said listed budget more status said endings.Complete n later f = said n later f
later_said listed budget more status said endings.First n later f = absurd f
later_said listed budget more status said endings.Spent n later f = front_said later (codes "spent") _ f.1 (omega arith)

pub arranges_said : (budget : ℕ) (listed : Listed) (all : List (List ℕ)) (number : ℕ) → IsSaid (Arranges budget listed number all)
arranges_said budget listed [] number status text o = front_said text (codes "complete") _ o.1 (omega arith)
arranges_said budget listed (ranks ∷ more) number status text o =
    let some : 0 < length o.later = later_said listed budget more status (λ n later a. arranges_said budget listed more n status later a) o.ending (with_printed number o.analyses) o.later o.follows in
    let own : List ℕ = led_blocks (arrangement_line (number + 1) (words_at listed.words ranks)) (compiled listed.grammar (words_at listed.words ranks)) o.analyses in
    let long = length-append own o.later in
    subst (λ z. 0 < length z) (sym o.text_is) (omega (arith, some, long))

pub arranged_said : (budget : ℕ) (listed : Listed) → IsSaid (AreArranged budget listed)
arranged_said budget listed status text w = arranges_said budget listed w.all 0 status text w.arranges

-- where no more is added, a front was, and not all
pub passed_front : (Whole : Status → List ℕ → Type 0) (budget : ℕ) (listed : Listed) (number : ℕ) (all : List (List ℕ)) (old now : Option (List ℕ)) → Passed Whole (Arranges budget listed number all) old now
    → (status : Status) (text : List ℕ) → Whole status text → AppendsFront old now text
passed_front Whole budget listed number all old now p status text w =
    let r = p.left status text w in
    record { front = p.done; rest = r.0; parts = sym r.2; proper = arranges_said budget listed all number status r.0 r.1; appends = p.appends }

-- ---- one arrangement

module _ (Whole : Status → List ℕ → Type 0) (budget : ℕ) (g : Grammar) (words : List SentenceWord) (number : ℕ) (Next : ℕ → Status → List ℕ → Type 0) (old now : Option (List ℕ))
    (p : Passed Whole (FirstArranged budget g words number Next) old now) where
  -- it is searched, and what is found is written
  module _ (ending : Ending) (count : ℕ) (new : Option (List ℕ)) (keeps : KeepsSolutions g words (compiled g words)) (one : IsOneFind budget (compiled g words)) (added : Adds ending budget (compiled g words) (arrangement_line (number + 1) words) count now new) where
    abbrev After : Status → List ℕ → Type 0
    After = Follows ending (with_printed number added.analyses) (Next (with_printed number added.analyses))

    same_follows : (other : Ending) (analyses : List Analysis) (status : Status) (later : List ℕ) → (ending ≡ other) × (added.analyses ≡ analyses) → Follows other (with_printed number analyses) (Next (with_printed number analyses)) status later → After status later
    same_follows other analyses status later same f =
        subst (λ e. Follows e (with_printed number added.analyses) (Next (with_printed number added.analyses)) status later) (sym same.0)
        (subst (λ a. Follows other (with_printed number a) (Next (with_printed number a)) status later) (sym same.1) f)

    pub passed_found : Passed Whole After old new
    passed_found =
        let own : List ℕ = led_blocks (arrangement_line (number + 1) words) (compiled g words) added.analyses in
        record {
          done = p.done ++ own;
          appends = appends_both p.appends added.appends;
          whole = λ status later is.
              subst (Whole status) (sym (append_assoc p.done own later))
              (p.whole status (own ++ later) (record { keeps = keeps; ending = ending; analyses = added.analyses; finds = added.finds; later = later; follows = is; text_is = refl }));
          left = λ status text w.
              let r = p.left status text w in
              let f = r.1 in
              let same = one ending f.ending added.analyses f.analyses added.finds f.finds in (
                f.later,
                same_follows f.ending f.analyses status f.later same f.follows,
                r.2 ∙ ap (λ z. p.done ++ z) (f.text_is ∙ ap (λ a. led_blocks (arrangement_line (number + 1) words) (compiled g words) a ++ f.later) (sym same.1)) ∙ sym (append_assoc p.done own f.later),
              );
        }

  -- the sink failed while it was searched
  pub found_failed : (new : Option (List ℕ)) → ((ending : Ending) (analyses : List Analysis) → Finds ending budget (compiled g words) analyses → AppendsFront now new (led_blocks (arrangement_line (number + 1) words) (compiled g words) analyses))
      → (status : Status) (text : List ℕ) → Whole status text → AppendsFront old new text
  found_failed new failed status text w =
      let r = p.left status text w in
      let f = r.1 in
      subst (AppendsFront old new) (sym (r.2 ∙ ap (λ z. p.done ++ z) f.text_is)) (front_of_second p.appends (front_of_first f.later (failed f.ending f.analyses f.finds)))

-- ---- the last line

module _ (Whole : Status → List ℕ → Type 0) (last : Status) (line : List ℕ) (old now new : Option (List ℕ)) (p : Passed Whole (λ status later. (status ≡ last) × (later ≡ line)) old now) where
  pub last_written : Appends now new line → Ends Whole last old new
  last_written added = record {
    text = p.done ++ line;
    outcome = p.whole last line (refl, refl);
    only = λ status text w. let r = p.left status text w in (sym r.1.0, ap (λ z. p.done ++ z) (sym r.1.1) ∙ sym r.2);
    appends = appends_both p.appends added;
  }

  pub last_failed : AppendsFront now new line → (status : Status) (text : List ℕ) → Whole status text → AppendsFront old new text
  last_failed failed status text w = let r = p.left status text w in subst (AppendsFront old new) (sym (r.2 ∙ ap (λ z. p.done ++ z) r.1.1)) (front_of_second p.appends failed)
