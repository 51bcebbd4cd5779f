-- What a search leaves.
use Rattle.std.proofs.Common.{◌≡◌, ◌∙◌, ℕ, List, ap, inl, inr, refl, subst, sym}
use Rattle.std.specs.Prelude.{◌⊎◌, Option}
use Rattle.xdg_split.specs.Printed.{IsOnePrint}
use Rattle.xdg_split.specs.Written.{WritesWhole}
use Rattle.xdg_text.specs.declared.form.Form.{Form}
use Rattle.xdg_io.specs.Rose.{Rose}
use Rattle.xdg_facts.specs.declared.Ending.{Ending}
use Rattle.xdg_facts.specs.declared.Ending.TheVariants as endings
use Rattle.xdg_problem.specs.declared.parts.Parts.{Parts}
use Rattle.xdg_searches.specs.Laws.{IsOneBranched}
use Rattle.xdg_searches.specs.Written.{WritesAll}
use Rattle.xdg_searches.specs.Outcomes.{Searched, SearchedBranches, status_of}
use Rattle.xdg_inputs.specs.Runs.{Ends, Leaves}
use Rattle.xdg_inputs.specs.declared.status.Status.{Status}
use Rattle.xdg_inputs.specs.declared.status.Status.TheVariants as statuses

-- ---- the status of what ended

-- no write failed
pub no_fault : (status : Status) (old new : ℕ) → (status ≡ statuses.Done) ⊎ (status ≡ statuses.Spent) → status ≡ statuses.WriteFault → Rose old new
no_fault status old new (inl done) e = absurd (let bad : statuses.Done ≡ statuses.WriteFault = sym done ∙ e in cc)
no_fault status old new (inr spent) e = absurd (let bad : statuses.Spent ≡ statuses.WriteFault = sym spent ∙ e in cc)

pub ends_so : (status : Status) → (status ≡ statuses.Done) ⊎ (status ≡ statuses.Spent) → (status ≡ statuses.Done) ⊎ ((status ≡ statuses.Spent) ⊎ ((status ≡ statuses.WriteFault) ⊎ (status ≡ statuses.OutOfMemory)))
ends_so status (inl done) = inl done
ends_so status (inr spent) = inr (inl spent)

pub ended_leaves : (O : Status → List ℕ → Type 0) (ending : Ending) (status : Status) (old new : Option (List ℕ)) → status ≡ status_of ending → Ends O (status_of ending) old new → Leaves O status old new
ended_leaves O endings.Complete status old new is ends = subst (λ z. Leaves O z old new) (sym is) ends
ended_leaves O endings.First status old new is ends = subst (λ z. Leaves O z old new) (sym is) ends
ended_leaves O endings.Spent status old new is ends = subst (λ z. Leaves O z old new) (sym is) ends

-- ---- what a search leaves that ended

pub searched_ends : (form : Form) (budget : ℕ) (wanted : Option ℕ) (parts : Parts) (start : List ℕ) (ending : Ending) (status : Status) (old new : Option (List ℕ)) → status ≡ status_of ending
    → WritesWhole ending form budget wanted parts start old new → IsOnePrint form budget wanted parts start → Leaves (Searched form budget wanted parts start) status old new
searched_ends form budget wanted parts start ending status old new is w one =
    ended_leaves (Searched form budget wanted parts start) ending status old new is (record {
      text = w.text;
      outcome = record { ending = ending; prints = w.prints; status_is = refl };
      only = λ other more o. let same = one ending o.ending w.text more w.prints o.prints in (ap status_of same.0 ∙ sym o.status_is, same.1);
      appends = w.appends;
    })

-- by branches
pub branches_end : (form : Form) (budget : ℕ) (wanted : Option ℕ) (parts : Parts) (ending : Ending) (status : Status) (old new : Option (List ℕ)) → status ≡ status_of ending
    → WritesAll ending form budget wanted parts old new → IsOneBranched form budget wanted parts → Leaves (SearchedBranches form budget wanted parts) status old new
branches_end form budget wanted parts ending status old new is w one =
    ended_leaves (SearchedBranches form budget wanted parts) ending status old new is (record {
      text = w.text;
      outcome = record { ending = ending; prints = w.prints; status_is = refl };
      only = λ other more o. let same = one ending o.ending w.text more w.prints o.prints in (ap status_of same.0 ∙ sym o.status_is, same.1);
      appends = w.appends;
    })
