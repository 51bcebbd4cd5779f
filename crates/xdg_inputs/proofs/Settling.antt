-- What a step makes of a text on which there is one verdict: a value, or a fault.
use Rattle.std.proofs.Common.{◌≡◌, ℕ, List, Ok, Err}
use Rattle.std.specs.Prelude.{Result}
use Rattle.xdg_base.specs.declared.faults.Fault.{Fault}
use Rattle.xdg_base.proofs.Told.{same_value, same_error, no_error, no_value}
use Rattle.xdg_inputs.specs.Stages.{Accepts, Rejects}

-- what is accepted and what is refused are verdicts on this text
pub record Judges (A : Type 0) (Refused : List ℕ → Fault → Type 0) (Has : A → Type 0) (text : List ℕ) (Verdict : Result A Fault → Type 0) : Type 0 where
  pub has : (a : A) → Verdict (Ok a) → Has a
  pub had : (a : A) → Has a → Verdict (Ok a)
  pub refuses : (f : Fault) → Verdict (Err f) → Refused text f
  pub refused : (other : List ℕ) (f : Fault) → Refused other f → (other ≡ text) × Verdict (Err f)

-- so is the step's answer
abbrev pub Settles : (A : Type 0) → (List ℕ → Fault → Type 0) → (A → Type 0) → List ℕ → Result A Fault → Type 0
Settles A Refused Has text (Ok a) = Accepts A Refused Has a
Settles A Refused Has text (Err f) = Rejects A Refused Has text f

pub settled : {A : Type 0} {Refused : List ℕ → Fault → Type 0} {Has : A → Type 0} {text : List ℕ} {Verdict : Result A Fault → Type 0} → Judges A Refused Has text Verdict
    → (verdict : Result A Fault) → Verdict verdict → ((x : Result A Fault) → Verdict x → x ≡ verdict) → Settles A Refused Has text verdict
settled judges (Ok a) is one = record { has = judges.has a is; one = λ b h. same_value b a (one (Ok b) (judges.had b h)); never = λ t f q. no_value a f (one (Err f) (judges.refused t f q).1) }
settled judges (Err f) is one = record {
  is = judges.refuses f is;
  one = λ t g q. let h = judges.refused t g q in (h.0, same_error g f (one (Err g) h.1));
  never = λ b h. no_error b f (one (Ok b) (judges.had b h));
}
