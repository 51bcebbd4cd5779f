-- The input of a corpus: accepted or rejected.
use Rattle.std.proofs.Common.{◌≡◌, ℕ, ◌≤◌, List, length, refl, sym, ◌∙◌, ap, arith}
use Rattle.std.specs.Prelude.{IsUtf8}
use Rattle.std.specs.Str.{IsValidUpTo}
use Rattle.xdg_base.specs.declared.faults.Cause.TheVariants as causes
use Rattle.xdg_base.specs.declared.faults.Fault.{Fault}
use Rattle.xdg_corpus.specs.Inputs.{HasText, IsBadCorpus, IsNoCorpus, corpus_limit, no_text, too_long}
use Rattle.xdg_inputs.specs.Places.{line_column}
use Rattle.xdg_inputs.specs.Refusals.{RejectsAt}
use Rattle.xdg_inputs.specs.Stages.{Accepts, Rejects}
use Rattle.xdg_facts.proofs.Texts.{one_place}
use Rattle.xdg_base.specs.Faults.{fault_reaching}

text_or_not : (input text : List ℕ) (f : Fault) → HasText input text → IsNoCorpus input f → ⊥
text_or_not input text f has (too_long long e) = let w = has.within in omega (arith, w, long)
text_or_not input text f has (no_text at within ill valid e) = ill has.utf8

one_fault : (input : List ℕ) (f h : Fault) → IsNoCorpus input f → IsNoCorpus input h → h ≡ f
one_fault input f h (too_long a e) (too_long b d) = d ∙ sym e
one_fault input f h (too_long a e) (no_text at b ill valid d) = absurd (omega (arith, a, b))
one_fault input f h (no_text at b ill valid d) (too_long a e) = absurd (omega (arith, a, b))
one_fault input f h (no_text at b ill valid e) (no_text place a ill_too valid_too d) = d ∙ ap (λ n. fault_reaching causes.BadUtf8 n 0) (one_place input place at valid_too valid) ∙ sym e

pub text_accepted : (input text : List ℕ) → length input ≤ corpus_limit → text ≡ input → IsUtf8 input → Accepts (List ℕ) (IsBadCorpus input) (HasText input) text
text_accepted input text within is utf8 =
    let has : HasText input text = record { text_is = is; within = within; utf8 = utf8 } in
    record { has = has; one = λ b h. h.text_is ∙ sym is; never = λ t f q. text_or_not input text f has q.1 }

rejected : (input : List ℕ) (f : Fault) → IsNoCorpus input f → Rejects (List ℕ) (IsBadCorpus input) (HasText input) input f
rejected input f bad = record { is = (refl, bad); one = λ t h q. (q.0, one_fault input f h bad q.1); never = λ b h. text_or_not input b f h bad }

pub text_rejected : (input : List ℕ) (at : ℕ) → length input ≤ corpus_limit → (IsUtf8 input → ⊥) → IsValidUpTo input at
    → RejectsAt (List ℕ) (IsBadCorpus input) (HasText input) (fault_reaching causes.BadUtf8 at 0) (line_column input (fault_reaching causes.BadUtf8 at 0))
text_rejected input at within ill valid = record { text = input; rejects = rejected input (fault_reaching causes.BadUtf8 at 0) (no_text at within ill valid refl); place_is = refl }
