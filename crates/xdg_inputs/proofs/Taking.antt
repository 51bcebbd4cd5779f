-- An input, whose words are refused or taken, and what a source gives of it.
use Rattle.std.proofs.Common.{◌≡◌, ℕ, ◌+◌, ◌<◌, ◌≤◌, Bool, List, [], length, Some, Ok, Err, refl, sym, ◌∙◌, ap, subst, arith}
use Rattle.std.specs.Prelude.{◌≢◌, Option, Result, IsUtf8, IfOk, IfErr, MatchResult}
use Rattle.std.specs.Str.{IsValidUpTo}
use Rattle.xdg_facts.proofs.Texts.{one_place}
use Rattle.xdg_base.specs.declared.faults.Cause.TheVariants as causes
use Rattle.xdg_base.specs.declared.faults.Fault.{Fault}
use Rattle.xdg_io.specs.Left.{TakesAll}
use Rattle.xdg_io.specs.Rose.{Rose}
use Rattle.xdg_io.proofs.Counts.{still}
use Rattle.xdg_build.specs.Grammars.{Grammar}
use Rattle.xdg_base.specs.Faults.{fault_reaching}
use Rattle.xdg_inputs.specs.Answers.{grammar_in, meaning_of}
use Rattle.xdg_inputs.specs.RightLexicons.{HasRightLexicon}
use Rattle.xdg_inputs.specs.declared.expanding.Expanded.{Expanded}
use Rattle.xdg_inputs.specs.Places.{line_column}
use Rattle.xdg_inputs.specs.Refusals.{RejectsAt, Stops}
use Rattle.xdg_inputs.specs.Sentences.{Refusing, IsNoInput, too_long, no_text, no_words, IsInput, IsBadInput, sentence_limit}
use Rattle.xdg_inputs.specs.Stages.{Rejects}
use Rattle.xdg_inputs.specs.declared.refusals.Refusal.{Refusal}
use Rattle.xdg_inputs.specs.declared.refusals.Refusal.TheVariants as refusals
use Rattle.xdg_inputs.proofs.Trees.{first_byte}
use Rattle.xdg_inputs.proofs.Wording.{grammar_is}

-- ---- one answer

module _ (why : Refusing) (g : Grammar) (segment : Bool) (input : List ℕ) where
  pub taken_or_not : (f : Fault) → IsInput why g segment input → IsNoInput why g segment input f → ⊥
  taken_or_not f is (too_long long e) = let w = is.within in omega (arith, w, long)
  taken_or_not f is (no_text at within ill valid e) = ill is.text
  taken_or_not f is (no_words within text e) = let r = sym is.known ∙ e in cc

  one_fault : (f h : Fault) → IsNoInput why g segment input f → IsNoInput why g segment input h → f ≡ h
  one_fault f h (too_long a e) (too_long b d) = e ∙ sym d
  one_fault f h (too_long a e) (no_text at b ill valid d) = absurd (omega (arith, a, b))
  one_fault f h (too_long a e) (no_words b text d) = absurd (omega (arith, a, b))
  one_fault f h (no_text at b ill valid d) (too_long a e) = absurd (omega (arith, a, b))
  one_fault f h (no_text at b ill valid e) (no_text place a ill_too valid_too d) = e ∙ ap (λ n. fault_reaching causes.BadUtf8 n 0) (one_place input at place valid valid_too) ∙ sym d
  one_fault f h (no_text at b ill valid e) (no_words a text d) = absurd (ill text)
  one_fault f h (no_words b text e) (too_long a d) = absurd (omega (arith, a, b))
  one_fault f h (no_words b text e) (no_text at a ill valid d) = absurd (ill text)
  one_fault f h (no_words b text e) (no_words a texts d) = let r : Some f ≡ Some h = sym e ∙ d in cc

-- ---- an input that is refused, where all that it has takes it

module _ {A : Type 0} (why : Refusing) (made : Expanded) (right : HasRightLexicon made) (segment : Bool) (input : List ℕ) (Has : A → Type 0) (takes : (a : A) → Has a → IsInput why (grammar_in made) segment input) where
  pub input_rejected : (f : Fault) → IsNoInput why (grammar_in made) segment input f → Rejects A (IsBadInput why (meaning_of made) segment input) Has input f
  input_rejected f bad = record {
    is = record { dim = made.lexicon.dim; field = made.lexicon.field; place = right.placed.place; text_is = refl; because = bad };
    one = λ t h q. (q.text_is, one_fault why (grammar_in made) segment input h f (subst (λ z. IsNoInput why z segment input h) (grammar_is made q.dim q.field right q.place) q.because) bad);
    never = λ b h. taken_or_not why (grammar_in made) segment input f (takes b h) bad;
  }

  pub no_text_rejected : (at : ℕ) → length input ≤ sentence_limit → (IsUtf8 input → ⊥) → IsValidUpTo input at
      → RejectsAt A (IsBadInput why (meaning_of made) segment input) Has (fault_reaching causes.BadUtf8 at 0) (line_column input (fault_reaching causes.BadUtf8 at 0))
  no_text_rejected at within ill valid = record { text = input; rejects = input_rejected (fault_reaching causes.BadUtf8 at 0) (no_text at within ill valid refl); place_is = refl }

  pub long_rejected : sentence_limit < length input → RejectsAt A (IsBadInput why (meaning_of made) segment input) Has (fault_reaching causes.TooLong 0 (sentence_limit + 1)) (record { line = 1; column = 1 })
  long_rejected long = record {
    text = input;
    rejects = input_rejected (fault_reaching causes.TooLong 0 (sentence_limit + 1)) (too_long long refl);
    place_is = first_byte input (fault_reaching causes.TooLong 0 (sentence_limit + 1)) refl;
  }

-- ---- what a source gives

pub all_taken : (told new : Option (List ℕ)) (bytes input : List ℕ) → TakesAll told new bytes → told ≡ Some input → (bytes ≡ input) × (new ≡ Some [])
all_taken told new bytes input takes e = subst (λ z. TakesAll z new bytes) e takes

module _ {A : Type 0} (Bad : List ℕ → List ℕ → Fault → Type 0) (Has : List ℕ → A → Type 0) (told new : Option (List ℕ)) (bytes : List ℕ) (before after : ℕ) where
  -- what stops a call for some bytes
  abbrev Stopped : Refusal → Type 0
  Stopped refusal = Stops (Unit {0}) 0 0 A (Bad bytes) (Has bytes) refusal

  stops_here : (refusal : Refusal) → TakesAll told new bytes → Stopped refusal → (input : List ℕ) → Stops (told ≡ Some input) before after A (Bad input) (Has input) refusal
  stops_here refusals.Read takes s input = absurd (still s)
  stops_here refusals.Memory takes s input = tt
  stops_here (refusals.Text f p) takes s input = λ e. subst (λ z. RejectsAt A (Bad z) (Has z) f p) (all_taken told new bytes input takes e).0 (s tt)

  -- stops it for the input too
  pub input_stops : {B : Type 0} (result : Result B Refusal) → TakesAll told new bytes → IfErr result Stopped → IfErr result (λ refusal. (input : List ℕ) → Stops (told ≡ Some input) before after A (Bad input) (Has input) refusal)
  input_stops (Ok b) takes s = tt
  input_stops (Err refusal) takes s = stops_here refusal takes s

  -- and no device fails behind the reading
  pub input_read : {B : Type 0} (result : Result B Refusal) → IfErr result Stopped → IfErr result (λ refusal. refusal ≡ refusals.Read → Rose before after)
  input_read (Ok b) s = tt
  input_read (Err refusal) s = λ e. absurd (still (subst Stopped e s))

module _ {B : Type 0} where
  -- the input is read whole
  pub input_taken : (told new : Option (List ℕ)) (bytes : List ℕ) (result : Result B Refusal) → TakesAll told new bytes → IfOk result (λ b. (input : List ℕ) → told ≡ Some input → new ≡ Some [])
  input_taken told new bytes (Ok b) takes = λ input e. (all_taken told new bytes input takes e).1
  input_taken told new bytes (Err refused) takes = tt

  -- a reading that left the count of failures as it was
  pub input_quiet : (result : Result B Refusal) (before after : ℕ) → after ≡ before → MatchResult result (λ b. after ≡ before) (λ refused. refused ≢ refusals.Read → after ≡ before)
  input_quiet (Ok b) before after same = same
  input_quiet (Err refused) before after same = λ differs. same
