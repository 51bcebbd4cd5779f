-- Tokens have one answer, and so have bytes.
use Rattle.std.proofs.Common.{◌≡◌, ℕ, List, length, Ok, Err, sym, ap, subst}
use Rattle.std.specs.Prelude.{Result}
use Rattle.xdg_base.specs.declared.faults.Fault.{Fault}
use Rattle.xdg_base.specs.declared.faults.Stop.{Stop}
use Rattle.xdg_base.specs.declared.faults.Stop.TheVariants as stops
use Rattle.xdg_base.specs.Told.{TellsOf, Gives}
use Rattle.xdg_base.proofs.Told.{same_value, same_error, no_error, no_value}
use Rattle.xdg_ast.specs.Lexemes.{Lexeme}
use Rattle.xdg_ast.specs.Tokenizes.{Spells}
use Rattle.xdg_ast.specs.Derives.{Family, DerivesWithin, IsShallow}
use Rattle.xdg_lex.specs.Lexed.{Lexed}
use Rattle.xdg_lex.specs.Offends as tokens
use Rattle.xdg_parse.specs.Outcome.{IsParsed, IsRead, no_tokens, no_tree}
use Rattle.xdg_parse.proofs.Unique.{not-refused, refused_once}

module _ {A : Type 0} (means : Family A) where
  -- ---- tokens

  pub once : ((ts : List Lexeme) (x : A) → DerivesWithin means ts x → IsShallow ts) → ((ts : List Lexeme) (x y : A) → DerivesWithin means ts x → DerivesWithin means ts y → x ≡ y)
      → (ts : List Lexeme) (end : ℕ) (result : Result A Stop) → TellsOf (IsParsed means ts end) result → (answer : Result A Fault) → IsParsed means ts end answer → Gives answer result
  once shallow one ts end (Ok x) told (Ok y) is = ap Ok (one ts y x is told)
  once shallow one ts end (Ok x) told (Err f) is = absurd (not-refused means shallow ts end x f told is)
  once shallow one ts end (Err (stops.Fault f)) told (Ok y) is = absurd (not-refused means shallow ts end y f is told)
  once shallow one ts end (Err (stops.Fault f)) told (Err e) is = ap Err (refused_once means ts end e f is told)
  once shallow one ts end (Err stops.OutOfMemory) told answer is = tt

  -- ---- bytes

  -- bytes that spell no tokens
  pub refused_only : (bytes : List ℕ) (stop : Stop) → ((a : Lexed) → tokens.IsAnswer bytes a → Gives a (Err stop)) → (answer : Result A Fault) → IsRead means bytes answer → Gives answer (Err stop)
  refused_only bytes stops.OutOfMemory only answer is = tt
  refused_only bytes (stops.Fault g) only (Ok x) (ts, spells, derives) = absurd (no_error ts g (only (Ok ts) spells))
  refused_only bytes (stops.Fault g) only (Err f) (no_tokens refused) = ap Err (same_error f g (only (Err f) refused))
  refused_only bytes (stops.Fault g) only (Err f) (no_tree ts spells refused) = absurd (no_error ts g (only (Ok ts) spells))

  -- bytes that spell tokens
  module _ (bytes : List ℕ) (ts : List Lexeme) (end : ℕ) (end_is : end ≡ length bytes) (result : Result A Stop) where
    pub tree_tells : Spells bytes ts → TellsOf (IsParsed means ts end) result → TellsOf (IsRead means bytes) result
    tree_tells spells told = by_result result (subst (λ n. TellsOf (IsParsed means ts n) result) end_is told) where
      by_result : (result : Result A Stop) → TellsOf (IsParsed means ts (length bytes)) result → TellsOf (IsRead means bytes) result
      by_result (Ok x) told = (ts, spells, told)
      by_result (Err (stops.Fault f)) told = no_tree ts spells told
      by_result (Err stops.OutOfMemory) told = tt

    pub tree_only : ((a : Lexed) → tokens.IsAnswer bytes a → a ≡ Ok ts) → ((a : Result A Fault) → IsParsed means ts end a → Gives a result) → (answer : Result A Fault) → IsRead means bytes answer → Gives answer result
    tree_only spelled only answer is = only answer (subst (λ n. IsParsed means ts n answer) (sym end_is) (parsed answer is)) where
      parsed : (answer : Result A Fault) → IsRead means bytes answer → IsParsed means ts (length bytes) answer
      parsed (Ok x) (us, spells, derives) = subst (λ z. DerivesWithin means z x) (same_value us ts (spelled (Ok us) spells)) derives
      parsed (Err f) (no_tokens refused) = absurd (no_value ts f (spelled (Err f) refused))
      parsed (Err f) (no_tree us spells refused) = subst (λ z. IsParsed means z (length bytes) (Err f)) (same_value us ts (spelled (Ok us) spells)) refused
