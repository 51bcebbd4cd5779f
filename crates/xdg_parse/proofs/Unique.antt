-- Tokens that stand for at most one thing have at most one first fault.
use Rattle.std.proofs.Common.{◌≡◌, ℕ, List, sym, ◌∙◌, ap}
use Rattle.xdg_base.specs.declared.faults.Fault.{Fault}
use Rattle.xdg_base.specs.declared.faults.Cause.TheVariants as causes
use Rattle.xdg_ast.specs.Lexemes.{Lexeme}
use Rattle.xdg_ast.specs.Derives.{Family, DerivesWithin, Derives, most_brackets, IsShallow, Ends, IsUnexpectedAt, IsTooDeepAt, IsRefused, unexpected, too_deep}
use Rattle.xdg_parse.proofs.Fronts.{deep-none, deep-same, ends-not, ends-same, ends-not-deep}

module _ {A : Type 0} (means : Family A) where
  -- ---- one fault

  pub unexpected-once : (ts : List Lexeme) (end p q : ℕ) → IsUnexpectedAt means ts end p → IsUnexpectedAt means ts end q → p ≡ q
  unexpected-once ts end p q a b =
      a.place_is ∙ ends-same (Derives means) (Ends means) (λ us h. h) (λ us t r h. h) end a.before a.rest b.before b.rest (sym a.split ∙ b.split) a.ends b.ends a.starts b.starts ∙ sym b.place_is

  pub deep-once : (ts : List Lexeme) (p q : ℕ) → IsTooDeepAt means ts p → IsTooDeepAt means ts q → p ≡ q
  deep-once ts p q a b = a.place_is ∙ ap (λ (t : Lexeme). t.span.start) (deep-same a.before a.bracket a.rest b.before b.bracket b.rest (sym a.split ∙ b.split) a.full a.opens b.full b.opens) ∙ sym b.place_is

  pub not-both : (ts : List Lexeme) (end p q : ℕ) → IsUnexpectedAt means ts end p → IsTooDeepAt means ts q → ⊥
  not-both ts end p q a b =
      ends-not-deep (Derives means) (Ends means) (λ us h. h) (λ us t r h. h) a.before a.rest b.before b.bracket b.rest (sym a.split ∙ b.split) a.ends a.shallow.0 a.shallow.1 b.full b.opens b.starts

  pub not-unexpected : (ts : List Lexeme) (end p : ℕ) (g : A) → Derives means ts g → IsUnexpectedAt means ts end p → ⊥
  not-unexpected ts end p g d a = ends-not (Derives means) (Ends means) (λ us h. h) (λ us t r h. h) a.before a.rest g a.ends (rw a.split at d)

  pub not-deep : (ts : List Lexeme) (p : ℕ) → IsShallow ts → IsTooDeepAt means ts p → ⊥
  not-deep ts p w a = let n = deep-none a.before a.bracket a.rest a.full a.opens in let e = rw a.split at w.1 in absurd (cc)

  -- ---- one answer

  pub not-refused : ((ts : List Lexeme) (x : A) → DerivesWithin means ts x → IsShallow ts) → (ts : List Lexeme) (end : ℕ) (x : A) (fault : Fault) → DerivesWithin means ts x → IsRefused means ts end fault → ⊥
  not-refused shallow ts end x fault d (unexpected p a) = not-unexpected ts end p x (most_brackets, d) a
  not-refused shallow ts end x fault d (too_deep p a) = not-deep ts p (shallow ts x d) a

  -- tokens are refused for one reason
  pub refused_once : (ts : List Lexeme) (end : ℕ) (e f : Fault) → IsRefused means ts end e → IsRefused means ts end f → e ≡ f
  refused_once ts end e f (unexpected p a) (unexpected q b) = ap (λ place. record { cause = causes.Unexpected; at = place; reached = 0 }) (unexpected-once ts end p q a b)
  refused_once ts end e f (unexpected p a) (too_deep q b) = absurd (not-both ts end p q a b)
  refused_once ts end e f (too_deep p a) (unexpected q b) = absurd (not-both ts end q p b a)
  refused_once ts end e f (too_deep p a) (too_deep q b) = ap (λ place. record { cause = causes.TooDeep; at = place; reached = 65 }) (deep-once ts p q a b)
