-- Answers that are the same hold the same value, or the same fault.
use Rattle.std.proofs.Common.{◌≡◌, Ok, Err}
use Rattle.std.specs.Prelude.{Result}

module _ {A E : Type 0} where
  pub same_value : (a b : A) → ◌≡◌ {A = Result A E} (Ok a) (Ok b) → a ≡ b
  same_value a b e = cc

  pub same_error : (f g : E) → ◌≡◌ {A = Result A E} (Err f) (Err g) → f ≡ g
  same_error f g e = cc

  pub no_error : (a : A) (f : E) → ◌≡◌ {A = Result A E} (Ok a) (Err f) → ⊥
  no_error a f e = cc

  pub no_value : (a : A) (f : E) → ◌≡◌ {A = Result A E} (Err f) (Ok a) → ⊥
  no_value a f e = cc
