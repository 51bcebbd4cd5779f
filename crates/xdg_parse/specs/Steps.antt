-- What a function that reads ensures.
use Rattle.std.specs.Prelude.{◌≡◌, ℕ, suc, true, false, Result, Ok, Err}
use Rattle.xdg_parse.specs.declared.cursor.Why.{Why}
use Rattle.xdg_parse.specs.declared.cursor.Why.TheVariants as w
use Rattle.xdg_ast.specs.declared.token.Token.{Token}
use Rattle.xdg_ast.specs.Lexemes.{Lexeme, lexeme_of}
use Rattle.xdg_ast.specs.Language.{State, Outcome, Unexpected, TooDeep, Kinds, sees, skip}

-- What the reading answers, at the tokens that are then left, unless memory ran out.
abbrev pub Reads : {A : Type 0} → Outcome A → Result A Why → State → Type 0
Reads outcome (Ok a) new = outcome ≡ Ok (a, new)
Reads outcome (Err w.Memory) new = Unit {0}
Reads outcome (Err w.Unexpected) new = outcome ≡ Err (Unexpected, new.left)
Reads outcome (Err w.TooDeep) new = outcome ≡ Err (TooDeep, new.left)

-- The same of a reading that answers a token.
abbrev pub Takes : Outcome Lexeme → Result Token Why → State → Type 0
Takes outcome (Ok token) new = outcome ≡ Ok (lexeme_of token, new)
Takes outcome (Err w.Memory) new = Unit {0}
Takes outcome (Err w.Unexpected) new = outcome ≡ Err (Unexpected, new.left)
Takes outcome (Err w.TooDeep) new = outcome ≡ Err (TooDeep, new.left)

-- A bracket is opened, and one fewer may be opened in it.
abbrev pub Opens : Kinds → ℕ → State → Result ℕ Why → State → Type 0
Opens opening within old (Ok inner) new = (sees opening old.left ≡ true) × (within ≡ suc inner) × (new ≡ skip old)
Opens opening within old (Err w.Memory) new = ⊥
Opens opening within old (Err w.Unexpected) new = (sees opening old.left ≡ false) × (new ≡ old)
Opens opening within old (Err w.TooDeep) new = (sees opening old.left ≡ true) × (within ≡ 0) × (new ≡ old)
