-- Parts of rules that have a function of their own.
use Rattle.std.specs.Prelude.{Ok}
use Rattle.xdg_ast.specs.declared.token.Kind.TheVariants as k
use Rattle.xdg_ast.specs.declared.types.TypeKind.{TypeKind}
use Rattle.xdg_ast.specs.declared.types.TypeKind.TheVariants as y
use Rattle.xdg_ast.specs.Language.{Language, Outcome, ◌>>=◌, is, token, made, either}
use Rattle.xdg_ast.specs.Grammar.{name}

-- the types that are one word
abbrev pub plain_type : Language TypeKind
plain_type =
    either (made (λ _. y.Card) (token (is k.Card)))
    (either (made (λ _. y.Bool) (token (is k.Bool)))
    (either (made (λ _. y.Int) (token (is k.Int)))
    (either (made (λ _. y.Str) (token (is k.String)))
    (made y.Named name))))

-- what is made of what a reading gives
abbrev pub giving : {A B : Type 0} → (A → B) → Outcome A → Outcome B
giving f read = read >>= λ x. Ok (f x.0, x.1)
