-- The kinds of signs and names.
use Rattle.std.specs.Prelude.{ℕ, Option, Some, None, List, [], ◌∷◌, bytes_eq, if◌then◌else◌, ◌==◌, unwrap_or}
use Rattle.xdg_base.specs.Spelling.{keywords}
use Rattle.xdg_ast.specs.declared.token.Kind.{Kind}
use Rattle.xdg_ast.specs.declared.token.Kind.TheVariants as kinds

-- the sign that a character is
unfoldable pub sign_of : ℕ → Option Kind
sign_of c =
    if c == 123 then Some kinds.LeftBrace else
    (if c == 125 then Some kinds.RightBrace else
    (if c == 40 then Some kinds.LeftParenthesis else
    (if c == 41 then Some kinds.RightParenthesis else
    (if c == 91 then Some kinds.LeftBracket else
    (if c == 93 then Some kinds.RightBracket else
    (if c == 58 then Some kinds.Colon else
    (if c == 38 then Some kinds.Ampersand else
    (if c == 124 then Some kinds.Bar else
    (if c == 36 then Some kinds.Dollar else
    (if c == 35 then Some kinds.Hash else
    (if c == 33 then Some kinds.Exclamation else
    (if c == 63 then Some kinds.Question else
    (if c == 42 then Some kinds.Star else
    (if c == 43 then Some kinds.Plus else
    None))))))))))))))

-- the kinds of the keywords, in the order of their table
abbrev pub keyword_kinds : List Kind
keyword_kinds =
    kinds.DefDim ∷ kinds.DefType ∷ kinds.DefLabelType ∷ kinds.DefAttrsType ∷ kinds.DefEntryType ∷ kinds.UsePrinciple ∷ kinds.Dims ∷ kinds.Args
    ∷ kinds.Output ∷ kinds.UseOutput ∷ kinds.DefClass ∷ kinds.DefEntry ∷ kinds.Dim ∷ kinds.UseDim ∷ kinds.Tuple ∷ kinds.Set ∷ kinds.ISet
    ∷ kinds.Valency ∷ kinds.Map ∷ kinds.Card ∷ kinds.Bool ∷ kinds.Int ∷ kinds.String ∷ []

-- the kind that stands where the first of the texts does that a name is
abbrev pub kind_among : List (List ℕ) → List Kind → List ℕ → Option Kind
kind_among (text ∷ texts) (kind ∷ others) name = if bytes_eq name text then Some kind else kind_among texts others name
kind_among texts others name = None

-- the keyword that a name is
unfoldable pub keyword_of : List ℕ → Option Kind
keyword_of name = kind_among keywords keyword_kinds name

-- the kind of a token, where names that are keywords count as names so far
abbrev pub refined : Kind → List ℕ → Kind
refined kinds.Name text = unwrap_or (keyword_of text) kinds.Name
refined kind text = kind
