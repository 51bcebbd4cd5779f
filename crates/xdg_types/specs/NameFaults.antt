-- The offences of names as a list, in the order in which the code comes to them.
use Rattle.std.specs.Prelude.{ℕ, if◌then◌else◌, List, [], ◌∷◌, ◌++◌, map}
use Rattle.xdg_base.specs.Faults.{fault_at}
use Rattle.xdg_base.specs.declared.faults.Cause.{Cause}
use Rattle.xdg_base.specs.declared.faults.Cause.TheVariants as causes
use Rattle.xdg_base.specs.declared.faults.Fault.{Fault}
use Rattle.xdg_ast.specs.declared.names.Name.{Name}
use Rattle.xdg_ast.specs.declared.grammar.StatementKind.{StatementKind}
use Rattle.xdg_names.specs.Texts.{has_text}
use Rattle.xdg_types.specs.Parts.{dimension}

-- ---- names

-- a name that isn't among these, told with a cause
abbrev pub unknown_as : Cause → List (List ℕ) → Name → List Fault
unknown_as cause known name = if has_text known name.text then [] else fault_at cause name.span.start ∷ []

-- a name that stands for nothing
abbrev pub unknown : List (List ℕ) → Name → List Fault
unknown = unknown_as causes.UnknownName

-- a key that nobody asks for
abbrev pub foreign : List (List ℕ) → Name → List Fault
foreign = unknown_as causes.WrongParams

-- a name that an earlier one has
abbrev pub repeated : List (List ℕ) → Name → List Fault
repeated before name = if has_text before name.text then fault_at causes.Twice name.span.start ∷ [] else []

-- with the text, unless it stands there
abbrev pub with_text : List (List ℕ) → List ℕ → List (List ℕ)
with_text seen text = if has_text seen text then seen else seen ++ text ∷ []

-- the names that an earlier one has, where these stand before them
abbrev pub repeats : List (List ℕ) → List Name → List Fault
repeats seen [] = []
repeats seen (name ∷ names) = repeated seen name ++ repeats (with_text seen name.text) names

-- with the texts of these names
abbrev pub with_all : List (List ℕ) → List Name → List (List ℕ)
with_all seen [] = seen
with_all seen (name ∷ names) = with_all (with_text seen name.text) names

-- the different texts of these names
abbrev pub different : List Name → List (List ℕ)
different names = with_all [] names

-- ---- where names stand

-- the name of the dimension that a statement defines
abbrev pub dim_name : StatementKind → List Name
dim_name kind = map (λ dim. dim.0) (dimension kind)
