-- What is wrong with the values in bodies, part by part, as the code goes through them, where it is known which types
-- features have and which types are wanted of the parameters of classes.
use Rattle.std.specs.Prelude.{◌≡◌, ◌⊎◌, ℕ, List, [], Option, None, Some}
use Rattle.xdg_base.specs.Faults.{fault_at}
use Rattle.xdg_ast.specs.declared.names.Pair.{Pair}
use Rattle.xdg_ast.specs.declared.grammar.ClassParam.{ClassParam}
use Rattle.xdg_base.specs.declared.faults.Cause.TheVariants as causes
use Rattle.xdg_base.specs.declared.faults.Fault.{Fault}
use Rattle.xdg_domain.specs.Shapes.{Shape}
use Rattle.xdg_terms.specs.Offences.{OpenOffends}
use Rattle.xdg_terms.specs.Stray.{IsStrayParam}
use Rattle.xdg_ast.specs.Misnamed.{IsAgain}
use Rattle.xdg_types.specs.Parts.{Statement, keys}
use Rattle.xdg_classes.specs.Bodies.{Term, Body, Said, Called, records, calls}
use Rattle.xdg_classes.specs.Definitions.{ClassDef, Scoped, class, scoped}
use Rattle.xdg_facts.specs.Membership.{In}

-- it is wrong with one of these
abbrev pub SomeOf : {A : Type 0} → List A → (A → Fault → Type 0) → Fault → Type 0
SomeOf {A = A} xs P f = (x : A) × (In xs x × P x f)

-- a term at each of these types
abbrev pub TypesWrong : List Shape → List (List ℕ) → Term → Fault → Type 0
TypesWrong types free t f = SomeOf types (λ s g. OpenOffends free s t g) f

-- and a parameter that stands nowhere
abbrev pub ValueWrong : List Shape → List (List ℕ) → Term → Fault → Type 0
ValueWrong types free t f = TypesWrong types free t f ⊎ IsStrayParam free t f

-- what is said of a feature
abbrev pub FeatureWrong : Option Shape → List (List ℕ) → Pair Term → Fault → Type 0
FeatureWrong None free pair f = f ≡ fault_at causes.UnknownName pair.key.span.start
FeatureWrong (Some s) free pair f = OpenOffends free s pair.value f

abbrev pub PairWrong : (List ℕ → List ℕ → Option Shape) → List (List ℕ) → List ℕ → Pair Term → Fault → Type 0
PairWrong look free dim pair f = FeatureWrong (look dim pair.key.text) free pair f ⊎ IsStrayParam free pair.value f

abbrev pub RecordWrong : (List ℕ → List ℕ → Option Shape) → List (List ℕ) → Said → Fault → Type 0
RecordWrong look free said f = IsAgain (keys said.pairs) f ⊎ SomeOf said.pairs (PairWrong look free said.dim.text) f

-- the use of a class
abbrev pub CallWrong : (List ℕ → List ℕ → List Shape) → List (List ℕ) → Called → Fault → Type 0
CallWrong tell free call f = SomeOf call.args (λ arg. ValueWrong (tell call.name.text arg.key.text) free arg.value) f

abbrev pub BodyWrong : (List ℕ → List ℕ → Option Shape) → (List ℕ → List ℕ → List Shape) → List (List ℕ) → Body → Fault → Type 0
BodyWrong look tell free b f = SomeOf (records b) (RecordWrong look free) f ⊎ SomeOf (calls b) (CallWrong tell free) f

abbrev pub GivenWrong : List Shape → Option Term → Fault → Type 0
GivenWrong types None f = ⊥
GivenWrong types (Some t) f = ValueWrong types [] t f

-- the default of a parameter
abbrev pub PresetWrong : (List ℕ → List ℕ → List Shape) → List ℕ → ClassParam → Fault → Type 0
PresetWrong tell name param f = GivenWrong (tell name param.name.text) param.preset f

abbrev pub ClassWrong : (List ℕ → List ℕ → List Shape) → ClassDef → Fault → Type 0
ClassWrong tell c f = SomeOf c.params (PresetWrong tell c.name.text) f

abbrev pub ScopedWrong : (List ℕ → List ℕ → Option Shape) → (List ℕ → List ℕ → List Shape) → Scoped → Fault → Type 0
ScopedWrong look tell one f = BodyWrong look tell one.params one.body f

abbrev pub StatementWrong : (List ℕ → List ℕ → Option Shape) → (List ℕ → List ℕ → List Shape) → Statement → Fault → Type 0
StatementWrong look tell statement f = SomeOf (scoped statement) (ScopedWrong look tell) f ⊎ SomeOf (class statement.kind) (ClassWrong tell) f
