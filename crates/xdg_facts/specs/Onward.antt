-- What comes of an option's value.
use Rattle.std.specs.Prelude.{Option, Some, None, List, [], ◌∷◌}

-- what a further step makes of the value, if there is one
abbrev pub onward : {A B : Type 0} → Option A → (A → Option B) → Option B
onward None f = None
onward (Some a) f = f a

-- what may be there, as a list of at most one
abbrev pub optional : {A : Type 0} → Option A → List A
optional None = []
optional (Some x) = x ∷ []
