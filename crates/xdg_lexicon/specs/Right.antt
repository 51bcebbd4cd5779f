-- Where nothing is wrong in a body, once its parameters are bound.
use Rattle.std.specs.Prelude.{◌≡◌, ℕ, List, [], Some, IfSome}
use Rattle.xdg_ast.specs.declared.names.Pair.{Pair}
use Rattle.xdg_domain.specs.Shapes.{Shape, shape}
use Rattle.xdg_domain.specs.declared.types.Ty.{Ty}
use Rattle.xdg_types.specs.Table.{Table}
use Rattle.xdg_terms.specs.Answers.{IsRight}
use Rattle.xdg_terms.specs.Closed.{closed}
use Rattle.xdg_terms.specs.Forms.{Bindings}
use Rattle.xdg_terms.specs.Means.{written_for}
use Rattle.xdg_terms.specs.Replaced.{IsOpenRight}
use Rattle.xdg_classes.specs.Bodies.{Term, Pairs, Body, Said, Called, records, calls}
use Rattle.xdg_classes.specs.Wants.{Wants, feature_shape}
use Rattle.xdg_check.specs.declared.checked.Class.{Class}
use Rattle.xdg_check.specs.Checked.{IsBound, named_bodies}
use Rattle.xdg_lexicon.specs.Partial.{written}
use Rattle.xdg_facts.specs.Membership.{In}

-- nothing is wrong with what is written of these features, under the bindings
abbrev pub AreRight : Bindings → List (List ℕ × Ty) → Pairs → Type 0
AreRight bs features pairs = (f : List ℕ × Ty) → In features f → IfSome (written_for (written pairs) f.0) (IsRight bs (shape f.1))

-- Nothing is wrong in the body, where its parameters are so bound: no term that is said of a feature has an offence where
-- the feature's type is wanted, each use binds the parameters of its class, and no argument, with the bindings in it, has
-- an offence where a type is wanted that is wanted of its parameter.
pub record IsRightUnder (table : Table) (cs : List Class) (bs : Bindings) (b : Body) : Type 0 where
  pub said : (said : Said) → In (records b) said → (pair : Pair Term) → In said.pairs pair → (s : Shape)
      → feature_shape table said.dim.text pair.key.text ≡ Some s → IsRight bs s pair.value
  pub bound : (call : Called) → In (calls b) call → IsBound cs call
  pub given : (call : Called) → In (calls b) call → (pair : Pair Term) → In call.args pair → (s : Shape)
      → Wants table (named_bodies cs) call.name.text pair.key.text s → IsOpenRight [] s (closed bs pair.value)
