-- What the table of principles says of each principle.
use Rattle.std.proofs.Common.{◌≡◌, ◌<◌, refl, arith}
use Rattle.std.specs.Prelude.{length}
use Rattle.xdg_problem.specs.declared.parts.Principle.{Principle}
use Rattle.xdg_problem.specs.declared.parts.Principle.TheVariants as principles
use Rattle.xdg_problem.specs.Forms.{dims_in, form_of}
use Rattle.xdg_problem.specs.Names.{IsOfTexts}
use Rattle.xdg_problem.specs.Principles.{dim_arguments, feature_dim}

-- ---- what it takes

pub dims_wanted : (p : Principle) → IsOfTexts p → length (dims_in (form_of p).dims) ≡ dim_arguments p
dims_wanted (principles.Rule formula) of = absurd of
dims_wanted (principles.Bound costs bound) of = absurd of
dims_wanted principle of = refl

-- each of its dimensions is one of those that it has
pub which_within : (p : Principle) → feature_dim p < length (dims_in (form_of p).dims)
which_within principles.Graph = omega arith
which_within principle = omega arith

pub first_within : (p : Principle) → 0 < length (dims_in (form_of p).dims)
first_within principles.Graph = omega arith
first_within principle = omega arith
