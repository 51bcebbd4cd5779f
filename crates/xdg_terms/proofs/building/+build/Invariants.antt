use Rattle.std.proofs.Common.{◌≡◌, ◌++◌, drop}
use Rattle.xdg_domain.specs.Shapes.{shape}
use Rattle.xdg_domain.specs.Values.{EachSaid}
use Rattle.xdg_terms.specs.Fitting.{FitsField}
use Rattle.xdg_terms.specs.Forms.{keyed_elem}
use Rattle.xdg_domain.specs.Joined.{fields_in}
use Rattle.xdg_terms.specs.Built.{built, said_from, first_for, fields_from}
use Rattle.xdg_terms.proofs.building.+build.Given as goal

abbrev pub invariant-by_key-loop-key : goal.invariant-by_key-loop-key
invariant-by_key-loop-key l =
    l.made ++ said_from (λ written. built l.fn.bindings (shape l.fn.of) written) (first_for keyed_elem l.fn.elems) l.key (drop l.key l.fn.constants)
    ≡ said_from (λ written. built l.fn.bindings (shape l.fn.of) written) (first_for keyed_elem l.fn.elems) 0 l.fn.constants

abbrev pub invariant-by_field-loop-place : goal.invariant-by_field-loop-place
invariant-by_field-loop-place l =
    (l.made ++ fields_from l.fn.bindings (fields_in (drop l.place l.fn.fields)) l.fn.elems l.place ≡ fields_from l.fn.bindings (fields_in l.fn.fields) l.fn.elems 0)
    × EachSaid (FitsField (fields_in l.fn.fields)) l.made
