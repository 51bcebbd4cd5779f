-- The tag of a kind of tokens is its number.
use Rattle.std.proofs.Common.{◌≡◌, refl}
use Rattle.std.specs.Prelude.{nat_eq}
use denote.Enum.Declared.{tag_of}
use Rattle.xdg_ast.specs.contracts.token.Kind.{the_type}
use Rattle.xdg_ast.specs.declared.token.Kind.{Kind}
use Rattle.xdg_ast.specs.declared.token.Kind.TheVariants as k
use Rattle.xdg_ast.specs.Language.{number, is}

tag_is : (kind : Kind) → tag_of the_type kind ≡ number kind
tag_is k.Name = refl
tag_is other = refl

pub same_tag : (a b : Kind) → nat_eq (tag_of the_type a) (tag_of the_type b) ≡ is a b
same_tag a b = rw (tag_is a, tag_is b) refl
