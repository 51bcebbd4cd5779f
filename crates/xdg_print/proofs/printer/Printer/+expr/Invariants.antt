use Rattle.std.proofs.Common.{◌≡◌, drop, map}
use Rattle.xdg_ast.specs.declared.token.Kind.TheVariants as k
use Rattle.xdg_ast.specs.Trees.{separated}
use Rattle.xdg_print.specs.Printed.{put}
use Rattle.xdg_print.proofs.Put.{members}
use Rattle.xdg_print.proofs.WrittenTerms.{joined_expr, disjoined_expr}
use Rattle.xdg_print.proofs.printer.Printer.+expr.Given as goal

abbrev pub invariant-loop-member : goal.invariant-loop-member
invariant-loop-member l = put (members k.Ampersand l.first (map (joined_expr l.params) (drop l.member-index l.member-items))) l.self ≡ put (separated k.Ampersand (map (joined_expr l.params) l.member-items)) l.initial.self

abbrev pub invariant-loop-member-2 : goal.invariant-loop-member-2
invariant-loop-member-2 l = put (members k.Bar l.first (map (disjoined_expr l.params) (drop l.member-index l.member-items))) l.self ≡ put (separated k.Bar (map (disjoined_expr l.params) l.member-items)) l.initial.self
