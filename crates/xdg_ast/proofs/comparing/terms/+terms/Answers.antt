use Rattle.xdg_ast.proofs.Bared.{same_keyed, same_term_braces}
use Rattle.xdg_ast.proofs.Mapped.{differ_part_at}
use Rattle.xdg_ast.proofs.comparing.terms.+terms.Goals as goal

pub same_elem-returns-then-same_name-2 : goal.same_elem-returns-then-same_name-2
same_elem-returns-then-same_name-2 t c = same_keyed _ _ _ _ _ _ _ _ _ _ c.in-Keyed-Keyed.is-0 c.in-Keyed-Keyed.is-1 c.get.ensures c.get-then-same_name-2.ensures c.if-same_name-2.true c.same_name-in-Keyed-Keyed.ensures c.same_term.ensures

pub same_term-returns-in-Braces-Braces : goal.same_term-returns-in-Braces-Braces
same_term-returns-in-Braces-Braces t c = same_term_braces _ _ _ _ _ _ _ c.in-Braces-Braces.is-0 c.in-Braces-Braces.is-1 c.as_slice.ensures c.as_slice-in-Braces-Braces.ensures c.same_elems.ensures

pub same_elems-returns-then-not-same_elem : goal.same_elems-returns-then-not-same_elem
same_elems-returns-then-not-same_elem t c = differ_part_at _ _ _ _ _ _ _ c.loop-at-test.true c.same_elem.ensures c.if-not-same_elem.true
