use Rattle.xdg_ast.proofs.Bared.{same_gen_and, same_gen_or}
use Rattle.xdg_ast.proofs.Mapped.{differ_part_at}
use Rattle.xdg_ast.proofs.comparing.terms.+generators.Goals as goal

pub same_gen-returns-in-And-And : goal.same_gen-returns-in-And-And
same_gen-returns-in-And-And t c = same_gen_and _ _ _ _ _ _ _ c.in-And-And.is-0 c.in-And-And.is-1 c.as_slice.ensures c.as_slice-in-And-And.ensures c.same_gens.ensures

pub same_gen-returns-in-Or-Or : goal.same_gen-returns-in-Or-Or
same_gen-returns-in-Or-Or t c = same_gen_or _ _ _ _ _ _ _ c.in-Or-Or.is-0 c.in-Or-Or.is-1 c.as_slice-in-Or-Or.ensures c.as_slice-in-Or-Or-2.ensures c.same_gens-in-Or-Or.ensures

pub same_gens-returns-then-not-same_gen : goal.same_gens-returns-then-not-same_gen
same_gens-returns-then-not-same_gen t c = differ_part_at _ _ _ _ _ _ _ c.loop-at-test.true c.same_gen.ensures c.if-not-same_gen.true
