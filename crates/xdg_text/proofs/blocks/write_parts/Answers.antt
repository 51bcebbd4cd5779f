use Rattle.xdg_io.proofs.Parts.{writes_both, writes_first, writes_whole}
use Rattle.xdg_text.proofs.Fitting.{entries_each, lines_are, names_there, values_there}
use Rattle.xdg_text.proofs.blocks.write_parts.Goals as goal

pub returns-in_err-write_head : goal.returns-in_err-write_head
returns-in_err-write_head g c =
    writes_whole
    (lines_are c.args.form c.args.problem.now c.parts-parts.result.now c.args.number (record { entries = c.args.entries.now; attrs = c.args.attrs.now; edges = c.args.edges.now }) c.as_slice-words.result.now c.as_slice-dims.result.now c.as_slice-words.ensures c.as_slice-dims.ensures c.parts-parts.ensures.same)
    (writes_first _ c.from_residual.ensures.0 c.in_err-write_head.ensures)

pub write_body-requires-clause-entries : goal.write_body-requires-clause-entries
write_body-requires-clause-entries g c = rw (c.as_slice-words.ensures, c.parts-parts.ensures.same) (entries_each c.args.problem.now (record { entries = c.args.entries.now; attrs = c.args.attrs.now; edges = c.args.edges.now }) c.parts-parts.ensures.kept c.requires)

pub write_body-requires-clause-attrs : goal.write_body-requires-clause-attrs
write_body-requires-clause-attrs g c = rw (c.as_slice-words.ensures, c.as_slice-dims.ensures, c.parts-parts.ensures.same) (values_there c.args.problem.now (record { entries = c.args.entries.now; attrs = c.args.attrs.now; edges = c.args.edges.now }) c.requires)

pub write_body-requires-clause-edges : goal.write_body-requires-clause-edges
write_body-requires-clause-edges g c = rw (c.as_slice-dims.ensures, c.parts-parts.ensures.same) (names_there c.args.problem.now (record { entries = c.args.entries.now; attrs = c.args.attrs.now; edges = c.args.edges.now }) c.requires)

pub returns : goal.returns
returns g c =
    writes_whole
    (lines_are c.args.form c.args.problem.now c.parts-parts.result.now c.args.number (record { entries = c.args.entries.now; attrs = c.args.attrs.now; edges = c.args.edges.now }) c.as_slice-words.result.now c.as_slice-dims.result.now c.as_slice-words.ensures c.as_slice-dims.ensures c.parts-parts.ensures.same)
    (writes_both c.in_ok-write_head.ensures c.write_body.ensures)
