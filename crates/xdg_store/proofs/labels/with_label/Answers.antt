use Rattle.xdg_store.proofs.Labelled.{marks_of}
use Rattle.xdg_store.proofs.labels.with_label.Goals as goal

pub returns : goal.returns
returns c = marks_of c.args.mothers.now c.args.label.0 c.len-count.result c.args.labels c.with_bit_if.result c.with_bit_if-2.result c.len-count.ensures.nodes c.len-count.ensures.value c.with_bit_if.ensures.here c.with_bit_if.ensures.others c.with_bit_if-2.ensures.here c.with_bit_if-2.ensures.others
