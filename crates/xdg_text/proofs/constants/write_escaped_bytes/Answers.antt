use Rattle.std.proofs.Common.{get_or}
use Rattle.std.proofs.lemmas.List.{get_or_default}
use Rattle.xdg_io.proofs.Parts.{next_of, stop_of}
use Rattle.xdg_text.specs.Constants.{escaped}
use Rattle.xdg_text.proofs.constants.write_escaped_bytes.Goals as goal

pub returns-in_err-write_escaped_byte : goal.returns-in_err-write_escaped_byte
returns-in_err-write_escaped_byte g c = stop_of escaped c.args.bytes.now c.loop-byte.byte-index (get_or c.args.bytes.now c.loop-byte.byte-index 0) c.loop-byte-test.true (get_or_default _ _ _ _ c.loop-byte-test.true) c.loop-byte.invariant c.from_residual.ensures.0 c.in_err-write_escaped_byte.ensures

pub loop-byte-preserved : goal.loop-byte-preserved
loop-byte-preserved g c = next_of escaped c.args.bytes.now c.loop-byte.byte-index (get_or c.args.bytes.now c.loop-byte.byte-index 0) c.loop-byte-test.true (get_or_default _ _ _ _ c.loop-byte-test.true) c.loop-byte.invariant c.in_ok-write_escaped_byte.ensures
