use Rattle.std.proofs.Common.{◌≡◌, ◌++◌, drop}
use Rattle.xdg_domain.specs.Keys.{KeysBelow}
use Rattle.xdg_terms.specs.Forms.{counted_elem}
use Rattle.xdg_terms.specs.Built.{said_from, card_numbers, first_for}
use Rattle.xdg_terms.proofs.plain.valency.Given as goal

abbrev pub invariant-loop-key : goal.invariant-loop-key
invariant-loop-key l =
    KeysBelow l.key l.made
    × (l.made ++ said_from (λ written. card_numbers written.kind) (first_for counted_elem l.fn.elems) l.key (drop l.key l.fn.constants) ≡ said_from (λ written. card_numbers written.kind) (first_for counted_elem l.fn.elems) 0 l.fn.constants)
