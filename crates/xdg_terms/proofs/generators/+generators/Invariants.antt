use Rattle.std.proofs.Common.{◌≡◌, drop}
use Rattle.std.specs.List.{list_any, list_all}
use Rattle.xdg_terms.specs.Built.{constants_each}
use Rattle.xdg_terms.specs.Means.{chosen, fulfils}
use Rattle.xdg_terms.proofs.generators.+generators.Given as goal

abbrev pub invariant-are_all_fulfilled-loop-member : goal.invariant-are_all_fulfilled-loop-member
invariant-are_all_fulfilled-loop-member l =
    list_all (λ member. fulfils (chosen (constants_each l.fields) l.tuple) member.kind) (drop l.member-index l.members) ≡ list_all (λ member. fulfils (chosen (constants_each l.fields) l.tuple) member.kind) l.members

abbrev pub invariant-is_some_fulfilled-loop-member : goal.invariant-is_some_fulfilled-loop-member
invariant-is_some_fulfilled-loop-member l =
    list_any (λ member. fulfils (chosen (constants_each l.fields) l.tuple) member.kind) (drop l.member-index l.members) ≡ list_any (λ member. fulfils (chosen (constants_each l.fields) l.tuple) member.kind) l.members
