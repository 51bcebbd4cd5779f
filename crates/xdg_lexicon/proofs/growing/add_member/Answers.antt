use Rattle.std.proofs.Common.{◌++◌, [], ◌∷◌, Err, refl, sym, ◌∙◌, subst}
use Rattle.std.specs.Prelude.{IfSome}
use Rattle.xdg_packed.specs.Entries.{IsEntry}
use Rattle.xdg_lexicon.specs.Growing.{entries_in}
use Rattle.xdg_lexicon.specs.Steps.{AddsMember}
use Rattle.xdg_lexicon.proofs.Putting.{right_last, still_right}
use Rattle.xdg_lexicon.proofs.Words.{has_word, as_long}
use Rattle.xdg_lexicon.proofs.growing.add_member.Goals as goal

pub add-requires-clause-word : goal.add-requires-clause-word
add-requires-clause-word c =
    let one = subst (λ o. IfSome o (IsEntry c.args.types.now)) c.in-Some.is c.in_ok-whole_entry.ensures.right in
    has_word c.args.types.now c.args.growing.packing.dim c.args.growing.packing.field c.requires.right.place c.in-Some.entry one

pub add-requires-clause-equal : goal.add-requires-clause-equal
add-requires-clause-equal c =
    let one = subst (λ o. IfSome o (IsEntry c.args.types.now)) c.in-Some.is c.in_ok-whole_entry.ensures.right in
    as_long c.args.types.now (entries_in c.args.growing ++ c.in-Some.entry ∷ []) (right_last c.args.types.now (entries_in c.args.growing) c.in-Some.entry c.requires.right.right one)

pub returns-in-None-clause-adds : goal.returns-in-None-clause-adds
returns-in-None-clause-adds c =
    let none = sym c.in_ok-whole_entry.ensures.whole ∙ c.in-None.is in
    subst (λ stop. AddsMember c.args.types.now c.args.member.now c.args.at (entries_in c.args.growing) (Err stop)) (sym c.passed.ensures) (none, refl)

pub returns-in_ok-added-in-Some-clause-right : goal.returns-in_ok-added-in-Some-clause-right
returns-in_ok-added-in-Some-clause-right c =
    let one = subst (λ o. IfSome o (IsEntry c.args.types.now)) c.in-Some.is c.in_ok-whole_entry.ensures.right in
    let added = c.in_ok-added-in-Some in
    still_right c.args.types.now c.args.growing _ c.in-Some.entry added.added.of_word c.requires.right one added.ensures.place added.ensures.puts added.ensures.count c.max.ensures
