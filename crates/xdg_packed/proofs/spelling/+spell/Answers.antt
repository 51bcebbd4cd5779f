use Rattle.std.proofs.Common.{◌≡◌, ◌++◌, refl, ap, ◌∙◌}
use Rattle.std.proofs.lemmas.Result.{on_ok_weaker}
use Rattle.std.specs.Prelude.{codes}
use Rattle.xdg_domain.specs.declared.values.Value.TheOpen.{Value-F}
use Rattle.xdg_domain.specs.declared.values.Value.TheVariants as v
use Rattle.xdg_packed.specs.Spelling.{number, numbers, keyed, text, truth, spelling}
use Rattle.xdg_packed.proofs.Variants.{written, entries_end}
use Rattle.xdg_packed.proofs.spelling.+spell.Goals as goal

pub returns-in_ok-push_str-in-Const : goal.returns-in_ok-push_str-in-Const
returns-in_ok-push_str-in-Const t c =
    written v.Const Value-F.Const (codes "c") number v.outs-Const (λ _. refl) c.push_number.result c.args.value.now _ c.from.result c.args.out.now c.push_str.new.self c.push_number.new.out c.in-Const.is c.from.ensures c.in_ok-push_str-in-Const.ensures.ok c.push_number.ensures

pub returns-in_ok-push_str-in-Tuple : goal.returns-in_ok-push_str-in-Tuple
returns-in_ok-push_str-in-Tuple t c =
    written v.Tuple Value-F.Tuple (codes "t") number v.outs-Tuple (λ _. refl) c.push_number-in-Tuple.result c.args.value.now _ c.from-in-Tuple.result c.args.out.now c.push_str-in-Tuple.new.self c.push_number-in-Tuple.new.out c.in-Tuple.is c.from-in-Tuple.ensures c.in_ok-push_str-in-Tuple.ensures.ok c.push_number-in-Tuple.ensures

pub returns-in_ok-push_str-in-Set : goal.returns-in_ok-push_str-in-Set
returns-in_ok-push_str-in-Set t c =
    written v.Set Value-F.Set (codes "s") numbers v.outs-Set (λ _. refl) c.push_numbers.result c.args.value.now _ c.as_slice.result.now c.args.out.now c.push_str-in-Set.new.self c.push_numbers.new.out c.in-Set.is c.as_slice.ensures.same c.in_ok-push_str-in-Set.ensures.ok c.push_numbers.ensures

pub returns-in_ok-push_str-in-Card : goal.returns-in_ok-push_str-in-Card
returns-in_ok-push_str-in-Card t c =
    written v.Card Value-F.Card (codes "n") numbers v.outs-Card (λ _. refl) c.push_cards.result c.args.value.now _ _ c.args.out.now c.push_str-in-Card.new.self c.push_cards.new.out c.in-Card.is refl c.in_ok-push_str-in-Card.ensures.ok c.push_cards.ensures

pub returns-in_ok-push_str-in-Valency : goal.returns-in_ok-push_str-in-Valency
returns-in_ok-push_str-in-Valency t c =
    written v.Valency Value-F.Valency (codes "v") (keyed numbers) v.outs-Valency (λ _. refl) c.push_valency.result c.args.value.now _ _ c.args.out.now c.push_str-in-Valency.new.self c.push_valency.new.out c.in-Valency.is refl c.in_ok-push_str-in-Valency.ensures.ok c.push_valency.ensures

pub returns-in_ok-push_str-in-Bool : goal.returns-in_ok-push_str-in-Bool
returns-in_ok-push_str-in-Bool t c =
    written v.Bool Value-F.Bool (codes "b") truth v.outs-Bool (λ _. refl) c.push_str-in-Bool-2.result c.args.value.now c.in-Bool.holds c.in-Bool.holds c.args.out.now c.push_str-in-Bool.new.self c.push_str-in-Bool-2.new.self c.in-Bool.is refl c.in_ok-push_str-in-Bool.ensures.ok
    (on_ok_weaker c.push_str-in-Bool-2.result (λ (e : c.push_str-in-Bool-2.new.self ≡ c.push_str-in-Bool.new.self ++ c.digit_of.result.now). e ∙ ap (λ z. c.push_str-in-Bool.new.self ++ z) c.digit_of.ensures) c.push_str-in-Bool-2.ensures.ok)

pub returns-in_ok-push_str-in-Int : goal.returns-in_ok-push_str-in-Int
returns-in_ok-push_str-in-Int t c =
    written v.Int Value-F.Int (codes "i") number v.outs-Int (λ _. refl) c.push_number-in-Int.result c.args.value.now _ c.from-in-Int.result c.args.out.now c.push_str-in-Int.new.self c.push_number-in-Int.new.out c.in-Int.is c.from-in-Int.ensures c.in_ok-push_str-in-Int.ensures.ok c.push_number-in-Int.ensures

pub returns-in_ok-push_str-in-Str : goal.returns-in_ok-push_str-in-Str
returns-in_ok-push_str-in-Str t c =
    written v.Str Value-F.Str (codes "q") text v.outs-Str (λ _. refl) c.push_text.result c.args.value.now _ c.as_str.result.now c.args.out.now c.push_str-in-Str.new.self c.push_text.new.out c.in-Str.is c.as_str.ensures c.in_ok-push_str-in-Str.ensures.ok c.push_text.ensures

pub returns-after-loop-entry : goal.returns-after-loop-entry
returns-after-loop-entry t c =
    written v.Map Value-F.Map (codes "m") (keyed spelling) v.outs-Map (λ _. refl) c.push_str-in-Map-2.result c.args.value.now c.in-Map.map c.as_slice-entry-items.result.now c.args.out.now c.push_str-in-Map.new.self c.push_str-in-Map-2.new.self c.in-Map.is c.as_slice-entry-items.ensures c.in_ok-push_str-in-Map.ensures.ok
    (entries_end c.push_str-in-Map-2.result c.as_slice-entry-items.result.now c.push_str-in-Map.new.self c.loop-entry.out c.push_str-in-Map-2.new.self c.loop-entry.entry-index c.loop-entry-test.false c.loop-entry.invariant c.push_str-in-Map-2.ensures.ok)

pub returns-after-loop-field : goal.returns-after-loop-field
returns-after-loop-field t c =
    written v.Rec Value-F.Rec (codes "r") (keyed spelling) v.outs-Rec (λ _. refl) c.push_str-in-Rec-2.result c.args.value.now c.in-Rec.fields c.as_slice-field-items.result.now c.args.out.now c.push_str-in-Rec.new.self c.push_str-in-Rec-2.new.self c.in-Rec.is c.as_slice-field-items.ensures c.in_ok-push_str-in-Rec.ensures.ok
    (entries_end c.push_str-in-Rec-2.result c.as_slice-field-items.result.now c.push_str-in-Rec.new.self c.loop-field.out c.push_str-in-Rec-2.new.self c.loop-field.field-index c.loop-field-test.false c.loop-field.invariant c.push_str-in-Rec-2.ensures.ok)
