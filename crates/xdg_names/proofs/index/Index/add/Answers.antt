use Rattle.std.proofs.Common.{◌≡◌, ◌∙◌, not, ap, sym, refl, false, map, true≢false}
use Rattle.std.specs.String.{string_bytes}
use Rattle.xdg_names.specs.Texts.{has_text}
use Rattle.xdg_names.proofs.Texts.{text_found, text_added, still_differ}
use Rattle.xdg_names.proofs.index.Index.add.Goals as goal

pub returns-then-contains-clause-new : goal.returns-then-contains-clause-new
returns-then-contains-clause-new c =
    ap not (c.if-contains.ensures ∙ text_found string_bytes c.self.inside.texts.keys c.args.self.now c.args.text.now c.self.view_is)

pub invariant_of-self-2 : goal.invariant_of-self-2
invariant_of-self-2 c =
    let keys = c.self.inside.texts.keys in
    let text = c.args.text.now in
    let new : false ≡ has_text (map string_bytes keys) text = c.if-contains.ensures ∙ text_found string_bytes keys (map string_bytes keys) text refl in
    still_differ (map string_bytes keys) _ text c.self.invariant (sym new)
    (text_added string_bytes keys (map string_bytes keys) text refl _ c.in_ok-from_str.field-0 c.in_ok-from_str.ensures.ok (sym new) c.in_ok-insert.ensures.keys)

pub returns-clause-new : goal.returns-clause-new
returns-clause-new c =
    ap not (c.if-contains.ensures ∙ text_found string_bytes c.self.inside.texts.keys c.args.self.now c.args.text.now c.self.view_is)

pub returns-clause-ok : goal.returns-clause-ok
returns-clause-ok c =
    let keys = c.self.inside.texts.keys in
    let text = c.args.text.now in
    let new : false ≡ has_text c.args.self.now text = c.if-contains.ensures ∙ text_found string_bytes keys c.args.self.now text c.self.view_is in
    text_added string_bytes keys c.args.self.now text c.self.view_is _ c.in_ok-from_str.field-0 c.in_ok-from_str.ensures.ok (sym new) c.in_ok-insert.ensures.keys

pub returns-in_err-from_str-clause-known : goal.returns-in_err-from_str-clause-known
returns-in_err-from_str-clause-known c stands =
    absurd (true≢false (sym (c.if-contains.ensures ∙ text_found string_bytes c.self.inside.texts.keys c.args.self.now c.args.text.now c.self.view_is ∙ stands)))

pub returns-in_err-insert-clause-known : goal.returns-in_err-insert-clause-known
returns-in_err-insert-clause-known c stands =
    absurd (true≢false (sym (c.if-contains.ensures ∙ text_found string_bytes c.self.inside.texts.keys c.args.self.now c.args.text.now c.self.view_is ∙ stands)))
