use Rattle.std.proofs.Common.{◌≡◌, ap, string_bytes}
use Rattle.std.proofs.lemmas.Bool.{false≢true}
use Rattle.std.proofs.lemmas.Str.{IsUtf8-string_bytes}
use Rattle.value_text.proofs.Quoted.{text_at-text, text_at-none}
use Rattle.value_text.proofs.strings.text_at.Goals as goal

pub returns-in_default-from_utf8 : goal.returns-in_default-from_utf8
returns-in_default-from_utf8 c = text_at-none c.args.bytes.now c.in-Some.rest.now c.in_ok-text.text.items
    c.in_ok-text.rest.now c.in-Some.ensures c.in_ok-text.ensures
    (λ u. false≢true (c.in_default-from_utf8.ensures.succeeds u))

pub returns : goal.returns
returns c =
    let same : string_bytes c.in-Ok.text ≡ c.in_ok-text.text.items = ap (λ v. v.items) c.in-Ok.ensures.ok in
    rw (c.new.ensures, same) (text_at-text c.args.bytes.now c.in-Some.rest.now c.in_ok-text.text.items
    c.in_ok-text.rest.now c.in-Some.ensures c.in_ok-text.ensures (rw same at (IsUtf8-string_bytes c.in-Ok.text)))
