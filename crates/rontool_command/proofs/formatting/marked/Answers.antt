use Rattle.std.proofs.Common.{◌≡◌, ◌∙◌, ◌++◌, ap, string_bytes}
use Rattle.std.specs.Char.{encode_utf8}
use Rattle.std.proofs.lemmas.Str.{chars_past_char, IsUtf8-string_bytes}
use Rattle.rontool_command.specs.Kept.{utf8_mark}
use Rattle.rontool_command.proofs.formatting.marked.Goals as goal

pub returns : goal.returns
returns c =
    let mark : string_bytes c.push.new.self ≡ encode_utf8 utf8_mark =
    c.in_ok-push.ensures.bytes ∙ ap (λ b. b ++ encode_utf8 utf8_mark) c.new-marked.ensures.bytes in
    chars_past_char (string_bytes c.push_str.new.self) c.args.text.now utf8_mark (IsUtf8-string_bytes c.push_str.new.self)
    (c.in_ok-push_str.ensures.bytes ∙ ap (λ b. b ++ c.args.text.now) mark)
