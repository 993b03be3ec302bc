use Rattle.std.proofs.Common.{◌≡◌, ℕ, List, chars, IsUtf8, refl, sym, ap, ◌∙◌, arith}
use Rattle.std.proofs.lemmas.List.{take_all}
use Rattle.std.proofs.lemmas.Str.{utf8_valid_len-IsUtf8}
use Rattle.std.specs.Str.Lossy.{utf8_valid_len}
use Rattle.ron_spec_words.specs.Position.{line_after, column_after}
use Rattle.ron_base_device.specs.Utf8.{valid_front}
use Rattle.ron_base_device.proofs.utf8.valid_span.Goals as goal

all_valid : (bytes : List ℕ) → IsUtf8 bytes → valid_front bytes ≡ bytes
all_valid bytes utf8 = take_all (utf8_valid_len bytes) bytes (let e = utf8_valid_len-IsUtf8 bytes utf8 in omega (arith, e))

pub returns-in-Ok : goal.returns-in-Ok
returns-in-Ok c =
    let front : valid_front c.args.bytes.now ≡ c.in-Ok.text.now = all_valid c.args.bytes.now c.in-Ok.ensures.cases.1 ∙ sym c.in-Ok.ensures.cases.0 in
    record {
      start_line = refl;
      start_col = refl;
      end_line = c.position_after-end.ensures.line ∙ ap (λ t. line_after (chars t)) (sym front);
      end_col = c.position_after-end.ensures.col ∙ ap (λ t. column_after (chars t)) (sym front);
    }
