use Rattle.std.proofs.Common.{◌≡◌, ◌-◌, chars, take, length}
use denote.Text.{Utf8}
use denote.Shadow.{shadow}
use Rattle.ron_spec_words.specs.Escape.{hex_character, hex_bytes}
use Rattle.ron_lex_text.specs.Stretch.{IsSuffix}
use Rattle.ron_lex.proofs.escape.split_hex_character.Given as goal

abbrev pub invariant-loop-count : goal.invariant-loop-count
invariant-loop-count l = shadow (Utf8 l.rest) × (length l.bytes ≡ 4) × IsSuffix (chars l.rest) (chars l.text)
    × (hex_character (chars l.text) ≡ hex_bytes (4 - l.count) (take l.count l.bytes) (chars l.rest))
