-- A text with another value in the place of one.
use Rattle.std.proofs.Common.{◌≡◌, ◌∙◌, ◌++◌, inl, inr, ap, chars, List, ℕ}
use Rattle.ron_spec_words.specs.Characters.{Text}
use Rattle.ron_lex_text.specs.Stretch.{IsSuffix}
use Rattle.ron_lex_text.proofs.StretchLemmas.{end_whole, end_behind_char}
use Rattle.rontool_paths.specs.declared.value.Value.{Value}
use Rattle.rontool_paths.specs.Stretch.{IsStretch, IsPut}
use Rattle.rontool_paths.proofs.StretchLemmas.{stretch_on}
use Rattle.rontool_command.specs.Kept.{HasPut, IsBehindMark, utf8_mark}

end_behind_mark : (s rest : Text) → IsBehindMark s rest → IsSuffix rest s
end_behind_mark s rest (inl e) = end_behind_char utf8_mark s rest e
end_behind_mark s rest (inr (f, e)) = rw e (end_whole s)

-- A value of what stands behind a mark is one of the whole text.
pub stretch_behind_mark : (s rest : Text) (value : Value) → IsBehindMark s rest → IsStretch rest value → IsStretch s value
stretch_behind_mark s rest value mark stretch = stretch_on s rest value (end_behind_mark s rest mark) stretch

-- What is put in a value's place is put in the place of a stretch.
pub has_put : (s new u : Text) (old : Value) → IsStretch s old → IsPut s old new u → HasPut new s u
has_put s new u old stretch put = record {
  front = put.front;
  old = stretch.ends.front;
  behind = chars old.behind.now;
  was = put.was ∙ ap (λ t. put.front ++ t) stretch.ends.is;
  is = put.is;
}

-- So where the text is known by its bytes.
pub has_put_in : (bytes whole : List ℕ) (new u : Text) (old : Value) → whole ≡ bytes → IsStretch (chars whole) old → IsPut (chars whole) old new u
    → HasPut new (chars bytes) u
has_put_in bytes whole new u old same stretch put = rw (← same) (has_put (chars whole) new u old stretch put)
