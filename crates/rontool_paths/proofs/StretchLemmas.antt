-- What follows what follows.
use Rattle.std.proofs.Common.{◌≡◌, ◌∙◌, ◌++◌, List, ℕ, Option, Some, None, Result, Ok, Err, IfSome, IfOk, String, ap, chars, string_bytes, IsUtf8, append_assoc}
use Rattle.std.proofs.Common.{sym, ◌∷◌}
use Rattle.std.specs.declared.alloc.Global.{Global}
use Rattle.std.proofs.lemmas.Str.{chars-append}
use Rattle.ron_spec_words.specs.Characters.{Text}
use Rattle.ron_lex_text.specs.Stretch.{IsSuffix, IsProperSuffix}
use Rattle.ron_lex_text.proofs.StretchLemmas.{end_of_end, past_is_end}
use Rattle.rontool_paths.specs.declared.value.Value.{Value}
use Rattle.rontool_paths.specs.declared.value.Item.{Item}
use Rattle.rontool_paths.specs.declared.word.Word.{Word}
use Rattle.rontool_paths.specs.Stretch.{IsWordIn, IsStretch, IsItemIn, IsPut}

-- What follows what ends a text ends it too.
pub end_on : (text rest after : Text) → IsSuffix rest text → IsSuffix after rest → IsSuffix after text
end_on text rest after one other = end_of_end after rest text other one

pub past_on : (text rest after : Text) → IsSuffix rest text → IsProperSuffix after rest → IsSuffix after text
past_on text rest after one other = end_on text rest after one (past_is_end rest after other)

-- What follows something that isn't empty follows no less than that.
pub end_past : (text after rest : Text) → IsProperSuffix after text → IsSuffix rest after → IsProperSuffix rest text
end_past text after rest past end = record {
  first = past.first;
  front = past.front ++ end.front;
  is = past.is ∙ ap (λ t. past.first ∷ t) (ap (λ t. past.front ++ t) end.is ∙ sym (append_assoc past.front end.front rest));
}

-- What follows a word ends the text, and what stands from the word on.
pub behind_word : (text : Text) (word : Word) → IsWordIn text word → IsSuffix (chars word.after.now) text
behind_word text word is = past_on text (chars word.from.now) (chars word.after.now) is.begins is.ends

pub word_on : (text rest : Text) (word : Word) → IsSuffix rest text → IsWordIn rest word → IsSuffix (chars word.after.now) text
word_on text rest word end is = end_on text rest (chars word.after.now) end (behind_word rest word is)

-- A stretch of what ends a text is one of the text.
pub stretch_on : (text rest : Text) (value : Value) → IsSuffix rest text → IsStretch rest value → IsStretch text value
stretch_on text rest value end stretch = record {
  begins = end_on text rest (chars value.from.now) end stretch.begins;
  ends = stretch.ends;
}

pub deeper : (text : Text) (at value : Value) → IsStretch text at → IsStretch (chars at.from.now) value → IsStretch text value
deeper text at value outer inner = stretch_on text (chars at.from.now) value outer.begins inner

pub some_stretch_on : (text rest : Text) (found : Option Value) → IsSuffix rest text → IfSome found (IsStretch rest) → IfSome found (IsStretch text)
some_stretch_on text rest (Some value) end stretch = stretch_on text rest value end stretch
some_stretch_on text rest None end stretch = tt

-- What follows a value ends the text.
pub behind_value : (text : Text) (value : Value) → IsStretch text value → IsSuffix (chars value.behind.now) text
behind_value text value stretch = end_on text (chars value.from.now) (chars value.behind.now) stretch.begins stretch.ends

-- An item of what ends a text is one of the text.
pub item_value_on : (text rest : Text) (item : Item) → IsSuffix rest text → IsItemIn rest item → IsStretch text item.value
item_value_on text rest item end is = stretch_on text rest item.value end is.value

pub item_rest_on : (text rest : Text) (item : Item) → IsSuffix rest text → IsItemIn rest item → IsSuffix (chars item.rest.now) text
item_rest_on text rest item end is = end_on text rest (chars item.rest.now) end is.ends

-- What stands before a value, another one and what follows the old one are the text with the other in its place.
put_one : (s : Text) (old : Value) (front new u : List ℕ) → IsUtf8 front → IsUtf8 new → s ≡ chars front ++ chars old.from.now
    → u ≡ (front ++ new) ++ old.behind.now → IsPut s old (chars new) (chars u)
put_one s old front new u f n was is = record {
  front = chars front;
  was = was;
  is = ap chars (is ∙ append_assoc front new old.behind.now) ∙ chars-append front (new ++ old.behind.now) f
      ∙ ap (λ t. chars front ++ t) (chars-append new old.behind.now n);
}

pub put_joined : {E : Type 0} (s : Text) (old : Value) (front new : List ℕ) (r : Result (String Global) E) → IsUtf8 front → IsUtf8 new
    → s ≡ chars front ++ chars old.from.now → IfOk r (λ whole. string_bytes whole ≡ (front ++ new) ++ old.behind.now)
    → IfOk r (λ whole. IsPut s old (chars new) (chars (string_bytes whole)))
put_joined s old front new (Ok whole) f n was is = put_one s old front new (string_bytes whole) f n was is
put_joined s old front new (Err e) f n was is = tt
