-- Stretches of a text: its words, values and items.
use Rattle.std.specs.Prelude.{◌≡◌, ◌++◌, chars, IfSome}
use Rattle.ron_spec_words.specs.Characters.{Text}
use Rattle.ron_lex_text.specs.Stretch.{IsSuffix, IsProperSuffix}
use Rattle.rontool_paths.specs.declared.word.Word.{Word}
use Rattle.rontool_paths.specs.declared.value.Value.{Value}
use Rattle.rontool_paths.specs.declared.value.Item.{Item}
use Rattle.rontool_paths.specs.declared.value.Group.{Group}

-- The word stands in the text as it says, and is not empty.
pub record IsWordIn (s : Text) (word : Word) : Type 0 where
  pub begins : IsSuffix (chars word.from.now) s
  pub split : chars word.from.now ≡ chars word.text.now ++ chars word.after.now
  pub ends : IsProperSuffix (chars word.after.now) (chars word.from.now)

-- The value is a stretch of the text.
pub record IsStretch (s : Text) (value : Value) : Type 0 where
  pub begins : IsSuffix (chars value.from.now) s
  pub ends : IsSuffix (chars value.behind.now) (chars value.from.now)

-- So are the item's key and value, and what follows the item ends the text.
pub record IsItemIn (s : Text) (item : Item) : Type 0 where
  pub key : IfSome item.key (IsStretch s)
  pub value : IsStretch s item.value
  pub ends : IsSuffix (chars item.rest.now) s

-- What stands in the group ends the text.
abbrev pub IsGroupIn : Text → Group → Type 0
IsGroupIn s group = IsSuffix (chars group.inside.now) s

-- The new text has another stretch in the place of a value: what stands before it and what follows it are the same.
pub record IsPut (s : Text) (old : Value) (new u : Text) : Type 0 where
  pub front : Text
  pub was : s ≡ front ++ chars old.from.now
  pub is : u ≡ front ++ (new ++ chars old.behind.now)
