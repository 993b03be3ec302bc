-- Characters as they are shown, and what stands under them.
use Rattle.std.specs.Prelude.{ℕ, ◌-◌, ◌==◌, Bool, false, ◌&&◌, ◌||◌, not, nat_le, List, [], ◌∷◌, ◌++◌, take, drop, replicate, flat_map, unwrap_or}
use Rattle.std.specs.Prelude.{if◌then◌else◌}
use Rattle.std.specs.Char.{is_control}
use Rattle.unicode_width.specs.Width.{char_width}
use Rattle.ron_spec_words.specs.Characters.{space, tab}

-- a number from one to another
abbrev pub is_among : ℕ → ℕ → ℕ → Bool
is_among low high c = nat_le low c && nat_le c high

-- a character that turns the direction in which a text is read, or ends its line, or has no shape
abbrev pub is_unseen : ℕ → Bool
is_unseen c = is_among 0x200e 0x200f c || is_among 0x2028 0x202e c || is_among 0x2066 0x2069 c || (c == 0xfeff)

-- a character that is shown by its number
abbrev pub is_hidden : ℕ → Bool
is_hidden c = not (c == tab) && (is_unseen c || is_control c)

-- how many columns its number takes, in a backslash, `u` and braces
abbrev pub number_columns : ℕ → ℕ
number_columns c = if nat_le c 0xf then 5 else (if nat_le c 0xff then 6 else 8)

-- how many columns it takes as it is shown
abbrev pub columns_of : ℕ → ℕ
columns_of c = if is_hidden c then number_columns c else unwrap_or (char_width false c) 0

-- what a tab has under it: a tab under blanks, one mark else
abbrev pub under_tab : ℕ → ℕ
under_tab mark = if mark == space then 9 else mark

-- marks as wide as a character
abbrev pub under_one : ℕ → ℕ → List ℕ
under_one mark c = if c == tab then under_tab mark ∷ [] else replicate (columns_of c) mark

-- marks as wide as the first of these characters
abbrev pub under : ℕ → ℕ → List ℕ → List ℕ
under mark many cs = flat_map (under_one mark) (take many cs)

-- one caret at least
abbrev pub or_caret : List ℕ → List ℕ
or_caret [] = 94 ∷ []
or_caret (mark ∷ marks) = mark ∷ marks

-- blanks from where a line is shown to a place in it, and carets from there to another place
abbrev pub caret_line : ℕ → ℕ → ℕ → List ℕ → List ℕ
caret_line first from to cs = under 32 (from - first) (drop first cs) ++ or_caret (under 94 (to - from) (drop from cs))
