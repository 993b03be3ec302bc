-- Gaps, which may stand between any two words, and what stops a value.
--
-- A gap names what follows it. The end of the text may stand in place of a line comment's LF, and nothing else may.
-- So `Gap` is told what follows, and `//` with no LF behind it is a gap only where nothing follows.
--
-- The longest gap in place of any. The plain rule lets any gap stand between two words. A text may then be split in
-- several ways only where a word begins or ends with a blank or with a part of a comment. No word does, and none
-- begins with a slash. So a word, a mark or the end of the text stands where a gap can't go on, and between two words
-- only the longest gap is left to choose. Two stretches may be empty: the items of `( )`, and a comma that is left
-- out. There the blanks and comments around the empty stretch are one gap, and saying that the longest gap comes
-- first leaves one way to split where the plain rule has several of the same meaning. For the gaps around a
-- document's value this is proved (clause `any_gaps`). A gap is handed on to what stands behind it, since a raw text
-- keeps it.
use Rattle.std.specs.Prelude.{◌-◌, length, take, drop, ◌≡◌, ℕ, zero, suc, Bool, true, false, not, ◌||◌, ◌==◌, if◌then◌else◌, [], ◌∷◌, ◌++◌, Option, Some, None}
use Rattle.std.specs.Prelude.{option_map}
use Rattle.std.specs.Option.{unwrap_or}
use Rattle.ron_spec_words.specs.Characters.{Text, is_blank, line_feed, right_parenthesis, star, comma, slash, colon, right_bracket, right_brace}
use Rattle.ron_spec_words.specs.Runs.{Every, begins_with}

-- ---- comments

-- the text begins with `//`
abbrev pub opens_line : Text → Bool
opens_line s = begins_with (slash ∷ slash ∷ []) s

-- not the end of a line
abbrev pub in_line : ℕ → Bool
in_line c = not (c == line_feed)

-- the text begins with `/*`
abbrev pub opens_block : Text → Bool
opens_block s = begins_with (slash ∷ star ∷ []) s

-- the text begins with `*/`
abbrev pub closes_block : Text → Bool
closes_block s = begins_with (star ∷ slash ∷ []) s

-- the text begins with neither
abbrev pub IsPlain : Text → Type 0
IsPlain s = (opens_block s ≡ false) × (closes_block s ≡ false)

-- What stands between the ends of a block comment: characters at which neither `/*` nor `*/` begins, and whole block comments.
pub data Inside : Text → Type 0 where
  nothing : Inside []
  character : (c : ℕ) (t : Text) → IsPlain (c ∷ (t ++ star ∷ slash ∷ [])) → Inside t → Inside (c ∷ t)
  comment : (inner t : Text) → Inside inner → Inside t → Inside (slash ∷ star ∷ (inner ++ star ∷ slash ∷ t))

-- ---- gaps

-- A piece of a gap is a blank, a line comment with its LF, or a block comment.
pub data Piece : Text → Type 0 where
  blank : (c : ℕ) → is_blank c ≡ true → Piece (c ∷ [])
  line : (t : Text) → Every in_line t → Piece (slash ∷ slash ∷ (t ++ line_feed ∷ []))
  block : (inner : Text) → Inside inner → Piece (slash ∷ star ∷ (inner ++ star ∷ slash ∷ []))

-- A gap is any run of pieces, also an empty one. What follows it is named, since the end of the text may end a gap's last line comment.
pub data Gap : Text → Text → Type 0 where
  none : {next : Text} → Gap [] next
  piece : (p g next : Text) → Piece p → Gap g next → Gap (p ++ g) next
  last_line : (t : Text) → Every in_line t → Gap (slash ∷ slash ∷ t) []

-- ---- the longest gap

-- what follows the next LF
abbrev pub after_line : Text → Text
after_line [] = []
after_line (c ∷ s) = if c == line_feed then s else after_line s

-- what follows the end of a block comment whose inside begins here, where n more are open around it
abbrev pub after_block : ℕ → Text → Option Text
after_block n [] = None
after_block n (c ∷ []) = None
after_block zero (c ∷ d ∷ s) = if closes_block (c ∷ d ∷ s) then Some s else if opens_block (c ∷ d ∷ s) then after_block 1 s else after_block 0 (d ∷ s)
after_block (suc n) (c ∷ d ∷ s) =
    if closes_block (c ∷ d ∷ s) then after_block n s else if opens_block (c ∷ d ∷ s) then after_block (suc (suc n)) s else after_block (suc n) (d ∷ s)

-- what follows the comment that begins here, if one does and it ends
unfoldable pub after_comment : Text → Option Text
after_comment s = if opens_line s then Some (after_line (drop 2 s)) else if opens_block s then after_block 0 (drop 2 s) else None

-- What follows the longest gap. The number counts characters of a comment that are still to be passed.
unfoldable pub skip_from : ℕ → Text → Text
skip_from k [] = []
skip_from (suc k) (c ∷ s) = skip_from k s
skip_from zero (c ∷ s) =
    if is_blank c then skip_from zero s else unwrap_or (option_map (λ rest. skip_from (length s - length rest) s) (after_comment (c ∷ s))) (c ∷ s)

unfoldable pub skip : Text → Text
skip s = skip_from zero s

-- the longest gap
unfoldable pub gap_of : Text → Text
gap_of s = take (length s - length (skip s)) s

-- a gap that ends where no gap goes on
pub record LongGap (gap next : Text) : Type 0 where
  pub is_gap : Gap gap next
  pub longest : skip next ≡ next

-- `,`, `:` or a closing bracket
abbrev pub is_delimiter : ℕ → Bool
is_delimiter c = (((c == comma) || (c == colon)) || ((c == right_parenthesis) || (c == right_bracket))) || (c == right_brace)

-- the text ends, or goes on with `,`, `:` or a closing bracket
abbrev pub ends_value : Text → Bool
ends_value [] = true
ends_value (c ∷ s) = is_delimiter c
