-- Raw texts: what of the gaps around a value they take, and which texts are valid by themselves.
--
-- Valid texts. A raw text's own value is read under no extensions, whatever is in force where it stands:
-- `[Some(1,2)]` under unwrap_variant_newtypes is no list of raw texts. It is read within 128 levels, whatever limit
-- is set. Deeper by itself it is refused as no raw text and not by the limit's error, while the limit's error stays
-- what tells that the value in its place is too deep.
use Rattle.std.specs.Prelude.{◌≡◌, ℕ, Bool, true, false, not, length, drop, if◌then◌else◌, [], ◌∷◌, ◌++◌, ◌==◌, Option, Some, None}
use Rattle.std.specs.Char.{is_whitespace}
use Rattle.std.specs.Option.{is_some}
use Rattle.ron_spec_words.specs.Characters.{Text, comma, line_feed}
use Rattle.ron_spec_words.specs.Runs.{is_at, after_run, same_text}
use Rattle.ron_spec_words.specs.Gap.{Gap, LongGap, gap_of, skip}
use Rattle.ron_spec_words.specs.Reader.{Got, got, failed, after_gap}
use Rattle.ron_spec_words.specs.Stretch.{stretch}
use Rattle.ron_spec_words.specs.Name.{untyped_name}
use Rattle.ron_value.specs.Tree.{Tree}
use Rattle.ron_spec_grammar.specs.Values.Grammar.{AnySpells, read_any}

-- ---- trimming: white space is Unicode's, as std's `trim` has it; of the blanks all but U+200E and U+200F are white

-- without the white space at its start
abbrev pub trim_front : Text → Text
trim_front t = after_run is_whitespace t

-- a character and what is left behind it: where nothing is, a white one goes too
abbrev pub or_nothing : ℕ → Text → Text
or_nothing c [] = if is_whitespace c then [] else c ∷ []
or_nothing c (d ∷ t) = c ∷ d ∷ t

-- without the white space at its end
abbrev pub trim_back : Text → Text
trim_back [] = []
trim_back (c ∷ t) = or_nothing c (trim_back t)

-- ---- open line comments

-- What of a gap a raw text keeps. `trim` of the standard library decides what is white, so the direction marks stay.
-- A gap whose trimmed end would be an open line comment is kept up to that comment's LF. Whether it is open is asked
-- by a comma behind it: it would stand in the comment (`leaves_open`).
--
-- A gap, or a front of one, leaves a line comment open: a comma behind it would stand in the comment.
unfoldable pub leaves_open : Text → Bool
leaves_open gap = not (is_at comma (skip (gap ++ comma ∷ [])))

-- the text up to its first LF, and with it
abbrev pub through_line : Text → Text
through_line [] = []
through_line (c ∷ t) = if c == line_feed then c ∷ [] else c ∷ through_line t

-- ---- what a raw text takes

-- of the gap behind the value: all but the white space at its end, and what closes a line comment that would be left open
unfoldable pub kept : Text → Text
kept gap = if leaves_open (trim_back gap) then trim_back gap ++ through_line (drop (length (trim_back gap)) gap) else trim_back gap

-- the text is a name and no more
abbrev pub is_all : {A : Type 0} → Got A → Bool
is_all (got a []) = true
is_all (got a (c ∷ s)) = false
is_all (failed f) = false

unfoldable pub is_name_alone : Text → Bool
is_name_alone core = is_all (untyped_name core)

-- The raw text of a value's stretch and the gaps around it. Where nothing but the gap stands before the value in the whole text, it is all of these. Else the
-- gap before is without its white space at the start, and the gap behind without that at its end; but behind a name alone it is whole.
unfoldable pub raw_text : Text → Text → Text → Bool → Text
raw_text before core after at_start =
    if at_start then before ++ (core ++ after) else
    trim_front before ++ (core ++ (if is_name_alone core then after else kept after))

-- ---- which texts are valid

-- the limit against which a raw text is read by itself
abbrev pub raw_limit : ℕ
raw_limit = 128

-- a value, under no extensions and within the limit, with gaps around it, the last of which leaves no line comment open: another character might follow it
pub record RawBody (text : Text) (t : Tree) : Type 0 where
  pub before : Text
  pub core : Text
  pub after : Text
  pub split : text ≡ before ++ (core ++ after)
  pub is_before : LongGap before (core ++ after)
  pub spelled : AnySpells false raw_limit false before core after t
  pub is_after : Gap after (comma ∷ [])

-- the value, where a gap is left that leaves no line comment open
abbrev pub closed : Got Tree → Option Tree
closed (got t rest) = if same_text (skip (rest ++ comma ∷ [])) (comma ∷ []) then Some t else None
closed (failed f) = None

-- the value of a raw text, if it is one
unfoldable pub raw_value : Text → Option Tree
raw_value text = closed (after_gap (read_any false raw_limit false) text)

-- a text that may be a raw text
unfoldable pub raw_valid : Text → Bool
raw_valid text = is_some (raw_value text)

-- ---- what is left of a raw text without its gaps

-- the stretch of the value, and the gap behind it
abbrev pub in_parts : Text → Got Text
in_parts text = stretch (read_any false raw_limit false (gap_of text)) (skip text)

-- without the gaps around its value
unfoldable pub without_gaps : Text → Text
without_gaps text = core_or text (in_parts text)
  where
    core_or : Text → Got Text → Text
    core_or text (got core after) = core
    core_or text (failed f) = text

-- as it is taken where more than a gap stands before its value
unfoldable pub trimmed : Text → Text
trimmed text = taken_or text (in_parts text)
  where
    taken_or : Text → Got Text → Text
    taken_or text (got core after) = raw_text (gap_of text) core after false
    taken_or text (failed f) = text

-- raw texts are the same where their values are
pub record SameRaw (a b : Text) : Type 0 where
  pub value : Tree
  pub first : raw_value a ≡ Some value
  pub second : raw_value b ≡ Some value
