-- How many bytes characters take, and what a look for a word leaves: what stands behind the words and the gap at a place.
use Rattle.std.specs.Prelude.{ℕ, ◌≤◌, ◌||◌, Bool, if◌then◌else◌, drop, length, encode_utf8_all, []}
use Rattle.ron_spec_words.specs.Characters.{Text, slash, in_raw_name}
use Rattle.ron_spec_words.specs.Runs.{is_at, after_run}
use Rattle.ron_spec_words.specs.Gap.{skip}
use Rattle.ron_spec_words.specs.Scan.{starts_run, is_hash, opens_raw_name, Walk}

-- the bytes that the characters take
unfoldable pub bytes_in : Text → ℕ
bytes_in s = length (encode_utf8_all s)

-- what a run is made of that a look goes over: identifiers, and hashes, which may open a raw string
abbrev pub in_look : ℕ → Bool
in_look c = starts_run c || is_hash c

-- what is left behind a gap; nothing where a slash stands there, since the comment that it begins may go to the end of the text, and nothing is read behind it
unfoldable pub past_words : Text → Text
past_words s = if is_at slash (skip s) then [] else skip s

-- what is left behind such a run and a gap
unfoldable pub past_look : Text → Text
past_look s = past_words (after_run in_look s)

-- What is left behind the words, a raw identifier first, and the gap that stand here.
unfoldable pub beyond : Text → Text
beyond s = past_look (if opens_raw_name s then after_run in_raw_name (drop 2 s) else s)

-- Behind whole tokens a look leaves no more bytes than before them.
abbrev pub IsBeyondWalk : Type 0
IsBeyondWalk = (commas : Bool) (d e : ℕ) (s u : Text) → Walk commas d s e u → bytes_in (beyond u) ≤ bytes_in (beyond s)
