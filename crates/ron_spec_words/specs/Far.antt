-- How far a look for a name goes: over the name and the gap that stand at a place.
use Rattle.std.specs.Prelude.{ℕ, zero, ◌≤◌, Bool, if◌then◌else◌, drop, length}
use Rattle.ron_spec_words.specs.Characters.{Text, slash, continues_name, in_raw_name}
use Rattle.ron_spec_words.specs.Runs.{is_at, after_run}
use Rattle.ron_spec_words.specs.Gap.{skip}
use Rattle.ron_spec_words.specs.Scan.{opens_raw_name, Walk}

-- how much is left at a word; none where a slash stands, since the comment that it begins may go to the end of the text, and nothing is read behind it
abbrev pub left_from : Text → ℕ
left_from s = if is_at slash s then zero else length s

-- how much is left behind a run of this class and a gap
unfoldable pub left_behind : (ℕ → Bool) → Text → ℕ
left_behind p s = left_from (skip (after_run p s))

-- How much is left behind the name, plain or raw, and the gap that stand here.
abbrev pub far : Text → ℕ
far s = if opens_raw_name s then left_behind in_raw_name (drop 2 s) else left_behind continues_name s

-- Behind whole tokens a look leaves no more than before them.
abbrev pub IsFarWalk : Type 0
IsFarWalk = (commas : Bool) (d e : ℕ) (s u : Text) → Walk commas d s e u → far u ≤ far s
