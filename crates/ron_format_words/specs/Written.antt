-- A text that is written anew, edge for edge and token for token: what holds of what is written so far.
use Rattle.std.specs.Prelude.{◌≡◌, if◌then◌else◌, [], ◌∷◌, ◌++◌}
use Rattle.ron_spec_words.specs.Characters.{Text, comma}
use Rattle.ron_format_words.specs.Alike.{is_mark, Before, a_mark, a_word, mark_before, Step}
use Rattle.ron_format_words.specs.Comments.{said}
use Rattle.ron_format_words.specs.Edge.{holds_comma}
use Rattle.ron_format_words.specs.Places.{Place, place_behind, commas_in, AlikeFrom, SameText}

-- what stands before the edge behind a token: the token as this text begins with it
abbrev pub before_edge : Text → Before
before_edge [] = a_mark
before_edge (c ∷ s) = if is_mark c then mark_before c else a_word

-- the place behind the token with which the text begins
abbrev pub place_past : Place → Text → Place
place_past p [] = p
place_past p (c ∷ s) = place_behind p c

-- the place behind an edge: a comma in it is a mark too
abbrev pub place_past_edge : Place → Text → Place
place_past_edge p edge = if holds_comma edge then place_behind p comma else p

-- ---- what is kept

-- the whole texts are made of the same words, and say the same
pub record Kept (s u : Text) : Type 0 where
  pub words : SameText s u
  pub comments : said s ≡ said u

-- so from a word at this place on
pub record KeptFromWord (p : Place) (s u : Text) : Type 0 where
  pub words : AlikeFrom p s u
  pub comments : said s ≡ said u

-- so from an edge on, at this place and behind this
pub record KeptFromEdge (p : Place) (b : Before) (s u : Text) : Type 0 where
  pub rest : Text
  pub other : Text
  pub step : Step (commas_in p) b s u rest other
  pub words : AlikeFrom p rest other
  pub comments : said s ≡ said u

-- ---- what is written so far

-- The text is written up to a word at this place: whatever keeps the rest from there on keeps the text, put behind what is written.
pub record WrittenToWord (p : Place) (text out rest : Text) : Type 0 where
  pub goes_on : (v : Text) → KeptFromWord p rest v → Kept text (out ++ v)

-- so up to an edge
pub record WrittenToEdge (p : Place) (b : Before) (text out rest : Text) : Type 0 where
  pub goes_on : (v : Text) → KeptFromEdge p b rest v → Kept text (out ++ v)
