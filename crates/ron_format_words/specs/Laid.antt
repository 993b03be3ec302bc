-- A text laid out anew: for each edge a layout says what it wishes in its place, and where that is permitted it stands.
use Rattle.std.specs.Prelude.{◌≡◌, ℕ, zero, suc, ◌-◌, Bool, ◌&&◌, if◌then◌else◌, length, take, drop, [], ◌∷◌, ◌++◌, Option, Some, None, option_map}
use Rattle.std.specs.Prelude.{option_and_then}
use Rattle.ron_spec_words.specs.Characters.{Text, comma}
use Rattle.ron_spec_words.specs.Runs.{is_at}
use Rattle.ron_spec_words.specs.Gap.{skip, gap_of}
use Rattle.ron_spec_words.specs.Scan.{token, starts_gap}
use Rattle.ron_format_words.specs.Alike.{Before, a_mark, ends_item}
use Rattle.ron_format_words.specs.Comments.{said}
use Rattle.ron_format_words.specs.Edge.{granted}
use Rattle.ron_format_words.specs.Places.{Place, in_head, commas_in, SameText}
use Rattle.ron_format_words.specs.Written.{before_edge, place_past, place_past_edge}

-- what a layout wishes in place of the n-th edge of a text
abbrev pub Wish : Type 0
Wish = ℕ → Text

-- a comma that stands behind an item is part of the edge there
abbrev pub is_separated : Before → Text → Bool
is_separated b s = ends_item b && is_at comma (skip s)

-- the edge with which the text begins, behind what stands before it; and what follows it
unfoldable pub edge_of : Before → Text → Text
edge_of b s = if is_separated b s then gap_of s ++ comma ∷ gap_of (drop 1 (skip s)) else gap_of s

unfoldable pub past_edge : Before → Text → Text
past_edge b s = if is_separated b s then skip (drop 1 (skip s)) else skip s

-- what is granted for the edge with which the text begins
unfoldable pub granted_at : Place → Before → Text → Text → Text
granted_at p b wish s = granted (commas_in p (past_edge b s)) b (edge_of b s) wish (past_edge b s)

-- The text from a word on, where so many characters are still to be passed and so many edges stand before it. There is none where a token is broken.
unfoldable pub laid_from : Wish → ℕ → ℕ → Place → Text → Option Text
laid_from wish k n p [] = Some []
laid_from wish (suc k) n p (c ∷ s) = laid_from wish k n p s
laid_from wish zero n p (c ∷ s) =
    if starts_gap c then None else
    option_and_then
    (λ next.
    option_map
    (λ u. take (length (c ∷ s) - length next) (c ∷ s) ++ (granted_at (place_past p (c ∷ s)) (before_edge (c ∷ s)) (wish n) next ++ u))
    (laid_from wish (length s - length (past_edge (before_edge (c ∷ s)) next)) (suc n)
    (place_past_edge (place_past p (c ∷ s)) (edge_of (before_edge (c ∷ s)) next)) s))
    (token (c ∷ s))

-- the whole text
unfoldable pub laid : Wish → Text → Option Text
laid wish s = option_map (λ u. granted_at in_head a_mark (wish 0) s ++ u) (laid_from wish zero 1 in_head (skip s))

-- Whatever a layout wishes, the text that is laid out is made of the same words.
abbrev pub KeepsWords : Type 0
KeepsWords = (wish : Wish) (s u : Text) → laid wish s ≡ Some u → SameText s u

-- And it says the same: the comments are the same, each between the same words.
abbrev pub KeepsComments : Type 0
KeepsComments = (wish : Wish) (s u : Text) → laid wish s ≡ Some u → said s ≡ said u
