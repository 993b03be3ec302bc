-- Edges: what stands between two neighbouring words; and what may stand in an edge's place.
use Rattle.std.specs.Prelude.{◌≡◌, Bool, true, ◌&&◌, if◌then◌else◌, drop, [], ◌∷◌, ◌++◌, ◌⊎◌}
use lib.Pointwise.{pointwise}
use Rattle.ron_spec_words.specs.Characters.{Text, comma}
use Rattle.ron_spec_words.specs.Runs.{begins, is_at, same_text}
use Rattle.ron_spec_words.specs.Gap.{Gap, LongGap, skip}
use Rattle.ron_spec_words.specs.Scan.{is_closing}
use Rattle.ron_format_words.specs.Alike.{Before, ends_item, may_replace}
use Rattle.ron_format_words.specs.Comments.{comments_of}

-- Before the rest, an edge is the longest gap, or the longest gap, a comma and the longest gap.
pub data IsEdge : Text → Text → Type 0 where
  gap_alone : (gap rest : Text) → LongGap gap rest → IsEdge gap rest
  with_comma : (gap second rest : Text) → Gap gap (comma ∷ (second ++ rest)) → LongGap second rest → IsEdge (gap ++ comma ∷ second) rest

-- the edge holds a comma
abbrev pub holds_comma : Text → Bool
holds_comma edge = is_at comma (skip edge)

-- the text is a gap that leaves no line comment open: a comma behind it is one
abbrev pub is_closed : Text → Bool
is_closed gap = same_text (skip (gap ++ comma ∷ [])) (comma ∷ [])

-- a gap, or a gap, a comma and a gap, that leaves no line comment open
abbrev pub is_closed_edge : Text → Bool
is_closed_edge edge = is_closed (if holds_comma edge then drop 1 (skip edge) else edge)

-- a last comma may come or go: where any may, behind an item and before a closing bracket
abbrev pub takes_last_comma : Bool → Before → Text → Bool
takes_last_comma commas b rest = commas && (ends_item b && begins is_closing rest)

-- Comments aside, the wish may stand in the edge's place. Where both hold a comma, a mark stands beside each of their gaps.
abbrev pub may_stand : Bool → Before → Text → Text → Text → Bool
may_stand commas b edge wish rest =
    if holds_comma edge then (if holds_comma wish then true else takes_last_comma commas b rest) else
    if holds_comma wish then takes_last_comma commas b rest else may_replace b edge wish rest

-- The wish may stand in the edge's place, behind what stands before it and before the rest: it is an edge, holds the same comments in the same order, and
-- changes no word. With `commas`, last commas may come and go.
unfoldable pub permitted : Bool → Before → Text → Text → Text → Bool
permitted commas b edge wish rest = is_closed_edge wish && (pointwise same_text (comments_of edge) (comments_of wish) && may_stand commas b edge wish rest)

-- what is granted in an edge's place: the edge as it stands, or a wish that is permitted
abbrev pub IsGranted : Bool → Before → Text → Text → Text → Type 0
IsGranted commas b edge given rest = (given ≡ edge) ⊎ (permitted commas b edge given rest ≡ true)

-- the wish where it is permitted, and else the edge
unfoldable pub granted : Bool → Before → Text → Text → Text → Text
granted commas b edge wish rest = if permitted commas b edge wish rest then wish else edge
