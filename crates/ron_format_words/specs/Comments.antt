-- The comments of a text, and what a text says: its words and its comments, in their order.
use Rattle.std.specs.Prelude.{ℕ, zero, suc, ◌-◌, ◌&&◌, ◌==◌, if◌then◌else◌, List, length, take, [], ◌∷◌, ◌++◌, option_map, unwrap_or}
use Rattle.ron_spec_words.specs.Characters.{Text, is_blank, comma}
use Rattle.ron_spec_words.specs.Runs.{is_ended}
use Rattle.ron_spec_words.specs.Gap.{after_comment}
use Rattle.ron_spec_words.specs.Scan.{token, starts_gap}

-- the text without the blanks at its end
abbrev pub without_last_blanks : Text → Text
without_last_blanks [] = []
without_last_blanks (c ∷ s) = if is_blank c && is_ended (without_last_blanks s) then [] else c ∷ without_last_blanks s

-- The comment with which a text begins, where this rest follows it: without the blanks at its end, as a line comment has them with its LF.
abbrev pub comment_before : Text → Text → Text
comment_before rest s = without_last_blanks (take (length s - length rest) s)

-- The comments from here on, where so many characters of a comment are still to be passed. What is no comment is left out.
unfoldable pub comments_from : ℕ → Text → List Text
comments_from k [] = []
comments_from (suc k) (c ∷ s) = comments_from k s
comments_from zero (c ∷ s) =
    unwrap_or (option_map (λ rest. comment_before rest (c ∷ s) ∷ comments_from (length s - length rest) s) (after_comment (c ∷ s))) (comments_from zero s)

-- the comments of a gap, or of a gap, a comma and a gap, in their order
unfoldable pub comments_of : Text → List Text
comments_of edge = comments_from zero edge

-- what a token says: a gap its comments, a comma nothing, and any other token itself
abbrev pub told : Text → List Text
told [] = []
told (c ∷ t) = if starts_gap c then comments_of (c ∷ t) else if c == comma then [] else (c ∷ t) ∷ []

-- what is said from here on, where so many characters of a token are still to be passed
unfoldable pub said_from : ℕ → Text → List Text
said_from k [] = []
said_from (suc k) (c ∷ s) = said_from k s
said_from zero (c ∷ s) =
    unwrap_or (option_map (λ rest. told (take (length (c ∷ s) - length rest) (c ∷ s)) ++ said_from (length s - length rest) s) (token (c ∷ s))) []

-- What a text says: its words, marks and comments in their order, but for commas. So each comment stands between the same words. Behind a broken token nothing
-- is said.
unfoldable pub said : Text → List Text
said s = said_from zero s
