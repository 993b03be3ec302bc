-- Texts that are laid out: each token is whole, and each bracket is closed by one of its kind.
use Rattle.std.specs.Prelude.{◌≡◌, ℕ, Bool, false, ◌==◌, if◌then◌else◌, List, map, reverse, [], ◌∷◌, Option, Some, None, chars}
use Rattle.ron_spec_words.specs.Characters.{Text, left_parenthesis, right_parenthesis, left_bracket, right_bracket, right_brace}
use Rattle.ron_spec_words.specs.Scan.{token, is_opening, is_closing}
use Rattle.ron_format.specs.declared.brackets.Brackets.{Brackets}

-- the second bracket closes what the first opens
abbrev pub is_pair : ℕ → ℕ → Bool
is_pair opening closing =
    if opening == left_parenthesis then closing == right_parenthesis else
    if opening == left_bracket then closing == right_bracket else closing == right_brace

-- it closes the bracket with which a text begins
abbrev pub closes : Text → ℕ → Bool
closes [] closing = false
closes (opening ∷ t) closing = is_pair opening closing

-- Which brackets are open behind a closing one, the innermost first; none where it is of another kind, or closes none. Each is told by the text from it on.
abbrev pub closed_by : ℕ → List Text → Option (List Text)
closed_by c [] = None
closed_by c (o ∷ around) = if closes o c then Some around else None

-- so behind a token that begins with this character, where it and what follows it are this text
abbrev pub next_behind : List Text → ℕ → Text → Option (List Text)
next_behind around c s = if is_opening c then Some (s ∷ around) else if is_closing c then closed_by c around else Some around

-- and behind the token with which a text begins
abbrev pub next_open : List Text → Text → Option (List Text)
next_open around [] = Some around
next_open around (c ∷ t) = next_behind around c (c ∷ t)

-- Tokens lead from a text, within these open brackets, to these last ones and this end of it: each token is whole, and each bracket is closed by one of its
-- kind.
pub data Leads (last : List Text) (end : Text) : List Text → Text → Type 0 where
  here : Leads last end last end
  on : (around behind : List Text) (s next : Text)
      → token s ≡ Some next → next_open around s ≡ Some behind → Leads last end behind next → Leads last end around s

-- so to the end of the text, where no bracket is open
abbrev pub WholeFrom : List Text → Text → Type 0
WholeFrom around s = Leads [] [] around s

-- so of the whole text
abbrev pub IsWhole : Text → Type 0
IsWhole s = WholeFrom [] s

-- from some open brackets on
pub record IsWholeOn (rest : Text) : Type 0 where
  pub around : List Text
  pub whole : WholeFrom around rest

-- the brackets that the code holds to be open, the innermost first
abbrev pub open_view : Brackets → List Text
open_view brackets = reverse (map (λ o. chars o.rest.now) brackets.open.items)
