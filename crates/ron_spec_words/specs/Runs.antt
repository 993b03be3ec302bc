-- Runs of characters of a class.
use Rattle.std.specs.Prelude.{◌≡◌, ℕ, Bool, true, false, ◌&&◌, ◌==◌, if◌then◌else◌, bytes_eq, [], ◌∷◌}
use Rattle.ron_spec_words.specs.Characters.{Text}

-- the text begins with a character of the class
abbrev pub begins : (ℕ → Bool) → Text → Bool
begins p [] = false
begins p (c ∷ s) = p c

-- the text begins with the character
abbrev pub is_at : ℕ → Text → Bool
is_at c s = begins (λ d. d == c) s

-- no character is left
abbrev pub is_ended : Text → Bool
is_ended [] = true
is_ended (c ∷ s) = false

-- every character is of the class
abbrev pub Every : (ℕ → Bool) → Text → Type 0
Every p [] = Unit {0}
Every p (c ∷ s) = (p c ≡ true) × Every p s

-- the longest front of characters of the class, and what follows it
abbrev pub run_of : (ℕ → Bool) → Text → Text
run_of p [] = []
run_of p (c ∷ s) = if p c then c ∷ run_of p s else []

-- what follows that run
abbrev pub after_run : (ℕ → Bool) → Text → Text
after_run p [] = []
after_run p (c ∷ s) = if p c then after_run p s else c ∷ s

-- the text begins with these characters
abbrev pub begins_with : Text → Text → Bool
begins_with [] s = true
begins_with (c ∷ w) [] = false
begins_with (c ∷ w) (d ∷ s) = (d == c) && begins_with w s

-- two texts are the same
abbrev pub same_text : Text → Text → Bool
same_text = bytes_eq
