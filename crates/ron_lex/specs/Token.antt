-- What follows a word, or nothing where none stands.
use Rattle.std.specs.Prelude.{◌≡◌, ◌==◌, ◌||◌, List, ℕ, Bool, not, chars, codes, if◌then◌else◌, Option, Some, None}
use Rattle.std.specs.Borrow.{Bor}
use Rattle.ron_spec_words.specs.Characters.{Text, is_blank, continues_name, slash, double_quote, single_quote, small_b, small_r}
use Rattle.ron_spec_words.specs.Runs.{begins, begins_with}
use Rattle.ron_spec_words.specs.Reader.{run}
use Rattle.ron_spec_words.specs.Quoted.{byte}
use Rattle.ron_spec_words.specs.Scan.{opens_raw_name, starts_run, raw_name, left_by, past_one}

-- a slice of the text is what the answer names, by its characters
abbrev pub Leaves : Option (Bor (List ℕ)) → Option Text → Type 0
Leaves None answer = answer ≡ None
Leaves (Some rest) answer = answer ≡ Some (chars rest.now)

-- a character with which neither a gap, a literal nor a raw identifier begins
abbrev pub is_plain : ℕ → Bool
is_plain c = not (is_blank c || ((c == slash) || ((c == double_quote) || ((c == single_quote) || ((c == small_b) || (c == small_r))))))

-- what follows an identifier or a run of XID_Continue, or else one character
abbrev pub past_run : Text → Option Text
past_run s = if begins starts_run s then left_by (run starts_run continues_name s) else past_one s

-- what follows a token that is neither a gap nor begins with a string or a char literal
abbrev pub past_literal : Text → Option Text
past_literal s =
    if begins_with (codes "b'") s then left_by (byte s) else
    if opens_raw_name s then left_by (raw_name s) else past_run s
