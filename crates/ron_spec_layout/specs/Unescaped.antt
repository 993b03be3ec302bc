-- Strings and bytes as they are written where they are not escaped.
use Rattle.std.specs.Prelude.{ℕ, suc, max, Bool, not, ◌||◌, ◌==◌, if◌then◌else◌, List, [], ◌∷◌, ◌++◌, length, codes, chars}
use Rattle.std.specs.List.{list_any}
use Rattle.std.specs.Str.{is_utf8}
use Rattle.ron_spec_words.specs.Characters.{Text, double_quote, backslash, hash}
use Rattle.ron_spec_words.specs.Runs.{run_of}
use Rattle.ron_spec_words.specs.Quoted.{hashes}
use Rattle.ron_spec_layout.specs.Literals.{written_string, written_bytes}

-- the length of the longest run of hashes in a text
abbrev pub longest_hashes : Text → ℕ
longest_hashes [] = 0
longest_hashes (c ∷ t) = max (length (run_of (λ d. d == hash) (c ∷ t))) (longest_hashes t)

-- a quote or a backslash stands in the text
abbrev pub needs_raw : Text → Bool
needs_raw t = list_any (λ c. (c == double_quote) || (c == backslash)) t

-- so many hashes, the text between quotes, and as many hashes
abbrev pub between_hashes : ℕ → Text → Text
between_hashes n t = hashes n ++ double_quote ∷ (t ++ double_quote ∷ hashes n)

-- A text between quotes. Where a quote or a backslash stands in it, it is raw, with one hash more than its longest run of hashes.
abbrev pub unescaped : Text → Text
unescaped t = if needs_raw t then codes "r" ++ between_hashes (suc (longest_hashes t)) t else codes "\"" ++ (t ++ codes "\"")

-- a string, escaped where that is asked for
abbrev pub string_text : Bool → Text → Text
string_text escape t = if escape then written_string t else unescaped t

-- Bytes, likewise. Those that are no UTF-8 are escaped whatever is asked for.
abbrev pub bytes_text : Bool → List ℕ → Text
bytes_text escape bs = if escape || not (is_utf8 bs) then written_bytes bs else codes "b" ++ unescaped (chars bs)
