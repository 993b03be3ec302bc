-- A text cut into its longest tokens, and walks over whole tokens, which count open brackets.
use Rattle.std.specs.Prelude.{◌≡◌, ℕ, zero, suc, pred, Bool, false, not, ◌&&◌, ◌||◌, ◌==◌, nat_lt, if◌then◌else◌, drop, length, [], ◌∷◌, ◌++◌, codes, Option}
use Rattle.std.specs.Prelude.{Some, None}
use Rattle.ron_spec_words.specs.Characters.{Text, is_blank, starts_name, continues_name, in_raw_name, hash, double_quote, single_quote, slash, comma}
use Rattle.ron_spec_words.specs.Characters.{left_parenthesis, right_parenthesis, left_bracket, right_bracket, left_brace, right_brace, small_b, small_r}
use Rattle.ron_spec_words.specs.Runs.{begins, is_at, begins_with, after_run}
use Rattle.ron_spec_words.specs.Gap.{skip}
use Rattle.ron_spec_words.specs.Lang.{Lang}
use Rattle.ron_spec_words.specs.Reader.{Got, got, failed, Reader, run, behind}
use Rattle.ron_spec_words.specs.Quoted.{string, byte_string, char, byte}

-- ---- what opens a token

-- a blank or a slash, with one of which each gap begins that is not empty
abbrev pub starts_gap : ℕ → Bool
starts_gap c = is_blank c || (c == slash)

-- `#`
abbrev pub is_hash : ℕ → Bool
is_hash c = c == hash

-- `r`, hashes or none, and `"`
abbrev pub opens_raw : Text → Bool
opens_raw s = is_at small_r s && is_at double_quote (after_run is_hash (drop 1 s))

-- a string begins here: with `"`, or raw
abbrev pub opens_string : Text → Bool
opens_string s = is_at double_quote s || opens_raw s

-- a byte string begins here: `b` and what begins a string
abbrev pub opens_byte_string : Text → Bool
opens_byte_string s = is_at small_b s && opens_string (drop 1 s)

-- a raw identifier begins here: `r#` and a character that its name may hold
abbrev pub opens_raw_name : Text → Bool
opens_raw_name s = begins_with (codes "r#") s && begins in_raw_name (drop 2 s)

-- what a plain identifier or a run of XID_Continue begins with
abbrev pub starts_run : ℕ → Bool
starts_run c = starts_name c || continues_name c

-- ---- tokens

-- what follows the longest gap, where it is not empty
abbrev pub past_gap : Text → Option Text
past_gap s = if nat_lt (length (skip s)) (length s) then Some (skip s) else None

-- the reader function of raw identifiers
abbrev pub raw_name : Reader Text
raw_name = behind small_r (behind hash (run in_raw_name in_raw_name))

-- what follows one character
abbrev pub past_one : Text → Option Text
past_one [] = None
past_one (c ∷ s) = Some s

-- the text that an answer leaves, if it is one
abbrev pub left_by : {A : Type 0} → Got A → Option Text
left_by (got a rest) = Some rest
left_by (failed f) = None

-- What follows the longest token that begins here: a gap, a string, a byte string, a char literal, a byte literal, an identifier or a run of XID_Continue, or
-- one other character. There is none at the end of the text, and none where a gap or a literal begins that its reader function refuses.
unfoldable pub token : Text → Option Text
token s =
    if begins starts_gap s then past_gap s else
    if opens_string s then left_by (string s) else
    if opens_byte_string s then left_by (byte_string s) else
    if is_at single_quote s then left_by (char s) else
    if begins_with (codes "b'") s then left_by (byte s) else
    if opens_raw_name s then left_by (raw_name s) else
    if begins starts_run s then left_by (run starts_run continues_name s) else past_one s

-- ---- walks

-- `(`, `[` or `{`
abbrev pub is_opening : ℕ → Bool
is_opening c = (c == left_parenthesis) || ((c == left_bracket) || (c == left_brace))

-- `)`, `]` or `}`
abbrev pub is_closing : ℕ → Bool
is_closing c = (c == right_parenthesis) || ((c == right_bracket) || (c == right_brace))

-- how many brackets are open behind a token that begins so
abbrev pub level : ℕ → ℕ → ℕ
level d c = if is_opening c then suc d else if is_closing c then pred d else d

-- A token that begins so ends what stands outside all brackets: a closing bracket, and a comma too, where commas are not allowed.
abbrev pub ends : Bool → ℕ → ℕ → Bool
ends commas zero c = is_closing c || (not commas && (c == comma))
ends commas (suc d) c = false

-- From s, with d brackets open, whole tokens lead to u, with e open, and none of them ends what stands outside all brackets.
pub data Walk (commas : Bool) : ℕ → Text → ℕ → Text → Type 0 where
  here : (d : ℕ) (s : Text) → Walk commas d s d s
  on : (d c : ℕ) (t next : Text) (e : ℕ) (u : Text) → ends commas d c ≡ false → token (c ∷ (t ++ next)) ≡ Some next → Walk commas (level d c) next e u
      → Walk commas d (c ∷ (t ++ next)) e u

-- What the language spells before a text that F allows is a walk at its own depth. With `true`, commas may stand in it outside its brackets.
pub record Passes {A : Type 0} (commas : Bool) (L : Lang A) (F : Text → Type 0) : Type 0 where
  pub over : (d : ℕ) (t next : Text) (a : A) → L t next a → F next → skip (t ++ next) ≡ t ++ next → Walk commas d (t ++ next) d next
