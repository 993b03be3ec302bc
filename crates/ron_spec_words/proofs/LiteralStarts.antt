-- What integers and literals begin with: so each is told from what may stand in its place.
use Rattle.std.proofs.Common.{ℕ, ◌≡◌, true, ◌∷◌, ◌++◌, inl, inr}
use Rattle.std.specs.Char.{is_ascii_hexdigit}
use Rattle.ron_spec_words.specs.Characters.{Text}
use Rattle.ron_spec_words.specs.Number.{Number}
use Rattle.ron_spec_words.specs.Lang.{Or}
use Rattle.ron_spec_words.specs.Quoted.{Char, Byte, QuotedBytes, RawBytes, String, ByteString}
use Rattle.ron_spec_words.proofs.Words.{First, first_behind, first_or}
use Rattle.ron_spec_words.proofs.Direct.{first_directly}
use Rattle.ron_spec_words.proofs.Numbers.{first_magnitude}

-- an integer: a sign or a hexadecimal digit
pub first_number : (P : Text → Type 0) → ((s : Text) → P (43 ∷ s)) → ((s : Text) → P (45 ∷ s)) → ((c : ℕ) (s : Text) → is_ascii_hexdigit c ≡ true → P (c ∷ s))
    → First P Number
first_number P plus minus digit = first_or (first_behind P 43 _ plus) (first_or (first_behind P 45 _ minus) (first_directly (first_magnitude P digit)))

-- a char literal: `'`
pub first_char : (P : Text → Type 0) → ((s : Text) → P (39 ∷ s)) → First P Char
first_char P k = first_behind P 39 _ k

-- a byte literal: `b'`
pub first_byte : (P : Text → Type 0) → ((s : Text) → P (98 ∷ 39 ∷ s)) → First P Byte
first_byte P k = record { holds = λ t next a z. rw (z.split, z.spelled.split) (k (z.spelled.rest ++ next)) }

-- a string: `"` or `r`
pub first_string : (P : Text → Type 0) → ((s : Text) → P (34 ∷ s)) → ((s : Text) → P (114 ∷ s)) → First P String
first_string P quote raw = first_or (first_behind P 34 _ quote) (first_behind P 114 _ raw)

-- a byte string: `b"` or `br`
pub first_byte_string : (P : Text → Type 0) → ((s : Text) → P (98 ∷ 34 ∷ s)) → ((s : Text) → P (98 ∷ 114 ∷ s)) → First P ByteString
first_byte_string P quote raw = record { holds = λ t next a z. rw z.split (go z.rest next a z.spelled) }
  where
    go : (t next a : Text) → Or QuotedBytes RawBytes t next a → P (98 ∷ (t ++ next))
    go t next a (inl y) = rw y.split (quote (y.rest ++ next))
    go t next a (inr y) = rw y.split (raw (y.rest ++ next))
