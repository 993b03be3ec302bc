-- Names, spelled as a plain or as a raw identifier.
--
-- A name where no type is given is not required. The shape of values alone asks for it. Behind a required name none
-- of `.`, `+` and `-` may stand; behind this one they may, so `a.b` is the name `a` with `.b` behind it. Nothing that
-- a value may be followed by begins with these, so each whole text is answered alike.
--
-- `r` is no plain identifier before `#`. Where `r#x` stands, the longest word is the raw identifier. Calling `r` a
-- plain identifier there, with `#x` behind it, would relate no more texts, since `#` follows no name.
use Rattle.std.specs.Prelude.{ℕ, Bool, false, not, ◌&&◌, ◌||◌, ◌==◌, List, [], ◌∷◌, codes, Option, Some, None, if◌then◌else◌}
use Rattle.std.specs.List.{list_all, list_any}
use Rattle.ron_spec_words.specs.Characters.{Text, starts_name, continues_name, in_raw_name, dot, hash, minus, plus, small_r}
use Rattle.ron_spec_words.specs.Runs.{begins_with, same_text}
use Rattle.ron_spec_words.specs.Lang.{Lang, Run, Behind, NotBefore, Means, Or, When}
use Rattle.ron_spec_words.specs.Reader.{Reader, fail, bad, run, behind, not_before, means, pick}

-- where `b"`, `b'`, `br#`, `br"`, `r"` or `r#` stands, no plain identifier begins
abbrev pub opens_literal : Text → Bool
opens_literal s =
    (begins_with (codes "b\"") s || begins_with (codes "b'") s || begins_with (codes "br#") s || begins_with (codes "br\"") s)
    || (begins_with (codes "r\"") s || begins_with (codes "r#") s)

-- `.`, `+` or `-`, which a raw name may hold and a plain one may not
abbrev pub is_name_mark : ℕ → Bool
is_name_mark c = (c == dot) || (c == plus) || (c == minus)

-- A plain identifier: `_` or XID_Start, and then as many XID_Continue characters as there are. Where a name is required, none of `.`, `+` and `-` follows it.
abbrev pub PlainName : Lang Text
PlainName = When (λ s. not (opens_literal s)) (NotBefore is_name_mark (Run starts_name continues_name))

-- A raw identifier: `r#`, and then one or more of `.`, `+`, `-` and XID_Continue, as many as there are. Its name is what stands after `r#`.
abbrev pub RawName : Lang Text
RawName = Behind 114 (Behind 35 (Run in_raw_name in_raw_name))

-- a raw identifier or a plain one
abbrev pub Name : Lang Text
Name = Or RawName PlainName

-- the reader function of names
unfoldable pub name : Reader Text
name =
    pick (begins_with (codes "r#")) (behind small_r (behind hash (run in_raw_name in_raw_name)))
    (pick (λ s. not (opens_literal s)) (not_before is_name_mark (run starts_name continues_name)) (fail bad))

-- this name and no other
abbrev pub if_same : Text → Text → Option Text
if_same name t = if same_text t name then Some name else None

-- an identifier that spells this name
abbrev pub Named : Text → Lang Text
Named n = Means Name (if_same n)

-- the reader function of this name
abbrev pub named : Text → Reader Text
named n = means name (if_same n)

-- ---- where no type is given

-- plain identifiers that stand for values, or begin one: a boolean, an option or a float
abbrev pub value_words : List Text
value_words =
    codes "true" ∷ codes "false" ∷ codes "Some" ∷ codes "None"
    ∷ codes "inf" ∷ codes "inff32" ∷ codes "inff64" ∷ codes "NaN" ∷ codes "NaNf32" ∷ codes "NaNf64" ∷ []

-- a plain identifier, whatever follows it
abbrev pub PlainIdentifier : Lang Text
PlainIdentifier = When (λ s. not (opens_literal s)) (Run starts_name continues_name)

-- this name, where it is none of these words
abbrev pub if_no_value_word : Text → Option Text
if_no_value_word n = if list_any (same_text n) value_words then None else Some n

-- Where no type is given, a name is a raw identifier, or a plain one that is none of these words. It is not required there, so any character that does not go
-- on with it may follow.
abbrev pub UntypedName : Lang Text
UntypedName = Or RawName (Means PlainIdentifier if_no_value_word)

-- the reader function of plain identifiers
abbrev pub plain_identifier : Reader Text
plain_identifier = pick (λ s. not (opens_literal s)) (run starts_name continues_name) (fail bad)

-- the reader function of such names
unfoldable pub untyped_name : Reader Text
untyped_name = pick (begins_with (codes "r#")) (behind small_r (behind hash (run in_raw_name in_raw_name))) (means plain_identifier if_no_value_word)

-- ---- whole texts that are names

-- Some identifier spells a name where it is not empty and holds only `.`, `+`, `-` and XID_Continue.
abbrev pub is_name : Text → Bool
is_name [] = false
is_name (c ∷ n) = list_all in_raw_name (c ∷ n)

-- a text made as a plain identifier is: `_` or XID_Start, and then XID_Continue
abbrev pub is_plain_identifier : Text → Bool
is_plain_identifier [] = false
is_plain_identifier (c ∷ n) = starts_name c && list_all continues_name n
