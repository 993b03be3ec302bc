-- Worked texts of whole documents, with attributes or deep, each answered by computing the reader function.
use Rattle.std.proofs.Common.{◌≡◌, ℕ, zero, suc, [], ◌∷◌, ◌++◌, codes, pos, refl}
use Rattle.ron_spec_words.specs.Characters.{Text}
use Rattle.ron_spec_words.specs.Reader.{deep, bad}
use Rattle.ron_value_number.specs.declared.width.Width.TheVariants.{U8}
use Rattle.ron_base.specs.Extensions.{no_extensions}
use Rattle.ron_spec_grammar.specs.Data.{Data, int_of, some_of, list_of, tuple_of, newtype_of, struct_of, unit_variant_of, no_datas, data_and, no_fields}
use Rattle.ron_spec_grammar.specs.Data.{field_and}
use Rattle.ron_spec_grammar.specs.Schema.{unit_variant, int, optional, seq, tuple, newtype, struct, enum, only, field}
use Rattle.ron_spec_grammar.specs.Document.{Answer, ok, err, answer, answer_document}
use Rattle.ron_spec_grammar.proofs.Computing.{reading}

abbrev small : ℕ → Data
small n = int_of U8 (pos n)

-- ---- attributes

-- a u8, and an option of one, by a text that announces what it needs
abbrev number_in : Text → Answer
number_in text = answer_document no_extensions (int U8 ∷ []) 0 0 text

abbrev option_in : Text → Answer
option_in text = answer_document no_extensions (optional 1 ∷ int U8 ∷ []) 0 1 text

announced : option_in (codes "#![enable(implicit_some,)]5") ≡ ok (some_of (small 5))
unfolding reading
announced = refl

raw_name_announced : option_in (codes "#![enable(r#implicit_some)]5") ≡ ok (some_of (small 5))
unfolding reading
raw_name_announced = refl

not_announced : option_in (codes "5") ≡ err bad
unfolding reading
not_announced = refl

-- between any two words of an attribute a gap may stand
gaps_in_attribute : number_in (codes "# ! [type = \"a\"] 5") ≡ ok (small 5)
unfolding reading
gaps_in_attribute = refl

comment_in_attribute : number_in (codes "#/**/![schema=r\"a\"]/**/5") ≡ ok (small 5)
unfolding reading
comment_in_attribute = refl

no_such_extension : number_in (codes "#![enable(foo)]5") ≡ err bad
unfolding reading
no_such_extension = refl

capitals : option_in (codes "#![enable(Implicit_Some)]5") ≡ err bad
unfolding reading
capitals = refl

no_name : number_in (codes "#![enable()]5") ≡ err bad
unfolding reading
no_name = refl

two_last_commas : option_in (codes "#![enable(implicit_some,,)]5") ≡ err bad
unfolding reading
two_last_commas = refl

no_comma : option_in (codes "#![enable(implicit_some implicit_some)]5") ≡ err bad
unfolding reading
no_comma = refl

longer_word : option_in (codes "#![enabled(implicit_some)]5") ≡ err bad
unfolding reading
longer_word = refl

no_exclamation_mark : option_in (codes "#[enable(implicit_some)]5") ≡ err bad
unfolding reading
no_exclamation_mark = refl

unclosed : option_in (codes "#![enable(implicit_some)5") ≡ err bad
unfolding reading
unclosed = refl

no_string : number_in (codes "#![type=b\"a\"]5") ≡ err bad
unfolding reading
no_string = refl

no_value : option_in (codes "#![enable(implicit_some)]") ≡ err bad
unfolding reading
no_value = refl

behind_the_value : number_in (codes "5#![type=\"a\"]") ≡ err bad
unfolding reading
behind_the_value = refl

-- what several attributes announce is in force together
two_attributes : answer_document no_extensions (optional 1 ∷ newtype (codes "N") 2 ∷ int U8 ∷ []) 0 2
    (codes " #![type=\"t\"]#![ enable ( unwrap_newtypes ) ]#![enable(implicit_some)] 5") ≡ ok (some_of (newtype_of (codes "N") (small 5)))
unfolding reading
two_attributes = refl

abbrev named : Text → Answer
named text = answer_document no_extensions (struct (codes "S") (only (field (codes "x") 1 ∷ [])) ∷ int U8 ∷ []) 0 2 text

name_announced : named (codes "#![enable(explicit_struct_names)]S(x:1)") ≡ ok (struct_of (codes "S") (field_and (codes "x") (small 1) no_fields))
unfolding reading
name_announced = refl

name_missing : named (codes "#![enable(explicit_struct_names)](x:1)") ≡ err bad
unfolding reading
name_missing = refl

-- an attribute takes no level
too_deep : answer_document no_extensions (optional 1 ∷ int U8 ∷ []) 0 0 (codes "#![enable(implicit_some)]5") ≡ err deep
unfolding reading
too_deep = refl

-- ---- depth

-- so many lists, one in the other, as a text and as data
abbrev brackets : ℕ → Text
brackets zero = []
brackets (suc n) = codes "[" ++ (brackets n ++ codes "]")

abbrev lists : ℕ → Data
lists zero = list_of no_datas
lists (suc n) = list_of (data_and (lists n) no_datas)

-- a list and an item in it take a level each: 64 lists in one another stand 127 levels deep, and 65 stand 129 deep
lists_64 : answer no_extensions (seq 0 ∷ []) 0 127 (brackets 64) ≡ ok (lists 63)
unfolding reading
lists_64 = refl

lists_65 : answer no_extensions (seq 0 ∷ []) 0 128 (brackets 65) ≡ err deep
unfolding reading
lists_65 = refl

-- ---- names past ASCII

letters : answer no_extensions (tuple (1 ∷ 2 ∷ []) ∷ enum (codes "E") (record { name = codes "Äöß"; content = unit_variant } ∷ [])
    ∷ enum (codes "F") (record { name = codes "你好世界"; content = unit_variant } ∷ []) ∷ []) 0 4 (codes "(Äöß,你好世界)")
    ≡ ok (tuple_of (data_and (unit_variant_of (codes "E") (codes "Äöß")) (data_and (unit_variant_of (codes "F") (codes "你好世界")) no_datas)))
unfolding reading
letters = refl
