-- Literals as a configuration asks for them stand for what they are of: unescaped texts, and integers with suffixes.
use Rattle.std.proofs.Common.{◌≡◌, ℕ, suc, ◌≤◌, ◌==◌, Bool, true, false, not, ◌||◌, cond, List, [], ◌∷◌, ℤ, ◌++◌, length, codes, chars, flat_map, encode_utf8}
use Rattle.std.proofs.Common.{inl, inr, Some, refl, ap, subst, ◌∙◌, arith}
use Rattle.std.specs.List.{list_all}
use Rattle.std.specs.Str.{is_utf8}
use Rattle.std.proofs.lemmas.Bool.{or_parts, not-true}
use Rattle.std.proofs.lemmas.Str.{encodes-chars, IsUtf8-from_is_utf8}
use lib.Utf8.{scalar}
use Rattle.ron_spec_words.specs.Characters.{Text, double_quote, backslash}
use Rattle.ron_spec_words.specs.Runs.{Every, run_of}
use Rattle.ron_spec_words.specs.Gap.{skip, ends_value}
use Rattle.ron_spec_words.specs.Lang.{Lang, Means}
use Rattle.ron_spec_words.specs.Quoted.{Pieces, StringPiece, itself, StringEscape, ByteStringEscape, String, ByteString}
use Rattle.ron_spec_words.specs.Number.{Numeral}
use Rattle.ron_spec_words.specs.AnyInteger.{AnyInteger, UntypedInteger}
use Rattle.ron_spec_words.specs.Range.{NumberOrRange}
use Rattle.ron_spec_words.proofs.AnyIntegers.{any_integer_solid}
use Rattle.ron_spec_words.proofs.Gaps.{skip-other}
use Rattle.ron_spec_words.proofs.LiteralStarts.{first_string, first_byte_string}
use Rattle.ron_spec_words.proofs.LiteralsWritten.{FewHashes, pieces_in_row, piece_plain, raw_written}
use Rattle.ron_spec_words.proofs.Slices.{flat_map-itself}
use Rattle.ron_value_number.specs.declared.width.Width.{Width}
use Rattle.ron_value_number.specs.declared.width.Width.TheVariants.{I8, I16, I32, I64, I128, U8, U16, U32, U64, U128}
use Rattle.ron_value_number.specs.Width.{fits, same_width}
use Rattle.ron_value.specs.Tree as tree
use Rattle.ron_spec_grammar.specs.Data.{int_of}
use Rattle.ron_spec_grammar.specs.Shapes.Int.{in_width}
use Rattle.ron_spec_grammar.specs.Values.Trees.{normal}
use Rattle.ron_spec_grammar.specs.Values.Grammar.{number_tree, interval_value}
use Rattle.ron_spec_grammar.proofs.Raw.Points.{one_stands}
use Rattle.ron_spec_layout.specs.Literals.{written_bytes, number_text}
use Rattle.ron_spec_layout.specs.Stand.{Stands, Ends}
use Rattle.ron_spec_layout.specs.Unescaped.{longest_hashes, needs_raw, between_hashes, unescaped, string_text, bytes_text}
use Rattle.ron_spec_layout.proofs.Stands.{at_once, whole, stands_means}
use Rattle.ron_spec_layout.proofs.Quoted.{is_byte, string_written, bytes_written, word_stands}
use Rattle.ron_spec_layout.proofs.Integers.{plain_numeral, plain_value, plain_suits}
use Rattle.ron_spec_layout.proofs.ValueWords.{number_is}
use Rattle.ron_spec_layout.proofs.Ranges.{own_numeral, plain_bounded, own_bounded, width_is}
use Rattle.ron_spec_layout.proofs.RangeLaw.{own_number}

-- ---- unescaped texts

abbrev is_hash : ℕ → Bool
is_hash c = c == 35

run_longest : (t : Text) → length (run_of is_hash t) ≤ longest_hashes t
run_longest [] = omega arith
run_longest (c ∷ t) = omega arith

few : (n : ℕ) (t : Text) → longest_hashes t ≤ n → FewHashes (suc n) t
few n [] h = tt
few n (c ∷ t) h = let k : longest_hashes t ≤ n = omega (arith, h) in (let r = run_longest t in omega (arith, k, r), few n t k)

-- no quote and no backslash
abbrev is_plain : ℕ → Bool
is_plain c = not ((c == double_quote) || (c == backslash))

all_plain : (t : Text) → needs_raw t ≡ false → Every is_plain t
all_plain [] h = tt
all_plain (c ∷ t) h = let k = or_parts ((c == double_quote) || (c == backslash)) (needs_raw t) h in (ap not k.0, all_plain t k.1)

module _ (give : ℕ → Text) (E : Lang Text) where
  plain_piece : (c : ℕ) (next : Text) → is_plain c ≡ true → StringPiece give E (c ∷ []) next (give c)
  plain_piece c next h = let k = or_parts (c == double_quote) (c == backslash) (not-true _ h) in piece_plain give E c next k.0 k.1

  plain_pieces : (t next : Text) → needs_raw t ≡ false → Pieces (StringPiece give E) (t ++ 34 ∷ []) next (flat_map give t)
  plain_pieces t next h = subst (λ u. Pieces (StringPiece give E) (u ++ 34 ∷ []) next (flat_map give t)) (flat_map-itself t)
      (pieces_in_row (StringPiece give E) give itself is_plain plain_piece t next (all_plain t h))

unescaped_string : (t next : Text) → String (unescaped t) next t
unescaped_string t next = go (needs_raw t) refl
  where
    go : (b : Bool) → needs_raw t ≡ b → String (cond b (codes "r" ++ between_hashes (suc (longest_hashes t)) t) (codes "\"" ++ (t ++ codes "\""))) next t
    go true e = inr (record { rest = _; split = refl; spelled = raw_written (suc (longest_hashes t)) t next (few (longest_hashes t) t (omega arith)) })
    go false e = inl (record {
      rest = _;
      split = refl;
      spelled = subst (λ u. Pieces (StringPiece itself StringEscape) (t ++ 34 ∷ []) next u) (flat_map-itself t) (plain_pieces itself StringEscape t next e);
    })

unescaped_bytes : (t next : Text) → ByteString (codes "b" ++ unescaped t) next (flat_map encode_utf8 t)
unescaped_bytes t next = go (needs_raw t) refl
  where
    go : (b : Bool) → needs_raw t ≡ b → ByteString
        (codes "b" ++ cond b (codes "r" ++ between_hashes (suc (longest_hashes t)) t) (codes "\"" ++ (t ++ codes "\""))) next (flat_map encode_utf8 t)
    go true e = record {
      rest = _;
      split = refl;
      spelled = inr (record {
        rest = _;
        split = refl;
        spelled = record { value = t; spelled = raw_written (suc (longest_hashes t)) t next (few (longest_hashes t) t (omega arith)); meant = refl };
      });
    }
    go false e =
        record { rest = _; split = refl; spelled = inl (record { rest = _; split = refl; spelled = plain_pieces encode_utf8 ByteStringEscape t next e }) }

pub string_text_stands : (escape : Bool) (t next : Text) → list_all scalar t ≡ true → Ends next → Stands (λ before. String) (string_text escape t) next t
string_text_stands escape t next h e =
    word_stands (first_string (λ s. skip s ≡ s) (λ s. skip-other 34 s refl refl) (λ s. skip-other 114 s refl refl)) (go escape) e
  where
    go : (b : Bool) → String (string_text b t) next t
    go true = string_written t next h
    go false = unescaped_string t next

pub bytes_text_stands : (escape : Bool) (bs : List ℕ) (next : Text) → list_all is_byte bs ≡ true → Ends next
    → Stands (λ before. ByteString) (bytes_text escape bs) next bs
bytes_text_stands escape bs next h e = word_stands
    (first_byte_string (λ s. skip s ≡ s) (λ s. skip-other 98 (34 ∷ s) refl refl) (λ s. skip-other 98 (114 ∷ s) refl refl)) (go escape (is_utf8 bs) refl) e
  where
    go : (b u : Bool) → is_utf8 bs ≡ u → ByteString (cond (b || not u) (written_bytes bs) (codes "b" ++ unescaped (chars bs))) next bs
    go true u k = bytes_written bs next h
    go false true k =
        subst (λ t. ByteString (codes "b" ++ unescaped (chars bs)) next t) (encodes-chars bs (IsUtf8-from_is_utf8 bs k)) (unescaped_bytes (chars bs) next)
    go false false k = bytes_written bs next h

-- ---- integers, with suffixes or without

-- what an integer spells as it is written
abbrev spelled_numeral : Bool → Width → ℤ → Numeral
spelled_numeral false w n = plain_numeral n
spelled_numeral true w n = own_numeral w n

number_spelled : (suffixes : Bool) (w : Width) (n : ℤ) (next : Text) → fits w n ≡ true → Ends next
    → UntypedInteger (number_text suffixes w n) next (spelled_numeral suffixes w n)
number_spelled false w n next h e = (plain_bounded w n h).alone next e
number_spelled true w n next h e = (own_bounded w n h).alone next e

number_solid : (suffixes : Bool) (w : Width) (n : ℤ) (next : Text) → fits w n ≡ true → Ends next
    → skip (number_text suffixes w n ++ next) ≡ number_text suffixes w n ++ next
number_solid suffixes w n next h e =
    (any_integer_solid.holds (number_text suffixes w n) next (spelled_numeral suffixes w n) (number_spelled suffixes w n next h e).1).1

own_width : (w : Width) → same_width w w ≡ true
own_width I8 = refl
own_width I16 = refl
own_width I32 = refl
own_width I64 = refl
own_width I128 = refl
own_width U8 = refl
own_width U16 = refl
own_width U32 = refl
own_width U64 = refl
own_width U128 = refl

in_its_width : (suffixes : Bool) (w : Width) (n : ℤ) → fits w n ≡ true → in_width w (spelled_numeral suffixes w n) ≡ Some (int_of w n)
in_its_width false w n h = rw (plain_suits w n, plain_value n, h) refl
in_its_width true w n h = rw (width_is w, own_width w, plain_value n, h) refl

-- an integer of a width
pub integer_text_stands : (suffixes : Bool) (w : Width) (n : ℤ) (next : Text) → fits w n ≡ true → Ends next
    → Stands (λ before. Means AnyInteger (in_width w)) (number_text suffixes w n) next (int_of w n)
integer_text_stands suffixes w n next h e = stands_means (int_of w n) (in_width w) (in_its_width suffixes w n h)
    (at_once (whole (number_solid suffixes w n next h e) e.1 (number_spelled suffixes w n next h e).1))

-- an integer of a value: in its smallest width, or with its suffix in its own
untyped_means : (suffixes : Bool) (w : Width) (n : ℤ) → fits w n ≡ true → number_tree (spelled_numeral suffixes w n) ≡ Some (normal suffixes (tree.number w n))
untyped_means false w n h = number_is w n h
untyped_means true w n h = own_number w n h

pub untyped_text_stands : (suffixes : Bool) (w : Width) (n : ℤ) (next : Text) → fits w n ≡ true → Ends next
    → Stands (λ before. Means NumberOrRange interval_value) (number_text suffixes w n) next (normal suffixes (tree.number w n))
untyped_text_stands suffixes w n next h e =
    stands_means (normal suffixes (tree.number w n)) interval_value (untyped_means suffixes w n h)
    (at_once (whole (number_solid suffixes w n next h e) e.1
    (one_stands (number_text suffixes w n) next (spelled_numeral suffixes w n) (number_spelled suffixes w n next h e) (ap ends_value e.1 ∙ e.2))))
