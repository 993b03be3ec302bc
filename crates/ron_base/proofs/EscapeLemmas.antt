-- The bytes that escaped characters are written in: for `escape` here and for the runs of strings that `ron_ser` writes.
use Rattle.std.proofs.Common.{◌≡◌, ℕ, ◌<◌, ◌^◌, not, ◌&&◌, Option, is_none, refl, true, false, cond, List, [], ◌∷◌, ◌++◌, Some, None, codes, flat_map}
use Rattle.std.proofs.Common.{encode_utf8, encode_utf8_all, sym, ap, ◌∙◌, append-nil, arith, zero, suc, lit≤}
use Rattle.std.specs.Fmt.{digits}
use Rattle.std.specs.Char.{digit_value}
use Rattle.std.specs.Str.{IsAscii}
use Rattle.std.specs.Str.Parse.{AllDigits}
use Rattle.std.proofs.lemmas.Str.{encodes-append, encodes-IsAscii}
use Rattle.std.proofs.lemmas.Bool.{not-true, false≢true}
use Rattle.std.proofs.lemmas.Fmt.{digits_is_IsNumeral}
use Rattle.std.proofs.lemmas.List.Concat.{flat_map-append}
use Rattle.ron_spec_words.specs.Characters.{Text}
use Rattle.ron_base.specs.declared.escape.Quotes.{Quotes}
use Rattle.ron_base.specs.Escape.{short_escape, is_hidden, stands_as_it_is, escaped_as, escaped_char, numbered}

pub shown_short : (quotes : Quotes) (c letter : ℕ) → short_escape quotes c ≡ Some letter
    → codes "\\" ++ encode_utf8 letter ≡ encode_utf8_all (escaped_char quotes c)
unfolding escaped_char lib.Utf8.encode
shown_short quotes c letter e = ap (λ t. codes "\\" ++ t) (sym (append-nil (encode_utf8 letter))) ∙ ap (λ o. encode_utf8_all (escaped_as c o)) (sym e)

is_ascii_digit : (c : ℕ) → digit_value c < 16 → c < 128
is_ascii_digit c h = grind arith

IsAscii-from_hex : (ds : List ℕ) → AllDigits 16 ds → IsAscii ds
IsAscii-from_hex [] h i = omega arith
IsAscii-from_hex (d ∷ ds) h zero = is_ascii_digit d h.0
IsAscii-from_hex (d ∷ ds) h (suc i) = IsAscii-from_hex ds h.1 i

pub shown_hidden : (quotes : Quotes) (c : ℕ) → c < 2 ^ 32 → short_escape quotes c ≡ None → is_hidden c ≡ true
    → codes "\\u{" ++ (digits 16 false c ++ codes "}") ≡ encode_utf8_all (escaped_char quotes c)
unfolding escaped_char lib.Utf8.encode
shown_hidden quotes c small e h =
    let ascii = IsAscii-from_hex (digits 16 false c) (digits_is_IsNumeral 16 false (lit≤ tt) (lit≤ tt) c (omega arith)).0.1 in
    ap (λ t. codes "\\u{" ++ (t ++ codes "}")) (sym (encodes-IsAscii (digits 16 false c) ascii))
    ∙ sym (encodes-append (codes "\\u{") (digits 16 false c ++ codes "}") ∙ ap (λ t. codes "\\u{" ++ t) (encodes-append (digits 16 false c) (codes "}")))
    ∙ ap (λ b. encode_utf8_all (cond b (numbered c) (c ∷ []))) (sym h)
    ∙ ap (λ o. encode_utf8_all (escaped_as c o)) (sym e)

pub shown_itself : (quotes : Quotes) (c : ℕ) → short_escape quotes c ≡ None → is_hidden c ≡ false → encode_utf8 c ≡ encode_utf8_all (escaped_char quotes c)
unfolding escaped_char
shown_itself quotes c e h =
    sym (append-nil (encode_utf8 c))
    ∙ ap (λ b. encode_utf8_all (cond b (numbered c) (c ∷ []))) (sym h)
    ∙ ap (λ o. encode_utf8_all (escaped_as c o)) (sym e)

-- one character more
pub shown_more : (quotes : Quotes) (cs : Text) (c : ℕ) → encode_utf8_all (flat_map (escaped_char quotes) cs) ++ encode_utf8_all (escaped_char quotes c)
    ≡ encode_utf8_all (flat_map (escaped_char quotes) (cs ++ c ∷ []))
shown_more quotes cs c =
    sym (encodes-append (flat_map (escaped_char quotes) cs) (escaped_char quotes c))
    ∙ ap encode_utf8_all
    (ap (λ t. flat_map (escaped_char quotes) cs ++ t) (sym (append-nil (escaped_char quotes c))) ∙ sym (flat_map-append (escaped_char quotes) cs (c ∷ [])))

-- a character that stands as it is is shown as itself
pub as_it_is : (quotes : Quotes) (c : ℕ) → stands_as_it_is quotes c ≡ true → escaped_char quotes c ≡ c ∷ []
unfolding stands_as_it_is escaped_char
as_it_is quotes c h = go (short_escape quotes c) h
  where
    go : (o : Option ℕ) → (is_none o && not (is_hidden c)) ≡ true → escaped_as c o ≡ c ∷ []
    go None k = rw (not-true (is_hidden c) k) refl
    go (Some letter) k = absurd (false≢true k)
