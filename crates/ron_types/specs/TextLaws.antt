-- Bytes and the text that they are.
use Rattle.std.specs.Prelude.{◌≡◌, ℕ, ◌+◌, ◌-◌, ◌≤◌, Bool, true, false, cond, ◌&&◌, nat_lt, List, [], ◌∷◌, map, chars, encode_utf8_all, IsUtf8, String}
use Rattle.std.specs.Prelude.{string_bytes}
use Rattle.std.proofs.Common.{refl, sym, ap, ◌∙◌, arith}
use Rattle.std.proofs.lemmas.Bool.Decides.{nat_tests}
use Rattle.std.proofs.lemmas.Str.{encodes-chars, scalars-chars, is_utf8-from_IsUtf8, IsUtf8-from_is_utf8, IsUtf8-string_bytes}
use Rattle.std.specs.Str.{is_utf8, all_scalars}
use Rattle.std.specs.declared.alloc.Global.{Global}
use Rattle.ron_types.specs.Texts.{behind_characters, text_of_bytes, bytes_of_text}

-- bytes that spell characters are those characters
pub spelled : (bs : List ℕ) → IsUtf8 bs → text_of_bytes bs ≡ chars bs
spelled bs u = ap (λ b. cond b (chars bs) (map (λ b. behind_characters + b) bs)) (is_utf8-from_IsUtf8 bs u)

pub chars_back : (bs : List ℕ) → IsUtf8 bs → bytes_of_text (chars bs) ≡ bs
chars_back bs u =
    ap (λ b. cond b (encode_utf8_all (chars bs)) (map (λ c. c - behind_characters) (chars bs))) (scalars-chars bs u) ∙ encodes-chars bs u

taken_back : (bs : List ℕ) → map (λ c. c - behind_characters) (map (λ b. behind_characters + b) bs) ≡ bs
taken_back [] = refl
taken_back (b ∷ bs) = λ i. (let e : (behind_characters + b) - behind_characters ≡ b = omega arith in e) i ∷ taken_back bs i

none_scalar : (b : ℕ) (bs : List ℕ) → all_scalars ((behind_characters + b) ∷ bs) ≡ false
none_scalar b bs = grind (arith, nat_tests)

behind_back : (bs : List ℕ) → bytes_of_text (map (λ b. behind_characters + b) bs) ≡ bs
behind_back [] = refl
behind_back (b ∷ bs) = let cs = map (λ b. behind_characters + b) bs in
    ap (λ t. cond t (encode_utf8_all ((behind_characters + b) ∷ cs)) (map (λ c. c - behind_characters) ((behind_characters + b) ∷ cs))) (none_scalar b cs)
    ∙ taken_back (b ∷ bs)

-- the bytes of the text that bytes are
pub bytes_back : (bs : List ℕ) → bytes_of_text (text_of_bytes bs) ≡ bs
bytes_back bs = by (is_utf8 bs) (λ e. IsUtf8-from_is_utf8 bs e)
  where
    by : (b : Bool) → (b ≡ true → IsUtf8 bs) → bytes_of_text (cond b (chars bs) (map (λ b. behind_characters + b) bs)) ≡ bs
    by true u = chars_back bs (u refl)
    by false u = behind_back bs

pub string_back : (s : String Global) → bytes_of_text (chars (string_bytes s)) ≡ string_bytes s
string_back s = chars_back (string_bytes s) (IsUtf8-string_bytes s)
