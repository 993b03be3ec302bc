-- Characters of ASCII that are gone over by bytes: each is a byte.
use Rattle.std.proofs.Common.{◌≡◌, ℕ, ◌+◌, ◌<◌, ◌≤◌, Bool, true, false, ◌&&◌, nat_lt, List, [], ◌∷◌, ◌++◌, length, get_or, drop, IsUtf8, refl, sym, ap, ◌∙◌}
use Rattle.std.proofs.Common.{arith, encode_utf8}
use Rattle.std.specs.Str.{chars}
use Rattle.std.proofs.Math.ListN.{drop_of_length-le}
use Rattle.std.proofs.lemmas.Bool.{ltb-true}
use Rattle.std.proofs.lemmas.List.{drop_more}
use Rattle.std.proofs.lemmas.Str.{chars-nil, chars_past_char, encode_ascii, IsUtf8-past_char}
use Rattle.ron_spec_words.specs.Runs.{after_run}

-- an ASCII byte at the start of a text is its first character
pub first_is : (c : ℕ) (here behind : List ℕ) → c < 128 → IsUtf8 here → here ≡ c ∷ behind → IsUtf8 behind × (chars here ≡ c ∷ chars behind)
first_is c here behind small u e =
    let first : here ≡ encode_utf8 c ++ behind = e ∙ ap (λ x. x ++ behind) (sym (encode_ascii c small)) in
    (IsUtf8-past_char here behind c u first, chars_past_char here behind c u first)

-- from behind an ASCII character of a class its run ends where it ends from there on
pub one_passes : (p : ℕ → Bool) (c : ℕ) (here behind : List ℕ) → c < 128 → p c ≡ true → IsUtf8 here → here ≡ c ∷ behind
    → IsUtf8 behind × (after_run p (chars behind) ≡ after_run p (chars here))
one_passes p c here behind small passes u e =
    let first = first_is c here behind small u e in
    (first.0, sym (ap (after_run p) first.1 ∙ rw passes refl))

pub byte_first : {hay bytes : List ℕ} {i : ℕ} → hay ≡ bytes → i < length hay → drop i bytes ≡ get_or hay i 0 ∷ drop (i + 1) bytes
byte_first {hay} {bytes} {i} same less =
    drop_more bytes i 0 (omega (arith, less, ap length same)) ∙ ap (λ b. b ∷ drop (i + 1) bytes) (ap (λ l. get_or l i 0) (sym same))

pub byte_passes : {hay bytes : List ℕ} {i : ℕ} (p : ℕ → Bool) → hay ≡ bytes → i < length hay → IsUtf8 (drop i bytes) → get_or hay i 0 < 128
    → p (get_or hay i 0) ≡ true
    → (i + 1 ≤ length bytes) × IsUtf8 (drop (i + 1) bytes) × (after_run p (chars (drop (i + 1) bytes)) ≡ after_run p (chars (drop i bytes)))
byte_passes {hay} {bytes} {i} p same less u small passes =
    let passed = one_passes p (get_or hay i 0) (drop i bytes) (drop (i + 1) bytes) small passes u (byte_first same less) in
    (omega (arith, less, ap length same), passed.0, passed.1)

-- before an ASCII character that is none of the class it ends
pub byte_ends : {hay bytes rest : List ℕ} {i : ℕ} (p : ℕ → Bool) → hay ≡ bytes → i < length hay → IsUtf8 (drop i bytes) → nat_lt (get_or hay i 0) 128 ≡ true
    → (nat_lt (get_or hay i 0) 128 && p (get_or hay i 0)) ≡ false → rest ≡ drop i bytes
    → chars rest ≡ after_run p (chars (drop i bytes))
byte_ends {hay} {bytes} {i} p same less u small none e =
    let byte = get_or hay i 0 in
    let fails : p byte ≡ false = sym (ap (λ t. t && p byte) small) ∙ none in
    let first = (first_is byte (drop i bytes) (drop (i + 1) bytes) (ltb-true byte 128 small) u (byte_first same less)).1 in
    ap chars e ∙ first ∙ sym (ap (after_run p) first ∙ rw fails refl)

-- and it ends with the text
pub ends_with_text : {hay bytes : List ℕ} {i : ℕ} (p : ℕ → Bool) → hay ≡ bytes → length hay ≤ i → chars [] ≡ after_run p (chars (drop i bytes))
ends_with_text {bytes} {i} p same le =
    let nothing : drop i bytes ≡ [] = drop_of_length-le bytes (omega (arith, le, ap length same)) in
    rw (nothing, chars-nil) refl
