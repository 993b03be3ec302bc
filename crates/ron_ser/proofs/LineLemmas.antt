-- A text so many times in a row: for `lines.rt`, and for the hashes of raw strings.
use Rattle.std.proofs.Common.{◌≡◌, ℕ, zero, suc, ◌+◌, ◌-◌, ◌*◌, ◌<◌, ◌≤◌, true, List, [], ◌∷◌, ◌++◌, take, slice_range, codes, chars, encode_utf8_all, IsUtf8}
use Rattle.std.proofs.Common.{IsCharBoundary, refl, sym, ap, ◌∙◌, append_assoc, append-nil, arith}
use Rattle.std.specs.Str.{IsAscii}
use Rattle.std.proofs.Math.Seq.{take-append-add}
use Rattle.std.proofs.lemmas.Str.{encodes-append, encodes-chars, chars-IsAscii, IsUtf8-from_ascii, IsCharBoundary-from_ascii}
use Rattle.std.proofs.lemmas.Slice.Eq.{bytes_eq-Decides}
use Rattle.std.proofs.lemmas.Str.Ascii.{IsAscii-nil, IsAscii-cons}
use Rattle.ron_spec_words.specs.Characters.{Text}
use Rattle.ron_spec_words.specs.Runs.{same_text}
use Rattle.ron_spec_words.specs.Quoted.{hashes}
use Rattle.ron_spec_layout.specs.Config.{times}
use Rattle.ron_spec_layout.proofs.Bytes.{ascii}

-- ---- any text

times_both : (m n : ℕ) (t : Text) → times (m + n) t ≡ times m t ++ times n t
times_both zero n t = ap (λ k. times k t) (let e : 0 + n ≡ n = omega arith in e)
times_both (suc m) n t = ap (λ k. times k t) (let e : suc m + n ≡ suc (m + n) = omega arith in e) ∙ ap (λ u. t ++ u) (times_both m n t)
    ∙ sym (append_assoc t (times m t) (times n t))

-- one more
pub times_more : (n : ℕ) (text : List ℕ) → IsUtf8 text → encode_utf8_all (times (n + 1) (chars text)) ≡ encode_utf8_all (times n (chars text)) ++ text
times_more n text u =
    ap encode_utf8_all (times_both n 1 (chars text) ∙ ap (λ t. times n (chars text) ++ t) (append-nil (chars text)))
    ∙ encodes-append (times n (chars text)) (chars text) ∙ ap (λ b. encode_utf8_all (times n (chars text)) ++ b) (encodes-chars text u)

-- ---- four spaces

abbrev four : Text
four = codes "    "

abbrev spaces : Text
spaces = codes "                                                                "

-- sixteen levels, and the rest
pub spaces_past : (n : ℕ) → 16 < n → times n four ≡ spaces ++ times (n - 16) four
spaces_past n h = ap (λ k. times k four) (let e : n ≡ 16 + (n - 16) = omega arith in e) ∙ times_both 16 (n - 16) four

front : (m k : ℕ) → m ≤ k → take (4 * m) (times k four) ≡ times m four
front zero k h = refl
front (suc m) zero h = absurd (omega (arith, h))
front (suc m) (suc k) h = ap (λ i. take i (four ++ times k four)) (let e : 4 * suc m ≡ 4 + 4 * m = omega arith in e)
    ∙ take-append-add four (times k four) (4 * m) ∙ ap (λ t. four ++ t) (front m k (omega (arith, h)))

-- the front that is so many levels long
pub spaces_front : (n : ℕ) (text : List ℕ) → n ≤ 16 → text ≡ slice_range spaces 0 (4 * n) → text ≡ times n four
spaces_front n text h e = e ∙ ap (λ k. take k spaces) (let k : 4 * n - 0 ≡ 4 * n = omega arith in k) ∙ front n 16 h

times_ascii : (n : ℕ) → IsAscii (times n four)
times_ascii zero = IsAscii-nil
times_ascii (suc n) =
    let space : 32 < 128 = omega arith in
    IsAscii-cons 32 (32 ∷ 32 ∷ 32 ∷ times n four) space
    (IsAscii-cons 32 (32 ∷ 32 ∷ times n four) space (IsAscii-cons 32 (32 ∷ times n four) space (IsAscii-cons 32 (times n four) space (times_ascii n))))

-- it may be cut there
pub spaces_boundary : (n : ℕ) → n ≤ 16 → IsCharBoundary spaces (4 * n)
spaces_boundary n h = IsCharBoundary-from_ascii spaces (4 * n) (times_ascii 16) (omega (arith, h))

spaces_bytes : (n : ℕ) → encode_utf8_all (times n four) ≡ times n four
spaces_bytes n =
    ap encode_utf8_all (sym (chars-IsAscii (times n four) (times_ascii n))) ∙ encodes-chars (times n four) (IsUtf8-from_ascii (times n four) (times_ascii n))

-- a text that is four spaces
pub four_bytes : (n : ℕ) (text : List ℕ) → same_text (chars text) (chars four) ≡ true → times n four ≡ encode_utf8_all (times n (chars text))
four_bytes n text h =
    let is : chars text ≡ four = (bytes_eq-Decides (chars text) (chars four)).0 h ∙ chars-IsAscii four (times_ascii 1) in
    sym (ap (λ t. encode_utf8_all (times n t)) is ∙ spaces_bytes n)

-- ---- hashes

hash_bytes : (n : ℕ) → encode_utf8_all (times n (codes "#")) ≡ hashes n
hash_bytes zero = refl
hash_bytes (suc n) = ascii 35 (times n (codes "#")) (omega arith) ∙ ap (λ t. 35 ∷ t) (hash_bytes n)

pub times_hashes : (n : ℕ) → encode_utf8_all (times n (chars (codes "#"))) ≡ hashes n
times_hashes n = ap (λ t. encode_utf8_all (times n t)) (chars-IsAscii (codes "#") (IsAscii-cons 35 [] (omega arith) IsAscii-nil)) ∙ hash_bytes n

-- ---- a new line

pub line_bytes : (new_line indent : List ℕ) → IsUtf8 new_line → encode_utf8_all (chars new_line ++ indent) ≡ new_line ++ encode_utf8_all indent
line_bytes new_line indent u = encodes-append (chars new_line) indent ∙ ap (λ b. b ++ encode_utf8_all indent) (encodes-chars new_line u)
