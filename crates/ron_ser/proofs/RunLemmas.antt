-- Texts and bytes that are written by runs of what stands as it is: for the calls of `quoted.rt`.
use Rattle.std.proofs.Common.{◌≡◌, ℕ, ◌≤◌, ◌-◌, Bool, true, false, not, ◌==◌, ◌||◌, nat_lt, cond, List, [], ◌∷◌, ◌++◌, length, take, codes, chars}
use Rattle.std.proofs.Common.{encode_utf8_all, IsUtf8, flat_map, refl, sym, ap, ◌∙◌, length-append, arith}
use Rattle.std.specs.List.{list_all}
use Rattle.std.specs.Str.{is_utf8}
use Rattle.std.proofs.Math.Seq.{take-append_seam}
use Rattle.std.proofs.lemmas.Bool.{and_from}
use Rattle.std.proofs.lemmas.Str.{encodes-append, encodes-chars, IsUtf8-from_is_utf8, is_utf8-from_IsUtf8}
use Rattle.std.proofs.lemmas.List.Concat.{flat_map-append}
use Rattle.ron_spec_words.specs.Characters.{Text, backslash, single_quote}
use Rattle.ron_spec_words.specs.Runs.{run_of, after_run}
use Rattle.ron_base.specs.Escape.{stands_as_it_is, escaped_char, escaped, byte_stands_as_it_is, escaped_byte, escaped_bytes}
use Rattle.ron_base.specs.declared.escape.Quotes.TheVariants.{Both}
use Rattle.ron_base.proofs.EscapeLemmas.{as_it_is}
use Rattle.ron_base.proofs.ByteLemmas.{byte_as_it_is, ascii_bytes}
use Rattle.ron_lex_text.specs.Stretch.{IsSuffix}
use Rattle.ron_lex_text.proofs.StretchLemmas.{run_joined, run_end, run_front}
use Rattle.ron_spec_layout.specs.Literals.{written_char, written_string, written_bytes}
use Rattle.ron_spec_layout.specs.Unescaped.{unescaped, string_text, bytes_text}
use Rattle.ron_spec_layout.proofs.Bytes.{ascii}

-- a run behind its first character
pub run_past : (p : ℕ → Bool) (c : ℕ) (text after rest : List ℕ) → p c ≡ true → text ≡ c ∷ after → rest ≡ after_run p after → rest ≡ after_run p text
run_past p c text after rest h e r = r ∙ sym (ap (after_run p) e ∙ ap (λ b. cond b (after_run p after) (c ∷ after)) h)

-- a run shows itself
standing : (f : ℕ → Text) (p : ℕ → Bool) → ((c : ℕ) → p c ≡ true → f c ≡ c ∷ []) → (s : Text) → flat_map f (run_of p s) ≡ run_of p s
standing f p same [] = refl
standing f p same (c ∷ s) =
    elim (p c) as (λ b. p c ≡ b
    → flat_map f (cond b (c ∷ run_of p s) []) ≡ cond b (c ∷ run_of p s) []) [ true ↦ λ e. rw (same c e, standing f p same s) refl | false ↦ λ e. refl ] refl

-- ---- texts

pub run_is_end : (text rest : Text) → rest ≡ after_run (stands_as_it_is Both) text → IsSuffix rest text
run_is_end text rest e = run_end (stands_as_it_is Both) text rest e

pub run_text : (text front rest : List ℕ) → IsUtf8 front → chars rest ≡ after_run (stands_as_it_is Both) (chars text) → chars text ≡ chars front ++ chars rest
    → encode_utf8_all (escaped Both (chars text)) ≡ front ++ encode_utf8_all (escaped Both (chars rest))
run_text text front rest u e h =
    let is : chars front ≡ run_of (stands_as_it_is Both) (chars text) = run_front (stands_as_it_is Both) (chars text) (chars front) (chars rest) e h in
    let same : escaped Both (chars front) ≡ chars front =
    ap (escaped Both) is ∙ standing (escaped_char Both) (stands_as_it_is Both) (as_it_is Both) (chars text) ∙ sym is in
    ap (λ t. encode_utf8_all (escaped Both t)) h
    ∙ ap encode_utf8_all (flat_map-append (escaped_char Both) (chars front) (chars rest) ∙ ap (λ t. t ++ escaped Both (chars rest)) same)
    ∙ encodes-append (chars front) (escaped Both (chars rest))
    ∙ ap (λ t. t ++ encode_utf8_all (escaped Both (chars rest))) (encodes-chars front u)

pub char_text : (text rest : Text) (c : ℕ) → text ≡ c ∷ rest
    → encode_utf8_all (escaped Both text) ≡ encode_utf8_all (escaped_char Both c) ++ encode_utf8_all (escaped Both rest)
char_text text rest c e = ap (λ t. encode_utf8_all (escaped Both t)) e ∙ encodes-append (escaped_char Both c) (escaped Both rest)

-- ---- characters between quotes

closed_char : (c : ℕ) → encode_utf8_all (c ∷ codes "'") ≡ encode_utf8_all (c ∷ []) ++ codes "'"
closed_char c = encodes-append (c ∷ []) (codes "'") ∙ ap (λ t. encode_utf8_all (c ∷ []) ++ t) (ascii 39 [] (omega arith))

pub escaped_char_bytes : (c : ℕ) → ((c == backslash) || (c == single_quote)) ≡ true
    → encode_utf8_all (written_char c) ≡ codes "'\\" ++ (encode_utf8_all (c ∷ []) ++ codes "'")
escaped_char_bytes c h =
    ap (λ b. encode_utf8_all (cond b (codes "'\\" ++ (c ∷ codes "'")) (codes "'" ++ (c ∷ codes "'")))) h
    ∙ ascii 39 (92 ∷ c ∷ codes "'") (omega arith) ∙ ap (λ t. 39 ∷ t) (ascii 92 (c ∷ codes "'") (omega arith)) ∙ ap (λ t. codes "'\\" ++ t) (closed_char c)

pub plain_char_bytes : (c : ℕ) → ((c == backslash) || (c == single_quote)) ≡ false
    → encode_utf8_all (written_char c) ≡ codes "'" ++ (encode_utf8_all (c ∷ []) ++ codes "'")
plain_char_bytes c h =
    ap (λ b. encode_utf8_all (cond b (codes "'\\" ++ (c ∷ codes "'")) (codes "'" ++ (c ∷ codes "'")))) h
    ∙ ascii 39 (c ∷ codes "'") (omega arith) ∙ ap (λ t. codes "'" ++ t) (closed_char c)

-- ---- bytes

module _ (bytes rest : List ℕ) (is : rest ≡ after_run byte_stands_as_it_is bytes) where
  whole : bytes ≡ run_of byte_stands_as_it_is bytes ++ rest
  whole = run_joined byte_stands_as_it_is bytes ∙ ap (λ t. run_of byte_stands_as_it_is bytes ++ t) (sym is)

  pub run_shorter : length rest ≤ length bytes
  run_shorter = omega (arith, length-append (run_of byte_stands_as_it_is bytes) rest, ap length whole)

  front : take (length bytes - length rest) bytes ≡ run_of byte_stands_as_it_is bytes
  front =
      let n : length bytes - length rest ≡ length (run_of byte_stands_as_it_is bytes) =
      omega (arith, length-append (run_of byte_stands_as_it_is bytes) rest, ap length whole) in
      ap (λ k. take k bytes) n ∙ ap (take (length (run_of byte_stands_as_it_is bytes))) whole ∙ take-append_seam (run_of byte_stands_as_it_is bytes) rest

  pub run_stands : list_all byte_stands_as_it_is (take (length bytes - length rest) bytes) ≡ true
  run_stands = ap (list_all byte_stands_as_it_is) front ∙ stand bytes
    where
      stand : (bs : List ℕ) → list_all byte_stands_as_it_is (run_of byte_stands_as_it_is bs) ≡ true
      stand [] = refl
      stand (b ∷ bs) = elim (byte_stands_as_it_is b) as (λ t. byte_stands_as_it_is b ≡ t → list_all byte_stands_as_it_is
          (cond t (b ∷ run_of byte_stands_as_it_is bs) []) ≡ true) [ true ↦ λ e. and_from _ _ e (stand bs) | false ↦ λ e. refl ] refl

  pub run_bytes : escaped_bytes bytes ≡ take (length bytes - length rest) bytes ++ escaped_bytes rest
  run_bytes =
      ap escaped_bytes whole ∙ flat_map-append escaped_byte (run_of byte_stands_as_it_is bytes) rest
      ∙ ap (λ t. t ++ escaped_bytes rest) (standing escaped_byte byte_stands_as_it_is byte_as_it_is bytes ∙ sym front)

-- ---- between their quotes

pub quoted_bytes : (bs : List ℕ) → list_all (λ b. nat_lt b 256) bs ≡ true → encode_utf8_all (written_bytes bs) ≡ codes "b\"" ++ (escaped_bytes bs ++ codes "\"")
unfolding lib.Utf8.encode
quoted_bytes bs h =
    encodes-append (codes "b\"") (escaped_bytes bs ++ codes "\"")
    ∙ ap (λ u. codes "b\"" ++ u) (encodes-append (escaped_bytes bs) (codes "\"") ∙ ap (λ u. u ++ codes "\"") (ascii_bytes bs h))

-- ---- escaped or not

pub string_escaped : (escape : Bool) (t : Text) → escape ≡ true → string_text escape t ≡ written_string t
string_escaped escape t e = ap (λ b. string_text b t) e

pub bytes_escaped : (escape : Bool) (bs : List ℕ) → escape ≡ true → bytes_text escape bs ≡ written_bytes bs
bytes_escaped escape bs e = ap (λ b. bytes_text b bs) e

-- bytes that are no UTF-8
pub bytes_no_text : (escape : Bool) (bs : List ℕ) → (IsUtf8 bs → ⊥) → bytes_text escape bs ≡ written_bytes bs
bytes_no_text true bs h = refl
bytes_no_text false bs h = elim (is_utf8 bs) as (λ b. is_utf8 bs ≡ b → cond (not b) (written_bytes bs) (codes "b" ++ unescaped (chars bs))
    ≡ written_bytes bs) [ true ↦ λ e. absurd (h (IsUtf8-from_is_utf8 bs e)) | false ↦ λ e. refl ] refl

-- those that are
pub bytes_as_text : (escape : Bool) (bs text : List ℕ) → escape ≡ false → text ≡ bs → IsUtf8 bs
    → encode_utf8_all (bytes_text escape bs) ≡ codes "b" ++ encode_utf8_all (unescaped (chars text))
bytes_as_text escape bs text e same u =
    ap (λ b. encode_utf8_all (bytes_text b bs)) e
    ∙ ap (λ b. encode_utf8_all (cond (not b) (written_bytes bs) (codes "b" ++ unescaped (chars bs)))) (is_utf8-from_IsUtf8 bs u)
    ∙ ascii 98 (unescaped (chars bs)) (omega arith) ∙ ap (λ t. codes "b" ++ encode_utf8_all (unescaped (chars t))) (sym same)
