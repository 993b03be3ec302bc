-- Blanks, of which the spaces are gone over by bytes: each is a byte, and a byte that is none begins another character.
use Rattle.std.proofs.Common.{◌≡◌, ℕ, zero, suc, ◌+◌, ◌<◌, ◌≤◌, Bool, true, false, not, ◌&&◌, ◌==◌, cond, List, [], ◌∷◌, ◌++◌, length, get_or, take, drop}
use Rattle.std.proofs.Common.{IsUtf8, Fits, w8, w32, refl, sym, ap, subst, ◌∙◌, arith, encode_utf8_all}
use Rattle.std.specs.Str.{chars}
use Rattle.std.specs.Array.{IsFirstChunk}
use Rattle.std.specs.Int.{from_le_bytes, to_le_bytes}
use Rattle.std.proofs.lemmas.Bool.{eqb-true, and_parts}
use Rattle.std.proofs.lemmas.List.{get_or-drop, length-take-le, take-append-drop}
use Rattle.std.proofs.lemmas.Nat.{le_bytes_4}
use Rattle.std.proofs.lemmas.Str.{byte_from_char, encodes-chars}
use Rattle.ron_spec_words.specs.Characters.{Text, is_blank}
use Rattle.ron_spec_words.specs.Runs.{begins, after_run}
use Rattle.ron_spec_words.proofs.Words.{after-run}
use Rattle.ron_lex_text.specs.Stretch.{is_space}
use Rattle.ron_lex_text.proofs.NameLemmas.{one_passes, byte_passes}

one_space : (here behind : List ℕ) → IsUtf8 here → here ≡ 32 ∷ behind → IsUtf8 behind × (after_run is_space (chars behind) ≡ after_run is_space (chars here))
one_space here behind u e = one_passes is_space 32 here behind (omega arith) refl u e

-- from behind a space the spaces end where they end from there on
pub space_passes : {hay bytes : List ℕ} {i : ℕ} → hay ≡ bytes → i < length hay → IsUtf8 (drop i bytes) → get_or hay i 0 ≡ 32
    → (i + 1 ≤ length bytes) × IsUtf8 (drop (i + 1) bytes) × (after_run is_space (chars (drop (i + 1) bytes)) ≡ after_run is_space (chars (drop i bytes)))
space_passes same less u e = byte_passes is_space same less u (omega (arith, e)) (ap is_space e)

front_small : (n : ℕ) (l : List ℕ) → ((i : ℕ) → Fits w8 (get_or l i 0)) → (i : ℕ) → get_or (take n l) i 0 < 256
front_small zero l small i = omega arith
front_small (suc n) [] small i = omega arith
front_small (suc n) (x ∷ l) small zero = (small 0).fits
front_small (suc n) (x ∷ l) small (suc i) = front_small n l (λ j. small (suc j)) i

-- and from behind four, where their bytes are the number of four spaces
pub four_pass : {hay bytes four : List ℕ} {n : ℕ} → hay ≡ bytes → IsUtf8 bytes → ((i : ℕ) → Fits w8 (get_or bytes i 0)) → IsFirstChunk hay four 4
    → n ≡ from_le_bytes w32 four → n ≡ 0x20202020
    → (4 ≤ length bytes) × IsUtf8 (drop 4 bytes) × ((i : ℕ) → Fits w8 (get_or (drop 4 bytes) i 0))
    × (after_run is_space (chars (drop 4 bytes)) ≡ after_run is_space (chars bytes))
four_pass {bytes} {four} {n} same u small first read is =
    let enough : 4 ≤ length bytes = omega (arith, first.enough, ap length same) in
    let front : four ≡ take 4 bytes = first.same ∙ ap (take 4) same in
    let size : length four ≡ 4 = ap length front ∙ length-take-le 4 bytes enough in
    let below : (i : ℕ) → get_or four i 0 < 256 = subst (λ (l : List ℕ). (i : ℕ) → get_or l i 0 < 256) (sym front) (front_small 4 bytes small) in
    let spaces : 32 ∷ 32 ∷ 32 ∷ 32 ∷ [] ≡ take 4 bytes = ap (to_le_bytes w32) (sym is) ∙ le_bytes_4 four n size below read ∙ front in
    let behind = drop 4 bytes in
    let joined : bytes ≡ 32 ∷ 32 ∷ 32 ∷ 32 ∷ behind = sym (take-append-drop 4 bytes) ∙ ap (λ x. x ++ behind) (sym spaces) in
    let a = one_space bytes (32 ∷ 32 ∷ 32 ∷ behind) u joined in
    let b = one_space (32 ∷ 32 ∷ 32 ∷ behind) (32 ∷ 32 ∷ behind) a.0 refl in
    let c = one_space (32 ∷ 32 ∷ behind) (32 ∷ behind) b.0 refl in
    let d = one_space (32 ∷ behind) behind c.0 refl in
    (enough, d.0, λ i. subst (Fits w8) (sym (get_or-drop 4 bytes i 0)) (small (4 + i)), d.1 ∙ c.1 ∙ b.1 ∙ a.1)

none_space : (bytes : List ℕ) (cs : Text) → encode_utf8_all cs ≡ bytes → (get_or bytes 0 0 ≡ 32 → ⊥) → after_run is_space cs ≡ cs
none_space bytes [] e n = refl
none_space bytes (c ∷ cs) e n = go (c == 32) refl
  where
    go : (b : Bool) → (c == 32) ≡ b → cond b (after_run is_space cs) (c ∷ cs) ≡ c ∷ cs
    go true t = let same : c ≡ 32 = eqb-true c 32 t in absurd (n (byte_from_char bytes (encode_utf8_all cs) c (sym e) (omega (arith, same)) ∙ same))
    go false t = refl

pub spaces_end : {hay bytes rest : List ℕ} (i : ℕ) → hay ≡ bytes → IsUtf8 (drop i bytes) → (get_or hay i 0 ≡ 32 → ⊥) → rest ≡ drop i bytes
    → chars rest ≡ after_run is_space (chars (drop i bytes))
spaces_end {bytes} i same u n e =
    let here = drop i bytes in
    let place : i ≡ i + 0 = omega arith in
    let byte = ap (λ l. get_or l i 0) same ∙ ap (λ j. get_or bytes j 0) place ∙ sym (get_or-drop i bytes 0 0) in
    ap chars e ∙ sym (none_space here (chars here) (encodes-chars here u) (λ k. n (byte ∙ k)))

-- ---- blanks and spaces

-- a run of blanks goes on behind spaces
blanks_go_on : (s : Text) → after_run is_blank (after_run is_space s) ≡ after_run is_blank s
blanks_go_on [] = refl
blanks_go_on (c ∷ s) = go (c == 32) refl (blanks_go_on s)
  where
    go : (b : Bool) → (c == 32) ≡ b → after_run is_blank (after_run is_space s) ≡ after_run is_blank s
        → after_run is_blank (cond b (after_run is_space s) (c ∷ s)) ≡ after_run is_blank (c ∷ s)
    go true e h = let same : c ≡ 32 = eqb-true c 32 e in rw same h
    go false e h = refl

pub front_passes : {rest : Text} (text : Text) → rest ≡ after_run is_space text
    → (begins is_space rest ≡ false) × (after_run is_blank rest ≡ after_run is_blank text)
front_passes text e = (ap (begins is_space) e ∙ after-run is_space text, ap (after_run is_blank) e ∙ blanks_go_on text)

pub blank_passes : {c : ℕ} {rest text : Text} (after : Text) → rest ≡ after_run is_space after → text ≡ c ∷ after → (not (is_space c) && is_blank c) ≡ true
    → after_run is_blank rest ≡ after_run is_blank text
blank_passes {c} after e h t = (front_passes after e).1 ∙ sym (ap (after_run is_blank) h ∙ rw ((and_parts (not (is_space c)) (is_blank c) t).1) refl)

pub none_stands : {c : ℕ} {text : Text} (after : Text) → text ≡ c ∷ after → begins is_space text ≡ false → (not (is_space c) && is_blank c) ≡ false
    → text ≡ after_run is_blank text
none_stands {c} after h n w =
    let other : is_space c ≡ false = sym (ap (begins is_space) h) ∙ n in
    let none : is_blank c ≡ false = sym (ap (λ b. not b && is_blank c) other) ∙ w in
    h ∙ sym (ap (after_run is_blank) h ∙ rw none refl)
