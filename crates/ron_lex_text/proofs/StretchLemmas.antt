-- Ends and runs of a text, and the bytes of a text that another text ends: for `text.rt` and every `split_..` call of `ron_lex`.
use Rattle.std.proofs.Common.{◌≡◌, ℕ, ◌+◌, eqb, eq-eqb, eqb-true, ◌-◌, ◌≤◌, Bool, true, false, ◌==◌, cond, List, [], ◌∷◌, ◌++◌, length, take, drop, IsUtf8}
use Rattle.std.proofs.Common.{IsCharBoundary, append_assoc, append-nil, sym, ap, ◌∙◌, subst, refl, arith, length-append, encode_utf8, encode_utf8_all}
use Rattle.std.proofs.Common.{slice_range, ◌<◌}
use Rattle.std.specs.Str.{chars}
use Rattle.std.proofs.lemmas.Str.{encodes-chars, encodes-append, length-encode, length-le-encodes, chars-nil, len_utf8_bounds, IsCharBoundary-at_seam}
use Rattle.std.proofs.lemmas.Str.{IsCharBoundary-from_take, chars-append}
use Rattle.std.proofs.Math.Seq.{take-append_seam, drop-append_seam}
use Rattle.std.proofs.lemmas.List.{append_cancel_right}
use Rattle.ron_spec_words.proofs.Direct.{begins-drop}
use Rattle.std.specs.Bool.{Decides}
use Rattle.std.specs.Cmp.{both_ways}
use Rattle.std.specs.List.{starts_with}
use Rattle.std.proofs.lemmas.Bool.Decides.{same_from_decides, Decides-eqb}
use Rattle.std.proofs.lemmas.Slice.Eq.{bytes_eq-Decides, starts_is}
use Rattle.ron_spec_words.specs.Runs.{run_of, after_run, begins_with, same_text}
use Rattle.ron_spec_words.specs.Reader.{run, got}
use Rattle.ron_lex_text.specs.Stretch.{IsSuffix, IsProperSuffix}

-- the bytes before an end of a text are those of the characters before it
pub bytes_before : (bytes rest front : List ℕ) → IsUtf8 bytes → IsUtf8 rest → chars bytes ≡ front ++ chars rest → bytes ≡ encode_utf8_all front ++ rest
bytes_before bytes rest front text_utf8 rest_utf8 e =
    sym (encodes-chars bytes text_utf8) ∙ ap encode_utf8_all e ∙ encodes-append front (chars rest)
    ∙ ap (λ x. encode_utf8_all front ++ x) (encodes-chars rest rest_utf8)

pub end_is_shorter : (bytes rest : List ℕ) → IsUtf8 bytes → IsUtf8 rest → IsSuffix (chars rest) (chars bytes) → length rest ≤ length bytes
end_is_shorter bytes rest u v h = omega (arith, length-append (encode_utf8_all h.front) rest, ap length (bytes_before bytes rest h.front u v h.is))

pub end_is_boundary : (bytes rest : List ℕ) → IsUtf8 bytes → IsUtf8 rest → IsSuffix (chars rest) (chars bytes)
    → IsCharBoundary bytes (length bytes - length rest)
end_is_boundary bytes rest u v h =
    let e = bytes_before bytes rest h.front u v h.is in
    let n : length (encode_utf8_all h.front) ≡ length bytes - length rest = omega (arith, length-append (encode_utf8_all h.front) rest, ap length e) in
    subst (IsCharBoundary bytes) n (IsCharBoundary-at_seam bytes (encode_utf8_all h.front) rest e v)

pub chars_before : (bytes rest front : List ℕ) → IsUtf8 bytes → IsUtf8 rest → IsUtf8 front → IsSuffix (chars rest) (chars bytes)
    → front ≡ slice_range bytes 0 (length bytes - length rest) → chars bytes ≡ chars front ++ chars rest
chars_before bytes rest front u v w h t =
    let e = bytes_before bytes rest h.front u v h.is in
    let n : length bytes - length rest ≡ length (encode_utf8_all h.front) = omega (arith, length-append (encode_utf8_all h.front) rest, ap length e) in
    let f : front ≡ encode_utf8_all h.front =
    t ∙ ap (λ k. take k bytes) (let z : (length bytes - length rest) - 0 ≡ length (encode_utf8_all h.front) = omega (arith, n) in z)
    ∙ ap (take (length (encode_utf8_all h.front))) e ∙ take-append_seam (encode_utf8_all h.front) rest in
    ap chars (e ∙ ap (λ x. x ++ rest) (sym f)) ∙ chars-append front rest w

-- ---- a text that ends with two others

-- with the one alone, where the other is empty
pub end_behind_none : (gap rest text : List ℕ) → gap ≡ [] → IsSuffix rest text → IsSuffix (gap ++ rest) text
end_behind_none gap rest text e h = record { front = h.front; is = h.is ∙ ap (λ g. h.front ++ (g ++ rest)) (sym e) }

pub end_alone : {rest text : List ℕ} → IsSuffix rest text → IsSuffix (chars [] ++ rest) text
end_alone {rest} {text} = end_behind_none (chars []) rest text chars-nil

pub end_of_joined : (front rest text : List ℕ) → IsSuffix (front ++ rest) text → IsSuffix rest text
end_of_joined front rest text h = record { front = h.front ++ front; is = h.is ∙ sym (append_assoc h.front front rest) }

pub end_behind_end : (gap end rest : List ℕ) {text : List ℕ} → IsSuffix end gap → IsSuffix (gap ++ rest) text → IsSuffix (end ++ rest) text
end_behind_end gap end rest h k = record {
  front = k.front ++ h.front;
  is = k.is ∙ ap (λ g. k.front ++ (g ++ rest)) h.is ∙ ap (λ t. k.front ++ t) (append_assoc h.front end rest) ∙ sym (append_assoc k.front h.front (end ++ rest));
}

pub end_of_before : (front rest text first : List ℕ) → IsSuffix (front ++ rest) text → text ≡ first ++ rest → IsSuffix front first
end_of_before front rest text first h e =
    record { front = h.front; is = append_cancel_right first (h.front ++ front) rest (sym e ∙ h.is ∙ sym (append_assoc h.front front rest)) }

pub before_both : (front rest text first start : List ℕ) → text ≡ first ++ rest → first ≡ start ++ front → text ≡ start ++ (front ++ rest)
before_both front rest text first start e f = e ∙ ap (λ t. t ++ rest) f ∙ append_assoc start front rest

not_equal : (m n : ℕ) → (m ≡ n → ⊥) → (m == n) ≡ false
not_equal m n f = go (m == n) refl
  where
    go : (b : Bool) → (m == n) ≡ b → b ≡ false
    go true e = absurd (f (eqb-true m n e))
    go false e = refl

-- They are all of it exactly where their bytes are as many.
pub all_of_it : (bytes gap rest : List ℕ) → IsUtf8 bytes → IsUtf8 gap → IsUtf8 rest → IsSuffix (chars gap ++ chars rest) (chars bytes)
    → (length bytes - length rest == length gap) ≡ (length (chars gap) + length (chars rest) == length (chars bytes))
all_of_it bytes gap rest u v w h = go h.front h.is
  where
    go : (front : List ℕ) → chars bytes ≡ front ++ (chars gap ++ chars rest)
        → (length bytes - length rest == length gap) ≡ (length (chars gap) + length (chars rest) == length (chars bytes))
    go front e =
        let joined : chars bytes ≡ (front ++ chars gap) ++ chars rest = e ∙ sym (append_assoc front (chars gap) (chars rest)) in
        let b : bytes ≡ encode_utf8_all (front ++ chars gap) ++ rest = bytes_before bytes rest (front ++ chars gap) u w joined in
        let f : encode_utf8_all (front ++ chars gap) ≡ encode_utf8_all front ++ gap =
        encodes-append front (chars gap) ∙ ap (λ x. encode_utf8_all front ++ x) (encodes-chars gap v) in
        let m : length bytes ≡ (length (encode_utf8_all front) + length gap) + length rest = ap length b
        ∙ length-append (encode_utf8_all (front ++ chars gap)) rest ∙ ap (λ n. n + length rest) (ap length f ∙ length-append (encode_utf8_all front) gap) in
        let n : length (chars bytes) ≡ length front + (length (chars gap) + length (chars rest)) =
        ap length e ∙ length-append front (chars gap ++ chars rest) ∙ ap (λ k. length front + k) (length-append (chars gap) (chars rest)) in
        by_front front m n
      where
        by_front : (front : List ℕ) → length bytes ≡ (length (encode_utf8_all front) + length gap) + length rest
            → length (chars bytes) ≡ length front + (length (chars gap) + length (chars rest))
            → (length bytes - length rest == length gap) ≡ (length (chars gap) + length (chars rest) == length (chars bytes))
        by_front [] m n = eq-eqb (length bytes - length rest) (length gap) (omega (arith, m))
            ∙ sym (eq-eqb (length (chars gap) + length (chars rest)) (length (chars bytes)) (omega (arith, n)))
        by_front (c ∷ front) m n =
            not_equal _ _ (λ e. absurd (omega (arith, m, e, length-le-encodes (c ∷ front)))) ∙ sym (not_equal _ _ (λ e. absurd (omega (arith, n, e))))

-- `unfolding literals` computes the characters of a text that stands in the code
unfoldable pub literals : Unit {0}
unfolding chars
literals = tt

-- a text is its longest run and what follows it
pub run_joined : (p : ℕ → Bool) (cs : List ℕ) → cs ≡ run_of p cs ++ after_run p cs
run_joined p [] = refl
run_joined p (c ∷ cs) =
    elim (p c) as (λ b. c ∷ cs ≡ cond b (c ∷ run_of p cs) [] ++ cond b (after_run p cs) (c ∷ cs)) [ true ↦ ap (λ x. c ∷ x) (run_joined p cs) | false ↦ refl ]

pub run_end : (p : ℕ → Bool) (text rest : List ℕ) → rest ≡ after_run p text → IsSuffix rest text
run_end p text rest e = record { front = run_of p text; is = run_joined p text ∙ ap (λ x. run_of p text ++ x) (sym e) }

-- what stands before the end of a run is the run
pub run_front : (p : ℕ → Bool) (text front rest : List ℕ) → rest ≡ after_run p text → text ≡ front ++ rest → front ≡ run_of p text
unfolding run_end
run_front p text front rest e h = append_cancel_right front (run_of p text) rest (sym h ∙ (run_end p text rest e).is)

pub end_whole : (text : List ℕ) → IsSuffix text text
end_whole text = record { front = []; is = refl }

pub end_past_char : (c : ℕ) (text after rest : List ℕ) → text ≡ c ∷ after → IsSuffix rest after → IsSuffix rest text
end_past_char c text after rest e h = record { front = c ∷ h.front; is = e ∙ ap (λ x. c ∷ x) h.is }

pub end_of_end : (rest middle text : List ℕ) → IsSuffix rest middle → IsSuffix middle text → IsSuffix rest text
end_of_end rest middle text g h = record { front = h.front ++ g.front; is = h.is ∙ ap (λ x. h.front ++ x) g.is ∙ sym (append_assoc h.front g.front rest) }

-- a character of one class and the longest run of another are a word
pub word_is : (p q : ℕ → Bool) (c : ℕ) (text after front rest : List ℕ) → text ≡ c ∷ after → rest ≡ after_run q after → text ≡ front ++ rest → p c ≡ true
    → run p q text ≡ got front rest
unfolding end_past_char run_end
word_is p q c text after front rest e r h t =
    let f : front ≡ c ∷ run_of q after =
    append_cancel_right front (c ∷ run_of q after) rest (sym h ∙ (end_past_char c text after rest e (run_end q after rest r)).is) in
    rw (e, t, f, r) refl

pub end_behind_char : (c : ℕ) (text rest : List ℕ) → text ≡ c ∷ rest → IsSuffix rest text
end_behind_char c text rest e = record { front = c ∷ []; is = e }

-- nothing is left
pub end_nothing : (text : List ℕ) → IsSuffix [] text
end_nothing text = record { front = text; is = sym (append-nil text) }

pub past_is_end : (text rest : List ℕ) → IsProperSuffix rest text → IsSuffix rest text
past_is_end text rest h = record { front = h.first ∷ h.front; is = h.is }

-- two texts have the same bytes where they have the same characters
pub same_chars : (one other : List ℕ) (r : Bool) → IsUtf8 one → IsUtf8 other → Decides r (one ≡ other) → r ≡ same_text (chars one) (chars other)
same_chars one other r u v d =
    let by_chars : Decides r (chars one ≡ chars other) =
    (λ t. ap chars (d.0 t), λ e. d.1 (sym (encodes-chars one u) ∙ ap encode_utf8_all e ∙ encodes-chars other v)) in
    same_from_decides r (same_text (chars one) (chars other)) by_chars (bytes_eq-Decides (chars one) (chars other))

eqb_sym : (a b : ℕ) → eqb a b ≡ eqb b a
eqb_sym a b = both_ways _ _ (λ t. eq-eqb b a (sym (eqb-true a b t))) (λ t. eq-eqb a b (sym (eqb-true b a t)))

begins_is : (word text : List ℕ) → begins_with word text ≡ starts_with eqb text word
begins_is [] text = refl
begins_is (c ∷ word) [] = refl
begins_is (c ∷ word) (d ∷ text) = rw (eqb_sym d c, begins_is word text) refl

-- a text begins with a word's bytes exactly where it begins with the word's characters
pub begins_chars : (word text : List ℕ) (r : Bool) → IsUtf8 word → IsUtf8 text → r ≡ starts_with eqb text word → r ≡ begins_with (chars word) (chars text)
begins_chars word text r u v e =
    let by_bytes = starts_is Decides-eqb text word r e in
    let by_chars = starts_is Decides-eqb (chars text) (chars word) (begins_with (chars word) (chars text)) (begins_is (chars word) (chars text)) in
    let after = encode_utf8_all (drop (length (chars word)) (chars text)) in
    both_ways _ _ (λ t. by_chars.1 _ (ap chars (by_bytes.0 t) ∙ chars-append word _ u))
    (λ t. by_bytes.1 after
    (sym (encodes-chars text v) ∙ ap encode_utf8_all (by_chars.0 t) ∙ encodes-append (chars word) _ ∙ ap (λ x. x ++ after) (encodes-chars word u)))

-- a text that begins with the characters of a front begins with its bytes
pub front_joined : (bytes front : List ℕ) → IsUtf8 bytes → IsUtf8 front → begins_with (chars front) (chars bytes) ≡ true
    → bytes ≡ front ++ drop (length front) bytes
front_joined bytes front u v e =
    let after = encode_utf8_all (drop (length (chars front)) (chars bytes)) in
    let k : bytes ≡ front ++ after = sym (encodes-chars bytes u) ∙ ap encode_utf8_all (begins-drop (chars front) (chars bytes) e)
    ∙ encodes-append (chars front) (drop (length (chars front)) (chars bytes)) ∙ ap (λ x. x ++ after) (encodes-chars front v) in
    k ∙ ap (λ x. front ++ x) (sym (ap (drop (length front)) k ∙ drop-append_seam front after))

pub front_is_boundary : (bytes front : List ℕ) → IsUtf8 bytes → IsUtf8 front → begins_with (chars front) (chars bytes) ≡ true
    → IsCharBoundary bytes (length front)
front_is_boundary bytes front u v e =
    let k = front_joined bytes front u v e in
    let shorter : length front ≤ length bytes = omega (arith, length-append front (drop (length front) bytes), ap length k) in
    let same : take (length front) bytes ≡ front = ap (take (length front)) k ∙ take-append_seam front (drop (length front) bytes) in
    IsCharBoundary-from_take bytes (length front) u shorter (subst IsUtf8 (sym same) v)

pub chars_behind_front : (bytes front rest : List ℕ) → IsUtf8 bytes → IsUtf8 front → begins_with (chars front) (chars bytes) ≡ true
    → rest ≡ drop (length front) bytes → chars bytes ≡ chars front ++ chars rest
chars_behind_front bytes front rest u v e r = ap chars (front_joined bytes front u v e ∙ ap (λ x. front ++ x) (sym r)) ∙ chars-append front rest v

-- what follows at least a character is shorter
pub past_is_shorter : (bytes rest : List ℕ) → IsUtf8 bytes → IsUtf8 rest → IsProperSuffix (chars rest) (chars bytes) → length rest < length bytes
past_is_shorter bytes rest u v h =
    let c = h.first in
    let front = encode_utf8_all h.front in
    let e : bytes ≡ (encode_utf8 c ++ front) ++ rest = bytes_before bytes rest (c ∷ h.front) u v h.is in
    let bounds = len_utf8_bounds c in
    omega (arith, ap length e, length-append (encode_utf8 c ++ front) rest, length-append (encode_utf8 c) front, length-encode c)
