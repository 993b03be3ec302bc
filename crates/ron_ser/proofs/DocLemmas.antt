-- The lines of a text, taken off it one by one: for `docs.rt`.
use Rattle.std.proofs.Common.{◌≡◌, ◌≢◌, ℕ, suc, ◌+◌, ◌-◌, ◌<◌, ◌==◌, eqb-true, true, false, not, cond, List, [], ◌∷◌, ◌++◌, codes, length, take, get_or}
use Rattle.std.proofs.Common.{flat_map, chars, encode_utf8_all, IsUtf8, refl, sym, ap, ap₂, subst, ◌∙◌, append-nil, length-append, arith}
use Rattle.std.specs.List.{All, slice_split, count_by}
use Rattle.std.specs.Str.Lines.{lines, lines_of_parts, strip_carriage_return}
use Rattle.std.proofs.Math.Dec.{eqb-suc-zero}
use Rattle.std.proofs.Math.Seq.{take-append_seam, get_or-append_seam, take-length, take-suc}
use Rattle.std.proofs.lemmas.List.Elements.{All-nil, All-cons}
use Rattle.std.proofs.lemmas.List.Splits.{slice_split_none, slice_split_at, length-slice_split}
use Rattle.std.proofs.lemmas.Str.{chars-append, chars-IsAscii, encodes-append, encodes-chars, IsUtf8-take, IsCharBoundary-before_ascii}
use Rattle.std.proofs.lemmas.Str.Ascii.{IsAscii-nil, IsAscii-cons}
use Rattle.ron_spec_words.specs.Characters.{Text}
use Rattle.ron_spec_words.specs.Gap.{in_line}
use Rattle.ron_spec_words.specs.Runs.{run_of, after_run}
use Rattle.ron_lex_text.specs.Stretch.{is_ended}
use Rattle.ron_spec_layout.proofs.Bytes.{ascii_text, closed}
use Rattle.ron_lex_text.proofs.StretchLemmas.{run_joined, run_front}

-- ---- lines

-- what a text runs to up to its first LF has none
no_feed : (t : Text) → All (λ c. (c == 10) ≡ false) (run_of in_line t)
no_feed [] = All-nil (λ c. (c == 10) ≡ false)
no_feed (c ∷ t) = elim (c == 10) as (λ b. (c == 10) ≡ b → All (λ c. (c == 10) ≡ false) (cond (not b) (c ∷ run_of in_line t)
    [])) [ true ↦ λ e. All-nil (λ c. (c == 10) ≡ false) | false ↦ λ e. All-cons (λ c. (c == 10) ≡ false) c (run_of in_line t) e (no_feed t) ] refl

-- what stands behind it begins with the LF
feed : (t : Text) (c : ℕ) (rest : Text) → after_run in_line t ≡ c ∷ rest → c ≡ 10
feed [] c rest e = absurd (cc)
feed (d ∷ t) c rest e = elim (d == 10) as (λ b. (d == 10) ≡ b → cond (not b) (after_run in_line t) (d ∷ t) ≡ c ∷ rest
    → c ≡ 10) [ true ↦ λ q p. first (eqb-true d 10 q) p | false ↦ λ q p. feed t c rest p ] refl e
  where
    first : d ≡ 10 → d ∷ t ≡ c ∷ rest → c ≡ 10
    first q p = cc

parts_more : (l : Text) (parts : List Text) → 0 < length parts → lines_of_parts (l ∷ parts) ≡ strip_carriage_return l ∷ lines_of_parts parts
parts_more l [] h = absurd (omega (arith, h))
parts_more l (p ∷ parts) h = refl

-- a line that an LF ends
pub lines_more : (text l end rest : Text) (c : ℕ) → end ≡ after_run in_line text → text ≡ l ++ end → end ≡ c ∷ rest
    → lines text ≡ strip_carriage_return l ∷ lines rest
lines_more text l end rest c r e f =
    let is : l ≡ run_of in_line text = run_front in_line text l end r e in
    let clear : All (λ c. (c == 10) ≡ false) l = subst (All (λ c. (c == 10) ≡ false)) (sym is) (no_feed text) in
    let fed : c ∷ rest ≡ 10 ∷ rest = ap (λ d. d ∷ rest) (feed text c rest (sym r ∙ f)) in
    ap lines (e ∙ ap (λ t. l ++ t) (f ∙ fed))
    ∙ ap lines_of_parts (slice_split_at (λ b. b == 10) l 10 rest clear refl)
    ∙ parts_more l (slice_split (λ b. b == 10) rest)
    (let n : length (slice_split (λ b. b == 10) rest) ≡ count_by (λ b. b == 10) rest + 1 = length-slice_split (λ b. b == 10) rest in omega (arith, n))

-- one that the text ends
pub lines_last : (text end : Text) → is_ended text ≡ false → end ≡ after_run in_line text → end ≡ [] → lines text ≡ text ∷ []
lines_last [] end h r e = absurd (cc)
lines_last (c ∷ t) end h r e =
    let whole : c ∷ t ≡ run_of in_line (c ∷ t) =
    run_joined in_line (c ∷ t) ∙ ap (λ u. run_of in_line (c ∷ t) ++ u) (sym r ∙ e) ∙ append-nil (run_of in_line (c ∷ t)) in
    let clear : All (λ c. (c == 10) ≡ false) (c ∷ t) = subst (All (λ c. (c == 10) ≡ false)) (sym whole) (no_feed (c ∷ t)) in
    ap lines_of_parts (slice_split_none (λ b. b == 10) (c ∷ t) clear) ∙ ap (λ b. cond b [] ((c ∷ t) ∷ [])) (eqb-suc-zero (length t))

-- ---- a line's end

returned : (l : Text) → get_or l (length l - 1) 0 ≡ 13 → l ≡ take (length l - 1) l ++ 13 ∷ []
returned [] e = absurd (omega (arith, e))
returned (c ∷ t) e =
    let n = length (c ∷ t) - 1 in
    sym (take-length (c ∷ t)) ∙ ap (λ k. take k (c ∷ t)) (let k : length (c ∷ t) ≡ suc n = omega arith in k) ∙ take-suc (c ∷ t) n 0 (omega arith)
    ∙ ap (λ d. take n (c ∷ t) ++ d ∷ []) e

strip_end : (l : Text) → strip_carriage_return (l ++ 13 ∷ []) ≡ l
strip_end l = let n : length (l ++ 13 ∷ []) - 1 ≡ length l = omega (arith, length-append l (13 ∷ [])) in
    rw (n, get_or-append_seam l 13 [] 0, take-append_seam l (13 ∷ [])) refl

-- a line that ends in a carriage return
pub return_stripped : (line front : List ℕ) → IsUtf8 line → line ≡ front ++ 13 ∷ [] → chars front ≡ strip_carriage_return (chars line)
return_stripped line front u e =
    let mark : get_or line (length front) 0 ≡ 13 = ap (λ t. get_or t (length front) 0) e ∙ get_or-append_seam front 13 [] 0 in
    let inside : length front < length line = omega (arith, ap length e, length-append front (13 ∷ [])) in
    let same : take (length front) line ≡ front = ap (take (length front)) e ∙ take-append_seam front (13 ∷ []) in
    let v : IsUtf8 front =
    subst IsUtf8 same (IsUtf8-take line (length front) u (IsCharBoundary-before_ascii line (length front) inside (omega (arith, mark)))) in
    let ending : chars (13 ∷ []) ≡ 13 ∷ [] = chars-IsAscii (13 ∷ []) (IsAscii-cons 13 [] (omega arith) IsAscii-nil) in
    sym (ap strip_carriage_return (ap chars e ∙ chars-append front (13 ∷ []) v ∙ ap (λ t. chars front ++ t) ending) ∙ strip_end (chars front))

-- one that does not
pub nothing_stripped : (line : List ℕ) → IsUtf8 line → ((front : List ℕ) → line ≢ front ++ 13 ∷ []) → chars line ≡ strip_carriage_return (chars line)
nothing_stripped line u h = elim (get_or (chars line) (length (chars line) - 1) 0 == 13) as (λ b. (get_or (chars line) (length (chars line) - 1) 0 == 13) ≡ b
    → chars line ≡ cond b (take (length (chars line) - 1) (chars line)) (chars line)) [ true ↦ λ e. absurd (ended e) | false ↦ λ e. refl ] refl
  where
    ended : (get_or (chars line) (length (chars line) - 1) 0 == 13) ≡ true → ⊥
    ended e =
        let front = take (length (chars line) - 1) (chars line) in
        h (encode_utf8_all front) (sym (encodes-chars line u) ∙ ap encode_utf8_all (returned (chars line) (eqb-true _ 13 e)) ∙ closed 13 front (omega arith))

-- ---- docs

-- the comment of a line, and those of the lines behind it
pub doc_text : (gap : Text) (text line rest : List ℕ) → IsUtf8 line → lines (chars text) ≡ chars line ∷ lines (chars rest)
    → encode_utf8_all (flat_map (λ t. codes "/// " ++ (t ++ gap)) (lines (chars text)))
    ≡ (codes "/// " ++ (line ++ encode_utf8_all gap)) ++ encode_utf8_all (flat_map (λ t. codes "/// " ++ (t ++ gap)) (lines (chars rest)))
doc_text gap text line rest u e =
    let behind = flat_map (λ t. codes "/// " ++ (t ++ gap)) (lines (chars rest)) in
    let comment : encode_utf8_all (codes "/// " ++ (chars line ++ gap)) ≡ codes "/// " ++ (line ++ encode_utf8_all gap) =
    encodes-append (codes "/// ") (chars line ++ gap)
    ∙ ap₂ (λ a b. a ++ b) (ascii_text (codes "/// ") refl) (encodes-append (chars line) gap ∙ ap (λ b. b ++ encode_utf8_all gap) (encodes-chars line u)) in
    ap (λ ls. encode_utf8_all (flat_map (λ t. codes "/// " ++ (t ++ gap)) ls)) e ∙ encodes-append (codes "/// " ++ (chars line ++ gap)) behind
    ∙ ap (λ b. b ++ encode_utf8_all behind) comment
