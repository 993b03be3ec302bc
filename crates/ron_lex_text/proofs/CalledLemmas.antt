-- A text and a name, gone over side by side: for `strip_called`.
use Rattle.std.specs.Prelude.{encode_utf8_all}
use Rattle.std.proofs.Common.{◌≡◌, ℕ, ◌+◌, ◌<◌, ◌≤◌, Bool, true, false, ◌&&◌, ◌==◌, cond, nat_lt, List, [], ◌∷◌, ◌++◌, length, get_or, drop, IsUtf8, refl, sym}
use Rattle.std.proofs.Common.{ap, ap₂, ◌∙◌, arith, eqb-true, eq-eqb}
use Rattle.std.specs.List.{list_all}
use Rattle.std.specs.Str.{chars}
use Rattle.std.proofs.Math.Bool.{and-false}
use Rattle.std.proofs.Math.ListN.{drop_of_length-le}
use Rattle.std.proofs.lemmas.Bool.{and_parts, ltb-true, ltb-false}
use Rattle.std.proofs.lemmas.List.{get_or-drop, length-drop}
use Rattle.std.proofs.lemmas.Str.{byte_from_char, chars-nil, encodes-chars}
use Rattle.ron_spec_words.specs.Characters.{Text, continues_name, colon}
use Rattle.ron_spec_words.specs.Runs.{begins_with, is_at}
use Rattle.ron_lex_text.specs.Stretch.{in_ascii_name, stands_called, parting}
use Rattle.ron_lex_text.proofs.NameLemmas.{first_is, byte_first}

-- ---- by characters

step : (c : ℕ) (n s : Text) → in_ascii_name c ≡ true → (stands_called (c ∷ n) (c ∷ s) ≡ stands_called n s) × (parting (c ∷ n) (c ∷ s) ≡ parting n s)
step c n s h =
    let same = eq-eqb c c refl in
    (ap₂ (λ p q. (p && list_all in_ascii_name n) && (q && begins_with (n ++ colon ∷ []) s)) h same, ap₂ (λ p q. cond (p && q) (parting n s) (c ∷ s)) same h)

-- the name goes on, and the text doesn't go on as it does
stop : (c : ℕ) (n s : Text) → ((d : ℕ) (t : Text) → s ≡ d ∷ t → ((d == c) && in_ascii_name c) ≡ false)
    → (stands_called (c ∷ n) s ≡ false) × (parting (c ∷ n) s ≡ s)
stop c n [] h = (and-false (in_ascii_name c && list_all in_ascii_name n), refl)
stop c n (d ∷ s) h = (go (in_ascii_name c) (d == c) (h d s refl), ap (λ b. cond b (parting n s) (d ∷ s)) (h d s refl))
  where
    go : (p q : Bool) → (q && p) ≡ false → ((p && list_all in_ascii_name n) && (q && begins_with (n ++ colon ∷ []) s)) ≡ false
    go false q e = refl
    go true false e = and-false (list_all in_ascii_name n)
    go true true e = cc

pub joined : (n s rest : Text) → stands_called n s ≡ true → parting n s ≡ rest → s ≡ n ++ rest
joined [] s rest h e = e
joined (c ∷ n) [] rest h e = let z = and_parts (list_all in_ascii_name (c ∷ n)) false h in cc
joined (c ∷ n) (d ∷ s) rest h e =
    let parts = and_parts (list_all in_ascii_name (c ∷ n)) ((d == c) && begins_with (n ++ colon ∷ []) s) h in
    let name = and_parts (in_ascii_name c) (list_all in_ascii_name n) parts.0 in
    let text = and_parts (d == c) (begins_with (n ++ colon ∷ []) s) parts.1 in
    let later : stands_called n s ≡ true = rw (name.1, text.1) refl in
    let on : parting (c ∷ n) (d ∷ s) ≡ parting n s = ap₂ (λ p q. cond (p && q) (parting n s) (d ∷ s)) text.0 name.0 in
    ap₂ (λ x y. x ∷ y) (eqb-true d c text.0) (joined n s rest later (sym on ∙ e))

-- at the end of the name
pub stands_here : (s rest : Text) → s ≡ colon ∷ rest → stands_called [] s ≡ true
stands_here s rest e = rw e refl

pub stands_nowhere : (s : Text) → is_at colon s ≡ false → stands_called [] s ≡ false
stands_nowhere [] e = refl
stands_nowhere (d ∷ s) e = ap (λ b. b && true) e

-- ---- by bytes

-- behind a byte of the name that stands in the text too
pub both_pass : {wanted name hay text : List ℕ} {i : ℕ} → wanted ≡ name → hay ≡ text → i < length wanted → i < length hay → get_or hay i 0 ≡ get_or wanted i 0
    → IsUtf8 (drop i name) → IsUtf8 (drop i text)
    → (nat_lt (get_or wanted i 0) 128 && continues_name (get_or wanted i 0)) ≡ true
    → (i + 1 ≤ length name) × (i + 1 ≤ length text) × IsUtf8 (drop (i + 1) name) × IsUtf8 (drop (i + 1) text)
    × (stands_called (chars (drop (i + 1) name)) (chars (drop (i + 1) text)) ≡ stands_called (chars (drop i name)) (chars (drop i text)))
    × (parting (chars (drop (i + 1) name)) (chars (drop (i + 1) text)) ≡ parting (chars (drop i name)) (chars (drop i text)))
both_pass {wanted} {name} {hay} {text} {i} w h in_name in_text same u v is =
    let byte = get_or wanted i 0 in
    let small = ltb-true byte 128 (and_parts (nat_lt byte 128) (continues_name byte) is).0 in
    let first = first_is byte (drop i name) (drop (i + 1) name) small u (byte_first w in_name) in
    let second = first_is byte (drop i text) (drop (i + 1) text) small v (byte_first h in_text ∙ ap (λ b. b ∷ drop (i + 1) text) same) in
    let on = step byte (chars (drop (i + 1) name)) (chars (drop (i + 1) text)) is in (
      omega (arith, in_name, ap length w),
      omega (arith, in_text, ap length h),
      first.0,
      second.0,
      sym (ap₂ stands_called first.1 second.1 ∙ on.0),
      sym (ap₂ parting first.1 second.1 ∙ on.1),
    )

-- a character of ASCII at a place is the byte there
byte_at : {hay text : List ℕ} (i c : ℕ) (s : Text) → hay ≡ text → IsUtf8 (drop i text) → chars (drop i text) ≡ c ∷ s → c < 128 → get_or hay i 0 ≡ c
byte_at {hay} {text} i c s h u e small =
    let place : i ≡ i + 0 = omega arith in
    ap (λ l. get_or l i 0) h ∙ ap (λ j. get_or text j 0) place ∙ sym (get_or-drop i text 0 0)
    ∙ byte_from_char (drop i text) (encode_utf8_all s) c (sym (encodes-chars (drop i text) u) ∙ ap encode_utf8_all e) small

in_range : {hay text : List ℕ} (i c : ℕ) (s : Text) → hay ≡ text → chars (drop i text) ≡ c ∷ s → i < length hay
in_range {hay} {text} i c s h e = within (nat_lt i (length hay)) refl
  where
    within : (b : Bool) → nat_lt i (length hay) ≡ b → i < length hay
    within true k = ltb-true i (length hay) k
    within false k =
        let past : length hay ≤ i = ltb-false i (length hay) k in
        let nothing : drop i text ≡ [] = drop_of_length-le text (omega (arith, past, ap length h)) in
        let z : [] ≡ c ∷ s = sym (ap chars nothing ∙ chars-nil) ∙ e in
        cc

-- before one that doesn't
pub parted : {wanted name hay text : List ℕ} {i : ℕ} → wanted ≡ name → hay ≡ text → i < length wanted → IsUtf8 (drop i name) → IsUtf8 (drop i text)
    → (i < length hay → get_or hay i 0 ≡ get_or wanted i 0 → (nat_lt (get_or wanted i 0) 128 && continues_name (get_or wanted i 0)) ≡ false)
    → (stands_called (chars (drop i name)) (chars (drop i text)) ≡ false) × (parting (chars (drop i name)) (chars (drop i text)) ≡ chars (drop i text))
parted {wanted} {name} {hay} {text} {i} w h in_name u v other = by (chars (drop i name)) refl
  where
    by : (n : Text) → chars (drop i name) ≡ n → (stands_called n (chars (drop i text)) ≡ false) × (parting n (chars (drop i text)) ≡ chars (drop i text))
    by [] e =
        let nothing : drop i name ≡ [] = sym (encodes-chars (drop i name) u) ∙ ap encode_utf8_all e in
        absurd (omega (arith, in_name, ap length w, length-drop i name, ap length nothing))
    by (c ∷ n) e = stop c n (chars (drop i text)) (λ d s f. go ((d == c) && in_ascii_name c) d s refl f)
      where
        go : (b : Bool) (d : ℕ) (s : Text) → ((d == c) && in_ascii_name c) ≡ b → chars (drop i text) ≡ d ∷ s → b ≡ false
        go false d s k f = refl
        go true d s k f =
            let both = and_parts (d == c) (in_ascii_name c) k in
            let is = and_parts (nat_lt c 128) (continues_name c) both.1 in
            let small = ltb-true c 128 is.0 in
            let first = byte_at i c n w u e small in
            let second = byte_at i c s h v (f ∙ ap (λ x. x ∷ s) (eqb-true d c both.0)) small in
            sym (ap in_ascii_name first ∙ both.1) ∙ other (in_range i d s h f) (second ∙ sym first)

-- where the name has been gone over
pub ended : {wanted name : List ℕ} {i : ℕ} → wanted ≡ name → length wanted ≤ i → chars (drop i name) ≡ []
ended {name = name} {i = i} w le = ap chars (drop_of_length-le name (omega (arith, le, ap length w))) ∙ chars-nil
