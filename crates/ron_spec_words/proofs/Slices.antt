-- What holds no escape is a slice of the text: for strings that are handed out without a copy.
use Rattle.std.proofs.Common.{◌≡◌, ℕ, ◌==◌, Bool, true, false, [], ◌∷◌, ◌++◌, encode_utf8, encode_utf8_all, flat_map, Some, inl, inr, refl, sym, ap, ap₂, ◌∙◌}
use Rattle.std.proofs.lemmas.Bool.{or_parts}
use Rattle.std.proofs.lemmas.Option.{same_Some}
use Rattle.ron_spec_words.specs.Characters.{Text}
use Rattle.ron_spec_words.specs.Lang.{Lang, Or}
use Rattle.ron_spec_words.specs.Quoted.{Pieces, close, piece, StringPiece, itself, hashes, Raw, QuotedBytes, RawBytes, holds_backslash, holds_escape}
use Rattle.ron_spec_words.specs.Quoted.{BetweenQuotes}
use Rattle.ron_spec_words.specs.Literals.{SlicesStrings, SlicesByteStrings}
use Rattle.ron_spec_words.proofs.Escapes.{AllEscaped, Escaped, is_mark, escaped_continuation}
use Rattle.ron_spec_words.proofs.Quotes.{no_meaning, escaped_string, escaped_byte_string}

no_backslash : (t u : Text) → holds_backslash (t ++ u) ≡ false → (holds_backslash t ≡ false) × (holds_backslash u ≡ false)
no_backslash [] u e = (refl, e)
no_backslash (c ∷ t) u e = let k = or_parts (c == 92) (holds_backslash (t ++ u)) e in let l = no_backslash t u k.1 in (rw (k.0, l.0) refl, l.1)

not_escaped : (p : ℕ → Bool) (t : Text) → Escaped p t → holds_backslash t ≡ false → ⊥
not_escaped p t h e = let k : true ≡ false = sym (ap holds_backslash h.same) ∙ e in cc

-- what pieces without a backslash are: plain characters
record Plain (give : ℕ → Text) (t a : Text) : Type 0 where
  content : Text
  split : t ≡ content ++ 34 ∷ []
  given : flat_map give content ≡ a

plain_piece : (give : ℕ → Text) (c : ℕ) (t u a b : Text) → t ≡ c ∷ [] → give c ≡ a → Plain give u b → Plain give (t ++ u) (a ++ b)
plain_piece give c t u a b e f h = record { content = c ∷ h.content; split = ap₂ (λ x y. x ++ y) e h.split; given = ap₂ (λ x y. x ++ y) f h.given }

plain_pieces : (give : ℕ → Text) (E : Lang Text) → AllEscaped is_mark E → {t next a : Text} → Pieces (StringPiece give E) t next a → holds_backslash t ≡ false
    → Plain give t a
plain_pieces give E h close e = record { content = []; split = refl; given = refl }
plain_pieces give E h (piece t u next a b p q) e = let k = no_backslash t u e in go p k.0 (plain_pieces give E h q k.1)
  where
    go : StringPiece give E t (u ++ next) a → holds_backslash t ≡ false → Plain give u b → Plain give (t ++ u) (a ++ b)
    go (inl z) f r = absurd (not_escaped _ t (escaped_continuation.holds t (u ++ next) a z) f)
    go (inr (inl z)) f r = absurd (not_escaped _ t (h.holds t (u ++ next) a z) f)
    go (inr (inr z)) f r = plain_piece give z.value t u a b z.spelled (same_Some _ _ (no_meaning _ (Some (give z.value)) a z.meant).1) r

pub flat_map-itself : (t : Text) → flat_map itself t ≡ t
flat_map-itself [] = refl
flat_map-itself (c ∷ t) = ap (λ x. c ∷ x) (flat_map-itself t)

flat_map-utf8 : (t : Text) → flat_map encode_utf8 t ≡ encode_utf8_all t
flat_map-utf8 [] = refl
flat_map-utf8 (c ∷ t) = ap (λ x. encode_utf8 c ++ x) (flat_map-utf8 t)

raw_between : (t next a : Text) → Raw t next a → BetweenQuotes t a
raw_between t next a z = record { before = hashes z.count; after = hashes z.count; split = z.same }

behind : (c : ℕ) (t rest a : Text) → t ≡ c ∷ rest → BetweenQuotes rest a → BetweenQuotes t a
behind c t rest a e h = record { before = c ∷ h.before; after = h.after; split = e ∙ ap (λ x. c ∷ x) h.split }

quoted_between : (t rest content : Text) → t ≡ 34 ∷ rest → rest ≡ content ++ 34 ∷ [] → BetweenQuotes t content
quoted_between t rest content e f = record { before = []; after = []; split = e ∙ ap (λ x. 34 ∷ x) f }

pub slices_strings : SlicesStrings
slices_strings t next s (inl z) e =
    let k : holds_backslash z.rest ≡ false = sym (ap holds_escape z.split) ∙ e in
    let p = plain_pieces itself _ escaped_string z.spelled k in
    rw (sym p.given ∙ flat_map-itself p.content) (quoted_between t z.rest p.content z.split p.split)
slices_strings t next s (inr z) e = behind 114 t z.rest s z.split (raw_between z.rest next s z.spelled)

pub slices_byte_strings : SlicesByteStrings
slices_byte_strings t next bytes z e = go z.spelled
  where
    go : Or QuotedBytes RawBytes z.rest next bytes → (content : Text) × BetweenQuotes t content × (encode_utf8_all content ≡ bytes)
    go (inl y) =
        let k : holds_backslash y.rest ≡ false = sym (ap holds_escape (z.split ∙ ap (λ x. 98 ∷ x) y.split)) ∙ e in
        let p = plain_pieces encode_utf8 _ escaped_byte_string y.spelled k in
        (p.content, behind 98 t z.rest p.content z.split (quoted_between z.rest y.rest p.content y.split p.split), sym (flat_map-utf8 p.content) ∙ p.given)
    go (inr y) =
        let x = y.spelled in (
          x.value,
          behind 98 t z.rest x.value z.split (behind 114 z.rest y.rest x.value y.split (raw_between y.rest next x.value x.spelled)),
          same_Some _ _ x.meant,
        )
