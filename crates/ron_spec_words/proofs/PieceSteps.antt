-- The pieces of a string one at a time, without the bound on its length, and plain characters in a row: for `ron_lex`.
use Rattle.std.proofs.Common.{◌≡◌, ℕ, zero, suc, ◌<◌, ◌==◌, false, cond, length, [], ◌∷◌, ◌++◌, flat_map, refl, ap, ◌∙◌, arith, append_assoc, length-append}
use Rattle.std.proofs.Common.{sym}
use Rattle.ron_spec_words.specs.Characters.{Text}
use Rattle.ron_spec_words.specs.Runs.{is_at}
use Rattle.ron_spec_words.specs.Lang.{Lang}
use Rattle.ron_spec_words.specs.Reader.{Fault, Got, got, failed, Reader, mark, meant, means, pick}
use Rattle.ron_spec_words.specs.Exact.{IsWordReader}
use Rattle.ron_spec_words.specs.Directly.{and_directly, directly}
use Rattle.ron_spec_words.specs.Quoted.{append, pieces_in, pieces, StringPiece, string_piece}
use Rattle.ron_spec_words.proofs.Escapes.{AllEscaped, is_mark}
use Rattle.ron_spec_words.proofs.Quotes.{IsPieceReader, piece_reader}

-- what pieces are read by, at a piece and then by q
abbrev pub one_piece : Reader Text → Reader Text → Reader Text
one_piece r q = pick (is_at 34) (mark 34 []) (directly r (λ a. means q (append a)))

pub meant-twice : (o : Got Text) (a b : Text) → meant (meant o (append b)) (append a) ≡ meant o (append (a ++ b))
meant-twice (got c u) a b = ap (λ x. got x u) (sym (append_assoc a b c))
meant-twice (failed f) a b = refl

module _ (r : Reader Text) (P : Lang Text) (h : IsPieceReader r P) where
  shorter : (s a rest : Text) → r s ≡ got a rest → length rest < length s
  shorter s a rest e =
      let x = h.is_word.sound s a rest e in
      let m = h.some_length x.stretch rest a x.spelled in
      omega (arith, m, ap length x.split, length-append x.stretch rest)

  -- two that answer the same on shorter texts
  same_piece : (q w : Reader Text) (s : Text) → ((u : Text) → length u < length s → q u ≡ w u) → one_piece r q s ≡ one_piece r w s
  same_piece q w s f = ap (λ y. cond (is_at 34 s) (mark 34 [] s) y) (go (r s) refl)
    where
      go : (o : Got Text) → r s ≡ o → and_directly o (λ a. means q (append a)) ≡ and_directly o (λ a. means w (append a))
      go (got a u) e = ap (λ y. meant y (append a)) (f u (shorter s a u e))
      go (failed x) e = refl

  enough_fuel : (m n : ℕ) (s : Text) → length s < m → length s < n → pieces_in r m s ≡ pieces_in r n s
  enough_fuel zero n s i j = absurd (omega (arith, i))
  enough_fuel (suc m) zero s i j = absurd (omega (arith, j))
  enough_fuel (suc m) (suc n) s i j = same_piece (pieces_in r m) (pieces_in r n) s (λ u k. enough_fuel m n u (omega (arith, i, k)) (omega (arith, j, k)))

  pub pieces-step : (s : Text) → pieces r s ≡ one_piece r (pieces r) s
  pieces-step s = same_piece (pieces_in r (length s)) (pieces r) s (λ u k. enough_fuel (length s) (suc (length u)) u k (omega arith))

  -- a piece, and then the rest of them
  pub pieces-piece : (s a u : Text) → is_at 34 s ≡ false → r s ≡ got a u → pieces r s ≡ meant (pieces r u) (append a)
  pieces-piece s a u n e = pieces-step s ∙ rw (n, e) refl

  -- no piece, and no closing quote
  pub pieces-fault : (s : Text) (f : Fault) → is_at 34 s ≡ false → r s ≡ failed f → pieces r s ≡ failed f
  pieces-fault s f n e = pieces-step s ∙ rw (n, e) refl

  -- one piece more behind those that a loop has read so far
  pub pieces-more : (start s a u so_far : Text) → pieces r start ≡ meant (pieces r s) (append so_far) → is_at 34 s ≡ false → r s ≡ got a u
      → pieces r start ≡ meant (pieces r u) (append (so_far ++ a))
  pieces-more start s a u so_far e n k = e ∙ ap (λ y. meant y (append so_far)) (pieces-piece s a u n k) ∙ meant-twice (pieces r u) so_far a

-- ---- plain characters

-- neither a quote nor a backslash
abbrev pub IsPlain : Text → Type 0
IsPlain [] = Unit {0}
IsPlain (c ∷ t) = ((c == 34) ≡ false) × ((c == 92) ≡ false) × IsPlain t

pub meant-none : (o : Got Text) → meant o (append []) ≡ o
meant-none (got c u) = refl
meant-none (failed f) = refl

module _ (give : ℕ → Text) (e : Reader Text) (E : Lang Text) (h : AllEscaped is_mark E) (k : IsWordReader e E) where
  -- a plain character is a piece
  pub pieces-character : (c : ℕ) (s : Text) → (c == 34) ≡ false → (c == 92) ≡ false
      → pieces (string_piece give e) (c ∷ s) ≡ meant (pieces (string_piece give e) s) (append (give c))
  pieces-character c s n m = pieces-step (string_piece give e) (StringPiece give E) (piece_reader give h k) (c ∷ s) ∙ rw (n, m) refl

  -- so is each of a run of them
  pub pieces-run : (t s : Text) → IsPlain t → pieces (string_piece give e) (t ++ s) ≡ meant (pieces (string_piece give e) s) (append (flat_map give t))
  pieces-run [] s i = sym (meant-none (pieces (string_piece give e) s))
  pieces-run (c ∷ t) s i =
      pieces-character c (t ++ s) i.0 i.1
      ∙ ap (λ y. meant y (append (give c))) (pieces-run t s i.2)
      ∙ meant-twice (pieces (string_piece give e) s) (give c) (flat_map give t)
