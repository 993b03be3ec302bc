-- Strings and byte strings passed without a look at what they give: a piece more or less, and where the content ends.
use Rattle.std.proofs.Common.{◌≡◌, ℕ, true, false, List, [], ◌∷◌, ◌++◌, flat_map, Option, Some, None, MatchOption, chars, refl, sym, ap, ◌∙◌}
use denote.Ref.{Bor}
use Rattle.ron_spec_words.specs.Characters.{Text}
use Rattle.ron_spec_words.specs.Runs.{begins, is_at, run_of, after_run}
use Rattle.ron_spec_words.specs.Lang.{Lang}
use Rattle.ron_spec_words.specs.Reader.{bad, Got, got, failed, Reader, meant}
use Rattle.ron_spec_words.specs.Quoted.{append, raw, utf8, byte_string}
use Rattle.ron_spec_words.specs.Scan.{left_by}
use Rattle.ron_lex.specs.Quoted.{escape_piece}
use Rattle.ron_lex.specs.Token.{Leaves}
use Rattle.ron_lex_text.proofs.StretchLemmas.{run_joined}
use Rattle.ron_lex.specs.Content.{IsContent}
use Rattle.ron_lex.proofs.StringLemmas.{plain, content_starts, content_turns, content_refused, content_closed, content_unclosed}

left-meant : (o : Got Text) (a : Text) → left_by (meant o (append a)) ≡ left_by o
left-meant (got b rest) a = refl
left-meant (failed f) a = refl

-- what is joined to nothing stays
stays : (o : Got Text) → o ≡ meant o (append [])
stays (got b rest) = refl
stays (failed f) = refl

module _ {C : Reader Text} {give : ℕ → Text} {e : Reader Text} {E : Lang Text} (z : IsContent C give e E) where
  -- the plain characters at the start
  pub skip_starts : (s rest : Text) → rest ≡ after_run plain s → left_by (C rest) ≡ left_by (C s)
  skip_starts s rest f =
      let joined : s ≡ run_of plain s ++ rest = run_joined plain s ∙ ap (λ x. run_of plain s ++ x) (sym f) in
      let given : Text = flat_map give (run_of plain s) in
      sym (ap left_by (content_starts z s (run_of plain s) given rest given [] refl f joined refl refl) ∙ left-meant (C rest) given)

  -- what a backslash begins, and the plain characters behind it
  pub skip_turns : (s u rest a : Text) → is_at 92 s ≡ true → escape_piece e s ≡ got a u → rest ≡ after_run plain u → left_by (C rest) ≡ left_by (C s)
  skip_turns s u rest a here m f =
      let joined : u ≡ run_of plain u ++ rest = run_joined plain u ∙ ap (λ x. run_of plain u ++ x) (sym f) in
      let given : Text = flat_map give (run_of plain u) in
      sym (ap left_by (content_turns z s s u (run_of plain u) given rest [] (a ++ given) a refl (stays (C s)) here m f joined refl)
      ∙ left-meant (C rest) (a ++ given))

  pub skip_refused : (s : Text) → is_at 92 s ≡ true → escape_piece e s ≡ failed bad → left_by (C s) ≡ None
  skip_refused s here m = ap left_by (content_refused z s s [] (stays (C s)) here m)

  pub skip_closed : (s behind : Text) → s ≡ 34 ∷ behind → left_by (C s) ≡ Some behind
  skip_closed s behind f = ap left_by (content_closed z s s behind [] (stays (C s)) f)

  pub skip_unclosed : (s : Text) → begins plain s ≡ false → is_at 92 s ≡ false → is_at 34 s ≡ false → left_by (C s) ≡ None
  skip_unclosed s f g h = ap left_by (content_unclosed z s s [] (stays (C s)) f g h)

  -- the closing quote, or none
  pub skip_ends : (s start : Text) (found : Option (Bor (List ℕ))) → begins plain s ≡ false → is_at 92 s ≡ false → left_by (C s) ≡ left_by (C start)
      → MatchOption found (is_at 34 s ≡ false) (λ rest. s ≡ 34 ∷ chars rest.now) → Leaves found (left_by (C start))
  skip_ends s start None f g h m = sym h ∙ skip_unclosed s f g m
  skip_ends s start (Some rest) f g h m = sym h ∙ skip_closed s (chars rest.now) m

-- a raw byte string ends where its raw text does
pub skip_raw_bytes : (s marked rest a : Text) → s ≡ 98 ∷ 114 ∷ marked → raw marked ≡ got a rest → left_by (byte_string s) ≡ Some rest
unfolding byte_string
skip_raw_bytes s marked rest a e f = rw e (ap (λ o. left_by (meant o utf8)) f)
