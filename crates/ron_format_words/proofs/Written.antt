-- What is written edge for edge and token for token, where each edge is granted, keeps the words and what the text says.
use Rattle.std.proofs.Common.{◌≡◌, ℕ, Bool, true, false, if◌then◌else◌, [], ◌∷◌, ◌++◌, Some, refl, sym, ap, ap₂, subst, ◌∙◌, append_assoc, append-nil}
use Rattle.std.proofs.lemmas.List.{append_cancel_right}
use Rattle.ron_spec_words.specs.Characters.{Text}
use Rattle.ron_spec_words.specs.Runs.{begins}
use Rattle.ron_spec_words.specs.Scan.{token, starts_gap}
use Rattle.ron_spec_words.proofs.Fronts.{token_front}
use Rattle.ron_format_words.specs.Alike.{is_mark, is_solid, Before, a_mark, a_word, mark_before}
use Rattle.ron_format_words.specs.Comments.{told}
use Rattle.ron_format_words.specs.Edge.{IsEdge, IsGranted}
use Rattle.ron_format_words.specs.Places.{Place, in_head, place_behind, commas_in, ended, mark, word}
use Rattle.ron_format_words.specs.Written.{before_edge, place_past, place_past_edge, Kept, KeptFromWord, KeptFromEdge, WrittenToWord, WrittenToEdge}
use Rattle.ron_format_words.proofs.Ahead.{front, front_behind}
use Rattle.ron_format_words.proofs.Free.{token_stays}
use Rattle.ron_format_words.proofs.Closed.{closed_step, no_comma}
use Rattle.ron_format_words.proofs.Places.{step_anywhere, alike_anywhere}
use Rattle.ron_format_words.proofs.Said.{said-token, said-edge, token_mark}
use Rattle.ron_format_words.proofs.Edges.{edge_stands}

-- ---- what is kept

-- an edge that was granted
pub kept_edge : (k : Bool) (p : Place) (b : Before) (edge given rest other : Text) → IsEdge edge rest → IsGranted k b edge given rest
    → (k ≡ true → commas_in p rest ≡ true) → KeptFromWord (place_past_edge p edge) rest other
    → KeptFromEdge p b (edge ++ rest) (given ++ other)
kept_edge k p b edge given rest other h g at_most r =
    let x = edge_stands k p b edge given rest other h g at_most r.words in
    record {
      rest = x.onward.rest;
      other = x.onward.other;
      step = x.onward.step;
      words = x.onward.words;
      comments = said-edge h ∙ ap₂ (λ y z. y ++ z) x.comments r.comments ∙ sym (said-edge x.is_edge);
    }

-- a mark
kept_mark : (p : Place) (c : ℕ) (s u : Text) → is_mark c ≡ true → KeptFromEdge (place_behind p c) (mark_before c) s u → KeptFromWord p (c ∷ s) (c ∷ u)
kept_mark p c s u m r = record {
  words = mark p c s u r.rest r.other m r.step r.words;
  comments = said-token c [] s (token_mark c s m) ∙ ap (λ y. told (c ∷ []) ++ y) r.comments ∙ sym (said-token c [] u (token_mark c u m));
}

-- a token of a word
kept_solid : (p : Place) (c : ℕ) (t s u : Text) → is_solid c ≡ true → token (c ∷ (t ++ s)) ≡ Some s → KeptFromEdge (place_behind p c) a_word s u
    → KeptFromWord p (c ∷ (t ++ s)) (c ∷ (t ++ u))
kept_solid p c t s u h e r =
    let same : front s ≡ front u = front_behind (step_anywhere r.step) (alike_anywhere r.words) in
    let there : token (c ∷ (t ++ u)) ≡ Some u = token_stays c t s u h e same in
    record {
      words = word p c t s u r.rest r.other h e there r.step r.words;
      comments = said-token c t s e ∙ ap (λ y. told (c ∷ t) ++ y) r.comments ∙ sym (said-token c t u there);
    }

-- any token that is no gap
pub kept_token : (p : Place) (c : ℕ) (t s u : Text) → starts_gap c ≡ false → token (c ∷ (t ++ s)) ≡ Some s
    → KeptFromEdge (place_behind p c) (before_edge (c ∷ (t ++ s))) s u → KeptFromWord p (c ∷ (t ++ s)) (c ∷ (t ++ u))
kept_token p c t s u n e r = go (is_mark c) refl r
  where
    go : (x : Bool) → is_mark c ≡ x → KeptFromEdge (place_behind p c) (if x then mark_before c else a_word) s u → KeptFromWord p (c ∷ (t ++ s)) (c ∷ (t ++ u))
    go true m y =
        let both : Some (t ++ s) ≡ Some s = sym (token_mark c (t ++ s) m) ∙ e in
        let same : t ++ s ≡ s = cc in
        let nothing : [] ≡ t = append_cancel_right [] t s (sym same) in
        subst (λ x. KeptFromWord p (c ∷ (x ++ s)) (c ∷ (x ++ u))) nothing (kept_mark p c s u m y)
    go false m y = kept_solid p c t s u (rw (n, m) refl) e y

-- ---- what is written so far

-- nothing is written
pub written_start : (text : Text) → WrittenToEdge in_head a_mark text [] text
written_start text = record {
  goes_on =
      λ v r. record { words = record { rest = r.rest; other = r.other; gapped = no_comma (closed_step refl r.step); alike = r.words }; comments = r.comments };
}

-- an edge is written, as it was granted
pub written_edge : {p : Place} {b : Before} {text out s : Text} (k : Bool) (edge given rest : Text) → s ≡ edge ++ rest → IsEdge edge rest
    → IsGranted k b edge given rest → (k ≡ true → commas_in p rest ≡ true) → WrittenToEdge p b text out s
    → WrittenToWord (place_past_edge p edge) text (out ++ given) rest
written_edge {p} {b} {text} {out} {s} k edge given rest split h g at_most w = record {
  goes_on = λ v r.
      let kept = subst (λ x. KeptFromEdge p b x (given ++ v)) (sym split) (kept_edge k p b edge given rest v h g at_most r) in
      subst (λ x. Kept text x) (sym (append_assoc out given v)) (w.goes_on (given ++ v) kept);
}

-- a token that is no gap is written
pub written_token : {p : Place} {text out s : Text} (t rest : Text) → begins starts_gap s ≡ false → s ≡ t ++ rest → token s ≡ Some rest
    → WrittenToWord p text out s → WrittenToEdge (place_past p s) (before_edge s) text (out ++ t) rest
written_token {p} {text} {out} {s} t rest n split e w =
    record { goes_on = λ v r. subst (λ x. Kept text x) (sym (append_assoc out t v)) (w.goes_on (t ++ v) (go (token_front s rest e) v r)) }
  where
    go : (c : ℕ) × (u : Text) × (s ≡ c ∷ (u ++ rest)) → (v : Text) → KeptFromEdge (place_past p s) (before_edge s) rest v → KeptFromWord p s (t ++ v)
    go (c, u, f) v r =
        let same : t ≡ c ∷ u = append_cancel_right t (c ∷ u) rest (sym split ∙ f) in
        let edge : KeptFromEdge (place_behind p c) (before_edge (c ∷ (u ++ rest))) rest v =
        subst (λ x. KeptFromEdge (place_past p x) (before_edge x) rest v) f r in
        let no_gap : starts_gap c ≡ false = subst (λ x. begins starts_gap x ≡ false) f n in
        let kept = kept_token p c u rest v no_gap (subst (λ x. token x ≡ Some rest) f e) edge in
        subst (λ x. KeptFromWord p x (t ++ v)) (sym f) (subst (λ x. KeptFromWord p (c ∷ (u ++ rest)) (x ++ v)) (sym same) kept)

-- all is written
pub written_end : {p : Place} {text out : Text} → WrittenToWord p text out [] → Kept text out
written_end {p} {text} {out} w = subst (λ x. Kept text x) (append-nil out) (w.goes_on [] (record { words = ended p; comments = refl }))
