-- Laws of what a text says: token for token, and edge for edge.
use Rattle.std.proofs.Common.{◌≡◌, ℕ, ◌-◌, Bool, true, false, ◌||◌, ◌==◌, eqb-true, length, length-append, [], ◌∷◌, ◌++◌, Some, refl, sym, ap, ◌∙◌}
use Rattle.std.proofs.Common.{append_assoc, arith}
use Rattle.ron_spec_words.specs.Characters.{Text}
use Rattle.ron_spec_words.specs.Gap.{LongGap}
use Rattle.ron_spec_words.specs.Scan.{token, is_opening}
use Rattle.ron_spec_words.proofs.Gaps.{take-front, skip-other}
use Rattle.ron_spec_words.proofs.Tokens.{token_gap, gap_starts}
use Rattle.ron_spec_words.proofs.Walks.{opening_alone, closing_alone, comma_alone, colon_alone}
use Rattle.ron_format_words.specs.Alike.{is_mark}
use Rattle.ron_format_words.specs.Comments.{comments_of, told, said_from, said}
use Rattle.ron_format_words.specs.Edge.{IsEdge, gap_alone, with_comma}
use Rattle.ron_format_words.proofs.Comments.{comments-nil, comments-separated}

-- past the characters that were counted
said-counted : (t s : Text) → said_from (length t) (t ++ s) ≡ said s
unfolding said said_from
said-counted [] s = refl
said-counted (c ∷ t) s = said-counted t s

-- a token, and what follows it
pub said-token : (c : ℕ) (t s : Text) → token (c ∷ (t ++ s)) ≡ Some s → said (c ∷ (t ++ s)) ≡ told (c ∷ t) ++ said s
unfolding said said_from
said-token c t s e =
    let n : length (t ++ s) - length s ≡ length t = omega (arith, length-append t s) in
    rw (e, n) (ap (λ x. told x ++ said_from (length t) (t ++ s)) (take-front (c ∷ t) s) ∙ ap (λ x. told (c ∷ t) ++ x) (said-counted t s))

-- a gap, and what follows it
pub said-gap : (g s : Text) → LongGap g s → said (g ++ s) ≡ comments_of g ++ said s
said-gap [] s h = ap (λ x. x ++ said s) (sym comments-nil)
said-gap (c ∷ g) s h = said-token c g s (token_gap c g s h) ∙ rw (gap_starts c g s h.is_gap) refl

-- `,`, `:` or a bracket is a token by itself
pub token_mark : (c : ℕ) (s : Text) → is_mark c ≡ true → token (c ∷ s) ≡ Some s
token_mark c s h = go (c == 44) refl (c == 58) refl (c == 41) refl (c == 93) refl (c == 125) refl h
  where
    go : (a : Bool) → (c == 44) ≡ a → (b : Bool) → (c == 58) ≡ b → (d : Bool) → (c == 41) ≡ d → (e : Bool) → (c == 93) ≡ e → (f : Bool) → (c == 125) ≡ f
        → ((((a || b) || (d || e)) || f) || is_opening c) ≡ true → token (c ∷ s) ≡ Some s
    go true ka b kb d kd e ke f kf k = rw (eqb-true c 44 ka) (comma_alone s)
    go false ka true kb d kd e ke f kf k = rw (eqb-true c 58 kb) (colon_alone s)
    go false ka false kb true kd e ke f kf k = rw (eqb-true c 41 kd) (closing_alone 41 s refl)
    go false ka false kb false kd true ke f kf k = rw (eqb-true c 93 ke) (closing_alone 93 s refl)
    go false ka false kb false kd false ke true kf k = rw (eqb-true c 125 kf) (closing_alone 125 s refl)
    go false ka false kb false kd false ke false kf k = opening_alone c s k

-- an edge, and what follows it
pub said-edge : {edge s : Text} → IsEdge edge s → said (edge ++ s) ≡ comments_of edge ++ said s
said-edge (gap_alone g s h) = said-gap g s h
said-edge (with_comma g second s h k) =
    ap said (append_assoc g (44 ∷ second) s) ∙ said-gap g (44 ∷ (second ++ s)) (record { is_gap = h; longest = skip-other 44 (second ++ s) refl refl })
    ∙ ap (λ x. comments_of g ++ x) (said-token 44 [] (second ++ s) (token_mark 44 (second ++ s) refl) ∙ said-gap second s k)
    ∙ sym (append_assoc (comments_of g) (comments_of second) (said s)) ∙ ap (λ x. x ++ said s) (sym (comments-separated g second (second ++ s) h))
