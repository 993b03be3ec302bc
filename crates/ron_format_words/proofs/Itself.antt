-- A text that some text is made of the same words as is made of the same words as itself: what is kept as it stands is kept.
use Rattle.std.proofs.Common.{◌≡◌, ◌∷◌, ◌++◌, false, refl, sym, subst, ◌∙◌, append_assoc}
use Rattle.ron_spec_words.specs.Characters.{Text}
use Rattle.ron_spec_words.specs.Gap.{LongGap}
use Rattle.ron_format_words.specs.Alike.{Before, Step, plain, added, dropped}
use Rattle.ron_format_words.specs.Edge.{IsEdge, gap_alone, with_comma, holds_comma}
use Rattle.ron_format_words.specs.Places.{Place, commas_in, AlikeFrom, ended, mark, word}
use Rattle.ron_format_words.specs.Written.{place_past_edge, Kept}
use Rattle.ron_format_words.proofs.Edges.{Onward, leads_on, may_stay_edge, alone_holds_none, in_the_body, body_stays}

-- an edge as it stands leads on
edge_itself : (p : Place) (b : Before) (edge s rest : Text) → s ≡ edge ++ rest → IsEdge edge rest → place_past_edge p edge ≡ p → AlikeFrom p rest rest
    → Onward p b s s
edge_itself p b edge s rest e h stays r =
    subst (λ x. Onward p b x x) (sym e) (leads_on false p b h h (λ z. absurd (cc)) (may_stay_edge false b h) (subst (λ q. AlikeFrom q rest rest) (sym stays) r))

past_gap : (p : Place) (gap rest : Text) → LongGap gap rest → place_past_edge p gap ≡ p
past_gap p gap rest h = rw (alone_holds_none gap rest h.is_gap) refl

step_itself : {p : Place} {b : Before} {s u rest other : Text} → Step (commas_in p) b s u rest other → AlikeFrom p rest rest → Onward p b s s
step_itself {p} {b} {s} {u} {rest} (plain x) r = edge_itself p b x.gap s rest x.split (gap_alone x.gap rest x.is_gap) (past_gap p x.gap rest x.is_gap) r
step_itself {p} {b} {s} {u} {rest} (added c i e x y) r = edge_itself p b x.gap s rest x.split (gap_alone x.gap rest x.is_gap) (past_gap p x.gap rest x.is_gap) r
step_itself {p} {b} {s} {u} {rest} (dropped c i e x y) r =
    edge_itself p b (x.gap ++ 44 ∷ x.second) s rest (x.split ∙ sym (append_assoc x.gap (44 ∷ x.second) rest))
    (with_comma x.gap x.second rest x.is_gap.is_gap x.is_second)
    (body_stays p (in_the_body p rest c) (holds_comma (x.gap ++ 44 ∷ x.second))) r

from_itself : {p : Place} {s u : Text} → AlikeFrom p s u → AlikeFrom p s s
from_itself (ended p) = ended p
from_itself (mark p c s u rest other m g r) = let o = step_itself g (from_itself r) in mark p c s s o.rest o.other m o.step o.words
from_itself (word p c t s u rest other h e f g r) = let o = step_itself g (from_itself r) in word p c t s s o.rest o.other h e e o.step o.words

pub kept_itself : {s u : Text} → Kept s u → Kept s s
kept_itself {s} {u} h =
    let x = h.words in
    record {
      words = record {
        rest = x.rest;
        other = x.rest;
        gapped = record {
          gap = x.gapped.gap;
          instead = x.gapped.gap;
          split = x.gapped.split;
          splits = x.gapped.split;
          is_gap = x.gapped.is_gap;
          is_other = x.gapped.is_gap;
          may = refl;
        };
        alike = from_itself x.alike;
      };
      comments = refl;
    }
