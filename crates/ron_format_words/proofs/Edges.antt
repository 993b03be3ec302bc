-- What stands in an edge's place, once the permission was asked, leads on as the edge did.
use Rattle.std.proofs.Common.{◌≡◌, Bool, true, false, not, ◌||◌, ◌&&◌, if◌then◌else◌, drop, [], ◌∷◌, ◌++◌, inl, inr, refl, sym, ap, subst, ◌∙◌, append_assoc}
use Rattle.std.proofs.Common.{eqb-true}
use Rattle.std.proofs.lemmas.Slice.Eq.{bytes_eq-Decides, slice_eq-Decides}
use Rattle.std.proofs.lemmas.List.{append_cancel_right}
use lib.Pointwise.{pointwise}
use Rattle.ron_spec_words.specs.Characters.{Text}
use Rattle.ron_spec_words.specs.Runs.{begins, is_at, is_ended, same_text}
use Rattle.ron_spec_words.specs.Gap.{Gap, LongGap, skip, gap_of, none, piece, last_line}
use Rattle.ron_spec_words.specs.Scan.{is_closing}
use Rattle.ron_spec_words.proofs.Gaps.{cut, skip-gap, skip_to_end, skip-other}
use Rattle.ron_format_words.specs.Alike.{is_mark, Before, a_parenthesis, a_mark, an_end, a_word, ends_item, as_empty, may_replace, Gapped, OnlyGap, WithLast}
use Rattle.ron_format_words.specs.Alike.{Step, plain, added, dropped}
use Rattle.ron_format_words.specs.Comments.{comments_of}
use Rattle.ron_format_words.specs.Edge.{IsEdge, gap_alone, with_comma, holds_comma, is_closed, is_closed_edge, takes_last_comma, may_stand, permitted}
use Rattle.ron_format_words.specs.Edge.{IsGranted, granted}
use Rattle.ron_format_words.specs.Places.{Place, in_head, in_attribute, in_body, place_behind, commas_in, AlikeFrom, mark}
use Rattle.ron_format_words.specs.Written.{place_past_edge}
use Rattle.ron_format_words.proofs.Places.{alike_anywhere}
use Rattle.ron_format_words.proofs.Steps.{alike_no_gap}
use Rattle.ron_format_words.proofs.Closed.{nothing_alike}

-- ---- gaps before another text

same_empty : (g : Text) → as_empty g g ≡ true
same_empty [] = refl
same_empty (c ∷ g) = refl

-- each gap may stay
pub may_stay : (b : Before) (g rest : Text) → may_replace b g g rest ≡ true
may_stay a_parenthesis g rest = rw (same_empty g) (either (is_at 41 rest))
  where
    either : (x : Bool) → (if x then true else true) ≡ true
    either true = refl
    either false = refl
may_stay a_mark g rest = refl
may_stay an_end g rest = refl
may_stay a_word g rest = rw (same_empty g) (either (is_at 40 rest) (is_ended rest || begins is_mark rest) (is_ended g))
  where
    either : (x y z : Bool) → (if x then not z || z else if y then true else true) ≡ true
    either true y true = refl
    either true y false = refl
    either false true z = refl
    either false false z = refl

-- before a comma any gap may
before_comma : (b : Before) (g h rest : Text) → may_replace b g h (44 ∷ rest) ≡ true
before_comma a_parenthesis g h rest = refl
before_comma a_mark g h rest = refl
before_comma an_end g h rest = refl
before_comma a_word g h rest = refl

-- a gap that another character may follow stands before any text
pub gap_anywhere : {g next : Text} (u : Text) → (next ≡ [] → ⊥) → Gap g next → Gap g u
gap_anywhere u k none = none
gap_anywhere u k (piece p g next h r) = piece p g u h (gap_anywhere u k r)
gap_anywhere u k (last_line t h) = absurd (k refl)

-- where the end of the text stays the end
pub gap_moved : (g rest other : Text) → (rest ≡ [] → other ≡ []) → Gap g rest → Gap g other
gap_moved g [] other k h = subst (λ x. Gap g x) (sym (k refl)) h
gap_moved g (c ∷ rest) other k h = gap_anywhere other (λ z. cc) h

gap_passed : (g rest : Text) → Gap g rest → skip g ≡ []
gap_passed g rest h = skip_to_end g (gap_moved g rest [] (λ _. refl) h)

long_before_comma : (g s : Text) → Gap g (44 ∷ s) → LongGap g (44 ∷ s)
long_before_comma g s h = record { is_gap = h; longest = skip-other 44 s refl refl }

-- ---- edges before another text

pub edge_moved : {edge rest : Text} (other : Text) → skip other ≡ other → (rest ≡ [] → other ≡ []) → IsEdge edge rest → IsEdge edge other
edge_moved other n k (gap_alone g rest h) = gap_alone g other (record { is_gap = gap_moved g rest other k h.is_gap; longest = n })
edge_moved other n k (with_comma g second rest h l) =
    with_comma g second other (gap_anywhere (44 ∷ (second ++ other)) (λ e. cc) h) (record { is_gap = gap_moved second rest other k l.is_gap; longest = n })

-- no gap goes on behind an edge
pub edge_ends : {edge rest : Text} → IsEdge edge rest → skip rest ≡ rest
edge_ends (gap_alone g rest h) = h.longest
edge_ends (with_comma g second rest h k) = k.longest

-- what a closed edge is, whatever follows it
pub data Closed : Text → Type 0 where
  gap : (g : Text) → ((u : Text) → Gap g u) → Closed g
  separated : (g second : Text) → ((u : Text) → Gap g (44 ∷ u)) → ((u : Text) → Gap second u) → Closed (g ++ 44 ∷ second)

pub closed_gap : (g : Text) → is_closed g ≡ true → (u : Text) → Gap g u
closed_gap g e u =
    let same : skip (g ++ 44 ∷ []) ≡ 44 ∷ [] = (bytes_eq-Decides (skip (g ++ 44 ∷ [])) (44 ∷ [])).0 e in
    let c = cut (g ++ 44 ∷ []) in
    let gap : g ≡ gap_of (g ++ 44 ∷ []) = append_cancel_right g (gap_of (g ++ 44 ∷ [])) (44 ∷ []) (c.split ∙ ap (λ x. gap_of (g ++ 44 ∷ []) ++ x) same) in
    gap_anywhere {next = 44 ∷ []} u (λ z. cc) (rw gap (subst (λ x. Gap (gap_of (g ++ 44 ∷ [])) x) same c.is_gap.is_gap))

pub is_closed_one : (edge : Text) → is_closed_edge edge ≡ true → Closed edge
is_closed_one edge e = go (holds_comma edge) refl e
  where
    go : (x : Bool) → holds_comma edge ≡ x → is_closed (if x then drop 1 (skip edge) else edge) ≡ true → Closed edge
    go false h k = gap edge (closed_gap edge k)
    go true h k = whole (skip edge) refl h k
      where
        whole : (s : Text) → skip edge ≡ s → is_at 44 s ≡ true → is_closed (drop 1 s) ≡ true → Closed edge
        whole [] a b d = absurd (cc)
        whole (c ∷ second) a b d =
            let same : c ≡ 44 = eqb-true c 44 b in
            let split : edge ≡ gap_of edge ++ 44 ∷ second = (cut edge).split ∙ ap (λ x. gap_of edge ++ x) (a ∙ ap (λ x. x ∷ second) same) in
            let is_gap : Gap (gap_of edge) (c ∷ second) = subst (λ x. Gap (gap_of edge) x) a (cut edge).is_gap.is_gap in
            subst Closed (sym split) (separated (gap_of edge) second (λ u. gap_anywhere (44 ∷ u) (λ z. cc) is_gap) (closed_gap second d))

closed_is_edge : {edge : Text} (other : Text) → skip other ≡ other → Closed edge → IsEdge edge other
closed_is_edge other n (gap g h) = gap_alone g other (record { is_gap = h other; longest = n })
closed_is_edge other n (separated g second h k) = with_comma g second other (h (second ++ other)) (record { is_gap = k other; longest = n })

-- ---- which edges hold a comma

pub alone_holds_none : (g rest : Text) → Gap g rest → holds_comma g ≡ false
alone_holds_none g rest h = ap (is_at 44) (gap_passed g rest h)

pub separated_holds_one : (g second s : Text) → Gap g (44 ∷ s) → holds_comma (g ++ 44 ∷ second) ≡ true
separated_holds_one g second s h = ap (is_at 44) (skip-gap (gap_anywhere (44 ∷ second) (λ e. cc) h) ∙ skip-other 44 second refl refl)

-- ---- what may stand leads on

-- from here on, behind something, the texts are made of the same words; with the place before what follows
pub record Onward (p : Place) (b : Before) (s u : Text) : Type 0 where
  pub rest : Text
  pub other : Text
  pub step : Step (commas_in p) b s u rest other
  pub words : AlikeFrom p rest other

ands : (a b c : Bool) → (a && (b && c)) ≡ true → (a ≡ true) × (b ≡ true) × (c ≡ true)
ands true true true e = (refl, refl, refl)
ands true true false e = absurd (cc)
ands true false c e = absurd (cc)
ands false b c e = absurd (cc)

only_gap : (g s : Text) → LongGap g s → OnlyGap (g ++ s) s
only_gap g s h = record { gap = g; split = refl; is_gap = h }

with_last : (g second s : Text) → Gap g (44 ∷ (second ++ s)) → LongGap second s → WithLast ((g ++ 44 ∷ second) ++ s) s
with_last g second s h k =
    record { gap = g; second = second; split = append_assoc g (44 ∷ second) s; is_gap = long_before_comma g (second ++ s) h; is_second = k }

pub gapped : (b : Before) (g h rest other : Text) → LongGap g rest → LongGap h other → may_replace b g h rest ≡ true
    → Gapped b (g ++ rest) (h ++ other) rest other
gapped b g h rest other k l m = record { gap = g; instead = h; split = refl; splits = refl; is_gap = k; is_other = l; may = m }

-- last commas come and go in the body alone
pub in_the_body : (p : Place) (s : Text) → commas_in p s ≡ true → p ≡ in_body
in_the_body in_head s e = absurd (cc)
in_the_body in_attribute s e = absurd (cc)
in_the_body in_body s e = refl

-- where a mark leaves the place as it is
pub body_stays : (p : Place) → p ≡ in_body → (x : Bool) → (if x then place_behind p 44 else p) ≡ p
body_stays in_head e x = absurd (no_head e)
  where
    no_head : in_head ≡ in_body → ⊥
    no_head h = cc
body_stays in_attribute e x = absurd (no_attribute e)
  where
    no_attribute : in_attribute ≡ in_body → ⊥
    no_attribute h = cc
body_stays in_body e true = refl
body_stays in_body e false = refl

module _ (k : Bool) (p : Place) (b : Before) where
  -- where one of both holds a comma, the place stays
  stays : {rest other : Text} (x : Bool) → (k ≡ true → commas_in p rest ≡ true) → takes_last_comma k b rest ≡ true
      → AlikeFrom (if x then place_behind p 44 else p) rest other → AlikeFrom p rest other
  stays {rest} {other} x at_most may r =
      let here = in_the_body p rest (at_most (ands k (ends_item b) (begins is_closing rest) may).0) in
      subst (λ q. AlikeFrom q rest other) (body_stays p here x) r

  -- what may stand in an edge's place leads on
  pub leads_on : {edge given rest other : Text} → IsEdge edge rest → IsEdge given other → (k ≡ true → commas_in p rest ≡ true)
      → may_stand k b edge given rest ≡ true → AlikeFrom (place_past_edge p edge) rest other
      → Onward p b (edge ++ rest) (given ++ other)
  leads_on (gap_alone g rest x) (gap_alone h other y) at_most m r =
      let none = alone_holds_none g rest x.is_gap in
      let may : may_replace b g h rest ≡ true = rw (none, alone_holds_none h other y.is_gap) at m in
      record { rest = rest; other = other; step = plain (gapped b g h rest other x y may); words = rw none at r }
  leads_on (gap_alone g rest x) (with_comma h second other y z) at_most m r =
      let may : takes_last_comma k b rest ≡ true = rw (alone_holds_none g rest x.is_gap, separated_holds_one h second (second ++ other) y) at m in
      let q = ands k (ends_item b) (begins is_closing rest) may in
      record {
        rest = rest;
        other = other;
        step = added (at_most q.0) q.1 q.2 (only_gap g rest x) (with_last h second other y z);
        words = stays (holds_comma g) at_most may r;
      }
  leads_on (with_comma g second rest x y) (gap_alone h other z) at_most m r =
      let may : takes_last_comma k b rest ≡ true = rw (separated_holds_one g second (second ++ rest) x, alone_holds_none h other z.is_gap) at m in
      let q = ands k (ends_item b) (begins is_closing rest) may in
      record {
        rest = rest;
        other = other;
        step = dropped (at_most q.0) q.1 q.2 (with_last g second rest x y) (only_gap h other z);
        words = stays (holds_comma (g ++ 44 ∷ second)) at_most may r;
      }
  leads_on (with_comma g first rest x y) (with_comma h second other z w) at_most m r =
      let past : AlikeFrom (place_behind p 44) rest other = rw (separated_holds_one g first (first ++ rest) x) at r in
      let step : Step (commas_in (place_behind p 44)) a_mark (first ++ rest) (second ++ other) rest other =
      plain (gapped a_mark first second rest other y w refl) in
      let gaps : Gapped b (g ++ 44 ∷ (first ++ rest)) (h ++ 44 ∷ (second ++ other)) (44 ∷ (first ++ rest)) (44 ∷ (second ++ other)) =
      gapped b g h (44 ∷ (first ++ rest)) (44 ∷ (second ++ other)) (long_before_comma g (first ++ rest) x) (long_before_comma h (second ++ other) z)
      (before_comma b g h (first ++ rest)) in
      record {
        rest = 44 ∷ (first ++ rest);
        other = 44 ∷ (second ++ other);
        step = plain (rw (append_assoc g (44 ∷ first) rest, append_assoc h (44 ∷ second) other) gaps);
        words = mark p 44 (first ++ rest) (second ++ other) rest other refl step past;
      }

-- an edge may stay
pub may_stay_edge : (k : Bool) (b : Before) {edge rest : Text} → IsEdge edge rest → may_stand k b edge edge rest ≡ true
may_stay_edge k b (gap_alone g rest x) = rw (alone_holds_none g rest x.is_gap) (may_stay b g rest)
may_stay_edge k b (with_comma g second rest x y) = rw (separated_holds_one g second (second ++ rest) x) refl

-- where no gap begins, and where the text has ended
pub from_no_gap : {p : Place} {s u : Text} → AlikeFrom p s u → skip u ≡ u
from_no_gap r = alike_no_gap (alike_anywhere r)

from_nothing : {p : Place} {s u : Text} → AlikeFrom p s u → s ≡ [] → u ≡ []
from_nothing r = nothing_alike (alike_anywhere r)

-- what was granted in an edge's place
pub record Stands (p : Place) (b : Before) (edge given rest other : Text) : Type 0 where
  pub is_edge : IsEdge given other
  pub comments : comments_of edge ≡ comments_of given
  pub onward : Onward p b (edge ++ rest) (given ++ other)

pub edge_stands : (k : Bool) (p : Place) (b : Before) (edge given rest other : Text) → IsEdge edge rest → IsGranted k b edge given rest
    → (k ≡ true → commas_in p rest ≡ true) → AlikeFrom (place_past_edge p edge) rest other
    → Stands p b edge given rest other
unfolding permitted
edge_stands k p b edge given rest other h (inl e) at_most r =
    let still = edge_moved other (from_no_gap r) (from_nothing r) h in
    subst (λ x. Stands p b edge x rest other) (sym e)
    (record { is_edge = still; comments = refl; onward = leads_on k p b h still at_most (may_stay_edge k b h) r })
edge_stands k p b edge given rest other h (inr e) at_most r =
    let q = ands (is_closed_edge given) (pointwise same_text (comments_of edge) (comments_of given)) (may_stand k b edge given rest) e in
    let there = closed_is_edge other (from_no_gap r) (is_closed_one given q.0) in
    record {
      is_edge = there;
      comments =
          (slice_eq-Decides bytes_eq-Decides (comments_of edge) (comments_of given) (pointwise same_text (comments_of edge) (comments_of given)) refl).0 q.1;
      onward = leads_on k p b h there at_most q.2 r;
    }

-- ---- what is granted

-- what is permitted, by its parts
pub permitted_wish : (k : Bool) (b : Before) (edge wish rest : Text) → is_closed_edge wish ≡ true → comments_of edge ≡ comments_of wish
    → may_stand k b edge wish rest ≡ true → permitted k b edge wish rest ≡ true
unfolding permitted
permitted_wish k b edge wish rest e f g =
    rw (e, (slice_eq-Decides bytes_eq-Decides (comments_of edge) (comments_of wish) (pointwise same_text (comments_of edge) (comments_of wish)) refl).1 f, g)
    refl

-- the function grants
pub is_granted : (k : Bool) (b : Before) (edge wish rest : Text) → IsGranted k b edge (granted k b edge wish rest) rest
unfolding granted
is_granted k b edge wish rest = go (permitted k b edge wish rest) refl
  where
    go : (x : Bool) → permitted k b edge wish rest ≡ x → IsGranted k b edge (if x then wish else edge) rest
    go true e = inr e
    go false e = inl refl
