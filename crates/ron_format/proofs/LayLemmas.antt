-- What is written edge for edge and token for token: for `formatting.rt`.
use Rattle.std.proofs.Common.{◌≡◌, ◌<◌, ℕ, List, Bool, true, false, if◌then◌else◌, length, nat_lt, chars, [], ◌∷◌, ◌++◌, Some, None, inl, inr, refl, sym, ap}
use Rattle.std.proofs.Common.{subst, ◌∙◌, append_assoc, length-append, arith}
use Rattle.std.proofs.lemmas.Bool.{le-ltb}
use Rattle.ron_spec_words.specs.Characters.{Text, comma}
use Rattle.ron_spec_words.specs.Runs.{begins}
use Rattle.ron_spec_words.specs.Gap.{Gap, skip, gap_of}
use Rattle.ron_spec_words.specs.Scan.{token, starts_gap}
use Rattle.ron_spec_words.proofs.Gaps.{cut}
use Rattle.std.proofs.Common.{IsUtf8}
use Rattle.std.proofs.lemmas.Str.{chars-append, chars-nil}
use Rattle.std.proofs.lemmas.List.{append_cancel_right}
use Rattle.ron_spec_words.proofs.Fronts.{token_front}
use Rattle.ron_lex_text.specs.Stretch.{IsSuffix}
use Rattle.ron_format_words.specs.Alike.{Before, a_mark}
use Rattle.ron_format_words.specs.Edge.{IsEdge, gap_alone, with_comma, IsGranted, permitted, granted}
use Rattle.ron_format_words.specs.Places.{in_head}
use Rattle.ron_format_words.specs.Written.{Kept, WrittenToWord, before_edge, place_past, place_past_edge}
use Rattle.ron_format_words.proofs.Written.{written_start, written_edge, written_token, written_end}
use Rattle.ron_format.specs.declared.place.Place.{Place as CodePlace}
use Rattle.ron_format.specs.declared.place.Spot.{Spot}
use Rattle.ron_format.specs.declared.grant.Around.{Around}
use Rattle.ron_format.specs.declared.formatting.Next.{Next}
use Rattle.ron_format.specs.Whole.{WholeFrom}
use Rattle.ron_format.proofs.WholeLemmas.{whole_past_edge}
use Rattle.ron_format.specs.View.{before_view, place_view, commas_at, PutsGranted, PassesEdge, BeginsWithEdge}

-- what is granted may stand
pub is_granted : (commas : Bool) (b : Before) (edge wish rest given : Text) → given ≡ granted commas b edge wish rest → IsGranted commas b edge given rest
unfolding granted
is_granted commas b edge wish rest given e = go (permitted commas b edge wish rest) refl e
  where
    go : (x : Bool) → permitted commas b edge wish rest ≡ x → given ≡ (if x then wish else edge) → IsGranted commas b edge given rest
    go true p m = inr (subst (λ y. permitted commas b edge y rest ≡ true) (sym m) p)
    go false p m = inl m

-- behind a gap no token is a gap
pub no_gap_next : (s next : Text) → skip s ≡ s → token s ≡ Some next → begins starts_gap s ≡ false
unfolding token
no_gap_next s next e f = go (begins starts_gap s) refl
  where
    go : (x : Bool) → begins starts_gap s ≡ x → x ≡ false
    go false k = refl
    go true k =
        let still : nat_lt (length (skip s)) (length s) ≡ false = le-ltb (length (skip s)) (length s) (omega (arith, ap length e)) in
        let z : Some next ≡ None = sym f ∙ rw (k, still) refl in
        absurd (cc)

-- the gap with which a text begins, and with a comma and another
pub begins_with_gap : (s rest : Text) → rest ≡ skip s → BeginsWithEdge s rest
begins_with_gap s rest e = let c = cut s in rw e (record { edge = gap_of s; split = c.split; is_edge = gap_alone (gap_of s) (skip s) c.is_gap })

pub begins_with_two : (s end second rest : Text) → end ≡ skip s → end ≡ comma ∷ second → rest ≡ skip second → BeginsWithEdge s rest
begins_with_two s end second rest e f g =
    let c = cut s in
    let d = cut second in
    let split : skip s ≡ comma ∷ (gap_of second ++ skip second) = sym e ∙ f ∙ ap (λ x. comma ∷ x) d.split in
    rw g (record {
      edge = gap_of s ++ comma ∷ gap_of second;
      split = c.split ∙ ap (λ x. gap_of s ++ x) split ∙ sym (append_assoc (gap_of s) (comma ∷ gap_of second) (skip second));
      is_edge = with_comma (gap_of s) (gap_of second) (skip second) (subst (λ x. Gap (gap_of s) x) split c.is_gap.is_gap) d.is_gap;
    })

pub edge_end : {s rest : Text} → BeginsWithEdge s rest → IsSuffix rest s
edge_end h = record { front = h.edge; is = h.split }

edge_longest : {edge rest : Text} → IsEdge edge rest → skip rest ≡ rest
edge_longest (gap_alone gap rest h) = h.longest
edge_longest (with_comma gap second rest h k) = k.longest

edge_is : (s edge rest : Text) → s ≡ edge ++ rest → BeginsWithEdge s rest → IsEdge edge rest
edge_is s edge rest e h = subst (λ x. IsEdge x rest) (append_cancel_right h.edge edge rest (sym h.split ∙ e)) h.is_edge

-- ---- what was put

pub put_on : (old new given : List ℕ) → IsUtf8 old → new ≡ old ++ given → chars new ≡ chars old ++ chars given
put_on old new given u e = ap chars e ∙ chars-append old given u

pub puts_edge : (old new edge : List ℕ) (around : Around) → IsUtf8 old → new ≡ old ++ edge → PutsGranted (chars old) (chars new) around (chars edge)
puts_edge old new edge around u e = record { given = chars edge; is = put_on old new edge u e; granted = inl refl }

pub puts_given : (old new given : List ℕ) (around : Around) (edge wish : Text) → IsUtf8 old → new ≡ old ++ given
    → chars given ≡ granted (commas_at around.spot.place (chars around.rest.now)) (before_view around.spot.before) edge wish (chars around.rest.now)
    → PutsGranted (chars old) (chars new) around edge
puts_given old new given around edge wish u e f = record {
  given = chars given;
  is = put_on old new given u e;
  granted = is_granted (commas_at around.spot.place (chars around.rest.now)) (before_view around.spot.before) edge wish (chars around.rest.now) (chars given) f;
}

-- the edge is passed
pub passes_edge : (around : Around) (s edge old new : Text) (next : Next) → s ≡ edge ++ chars around.rest.now → BeginsWithEdge s (chars around.rest.now)
    → PutsGranted old new around edge
    → chars next.rest.now ≡ chars around.rest.now → place_view next.place ≡ place_past_edge (place_view around.spot.place) edge
    → PassesEdge around.spot s old new next
passes_edge around s edge old new next split h p e f = record {
  goes_on = λ text w.
      rw (e, f, p.is) (written_edge (commas_at around.spot.place rest) edge p.given rest split (edge_is s edge rest split h) p.granted (λ k. k) w);
  longest = rw e (edge_longest h.is_edge);
  ends = rw e (edge_end h);
  whole = rw e
      (λ w. record { around = w.around; whole = whole_past_edge w.around (edge_is s edge rest split h) (subst (λ x. WholeFrom w.around x) split w.whole) });
}
  where
    rest : Text
    rest = chars around.rest.now

-- ---- the pass over the text

pub lay_start : (spot : Spot) (text old new : List ℕ) (next : Next) → before_view spot.before ≡ a_mark → place_view spot.place ≡ in_head → old ≡ []
    → PassesEdge spot (chars text) (chars old) new next
    → WrittenToWord (place_view next.place) (chars text) new (chars next.rest.now)
lay_start spot text old new next b p e h =
    h.goes_on (chars text) (rw (b, p, e, chars-nil) (written_start (chars text)))

pub lay_on : (place : CodePlace) (spot : Spot) (text out rest t put after new : Text) (next : Next) → WrittenToWord (place_view place) text out rest
    → skip rest ≡ rest → token rest ≡ Some after → rest ≡ t ++ after → put ≡ out ++ t
    → before_view spot.before ≡ before_edge rest → place_view spot.place ≡ place_past (place_view place) rest → PassesEdge spot after put new next
    → WrittenToWord (place_view next.place) text new (chars next.rest.now)
lay_on place spot text out rest t put after new next w n e split m b p h =
    h.goes_on text (rw (b, p, m) (written_token t after (no_gap_next rest after n e) split e w))

pub lay_shorter : (spot : Spot) (rest after old new : Text) (next : Next) → token rest ≡ Some after → PassesEdge spot after old new next
    → length (chars next.rest.now) < length rest
lay_shorter spot rest after old new next e h =
    let f = token_front rest after e in
    omega (arith, ap length f.2, length-append f.1 after, ap length h.ends.is, length-append h.ends.front (chars next.rest.now))

pub lay_end : (place : CodePlace) (text out rest : Text) → WrittenToWord (place_view place) text out rest → rest ≡ [] → Kept text out
lay_end place text out rest w e = written_end (subst (λ x. WrittenToWord (place_view place) text out x) e w)
