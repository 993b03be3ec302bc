-- Whole texts, token by token: for the pass that cuts a text and for the one that lays it out.
use Rattle.std.proofs.Common.{◌≡◌, ◌==◌, ◌⊎◌, ℕ, Bool, true, false, List, length, nat_lt, lt-ltb, [], ◌∷◌, ◌++◌, Some, None, inl, inr, refl, sym, ap, ap₂}
use Rattle.std.proofs.Common.{subst, ◌∙◌, append_assoc, length-append, arith}
use Rattle.std.proofs.lemmas.Bool.{or_parts}
use Rattle.std.proofs.lemmas.List.{append_cancel_right}
use Rattle.ron_spec_words.specs.Characters.{Text, is_blank, comma, slash}
use Rattle.ron_spec_words.specs.Gap.{skip, LongGap}
use Rattle.ron_spec_words.specs.Runs.{is_ended}
use Rattle.ron_spec_words.specs.Scan.{token, starts_gap}
use Rattle.ron_spec_words.proofs.Classes.{apart}
use Rattle.ron_spec_words.proofs.Fronts.{token_front}
use Rattle.ron_spec_words.proofs.Gaps.{skip-gap, skip-other}
use Rattle.ron_lex_text.specs.Stretch.{IsSuffix}
use Rattle.ron_format_words.specs.Edge.{IsEdge, gap_alone, with_comma}
use Rattle.ron_format_words.proofs.Said.{token_mark}
use Rattle.ron_format.specs.Fault.{innermost}
use Rattle.ron_format.specs.Whole.{next_open, Leads, here, on, WholeFrom, IsWhole, IsWholeOn}

-- a token by which one leads on
record IsOn (last : List Text) (end : Text) (around : List Text) (s : Text) : Type 0 where
  behind : List Text
  next : Text
  is_token : token s ≡ Some next
  opens : next_open around s ≡ Some behind
  leads : Leads last end behind next

cases_of : {last : List Text} {end : Text} {around : List Text} {s : Text} → Leads last end around s → ((around ≡ last) × (s ≡ end)) ⊎ IsOn last end around s
cases_of here = inl (refl, refl)
cases_of (on around behind s next e f h) = inr (record { behind = behind; next = next; is_token = e; opens = f; leads = h })

no_token : (s next : Text) → s ≡ [] → token s ≡ Some next → ⊥
no_token s next e f = let h = token_front s next f in let x : h.0 ∷ (h.1 ++ next) ≡ [] = sym h.2 ∙ e in cc

-- past the token that stands here
past_on : (last : List Text) (end rest next : Text) (around behind : List Text) → token rest ≡ Some next → next_open around rest ≡ Some behind
    → IsOn last end around rest → Leads last end behind next
past_on last end rest next around behind e f k =
    let same : k.next ≡ next = let z : Some k.next ≡ Some next = sym k.is_token ∙ e in cc in
    let open_ : k.behind ≡ behind = let z : Some k.behind ≡ Some behind = sym k.opens ∙ f in cc in
    subst (λ x. Leads last end x next) open_ (subst (λ x. Leads last end k.behind x) same k.leads)

pub past_token : (rest next : Text) (around behind : List Text) → token rest ≡ Some next → next_open around rest ≡ Some behind → WholeFrom around rest
    → WholeFrom behind next
past_token rest next around behind e f w = go (cases_of w)
  where
    go : ((around ≡ []) × (rest ≡ [])) ⊎ IsOn [] [] around rest → WholeFrom behind next
    go (inl p) = absurd (no_token rest next p.1 e)
    go (inr k) = past_on [] [] rest next around behind e f k

pub same_end : (end rest place text : Text) → end ≡ rest → place ≡ text → IsSuffix rest place → IsSuffix end text
same_end end rest place text e f h = rw (e, sym f) h

pub whole_end : (text : Text) → IsSuffix text text
whole_end text = record { front = []; is = refl }

-- what follows a token ends the text
pub token_end : (s rest : Text) → token s ≡ Some rest → IsSuffix rest s
token_end s rest e = let h = token_front s rest e in record { front = h.0 ∷ h.1; is = h.2 }

pub nothing_left : (s : Text) → is_ended s ≡ true → s ≡ []
nothing_left [] e = refl
nothing_left (c ∷ s) e = absurd (cc)

pub something_left : (s : Text) → is_ended s ≡ false → s ≡ [] → ⊥
something_left s e f = let z : false ≡ true = sym e ∙ ap is_ended f in cc

-- No token leads on from there.
abbrev pub IsStuck : List Text → Text → Type 0
IsStuck last end = (behind : List Text) (next : Text) → token end ≡ Some next → next_open last end ≡ Some behind → ⊥

-- From these open brackets and this rest on tokens lead to the places from which none leads on, exactly where they do from the text's beginning.
pub record IsReached (text : Text) (around : List Text) (rest : Text) : Type 0 where
  pub back : (last : List Text) (end : Text) → Leads last end around rest → Leads last end [] text
  pub forth : (last : List Text) (end : Text) → IsStuck last end → Leads last end [] text → Leads last end around rest

pub reached_start : (text : Text) → IsReached text [] text
reached_start text = record { back = λ last end h. h; forth = λ last end k h. h }

pub reached_on : (text rest next : Text) (around behind : List Text) → token rest ≡ Some next → next_open around rest ≡ Some behind → IsReached text around rest
    → IsReached text behind next
reached_on text rest next around behind e f h = record {
  back = λ last end w. h.back last end (on around behind rest next e f w);
  forth = λ last end k w. go last end k (cases_of (h.forth last end k w));
}
  where
    go : (last : List Text) (end : Text) → IsStuck last end → ((around ≡ last) × (rest ≡ end)) ⊎ IsOn last end around rest → Leads last end behind next
    go last end k (inl p) = absurd (k behind next (ap token (sym p.1) ∙ e) (ap₂ (λ a b. next_open a b) (sym p.0) (sym p.1) ∙ f))
    go last end k (inr m) = past_on last end rest next around behind e f m

-- where none leads on from here, this is the only place from which none does
pub stuck_here : (text rest : Text) (around last : List Text) (end : Text) → IsStuck around rest → IsReached text around rest → IsStuck last end
    → Leads last end [] text → (around ≡ last) × (rest ≡ end)
stuck_here text rest around last end k h m w = go (cases_of (h.forth last end m w))
  where
    go : ((around ≡ last) × (rest ≡ end)) ⊎ IsOn last end around rest → (around ≡ last) × (rest ≡ end)
    go (inl p) = p
    go (inr n) = absurd (k n.behind n.next n.is_token n.opens)

pub stuck_end : (last : List Text) (end : Text) → end ≡ [] → IsStuck last end
stuck_end last end e behind next f g = no_token end next e f

pub stuck_misfit : (around : List Text) (rest : Text) → next_open around rest ≡ None → IsStuck around rest
stuck_misfit around rest e behind next f g = let z : None ≡ Some behind = sym e ∙ g in cc

pub stuck_broken : (around : List Text) (rest : Text) → token rest ≡ None → IsStuck around rest
stuck_broken around rest e behind next f g = let z : None ≡ Some next = sym e ∙ f in cc

not_whole : (text rest : Text) (around : List Text) → IsStuck around rest → (around ≡ [] → rest ≡ [] → ⊥) → IsReached text around rest → IsWhole text → ⊥
not_whole text rest around k n h w = let p = stuck_here text rest around [] [] k h (stuck_end [] [] refl) w in n p.0 p.1

-- a bracket doesn't fit
pub not_closed : (text rest next : Text) (around : List Text) → token rest ≡ Some next → next_open around rest ≡ None → IsReached text around rest
    → IsWhole text → ⊥
not_closed text rest next around e f h w = not_whole text rest around (stuck_misfit around rest f) (λ a b. no_token rest next b e) h w

-- a token is broken
pub not_ended : (text rest : Text) (around : List Text) → token rest ≡ None → (rest ≡ [] → ⊥) → IsReached text around rest → IsWhole text → ⊥
not_ended text rest around e f h w = not_whole text rest around (stuck_broken around rest e) (λ a b. f b) h w

-- brackets are open at the end
pub left_open : (text rest bracket : Text) (around : List Text) → rest ≡ [] → innermost around ≡ Some bracket → IsReached text around rest → IsWhole text → ⊥
left_open text rest bracket around e f h w =
    not_whole text rest around (stuck_end around rest e) (λ a b. let z : None ≡ Some bracket = sym (ap innermost a) ∙ f in cc) h w

pub reached_end : (text rest : Text) (around : List Text) → rest ≡ [] → around ≡ [] → IsReached text around rest → IsWhole text
reached_end text rest around e f h = h.back [] [] (subst (λ x. Leads [] [] x rest) (sym f) (subst (λ x. Leads [] [] [] x) (sym e) here))

-- ---- over an edge

gap_opens : (around : List Text) (c : ℕ) (t : Text) → starts_gap c ≡ true → next_open around (c ∷ t) ≡ Some around
gap_opens around c t e =
    rw (
      apart starts_gap 40 c refl e,
      apart starts_gap 91 c refl e,
      apart starts_gap 123 c refl e,
      apart starts_gap 41 c refl e,
      apart starts_gap 93 c refl e,
      apart starts_gap 125 c refl e,
    ) refl

-- a gap that isn't empty is a token
gap_token : (c : ℕ) (g rest : Text) → LongGap (c ∷ g) rest → (starts_gap c ≡ true) × (token (c ∷ (g ++ rest)) ≡ Some rest)
unfolding token
gap_token c g rest h = go (starts_gap c) refl
  where
    past : skip (c ∷ (g ++ rest)) ≡ rest
    past = skip-gap h.is_gap ∙ h.longest

    go : (x : Bool) → starts_gap c ≡ x → (starts_gap c ≡ true) × (token (c ∷ (g ++ rest)) ≡ Some rest)
    go false k =
        let p = or_parts (is_blank c) (c == slash) k in
        let same : c ∷ (g ++ rest) ≡ rest = sym (skip-other c (g ++ rest) p.0 p.1) ∙ past in
        absurd (omega (arith, ap length same, length-append g rest))
    go true k =
        let less : nat_lt (length (skip (c ∷ (g ++ rest)))) (length (c ∷ (g ++ rest))) ≡ true =
        lt-ltb (length (skip (c ∷ (g ++ rest)))) (length (c ∷ (g ++ rest))) (omega (arith, ap length past, length-append g rest)) in
        (k, rw (k, less) (ap Some past))

whole_past_gap : (around : List Text) (gap rest : Text) → LongGap gap rest → WholeFrom around (gap ++ rest) → WholeFrom around rest
whole_past_gap around [] rest h w = w
whole_past_gap around (c ∷ g) rest h w =
    let k = gap_token c g rest h in
    past_token (c ∷ (g ++ rest)) rest around around k.1 (gap_opens around c (g ++ rest) k.0) w

-- what follows an edge is whole where it was before the edge
pub whole_past_edge : {edge rest : Text} (around : List Text) → IsEdge edge rest → WholeFrom around (edge ++ rest) → WholeFrom around rest
whole_past_edge around (gap_alone gap rest h) w = whole_past_gap around gap rest h w
whole_past_edge around (with_comma gap second rest h k) w =
    let start : WholeFrom around (gap ++ comma ∷ (second ++ rest)) = subst (λ x. WholeFrom around x) (append_assoc gap (comma ∷ second) rest) w in
    let at_comma : WholeFrom around (comma ∷ (second ++ rest)) =
    whole_past_gap around gap (comma ∷ (second ++ rest)) (record { is_gap = h; longest = skip-other comma (second ++ rest) refl refl }) start in
    whole_past_gap around second rest k
    (past_token (comma ∷ (second ++ rest)) (second ++ rest) around around (token_mark comma (second ++ rest) refl) refl at_comma)

pub whole_behind : (rest next : Text) → token rest ≡ Some next → IsWholeOn rest → IsWholeOn next
whole_behind rest next e h = go (cases_of h.whole)
  where
    go : ((h.around ≡ []) × (rest ≡ [])) ⊎ IsOn [] [] h.around rest → IsWholeOn next
    go (inl p) = absurd (no_token rest next p.1 e)
    go (inr k) = record {
      around = k.behind;
      whole = subst (λ x. WholeFrom k.behind x) (let z : Some k.next ≡ Some next = sym k.is_token ∙ e in let same : k.next ≡ next = cc in same) k.leads;
    }

pub whole_ended : (rest : Text) → token rest ≡ None → IsWholeOn rest → rest ≡ []
whole_ended rest e h = go (cases_of h.whole)
  where
    go : ((h.around ≡ []) × (rest ≡ [])) ⊎ IsOn [] [] h.around rest → rest ≡ []
    go (inl p) = p.1
    go (inr k) = let z : Some k.next ≡ None = sym k.is_token ∙ e in absurd (cc)
