-- Where a bracket is left open: for the refusals of `cut.rt`.
use Rattle.std.proofs.Common.{◌≡◌, ◌⊎◌, ◌==◌, ◌||◌, ℕ, Bool, true, false, cond, ◌&&◌, not, List, [], ◌∷◌, Option, Some, None, IfSome, is_some, inl, inr, refl}
use Rattle.std.proofs.Common.{sym, ap, subst, ◌∙◌, eqb-true}
use Rattle.std.proofs.lemmas.Bool.{and_parts}
use Rattle.ron_spec_words.specs.Characters.{Text}
use Rattle.ron_spec_words.specs.Scan.{token, is_opening, is_closing}
use Rattle.ron_base.specs.declared.error.Error.TheVariants.{OutOfMemory}
use Rattle.ron_base.specs.declared.error.Position.{Position}
use Rattle.ron_lex.specs.Place.{IsPositionBefore}
use Rattle.ron_lex_text.specs.Stretch.{IsSuffix}
use Rattle.ron_lex_text.proofs.StretchLemmas.{end_of_end}
use Rattle.ron_format_words.specs.Alike.{is_mark}
use Rattle.ron_format_words.proofs.Said.{token_mark}
use Rattle.ron_format.specs.Fault.{innermost, found_open, IsFault, IsTold}
use Rattle.ron_format.specs.Refused.{is_not_closed, IsLeftOpen, IsOpening, TellsOpened}
use Rattle.ron_format.specs.Whole.{closes, closed_by, next_open, Leads, here, on}
use Rattle.ron_format.specs.declared.refusal.BracketFault.{BracketFault}
use Rattle.ron_format.specs.declared.refusal.BracketFault.TheVariants as kind
use Rattle.ron_format.specs.declared.refusal.Refusal.{Refusal}
use Rattle.ron_format.proofs.WholeLemmas.{IsStuck, IsReached, token_end, stuck_here, stuck_end, stuck_misfit, stuck_broken}

-- ---- from which places none leads on

-- what is so of each closing bracket
of_closing : (P : ℕ → Type 0) → P 41 → P 93 → P 125 → (c : ℕ) → is_closing c ≡ true → P c
of_closing P p q r c h = go (c == 41) refl (c == 93) refl (c == 125) refl h
  where
    go : (a : Bool) → (c == 41) ≡ a → (b : Bool) → (c == 93) ≡ b → (d : Bool) → (c == 125) ≡ d → (a || (b || d)) ≡ true → P c
    go true ka b kb d kd k = rw (eqb-true c 41 ka) p
    go false ka true kb d kd k = rw (eqb-true c 93 kb) q
    go false ka false kb true kd k = rw (eqb-true c 125 kd) r
    go false ka false kb false kd k = absurd (cc)

mark_of_closing : (c : ℕ) → is_closing c ≡ true → is_mark c ≡ true
mark_of_closing = of_closing (λ c. is_mark c ≡ true) refl refl refl

closing_apart : (c : ℕ) → is_closing c ≡ true → is_opening c ≡ false
closing_apart = of_closing (λ c. is_opening c ≡ false) refl refl refl

is_false : (b : Bool) → not b ≡ true → b ≡ false
is_false true e = sym e
is_false false e = refl

-- a bracket that isn't closed
misfit : (bracket t : Text) (c : ℕ) (around : List Text) → is_closing c ≡ true → closes bracket c ≡ false → next_open (bracket ∷ around) (c ∷ t) ≡ None
misfit bracket t c around h k = go (is_opening c) (is_closing c) (closes bracket c) (closing_apart c h) h k
  where
    go : (a b d : Bool) → a ≡ false → b ≡ true → d ≡ false
        → cond a (Some ((c ∷ t) ∷ (bracket ∷ around))) (cond b (cond d (Some around) None) (Some (bracket ∷ around))) ≡ None
    go true b d p q r = absurd (cc)
    go false false d p q r = absurd (cc)
    go false true true p q r = absurd (cc)
    go false true false p q r = refl

stuck_open : (bracket rest : Text) (around : List Text) → is_not_closed bracket rest ≡ true → IsStuck (bracket ∷ around) rest
stuck_open bracket [] around h = stuck_end (bracket ∷ around) [] refl
stuck_open bracket (c ∷ t) around h =
    let p = and_parts (is_closing c) (not (closes bracket c)) h in
    stuck_misfit (bracket ∷ around) (c ∷ t) (misfit bracket t c around p.0 (is_false (closes bracket c) p.1))

-- a token stands where a bracket isn't closed before the end
closing_token : (bracket rest : Text) → is_not_closed bracket rest ≡ true → token rest ≡ None → rest ≡ []
closing_token bracket [] h e = refl
closing_token bracket (c ∷ t) h e =
    let p = and_parts (is_closing c) (not (closes bracket c)) h in
    let z : Some t ≡ None = sym (token_mark c t (mark_of_closing c p.0)) ∙ e in absurd (cc)

-- ---- what stands open ends the text

abbrev AllEnd : Text → List Text → Type 0
AllEnd text [] = Unit {0}
AllEnd text (o ∷ around) = IsSuffix o text × AllEnd text around

next_end : (text : Text) (around behind : List Text) (s : Text) → IsSuffix s text → AllEnd text around → next_open around s ≡ Some behind → AllEnd text behind
next_end text around behind [] h k e = let z : around ≡ behind = cc in subst (λ x. AllEnd text x) z k
next_end text around behind (c ∷ t) h k e = go (is_opening c) refl (is_closing c) refl around k e
  where
    closed : (b : Bool) (outer : List Text) → AllEnd text outer → cond b (Some outer) None ≡ Some behind → AllEnd text behind
    closed true outer m q = let z : outer ≡ behind = cc in subst (λ x. AllEnd text x) z m
    closed false outer m q = absurd (cc)

    go : (a : Bool) → is_opening c ≡ a → (b : Bool) → is_closing c ≡ b → (outer : List Text) → AllEnd text outer
        → cond a (Some ((c ∷ t) ∷ outer)) (cond b (closed_by c outer) (Some outer)) ≡ Some behind → AllEnd text behind
    go true ka b kb outer m q = let z : (c ∷ t) ∷ outer ≡ behind = cc in subst (λ x. AllEnd text x) z (h, m)
    go false ka true kb [] m q = absurd (cc)
    go false ka true kb (o ∷ outer) m q = closed (closes o c) outer m.1 q
    go false ka false kb outer m q = let z : outer ≡ behind = cc in subst (λ x. AllEnd text x) z m

all_end : {last : List Text} {end : Text} {around : List Text} {s : Text} → Leads last end around s → (text : Text) → IsSuffix s text → AllEnd text around
    → AllEnd text last
all_end here text h k = k
all_end (on around behind s next e f w) text h k =
    all_end w text (end_of_end next s text (token_end s next e) h) (next_end text around behind s h k f)

pub bracket_end : (text rest bracket : Text) (around : List Text) → innermost around ≡ Some bracket → IsReached text around rest → IsSuffix bracket text
bracket_end text rest bracket around e h = go around e (all_end (h.back around rest here) text (record { front = []; is = refl }) tt)
  where
    go : (x : List Text) → innermost x ≡ Some bracket → AllEnd text x → IsSuffix bracket text
    go [] q k = absurd (cc)
    go (o ∷ x) q k = let z : o ≡ bracket = cc in subst (λ y. IsSuffix y text) z k.0

pub fault_end : (text rest : Text) (around : List Text) (next : Option (List Text)) (found : BracketFault) → IsFault around next found
    → IsReached text around rest → IfSome (found_open found) (λ bracket. IsSuffix bracket text)
fault_end text rest around next found (inl m) h = subst (λ x. IfSome (found_open x) (λ bracket. IsSuffix bracket text)) (sym m) tt
fault_end text rest around next found (inr p) h = go (found_open found) p.1
  where
    go : (x : Option Text) → innermost around ≡ x → IfSome x (λ bracket. IsSuffix bracket text)
    go None e = tt
    go (Some bracket) e = bracket_end text rest bracket around e h

-- ---- what a refusal tells

pub tells_memory : (text : Text) (refusal : Refusal) → refusal.error.code ≡ OutOfMemory → refusal.opened ≡ None → TellsOpened text refusal
tells_memory text refusal e o = record { told = subst (λ x. IfSome x (IsOpening text refusal.error.span.start)) (sym o) tt; each = λ bracket rest h. inl e }

-- no token leads on from here, and no bracket is at fault
tells_none : (text rest : Text) (around : List Text) (refusal : Refusal) → IsStuck around rest
    → ((bracket : Text) (outer : List Text) → around ≡ bracket ∷ outer → is_not_closed bracket rest ≡ true → ⊥) → IsReached text around rest
    → refusal.opened ≡ None → TellsOpened text refusal
tells_none text rest around refusal k n h o = record {
  told = subst (λ x. IfSome x (IsOpening text refusal.error.span.start)) (sym o) tt;
  each = λ bracket end m.
      let p = stuck_here text rest around (bracket ∷ m.around) end k h (stuck_open bracket end m.around m.fault) m.leads in
      absurd (n bracket m.around p.0 (subst (λ x. is_not_closed bracket x ≡ true) (sym p.1) m.fault));
}

pub tells_broken : (text rest : Text) (around : List Text) (refusal : Refusal) → token rest ≡ None → (rest ≡ [] → ⊥) → IsReached text around rest
    → refusal.opened ≡ None → TellsOpened text refusal
tells_broken text rest around refusal e n h o =
    tells_none text rest around refusal (stuck_broken around rest e) (λ bracket outer p m. n (closing_token bracket rest m e)) h o

tells_left : (text rest bracket : Text) (outer around : List Text) (refusal : Refusal) → around ≡ bracket ∷ outer → is_not_closed bracket rest ≡ true
    → IsReached text around rest
    → IsTold text (Some bracket) refusal.opened → IsPositionBefore text rest refusal.error.span.start → TellsOpened text refusal
tells_left text rest bracket outer around refusal e n h t s = record { told = (go refusal.opened t).0; each = λ other end k. inr (go refusal.opened t).1 }
  where
    go : (x : Option Position) → IsTold text (Some bracket) x → (IfSome x (IsOpening text refusal.error.span.start)) × (is_some x ≡ true)
    go None u = absurd u
    go (Some p) u = (
      record {
        bracket = bracket;
        rest = rest;
        left = record { around = outer; leads = subst (λ x. Leads x rest [] text) e (h.back around rest here); fault = n };
        opened = u;
        fault = s;
      },
      refl,
    )

pub tells_end : (text rest bracket : Text) (around : List Text) (refusal : Refusal) → rest ≡ [] → innermost around ≡ Some bracket → IsReached text around rest
    → IsTold text (Some bracket) refusal.opened → IsPositionBefore text rest refusal.error.span.start → TellsOpened text refusal
tells_end text rest bracket around refusal e i h t s = go around refl i
  where
    go : (x : List Text) → around ≡ x → innermost x ≡ Some bracket → TellsOpened text refusal
    go [] p q = absurd (cc)
    go (o ∷ outer) p q =
        let z : o ≡ bracket = cc in
        tells_left text rest bracket outer around refusal (p ∙ ap (λ y. y ∷ outer) z) (subst (λ y. is_not_closed bracket y ≡ true) (sym e) refl) h t s

misfit_back : (bracket rest : Text) (outer : List Text) → next_open (bracket ∷ outer) rest ≡ None → is_not_closed bracket rest ≡ true
misfit_back bracket [] outer e = refl
misfit_back bracket (c ∷ t) outer e = go (is_opening c) (is_closing c) (closes bracket c) e
  where
    go : (a b d : Bool) → cond a (Some ((c ∷ t) ∷ (bracket ∷ outer))) (cond b (cond d (Some outer) None) (Some (bracket ∷ outer))) ≡ None → (b && not d) ≡ true
    go true b d q = absurd (cc)
    go false true true q = absurd (cc)
    go false true false q = refl
    go false false d q = absurd (cc)

pub tells_fault : (text rest : Text) (around : List Text) (found : BracketFault) (refusal : Refusal) → IsFault around (next_open around rest) found
    → IsReached text around rest
    → (found ≡ kind.OutOfMemory → refusal.error.code ≡ OutOfMemory) → IsTold text (found_open found) refusal.opened
    → IsPositionBefore text rest refusal.error.span.start → TellsOpened text refusal
tells_fault text rest around found refusal (inl m) h memory t s =
    tells_memory text refusal (memory m) (subst (λ x. IsTold text (found_open x) refusal.opened) m t)
tells_fault text rest around found refusal (inr p) h memory t s = go (found_open found) around refl p.1 t
  where
    go : (x : Option Text) (y : List Text) → around ≡ y → innermost y ≡ x → IsTold text x refusal.opened → TellsOpened text refusal
    go None [] e i u =
        tells_none text rest around refusal (stuck_misfit around rest p.0) (λ bracket outer q m. let z : bracket ∷ outer ≡ [] = sym q ∙ e in cc) h u
    go None (o ∷ outer) e i u = absurd (cc)
    go (Some bracket) [] e i u = absurd (cc)
    go (Some bracket) (o ∷ outer) e i u =
        let z : o ≡ bracket = cc in
        let f : around ≡ bracket ∷ outer = e ∙ ap (λ y. y ∷ outer) z in
        tells_left text rest bracket outer around refusal f (misfit_back bracket rest outer (subst (λ y. next_open y rest ≡ None) f p.0)) h u s
