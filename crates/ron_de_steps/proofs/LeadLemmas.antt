-- Where whole tokens lead, along the steps of reading, and behind a value before what may follow one.
use Rattle.std.proofs.Common.{◌≡◌, ℕ, Bool, true, false, drop, ◌∷◌, codes, Some, refl, sym, subst, ◌∙◌}
use Rattle.ron_spec_words.specs.Characters.{Text}
use Rattle.ron_spec_words.specs.Gap.{skip}
use Rattle.ron_spec_words.specs.Directly.{stands}
use Rattle.ron_spec_words.specs.Exact.{FollowsValue}
use Rattle.ron_spec_words.specs.Scan.{Walk, is_opening}
use Rattle.ron_spec_words.specs.Openings.{Leads}
use Rattle.ron_spec_words.proofs.Leading.{leads_on, leads_gap, leads_comma, leads_colon, leads_content, leads_some, leads_walk, follows_mark}
use Rattle.ron_lex.specs.Place.{Place}
use Rattle.ron_lex.specs.Turns.{Stays}
use Rattle.ron_de_steps.specs.Steps.{past_mark, past_colon, past_comma}
use Rattle.ron_de_steps.specs.Spends.{IsReached, IsOpened, IsInside, StandsAs}
use Rattle.ron_de_steps.proofs.StepLemmas.{unless_some}
use Rattle.ron_de_steps.proofs.NearLemmas.{marked_at, commaed}

-- ---- one place and the next

pub reached_on : (old new : Place) → new.text ≡ old.text → Leads old.rest new.rest → IsReached old → IsReached new
reached_on old new e l h = subst (λ s. Leads s new.rest) (sym e) (leads_on h l)

pub reached_stays : (old new : Place) → Stays old new → IsReached old → IsReached new
reached_stays old new s h = subst (λ u. Leads new.text u) (sym s.rest) (subst (λ t. Leads t old.rest) (sym s.text) h)

-- ---- gaps and words

module _ (old new : Place) (e : new.text ≡ old.text) where
  pub reached_gap : new.rest ≡ skip old.rest → IsReached old → IsReached new
  reached_gap f = reached_on old new e (subst (Leads old.rest) (sym f) (leads_gap old.rest))

  -- ---- opening marks

  -- over the mark, to before the gap behind it
  pub inside_mark : (mark : ℕ) → is_opening mark ≡ true → old.rest ≡ mark ∷ new.rest → IsReached old → IsInside new
  inside_mark mark opens f h = record {
    bracket = mark;
    opens = opens;
    leads = subst (λ s. Leads s (mark ∷ new.rest)) (sym e) (subst (Leads old.text) f h);
  }

  -- and over that gap
  pub inside_opened : new.rest ≡ skip old.rest → IsInside old → IsOpened new
  inside_opened f h = record {
    bracket = h.bracket;
    inside = old.rest;
    opens = h.opens;
    leads = subst (λ s. Leads s (h.bracket ∷ old.rest)) (sym e) h.leads;
    begins = f;
  }

  -- over both
  pub opened_mark : (mark : ℕ) → is_opening mark ≡ true → past_mark mark old.rest ≡ Some (new.gap, new.rest) → IsReached old → IsOpened new
  opened_mark mark opens f h =
      let z = marked_at mark old.rest new.gap new.rest f in
      record {
        bracket = mark;
        inside = z.more;
        opens = opens;
        leads = subst (λ s. Leads s (mark ∷ z.more)) (sym e) (subst (Leads old.text) z.is h);
        begins = sym z.rest;
      }

  -- over the word `Some`, a gap and the parenthesis
  pub inside_some : stands (codes "Some") old.rest ≡ true → skip (drop 4 old.rest) ≡ 40 ∷ new.rest → IsReached old → IsInside new
  inside_some h f reached = record {
    bracket = 40;
    opens = refl;
    leads = subst (λ s. Leads s (40 ∷ new.rest)) (sym e)
        (leads_on reached (leads_on (leads_some old.rest h) (subst (Leads (drop 4 old.rest)) f (leads_gap (drop 4 old.rest)))));
  }

  -- ---- behind a value

  pub value_reached : {commas : Bool} {d n : ℕ} → Walk commas d old.rest n new.rest → IsReached old → IsReached new
  value_reached w = reached_on old new e (leads_walk w)

pub opened_reached : (place : Place) → IsOpened place → IsReached place
opened_reached place h = leads_content place.text place.rest h

pub stands_reached : (bare : Bool) (place : Place) → StandsAs bare place → IsReached place
stands_reached true place h = opened_reached place h
stands_reached false place h = h

pub opened_stays : (old new : Place) → Stays old new → IsOpened old → IsOpened new
opened_stays old new s h = record {
  bracket = h.bracket;
  inside = h.inside;
  opens = h.opens;
  leads = subst (λ t. Leads t (h.bracket ∷ h.inside)) (sym s.text) h.leads;
  begins = s.rest ∙ h.begins;
}

pub stands_stays : (bare : Bool) (old new : Place) → Stays old new → StandsAs bare old → StandsAs bare new
stands_stays true old new s h = opened_stays old new s h
stands_stays false old new s h = reached_stays old new s h

-- ---- what follows a value, as the step behind it tells

pub follows_comma : (s : Text) (p : Text × Text) → past_comma s ≡ Some (true, p) → FollowsValue s
follows_comma s p e = let z = (commaed s true p.0 p.1 e).passes refl in follows_mark 44 s z.more z.is refl

pub follows_colon : (s : Text) (p : Text × Text) → past_colon s ≡ Some p → FollowsValue s
follows_colon s p e =
    let z = marked_at 58 (skip s) p.0 p.1 (unless_some s (past_mark 58 (skip s)) p e).1 in
    follows_mark 58 s z.more z.is refl

-- ---- those steps

module _ (old new : Place) where
  at_mark_and_gap : (c : ℕ) (u : Text) → Leads (c ∷ u) u → skip old.rest ≡ c ∷ u → skip u ≡ new.rest → Leads old.rest new.rest
  at_mark_and_gap c u l f g = leads_on (subst (Leads old.rest) f (leads_gap old.rest)) (leads_on l (subst (Leads u) g (leads_gap u)))

  pub leads_past_comma : (passed : Bool) → past_comma old.rest ≡ Some (passed, (new.gap, new.rest)) → Leads old.rest new.rest
  leads_past_comma true f = let z = (commaed old.rest true new.gap new.rest f).passes refl in at_mark_and_gap 44 z.more (leads_comma z.more) z.is z.rest
  leads_past_comma false f = subst (Leads old.rest) ((commaed old.rest false new.gap new.rest f).stays refl).1 (leads_gap old.rest)

  pub leads_past_colon : past_colon old.rest ≡ Some (new.gap, new.rest) → Leads old.rest new.rest
  leads_past_colon f =
      let z = marked_at 58 (skip old.rest) new.gap new.rest (unless_some old.rest (past_mark 58 (skip old.rest)) (new.gap, new.rest) f).1 in
      at_mark_and_gap 58 z.more (leads_colon z.more) z.is z.rest

module _ (old new : Place) (e : new.text ≡ old.text) where
  pub reached_comma : (passed : Bool) → past_comma old.rest ≡ Some (passed, (new.gap, new.rest)) → IsReached old → IsReached new
  reached_comma passed f = reached_on old new e (leads_past_comma old new passed f)

  pub reached_colon : past_colon old.rest ≡ Some (new.gap, new.rest) → IsReached old → IsReached new
  reached_colon f = reached_on old new e (leads_past_colon old new f)
