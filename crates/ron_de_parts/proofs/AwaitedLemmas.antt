-- A field's name that stands where it is awaited, with its colon directly behind it; and what is read behind a look.
use Rattle.std.proofs.Common.{◌≡◌, ℕ, ◌<◌, true, false, List, [], ◌∷◌, length, Option, Some, None, Result, Ok, Err, OnOk, MatchResult, slice_get, refl, sym, ap}
use Rattle.std.proofs.Common.{subst, arith}
use Rattle.std.specs.List.{position}
use Rattle.std.proofs.lemmas.List.{length-append}
use Rattle.ron_spec_words.specs.Beyond.{bytes_in, beyond}
use Rattle.ron_spec_words.specs.Characters.{Text}
use Rattle.ron_spec_words.specs.Gap.{skip, gap_of}
use Rattle.ron_spec_words.specs.Name.{name}
use Rattle.ron_spec_words.specs.Openings.{Leads}
use Rattle.ron_spec_words.specs.Reader.{bad, got, failed}
use Rattle.ron_spec_words.specs.Runs.{is_at}
use Rattle.ron_spec_words.proofs.Gaps.{skip-other}
use Rattle.ron_spec_words.proofs.Names.{word_name}
use Rattle.ron_spec_grammar.specs.Data as plain
use Rattle.ron_spec_grammar.specs.Rule.{Extensions}
use Rattle.ron_spec_grammar.specs.Schema.{FieldList, Shape, is_called}
use Rattle.ron_spec_grammar.specs.Shapes.Struct.{Item}
use Rattle.ron_spec_grammar.specs.Turns.{read_item}
use Rattle.ron_base.specs.declared.error.Error.{Error}
use Rattle.ron_data_schema.specs.declared.schema.FieldList as code
use Rattle.ron_data_schema.specs.Shapes.{field_view, list_view}
use Rattle.ron_data.specs.declared.slots.Slots.{Slots}
use Rattle.ron_data.specs.Slots.{slots_view, slots_in, so_far, is_filled, IsFree}
use Rattle.ron_lex.specs.Place.{Place}
use Rattle.ron_lex.specs.Turns.{Stays, Looks, Moves}
use Rattle.ron_de_steps.specs.Spends.{Enters}
use Rattle.ron_de_parts.specs.Errors.{IsMemoryOr}
use Rattle.ron_de_parts.specs.Slots.{ReadsFieldName, IsAtTarget, GoesPastName, TakesAwaited}
use Rattle.ron_de_parts.specs.Turns.{LeadsOn, MovesAfterLook}
use Rattle.ron_de_parts.proofs.StepLemmas.{colon_slash, at_target}
use Rattle.ron_de_parts.proofs.TargetLemmas.{in_view, kept_in, new_target}
use Rattle.ron_de_parts.proofs.TurnLemmas.{field_enters, field_leads, looks_none}

-- ---- the name, and the colon directly behind it

no_gap : (u : Text) → 58 ∷ u ≡ skip (58 ∷ u)
no_gap u = sym (skip-other 58 u refl refl)

module _ (old mid new : Place) (n : Text) (e : name old.rest ≡ got n (58 ∷ mid.rest)) where
  abbrev named : Place
  named = record { text = old.text; rest = 58 ∷ mid.rest; token_start = old.rest; gap = []; counted = 0; turns = 0 }

  pub awaited_slash : (x : Extensions) (schema : List Shape) (room : ℕ) (list : FieldList) (seen : List Item) → is_at 47 (skip mid.rest) ≡ true
      → read_item x schema room list seen old.rest ≡ failed bad
  awaited_slash x schema room list seen m = colon_slash x schema room list seen old.rest n (58 ∷ mid.rest) e (58 ∷ mid.rest) mid.rest (no_gap mid.rest) refl m

  pub awaited_shorter : length mid.rest < length old.rest
  awaited_shorter = let is = word_name.sound old.rest n (58 ∷ mid.rest) e in omega (arith, ap length is.split, length-append is.stretch (58 ∷ mid.rest))

  module _ (is_rest : new.rest ≡ skip mid.rest) where
    pub awaited_enters : new.gap ≡ gap_of mid.rest → Enters old new
    awaited_enters k = field_enters old named named mid new n e (no_gap mid.rest) refl is_rest k

    pub awaited_leads : Leads old.rest new.rest
    awaited_leads = field_leads old named named mid new n e (no_gap mid.rest) refl is_rest

    pub awaited_value : (list : code.FieldList) (found : Slots) (index : ℕ) → is_at 47 (skip mid.rest) ≡ false → new.gap ≡ gap_of mid.rest
        → Some index ≡ position (λ f. is_called n (field_view f)) list.fields.items → IsFree list.fields.items found index
        → ReadsFieldName (list_view list) (slots_view (slots_in list.fields.items found)) old (Ok (Some index)) new
    awaited_value list found index m is_gap at free = λ x schema room seen h.
        at_target x schema room (list_view list) seen old.rest n (58 ∷ mid.rest) e (58 ∷ mid.rest) mid.rest new (no_gap mid.rest) refl m is_gap is_rest
        (Some index) (in_view list.fields.items found (Some index) free)
        (new_target n list seen list.fields.items refl index
        at (slots_in list.fields.items found) h (kept_in n list.fields.items found index at false (is_filled (slice_get (so_far found) index)) refl free.1))

-- ---- behind a look, which leaves the place

module _ (old looked : Place) (stays : Stays old looked) where
  pub value_behind_look : (list : FieldList) (slots : List (Option plain.Data)) (result : Result (Option ℕ) Error) (new : Place)
      → ReadsFieldName list slots looked result new → ReadsFieldName list slots old result new
  value_behind_look list slots result new h = λ x schema room seen s.
      subst (λ (t : Text). MatchResult result (λ index. IsAtTarget x schema room list seen index t new)
      (IsMemoryOr (read_item x schema room list seen t ≡ failed bad))) stays.rest (h x schema room seen s)

  pub enters_behind_look : (result : Result (Option ℕ) Error) (new : Place) → OnOk result (Enters looked new) → OnOk result (Enters old new)
  enters_behind_look (Ok a) new h = let at = ap bytes_in stays.rest in
      record { with_gap = omega (arith, h.with_gap, at); past = omega (arith, h.past, ap (λ t. bytes_in (beyond t)) stays.rest) }
  enters_behind_look (Err e) new h = tt

  pub leads_behind_look : (result : Result (Option ℕ) Error) (new : Place) → LeadsOn looked result new → LeadsOn old result new
  leads_behind_look (Ok a) new h = subst (λ (t : Text). Leads t new.rest) stays.rest h
  leads_behind_look (Err e) new h = tt

-- ---- what comes of it

module _ (list : FieldList) (slots : List (Option plain.Data)) (old new : Place) (field : Option ℕ) (takes : TakesAwaited list slots old (Ok field) new) where
  pub awaited_some : (index : ℕ) → field ≡ Some index → GoesPastName list slots old (Ok (Some index)) new
  awaited_some index e = subst (λ (f : Option ℕ). TakesAwaited list slots old (Ok f) new) e takes

  pub awaited_none : field ≡ None → Stays old new × Looks 1 old new
  awaited_none e = subst (λ (f : Option ℕ). TakesAwaited list slots old (Ok f) new) e takes

pub stays_here : (place : Place) → Stays place place
stays_here place = record { text = refl; rest = refl; token_start = refl; gap = refl }

-- without a look
pub moves_alone : {A E : Type 0} (c : ℕ) (old : Place) (r : Result A E) (new : Place) → Moves c old r new → MovesAfterLook c old r new
moves_alone c old r new h = record { looked = old; stays = stays_here old; looks = looks_none old; moves = h }
