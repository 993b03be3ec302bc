-- Where whole tokens lead behind a value that was read; and the longest chain.
use Rattle.std.proofs.Common.{◌≡◌, ℕ, zero, suc, ◌+◌, ◌*◌, ◌-◌, ◌<◌, ◌≤◌, true, false, List, length, drop, ◌∷◌, codes, Result, Ok, Err, refl, sym, ap, subst}
use Rattle.std.proofs.Common.{arith}
use Rattle.ron_spec_words.specs.Characters.{Text}
use Rattle.ron_spec_words.specs.Reader.{got}
use Rattle.ron_spec_words.specs.Directly.{stands}
use Rattle.ron_spec_words.specs.Exact.{FollowsValue}
use Rattle.ron_spec_words.specs.Gap.{skip}
use Rattle.ron_spec_words.specs.Openings.{Leads}
use Rattle.ron_spec_words.specs.Scan.{is_opening}
use Rattle.ron_spec_words.proofs.Leading.{leads_on, leads_gap, leads_opening, leads_some, leads_walk}
use Rattle.ron_spec_grammar.specs.Data as plain
use Rattle.ron_spec_grammar.specs.Schema.{Shape}
use Rattle.ron_spec_grammar.specs.Rule.{Extensions}
use Rattle.ron_spec_grammar.specs.Reading.{read}
use Rattle.ron_spec_grammar.specs.Room.{rank, longest_of, chain, enough}
use Rattle.ron_spec_grammar.specs.Values.Statement.{enough_for_value}
use Rattle.ron_spec_grammar.proofs.Place as value
use Rattle.ron_base.specs.declared.error.Error.{Error}
use Rattle.ron_lex.specs.Place.{Place}
use Rattle.ron_de_steps.specs.Spends.{paid_besides}
use Rattle.ron_de_steps.proofs.KeepLemmas.{spends_more}
use Rattle.ron_de_steps.proofs.RoomLemmas.{some_room}
use Rattle.ron_de_untyped.proofs.LeadLemmas.{any_leads}
use Rattle.ron_data.specs.declared.data.Data.{Data}
use Rattle.ron_de_parts.specs.Terms.{Terms}
use Rattle.ron_de.specs.Turns.{SpendsShape, SpendsItems, LeadsPast}
use Rattle.ron_de_parts.specs.Values.{ReadsValue, SkipsValue}

-- ---- behind a value

value_leads : (x : Extensions) (schema : List Shape) (room i : ℕ) (before s rest : Text) (d : plain.Data) → read x schema room false i before s ≡ got d rest
    → FollowsValue rest → Leads s rest
value_leads x schema room i before s rest d e f =
    let y = value.sound false x schema i room before s rest d e in
    subst (λ u. Leads u rest) (sym y.split) (leads_walk (value.walk false x schema i room 0 before y.stretch rest d y.spelled f))

module _ (terms : Terms) (old new : Place) where
  pub read_leads : (i : ℕ) (value : Data) → ReadsValue terms i old (Ok value) new.rest → FollowsValue new.rest → Leads old.rest new.rest
  read_leads i value h f =
      let r = some_room terms.limit (enough terms.schema false i (length old.rest)) in
      value_leads terms.extensions terms.schema r.0 i old.gap old.rest new.rest _ (h r.0 r.1) f

  -- whatever is read
  pub reads_past : (i : ℕ) (r : Result Data Error) → ReadsValue terms i old r new.rest → LeadsPast old r new
  reads_past i (Ok value) h = read_leads i value h
  reads_past i (Err f) h = tt

  pub skipped_leads : SkipsValue terms old (Ok tt) new.rest → FollowsValue new.rest → Leads old.rest new.rest
  skipped_leads h f =
      let r = some_room terms.limit (enough_for_value false (length old.rest)) in
      let k = h r.0 r.1 in
      any_leads terms.extensions.unwrap_variant_newtypes r.0 old.gap old.rest new.rest k.0 k.1 f

-- ---- along the steps to what is read

-- over an opening mark, and over a gap
pub over_mark : (old new : Place) (mark : ℕ) → is_opening mark ≡ true → old.rest ≡ mark ∷ new.rest → Leads old.rest new.rest
over_mark old new mark opens e = subst (λ s. Leads s new.rest) (sym e) (leads_opening mark new.rest opens)

pub over_gap : (old new : Place) → new.rest ≡ skip old.rest → Leads old.rest new.rest
over_gap old new e = subst (Leads old.rest) (sym e) (leads_gap old.rest)

-- over the word `Some`, a gap and the parenthesis
pub over_some : (old new : Place) → stands (codes "Some") old.rest ≡ true → skip (drop 4 old.rest) ≡ 40 ∷ new.rest → Leads old.rest new.rest
over_some old new s e =
    leads_on (leads_some old.rest s) (leads_on (subst (Leads (drop 4 old.rest)) e (leads_gap (drop 4 old.rest))) (leads_opening 40 new.rest refl))

-- ---- the longest chain

module _ (schema : List Shape) where
  longest_at : (d i n : ℕ) → n ≡ d + i → rank schema i ≤ longest_of schema (suc n)
  longest_at zero i n e = let same : rank schema n ≡ rank schema i = ap (rank schema) (omega (arith, e)) in omega (arith, same)
  longest_at (suc d) i zero e = absurd (omega (arith, e))
  longest_at (suc d) i (suc n) e = let k = longest_at d i n (omega (arith, e)) in omega (arith, k)

  pub rank_in_chain : (i : ℕ) → i < length schema → rank schema i ≤ chain schema
  rank_in_chain i lt =
      let n : ℕ = length schema - 1 in
      let last : length schema ≡ suc n = omega (arith, lt) in
      omega (arith, longest_at (n - i) i n (omega (arith, lt)), ap (longest_of schema) last)

  pub value_looks : (i : ℕ) → i < length schema → rank schema i + 2 ≤ 4 * suc (chain schema)
  value_looks i lt = omega (arith, rank_in_chain i lt)

  pub bare_looks : (i : ℕ) → i < length schema → rank schema i + 2 + (chain schema + 2) ≤ 4 * suc (chain schema)
  bare_looks i lt = omega (arith, rank_in_chain i lt)

  pub items_looks : chain schema + 2 ≤ 4 * suc (chain schema)
  items_looks = omega arith

  -- a value as one of the items
  pub item_spent : {A E : Type 0} (i : ℕ) (old : Place) (r : Result A E) (new : Place) → i < length schema → SpendsShape schema i old r new
      → SpendsItems schema old r new
  item_spent i old r new lt h =
      λ p. spends_more paid_besides (chain schema) (rank schema i + 2) (chain schema + 2) old r new (omega (arith, rank_in_chain i lt)) (h p)
