-- Before what may follow a value, whole tokens lead over what was read.
use Rattle.std.proofs.Common.{◌≡◌, ℕ, zero, suc, Bool, true, false, is_some, length, codes, drop, Option, Some, None, MatchOption, Result, Ok, Err, OnOk}
use Rattle.std.proofs.Common.{encode_utf8_all, refl, sym, ap, subst, ◌∙◌}
use Rattle.ron_spec_words.specs.Characters.{Text}
use Rattle.ron_spec_words.specs.Name.{name, untyped_name}
use Rattle.ron_spec_words.specs.Reader.{bad, deep, Got, got, failed, meant}
use Rattle.ron_spec_words.specs.Exact.{FollowsValue}
use Rattle.ron_spec_words.specs.Openings.{Leads}
use Rattle.ron_spec_words.specs.Openings as openings
use Rattle.ron_spec_words.specs.Directly.{stands}
use Rattle.ron_spec_words.specs.Gap.{skip}
use Rattle.ron_spec_words.proofs.Leading.{leads_on, leads_gap, leads_name, leads_untyped_name, leads_some, leads_walk}
use Rattle.ron_value.specs.declared.value.Value.{Value}
use Rattle.ron_value.specs.Tree.{Tree}
use Rattle.ron_value.specs.Tree as tree
use Rattle.ron_value.specs.View.{tree_of}
use Rattle.ron_spec_grammar.specs.Values.Grammar.{read_any}
use Rattle.ron_spec_grammar.specs.Values.Statement.{enough_for_value}
use Rattle.ron_spec_grammar.proofs.Values.Place.{sound, walk}
use Rattle.ron_base.specs.declared.error.Error.{Error}
use Rattle.ron_lex.specs.Place.{Place}
use Rattle.ron_lex.specs.Turns.{Stays}
use Rattle.ron_de_steps.specs.Conditions.{Conditions}
use Rattle.ron_de_steps.specs.Reads.{Reads}
use Rattle.ron_de_steps.specs.Room.{IsRoom}
use Rattle.ron_de_steps.specs.Spends.{IsReached}
use Rattle.ron_de_steps.proofs.LeadLemmas.{reached_on}
use Rattle.ron_de_steps.proofs.RoomLemmas.{some_room}
use Rattle.ron_de_untyped.specs.Reading.{read_below, name_key}
use Rattle.ron_de_untyped.specs.Values.{unwraps, ReadsAny, ReadsBelow}
use Rattle.ron_de_untyped.proofs.AnyTurns.{below_here, below_deep}

pub any_leads : (u : Bool) (room : ℕ) (before s rest : Text) (t : Tree) → read_any u room false before s ≡ got t rest → FollowsValue rest → Leads s rest
any_leads u room before s rest t e f =
    let y = sound u room before s rest t e in
    subst (λ x. Leads x rest) (sym y.split) (leads_walk (walk u room 0 before y.stretch rest t y.spelled f))

-- a value that the code read, behind this gap
module _ (x : Conditions) (gap s : Text) (v : Value) (rest : Text) where
  pub reads_lead : ((room : ℕ) → IsRoom x.limit (enough_for_value false (length s)) room → read_any (unwraps x) room false gap s ≡ got (tree_of v) rest)
      → FollowsValue rest → Leads s rest
  reads_lead h f =
      let room = some_room x.limit (enough_for_value false (length s)) in
      any_leads (unwraps x) room.0 gap s rest (tree_of v) (h room.0 room.1) f

  pub below_leads : ((room : ℕ) → IsRoom x.limit (suc (enough_for_value false (length s))) room → read_below (unwraps x) room gap s ≡ got (tree_of v) rest)
      → FollowsValue rest → Leads s rest
  below_leads h f = let room = some_room x.limit (suc (enough_for_value false (length s))) in go room.0 (h room.0 room.1)
    where
      go : (room : ℕ) → read_below (unwraps x) room gap s ≡ got (tree_of v) rest → Leads s rest
      go zero e = absurd (let k : failed deep ≡ got (tree_of v) rest = sym (below_deep (unwraps x) gap s) ∙ e in cc)
      go (suc room) e = any_leads (unwraps x) room gap s rest (tree_of v) (sym (below_here (unwraps x) room gap s) ∙ e) f

-- behind it whole tokens lead too
pub value_reached : (x : Conditions) (old new : Place) (v : Value) → ReadsAny x false old (Ok v) new.rest → new.text ≡ old.text → FollowsValue new.rest
    → IsReached old → IsReached new
value_reached x old new v h e f = reached_on old new e (reads_lead x old.gap old.rest v new.rest h f)

-- a field's name
pub key_leads : (s rest : Text) (t : Tree) → name_key s ≡ got t rest → Leads s rest
key_leads s rest t e = go (name s) refl e
  where
    go : (o : Got Text) → name s ≡ o → meant o (λ n. Some (tree.text (encode_utf8_all n))) ≡ got t rest → Leads s rest
    go (got n u) h k = let same : u ≡ rest = cc in leads_name s n rest (h ∙ ap (got n) same)
    go (failed f) h k = absurd (cc)

pub key_lead : (place : Place) (r : Result Value Error) (rest : Text) → Reads tree_of r (name_key place.rest) rest
    → OnOk r (FollowsValue rest → Leads place.rest rest)
key_lead place (Ok v) rest h = λ f. key_leads place.rest rest (tree_of v) h
key_lead place (Err e) rest h = tt

-- a key that is a value
pub below_lead : (x : Conditions) (place : Place) (r : Result Value Error) (rest : Text) → ReadsBelow x place r rest
    → OnOk r (FollowsValue rest → Leads place.rest rest)
below_lead x place (Ok v) rest h = below_leads x place.gap place.rest v rest h
below_lead x place (Err e) rest h = tt

-- ---- words before what they hold

pub leads_here : (old new : Place) → new.rest ≡ old.rest → Leads old.rest new.rest
leads_here old new e = subst (Leads old.rest) (sym e) (openings.same old.rest)

-- `Some` and the gap behind it
pub some_leads : (old mid new : Place) → stands (codes "Some") old.rest ≡ true → mid.rest ≡ drop 4 old.rest → new.rest ≡ skip mid.rest → Leads old.rest new.rest
some_leads old mid new h e f = leads_on (subst (Leads old.rest) (sym e) (leads_some old.rest h)) (subst (Leads mid.rest) (sym f) (leads_gap mid.rest))

-- a name that stands there, and the gap behind it
pub name_leads : {N : Type 0} (r : Option N) (old mid there new : Place) (view : N → Text) → is_some r ≡ true → mid.rest ≡ old.rest
    → MatchOption r ((untyped_name mid.rest ≡ failed bad) × Stays mid there) (λ n. untyped_name mid.rest ≡ got (view n) there.rest) → new.rest ≡ skip there.rest
    → Leads old.rest new.rest
name_leads None old mid there new view is e v f = absurd (cc)
name_leads (Some n) old mid there new view is e v f =
    leads_on (leads_here old mid e) (leads_on (leads_untyped_name mid.rest (view n) there.rest v) (subst (Leads there.rest) (sym f) (leads_gap there.rest)))
