-- What leaves add to the count, and where the steps before a value lead.
use Rattle.std.proofs.Common.{◌≡◌, ℕ, suc, ◌+◌, ◌≤◌, Bool, true, false, MatchBool, ◌∷◌, ◌++◌, codes, Result, Ok, Err, OnOk, sym, ap, subst, arith}
use Rattle.ron_spec_words.specs.Characters.{Text}
use Rattle.ron_spec_words.specs.Beyond.{bytes_in}
use Rattle.ron_spec_words.specs.Gap.{skip, gap_of}
use Rattle.ron_spec_words.specs.Name.{name}
use Rattle.ron_spec_words.specs.Openings.{Leads}
use Rattle.ron_spec_words.specs.Runs.{is_at, begins_with}
use Rattle.ron_spec_words.specs.Reader.{got}
use Rattle.ron_spec_words.proofs.Leading.{leads_on, leads_gap, leads_name, leads_colon}
use Rattle.ron_spec_words.proofs.Sizes.{size_end, beyond_no_more}
use Rattle.ron_base.specs.declared.error.Error.{Error}
use Rattle.ron_lex.specs.Place.{Place}
use Rattle.ron_lex.specs.Turns.{Stays, GoesOver, Looks, Scans, Moves}
use Rattle.ron_de_steps.specs.Spends.{Nears, Enters, SpendsAny, total_before, paid_besides}
use Rattle.ron_de_steps.proofs.NearLemmas.{nears_here, nears_on, enters_from, gap_nears, name_nears, none_nears, mark_nears, mark_enters, mark_colon, IsMark}
use Rattle.ron_de_steps.proofs.KeepLemmas.{moves_settle, keeps_but, then_moves, stays_on, tried_again}
use Rattle.ron_de_steps.proofs.SpendLemmas.{scans_behind}
use Rattle.ron_de_parts.specs.Turns.{SettlesLeaf, SpendsLeaf, LeadsOn}

-- ---- answers

pub so : {A E : Type 0} (P : Type 0) (r : Result A E) → P → OnOk r P
so P (Ok a) p = p
so P (Err e) p = tt

-- what was gone over, whatever is answered behind it
pub moved_so : {A E : Type 0} (d : ℕ) (old new : Place) (r : Result A E) → GoesOver d old new → Moves d old r new
moved_so d old new r h = record { moved = so (GoesOver d old new) r h; most = omega (arith, h) }

pub refused_so : {A E : Type 0} (d : ℕ) (old new : Place) (e : E) → Scans d old new → Moves {A = A} d old (Err e) new
refused_so d old new e h = record { moved = tt; most = h }

-- a step behind what was gone over
pub nears_so : {A E : Type 0} (old mid new : Place) (r : Result A E) → Nears old mid → OnOk r (Nears mid new) → OnOk r (Nears old new)
nears_so old mid new (Ok a) h k = nears_on old mid new h k
nears_so old mid new (Err e) h k = tt

pub leads_so : {A E : Type 0} (old mid new : Place) (r : Result A E) → Leads old.rest mid.rest → OnOk r (Leads mid.rest new.rest) → LeadsOn old r new
leads_so old mid new (Ok a) h k = leads_on h k
leads_so old mid new (Err e) h k = tt

-- a gap, where it is gone past
pub gap_leads : {A E : Type 0} (old new : Place) (r : Result A E) → OnOk r (new.rest ≡ skip old.rest) → LeadsOn old r new
gap_leads old new (Ok a) h = subst (Leads old.rest) (sym h) (leads_gap old.rest)
gap_leads old new (Err e) h = tt

pub looks_none : (place : Place) → Looks 1 place place
looks_none place = omega (arith, beyond_no_more place.rest)

-- a mark that is gone past, where it stands
pub taken_nears : (c : ℕ) (b : Bool) (old new : Place) → IsMark c → MatchBool b (old.rest ≡ c ∷ new.rest) ((is_at c old.rest ≡ false) × (new ≡ old))
    → Nears old new
taken_nears c true old new m h = mark_nears c old new m h
taken_nears c false old new m h = subst (Nears old) (sym h.1) (nears_here old)

-- a front, at twice the rate
pub front_twice : (front : Text) (b : Bool) (old new : Place) → MatchBool b (old.rest ≡ front ++ new.rest) ((begins_with front old.rest ≡ false) × (new ≡ old))
    → GoesOver 1 old new → GoesOver 2 old new
front_twice front true old new h over = omega (arith, over, size_end front new.rest old.rest h)
front_twice front false old new h over = omega (arith, over, ap (λ p. bytes_in p.rest) h.1)

-- likewise the word `None`
pub none_taken : (b : Bool) (old new : Place) → MatchBool b (old.rest ≡ codes "None" ++ new.rest) (new ≡ old) → Nears old new
none_taken true old new h = none_nears old new h
none_taken false old new h = subst (Nears old) (sym h) (nears_here old)

-- ---- a field's name, the colon and the gaps around it

module _ (old named before behind new : Place) (n : Text) (e : name old.rest ≡ got n named.rest) (f : before.rest ≡ skip named.rest)
    (g : before.rest ≡ 58 ∷ behind.rest) (h : new.rest ≡ skip behind.rest) where
  pub field_enters : new.gap ≡ gap_of behind.rest → Enters old new
  field_enters k = enters_from old before new (nears_on old named before (name_nears n old named e) (gap_nears named before f))
      (mark_enters 58 before behind new mark_colon g k h)

  pub field_leads : Leads old.rest new.rest
  field_leads =
      let colon : Leads before.rest behind.rest = subst (λ s. Leads s behind.rest) (sym g) (leads_colon behind.rest) in
      let gap : Leads named.rest before.rest = subst (Leads named.rest) (sym f) (leads_gap named.rest) in
      leads_on (leads_name old.rest n named.rest e) (leads_on gap (leads_on colon (subst (Leads behind.rest) (sym h) (leads_gap behind.rest))))

-- ---- leaves

module _ {A : Type 0} (d : ℕ) (le : d ≤ suc paid_besides) (old new : Place) where
  pub leaf_moves : (r : Result A Error) → Moves d old r new → OnOk r (Nears old new) → SettlesLeaf old r new
  leaf_moves r h near = λ k reached. moves_settle paid_besides k d old r new le h near

  pub leaf_read : (r : Result A Error) → GoesOver d old new → Nears old new → SettlesLeaf old r new
  leaf_read r h near = leaf_moves r (moved_so d old new r h) (so (Nears old new) r near)

  pub leaf_refused : (e : Error) → Scans d old new → SettlesLeaf {A = A} old (Err e) new
  leaf_refused e h = leaf_moves (Err e) (refused_so d old new e h) tt

-- from a place that hasn't changed
pub leaf_from : {A : Type 0} (old mid : Place) (r : Result A Error) (new : Place) → mid ≡ old → SettlesLeaf mid r new → SettlesLeaf old r new
leaf_from old mid r new e h = subst (λ p. SettlesLeaf p r new) e h

-- a trial, back to its start, and what is reported there
pub leaf_again : {A : Type 0} (d f : ℕ) → d + f ≤ suc paid_besides → (old start there back new : Place) (e : Error) → Stays old start → Scans d old there
    → Stays start back → back.turns ≡ there.turns → Scans f back new → SettlesLeaf {A = A} old (Err e) new
leaf_again d f le old start there back new e s h t same k =
    leaf_refused (d + f) le old new e (tried_again d f old there back new h (stays_on old start back s t) same k)

-- ---- a value of any form, and behind it a step

module _ {A B : Type 0} (bare : Bool) (m : ℕ) (old mid : Place) (a : A) (h : SpendsAny {E = Error} bare m old (Ok a) mid) (new : Place) where
  pub value_open : (e : Error) → Scans 1 mid new → SpendsLeaf {A = B} bare m old (Err e) new
  value_open e scans = λ k stands. keeps_but paid_besides k (total_before paid_besides k m old) a e mid new (h stands paid_besides k (omega arith))
      (scans_behind paid_besides k 1 mid new (omega arith) scans)

  pub value_closed : (b : B) → GoesOver 1 mid new → Nears mid new → SpendsLeaf {E = Error} bare m old (Ok b) new
  value_closed b over near = λ k stands. then_moves paid_besides k 1 (total_before paid_besides k m old) a mid (Ok b) new
      (h stands paid_besides k (omega arith)) (omega arith) (moved_so 1 mid new (Ok b) over) near
