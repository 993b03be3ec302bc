-- What calls promise of the count, one behind the other: values, steps and looks, items, raw texts, and a whole text.
use Rattle.std.proofs.Common.{◌≡◌, ℕ, suc, ◌+◌, ◌*◌, ◌-◌, ◌≤◌, Bool, false, Result, Ok, Err, OnOk, ap, ◌∙◌, arith}
use Rattle.std.proofs.Math.Nat.{mul-le-mul_left, mul-le-mul_right}
use Rattle.ron_spec_words.specs.Beyond.{bytes_in, beyond}
use Rattle.ron_lex.specs.Place.{Place}
use Rattle.ron_lex.specs.Turns.{Stays, GoesOver, Looks, Scans, Moves}
use Rattle.ron_de_steps.specs.Spends.{settled, allowed, total_behind, total_before, total_inside, KeepsTo, Spends, Settles, SpendsInside, StandsAs, IsReached}
use Rattle.ron_de_steps.specs.Spends.{SpendsTyped, SpendsAny, SpendsUntyped, SpendsRaw, raw_besides, paid_besides, Nears, Opens, Enters}
use Rattle.ron_de_steps.proofs.SpendLemmas.{before_none, before_more, behind_before, turns_behind, turns_before, before_most, before_same, behind_same}
use Rattle.ron_de_steps.proofs.SpendLemmas.{nears_settles, enters_allows, opens_allows, inside_allows, looks_leave, scans_behind, scans_before}

-- ---- an answer

module _ {A E : Type 0} (c k total : ℕ) where
  pub keeps_ok : (a : A) (new : Place) → total_behind c k new ≤ total → KeepsTo {A = A} {E = E} c k total (Ok a) new
  keeps_ok a new h = record { most = omega (arith, turns_behind c k new, h); left = h }

  pub keeps_err : (e : E) (new : Place) → new.turns ≤ total → KeepsTo {A = A} {E = E} c k total (Err e) new
  keeps_err e new h = record { most = h; left = tt }

  -- a greater total
  pub keeps_more : (more : ℕ) (r : Result A E) (new : Place) → total ≤ more → KeepsTo c k total r new → KeepsTo c k more r new
  keeps_more more (Ok a) new le h = record { most = omega (arith, h.most, le); left = omega (arith, h.left, le) }
  keeps_more more (Err e) new le h = record { most = omega (arith, h.most, le); left = tt }

-- what is answered, and which error it is, don't matter
pub keeps_as : {A B E F : Type 0} (c k total : ℕ) (a : A) (b : B) (new : Place) → KeepsTo {A = A} {E = E} c k total (Ok a) new
    → KeepsTo {A = B} {E = F} c k total (Ok b) new
keeps_as c k total a b new h = record { most = h.most; left = h.left }

pub keeps_refused : {A B E F : Type 0} (c k total : ℕ) (e : E) (f : F) (new : Place) → KeepsTo {A = A} {E = E} c k total (Err e) new
    → KeepsTo {A = B} {E = F} c k total (Err f) new
keeps_refused c k total e f new h = record { most = h.most; left = tt }

-- what is answered is refused after all, or behind it something that scans
pub keeps_but : {A B E F : Type 0} (c k total : ℕ) (a : A) (f : F) (mid new : Place) → KeepsTo {A = A} {E = E} c k total (Ok a) mid
    → new.turns ≤ total_behind c k mid → KeepsTo {A = B} {E = F} c k total (Err f) new
keeps_but c k total a f mid new h le = record { most = omega (arith, h.left, le); left = tt }

-- the gap is forgotten
pub keeps_same : {A B E F : Type 0} (c k total : ℕ) (a : A) (b : B) (mid new : Place) → KeepsTo {A = A} {E = E} c k total (Ok a) mid → new.rest ≡ mid.rest
    → new.turns ≤ mid.turns → KeepsTo {A = B} {E = F} c k total (Ok b) new
keeps_same c k total a b mid new h e le = keeps_ok c k total b new (omega (arith, h.left, behind_same c k mid new e le))

-- a value, and something behind it: a further value, or a step
pub keeps_then : {A B E F : Type 0} (c k total : ℕ) (a : A) (mid : Place) (r : Result B F) (new : Place) → KeepsTo {A = A} {E = E} c k total (Ok a) mid
    → Settles c k mid r new → KeepsTo c k total r new
keeps_then c k total a mid r new h s = keeps_more c k (total_behind c k mid) total r new h.left s

-- ---- steps

-- a step that moves, from behind a value
pub moves_settle : {A E : Type 0} (c k d : ℕ) (old : Place) (r : Result A E) (new : Place) → d ≤ suc c → Moves d old r new → OnOk r (Nears old new)
    → Settles c k old r new
moves_settle c k d old (Ok a) new le h near = keeps_ok c k (total_behind c k old) a new (nears_settles c k d old new le h.moved near)
moves_settle c k d old (Err e) new le h near = keeps_err c k (total_behind c k old) e new (scans_behind c k d old new le h.most)

-- a value, and a step behind it
pub then_moves : {A B E F : Type 0} (c k d total : ℕ) (a : A) (mid : Place) (r : Result B F) (new : Place) → KeepsTo {A = A} {E = E} c k total (Ok a) mid
    → d ≤ suc c → Moves d mid r new → OnOk r (Nears mid new) → KeepsTo c k total r new
then_moves c k d total a mid r new h le moves near = keeps_then c k total a mid r new h (moves_settle c k d mid r new le moves near)

-- a step that moves, such as a name or a gap, and what stands behind it
pub nears_then : {A E : Type 0} (c k d : ℕ) (old mid : Place) (r : Result A E) (new : Place) → d ≤ suc c → GoesOver d old mid → Nears old mid
    → Settles c k mid r new → Settles c k old r new
nears_then c k d old mid r new le over near h = keeps_more c k (total_behind c k mid) (total_behind c k old) r new (nears_settles c k d old mid le over near) h

-- a mark and a gap, and the value behind them
pub enters_then : {A E : Type 0} (c k m : ℕ) (old mid : Place) (r : Result A E) (new : Place) → m ≤ 4 * suc k → GoesOver 1 old mid → Enters old mid
    → Spends c k m mid r new → Settles c k old r new
enters_then c k m old mid r new le over e h = keeps_more c k (total_before c k m mid) (total_behind c k old) r new (enters_allows c k m old mid le over e) h

-- the mark alone, and what stands behind it with its gap
pub opens_then : {A E : Type 0} (c k : ℕ) (old mid : Place) (r : Result A E) (new : Place) → GoesOver 1 old mid → Opens old mid → SpendsInside c k mid r new
    → Settles c k old r new
opens_then c k old mid r new over o h = keeps_more c k (total_inside c k mid) (total_behind c k old) r new (opens_allows c k old mid over o) h

-- that gap, and the value behind it
pub inside_then : {A E : Type 0} (c k m : ℕ) (old mid : Place) (r : Result A E) (new : Place) → m ≤ 4 * suc k → GoesOver 1 old mid
    → bytes_in mid.gap + bytes_in mid.rest ≡ bytes_in old.rest → Spends c k m mid r new → SpendsInside c k old r new
inside_then c k m old mid r new le over gap h = keeps_more c k (total_before c k m mid) (total_inside c k old) r new (inside_allows c k m old mid le over gap) h

-- ---- looks, and members of a chain

-- what takes no look may stand where some are left
pub settles_spends : {A E : Type 0} (c k m : ℕ) (old : Place) (r : Result A E) (new : Place) → Settles c k old r new → Spends c k m old r new
settles_spends c k m old r new h = keeps_more c k (total_behind c k old) (total_before c k m old) r new (behind_before c k m old) h

-- what takes fewer looks may stand where more are left
pub spends_more : {A E : Type 0} (c k m n : ℕ) (old : Place) (r : Result A E) (new : Place) → m ≤ n → Spends c k m old r new → Spends c k n old r new
spends_more c k m n old r new le h = keeps_more c k (total_before c k m old) (total_before c k n old) r new (before_more c k m n old le) h

-- looks that answer no, and then something else at the same place: what an implied `Some` holds, or the same value by another form
pub looks_then : {A E : Type 0} (c k d m n : ℕ) (old mid : Place) (r : Result A E) (new : Place) → d + m ≤ n → Stays old mid → Looks d old mid
    → Spends c k m mid r new → Spends c k n old r new
looks_then c k d m n old mid r new le stays looks h =
    keeps_more c k (total_before c k m mid) (total_before c k n old) r new (looks_leave c k d m n old mid le stays looks) h

-- looks, and then what takes none, such as a word that moves
pub looks_settle : {A E : Type 0} (c k d n : ℕ) (old mid : Place) (r : Result A E) (new : Place) → d ≤ n → Stays old mid → Looks d old mid
    → Settles c k mid r new → Spends c k n old r new
looks_settle c k d n old mid r new le stays looks h = keeps_more c k (total_behind c k mid) (total_before c k n old) r new
    (omega (arith, before_none c k mid, looks_leave c k d 0 n old mid (omega (arith, le)) stays looks)) h

-- or nothing else: a refusal, or an answer at the place itself
pub looks_refused : {A E : Type 0} (c k d n : ℕ) (old new : Place) (e : E) → d ≤ n → Stays old new → Looks d old new → Spends {A = A} c k n old (Err e) new
looks_refused c k d n old new e le stays looks =
    keeps_err c k (total_before c k n old) e new (omega (arith, turns_before c k 0 new, looks_leave c k d 0 n old new (omega (arith, le)) stays looks))

-- a member that looks at nothing, and what it holds
pub stays_then : {A E : Type 0} (c k m n : ℕ) (old mid : Place) (r : Result A E) (new : Place) → m ≤ n → Stays old mid → mid.turns ≤ old.turns
    → Spends c k m mid r new → Spends c k n old r new
stays_then c k m n old mid r new le stays same h =
    keeps_more c k (total_before c k m mid) (total_before c k n old) r new (omega (arith, before_same c k m old mid stays same, before_more c k m n old le)) h

-- a refusal by what scans what is left
pub scans_refused : {A E : Type 0} (c k d m : ℕ) (old new : Place) (e : E) → m ≤ 4 * suc k → d ≤ suc c + m → Scans d old new
    → Spends {A = A} c k m old (Err e) new
scans_refused c k d m old new e few le h = keeps_err c k (total_before c k m old) e new (scans_before c k d m old new few le h)

-- a refusal at the place itself, such as for want of levels or memory
pub refused_here : {A E : Type 0} (c k m : ℕ) (old new : Place) (e : E) → new.turns ≤ old.turns → Spends {A = A} c k m old (Err e) new
refused_here c k m old new e h = keeps_err c k (total_before c k m old) e new (omega (arith, turns_before c k m old, h))

-- ---- brackets

-- what stands in brackets, with gaps around it, and the closing one
pub brackets_settle : {A B E F : Type 0} (c k m : ℕ) (old inner mid new : Place) (a : A) (b : B) → m ≤ 4 * suc k → GoesOver 1 old inner → Enters old inner
    → Spends {E = E} c k m inner (Ok a) mid → GoesOver 1 mid new → Nears mid new → Settles {E = F} c k old (Ok b) new
brackets_settle c k m old inner mid new a b le over enters h on near = keeps_ok c k (total_behind c k old) b new
    (omega (arith, h.left, enters_allows c k m old inner le over enters, nears_settles c k 1 mid new (omega arith) on near))

-- what stands in them is refused
pub brackets_refused : {A B E F : Type 0} (c k m : ℕ) (old inner new : Place) (e : E) (f : F) → m ≤ 4 * suc k → GoesOver 1 old inner → Enters old inner
    → Spends {A = A} c k m inner (Err e) new → Settles {A = B} c k old (Err f) new
brackets_refused c k m old inner new e f le over enters h =
    keeps_err c k (total_behind c k old) f new (omega (arith, h.most, enters_allows c k m old inner le over enters))

-- or what follows it
pub brackets_open : {A B E F : Type 0} (c k m : ℕ) (old inner mid new : Place) (a : A) (f : F) → m ≤ 4 * suc k → GoesOver 1 old inner → Enters old inner
    → Spends {E = E} c k m inner (Ok a) mid → Scans 1 mid new → Settles {A = B} c k old (Err f) new
brackets_open c k m old inner mid new a f le over enters h scans = keeps_err c k (total_behind c k old) f new
    (omega (arith, h.left, enters_allows c k m old inner le over enters, scans_behind c k 1 mid new (omega arith) scans))

-- two steps at one rate
pub over_on : (c : ℕ) (old mid new : Place) → GoesOver c old mid → GoesOver c mid new → GoesOver c old new
over_on c old mid new h k = omega (arith, h, k)

-- ---- looks alone

-- the same place still
pub stays_on : (old mid new : Place) → Stays old mid → Stays mid new → Stays old new
stays_on old mid new h k = record { text = k.text ∙ h.text; rest = k.rest ∙ h.rest; token_start = k.token_start ∙ h.token_start; gap = k.gap ∙ h.gap }

-- looks, and then what scans from the same place
pub looks_scan : (c d : ℕ) (old mid new : Place) → Stays old mid → Looks c old mid → Scans d mid new → Scans (c + d) old new
looks_scan c d old mid new stays looks h =
    let same : d * bytes_in mid.rest ≡ d * bytes_in old.rest = ap (λ s. d * bytes_in s) stays.rest in
    omega (arith, looks, h, same)

-- a step, and what scans from there
pub goes_scan : (c : ℕ) (old mid new : Place) → GoesOver c old mid → Scans c mid new → Scans c old new
goes_scan c old mid new h k = omega (arith, h, k)

-- a trial that is given up, and another reading from its start
pub tried_again : (d f : ℕ) (start there back new : Place) → Scans d start there → Stays start back → back.turns ≡ there.turns → Scans f back new
    → Scans (d + f) start new
tried_again d f start there back new h stays e k =
    let same : f * bytes_in back.rest ≡ f * bytes_in start.rest = ap (λ s. f * bytes_in s) stays.rest in
    omega (arith, h, e, k, same)

-- ---- how many looks

-- Bare content at a chain of r members: one look each, those of a value without a schema, and as many for the first item that stands there.
pub bare_looks : (k r : ℕ) → r ≤ k → r + 2 + (k + 2) ≤ 4 * suc k
bare_looks k r h = omega (arith, h)

-- a bare option that is read as one, after a look
pub bare_again : (k r : ℕ) → 1 + (r + 2) ≤ r + 2 + (k + 2)
bare_again k r = omega arith

-- an item; and the first value of a text, where an option is looked for and then read as one
pub item_looks : (k r : ℕ) → r ≤ k → r + 3 ≤ 4 * suc k
item_looks k r h = omega (arith, h)

-- ---- without a schema

-- by the bytes alone: a second reading of a stretch, at its start
pub any_most : {A E : Type 0} (bare : Bool) (m : ℕ) (old : Place) (r : Result A E) (new : Place) → m ≤ 4 → StandsAs bare old → SpendsAny bare m old r new
    → new.turns ≤ old.turns + bytes_in old.gap + 6 * bytes_in old.rest
any_most bare m old r new le stands h = let s : Spends 1 0 m old r new = h stands 1 0 (omega arith) in
    omega (arith, s.most, before_most 1 0 m old (omega (arith, le)))

pub untyped_most : {A E : Type 0} (m : ℕ) (old : Place) (r : Result A E) (new : Place) → m ≤ 4 → IsReached old → SpendsUntyped m old r new
    → new.turns ≤ old.turns + bytes_in old.gap + 6 * bytes_in old.rest
untyped_most = any_most false

-- ---- raw texts

pub raw_typed : {A E : Type 0} (k m : ℕ) (old : Place) (r : Result A E) (new : Place) → SpendsRaw m old r new → SpendsTyped false k m old r new
raw_typed k m old r new h = λ reached. h reached paid_besides k (omega arith)

-- The gap before a raw text is looked through; a value is read, and the gap behind it; and what both are is looked through, read once more and kept, at sixteen
-- times their bytes.
module _ (c k m : ℕ) (room : raw_besides ≤ c) (old begun first behind : Place) (begins : Stays old begun) (gap : begun.turns ≤ old.turns + bytes_in old.gap)
    (reads : total_behind 1 k first ≤ total_before 1 k m begun) (over : GoesOver 1 first behind) (near : Nears first behind) where
  left_there : total_behind 1 k behind ≤ total_before 1 k m begun
  left_there = omega (arith, reads, nears_settles 1 k 1 first behind (omega arith) over near)

  begun_here : total_before 1 k m begun ≤ old.turns + 2 * bytes_in old.gap + allowed 1 k m old.rest
  unfolding total_before
  begun_here =
      let same : allowed 1 k m begun.rest ≡ allowed 1 k m old.rest = ap (allowed 1 k m) begins.rest in
      omega (arith, gap, same, ap bytes_in begins.gap)

  gaps : raw_besides * bytes_in old.gap ≤ c * bytes_in old.gap
  gaps = mul-le-mul_right (bytes_in old.gap) room

  pub raw_settles : (new : Place) → bytes_in behind.rest ≤ bytes_in old.rest → new.rest ≡ behind.rest
      → new.turns + 16 * bytes_in behind.rest ≤ behind.turns + 15 * bytes_in old.gap + 16 * bytes_in old.rest → total_behind c k new ≤ total_before c k m old
  unfolding total_behind total_before allowed settled
  raw_settles new less e h =
      let there : bytes_in new.rest ≡ bytes_in behind.rest = ap bytes_in e in
      let far : 4 * suc k * bytes_in (beyond new.rest) ≡ 4 * suc k * bytes_in (beyond behind.rest) = ap (λ s. 4 * suc k * bytes_in (beyond s)) e in
      let mine : suc c * bytes_in new.rest ≡ suc c * bytes_in behind.rest = ap (λ n. suc c * n) there in
      let besides : (c - 17) * bytes_in behind.rest ≤ (c - 17) * bytes_in old.rest = mul-le-mul_left (c - 17) less in
      let split : (c - 17) + 17 ≡ c = omega (arith, room) in
      let now : ((c - 17) + 17) * bytes_in behind.rest ≡ c * bytes_in behind.rest = ap (λ n. n * bytes_in behind.rest) split in
      let before : ((c - 17) + 17) * bytes_in old.rest ≡ c * bytes_in old.rest = ap (λ n. n * bytes_in old.rest) split in
      omega (arith, left_there, begun_here, gaps, h, far, mine, besides, now, before)

-- ---- a whole text

-- Making a reader: the table of kinds is counted at f times the text's bytes, and the head read.
pub made : (f n : ℕ) (first mid start : Place) → first.turns ≤ f * n → bytes_in first.rest ≤ n → GoesOver 2 first mid → GoesOver 1 mid start
    → bytes_in start.gap + bytes_in start.rest ≡ bytes_in mid.rest → start.turns + bytes_in start.gap + 2 * bytes_in start.rest ≤ (f + 2) * n
made f n first mid start filled size head over gap = omega (arith, filled, size, head, over, gap)

-- and of what is read from there, whatever it answers
pub read_bound : (k m n : ℕ) (start : Place) (t : ℕ) → m ≤ 4 * suc k → bytes_in start.gap + bytes_in start.rest ≤ n
    → start.turns + bytes_in start.gap + 2 * bytes_in start.rest ≤ 16 * n → t ≤ total_before paid_besides k m start → t ≤ 64 * (n + 1) * (k + 1)
read_bound k m n start t le size begun h =
    let far : 4 * suc k * bytes_in start.rest ≤ 4 * suc k * n = mul-le-mul_left (4 * suc k) (omega (arith, size)) in
    omega (arith, h, before_most paid_besides k m start le, far, size, begun)
