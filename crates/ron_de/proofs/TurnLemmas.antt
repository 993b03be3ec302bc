-- What reading by a schema adds to the count, a return at a time.
use Rattle.std.proofs.Common.{◌≡◌, ℕ, suc, ◌+◌, ◌*◌, ◌≤◌, Bool, true, false, cond, ◌∷◌, codes, drop, Option, Some, None, option_and_then, Result, Ok, Err, refl}
use Rattle.std.proofs.Common.{sym, ap, ◌∙◌, arith}
use Rattle.std.proofs.lemmas.Option.{same_Some}
use Rattle.ron_spec_words.specs.Beyond.{bytes_in, beyond}
use Rattle.ron_spec_words.specs.Characters.{Text}
use Rattle.ron_spec_words.specs.Directly.{stands}
use Rattle.ron_spec_words.specs.Exact.{FollowsValue}
use Rattle.ron_spec_words.specs.Gap.{skip, gap_of}
use Rattle.ron_spec_words.specs.Runs.{is_at}
use Rattle.ron_spec_words.specs.Openings.{Leads, same}
use Rattle.ron_spec_words.specs.Scan.{is_opening}
use Rattle.ron_spec_words.proofs.Leading.{leads_on}
use Rattle.ron_lex.specs.Place.{Place}
use Rattle.ron_lex.specs.Turns.{Stays, GoesOver, Looks, Scans}
use Rattle.ron_de_steps.specs.Steps.{past_comma, past_item, or_closed}
use Rattle.ron_de_steps.specs.Spends.{total_behind, total_before, KeepsTo, Spends, Settles, paid_besides, IsReached, SpendsTyped, SettlesTyped}
use Rattle.ron_de_steps.specs.Spends.{SpendsInsideTyped, Nears, Enters}
use Rattle.ron_de_steps.proofs.SpendLemmas.{behind_before, nears_settles, enters_allows, scans_behind, scans_inside}
use Rattle.ron_de_steps.proofs.NearLemmas.{gap_splits, mark_enters, mark_opens, mark_left_parenthesis, some_opens, past_comma_enters, past_comma_nears, IsMark}
use Rattle.ron_de_steps.proofs.LeadLemmas.{inside_mark, inside_opened, inside_some, opened_reached, stands_stays, reached_on, leads_past_comma, follows_comma}
use Rattle.ron_de_steps.proofs.KeepLemmas.{keeps_as, keeps_refused, keeps_but, keeps_err, keeps_more, keeps_then, keeps_ok, nears_then, enters_then, opens_then}
use Rattle.ron_de_steps.proofs.KeepLemmas.{inside_then, settles_spends, spends_more, looks_then, looks_settle, looks_refused, refused_here, over_on}

-- ---- answers, whatever is known before

module _ {P A E B F : Type 0} (k total : ℕ) where
  -- what is made of what was read, or a refusal of it
  pub made_turns : (new : Place) (a : A) (r : Result B F) → (P → KeepsTo {A = A} {E = E} paid_besides k total (Ok a) new) → P
      → KeepsTo paid_besides k total r new
  made_turns new a (Ok b) h = λ p. keeps_as paid_besides k total a b new (h p)
  made_turns new a (Err f) h = λ p. keeps_err paid_besides k total f new (h p).most

  pub refused_turns : (new : Place) (e : E) (f : F) → (P → KeepsTo {A = A} {E = E} paid_besides k total (Err e) new) → P
      → KeepsTo {A = B} {E = F} paid_besides k total (Err f) new
  refused_turns new e f h = λ p. keeps_refused paid_besides k total e f new (h p)

  -- behind what was read, what scans and is refused
  pub open_turns : (mid new : Place) (a : A) (f : F) → (P → KeepsTo {A = A} {E = E} paid_besides k total (Ok a) mid) → Scans 1 mid new → P
      → KeepsTo {A = B} {E = F} paid_besides k total (Err f) new
  open_turns mid new a f h scans = λ p. keeps_but paid_besides k total a f mid new (h p) (scans_behind paid_besides k 1 mid new (omega arith) scans)

  -- or a step, whatever comes of it
  pub moved_turns : (mid new : Place) (a : A) (r : Result B F) → (P → KeepsTo {A = A} {E = E} paid_besides k total (Ok a) mid) → GoesOver 1 mid new
      → Nears mid new → P → KeepsTo paid_besides k total r new
  moved_turns mid new a (Ok b) h over near =
      λ p. keeps_ok paid_besides k total b new (omega (arith, (h p).left, nears_settles paid_besides k 1 mid new (omega arith) over near))
  moved_turns mid new a (Err f) h over near =
      λ p. keeps_but paid_besides k total a f mid new (h p) (scans_behind paid_besides k 1 mid new (omega arith) (omega (arith, over)))

  -- or a step to before another value, and that
  pub entered_turns : (m : ℕ) (mid there : Place) (a : A) (r : Result B F) (new : Place) → m ≤ 4 * suc k
      → (P → KeepsTo {A = A} {E = E} paid_besides k total (Ok a) mid) → GoesOver 1 mid there → Enters mid there → (P → IsReached there)
      → SpendsTyped false k m there r new → P → KeepsTo paid_besides k total r new
  entered_turns m mid there a r new le h over enters reached s =
      λ p. keeps_then paid_besides k total a mid r new (h p) (enters_then paid_besides k m mid there r new le over enters (s (reached p)))

-- ---- looks, and members of a chain

module _ {P A E : Type 0} (k : ℕ) (old : Place) (r : Result A E) (new : Place) where
  pub settled_spent : (m : ℕ) → (P → Settles paid_besides k old r new) → P → Spends paid_besides k m old r new
  settled_spent m h = λ p. settles_spends paid_besides k m old r new (h p)

  pub spent_more : (m n : ℕ) → m ≤ n → (P → Spends paid_besides k m old r new) → P → Spends paid_besides k n old r new
  spent_more m n le h = λ p. spends_more paid_besides k m n old r new le (h p)

module _ {A E : Type 0} (k : ℕ) (old : Place) (r : Result A E) (new : Place) where
  -- a value that is read where bare content may stand
  pub opened_spent : (m n : ℕ) → m ≤ n → SpendsTyped false k m old r new → SpendsTyped true k n old r new
  opened_spent m n le h = λ o. spends_more paid_besides k m n old r new le (h (opened_reached old o))

  -- looks at the place, and then a value
  pub looked_spent : (bare : Bool) (d m n : ℕ) (mid : Place) → d + m ≤ n → Stays old mid → Looks d old mid → SpendsTyped bare k m mid r new
      → SpendsTyped bare k n old r new
  looked_spent bare d m n mid le stays looks h = λ s. looks_then paid_besides k d m n old mid r new le stays looks (h (stands_stays bare old mid stays s))

module _ {P A E : Type 0} (k m : ℕ) (old new : Place) (e : E) where
  -- a refusal at the place itself
  pub here_spent : new.turns ≤ old.turns → P → Spends {A = A} paid_besides k m old (Err e) new
  here_spent h = λ p. refused_here paid_besides k m old new e h

  pub look_spent : (d : ℕ) → d ≤ m → Stays old new → Looks d old new → P → Spends {A = A} paid_besides k m old (Err e) new
  look_spent d le stays looks = λ p. looks_refused paid_besides k d m old new e le stays looks

-- one look at an item's place, and then a refusal, or a step to before a value
module _ {A E : Type 0} (k : ℕ) (old looked : Place) (stays : Stays old looked) (looks : Looks 1 old looked) where
  pub look_refused : {P : Type 0} (new : Place) (e : E) → Scans 1 looked new → P → Spends {A = A} paid_besides k (k + 2) old (Err e) new
  look_refused new e scans = λ p. looks_settle paid_besides k 1 (k + 2) old looked (Err e) new (omega arith) stays looks
      (keeps_err paid_besides k (total_behind paid_besides k looked) e new (scans_behind paid_besides k 1 looked new (omega arith) scans))

  pub look_entered : (m : ℕ) (mid : Place) (r : Result A E) (new : Place) → m ≤ 4 * suc k → GoesOver 1 looked mid → Enters old mid
      → (IsReached old → IsReached mid) → SpendsTyped false k m mid r new → SpendsTyped false k (k + 2) old r new
  look_entered m mid r new le over enters reached h =
      let here : Enters looked mid = record {
        with_gap = omega (arith, enters.with_gap, ap bytes_in stays.rest);
        past = omega (arith, enters.past, ap (λ (t : Text). bytes_in (beyond t)) stays.rest);
      } in
      λ p. looks_settle paid_besides k 1 (k + 2) old looked r new (omega arith) stays looks
      (enters_then paid_besides k m looked mid r new le over here (h (reached p)))

-- ---- what begins with its own mark or name

-- nothing is gone over, or what moves alone
module _ {P A E : Type 0} (k : ℕ) (old : Place) (a : A) where
  pub none_settled : P → Settles {E = E} paid_besides k old (Ok a) old
  none_settled = λ p. keeps_ok paid_besides k (total_behind paid_besides k old) a old (omega arith)

  pub word_settled : (new : Place) → GoesOver 1 old new → Nears old new → P → Settles {E = E} paid_besides k old (Ok a) new
  word_settled new over near =
      λ p. keeps_ok paid_besides k (total_behind paid_besides k old) a new (nears_settles paid_besides k 1 old new (omega arith) over near)

module _ {P A E : Type 0} (k : ℕ) (old new : Place) (e : E) where
  pub scan_settled : Scans 1 old new → P → Settles {A = A} paid_besides k old (Err e) new
  scan_settled scans = λ p. keeps_err paid_besides k (total_behind paid_besides k old) e new (scans_behind paid_besides k 1 old new (omega arith) scans)

  pub step_settled : GoesOver 1 old new → P → Settles {A = A} paid_besides k old (Err e) new
  step_settled over = scan_settled (omega (arith, over))

module _ {A E : Type 0} (k : ℕ) (old mid : Place) (r : Result A E) (new : Place) where
  -- a step that nears, such as a name or a gap, and what stands behind it
  pub near_settled : GoesOver 1 old mid → Nears old mid → (IsReached old → IsReached mid) → SettlesTyped k mid r new → SettlesTyped k old r new
  near_settled over near reached h = λ p. nears_then paid_besides k 1 old mid r new (omega arith) over near (h (reached p))

  -- the opening parenthesis, and what stands behind it
  pub mark_settled : mid.text ≡ old.text → old.rest ≡ 40 ∷ mid.rest → GoesOver 1 old mid → SpendsInsideTyped k mid r new → SettlesTyped k old r new
  mark_settled e f over h =
      λ p. opens_then paid_besides k old mid r new over (mark_opens 40 old mid mark_left_parenthesis f) (h (inside_mark old mid e 40 refl f p))

  -- the word `Some`, a gap and the parenthesis
  pub some_settled : mid.text ≡ old.text → stands (codes "Some") old.rest ≡ true → skip (drop 4 old.rest) ≡ 40 ∷ mid.rest → GoesOver 1 old mid
      → SpendsInsideTyped k mid r new → SettlesTyped k old r new
  some_settled e s f over h = λ p. opens_then paid_besides k old mid r new over (some_opens old mid s f) (h (inside_some old mid e s f p))

  -- behind the mark: the gap, and what stands behind that
  pub gap_inside : (bare : Bool) (m : ℕ) → m ≤ 4 * suc k → mid.text ≡ old.text → mid.gap ≡ gap_of old.rest → mid.rest ≡ skip old.rest → GoesOver 1 old mid
      → SpendsTyped bare k m mid r new → SpendsInsideTyped k old r new
  gap_inside true m le t g w over h = λ p. inside_then paid_besides k m old mid r new le over (gap_splits old mid g w) (h (inside_opened old mid t w p))
  gap_inside false m le t g w over h =
      λ p. inside_then paid_besides k m old mid r new le over (gap_splits old mid g w) (h (opened_reached mid (inside_opened old mid t w p)))

pub scan_inside : {A E : Type 0} (k : ℕ) (old new : Place) (e : E) → Scans 1 old new → SpendsInsideTyped {A = A} k old (Err e) new
scan_inside k old new e scans = λ p. keeps_err paid_besides k _ e new (scans_inside paid_besides k 1 old new (omega arith) scans)

-- a mark, its gap, and what stands behind it
module _ {A E : Type 0} (k m : ℕ) (old taken inner : Place) (r : Result A E) (new : Place) where
  pub group_settled : (mark : ℕ) → IsMark mark → is_opening mark ≡ true → m ≤ 4 * suc k → taken.text ≡ old.text → inner.text ≡ taken.text
      → old.rest ≡ mark ∷ taken.rest → inner.gap ≡ gap_of taken.rest → inner.rest ≡ skip taken.rest → GoesOver 1 old taken → GoesOver 1 taken inner
      → SpendsTyped false k m inner r new → SettlesTyped k old r new
  group_settled mark is opens le t u e g w over on h = λ p.
      enters_then paid_besides k m old inner r new le (over_on 1 old taken inner over on) (mark_enters mark old taken inner is e g w)
      (h (opened_reached inner (inside_opened taken inner u w (inside_mark old taken t mark opens e p))))

-- ---- items in turn

-- what a comma behind an item, or the closing character, tells
record Passed (close : ℕ) (s g t : Text) : Type 0 where
  passed : Bool
  is : past_comma s ≡ Some (passed, (g, t))
  over : is_at close t ≡ false → passed ≡ true

passed_at : (close : ℕ) (s g t : Text) → past_item close s ≡ Some (g, t) → Passed close s g t
passed_at close s g t e = go (past_comma s) refl e
  where
    closed : (b : Bool) (there : Text × Text) → is_at close there.1 ≡ b → past_comma s ≡ Some (false, there) → cond b (Some there) None ≡ Some (g, t)
        → Passed close s g t
    closed true there m h k =
        let same : there ≡ (g, t) = same_Some there (g, t) k in
        record {
          passed = false;
          is = h ∙ ap (λ (z : Text × Text). Some (false, z)) same;
          over = λ n. absurd (let q : true ≡ false = sym m ∙ ap (λ (z : Text × Text). is_at close z.1) same ∙ n in cc);
        }
    closed false there m h k = absurd (cc)

    go : (o : Option (Bool × (Text × Text))) → past_comma s ≡ o → option_and_then (λ p. or_closed close p.0 p.1) o ≡ Some (g, t) → Passed close s g t
    go None h k = absurd (cc)
    go (Some (true, there)) h k = record { passed = true; is = h ∙ ap (λ (z : Text × Text). Some (true, z)) (same_Some there (g, t) k); over = λ n. refl }
    go (Some (false, there)) h k = closed (is_at close there.1) there refl h k

-- No more is counted than is allowed where the items begin; and where another follows, whole tokens lead on to it, and no more is counted with what is allowed
-- before it.
pub record CountsTo (k close : ℕ) (old now : Place) : Type 0 where
  pub text : now.text ≡ old.text
  pub leads : is_at close now.rest ≡ false → Leads old.rest now.rest
  pub next : is_at close now.rest ≡ false → IsReached old → total_before paid_besides k (k + 2) now ≤ total_before paid_besides k (k + 2) old
  pub done : IsReached old → total_behind paid_besides k now ≤ total_before paid_besides k (k + 2) old

pub counts_begin : (k close : ℕ) (old : Place) → CountsTo k close old old
counts_begin k close old = record { text = refl; leads = λ n. same old.rest; next = λ n p. omega arith; done = λ p. behind_before paid_besides k (k + 2) old }

module _ {k close : ℕ} {old now : Place} (h : CountsTo k close old now) where
  pub counts_end : {A E : Type 0} (a : A) → SpendsTyped {E = E} false k (k + 2) old (Ok a) now
  counts_end a = λ p. keeps_ok paid_besides k (total_before paid_besides k (k + 2) old) a now (h.done p)

  module _ (still : is_at close now.rest ≡ false) where
    counts_reached : IsReached old → IsReached now
    counts_reached p = reached_on old now h.text (h.leads still) p

    pub counts_item : {A E : Type 0} (r : Result A E) (new : Place) → SpendsTyped false k (k + 2) now r new → SpendsTyped false k (k + 2) old r new
    counts_item r new s = λ p. keeps_more paid_besides k (total_before paid_besides k (k + 2) now) (total_before paid_besides k (k + 2) old) r new
        (h.next still p) (s (counts_reached p))

    pub counts_on : {A E : Type 0} (a : A) (mid next : Place) → SpendsTyped {A = A} {E = E} false k (k + 2) now (Ok a) mid → mid.text ≡ now.text
        → (FollowsValue mid.rest → Leads now.rest mid.rest) → GoesOver 1 mid next → next.text ≡ mid.text → past_item close mid.rest ≡ Some (next.gap, next.rest)
        → CountsTo k close old next
    counts_on {A} {E} a mid next s here leads over text e =
        let z = passed_at close mid.rest next.gap next.rest e in
        let comma : is_at close next.rest ≡ false
        → past_comma mid.rest ≡ Some (true, (next.gap, next.rest)) = λ n. z.is ∙ ap (λ b. Some (b, (next.gap, next.rest))) (z.over n) in
        record {
          text = text ∙ here ∙ h.text;
          leads = λ n.
              leads_on (h.leads still) (leads_on (leads (follows_comma mid.rest (next.gap, next.rest) (comma n))) (leads_past_comma mid next true (comma n)));
          next = λ n p. omega (
            arith,
            (counts_item {A = A} {E = E} (Ok a) mid s p).left,
            enters_allows paid_besides k (k + 2) mid next (omega arith) over (past_comma_enters mid next (comma n)),
          );
          done = λ p. omega (
            arith,
            (counts_item {A = A} {E = E} (Ok a) mid s p).left,
            nears_settles paid_besides k 1 mid next (omega arith) over (past_comma_nears z.passed mid next z.is),
          );
        }
