-- What reading without a schema adds to the count of turns, a return at a time.
use Rattle.std.proofs.Common.{◌≡◌, ℕ, ◌≤◌, ◌+◌, not, is_some, Bool, true, false, codes, ◌++◌, Option, Some, None, MatchOption, Result, Ok, Err, MatchBool, refl}
use Rattle.std.proofs.Common.{sym, ap, subst, ◌∙◌, arith}
use Rattle.std.proofs.lemmas.Bool.{and_parts}
use Rattle.ron_spec_words.specs.Characters.{Text}
use Rattle.ron_spec_words.specs.Gap.{skip}
use Rattle.ron_spec_words.specs.Reader.{got, failed, bad}
use Rattle.ron_spec_words.specs.Runs.{is_at, begins_with}
use Rattle.ron_spec_words.specs.Name.{untyped_name}
use Rattle.ron_spec_words.specs.Exact.{FollowsValue}
use Rattle.ron_spec_words.specs.Openings.{Leads}
use Rattle.ron_spec_words.specs.Scan.{is_opening}
use Rattle.ron_spec_words.proofs.Leading.{leads_on}
use Rattle.ron_spec_words.proofs.Sizes.{beyond_no_more}
use Rattle.ron_base.specs.declared.error.Error.{Error}
use Rattle.ron_lex.specs.Place.{Place}
use Rattle.ron_lex.specs.Turns.{Stays, GoesOver, Looks, Scans}
use Rattle.ron_de_steps.specs.Spends.{total_behind, total_before, IsReached, IsOpened, SpendsAny, SpendsUntyped, SettlesUntyped, Nears, Enters}
use Rattle.ron_de_steps.specs.Steps.{past_comma, past_colon}
use Rattle.ron_de_steps.proofs.SpendLemmas.{before_none, behind_before, turns_behind, nears_settles, enters_allows, looks_leave, scans_behind}
use Rattle.ron_de_steps.proofs.NearLemmas.{gap_nears, untyped_name_nears, unit_nears, some_nears, past_comma_enters, past_comma_nears, mark_left_parenthesis}
use Rattle.ron_de_steps.proofs.NearLemmas.{mark_right_parenthesis, mark_left_bracket, mark_right_bracket, mark_left_brace, mark_right_brace, IsMark}
use Rattle.ron_de_steps.proofs.KeepLemmas.{keeps_ok, keeps_err, keeps_more, settles_spends, spends_more, looks_then, looks_settle, refused_here, scans_refused}
use Rattle.ron_de_steps.proofs.KeepLemmas.{stays_then, tried_again, looks_scan, brackets_refused, brackets_open, brackets_settle}
use Rattle.ron_de_steps.proofs.LeadLemmas.{leads_past_colon, reached_on, reached_stays, reached_comma, reached_colon, opened_reached, stands_reached}
use Rattle.ron_de_steps.proofs.LeadLemmas.{follows_comma, follows_colon}
use Rattle.ron_de_untyped.specs.Comma.{FollowsBy}
use Rattle.ron_de_untyped.specs.Count.{PassesWord, PassesUntyped}
use Rattle.ron_de_untyped.specs.declared.groups.Brackets.{Brackets}
use Rattle.ron_de_untyped.specs.declared.groups.Brackets.TheVariants as brackets
use Rattle.ron_de_untyped.specs.Group.{open_mark, close_mark}

-- ---- answers

-- what is made of what was read, or a refusal of it
pub spent_as : {A B E F : Type 0} (m : ℕ) (old new : Place) (a : A) (r : Result B F) → SpendsUntyped {A = A} {E = E} m old (Ok a) new
    → SpendsUntyped m old r new
spent_as m old new a (Ok b) h = λ reached c k i. let s = h reached c k i in record { most = s.most; left = s.left }
spent_as m old new a (Err f) h = λ reached c k i. let s = h reached c k i in record { most = s.most; left = tt }

pub spent_not : {A B E F : Type 0} (bare : Bool) (m : ℕ) (old new : Place) (e : E) (f : F) → SpendsAny {A = A} {E = E} bare m old (Err e) new
    → SpendsAny {A = B} {E = F} bare m old (Err f) new
spent_not bare m old new e f h = λ stands c k i. let s = h stands c k i in record { most = s.most; left = tt }

-- a refusal at the place itself
pub spent_nothing : {A E : Type 0} (bare : Bool) (m : ℕ) (old : Place) (e : E) → SpendsAny {A = A} bare m old (Err e) old
spent_nothing bare m old e = λ stands c k i. refused_here c k m old old e (omega arith)

-- nothing is read, and nothing gone over
pub spent_none : {A E : Type 0} (bare : Bool) (m : ℕ) (old : Place) (a : A) → SpendsAny {E = E} bare m old (Ok a) old
spent_none bare m old a = λ stands c k i. keeps_ok c k (total_before c k m old) a old (behind_before c k m old)

pub settled_spent : {A E : Type 0} (m : ℕ) (old : Place) (r : Result A E) (new : Place) → SettlesUntyped old r new → SpendsUntyped m old r new
settled_spent m old r new h = λ reached c k i. settles_spends c k m old r new (h reached c k i)

-- behind an opening bracket whole tokens lead too
pub opened_spent : {A E : Type 0} (bare : Bool) (m n : ℕ) (old : Place) (r : Result A E) (new : Place) → m ≤ n → SpendsAny bare m old r new
    → SpendsAny true n old r new
opened_spent true m n old r new le h = λ opened c k i. spends_more c k m n old r new le (h opened c k i)
opened_spent false m n old r new le h = λ opened c k i. spends_more c k m n old r new le (h (opened_reached old opened) c k i)

-- ---- looks

-- looks at the place, and then a value
pub looked_spent : {A E : Type 0} (bare : Bool) (d m n : ℕ) (old mid : Place) (r : Result A E) (new : Place) → d + m ≤ n → Stays old mid → Looks d old mid
    → SpendsUntyped m mid r new → SpendsAny bare n old r new
looked_spent bare d m n old mid r new le s l h =
    λ stands c k i. looks_then c k d m n old mid r new le s l (h (reached_stays old mid s (stands_reached bare old stands)) c k i)

pub looked_settled : {A E : Type 0} (d n : ℕ) (old mid : Place) (r : Result A E) (new : Place) → d ≤ n → Stays old mid → Looks d old mid
    → SettlesUntyped mid r new → SpendsUntyped n old r new
looked_settled d n old mid r new le s l h = λ reached c k i. looks_settle c k d n old mid r new le s l (h (reached_stays old mid s reached) c k i)

-- The kind of what stands behind a bracket is known at no cost.
module _ (old mid : Place) (s : Stays old mid) (l : IsOpened old → mid.turns ≤ old.turns) where
  pub told_spent : {A E : Type 0} (r : Result A E) (new : Place) → SpendsUntyped 2 mid r new → SpendsAny true 2 old r new
  told_spent r new h =
      λ opened c k i. stays_then c k 2 2 old mid r new (omega arith) s (l opened) (h (reached_stays old mid s (opened_reached old opened)) c k i)

  pub told_refused : {A E : Type 0} (e : E) → SpendsAny {A = A} true 2 old (Err e) mid
  told_refused e = λ opened c k i. refused_here c k 2 old mid e (l opened)

-- ---- words

-- what moves over a word
pub word_settled : {A E : Type 0} (d : ℕ) (old new : Place) (a : A) → d ≤ 2 → GoesOver d old new → Nears old new → SettlesUntyped {E = E} old (Ok a) new
word_settled d old new a le h near = λ reached c k i. keeps_ok c k (total_behind c k old) a new (nears_settles c k d old new (omega (arith, le, i)) h near)

pub scan_settled : {A E : Type 0} (d : ℕ) (old new : Place) (e : E) → d ≤ 2 → Scans d old new → SettlesUntyped {A = A} old (Err e) new
scan_settled d old new e le h = λ reached c k i. keeps_err c k (total_behind c k old) e new (scans_behind c k d old new (omega (arith, le, i)) h)

-- a word, and what is made of it
pub settled_so : {A E : Type 0} (d : ℕ) (old new : Place) (r : Result A E) → d ≤ 2 → GoesOver d old new → Nears old new → SettlesUntyped old r new
settled_so d old new (Ok a) le h near = word_settled d old new a le h near
settled_so d old new (Err e) le h near = λ reached c k i. let s = nears_settles c k d old new (omega (arith, le, i)) h near in
    keeps_err c k (total_behind c k old) e new (omega (arith, s, turns_behind c k new))

-- a name that isn't there, and what is told of it
pub look_scan_settled : {A E : Type 0} (old mid new : Place) (e : E) → Stays old mid → Looks 1 old mid → Scans 1 mid new
    → SettlesUntyped {A = A} old (Err e) new
look_scan_settled old mid new e s l h = scan_settled 2 old new e (omega arith) (looks_scan 1 1 old mid new s l h)

-- a place without a look
pub looks_here : (old new : Place) → new ≡ old → Looks 1 old new
looks_here old new e = subst (λ (p : Place). Looks 1 p new) e (omega (arith, beyond_no_more new.rest))

pub unit_taken : (b : Bool) (old new : Place) → GoesOver 1 old new
    → MatchBool b (old.rest ≡ codes "()" ++ new.rest) ((begins_with (codes "()") old.rest ≡ false) × (new ≡ old)) → MatchBool b (PassesWord old new) (new ≡ old)
unit_taken true old new h e = record { over = h; near = unit_nears old new e }
unit_taken false old new h e = e.1

pub some_taken : (b : Bool) (old new : Place) → GoesOver 1 old new → MatchBool b (old.rest ≡ codes "Some" ++ new.rest) (new ≡ old)
    → MatchBool b (PassesWord old new) (new ≡ old)
some_taken true old new h e = record { over = h; near = some_nears old new e }
some_taken false old new h e = e

-- a name, where one is looked for
pub name_scans : {N : Type 0} (r : Option N) (old new : Place) → MatchOption r (Looks 1 old new) (λ _. GoesOver 1 old new) → Scans 1 old new
name_scans None old new h = omega (arith, h)
name_scans (Some n) old new h = omega (arith, h)

pub name_word : {N : Type 0} (r : Option N) (old new : Place) (view : N → Text) → is_some r ≡ true
    → MatchOption r ((untyped_name old.rest ≡ failed bad) × Stays old new) (λ n. untyped_name old.rest ≡ got (view n) new.rest)
    → MatchOption r (Looks 1 old new) (λ _. GoesOver 1 old new) → PassesWord old new
name_word None old new view is v h = absurd (cc)
name_word (Some n) old new view is v h = record { over = h; near = untyped_name_nears (view n) old new v }

-- a fixed word behind others that don't stand there
pub word_from : (old mid new : Place) → mid ≡ old → PassesWord mid new → PassesWord old new
word_from old mid new e h = subst (λ (p : Place). PassesWord p new) e h

-- what is read at the same place, where a word isn't
pub settled_from : {A E : Type 0} (old mid : Place) (r : Result A E) (new : Place) → mid ≡ old → SettlesUntyped mid r new → SettlesUntyped old r new
settled_from old mid r new e h = subst (λ (p : Place). SettlesUntyped p r new) e h

-- ---- words before what they hold

pub pass_word : (m n : ℕ) (old mid new : Place) → PassesWord old mid → GoesOver 1 mid new → new.rest ≡ skip mid.rest → PassesUntyped m n old (Ok true) new
pass_word m n old mid new h over e = λ c k i. omega (
  arith,
  nears_settles c k 1 mid new (omega arith) over (gap_nears mid new e),
  nears_settles c k 1 old mid (omega arith) h.over h.near,
  behind_before c k m old,
)

pub pass_open : (m n : ℕ) (old mid new : Place) (e : Error) → PassesWord old mid → Scans 1 mid new → PassesUntyped m n old (Err e) new
pass_open m n old mid new e h scans =
    λ c k i. omega (arith, scans_behind c k 1 mid new (omega arith) scans, nears_settles c k 1 old mid (omega arith) h.over h.near, behind_before c k m old)

-- likewise behind a look
pub look_none : (old mid : Place) → Stays old mid → Looks 1 old mid → PassesUntyped 1 0 old (Ok false) mid
look_none old mid s l = λ c k i. looks_leave c k 1 0 1 old mid (omega arith) s l

module _ (old mid : Place) (s : Stays old mid) (l : Looks 1 old mid) where
  looked : (c k : ℕ) → total_behind c k mid ≤ total_before c k 1 old
  looked c k = omega (arith, before_none c k mid, looks_leave c k 1 0 1 old mid (omega arith) s l)

  pub look_word : (there new : Place) → PassesWord mid there → GoesOver 1 there new → new.rest ≡ skip there.rest → PassesUntyped 1 0 old (Ok true) new
  look_word there new h over e = λ c k i. omega (
    arith,
    nears_settles c k 1 there new (omega arith) over (gap_nears there new e),
    nears_settles c k 1 mid there (omega arith) h.over h.near,
    looked c k,
  )

  pub look_open : (there new : Place) (e : Error) → PassesWord mid there → Scans 1 there new → PassesUntyped 1 0 old (Err e) new
  look_open there new e h scans =
      λ c k i. omega (arith, scans_behind c k 1 there new (omega arith) scans, nears_settles c k 1 mid there (omega arith) h.over h.near, looked c k)

  pub look_refused : (new : Place) (e : Error) → Scans 1 mid new → PassesUntyped 1 0 old (Err e) new
  look_refused new e scans = λ c k i. omega (arith, scans_behind c k 1 mid new (omega arith) scans, looked c k)

-- ---- a value that begins with a word

-- what is allowed at the one place with a look left, is allowed at the other
abbrev pub Leaves : ℕ → Place → Place → Type 0
Leaves n old new = (c k : ℕ) → 1 ≤ c → total_before c k n new ≤ total_before c k 1 old

pub leaves_same : (old mid : Place) → mid ≡ old → Leaves 1 old mid
leaves_same old mid e = subst (λ (p : Place). Leaves 1 p mid) e (λ c k i. omega arith)

pub leaves_on : (n : ℕ) (old mid new : Place) (b : Bool) → b ≡ false → Leaves 1 old mid → PassesUntyped 1 n mid (Ok b) new → Leaves n old new
leaves_on n old mid new true e h p = absurd (cc)
leaves_on n old mid new false e h p = λ c k i. omega (arith, h c k i, p c k i)

pub word_refused : {A : Type 0} (n : ℕ) (old mid new : Place) (e f : Error) → Leaves 1 old mid → PassesUntyped 1 n mid (Err e) new
    → SpendsUntyped {A = A} 1 old (Err f) new
word_refused n old mid new e f h p = λ reached c k i. keeps_err c k (total_before c k 1 old) f new (omega (arith, h c k i, p c k i))

pub word_held : {A E : Type 0} (n : ℕ) (old mid there : Place) (b : Bool) (r : Result A E) (new : Place) → b ≡ true → Leaves 1 old mid
    → PassesUntyped 1 n mid (Ok b) there → (IsReached old → IsReached there) → SettlesUntyped there r new → SpendsUntyped 1 old r new
word_held n old mid there true r new e h p on s =
    λ reached c k i. keeps_more c k (total_behind c k there) (total_before c k 1 old) r new (omega (arith, h c k i, p c k i)) (s (on reached) c k i)
word_held n old mid there false r new e h p on s = absurd (cc)

pub word_else : {A E : Type 0} (old mid : Place) (r : Result A E) (new : Place) → Leaves 0 old mid → (IsReached old → IsReached mid) → SettlesUntyped mid r new
    → SpendsUntyped 1 old r new
word_else old mid r new h on s =
    λ reached c k i. keeps_more c k (total_behind c k mid) (total_before c k 1 old) r new (omega (arith, h c k i, before_none c k mid)) (s (on reached) c k i)

-- where whole tokens lead over a word that stands there
pub word_reached : (old mid there : Place) → mid ≡ old → there.text ≡ mid.text → Leads mid.rest there.rest → IsReached old → IsReached there
word_reached old mid there e t l r = reached_on mid there t l (subst (λ (p : Place). IsReached p) (sym e) r)

-- ---- steps behind a value

pub spent_open : {A B E F : Type 0} (bare : Bool) (m : ℕ) (old mid new : Place) (a : A) (f : F) → SpendsAny {E = E} bare m old (Ok a) mid → Scans 1 mid new
    → SpendsAny {A = B} bare m old (Err f) new
spent_open bare m old mid new a f h scans =
    λ stands c k i. keeps_err c k (total_before c k m old) f new (omega (arith, (h stands c k i).left, scans_behind c k 1 mid new (omega arith) scans))

pub spent_moved : {A B E F : Type 0} (bare : Bool) (m : ℕ) (old mid new : Place) (a : A) (b : B) → SpendsAny {E = E} bare m old (Ok a) mid → GoesOver 1 mid new
    → Nears mid new → SpendsAny {E = F} bare m old (Ok b) new
spent_moved bare m old mid new a b h over near =
    λ stands c k i. keeps_ok c k (total_before c k m old) b new (omega (arith, (h stands c k i).left, nears_settles c k 1 mid new (omega arith) over near))

pub spent_entered : {A B E F : Type 0} (m : ℕ) (old mid there : Place) (a : A) (r : Result B F) (new : Place) → SpendsUntyped {E = E} m old (Ok a) mid
    → GoesOver 1 mid there → Enters mid there → (IsReached old → IsReached there) → SpendsUntyped 2 there r new → SpendsUntyped m old r new
spent_entered m old mid there a r new h over e on s = λ reached c k i. keeps_more c k (total_before c k 2 there) (total_before c k m old) r new
    (omega (arith, (h reached c k i).left, enters_allows c k 2 mid there (omega arith) over e)) (s (on reached) c k i)

-- behind a key, the colon and its gap
pub colon_reached : (old mid there : Place) → mid.text ≡ old.text → there.text ≡ mid.text → (FollowsValue mid.rest → Leads old.rest mid.rest)
    → past_colon mid.rest ≡ Some (there.gap, there.rest) → IsReached old → IsReached there
colon_reached old mid there same on leads e r =
    reached_colon mid there on e (reached_on old mid same (leads (follows_colon mid.rest (there.gap, there.rest) e)) r)

-- an entry: a key, a colon, and a value
pub entry_leads : (old mid there new : Place) → (FollowsValue mid.rest → Leads old.rest mid.rest) → past_colon mid.rest ≡ Some (there.gap, there.rest)
    → (FollowsValue new.rest → Leads there.rest new.rest) → FollowsValue new.rest → Leads old.rest new.rest
entry_leads old mid there new key e value f =
    leads_on (key (follows_colon mid.rest (there.gap, there.rest) e)) (leads_on (leads_past_colon mid there e) (value f))

-- ---- brackets

pub opens_group : (b : Brackets) → is_opening (open_mark b) ≡ true
opens_group brackets.List = refl
opens_group brackets.Map = refl
opens_group brackets.Group = refl

pub is_open : (b : Brackets) → IsMark (open_mark b)
is_open brackets.List = mark_left_bracket
is_open brackets.Map = mark_left_brace
is_open brackets.Group = mark_left_parenthesis

pub is_close : (b : Brackets) → IsMark (close_mark b)
is_close brackets.List = mark_right_bracket
is_close brackets.Map = mark_right_brace
is_close brackets.Group = mark_right_parenthesis

-- behind the opening bracket and its gap, and what stands there
module _ (old inner : Place) (over : GoesOver 1 old inner) (enters : Enters old inner) (opens : IsReached old → IsOpened inner) where
  pub group_refused : {A B E F : Type 0} (new : Place) (e : E) (f : F) → SpendsAny {A = A} true 3 inner (Err e) new → SettlesUntyped {A = B} old (Err f) new
  group_refused new e f h = λ reached c k i. brackets_refused c k 3 old inner new e f (omega arith) over enters (h (opens reached) c k i)

  pub group_open : {A B E F : Type 0} (mid new : Place) (a : A) (f : F) → SpendsAny {E = E} true 3 inner (Ok a) mid → Scans 1 mid new
      → SettlesUntyped {A = B} old (Err f) new
  group_open mid new a f h scans = λ reached c k i. brackets_open c k 3 old inner mid new a f (omega arith) over enters (h (opens reached) c k i) scans

  pub group_settled : {A B E F : Type 0} (mid new : Place) (a : A) (b : B) → SpendsAny {E = E} true 3 inner (Ok a) mid → GoesOver 1 mid new → Nears mid new
      → SettlesUntyped {E = F} old (Ok b) new
  group_settled mid new a b h on near = λ reached c k i. brackets_settle c k 3 old inner mid new a b (omega arith) over enters (h (opens reached) c k i) on near

-- ---- items in turn

-- No more is counted than is allowed where the items begin. Where another follows, whole tokens lead to it, and what is allowed before it is counted too.
pub record CountsTo (more : Bool) (old now : Place) : Type 0 where
  pub next : (c k : ℕ) → 1 ≤ c → more ≡ true → IsReached old → total_before c k 2 now ≤ total_before c k 2 old
  pub done : (c k : ℕ) → 1 ≤ c → IsReached old → total_behind c k now ≤ total_before c k 2 old
  pub reached : more ≡ true → IsReached old → IsReached now

pub counts_begin : (more : Bool) (old : Place) → CountsTo more old old
counts_begin more old = record { next = λ c k i e r. omega arith; done = λ c k i r. behind_before c k 2 old; reached = λ e r. r }

module _ {more : Bool} {old now : Place} (h : CountsTo more old now) where
  pub counts_end : {A E : Type 0} (a : A) → SpendsUntyped {E = E} 2 old (Ok a) now
  counts_end a = λ reached c k i. keeps_ok c k (total_before c k 2 old) a now (h.done c k i reached)

  module _ (is : more ≡ true) where
    pub counts_item : {A E : Type 0} (r : Result A E) (new : Place) → SpendsUntyped 2 now r new → SpendsUntyped 2 old r new
    counts_item r new s =
        λ reached c k i. keeps_more c k (total_before c k 2 now) (total_before c k 2 old) r new (h.next c k i is reached) (s (h.reached is reached) c k i)

    pub counts_on : {A E : Type 0} (close : ℕ) (a : A) (mid next : Place) (again : Bool) → SpendsUntyped {E = E} 2 now (Ok a) mid → mid.text ≡ now.text
        → (FollowsValue mid.rest → Leads now.rest mid.rest) → GoesOver 1 mid next → next.text ≡ mid.text → FollowsBy close (past_comma mid.rest) again next
        → CountsTo again old next
    counts_on {A = A} {E = E} close a mid next again s same leads over on f = record {
      next = λ c k i e r. omega (
        arith,
        (counts_item {A = A} {E = E} (Ok a) mid s r c k i).left,
        enters_allows c k 2 mid next (omega arith) over (past_comma_enters mid next (comma e)),
      );
      done = λ c k i r. omega (
        arith,
        (counts_item {A = A} {E = E} (Ok a) mid s r c k i).left,
        nears_settles c k 1 mid next (omega arith) over (past_comma_nears f.passed mid next f.is),
      );
      reached = λ e r.
          reached_comma mid next on true (comma e) (reached_on now mid same (leads (follows_comma mid.rest (next.gap, next.rest) (comma e))) (h.reached is r));
    }
      where
        comma : again ≡ true → past_comma mid.rest ≡ Some (true, (next.gap, next.rest))
        comma e = f.is ∙ ap (λ b. Some (b, (next.gap, next.rest))) (and_parts f.passed (not (is_at close next.rest)) (sym f.more_is ∙ e)).0

-- ---- ranges

-- a start that doesn't fit: the place is gone back to, and the start read once more
pub unfit_spent : {A : Type 0} (old there back new : Place) (e : Error) → Scans 2 old there → Stays old back → back.turns ≡ there.turns → Scans 2 back new
    → SpendsUntyped {A = A} 2 old (Err e) new
unfit_spent old there back new e h s m n =
    λ reached c k i. scans_refused c k 4 2 old new e (omega arith) (omega (arith, i)) (tried_again 2 2 old there back new h s m n)
