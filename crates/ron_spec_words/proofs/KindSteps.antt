-- What one token tells of the kinds of the groups that are open.
use Rattle.std.proofs.Common.{◌≡◌, ℕ, zero, suc, ◌-◌, ◌==◌, nat_lt, lt-ltb, Bool, true, false, cond, if◌then◌else◌, length, [], ◌∷◌, ◌++◌, Option, Some, None}
use Rattle.std.proofs.Common.{refl, sym, ap, ap₂, ◌∙◌, length-append, arith, eqb-true}
use Rattle.std.proofs.lemmas.Bool.{or_parts}
use Rattle.ron_spec_words.specs.Characters.{Text, is_blank}
use Rattle.ron_spec_words.specs.Runs.{begins, is_at}
use Rattle.ron_spec_words.specs.Gap.{skip, gap_of}
use Rattle.ron_spec_words.specs.Reader.{Got, got, failed}
use Rattle.ron_spec_words.specs.Name.{Name, name}
use Rattle.ron_spec_words.specs.Scan.{starts_gap, past_gap, starts_run, token, is_opening, is_closing, level, ends, here, on}
use Rattle.ron_spec_words.specs.Lookahead.{leads_to, opens_field, seek, separates}
use Rattle.ron_spec_words.specs.Kind.{Kind, named_fields, many_items, newtype_item, broken, kind_at}
use Rattle.ron_spec_words.specs.KindTable.{Stage, behind_opening, behind_name, elsewhere, stands_name, past_word, next_stage, names_field, settle, told}
use Rattle.ron_spec_words.proofs.Gaps.{cut, skip-end, skip-other, skip-skip}
use Rattle.ron_spec_words.proofs.Words.{First}
use Rattle.ron_spec_words.proofs.Names.{word_name, first_name}
use Rattle.ron_spec_words.proofs.Classes.{apart, no_blank}
use Rattle.ron_spec_words.proofs.Tokens.{starts_clear}
use Rattle.ron_spec_words.proofs.TokenRuns.{token_name}
use Rattle.ron_spec_words.proofs.Fronts.{token_front}
use Rattle.ron_spec_words.proofs.Walks.{is_other, run_other, gap_other, closing_alone, comma_alone, colon_alone, closing_no_opening, goes_on}
use Rattle.ron_spec_words.proofs.Lookahead.{seek-walk, seek-end}

-- ---- what a token leaves

-- a token's characters behind its first
pub record Taken (s rest : Text) : Type 0 where
  pub more : Text
  pub split : s ≡ more ++ rest
  pub count : length s - length rest ≡ length more

pub taken : (c : ℕ) (s rest : Text) → token (c ∷ s) ≡ Some rest → Taken s rest
taken c s rest h =
    let f = token_front (c ∷ s) rest h in
    let same : s ≡ f.1 ++ rest = let g = f.2 in cc in
    record { more = f.1; split = same; count = omega (arith, ap length same, length-append f.1 rest) }

-- the lookahead behind a token that ends nothing
pub seek_over : (d c : ℕ) (s rest : Text) → ends false d c ≡ false → token (c ∷ s) ≡ Some rest → seek zero d (c ∷ s) ≡ seek zero (level d c) rest
seek_over d c s rest e h =
    let k = taken c s rest h in
    let h' : token (c ∷ (k.more ++ rest)) ≡ Some rest = ap (λ u. token (c ∷ u)) (sym k.split) ∙ h in
    ap (λ u. seek zero d (c ∷ u)) k.split ∙ seek-walk (on d c k.more rest (level d c) rest e h' (here (level d c) rest))

-- ---- names

no_name_if : (p : Text → Bool) → First (λ s. p s ≡ true) Name → (s : Text) → p s ≡ false → stands_name s ≡ false
no_name_if p h s e = go (name s) refl
  where
    go : (o : Got Text) → name s ≡ o → (elim o [ got n rest ↦ true | failed f ↦ false ]) ≡ false
    go (failed f) k = refl
    go (got n rest) k =
        let x = word_name.sound s n rest k in
        absurd (let z : false ≡ true = sym e ∙ ap p x.split ∙ h.holds x.stretch rest n x.spelled in cc)

-- at a bracket and a comma none stands
no_name : (c : ℕ) (s : Text) → is_other c ≡ false → stands_name (c ∷ s) ≡ false
no_name c s e = no_name_if (begins is_other) (first_name _ (λ s. refl) (λ c s k. run_other c (rw k refl))) (c ∷ s) e

pub run_no_gap : (c : ℕ) → starts_run c ≡ true → starts_gap c ≡ false
run_no_gap c h = rw (no_blank starts_run starts_clear c h, apart starts_run 47 c starts_clear.slash h) refl

-- where no name stands, no field is opened
no_field : (s : Text) → stands_name s ≡ false → opens_field s ≡ false
unfolding opens_field
no_field s e = go (name s) e
  where
    go : (o : Got Text) → (elim o [ got n rest ↦ true | failed f ↦ false ]) ≡ false → leads_to 58 o ≡ false
    go (got n rest) k = absurd (cc)
    go (failed f) k = refl

pub some_same : {u v : Text} → ◌≡◌ {A = Option Text} (Some u) (Some v) → u ≡ v
some_same e = cc

-- a name is the token that stands there
name_is_token : (s n rest next : Text) → name s ≡ got n rest → token s ≡ Some next → rest ≡ next
name_is_token s n rest next k h =
    let x = word_name.sound s n rest k in
    some_same (sym (ap token x.split ∙ token_name x.stretch rest n x.spelled) ∙ h)

-- ---- gaps

-- where no gap begins, none is skipped
pub stays : (c : ℕ) (s : Text) → starts_gap c ≡ false → skip (c ∷ s) ≡ c ∷ s
stays c s e = let k = or_parts (is_blank c) (c == 47) e in skip-other c s k.0 k.1

pub gap_is : (c : ℕ) (s : Text) → starts_gap c ≡ true → token (c ∷ s) ≡ past_gap (c ∷ s)
unfolding token
gap_is c s e = rw e refl

pub past_gap_is : (s next : Text) → past_gap s ≡ Some next → skip s ≡ next
past_gap_is s next e = go (nat_lt (length (skip s)) (length s)) e
  where
    go : (b : Bool) → cond b (Some (skip s)) None ≡ Some next → skip s ≡ next
    go true k = some_same k
    go false k = absurd (cc)

no_gap_passed : (s : Text) → past_gap s ≡ None → skip s ≡ s
no_gap_passed s e = go (gap_of s) refl
  where
    shorter : nat_lt (length (skip s)) (length s) ≡ true → ⊥
    shorter h = let z : Some (skip s) ≡ None = (let k : past_gap s ≡ Some (skip s) = rw h refl in sym k ∙ e) in cc

    go : (g : Text) → gap_of s ≡ g → skip s ≡ s
    go [] k = sym ((cut s).split ∙ ap (λ u. u ++ skip s) k)
    go (c ∷ g) k =
        let l : length s ≡ suc (length (g ++ skip s)) = ap length ((cut s).split ∙ ap (λ u. u ++ skip s) k) in
        absurd (shorter (lt-ltb (length (skip s)) (length s) (omega (arith, l, length-append g (skip s)))))

-- ---- the names of fields, by the tokens as they come

-- the innermost group is one of named fields, from here on
abbrev pub named_at : Stage → Text → Bool
named_at behind_opening s = opens_field (skip s)
named_at behind_name s = is_at 58 (skip s)
named_at elsewhere s = false

no_colon : (c n : ℕ) → (n == 58) ≡ false → (c == n) ≡ true → (c == 58) ≡ false
no_colon c n e h = ap (λ x. x == 58) (eqb-true c n h) ∙ e

-- a bracket or a comma begins no gap, no name and no `:`
pub record IsMark (c : ℕ) : Type 0 where
  pub no_gap : starts_gap c ≡ false
  pub no_name : (s : Text) → stands_name (c ∷ s) ≡ false
  pub no_colon : (c == 58) ≡ false

pub not_other : (c : ℕ) → is_other c ≡ false → IsMark c
not_other c e = record { no_gap = go (starts_gap c) refl; no_name = λ s. no_name c s e; no_colon = at (c == 58) refl }
  where
    go : (b : Bool) → starts_gap c ≡ b → b ≡ false
    go false h = refl
    go true h = absurd (let z : false ≡ true = sym e ∙ gap_other c h in cc)

    at : (b : Bool) → (c == 58) ≡ b → b ≡ false
    at false h = refl
    at true h = absurd (let z : false ≡ true = sym e ∙ ap is_other (eqb-true c 58 h) in cc)

-- at such a mark no field is named
pub mark_unnamed : (stage : Stage) (c : ℕ) (s : Text) → IsMark c → named_at stage (c ∷ s) ≡ false
mark_unnamed behind_opening c s m = ap opens_field (stays c s m.no_gap) ∙ no_field (c ∷ s) (m.no_name s)
mark_unnamed behind_name c s m = ap (is_at 58) (stays c s m.no_gap) ∙ m.no_colon
mark_unnamed elsewhere c s m = refl

-- and behind it, if it opens nothing, none is either
pub mark_ends_names : (stage : Stage) (c : ℕ) (s : Text) → IsMark c → is_opening c ≡ false → next_stage stage (c ∷ s) ≡ elsewhere
mark_ends_names stage c s m o = let word : next_stage stage (c ∷ s) ≡ past_word stage (c ∷ s) = rw (o, m.no_gap) refl in word ∙ at stage
  where
    at : (x : Stage) → past_word x (c ∷ s) ≡ elsewhere
    at behind_opening = ap (λ b. cond b behind_name elsewhere) (m.no_name s)
    at behind_name = refl
    at elsewhere = refl

past_gap_same : (stage : Stage) (s next : Text) → skip s ≡ next → named_at stage s ≡ named_at stage next
past_gap_same behind_opening s next e = ap opens_field (sym (skip-skip s) ∙ ap skip e)
past_gap_same behind_name s next e = ap (is_at 58) (sym (skip-skip s) ∙ ap skip e)
past_gap_same elsewhere s next e = refl

-- a name is passed, and else no field is named
name_passed : (c : ℕ) (s next : Text) → token (c ∷ s) ≡ Some next → opens_field (c ∷ s) ≡ named_at (cond (stands_name (c ∷ s)) behind_name elsewhere) next
unfolding opens_field
name_passed c s next h = at (name (c ∷ s)) refl
  where
    at : (a : Got Text) → name (c ∷ s) ≡ a → leads_to 58 a ≡ named_at (cond (elim a [ got n rest ↦ true | failed f ↦ false ]) behind_name elsewhere) next
    at (got m rest) k = ap (λ u. is_at 58 (skip u)) (name_is_token (c ∷ s) m rest next k h)
    at (failed x) k = refl

past_other : (stage : Stage) (c : ℕ) (s next : Text) → token (c ∷ s) ≡ Some next → starts_gap c ≡ false → names_field stage (c ∷ s) ≡ false
    → named_at stage (c ∷ s) ≡ named_at (past_word stage (c ∷ s)) next
past_other behind_opening c s next h g n = ap opens_field (stays c s g) ∙ name_passed c s next h
past_other behind_name c s next h g n = ap (is_at 58) (stays c s g) ∙ n
past_other elsewhere c s next h g n = refl

-- Behind a token that is neither an opening bracket nor a field's `:`, as much is named as before it.
pub named_over : (stage : Stage) (c : ℕ) (s next : Text) → token (c ∷ s) ≡ Some next → is_opening c ≡ false → names_field stage (c ∷ s) ≡ false
    → named_at stage (c ∷ s) ≡ named_at (next_stage stage (c ∷ s)) next
named_over stage c s next h o n = go (starts_gap c) refl
  where
    go : (g : Bool) → starts_gap c ≡ g → named_at stage (c ∷ s) ≡ named_at (next_stage stage (c ∷ s)) next
    go true g = past_gap_same stage (c ∷ s) next (past_gap_is (c ∷ s) next (sym (gap_is c s g) ∙ h))
        ∙ ap (λ x. named_at x next) (let z : stage ≡ next_stage stage (c ∷ s) = rw (o, g) refl in z)
    go false g = past_other stage c s next h g n ∙ ap (λ x. named_at x next) (let z : past_word stage (c ∷ s) ≡ next_stage stage (c ∷ s) = rw (o, g) refl in z)

-- at a broken token nothing is named
pub broken_unnamed : (stage : Stage) (c : ℕ) (s : Text) → token (c ∷ s) ≡ None → named_at stage (c ∷ s) ≡ false
broken_unnamed stage c s h = go (starts_gap c) refl
  where
    nameless : (a : Got Text) → name (c ∷ s) ≡ a → (elim a [ got n rest ↦ true | failed f ↦ false ]) ≡ false
    nameless (got n rest) k =
        let x = word_name.sound (c ∷ s) n rest k in
        absurd (let z : None ≡ Some rest = sym h ∙ ap token x.split ∙ token_name x.stretch rest n x.spelled in cc)
    nameless (failed f) k = refl

    uncolonned : (b : Bool) → (c == 58) ≡ b → b ≡ false
    uncolonned false k = refl
    uncolonned true k = absurd (let z : None ≡ Some s = sym h ∙ ap (λ x. token (x ∷ s)) (eqb-true c 58 k) ∙ colon_alone s in cc)

    at : (x : Stage) → skip (c ∷ s) ≡ c ∷ s → named_at x (c ∷ s) ≡ false
    at behind_opening e = ap opens_field e ∙ no_field (c ∷ s) (nameless (name (c ∷ s)) refl)
    at behind_name e = ap (is_at 58) e ∙ uncolonned (c == 58) refl
    at elsewhere e = refl

    go : (g : Bool) → starts_gap c ≡ g → named_at stage (c ∷ s) ≡ false
    go true g = at stage (no_gap_passed (c ∷ s) (sym (gap_is c s g) ∙ h))
    go false g = at stage (stays c s g)

-- nor where the text ends
pub end_unnamed : (stage : Stage) → named_at stage [] ≡ false
unfolding name
end_unnamed behind_opening = ap opens_field skip-end ∙ no_field [] refl
end_unnamed behind_name = ap (is_at 58) skip-end
end_unnamed elsewhere = refl

-- ---- the kinds of the open groups, from a place on

-- of the group that many levels around the innermost one, where no name tells it
abbrev pub by_mark : ℕ → Text → Kind
by_mark d s = kind_at (seek zero d s)

-- of the innermost group, and of those around it
abbrev pub kind_on : Stage → Text → ℕ → Kind
kind_on stage s zero = if named_at stage s then named_fields else by_mark zero s
kind_on stage s (suc d) = by_mark (suc d) s

-- where no field is named, a mark tells of all
pub unnamed_on : (stage : Stage) (s : Text) (d : ℕ) → named_at stage s ≡ false → kind_on stage s d ≡ by_mark d s
unnamed_on stage s zero e = rw e refl
unnamed_on stage s (suc d) e = refl

-- ---- what a token tells of them

pub opening_mark : (c : ℕ) → is_opening c ≡ true → IsMark c
opening_mark c o = not_other c (rw o refl)

pub closing_mark : (c : ℕ) → is_closing c ≡ true → IsMark c
closing_mark c e = not_other c (rw (closing_no_opening c e, e) refl)

-- a comma or a closing bracket tells a kind, and that stays
marked_stays : (k : Kind) (c : ℕ) (s : Text) → settle k (kind_at (c ∷ s)) ≡ kind_at (c ∷ s)
marked_stays k c s =
    elim (separates (c ∷ s)) as (λ b. settle k (cond b many_items newtype_item) ≡ cond b many_items newtype_item) [ true ↦ refl | false ↦ refl ]

no_field_here : (stage : Stage) (c : ℕ) (s : Text) → (c == 58) ≡ false → names_field stage (c ∷ s) ≡ false
no_field_here behind_opening c s e = refl
no_field_here behind_name c s e = e
no_field_here elsewhere c s e = refl

-- what such a mark tells, is the kind
pub mark_told : (stage : Stage) (c : ℕ) (s : Text) → IsMark c → ends false zero c ≡ true
    → (told stage (c ∷ s) ≡ kind_at (c ∷ s)) × (kind_on stage (c ∷ s) zero ≡ kind_at (c ∷ s))
mark_told stage c s m e =
    (rw (no_field_here stage c s m.no_colon, e) refl, unnamed_on stage (c ∷ s) zero (mark_unnamed stage c s m) ∙ ap kind_at (seek-end zero c s e))

colon_told : (stage : Stage) (c : ℕ) (s : Text) → names_field stage (c ∷ s) ≡ true → kind_on stage (c ∷ s) zero ≡ named_fields
colon_told behind_opening c s n = absurd (cc)
colon_told elsewhere c s n = absurd (cc)
colon_told behind_name c s n =
    let here : is_at 58 (skip (c ∷ s)) ≡ true = ap (is_at 58) (stays c s (ap starts_gap (eqb-true c 58 n))) ∙ n in
    rw here refl

is_comma : (c : ℕ) → is_closing c ≡ false → ends false zero c ≡ true → (c == 44) ≡ true
is_comma c e h = rw e at h

-- Behind a token that is no bracket, what it told of the innermost group and what is told from there on is what is told from here on.
pub inner_on : (stage : Stage) (c : ℕ) (s rest : Text) → token (c ∷ s) ≡ Some rest → is_opening c ≡ false → is_closing c ≡ false
    → settle (kind_on (next_stage stage (c ∷ s)) rest zero) (told stage (c ∷ s)) ≡ kind_on stage (c ∷ s) zero
inner_on stage c s rest h o e = field (names_field stage (c ∷ s)) refl
  where
    after : Kind
    after = kind_on (next_stage stage (c ∷ s)) rest zero

    mark : (b : Bool) → ends false zero c ≡ b → names_field stage (c ∷ s) ≡ false → settle after (told stage (c ∷ s)) ≡ kind_on stage (c ∷ s) zero
    mark true k n =
        let m = mark_told stage c s (not_other c (rw (o, e, is_comma c e k) refl)) k in
        ap (settle after) m.0 ∙ marked_stays after c s ∙ sym m.1
    mark false k n =
        let nothing : told stage (c ∷ s) ≡ broken = rw (n, k) refl in
        let level_is : level zero c ≡ zero = rw (o, e) refl in
        ap (settle after) nothing
        ∙ ap₂ (λ b u. cond b named_fields (kind_at u)) (sym (named_over stage c s rest h o n))
        (sym (seek_over zero c s rest k h ∙ ap (λ d. seek zero d rest) level_is))

    field : (b : Bool) → names_field stage (c ∷ s) ≡ b → settle after (told stage (c ∷ s)) ≡ kind_on stage (c ∷ s) zero
    field true n = let told_is : told stage (c ∷ s) ≡ named_fields = rw n refl in ap (settle after) told_is ∙ sym (colon_told stage c s n)
    field false n = mark (ends false zero c) refl n

seek-broken : (d c : ℕ) (s : Text) → ends false d c ≡ false → token (c ∷ s) ≡ None → seek zero d (c ∷ s) ≡ []
unfolding seek
seek-broken d c s e h = rw (e, h) refl

-- at a broken token nothing is told of any group
pub broken_on : (stage : Stage) (c : ℕ) (s : Text) (d : ℕ) → token (c ∷ s) ≡ None → kind_on stage (c ∷ s) d ≡ broken
broken_on stage c s d h = unnamed_on stage (c ∷ s) d (broken_unnamed stage c s h)
    ∙ ap kind_at (seek-broken d c s (goes_on false d c (no_close (is_closing c) refl) (no_comma (c == 44) refl)) h)
  where
    no_close : (b : Bool) → is_closing c ≡ b → b ≡ false
    no_close false k = refl
    no_close true k = absurd (let z : None ≡ Some s = sym h ∙ closing_alone c s k in cc)

    no_comma : (b : Bool) → (c == 44) ≡ b → b ≡ false
    no_comma false k = refl
    no_comma true k = absurd (let z : None ≡ Some s = sym h ∙ ap (λ x. token (x ∷ s)) (eqb-true c 44 k) ∙ comma_alone s in cc)

-- nor where the text ends
pub end_on : (stage : Stage) (d : ℕ) → kind_on stage [] d ≡ broken
unfolding seek
end_on stage d = unnamed_on stage [] d (end_unnamed stage)
