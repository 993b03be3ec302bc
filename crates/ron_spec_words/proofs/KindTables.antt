-- The table that one pass fills holds the kinds, and the lookahead's tests are what these say.
use Rattle.std.proofs.Common.{◌≡◌, ℕ, zero, suc, ◌-◌, ◌<◌, ◌≤◌, Bool, true, false, cond, if◌then◌else◌, length, List, [], ◌∷◌, ◌++◌, Option, Some, None}
use Rattle.std.proofs.Common.{option_map, refl, sym, ap, ap₂, ◌∙◌, append_assoc, append-nil, length-append, arith}
use Rattle.std.specs.Prelude.{slice_get}
use Rattle.std.specs.Option.{unwrap_or}
use Rattle.ron_spec_words.specs.Characters.{Text}
use Rattle.ron_spec_words.specs.Gap.{skip, gap_of}
use Rattle.ron_spec_words.specs.Scan.{token, is_opening, is_closing, level, Walk, here, on}
use Rattle.ron_spec_words.specs.Lookahead.{opens_field, seek, separates, holds_several}
use Rattle.ron_spec_words.specs.Kind.{Kind, named_fields, many_items, newtype_item, broken, kind_at, kind, TellsKinds}
use Rattle.ron_spec_words.specs.KindTable.{kinds_from, kinds, Stage, behind_opening, elsewhere, next_stage, settle, tell, tell_innermost, told, outer}
use Rattle.ron_spec_words.specs.KindTable.{next_groups, next_table, fill_from, IsTable, openings, IsTableAt}
use Rattle.ron_spec_words.proofs.Gaps.{cut}
use Rattle.ron_spec_words.proofs.Classes.{apart}
use Rattle.ron_spec_words.proofs.Walks.{opening_alone, opening_no_closing, closing_no_opening, goes_on, walk_gap}
use Rattle.ron_spec_words.proofs.Lookahead.{seek-walk}
use Rattle.ron_spec_words.proofs.KindSteps.{taken, seek_over, IsMark, mark_unnamed, mark_ends_names, by_mark, kind_on, unnamed_on, opening_mark, closing_mark}
use Rattle.ron_spec_words.proofs.KindSteps.{mark_told, inner_on, broken_on, end_on}

-- ---- a turn of the pass

fill-counted : (stage : Stage) (groups : List ℕ) (table : List Kind) (t s : Text)
    → fill_from (length t) stage groups table (t ++ s) ≡ fill_from zero stage groups table s
unfolding fill_from
fill-counted stage groups table [] s = refl
fill-counted stage groups table (c ∷ t) s = fill-counted stage groups table t s

fill_at : (stage : Stage) (groups : List ℕ) (table : List Kind) (c : ℕ) (s rest : Text) → token (c ∷ s) ≡ Some rest
    → fill_from zero stage groups table (c ∷ s)
    ≡ fill_from (length s - length rest) (next_stage stage (c ∷ s)) (next_groups (length table) (c ∷ s) groups) (next_table stage (c ∷ s) groups table) s
unfolding fill_from
fill_at stage groups table c s rest h = ap (λ o. unwrap_or (option_map (λ rest. fill_from (length s - length rest) (next_stage stage (c ∷ s))
    (next_groups (length table) (c ∷ s) groups) (next_table stage (c ∷ s) groups table) s) o) table) h

-- behind a token
pub fill_over : (stage : Stage) (groups : List ℕ) (table : List Kind) (c : ℕ) (s rest : Text) → token (c ∷ s) ≡ Some rest
    → fill_from zero stage groups table (c ∷ s)
    ≡ fill_from zero (next_stage stage (c ∷ s)) (next_groups (length table) (c ∷ s) groups) (next_table stage (c ∷ s) groups table) rest
fill_over stage groups table c s rest h =
    let k = taken c s rest h in
    fill_at stage groups table c s rest h
    ∙ ap₂ (λ n u. fill_from n (next_stage stage (c ∷ s)) (next_groups (length table) (c ∷ s) groups) (next_table stage (c ∷ s) groups table) u) k.count k.split
    ∙ fill-counted (next_stage stage (c ∷ s)) (next_groups (length table) (c ∷ s) groups) (next_table stage (c ∷ s) groups table) k.more rest

-- at a broken token, and where the text ends
pub fill_broken : (stage : Stage) (groups : List ℕ) (table : List Kind) (c : ℕ) (s : Text) → token (c ∷ s) ≡ None
    → fill_from zero stage groups table (c ∷ s) ≡ table
unfolding fill_from
fill_broken stage groups table c s h = ap (λ o. unwrap_or (option_map (λ rest. fill_from (length s - length rest) (next_stage stage (c ∷ s))
    (next_groups (length table) (c ∷ s) groups) (next_table stage (c ∷ s) groups table) s) o) table) h

pub fill_end : (stage : Stage) (groups : List ℕ) (table : List Kind) → fill_from zero stage groups table [] ≡ table
unfolding fill_from
fill_end stage groups table = refl

-- what an opening bracket adds to the kinds
abbrev pub kinds_here : ℕ → Text → List Kind
kinds_here c s = if is_opening c then kind s ∷ [] else []

kinds-counted : (t s : Text) → kinds_from (length t) (t ++ s) ≡ kinds s
unfolding kinds_from
kinds-counted [] s = refl
kinds-counted (c ∷ t) s = kinds-counted t s

pub kinds_over : (c : ℕ) (s rest : Text) → token (c ∷ s) ≡ Some rest → kinds (c ∷ s) ≡ kinds_here c s ++ kinds rest
unfolding kinds_from
kinds_over c s rest h =
    let k = taken c s rest h in
    ap (λ o. unwrap_or (option_map (λ rest. kinds_here c s ++ kinds_from (length s - length rest) s) o) []) h
    ∙ ap (λ u. kinds_here c s ++ u) (ap₂ kinds_from k.count k.split ∙ kinds-counted k.more rest)

pub kinds_broken : (c : ℕ) (s : Text) → token (c ∷ s) ≡ None → kinds (c ∷ s) ≡ []
unfolding kinds_from
kinds_broken c s h = ap (λ o. unwrap_or (option_map (λ rest. kinds_here c s ++ kinds_from (length s - length rest) s) o) []) h

pub kinds_end : kinds [] ≡ []
unfolding kinds_from
kinds_end = refl

-- ---- what is told of the open groups

-- the table, with this told of each open group: the first of the innermost
abbrev settled : List ℕ → (ℕ → Kind) → List Kind → List Kind
settled [] f table = table
settled (i ∷ groups) f table = settled groups (λ d. f (suc d)) (tell i (f 0) table)

settled_same : (groups : List ℕ) (f g : ℕ → Kind) (table : List Kind) → ((d : ℕ) → f d ≡ g d) → settled groups f table ≡ settled groups g table
settled_same [] f g table h = refl
settled_same (i ∷ groups) f g table h = settled_same groups (λ d. f (suc d)) (λ d. g (suc d)) (tell i (f 0) table) (λ d. h (suc d))
    ∙ ap (λ k. settled groups (λ d. g (suc d)) (tell i k table)) (h 0)

settle_nothing : (k : Kind) → settle broken k ≡ k
settle_nothing named_fields = refl
settle_nothing many_items = refl
settle_nothing newtype_item = refl
settle_nothing broken = refl

tell_nothing : (i : ℕ) (table : List Kind) → tell i broken table ≡ table
tell_nothing i [] = refl
tell_nothing zero (x ∷ xs) = ap (λ y. y ∷ xs) (settle_nothing x)
tell_nothing (suc i) (x ∷ xs) = ap (λ ys. x ∷ ys) (tell_nothing i xs)

settled_nothing : (groups : List ℕ) (f : ℕ → Kind) (table : List Kind) → ((d : ℕ) → f d ≡ broken) → settled groups f table ≡ table
settled_nothing [] f table h = refl
settled_nothing (i ∷ groups) f table h =
    settled_nothing groups (λ d. f (suc d)) (tell i (f 0) table) (λ d. h (suc d)) ∙ ap (λ k. tell i k table) (h 0) ∙ tell_nothing i table

settle_twice : (l k x : Kind) → settle l (settle k x) ≡ settle (settle l k) x
settle_twice l k named_fields = refl
settle_twice l k many_items = refl
settle_twice l k newtype_item = refl
settle_twice l k broken = refl

tell_twice : (i : ℕ) (l k : Kind) (table : List Kind) → tell i l (tell i k table) ≡ tell i (settle l k) table
tell_twice i l k [] = refl
tell_twice zero l k (x ∷ xs) = ap (λ y. y ∷ xs) (settle_twice l k x)
tell_twice (suc i) l k (x ∷ xs) = ap (λ ys. x ∷ ys) (tell_twice i l k xs)

-- ---- a new group

-- the open groups stand in a table of that length
abbrev Within : List ℕ → ℕ → Type 0
Within [] n = Unit {0}
Within (i ∷ groups) n = (i < n) × Within groups n

within_more : (groups : List ℕ) (m n : ℕ) → m ≤ n → Within groups m → Within groups n
within_more [] m n le h = tt
within_more (i ∷ groups) m n le h = (let k = h.0 in omega (arith, k, le), within_more groups m n le h.1)

within_outer : (groups : List ℕ) (n : ℕ) → Within groups n → Within (outer groups) n
within_outer [] n h = tt
within_outer (i ∷ groups) n h = h.1

length_tell : (i : ℕ) (k : Kind) (table : List Kind) → length (tell i k table) ≡ length table
length_tell i k [] = refl
length_tell zero k (x ∷ xs) = refl
length_tell (suc i) k (x ∷ xs) = ap suc (length_tell i k xs)

within_told : (groups : List ℕ) (k : Kind) (table : List Kind) → Within groups (length table) → Within groups (length (tell_innermost groups k table))
within_told [] k table h = tt
within_told (i ∷ groups) k table h = within_more (i ∷ groups) (length table) (length (tell i k table)) (omega (arith, length_tell i k table)) h

within_new : (groups : List ℕ) (k : Kind) (table : List Kind) → Within groups (length table) → Within (length table ∷ groups) (length (table ++ k ∷ []))
within_new groups k table h = let n = length-append table (k ∷ []) in
    (omega (arith, n), within_more groups (length table) (length (table ++ k ∷ [])) (omega (arith, n)) h)

tell_front : (i : ℕ) (k x : Kind) (table : List Kind) → i < length table → tell i k (table ++ x ∷ []) ≡ tell i k table ++ x ∷ []
tell_front i k x [] lt = absurd (omega (arith, lt))
tell_front zero k x (y ∷ ys) lt = refl
tell_front (suc i) k x (y ∷ ys) lt = ap (λ zs. y ∷ zs) (tell_front i k x ys (omega (arith, lt)))

tell_last : (k : Kind) (table : List Kind) → tell (length table) k (table ++ broken ∷ []) ≡ table ++ k ∷ []
tell_last k [] = refl
tell_last k (x ∷ xs) = ap (λ ys. x ∷ ys) (tell_last k xs)

settled_front : (groups : List ℕ) (f : ℕ → Kind) (x : Kind) (table : List Kind) → Within groups (length table)
    → settled groups f (table ++ x ∷ []) ≡ settled groups f table ++ x ∷ []
settled_front [] f x table h = refl
settled_front (i ∷ groups) f x table h =
    ap (settled groups (λ d. f (suc d))) (tell_front i (f 0) x table h.0)
    ∙ settled_front groups (λ d. f (suc d)) x (tell i (f 0) table)
    (within_more groups (length table) (length (tell i (f 0) table)) (omega (arith, length_tell i (f 0) table)) h.1)

-- ---- behind each token

-- The pass finds what is told from here on of the open groups, and the kinds from here on.
abbrev Finds : Stage → List ℕ → List Kind → Text → Type 0
Finds stage groups table s = fill_from zero stage groups table s ≡ settled groups (kind_on stage s) table ++ kinds s

same_pass : {x y : Stage} {gs hs : List ℕ} {ks ls : List Kind} (s : Text) → x ≡ y → gs ≡ hs → ks ≡ ls → fill_from zero x gs ks s ≡ fill_from zero y hs ls s
same_pass {x} {y} {gs} {hs} {ks} {ls} s a b c = ap (λ v. fill_from zero v gs ks s) a ∙ ap₂ (λ v w. fill_from zero y v w s) b c

kind_behind : (s : Text) → kind_on behind_opening s zero ≡ kind s
unfolding kind
kind_behind s = refl

turn_open : (stage : Stage) (groups : List ℕ) (table : List Kind) (c : ℕ) (s : Text) → is_opening c ≡ true → Within groups (length table)
    → Finds behind_opening (length table ∷ groups) (table ++ broken ∷ []) s → Finds stage groups table (c ∷ s)
turn_open stage groups table c s o w found =
    let h = opening_alone c s o in
    let level_is : (d : ℕ) → level d c ≡ suc d = λ d. rw o refl in
    let up : (d : ℕ) → by_mark (suc d) s ≡ kind_on stage (c ∷ s) d = λ d.
    sym (unnamed_on stage (c ∷ s) d (mark_unnamed stage c s (opening_mark c o))
    ∙ ap kind_at (seek_over d c s s (goes_on false d c (opening_no_closing c o) (apart is_opening 44 c refl o)) h ∙ ap (λ e. seek zero e s) (level_is d))) in
    let kinds_is : kinds (c ∷ s) ≡ kind s ∷ kinds s = kinds_over c s s h ∙ ap (λ b. cond b (kind s ∷ []) [] ++ kinds s) o in
    fill_over stage groups table c s s h ∙ same_pass s (rw o refl) (rw o refl) (rw o refl) ∙ found
    ∙ ap (λ u. u ++ kinds s) (ap (settled groups (λ d. by_mark (suc d) s))
    (tell_last (kind_on behind_opening s zero) table ∙ ap (λ k. table ++ k ∷ []) (kind_behind s))
    ∙ settled_front groups (λ d. by_mark (suc d) s) (kind s) table w ∙ ap (λ u. u ++ kind s ∷ []) (settled_same groups _ _ table up))
    ∙ append_assoc (settled groups (kind_on stage (c ∷ s)) table) (kind s ∷ []) (kinds s)
    ∙ ap (λ u. settled groups (kind_on stage (c ∷ s)) table ++ u) (sym kinds_is)

-- a token that opens nothing adds no kind
no_kind : (c : ℕ) (s rest : Text) → token (c ∷ s) ≡ Some rest → is_opening c ≡ false → kinds (c ∷ s) ≡ kinds rest
no_kind c s rest h o = kinds_over c s rest h ∙ ap (λ b. cond b (kind s ∷ []) [] ++ kinds rest) o

turn_close : (stage : Stage) (groups : List ℕ) (table : List Kind) (c : ℕ) (s rest : Text) → token (c ∷ s) ≡ Some rest → is_closing c ≡ true
    → Finds elsewhere (outer groups) (tell_innermost groups (told stage (c ∷ s)) table) rest → Finds stage groups table (c ∷ s)
turn_close stage groups table c s rest h e found =
    let o = closing_no_opening c e in
    let m = closing_mark c e in
    fill_over stage groups table c s rest h ∙ same_pass rest (mark_ends_names stage c s m o) (rw (o, e) refl) (rw o refl) ∙ found
    ∙ ap₂ (λ x y. x ++ y) (closed groups m) (sym (no_kind c s rest h o))
  where
    down : (d : ℕ) → kind_on elsewhere rest d ≡ by_mark (suc d) (c ∷ s)
    down d = let level_is : level (suc d) c ≡ d = rw (closing_no_opening c e, e) refl in
        unnamed_on elsewhere rest d refl ∙ ap kind_at (sym (seek_over (suc d) c s rest refl h ∙ ap (λ l. seek zero l rest) level_is))

    closed : (gs : List ℕ) → IsMark c
        → settled (outer gs) (kind_on elsewhere rest) (tell_innermost gs (told stage (c ∷ s)) table) ≡ settled gs (kind_on stage (c ∷ s)) table
    closed [] m = refl
    closed (i ∷ gs) m =
        let k = mark_told stage c s m (rw e refl) in
        settled_same gs _ _ (tell i (told stage (c ∷ s)) table) down ∙ ap (λ x. settled gs (λ d. by_mark (suc d) (c ∷ s)) (tell i x table)) (k.0 ∙ sym k.1)

turn_within : (stage : Stage) (groups : List ℕ) (table : List Kind) (c : ℕ) (s rest : Text) → token (c ∷ s) ≡ Some rest → is_opening c ≡ false
    → is_closing c ≡ false
    → Finds (next_stage stage (c ∷ s)) groups (tell_innermost groups (told stage (c ∷ s)) table) rest → Finds stage groups table (c ∷ s)
turn_within stage groups table c s rest h o e found =
    fill_over stage groups table c s rest h ∙ same_pass rest refl (rw (o, e) refl) (rw o refl) ∙ found
    ∙ ap₂ (λ x y. x ++ y) (here groups) (sym (no_kind c s rest h o))
  where
    around : (d : ℕ) → by_mark (suc d) rest ≡ by_mark (suc d) (c ∷ s)
    around d = let level_is : level (suc d) c ≡ suc d = rw (o, e) refl in
        ap kind_at (sym (seek_over (suc d) c s rest refl h ∙ ap (λ l. seek zero l rest) level_is))

    here : (gs : List ℕ)
        → settled gs (kind_on (next_stage stage (c ∷ s)) rest) (tell_innermost gs (told stage (c ∷ s)) table) ≡ settled gs (kind_on stage (c ∷ s)) table
    here [] = refl
    here (i ∷ gs) =
        ap (settled gs (λ d. by_mark (suc d) rest)) (tell_twice i (kind_on (next_stage stage (c ∷ s)) rest zero) (told stage (c ∷ s)) table)
        ∙ settled_same gs _ _ (tell i (settle (kind_on (next_stage stage (c ∷ s)) rest zero) (told stage (c ∷ s))) table) around
        ∙ ap (λ k. settled gs (λ d. by_mark (suc d) (c ∷ s)) (tell i k table)) (inner_on stage c s rest h o e)

turn_broken : (stage : Stage) (groups : List ℕ) (table : List Kind) (c : ℕ) (s : Text) → token (c ∷ s) ≡ None → Finds stage groups table (c ∷ s)
turn_broken stage groups table c s h =
    fill_broken stage groups table c s h ∙ sym (append-nil table)
    ∙ ap₂ (λ x y. x ++ y) (sym (settled_nothing groups (kind_on stage (c ∷ s)) table (λ d. broken_on stage c s d h))) (sym (kinds_broken c s h))

turn_end : (stage : Stage) (groups : List ℕ) (table : List Kind) → Finds stage groups table []
turn_end stage groups table = fill_end stage groups table ∙ sym (append-nil table)
    ∙ ap₂ (λ x y. x ++ y) (sym (settled_nothing groups (kind_on stage []) table (end_on stage))) (sym kinds_end)

-- ---- the whole pass

-- the pass over every text shorter than this
abbrev FindsBelow : ℕ → Type 0
FindsBelow n = (s : Text) → length s < n → (stage : Stage) (groups : List ℕ) (table : List Kind) → Within groups (length table) → Finds stage groups table s

turn : (c : ℕ) (s : Text) → FindsBelow (length (c ∷ s)) → (stage : Stage) (groups : List ℕ) (table : List Kind) → Within groups (length table)
    → Finds stage groups table (c ∷ s)
turn c s below stage groups table w = go (token (c ∷ s)) refl
  where
    on_token : (rest : Text) → token (c ∷ s) ≡ Some rest → length rest < length (c ∷ s) → (o : Bool) → is_opening c ≡ o → (e : Bool) → is_closing c ≡ e
        → Finds stage groups table (c ∷ s)
    on_token rest h lt true o e f = turn_open stage groups table c s o w
        (below s (omega arith) behind_opening (length table ∷ groups) (table ++ broken ∷ []) (within_new groups broken table w))
    on_token rest h lt false o true e = turn_close stage groups table c s rest h e (below rest lt elsewhere (outer groups)
        (tell_innermost groups (told stage (c ∷ s)) table) (within_outer groups _ (within_told groups (told stage (c ∷ s)) table w)))
    on_token rest h lt false o false e = turn_within stage groups table c s rest h o e
        (below rest lt (next_stage stage (c ∷ s)) groups (tell_innermost groups (told stage (c ∷ s)) table) (within_told groups (told stage (c ∷ s)) table w))

    go : (a : Option Text) → token (c ∷ s) ≡ a → Finds stage groups table (c ∷ s)
    go None h = turn_broken stage groups table c s h
    go (Some rest) h = let k = taken c s rest h in
        on_token rest h (omega (arith, ap length k.split, length-append k.more rest)) (is_opening c) refl (is_closing c) refl

finds_below : (n : ℕ) → FindsBelow n
finds_below n [] lt stage groups table w = turn_end stage groups table
finds_below zero (c ∷ s) lt stage groups table w = absurd (omega (arith, lt))
finds_below (suc n) (c ∷ s) lt stage groups table w = turn c s (λ u k. finds_below n u (omega (arith, k, lt))) stage groups table w

pub is_table : IsTable
is_table s = finds_below (suc (length s)) s (omega arith) elsewhere [] [] tt

-- ---- the table where whole tokens lead to an opening bracket

module _ (c : ℕ) (u : Text) (is_open : is_opening c ≡ true) where
  kinds-walk : {commas : Bool} {d e : ℕ} {s v : Text} (w : Walk commas d s e v) → v ≡ c ∷ u → slice_get (kinds s) (openings w) ≡ Some (kind u)
  kinds-walk (here d s) q = ap (λ x. slice_get (kinds x) zero) q
      ∙ ap (λ x. slice_get x zero) (kinds_over c u u (opening_alone c u is_open) ∙ ap (λ b. cond b (kind u ∷ []) [] ++ kinds u) is_open)
  kinds-walk (on d b t next e v h k w) q =
      ap (λ x. slice_get x (openings (on d b t next e v h k w))) (kinds_over b (t ++ next) next k) ∙ by (is_opening b) (kinds-walk w q)
    where
      by : (o : Bool) → slice_get (kinds next) (openings w) ≡ Some (kind u)
          → slice_get (cond o (kind (t ++ next) ∷ []) [] ++ kinds next) (cond o (suc (openings w)) (openings w)) ≡ Some (kind u)
      by true z = z
      by false z = z

pub is_table_at : IsTableAt
is_table_at commas d e c s u w h = ap (λ x. slice_get x (openings w)) (is_table s) ∙ kinds-walk c u h w refl

-- ---- the lookahead's tests

marked_unnamed : (u : Text) → kind_at u ≡ named_fields → ⊥
marked_unnamed [] e = cc
marked_unnamed (c ∷ u) e = (elim (separates (c ∷ u)) as (λ b. cond b many_items newtype_item ≡ named_fields → ⊥) [ true ↦ λ k. cc | false ↦ λ k. cc ]) e

marked_several : (u : Text) → (separates u ≡ true → kind_at u ≡ many_items) × (kind_at u ≡ many_items → separates u ≡ true)
marked_several [] = (λ e. absurd (cc), λ e. absurd (cc))
marked_several (c ∷ u) = elim (separates (c ∷ u)) as (λ b. (b ≡ true → cond b many_items newtype_item ≡ many_items)
    × (cond b many_items newtype_item ≡ many_items → b ≡ true)) [ true ↦ (λ e. refl, λ e. refl) | false ↦ (λ e. absurd (cc), λ e. absurd (cc)) ]

-- the lookahead goes over the gap
seek_gap : (s : Text) → seek zero zero (skip s) ≡ seek zero zero s
seek_gap s = let k = cut s in sym (ap (seek zero zero) k.split ∙ seek-walk (walk_gap false zero (gap_of s) (skip s) k.is_gap))

pub tells_kinds : TellsKinds
unfolding kind holds_several
tells_kinds s = record {
  fields = (λ e. rw e refl, λ e. named (opens_field (skip s)) refl e);
  several = λ f. (λ e. rw f (to (rw (seek_gap s) at e)), λ e. rw (seek_gap s) (from (rw f at e)));
}
  where
    named : (b : Bool) → opens_field (skip s) ≡ b → cond b named_fields (kind_at (seek zero zero s)) ≡ named_fields → b ≡ true
    named true h e = refl
    named false h e = absurd (marked_unnamed (seek zero zero s) e)

    to : separates (seek zero zero s) ≡ true → kind_at (seek zero zero s) ≡ many_items
    to = (marked_several (seek zero zero s)).0

    from : kind_at (seek zero zero s) ≡ many_items → separates (seek zero zero s) ≡ true
    from = (marked_several (seek zero zero s)).1
