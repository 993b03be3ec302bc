-- What a call's parts add to the count of turns, and how far looks go.
use Rattle.std.specs.Prelude.{◌==◌, min}
use Rattle.std.proofs.Common.{◌≡◌, ℕ, ◌+◌, ◌-◌, ◌≤◌, arith, Bool, true, false, cond, codes, Result, Ok, Err, [], ◌∷◌, ◌++◌, eqb-true, refl, sym, ap, ◌∙◌}
use Rattle.ron_spec_words.specs.Characters.{Text, starts_name, continues_name, in_raw_name}
use Rattle.ron_spec_words.specs.Runs.{is_at, run_of, after_run}
use Rattle.ron_spec_words.specs.Gap.{skip}
use Rattle.ron_spec_words.specs.Reader.{Got, got, failed, bad, run}
use Rattle.ron_spec_words.specs.Scan.{is_hash, opens_raw_name}
use Rattle.ron_spec_words.specs.Beyond.{bytes_in, past_words, beyond}
use Rattle.ron_spec_words.proofs.Sizes.{size_end, size_append, beyond_no_more, words_no_more}
use Rattle.ron_spec_words.proofs.Looks.{word_look, raw_look, hash_look, byte_hash_look, byte_look, some_look}
use Rattle.ron_lex_text.specs.Stretch.{IsSuffix}
use Rattle.ron_lex_text.proofs.StretchLemmas.{end_whole, end_of_end, end_nothing, end_past_char, run_end}
use Rattle.ron_lex.specs.Identifier.{raw_name_behind_mark}
use Rattle.ron_lex.specs.Place.{Place}
use Rattle.ron_lex.specs.Turns.{most_turns, passed, count_at, Counts, Grows, CountsPast, LooksPast, GoesOver, Scans, Looks, Moves, IsLook, IsBehindWords}
use Rattle.ron_lex.specs.Turns.{IsGapLook, behind_hashes}
use Rattle.ron_lex.proofs.GapLemmas.{gap_end}

pub end_size : (rest text : Text) → IsSuffix rest text → bytes_in rest ≤ bytes_in text
end_size rest text h = size_end h.front rest text h.is

pub front_size : (front rest text : Text) → text ≡ front ++ rest → bytes_in front ≤ bytes_in text
front_size front rest text e = omega (arith, ap bytes_in e, size_append front rest)

-- ---- what is counted at a place

-- a number that stays at the highest one, with another added
min_twice : (a b most : ℕ) → min (min a most + b) most ≡ min (a + b) most
min_twice a b most = omega arith

-- of a later place
pub count_on : (beside : ℕ) (text rest after : Text) → IsSuffix rest text → IsSuffix after rest
    → count_at beside text after + bytes_in after ≤ count_at beside text rest + bytes_in rest
count_on beside text rest after h k = omega (arith, end_size rest text h, end_size after rest k)

pub count_forward : (beside : ℕ) (text rest after : Text) → IsSuffix rest text → IsSuffix after rest
    → count_at beside text after ≡ min (count_at beside text rest + passed rest after) most_turns
count_forward beside text rest after h k =
    let sum : beside + passed text rest + passed rest after ≡ beside + passed text after = omega (arith, end_size rest text h, end_size after rest k) in
    sym (min_twice _ _ most_turns ∙ ap (λ n. min n most_turns) sum)

-- of an earlier one, where the bytes up to the later one are added
pub count_back : (beside new : ℕ) (text rest earlier : Text) → bytes_in rest ≤ bytes_in earlier → bytes_in earlier ≤ bytes_in text
    → new ≡ min (beside + (bytes_in earlier - bytes_in rest)) most_turns → count_at new text earlier ≡ count_at beside text rest
count_back beside new text rest earlier h k e =
    let sum : beside + (bytes_in earlier - bytes_in rest) + (bytes_in text - bytes_in earlier) ≡ beside + (bytes_in text - bytes_in rest) =
    omega (arith, h, k) in
    ap (λ n. count_at n text earlier) e ∙ min_twice _ _ most_turns ∙ ap (λ n. min n most_turns) sum

-- ---- steps

-- over a mark of the text, and on
pub mark_over : (front : Text) (old mid : Place) → old.rest ≡ front ++ mid.rest → GoesOver 1 old mid → GoesOver 2 old mid
mark_over front old mid e h = omega (arith, h, size_end front mid.rest old.rest e)

pub over_all : (c : ℕ) (old new : Place) → GoesOver c old new → Scans c old new
over_all c old new h = omega (arith, h)

pub moved_on : {A E : Type 0} (c : ℕ) (old mid new : Place) (r : Result A E) → GoesOver c old mid → Moves c mid r new → Moves c old r new
moved_on c old mid new (Ok a) h k = record { moved = omega (arith, h, k.moved); most = omega (arith, h, k.most) }
moved_on c old mid new (Err e) h k = record { moved = tt; most = omega (arith, h, k.most) }

pub moved_ok : {A E : Type 0} (c : ℕ) (old new : Place) (a : A) → GoesOver c old new → Moves {A = A} {E = E} c old (Ok a) new
moved_ok c old new a h = record { moved = h; most = over_all c old new h }

-- what an answer is doesn't matter, where it is one
pub moved_as : {A B E F : Type 0} (c : ℕ) (old new : Place) (a : A) (b : B) → Moves {A = A} {E = E} c old (Ok a) new → Moves {A = B} {E = F} c old (Ok b) new
moved_as c old new a b h = record { moved = h.moved; most = h.most }

pub refused_as : {A B E F : Type 0} (c : ℕ) (old new : Place) (e : E) (f : F) → Moves {A = A} {E = E} c old (Err e) new
    → Moves {A = B} {E = F} c old (Err f) new
refused_as c old new e f h = record { moved = tt; most = h.most }

-- ---- what is counted at least

-- one step behind another
pub grows_on : (old mid new : Place) → Grows old mid → Grows mid new → Grows old new
grows_on old mid new h k = omega (arith, h, k)

-- a look up to an end that stands no further than behind a gap
pub counted_past : (rest end : Text) (old new : Place) → new.counted ≡ min (old.counted + passed old.rest end) most_turns → end ≡ past_words rest
    → Counts (passed old.rest (skip rest)) old new
unfolding past_words
counted_past rest end old new e h = omega (arith, e, ap bytes_in h, go (is_at 47 (skip rest)))
  where
    go : (b : Bool) → bytes_in (cond b [] (skip rest)) ≤ bytes_in (skip rest)
    go true = end_size [] (skip rest) (end_nothing (skip rest))
    go false = omega arith

-- the end of a look, behind the gap or at the end of an open comment
pub past_gap_look : (s behind end : Text) → behind ≡ skip s → end ≡ cond (is_at 47 behind) [] behind → end ≡ past_words s
unfolding past_words
past_gap_look s behind end e f = f ∙ ap (λ b. cond (is_at 47 b) [] b) e

pub looked_past : {A : Type 0} (g : Got A) (old new : Place) (end : Text) → new.counted ≡ min (old.counted + passed old.rest end) most_turns → LooksPast g end
    → CountsPast g old new
looked_past (got a rest) old new end e h = counted_past rest end old new e h
looked_past (failed f) old new end e h = tt

-- ---- looks

pub look_nothing : (place : Place) → Looks 1 place place
look_nothing place = omega (arith, beyond_no_more place.rest)

pub look_here : (s : Text) → IsLook s s
look_here s = record { is_end = end_whole s; within = beyond_no_more s }

-- behind words and a gap
pub look_behind : {s rest end : Text} → IsBehindWords s rest → IsGapLook rest end → IsLook s end
look_behind h k = record { is_end = end_of_end _ _ _ k.is_end h.is_end; within = omega (arith, h.within, k.within) }

-- behind words alone
pub look_words : {s rest : Text} → IsBehindWords s rest → IsLook s rest
look_words {s} {rest} h = record { is_end = h.is_end; within = omega (arith, h.within, words_no_more rest) }

-- up to what stands behind the gap
pub gap_look : (s behind end : Text) → behind ≡ skip s → end ≡ cond (is_at 47 behind) [] behind → IsGapLook s end
gap_look s behind end e f = record {
  is_end = go (is_at 47 behind) f;
  within = omega (arith, ap bytes_in (past_gap_look s behind end e f));
}
  where
    go : (b : Bool) → end ≡ cond b [] behind → IsSuffix end s
    go true g = rw g (end_nothing s)
    go false g = rw g (gap_end s behind e)

-- a plain name and what follows it
pub behind_word : (s name rest : Text) → opens_raw_name s ≡ false → run starts_name continues_name s ≡ got name rest → IsSuffix rest s → IsBehindWords s rest
behind_word s name rest plain e h = record { is_end = h; within = word_look s name rest plain e }

-- a raw one
pub behind_raw : (s name rest : Text) → raw_name_behind_mark s ≡ got name rest → IsSuffix rest s → IsBehindWords s rest
behind_raw [] name rest e h = cc
behind_raw (c ∷ []) name rest e h = go (c == 114) e
  where
    go : (b : Bool) → cond b (failed bad) (failed bad) ≡ got name rest → IsBehindWords (c ∷ []) rest
    go true k = cc
    go false k = cc
behind_raw (c ∷ d ∷ []) name rest e h = go (c == 114) (d == 35) e
  where
    go : (a b : Bool) → cond a (cond b (failed bad) (failed bad)) (failed bad) ≡ got name rest → IsBehindWords (c ∷ d ∷ []) rest
    go true true k = cc
    go true false k = cc
    go false b k = cc
behind_raw (c ∷ d ∷ f ∷ s) name rest e h = go (c == 114) refl (d == 35) refl (in_raw_name f) refl e
  where
    whole : Text
    whole = c ∷ d ∷ f ∷ s

    go : (x : Bool) → (c == 114) ≡ x → (y : Bool) → (d == 35) ≡ y → (z : Bool) → in_raw_name f ≡ z
        → cond x (cond y (cond z (got (f ∷ run_of in_raw_name s) (after_run in_raw_name s)) (failed bad)) (failed bad)) (failed bad) ≡ got name rest
        → IsBehindWords whole rest
    go true p true q true r k =
        let opens : opens_raw_name whole ≡ true = rw (p, q, r) refl in
        let is : after_run in_raw_name s ≡ rest = cc in
        let end : after_run in_raw_name (f ∷ s) ≡ rest = rw r is in
        record { is_end = h; within = omega (arith, raw_look whole opens, ap (λ t. bytes_in (past_words t)) end) }
    go true p true q false r k = cc
    go true p false q z r k = cc
    go false p y q z r k = cc

-- `Some`
pub behind_some : (s rest : Text) → s ≡ codes "Some" ++ rest → IsBehindWords s rest
behind_some s rest e = record { is_end = record { front = codes "Some"; is = e }; within = some_look s rest e }

-- ---- hashes

run_hash_end : (s : Text) → IsSuffix (after_run is_hash s) s
run_hash_end s = run_end is_hash s (after_run is_hash s) refl

hashes_end : (s : Text) → IsSuffix (behind_hashes s) s
hashes_end [] = end_whole []
hashes_end (c ∷ s) = elim (c == 114)
    as (λ b. IsSuffix (cond b (after_run is_hash s) (c ∷ s)) (c ∷ s)) [ true ↦ end_past_char c (c ∷ s) s _ refl (run_hash_end s) | false ↦ end_whole (c ∷ s) ]

pub hashes_look : (s end : Text) → end ≡ behind_hashes s → IsLook s end
hashes_look s end e = rw e (record { is_end = hashes_end s; within = within s })
  where
    within : (s : Text) → bytes_in (beyond s) ≤ bytes_in (behind_hashes s)
    within [] = beyond_no_more []
    within (c ∷ s) = go (c == 114) refl
      where
        go : (b : Bool) → (c == 114) ≡ b → bytes_in (beyond (c ∷ s)) ≤ bytes_in (cond b (after_run is_hash s) (c ∷ s))
        go true k = rw (eqb-true c 114 k) (hash_look s)
        go false k = beyond_no_more (c ∷ s)

-- and behind a `b`
pub byte_hashes_look : (s marked end : Text) → s ≡ 98 ∷ marked → end ≡ behind_hashes marked → IsLook s end
byte_hashes_look s marked end e f = rw (e, f) (record { is_end = end_past_char 98 (98 ∷ marked) marked _ refl (hashes_end marked); within = within marked })
  where
    within : (m : Text) → bytes_in (beyond (98 ∷ m)) ≤ bytes_in (behind_hashes m)
    within [] = byte_look [] refl
    within (c ∷ m) = go (c == 114) refl
      where
        go : (b : Bool) → (c == 114) ≡ b → bytes_in (beyond (98 ∷ c ∷ m)) ≤ bytes_in (cond b (after_run is_hash m) (c ∷ m))
        go true k = rw (eqb-true c 114 k) (byte_hash_look m)
        go false k = byte_look (c ∷ m) refl
