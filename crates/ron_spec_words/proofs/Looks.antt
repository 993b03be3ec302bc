-- What looks for a name, for `Some` and for a raw string leave: no less than what stands beyond the words there.
use Rattle.std.proofs.Common.{◌≡◌, ℕ, ◌==◌, ◌≤◌, ◌||◌, ◌&&◌, arith, Bool, true, false, cond, drop, [], ◌∷◌, ◌++◌, codes, eqb-true, refl, sym, ap, ◌∙◌}
use Rattle.std.proofs.lemmas.Bool.{and_parts}
use Rattle.std.proofs.Math.Bool.{or-true}
use Rattle.unicode_ident.proofs.Computing.{unicode_ident}
use Rattle.ron_spec_words.specs.Characters.{Text, starts_name, continues_name, in_raw_name}
use Rattle.ron_spec_words.specs.Runs.{run_of, after_run}
use Rattle.ron_spec_words.specs.Reader.{got, failed, bad, run}
use Rattle.ron_spec_words.specs.Scan.{is_hash, opens_raw_name}
use Rattle.ron_spec_words.specs.Beyond.{bytes_in, in_look, past_words, past_look, beyond}
use Rattle.ron_spec_words.proofs.Sizes.{run_step, run_behind, run_words, run_no_more, beyond_plain, beyond_raw, size_run}

starts_in_look : (c : ℕ) → starts_name c ≡ true → in_look c ≡ true
starts_in_look c e = rw e refl

continues_in_look : (c : ℕ) → continues_name c ≡ true → in_look c ≡ true
continues_in_look c e = rw (e, or-true (starts_name c)) refl

hash_in_look : (c : ℕ) → is_hash c ≡ true → in_look c ≡ true
hash_in_look c e = rw e (or-true (starts_name c || continues_name c))

-- a plain name
pub word_look : (s name rest : Text) → opens_raw_name s ≡ false → run starts_name continues_name s ≡ got name rest
    → bytes_in (beyond s) ≤ bytes_in (past_words rest)
word_look [] name rest plain e = cc
word_look (c ∷ s) name rest plain e = go (starts_name c) refl e
  where
    go : (b : Bool) → starts_name c ≡ b → cond b (got (c ∷ run_of continues_name s) (after_run continues_name s)) (failed bad) ≡ got name rest
        → bytes_in (beyond (c ∷ s)) ≤ bytes_in (past_words rest)
    go true h k =
        let is : after_run continues_name s ≡ rest = cc in
        omega (
          arith,
          ap bytes_in (beyond_plain (c ∷ s) plain ∙ run_step c s (starts_in_look c h) ∙ sym (run_behind continues_name continues_in_look s) ∙ ap past_look is),
          run_words rest,
        )
    go false h k = cc

-- a raw one
pub raw_look : (s : Text) → opens_raw_name s ≡ true → bytes_in (beyond s) ≤ bytes_in (past_words (after_run in_raw_name (drop 2 s)))
raw_look s e = omega (arith, ap bytes_in (beyond_raw s e), run_words (after_run in_raw_name (drop 2 s)))

pub letters : (in_look 114 ≡ true) × (in_look 98 ≡ true) × (in_look 83 ≡ true) × (in_look 111 ≡ true) × (in_look 109 ≡ true) × (in_look 101 ≡ true)
    × (in_raw_name 35 ≡ false)
unfolding unicode_ident
letters = (refl, refl, refl, refl, refl, refl, refl)

hashes : (t : Text) → bytes_in (past_look t) ≤ bytes_in (after_run is_hash t)
hashes t = omega (arith, ap bytes_in (run_behind is_hash hash_in_look t), run_no_more (after_run is_hash t))

-- hashes behind `r`
pub hash_look : (t : Text) → bytes_in (beyond (114 ∷ t)) ≤ bytes_in (after_run is_hash t)
hash_look t = go (opens_raw_name (114 ∷ t)) refl
  where
    name_stays : (c : ℕ) (m : Text) → in_raw_name c ≡ true → bytes_in (past_look (after_run in_raw_name (c ∷ m))) ≤ bytes_in (after_run is_hash (c ∷ m))
    name_stays c m h = by (c == 35) refl
      where
        by : (b : Bool) → (c == 35) ≡ b → bytes_in (past_look (after_run in_raw_name (c ∷ m))) ≤ bytes_in (cond b (after_run is_hash m) (c ∷ m))
        by true k = absurd (let z : true ≡ false = sym h ∙ ap in_raw_name (eqb-true c 35 k) ∙ letters.6 in cc)
        by false k = omega (arith, run_no_more (after_run in_raw_name (c ∷ m)), size_run in_raw_name (c ∷ m))

    raw : (t : Text) → opens_raw_name (114 ∷ t) ≡ true → bytes_in (past_look (after_run in_raw_name (drop 1 t))) ≤ bytes_in (after_run is_hash t)
    raw [] e = absurd (let z : true ≡ false = sym (and_parts false false e).0 in cc)
    raw (d ∷ []) e = absurd (let z : true ≡ false = sym (and_parts ((d == 35) && true) false e).1 in cc)
    raw (d ∷ c ∷ m) e =
        let k = and_parts ((d == 35) && true) (in_raw_name c) e in
        let h = (and_parts (d == 35) true k.0).0 in
        rw h (name_stays c m k.1)

    go : (b : Bool) → opens_raw_name (114 ∷ t) ≡ b → bytes_in (beyond (114 ∷ t)) ≤ bytes_in (after_run is_hash t)
    go true e = omega (arith, ap bytes_in (beyond_raw (114 ∷ t) e), raw t e)
    go false e = omega (arith, ap bytes_in (beyond_plain (114 ∷ t) e ∙ run_step 114 t letters.0), hashes t)

-- and behind `br`
pub byte_hash_look : (t : Text) → bytes_in (beyond (98 ∷ 114 ∷ t)) ≤ bytes_in (after_run is_hash t)
byte_hash_look t = omega (arith, ap bytes_in (beyond_plain (98 ∷ 114 ∷ t) refl ∙ run_step 98 (114 ∷ t) letters.1 ∙ run_step 114 t letters.0), hashes t)

-- a `b` alone
pub byte_look : (t : Text) → opens_raw_name (98 ∷ t) ≡ false → bytes_in (beyond (98 ∷ t)) ≤ bytes_in t
byte_look t plain = omega (arith, ap bytes_in (beyond_plain (98 ∷ t) plain ∙ run_step 98 t letters.1), run_no_more t)

-- `Some`
pub some_look : (s rest : Text) → s ≡ codes "Some" ++ rest → bytes_in (beyond s) ≤ bytes_in (past_words rest)
some_look s rest e =
    let k : beyond s ≡ past_look rest =
    ap beyond e ∙ beyond_plain (83 ∷ 111 ∷ 109 ∷ 101 ∷ rest) refl ∙ run_step 83 (111 ∷ 109 ∷ 101 ∷ rest) letters.2 ∙ run_step 111 (109 ∷ 101 ∷ rest) letters.3
    ∙ run_step 109 (101 ∷ rest) letters.4 ∙ run_step 101 rest letters.5 in
    omega (arith, ap bytes_in k, run_words rest)
